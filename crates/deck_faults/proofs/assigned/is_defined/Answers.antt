use Rattle.std.proofs.Common.{subst, sym}
use Rattle.std.specs.Prelude.{IsUtf8}
use Rattle.sms_deck.proofs.NameLemmas.{name_is_text}
use Rattle.deck_faults.proofs.assigned.is_defined.Goals as goal

pub returns-in-Err : goal.returns-in-Err
returns-in-Err c = absurd (c.in-Err.ensures.cases.0 (subst IsUtf8 (sym c.bytes.ensures.bytes) (name_is_text c.args.name.now c.bytes.ensures.form)))
