use Rattle.std.proofs.Common.{rules, subst}
use Rattle.acs_translate.specs.Translation.{MayRefuse}
use Rattle.deck_meaning.specs.Outcomes.{Long}
use Rattle.deck_meaning.proofs.OutcomeLemmas.{comes_long, tells_refusal}
use Rattle.sms_deck.proofs.sources.read_source.Goals as goal

pub returns-then-text-gt-MAX_ROUTINE-clause-err : goal.returns-then-text-gt-MAX_ROUTINE-clause-err
returns-then-text-gt-MAX_ROUTINE-clause-err c = (Long, comes_long c.args.kind c.in-Some.ensures c.if-text-gt-MAX_ROUTINE.true, search rules)

pub returns-in-Err-clause-err : goal.returns-in-Err-clause-err
returns-in-Err-clause-err c = tells_refusal c.args.kind c.in-Err.err c.in-Some.ensures c.if-text-gt-MAX_ROUTINE.false (subst (λ t. MayRefuse t c.args.kind c.in-Err.err) c.as_bytes-2.ensures.value c.in-Err.ensures.err) c.told_as.ensures
