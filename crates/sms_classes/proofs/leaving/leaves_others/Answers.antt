use Rattle.sms_construct.specs.Configuration.{routine_of}
use Rattle.sms_classes.proofs.LeaveLemmas.{leaves_is}
use Rattle.sms_classes.proofs.leaving.leaves_others.Goals as goal

pub returns : goal.returns
returns c = leaves_is (routine_of c.args.kind c.args.config.now.routines) c.args.kind c.code-code.result c.code-code.ensures (c.deck-deck.ensures.form.kinds c.args.kind)
