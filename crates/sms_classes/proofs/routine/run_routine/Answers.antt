use Rattle.std.proofs.Common.{subst}
use Rattle.acs_tree.specs.Slates.{KeepsOtherKinds}
use Rattle.sms_construct.specs.Configuration.{routine_of}
use Rattle.sms_classes.proofs.RunLemmas.{kind_is, run_is}
use Rattle.sms_classes.proofs.SlateLemmas.{none_later}
use Rattle.sms_classes.proofs.routine.run_routine.Goals as goal

pub returns-in-Some-clause-runs : goal.returns-in-Some-clause-runs
returns-in-Some-clause-runs c =
    run_is (routine_of c.args.kind c.args.config.now.routines) c.args.kind c.in-Some.code.now c.args.input.now c.args.values.now c.args.slate.now c.in-Some.ensures (c.deck-deck.ensures.form.kinds c.args.kind)
    c.run.ensures.values c.run.ensures.ending c.run.ensures.lines

pub returns-in-Some-clause-later_kinds : goal.returns-in-Some-clause-later_kinds
returns-in-Some-clause-later_kinds c =
    none_later c.args.kind
    (subst (λ kind. KeepsOtherKinds kind c.args.slate.now c.run.new.slate)
    (kind_is (routine_of c.args.kind c.args.config.now.routines) c.args.kind c.in-Some.code.now c.in-Some.ensures (c.deck-deck.ensures.form.kinds c.args.kind)) c.run.ensures.other_kinds)
    c.requires
