-- One data set after the other.
use Rattle.std.proofs.Common.{◌∙◌, ap, refl, sym}
use Rattle.sms_manage.proofs.AskingLemmas.{asking-more, asking-none, asks-asking}
use Rattle.sms_manage.proofs.SoFarLemmas.{day-acts, day-begins, day-begun, day-over, day-passes, on-err}
use Rattle.sms_manage.proofs.day.act_all.Goals.{in-Some-op_for+in_ok-act_on, in_default-op_for}
use Rattle.sms_manage.proofs.day.act_all.Goals as goal

pub loop-init : goal.loop-init
loop-init g c = record {
  opening = refl;
  mark = refl;
  asking = asking-none c.args.core.now.journal;
  far = λ before reaches. rw c.new-acts.ensures.items (day-begins c.args.first c.args.core.now.opening c.args.day c.args.config.now before c.args.core.now.journal reaches c.requires);
}

pub returns-in_default-clause-managed : goal.returns-in_default-clause-managed
returns-in_default-clause-managed g c = λ before reaches active.
    rw c.from_vec.ensures (day-over _ _ _ _ _ before _ _ _ _ c.next_set.result c.loop.invariant.opening (c.loop.invariant.far before reaches) c.next_set.ensures active c.in_default.is)

pub loop-preserved : goal.loop-preserved
loop-preserved g c = elim c.match-op_for.branch [
  | in-Some-op_for+in_ok-act_on w ↦ record {
    opening = ap (λ core. core.opening) w.core-is ∙ w.act_on.ensures.opening ∙ c.loop.invariant.opening;
    mark = ap (λ core. core.mark) w.core-is ∙ w.act_on.ensures.mark ∙ c.loop.invariant.mark;
    asking = rw w.core-is (asking-more _ _ _ c.loop.invariant.asking (asks-asking _ _ _ _ _ _ _ _ (let did = w.in_ok-act_on.ensures in did.asked)));
    far = λ before reaches. rw (w.core-is, w.acts-is)
        (day-acts _ _ _ _ _ before _ _ _ _ c.next_set.result c.loop.invariant.opening (c.loop.invariant.far before reaches) c.next_set.ensures _ c.in-Some.is _ _ w.in-Some-op_for.op (sym c.op_for.ensures ∙ w.in-Some-op_for.is) (let did = w.in_ok-act_on.ensures in did.asked));
  }
  | in_default-op_for w ↦ record {
    opening = ap (λ core. core.opening) w.core-is ∙ c.loop.invariant.opening;
    mark = ap (λ core. core.mark) w.core-is ∙ c.loop.invariant.mark;
    asking = rw w.core-is c.loop.invariant.asking;
    far = λ before reaches. rw (w.core-is, w.acts-is)
        (day-passes _ _ _ _ _ before _ _ _ _ c.next_set.result c.loop.invariant.opening (c.loop.invariant.far before reaches) c.next_set.ensures _ c.in-Some.is (sym c.op_for.ensures ∙ w.in_default-op_for.is));
  }
]

pub returns-in_err-act_on-clause-begun : goal.returns-in_err-act_on-clause-begun
returns-in_err-act_on-clause-begun g c = on-err c.from_residual.result _ (λ before reaches active.
    rw c.in_err-act_on.ensures.unasked (day-begun _ _ _ _ before _ _ _ _ (c.loop.invariant.far before reaches)))

pub returns-clause-begun : goal.returns-clause-begun
returns-clause-begun g c = λ before reaches active. day-begun _ _ _ _ before _ _ _ _ (c.loop.invariant.far before reaches)
