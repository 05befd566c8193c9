-- Event by event.
use Rattle.std.proofs.Common.{◌∙◌, ap, refl, sym, arith, add-one}
use Rattle.sms_base.specs.Counts.{one_call_more}
use Rattle.serve_poll.proofs.HallLaws.{none_some}
use Rattle.serve_poll.specs.declared.serving.LoopEnd.TheVariants as loops
use Rattle.smsd_serving.proofs.KeepingLaws.{asked_last, ends_loop, goes_on_join, goes_on_self, serving_first}
use Rattle.smsd_serving.proofs.keeping.serve_epochs.Goals as goal

pub loop-made-init : goal.loop-made-init
loop-made-init g c = record {
  goes_on = goes_on_self _ _ _ _ c.args.clerk _ _ _;
  room = c.requires.roomy;
  watched = λ key v at. absurd (none_some v (rw c.requires.empty at at));
  calls = refl;
  within = omega arith;
  most = refl;
  faults = omega arith;
}

pub loop-made-preserved : goal.loop-made-preserved
loop-made-preserved g c = record {
  goes_on = goes_on_join _ _ _ _ c.args.clerk c.loop-made.clerk c.in-Ok.next _ _ _ _ _ _ _ _ _ c.loop-made.invariant.goes_on c.in-Ok.ensures.goes_on;
  room = c.in-Ok.ensures.roomy;
  watched = c.serve_next.ensures.watched c.loop-made.invariant.watched;
  calls = rw add-one (c.in-Ok.ensures.calls ∙ ap one_call_more c.loop-made.invariant.calls);
  within = omega arith;
  most = c.serve_next.ensures.most ∙ c.loop-made.invariant.most;
  faults = omega arith;
}

pub returns-in-Err-clause-served : goal.returns-in-Err-clause-served
returns-in-Err-clause-served g c = λ keeper opened.
    c.in-Err.ensures.ends keeper _ _ (c.loop-made.invariant.goes_on keeper _ _ (serving_first _ _ _ _ keeper c.args.clerk _ _ c.args.hall opened c.requires.none c.requires.empty c.requires.first c.requires.fits))

pub returns-in-Err-clause-watched : goal.returns-in-Err-clause-watched
returns-in-Err-clause-watched g c = c.serve_next.ensures.watched c.loop-made.invariant.watched

pub returns-in-Err-clause-asked : goal.returns-in-Err-clause-asked
returns-in-Err-clause-asked g c =
    let before = c.loop-made.invariant in
    asked_last _ c.loop-made.made _ _ _ _ c.in-Err.end (omega arith) before.calls before.faults c.in-Err.ensures.over c.in-Err.ensures.asked

pub returns-clause-served : goal.returns-clause-served
returns-clause-served g c = λ keeper opened.
    let took = c.take_keeper-keeper.ensures in
    ends_loop _ _ _ _ g.P.Stored.damage c.args.clerk c.loop-made.clerk _ _ _ _ _ _ _ loops.Turns c.loop-made.invariant.goes_on took.left took.keeper (λ turns filled. absurd (cc (sym c.loop-made.invariant.room ∙ filled))) keeper _ _
    (serving_first _ _ _ _ keeper c.args.clerk _ _ c.args.hall opened c.requires.none c.requires.empty c.requires.first c.requires.fits)

pub returns-clause-asked : goal.returns-clause-asked
returns-clause-asked g c =
    let all = c.loop-made.invariant in
    record { made = c.loop-made.made; within = all.within; calls = all.calls; why = omega (arith, all.within) }
