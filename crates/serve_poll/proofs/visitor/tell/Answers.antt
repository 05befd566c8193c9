-- What was told.
use Rattle.std.proofs.Common.{◌∙◌, ap, refl, arith}
use Rattle.ready_wires.specs.declared.marks.Marks.{Marks}
use Rattle.serve_poll.proofs.VisitorLaws.{telling_none, telling_more, told_all, told_waits, told_failed}
use Rattle.serve_poll.proofs.visitor.tell.Goals as goal

pub loop-done-init : goal.loop-done-init
loop-done-init g c = record { telling = telling_none _ _ c.requires.came c.requires.taken; watch = refl }

pub loop-done-preserved : goal.loop-done-preserved
loop-done-preserved g c = record {
  telling = telling_more _ _ c.args.text.now c.loop-done.done c.in-Ok-Some.count c.loop-done.invariant.telling c.in-Ok-Some.ensures.came (rw c.in-Ok-Some.field-0-is at c.in-Ok-Some.ensures.taken) (rw c.in-Ok-Some.field-0-is at c.in-Ok-Some.ensures.bound);
  watch = c.in-Ok-Some.ensures.watch ∙ c.loop-done.invariant.watch;
}

pub returns-in-Ok-None-clause-told : goal.returns-in-Ok-None-clause-told
returns-in-Ok-None-clause-told g c = told_waits _ _ c.args.text.now c.loop-done.done c.loop-done.invariant.telling c.in-Ok-None.ensures.came (rw c.in-Ok-None.field-0-is at c.in-Ok-None.ensures.taken) (ap (λ (m : Marks). m.write_waits) (rw c.in-Ok-None.field-0-is at c.in-Ok-None.ensures.marks))

pub returns-in-Err-clause-told : goal.returns-in-Err-clause-told
returns-in-Err-clause-told g c = told_failed _ _ c.args.text.now c.loop-done.done c.loop-done.invariant.telling c.in-Err.ensures.came c.in-Err.ensures.taken (ap (λ (m : Marks). m.failed) c.in-Err.ensures.marks)

pub returns-clause-told : goal.returns-clause-told
returns-clause-told g c = told_all _ c.args.text.now c.loop-done.done c.loop-done.invariant.telling (omega arith)

pub returns-in-Ok-None-clause-watch : goal.returns-in-Ok-None-clause-watch
returns-in-Ok-None-clause-watch g c = c.in-Ok-None.ensures.watch ∙ c.loop-done.invariant.watch

pub returns-in-Err-clause-watch : goal.returns-in-Err-clause-watch
returns-in-Err-clause-watch g c = c.in-Err.ensures.watch ∙ c.loop-done.invariant.watch
