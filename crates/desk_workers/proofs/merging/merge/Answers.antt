use Rattle.std.proofs.Common.{◌≡◌, length, arith, refl, subst, ◌∙◌, rules}
use Rattle.desk_workers.proofs.MergedLemmas.{merged-all, merged-none, merged-push, some-left}
use Rattle.desk_workers.specs.Inner.Merged.{MergesFront}
use Rattle.desk_workers.proofs.merging.merge.Goals as goal

pub loop-worker-init : goal.loop-worker-init
loop-worker-init g c = (merged-none c.args.plan.now c.args.seats.now c.args.answers.now.items, refl)

-- the seat whose answer is next has one
pub first_answer-answer-requires : goal.first_answer-answer-requires
first_answer-answer-requires g c = record {
  some = some-left c.args.plan.now c.loop-worker.worker-index c.args.seats.now c.loop-worker.seats c.args.answers.now.items c.loop-worker.answers.items _ c.loop-worker.invariant.0 c.requires.queues c.requires.below (omega (arith, c.loop-worker-test.true));
}

-- one more answer is in order
pub loop-worker-preserved : goal.loop-worker-preserved
loop-worker-preserved g c = (
  merged-push c.args.plan.now c.loop-worker.worker-index c.args.seats.now c.loop-worker.seats c.args.answers.now.items c.loop-worker.answers.items c.push_reserved.new.self.items c.first_answer-answer.new.seat c.index-seats-worker.result c.first_answer-answer.result
      c.loop-worker.invariant.0 c.requires.below (omega (arith, c.loop-worker-test.true)) c.first_answer-answer.ensures.answers c.first_answer-answer.ensures.same c.push_reserved.ensures.items,
  c.push_reserved.ensures.capacity ∙ c.loop-worker.invariant.1,
)

pub returns-clause-merged : goal.returns-clause-merged
returns-clause-merged g c =
    let all : c.loop-worker.worker-index ≡ length c.args.plan.now = search rules in
    merged-all c.args.plan.now c.args.seats.now c.loop-worker.seats c.args.answers.now.items c.loop-worker.answers.items
    (subst (λ i. MergesFront c.args.plan.now i c.args.seats.now c.loop-worker.seats c.args.answers.now.items c.loop-worker.answers.items) all c.loop-worker.invariant.0) c.requires.queues
