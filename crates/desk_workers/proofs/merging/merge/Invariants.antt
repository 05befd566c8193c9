use Rattle.std.specs.Prelude.{◌≡◌, vec_capacity}
use Rattle.desk_workers.specs.Inner.Merged.{MergesFront}
use Rattle.desk_workers.proofs.merging.merge.Given as goal

-- the answers up to here stand behind the others, and the room is as it was
abbrev pub invariant-loop-worker : goal.invariant-loop-worker
invariant-loop-worker g l = MergesFront l.plan l.worker-index l.initial.seats l.seats l.initial.answers.items l.answers.items × (vec_capacity l.answers ≡ vec_capacity l.initial.answers)
