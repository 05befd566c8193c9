use Rattle.std.specs.Prelude.{◌≡◌, vec_capacity}
use Rattle.desk_workers.specs.Phases.{HasSteps}
use Rattle.desk_workers.proofs.single.answer_items.Given as goal

-- the items so far are answered, the journal grew by their entries, and the room is as it was
abbrev pub invariant-loop-item : goal.invariant-loop-item
invariant-loop-item g l =
    HasSteps l.items l.item-index l.initial.answers.items l.answers.items l.initial.core.journal l.core.journal
    × ((vec_capacity l.answers ≡ vec_capacity l.initial.answers) × ((l.core.opening ≡ l.initial.core.opening) × (l.core.mark ≡ l.initial.core.mark)))
