use Rattle.std.specs.Prelude.{◌≡◌, vec_capacity}
use Rattle.sms_core.specs.Core.{WasTold}
use Rattle.desk_calls.specs.Run.{AnswersFront}
use Rattle.desk_calls.proofs.script_run.answer_items.Given as goal

-- the items so far are answered, the journal grew by their entries, the room is as it was, and what is told was told before
abbrev pub invariant-loop-item : goal.invariant-loop-item
invariant-loop-item g l =
    AnswersFront l.items l.item-index l.initial.answers.items l.answers.items l.initial.core.journal l.core.journal
    × ((vec_capacity l.answers ≡ vec_capacity l.initial.answers) × ((l.core.opening ≡ l.initial.core.opening) × ((l.core.mark ≡ l.initial.core.mark) × WasTold (g.P.Keeper.told l.initial.core.keeper) (g.P.Keeper.told l.core.keeper))))
