use Rattle.std.specs.Prelude.{◌≡◌, take, vec_capacity}
use Rattle.sms_script.specs.Script.{items_of}
use Rattle.sms_core.specs.Core.{WasTold}
use Rattle.desk_calls.specs.Run.{AnswersInOrder}
use Rattle.desk_calls.proofs.script_run.answer_phases.Given as goal

-- the phases so far are answered, the room is as it was, and what is told was told before
abbrev pub invariant-loop-phase : goal.invariant-loop-phase
invariant-loop-phase g l =
    AnswersInOrder (items_of (take l.phase-index l.phases)) l.answers.items l.initial.core.journal l.core.journal
    × ((vec_capacity l.answers ≡ vec_capacity l.initial.answers) × ((l.core.opening ≡ l.initial.core.opening) × ((l.core.mark ≡ l.initial.core.mark) × WasTold (g.P.Keeper.told l.initial.core.keeper) (g.P.Keeper.told l.core.keeper))))
