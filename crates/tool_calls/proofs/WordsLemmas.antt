-- What the reading of the words says of a call.
use Rattle.std.proofs.Common.{◌≡◌, List, ℕ, Result, Ok, Err, Some, true, inl, inr}
use Rattle.desk_common.specs.Exact.{IsExact}
use Rattle.tool_calls.specs.ToolEnds.{ends_shown}
use Rattle.tool_calls.specs.declared.status.ToolStatus.{ToolStatus}
use Rattle.tool_calls.specs.declared.status.ToolStatus.TheVariants as ends
use Rattle.tool_words.specs.Asking.{AreRefused, AreShown, AskFor, Hinders}
use Rattle.tool_words.specs.declared.task.Task.{Task}
use Rattle.tool_words.specs.declared.words_err.WordsErr.{WordsErr}
use Rattle.tool_words.specs.declared.words_err.WordsErr.TheVariants as errs

-- the answer of the reading is this one
abbrev pub IsRead : List (List ℕ) → Result Task WordsErr → Type 0
IsRead words result = IsExact (AskFor words) (Hinders words) (Some errs.NoMemory) result

-- words that ask for a task are not refused, and no text is shown
pub task_not_refused : {words : List (List ℕ)} {task : Task} → IsRead words (Ok task) → AreRefused words → ⊥
task_not_refused read refused = elim (read.refused errs.Bad refused) [
  | inl other ↦ absurd (cc other)
  | inr never ↦ never
]

pub task_not_shown : {words : List (List ℕ)} {task : Task} → IsRead words (Ok task) → AreShown words → ⊥
task_not_shown read shown = elim (read.refused errs.Shown shown) [
  | inl other ↦ absurd (cc other)
  | inr never ↦ never
]

-- words are refused or shown, and never both
pub bad_not_shown : {words : List (List ℕ)} → IsRead words (Err errs.Bad) → AreShown words → ⊥
bad_not_shown read shown = elim (read.refused errs.Shown shown) [
  | inl other ↦ absurd (cc other)
  | inr memory ↦ absurd (cc memory)
]

pub shown_not_refused : {words : List (List ℕ)} → IsRead words (Err errs.Shown) → AreRefused words → ⊥
shown_not_refused read refused = elim (read.refused errs.Bad refused) [
  | inl other ↦ absurd (cc other)
  | inr memory ↦ absurd (cc memory)
]

pub never_bad : {status : ToolStatus} → ends_shown status ≡ true → status ≡ ends.BadWords → ⊥
never_bad {status} shows bad = cc (shows, bad)
