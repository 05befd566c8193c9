-- What the words of the desk's command line ask for (docs/manual/script.md, "The program").
use Rattle.std.specs.Prelude.{ℕ, Bool, ◌&&◌, true, false, List, [], ◌∷◌, nat_le, Option, None, Some, bytes_eq, codes}
use Rattle.std.specs.Prelude.{if◌then◌else◌}
use Rattle.desk_common.specs.Limits.{most_items, most_workers}
use Rattle.sms_script.specs.Found.{◌⊳◌}
use Rattle.sms_construct.specs.Numbers.{small_number_of}
use Rattle.desk_words.specs.declared.task.Task.{Task}
use Rattle.desk_words.specs.declared.task.Task.TheVariants as tasks

-- a run by 1 to 16 workers
abbrev pub run_of : Bool → ℕ → Option Task
run_of volumes workers =
    if nat_le 1 workers && nat_le workers most_workers then Some (tasks.Run volumes workers) else None

-- a run by so many workers as the number says
abbrev pub run_in : Bool → List ℕ → Option Task
run_in volumes workers = small_number_of workers ⊳ λ n. run_of volumes n

-- a load of 1 to 40,000 items
abbrev pub load_of : ℕ → ℕ → Option Task
load_of seed count = if nat_le 1 count && nat_le count most_items then Some (tasks.Generate seed count) else None

-- what `gen` and two numbers ask for
abbrev pub load_in : List ℕ → List ℕ → Option Task
load_in seed count =
    small_number_of seed ⊳ λ from.
    small_number_of count ⊳ λ items.
    load_of from items

-- `run`, by one worker, or by so many as stand behind `--workers`, with `--volumes` behind it or not; or `gen`, a seed
-- and a number of items; no other words ask for anything
abbrev pub task_in : List (List ℕ) → Option Task
task_in [] = None
task_in (word ∷ []) = if bytes_eq word (codes "run") then Some (tasks.Run false 1) else None
task_in (word ∷ second ∷ []) =
    if bytes_eq word (codes "run") && bytes_eq second (codes "--volumes") then Some (tasks.Run true 1) else None
task_in (word ∷ second ∷ third ∷ []) =
    if bytes_eq word (codes "gen") then load_in second third
    else (if bytes_eq word (codes "run") && bytes_eq second (codes "--workers") then run_in false third else None)
task_in (word ∷ second ∷ third ∷ fourth ∷ []) =
    if bytes_eq word (codes "run") && (bytes_eq second (codes "--workers") && bytes_eq fourth (codes "--volumes"))
    then run_in true third else None
task_in (word ∷ second ∷ third ∷ fourth ∷ fifth ∷ words) = None
