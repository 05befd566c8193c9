-- Which worker gets which item (docs/manual/workers.md, "Phases").
use Rattle.std.specs.Prelude.{ℕ, zero, suc, ◌+◌, ◌-◌, ◌%◌, ◌==◌, List, bytes_eq, map, Option, None, Some}
use Rattle.std.specs.Prelude.{if◌then◌else◌}
use Rattle.std.specs.List.{list_any}
use Rattle.std.specs.Map.{lookup}
use Rattle.sms_script.specs.declared.item.Item.{Item}

-- the number of a job, if it has one
abbrev pub number_in : List (List ℕ × ℕ) → List ℕ → Option ℕ
number_in numbers job = lookup (bytes_eq job) numbers

-- the worker, of so many, for a number: the first for none
abbrev pub worker_at : ℕ → Option ℕ → ℕ
worker_at workers None = 0
worker_at workers (Some number) = 1 + number % (workers - 1)

-- the worker of a job
abbrev pub worker_in : List (List ℕ × ℕ) → ℕ → List ℕ → ℕ
worker_in numbers workers job = worker_at workers (number_in numbers job)

-- how many of the first so many workers have an item
abbrev pub at_work : List ℕ → ℕ → ℕ
at_work plan zero = 0
at_work plan (suc k) = at_work plan k + (if list_any (λ worker. worker == k) plan then 1 else 0)

-- the number of a worker among those that have an item; 0 for one without
abbrev pub rank_in : List ℕ → ℕ → ℕ
rank_in plan worker = if list_any (λ other. other == worker) plan then at_work plan worker else 0

-- the worker of each item: that of its job
abbrev pub plan_of : List (List ℕ × ℕ) → ℕ → List Item → List ℕ
plan_of numbers workers items = map (λ item. worker_in numbers workers item.request.job) items
