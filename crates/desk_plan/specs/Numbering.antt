-- How the jobs of a script are numbered (docs/manual/workers.md, "Phases").
use Rattle.std.specs.Prelude.{ℕ, ◌≡◌, List, [], ◌∷◌, ◌++◌, ◌||◌, bytes_eq, fold, length, position, if◌then◌else◌}
use Rattle.std.specs.List.{AllByRecursion, list_any}
use Rattle.sms_script.specs.Commands.{is_admin}
use Rattle.sms_script.specs.declared.item.Item.{Item}
use Rattle.desk_plan.specs.Plan.{number_in}

-- jobs with one more behind them, unless it is the administrator's or one of them
abbrev pub with_job : List (List ℕ) → List ℕ → List (List ℕ)
with_job jobs job = if is_admin job || list_any (bytes_eq job) jobs then jobs else jobs ++ job ∷ []

-- jobs with those of further items behind them
abbrev pub with_jobs : List (List ℕ) → List Item → List (List ℕ)
with_jobs jobs items = fold (λ before item. with_job before item.request.job) jobs items

-- the jobs that get numbers: those of the items but the administrator's, each once, in the order in which they first
-- appear
abbrev pub numbered_jobs : List Item → List (List ℕ)
numbered_jobs items = with_jobs [] items

-- the number of each of these jobs is how many stand before it, and no other job has a number
abbrev pub AreNumbersOf : List (List ℕ) → List (List ℕ × ℕ) → Type 0
AreNumbersOf jobs numbers =
    ((job : List ℕ) → number_in numbers job ≡ position (bytes_eq job) jobs) × (length numbers ≡ length jobs)

-- whichever jobs had numbers before, now those have them that the change makes of these
abbrev pub Renumbers : (List (List ℕ) → List (List ℕ)) → List (List ℕ × ℕ) → List (List ℕ × ℕ) → Type 0
Renumbers change before after = (jobs : List (List ℕ)) → AreNumbersOf jobs before → AreNumbersOf (change jobs) after

-- there is a job that all these items are of
abbrev pub AreOfOneJob : List Item → Type 0
AreOfOneJob items = (job : List ℕ) × AllByRecursion (λ item. item.request.job ≡ job) items
