-- Which worker answers which item of a phase.
use Rattle.std.specs.Prelude.{ℕ, ◌≡◌, ◌<◌, ◌≤◌, List, map}
use Rattle.desk_common.specs.Limits.{most_workers}
use Rattle.sms_script.specs.declared.item.Item.{Item}

-- the workers of the items go by their jobs
abbrev pub by_jobs : (List ℕ → ℕ) → List Item → List ℕ
by_jobs worker items = map (λ item. worker item.request.job) items

-- the plan goes by the jobs of the items, and names some of so many workers
pub record IsPlanned (items : List Item) (plan : List ℕ) (workers : ℕ) : Type 0 where
  pub worker : List ℕ → ℕ
  pub plan_is : plan ≡ by_jobs worker items
  pub below : (job : List ℕ) → worker job < workers
  pub few : workers ≤ most_workers
