-- The allocations that are asked for (docs/manual/tool.md, "Explaining a script").
use Rattle.std.specs.Prelude.{ℕ, Bool, true, ◌==◌, ◌&&◌, List, Option, None, Some, bytes_eq}
use Rattle.sms_script.specs.declared.item.Item.{Item}

-- it is the job that is asked for, where one is
abbrev pub is_job : Option (List ℕ) → List ℕ → Bool
is_job None job = true
is_job (Some asked) job = bytes_eq job asked

-- it is the number that is asked for, where one is
abbrev pub is_number : Option ℕ → ℕ → Bool
is_number None number = true
is_number (Some asked) number = number == asked

-- the item is of the job and has the number that are asked for
abbrev pub is_picked : Option (List ℕ) → Option ℕ → Item → Bool
is_picked job number item = is_job job item.request.job && is_number number item.request.number
