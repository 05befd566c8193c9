use Rattle.std.proofs.Common.{◌≡◌, ◌+◌, ℕ, List, ◌++◌, true, None, Some, length}
use Rattle.std.specs.Prelude.{Option}
use Rattle.std.specs.Option.{option_copied}
use Rattle.sms_script.specs.Parts.{listed, pieces_behind}
use Rattle.sms_script.specs.Values.{are_fields}
use Rattle.sms_script.proofs.lists.read_account.Given as goal

-- the texts so far, and the pieces that are left
abbrev pub invariant-loop-rest : goal.invariant-loop-rest
invariant-loop-rest l = record {
  pieces : l.account ++ pieces_behind (option_copied l.rest) ≡ listed l.value;
  fields : are_fields l.account ≡ true;
}

-- how many bytes are left, and one more
abbrev left : Option (List ℕ) → ℕ
left None = 0
left (Some text) = length text + 1

abbrev pub decreases-loop-rest : goal.decreases-loop-rest
decreases-loop-rest l = left (option_copied l.rest)
