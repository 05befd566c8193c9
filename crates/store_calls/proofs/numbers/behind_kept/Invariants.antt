-- Where none of the rows that are left has a number from the first on, none of all has.
use Rattle.std.proofs.Common.{◌≡◌, ◌≤◌, ℕ, length, None}
use Rattle.std.specs.Prelude.{find}
use Rattle.sms_keeper.specs.Tables.{is_reply_of}
use Rattle.store_calls.proofs.numbers.behind_kept.Given as goal

abbrev pub invariant-loop-rest : goal.invariant-loop-rest
invariant-loop-rest l = record {
  least : l.least ≤ l.first;
  unkept : (n : ℕ) → l.first ≤ n → find (is_reply_of l.job n) l.rest ≡ None → find (is_reply_of l.job n) l.fn.replies ≡ None;
}

abbrev pub decreases-loop-rest : goal.decreases-loop-rest
decreases-loop-rest l = length l.rest
