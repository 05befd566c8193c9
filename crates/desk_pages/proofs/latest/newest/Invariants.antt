-- What was found so far.
use Rattle.std.proofs.Common.{◌≡◌, length}
use Rattle.std.specs.Prelude.{vec_len}
use Rattle.desk_pages.proofs.NewestLaws.{AreNewest}
use Rattle.desk_pages.proofs.latest.newest.Given as goal

abbrev pub invariant-loop-left : goal.invariant-loop-left
invariant-loop-left l = record {
  newest : AreNewest (λ entry. entry.now) l.fn.journal l.left l.found.items;
  len : vec_len l.found ≡ length l.found.items;
}

abbrev pub decreases-loop-left : goal.decreases-loop-left
decreases-loop-left l = l.left
