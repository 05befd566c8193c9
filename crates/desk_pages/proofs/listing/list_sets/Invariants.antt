-- What was listed so far.
use Rattle.std.proofs.Common.{◌≡◌, ◌≤◌, ◌-◌, length, map}
use Rattle.std.specs.Prelude.{vec_len}
use Rattle.desk_law.specs.State.{DeskState}
use Rattle.desk_pages.specs.Listing.{most_looked}
use Rattle.desk_pages.proofs.ListingLaws.{IsSoFar}
use Rattle.desk_pages.proofs.listing.list_sets.Given as goal

abbrev pub invariant-loop-looked : goal.invariant-loop-looked
invariant-loop-looked g l = record {
  so_far : (s : DeskState) → g.D.ShownDesk.stands l.desk s → IsSoFar s.sets l.mask l.fn.from l.at (map (λ set. set.now) l.sets.items) l.looked;
  within : l.looked ≤ most_looked;
  len : vec_len l.sets ≡ length l.sets.items;
}

abbrev pub decreases-loop-looked : goal.decreases-loop-looked
decreases-loop-looked g l = most_looked - l.looked
