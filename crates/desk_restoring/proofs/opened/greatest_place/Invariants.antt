use Rattle.std.proofs.Common.{◌≡◌, drop, max}
use Rattle.desk_restoring.specs.Opened.{greatest_place}
use Rattle.desk_restoring.proofs.opened.greatest_place.Given as goal

-- the greatest so far, or a greater one among the rows that are left
abbrev pub invariant-loop-row : goal.invariant-loop-row
invariant-loop-row l = max l.greatest (greatest_place (drop l.row-index l.replies)) ≡ greatest_place l.replies
