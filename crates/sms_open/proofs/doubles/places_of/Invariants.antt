use Rattle.std.proofs.Common.{◌≡◌, ◌++◌, drop, map}
use Rattle.sms_open.proofs.doubles.places_of.Given as goal

-- the places so far, and those of the replies that are left
abbrev pub invariant-loop-row : goal.invariant-loop-row
invariant-loop-row l = l.places.items ++ map (λ row. row.place) (drop l.row-index l.replies) ≡ map (λ row. row.place) l.replies
