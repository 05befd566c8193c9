use Rattle.std.proofs.Common.{◌≡◌, ◌<◌, ◌^◌, ◌+◌, length}
use Rattle.desk_generator.specs.Generated.{items_up_to, number_at}
use Rattle.desk_generator.proofs.generating.generate.Given as goal

-- the items up to the place, and the number drawn for the last
abbrev pub invariant-loop-place : goal.invariant-loop-place
invariant-loop-place l = (l.items ≡ items_up_to l.seed l.place) × (l.number ≡ number_at l.seed l.place) × (l.number < 2 ^ 31) × (length l.items ≡ l.place + 1)
