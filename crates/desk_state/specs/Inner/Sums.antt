-- Sums over extents.
use Rattle.std.specs.Prelude.{ℕ, List, sum_by}
use Rattle.sms_construct.specs.declared.extent.Extent.{Extent}

-- the tracks of the extents
abbrev pub tracks_in : List Extent → ℕ
tracks_in extents = sum_by (λ extent. extent.length) extents
