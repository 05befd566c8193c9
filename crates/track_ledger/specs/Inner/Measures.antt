-- The gaps of a part of a volume by the unit in which they are granted, and which of them are the longest.
use Rattle.std.specs.Prelude.{ℕ, ◌≡◌, ◌^◌, max, Bool, List, [], ◌∷◌, map, if◌then◌else◌}
use Rattle.desk_common.specs.Limits.{border, tracks_in_cylinder}
use Rattle.sms_construct.specs.Quantities.{tracks_in_managed}
use Rattle.track_ledger.specs.declared.measure.Longest.{Longest}
use Rattle.track_ledger.specs.declared.measure.Measure.{Measure}
use Rattle.track_ledger.specs.declared.measure.Measure.TheVariants.{Tracks, Cylinders, Managed}
use Rattle.track_ledger.specs.declared.piece.Piece.{Piece}
use Rattle.track_ledger.specs.Gaps.{clip, unit_gaps, whole_units}

-- the tracks of a unit
abbrev pub unit_by : Measure → ℕ
unit_by Tracks = 1
unit_by Cylinders = tracks_in_cylinder
unit_by Managed = tracks_in_managed

-- the first track of the part
abbrev pub from_by : Measure → ℕ
from_by Tracks = 0
from_by Cylinders = 0
from_by Managed = border

-- the first track behind the part
abbrev pub end_by : Measure → ℕ
end_by Tracks = border
end_by Cylinders = border
end_by Managed = 2 ^ 32

-- what lies of a gap in the part, in whole units
abbrev pub units_by : Measure → Piece → Piece
units_by measure gap = whole_units (unit_by measure) (clip (from_by measure) (end_by measure) gap)

-- what lies of the gaps in the part, in whole units, without what is empty
abbrev pub cuts_by : Measure → List Piece → List Piece
cuts_by measure gaps = unit_gaps (unit_by measure) (map (clip (from_by measure) (end_by measure)) gaps)

-- how long the longest of them is, or 0
abbrev pub longest_by : Measure → List Piece → ℕ
longest_by measure [] = 0
longest_by measure (gap ∷ gaps) = max (units_by measure gap).length (longest_by measure gaps)

-- one of three lengths
abbrev pub length_at : Longest → Measure → ℕ
length_at longest Tracks = longest.tracks
length_at longest Cylinders = longest.cylinders
length_at longest Managed = longest.managed

-- so long is the longest of the gaps, by each measure
abbrev pub AreLongest : List Piece → Longest → Type 0
AreLongest gaps longest = (measure : Measure) → length_at longest measure ≡ longest_by measure gaps

-- how long the longest of the gaps is that pass a test, or 0
abbrev pub longest_among : (Piece → Bool) → List Piece → ℕ
longest_among test [] = 0
longest_among test (gap ∷ gaps) = max (if test gap then gap.length else 0) (longest_among test gaps)
