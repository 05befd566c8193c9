-- Which tracks data sets hold.
use Rattle.std.specs.Prelude.{ℕ, ◌-◌, ◌||◌, Bool, false, List, [], ◌∷◌, ◌++◌, min, nat_lt, bytes_eq, sum_by, Option}
use Rattle.std.specs.Prelude.{None, Some, if◌then◌else◌}
use Rattle.track_ledger.specs.Extents.{tracks_held}
use Rattle.desk_common.specs.Limits.{border}
use Rattle.sms_construct.specs.Quantities.{rounded_up, tracks_in_managed}
use Rattle.sms_construct.specs.declared.data_set.DataSet.{DataSet}
use Rattle.sms_construct.specs.declared.extent.Extent.{Extent}
use Rattle.track_ledger.specs.declared.piece.Piece.{Piece}
use Rattle.desk_law.specs.State.{DeskState, set_named}

-- an extent as a piece of its volume
abbrev pub piece_of : Extent → Piece
piece_of extent = record { start = extent.start; length = extent.length }

-- the extents of a data set, if there is one
abbrev pub extents_if : Option DataSet → List Extent
extents_if None = []
extents_if (Some set) = set.extents

-- the extents of the data set of this name, if there is one
abbrev pub extents_named : List ℕ → List DataSet → List Extent
extents_named dsn sets = extents_if (set_named dsn sets)

-- what the extents hold of a volume, in their order
abbrev pub pieces_on : List ℕ → List Extent → List Piece
pieces_on volser [] = []
pieces_on volser (extent ∷ extents) =
    if bytes_eq extent.volser volser then piece_of extent ∷ pieces_on volser extents else pieces_on volser extents

-- these pieces of a volume as extents
abbrev pub extents_at : List ℕ → List Piece → List Extent
extents_at volser [] = []
extents_at volser (piece ∷ pieces) =
    record { volser = volser; start = piece.start; length = piece.length } ∷ extents_at volser pieces

-- all extents of the data sets
abbrev pub extents_of : List DataSet → List Extent
extents_of [] = []
extents_of (set ∷ sets) = set.extents ++ extents_of sets

-- what all data sets hold of a volume
abbrev pub held_on : DeskState → List ℕ → List Piece
held_on s volser = pieces_on volser (extents_of s.sets)

-- the tracks of a volume that data sets hold
abbrev pub granted_on : DeskState → List ℕ → ℕ
granted_on s volser = tracks_held (held_on s volser)

-- the tracks of a data set
abbrev pub tracks_of_set : DataSet → ℕ
tracks_of_set set = sum_by (λ extent. extent.length) set.extents

-- some extent lies on the volume
abbrev pub is_used : List ℕ → List Extent → Bool
is_used volser [] = false
is_used volser (extent ∷ extents) = bytes_eq extent.volser volser || is_used volser extents

-- the volume serial is among these
abbrev pub is_among : List ℕ → List (List ℕ) → Bool
is_among volser [] = false
is_among volser (other ∷ others) = bytes_eq other volser || is_among volser others

-- the volumes of the extents, each where it comes first, without those seen before
abbrev pub volumes_after : List (List ℕ) → List Extent → List (List ℕ)
volumes_after seen [] = []
volumes_after seen (extent ∷ extents) =
    if is_among extent.volser seen then volumes_after seen extents
    else extent.volser ∷ volumes_after (extent.volser ∷ seen) extents

-- the volumes on which the extents lie, each once, in the order in which they came
abbrev pub volumes_of : List Extent → List (List ℕ)
volumes_of extents = volumes_after [] extents

-- in how many tracks a volume is cut from this track on: one by one before the border, in managed units from it on
abbrev pub multiple_at : ℕ → ℕ
multiple_at track = if nat_lt track border then 1 else tracks_in_managed

-- what is kept of an extent when so many tracks are to be kept: these in whole units of its part, and never more than
-- it has
abbrev pub length_kept : ℕ → Extent → ℕ
length_kept keep extent = min (rounded_up (multiple_at extent.start) keep) extent.length

-- the first so many tracks, in the order of the extents; the last extent that is kept is cut by its part of the volume
abbrev pub front_tracks : ℕ → List Extent → List Extent
front_tracks keep [] = []
front_tracks keep (extent ∷ extents) =
    if nat_lt 0 keep
    then record extent { length = length_kept keep extent } ∷ front_tracks (keep - extent.length) extents
    else []

-- the data set with these extents, of which so many tracks are used
abbrev pub with_extents : DataSet → ℕ → List Extent → DataSet
with_extents set used extents = record set { used = used; extents = extents }
