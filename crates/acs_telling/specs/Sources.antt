-- The text of a routine, and its tokens at their places.
use Rattle.std.specs.Prelude.{◌≡◌, ◌&&◌, ℕ, List, [], unwrap_or, nat_le, length, slice_range, if◌then◌else◌}
use Rattle.std.specs.List.{slice_get}
use Rattle.acs_lex.specs.declared.token.TokenForm.TheVariants.{Word}
use Rattle.acs_places.specs.Places.{AreSpots, first_place}
use Rattle.acs_places.specs.declared.spot.Spot.{Spot}
use Rattle.acs_telling.specs.declared.source.Source.{Source}

-- the source is this text with its tokens at their places
pub record IsSource (text : List ℕ) (source : Source) : Type 0 where
  pub text_is : source.text ≡ text
  pub spots_are : AreSpots text source.spots

-- an empty token at the front of a text
abbrev pub no_spot : Spot
no_spot = record { place = first_place; token = record { form = Word; from = 0; to = 0 } }

-- the token with this number, from 0, and an empty one where there is none
abbrev pub spot_at : Source → ℕ → Spot
spot_at source number = unwrap_or (slice_get source.spots number) no_spot

-- the bytes between two places of a text, and none where it ends before
abbrev pub part_of : List ℕ → ℕ → ℕ → List ℕ
part_of text from to = if nat_le from to && nat_le to (length text) then slice_range text from to else []

-- the bytes of the token with this number
abbrev pub word_at : Source → ℕ → List ℕ
word_at source number = part_of source.text (spot_at source number).token.from (spot_at source number).token.to
