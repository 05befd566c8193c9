-- Where the tokens of a text stand (docs/manual/tool.md, "Explaining a script").
use Rattle.std.specs.Prelude.{◌≡◌, ◌==◌, ◌+◌, ℕ, List, [], ◌∷◌, map, take, if◌then◌else◌}
use Rattle.acs_lex.specs.Tokens.{IsCut}
use Rattle.acs_lex.specs.declared.token.Token.{Token}
use Rattle.acs_places.specs.declared.place.Place.{Place}
use Rattle.acs_places.specs.declared.spot.Spot.{Spot}

-- the place of a text's first byte
abbrev pub first_place : Place
first_place = record { line = 1; column = 1 }

-- the place behind a byte: behind a line feed the next line begins, and behind another byte the next column
abbrev pub behind_byte : Place → ℕ → Place
behind_byte place byte =
    if byte == 10 then record { line = place.line + 1; column = 1 }
    else record { line = place.line; column = place.column + 1 }

-- the place behind these bytes, one after another
abbrev pub behind_all : Place → List ℕ → Place
behind_all place [] = place
behind_all place (byte ∷ bytes) = behind_all (behind_byte place byte) bytes

-- the place in a text behind so many bytes of it
abbrev pub place_in : List ℕ → ℕ → Place
place_in text passed = behind_all first_place (take passed text)

-- a token of a text, at the place of its first byte
abbrev pub spot_of : List ℕ → Token → Spot
spot_of text token = record { place = place_in text token.from; token = token }

-- the tokens of a text, each at its place
abbrev pub AreSpots : List ℕ → List Spot → Type 0
AreSpots text spots = (tokens : List Token) × IsCut text tokens × (spots ≡ map (spot_of text) tokens)
