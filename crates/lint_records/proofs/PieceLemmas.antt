-- The parts of findings are their JSON.
use Rattle.std.proofs.Common.{◌≡◌, append_assoc, refl}
use Rattle.std.specs.Prelude.{Some}
use Rattle.acs_places.specs.declared.place.Place.{Place}
use Rattle.json.specs.Print.{escape_byte}
use Rattle.serde_json.specs.Written.{compact_text}
use Rattle.lint_records.specs.FindingRecords.{finding_value, since_value}
use Rattle.lint_records.specs.Inner.Pieces.{finding_piece, place_piece}
use Rattle.lint_records.specs.Told.{Told}

pub place_is : (place : Place) → place_piece place ≡ compact_text (since_value (Some place))
unfolding escape_byte
place_is place = refl

pub finding_is : (told : Told) → finding_piece told ≡ compact_text (finding_value told)
unfolding escape_byte
finding_is told = simp append_assoc refl
