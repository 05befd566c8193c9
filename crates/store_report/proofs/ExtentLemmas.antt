-- The parts of extents are their JSON.
use Rattle.std.proofs.Common.{◌≡◌, ◌++◌, List, append_assoc, refl}
use Rattle.json.specs.Print.{escape_byte}
use Rattle.store_report.specs.ExtentsJson.{extent_body, extents_body}
use Rattle.store_report.specs.Inner.Pieces.{extent_front, extent_rest, extents_piece}
use Rattle.store_report.specs.declared.extent_row.ExtentRow.{ExtentRow}

pub extent_is : (row : ExtentRow) → extent_front row ++ extent_rest row ≡ extent_body row
unfolding escape_byte
extent_is row = simp append_assoc refl

pub extents_are : (rows : List ExtentRow) → extents_piece rows ≡ extents_body rows
unfolding escape_byte
extents_are rows = refl
