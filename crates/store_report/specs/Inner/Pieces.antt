-- The parts of extents as they are written in JSON.
use Rattle.std.specs.Prelude.{ℕ, List, ◌++◌, codes, decimal, false}
use Rattle.json.specs.Print.{quoted}
use Rattle.serde_json.specs.Written.{items_text}
use Rattle.store_report.specs.ExtentsJson.{extent_values}
use Rattle.store_report.specs.declared.extent_row.ExtentRow.{ExtentRow}

-- the names of an extent
abbrev pub extent_front : ExtentRow → List ℕ
extent_front row = codes "{\"dsn\":" ++ (quoted row.dsn ++ (codes ",\"volser\":" ++ quoted row.extent.volser))

-- its figures
abbrev pub extent_rest : ExtentRow → List ℕ
extent_rest row =
    codes ",\"start\":" ++ (decimal row.extent.start ++ (codes ",\"tracks\":" ++ (decimal row.extent.length
    ++ codes "}")))

-- all extents
abbrev pub extents_piece : List ExtentRow → List ℕ
extents_piece rows = codes "{\"extents\":[" ++ (items_text false (extent_values rows) ++ codes "}")
