-- The parts of findings as they are written in JSON.
use Rattle.std.specs.Prelude.{ℕ, List, Option, ◌++◌, codes, decimal}
use Rattle.acs_places.specs.declared.place.Place.{Place}
use Rattle.json.specs.Print.{quoted}
use Rattle.serde_json.specs.Written.{compact_text}
use Rattle.lint_records.specs.FindingRecords.{column_of, count_if, line_of, since_value}
use Rattle.lint_records.specs.Told.{Told}

-- a place
abbrev pub place_piece : Place → List ℕ
place_piece place =
    codes "{\"line\":" ++ (decimal place.line ++ (codes ",\"column\":" ++ (decimal place.column ++ codes "}")))

-- where something is found, and at what
abbrev pub at_piece : List ℕ → List ℕ → Option Place → List ℕ
at_piece at name place =
    codes "{\"in\":" ++ (quoted at
    ++ (codes ",\"name\":" ++ (quoted name
    ++ (codes ",\"line\":" ++ (compact_text (count_if (line_of place))
    ++ (codes ",\"column\":" ++ compact_text (count_if (column_of place))))))))

-- what is found, and the place that makes it so
abbrev pub what_piece : List ℕ → Option Place → List ℕ
what_piece what since =
    codes ",\"finding\":" ++ (quoted what
    ++ (codes ",\"since\":" ++ (compact_text (since_value since) ++ codes "}")))

-- a finding
abbrev pub finding_piece : Told → List ℕ
finding_piece told = at_piece told.at told.name told.place ++ what_piece told.what told.since
