-- Findings as records (docs/manual/tool.md, "Linting a deck").
use Rattle.std.specs.Prelude.{ℕ, List, [], ◌∷◌, ◌++◌, Option, None, Some, codes, decimal, flat_map}
use Rattle.acs_places.specs.declared.place.Place.{Place}
use Rattle.csv.specs.Writing.{default_writer, row_text}
use Rattle.serde_json.specs.Data.{Data, null, number, unsigned, string, object, member, no_members}
use Rattle.serde_json.specs.Written.{compact_text}
use Rattle.sms_explain.specs.declared.deck_sources.DeckSources.{DeckSources}
use Rattle.sms_lint.specs.declared.deck_finding.DeckFinding.{DeckFinding}
use Rattle.flat_records.specs.declared.form.RecordForm.{RecordForm}
use Rattle.flat_records.specs.declared.form.RecordForm.TheVariants.{Csv, Json}
use Rattle.lint_records.specs.Told.{Told, told}

-- the line and the column of a place, if there is one

abbrev pub line_of : Option Place → Option ℕ
line_of None = None
line_of (Some place) = Some place.line

abbrev pub column_of : Option Place → Option ℕ
column_of None = None
column_of (Some place) = Some place.column

-- a count, or null for none
abbrev pub count_if : Option ℕ → Data
count_if None = null
count_if (Some n) = number (unsigned n)

-- the place that makes something so, or null for none
abbrev pub since_value : Option Place → Data
since_value None = null
since_value (Some place) =
    object
    (member (codes "line") (number (unsigned place.line))
    (member (codes "column") (number (unsigned place.column)) no_members))

-- a finding as an object of JSON
abbrev pub finding_value : Told → Data
finding_value told =
    object
    (member (codes "in") (string told.at)
    (member (codes "name") (string told.name)
    (member (codes "line") (count_if (line_of told.place))
    (member (codes "column") (count_if (column_of told.place))
    (member (codes "finding") (string told.what)
    (member (codes "since") (since_value told.since) no_members))))))

-- a count as a field, and nothing for none
abbrev pub count_field : Option ℕ → List ℕ
count_field None = []
count_field (Some n) = decimal n

-- the names of the fields of a finding, as comma-separated values have them
abbrev pub finding_header : List (List ℕ)
finding_header =
    codes "in" ∷ codes "name" ∷ codes "line" ∷ codes "column" ∷ codes "finding" ∷ codes "since_line"
    ∷ codes "since_column" ∷ []

-- the fields of a finding
abbrev pub finding_fields : Told → List (List ℕ)
finding_fields told =
    told.at ∷ told.name ∷ count_field (line_of told.place) ∷ count_field (column_of told.place) ∷ told.what
    ∷ count_field (line_of told.since) ∷ count_field (column_of told.since) ∷ []

-- a finding in a form
abbrev pub record_in : RecordForm → Told → List ℕ
record_in Csv told = row_text default_writer (finding_fields told)
record_in Json told = compact_text (finding_value told) ++ 10 ∷ []

-- what stands before the records
abbrev pub front_in : RecordForm → List ℕ
front_in Csv = row_text default_writer finding_header
front_in Json = []

-- the record of a finding on a deck whose routines have these texts
abbrev pub finding_record : RecordForm → DeckSources → DeckFinding → List ℕ
finding_record form sources finding = record_in form (told sources finding)

-- findings, a record each
abbrev pub records_text : RecordForm → DeckSources → List DeckFinding → List ℕ
records_text form sources findings = front_in form ++ flat_map (finding_record form sources) findings
