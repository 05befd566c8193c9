-- What is reached of a routine, as records (docs/manual/tool.md, "For other tools").
use Rattle.std.specs.Prelude.{ℕ, List, [], ◌∷◌, ◌++◌, codes, flat_map}
use Rattle.acs_coverage.specs.CoverageText.{is_covered}
use Rattle.acs_coverage.specs.Points.{place_of}
use Rattle.acs_coverage.specs.declared.point.Point.{Point}
use Rattle.acs_coverage.specs.declared.point.Point.TheVariants.{Statement, When, Comparison}
use Rattle.acs_coverage.specs.declared.tally.Tally.{Tally}
use Rattle.acs_places.specs.declared.place.Place.{Place}
use Rattle.acs_telling.specs.Sources.{spot_at, word_at}
use Rattle.acs_telling.specs.Telling.{comparison_text}
use Rattle.acs_telling.specs.declared.source.Source.{Source}
use Rattle.acs_tree.specs.Variables.{name_of}
use Rattle.acs_tree.specs.declared.kind.Kind.{Kind}
use Rattle.flat_records.specs.Records.{Named, header_in, named, record_in}
use Rattle.flat_records.specs.declared.field.FieldValue.{FieldValue}
use Rattle.flat_records.specs.declared.field.FieldValue.TheVariants.{Text, Count, Truth, Missing}
use Rattle.flat_records.specs.declared.form.RecordForm.{RecordForm}

-- the word of a point's class
abbrev pub class_word : Point → List ℕ
class_word (Statement at) = codes "STATEMENT"
class_word (When at) = codes "WHEN"
class_word (Comparison left op right) = codes "COMPARISON"

-- what stands at a point
abbrev pub words_at : Source → Point → List ℕ
words_at source (Statement at) = word_at source at
words_at source (When at) = word_at source at
words_at source (Comparison left op right) = comparison_text source left op right

-- how often the statement ran or the WHEN was taken; of a comparison nothing
abbrev pub count_at : Point → Tally → FieldValue
count_at (Statement at) tally = Count tally.ran
count_at (When at) tally = Count tally.taken
count_at (Comparison left op right) tally = Missing

-- how often the comparison held, and how often it didn't; of another point nothing

abbrev pub held_at : Point → Tally → FieldValue
held_at (Statement at) tally = Missing
held_at (When at) tally = Missing
held_at (Comparison left op right) tally = Count tally.held

abbrev pub failed_at : Point → Tally → FieldValue
failed_at (Statement at) tally = Missing
failed_at (When at) tally = Missing
failed_at (Comparison left op right) tally = Count tally.failed

-- the place of a point in the routine's text
abbrev pub spot_of : Source → Point → Place
spot_of source point = (spot_at source (place_of point)).place

-- its line and its column
abbrev pub place_fields : Source → Point → List Named
place_fields source point =
    named (codes "routine_line") (Count (spot_of source point).line)
    ∷ named (codes "routine_column") (Count (spot_of source point).column) ∷ []

-- the fields of a point of the routine of this name, and how often it was reached
abbrev pub point_fields : List ℕ → Source → Point → Tally → List Named
point_fields name source point tally =
    named (codes "routine") (Text name) ∷ (place_fields source point
    ++ named (codes "point") (Text (class_word point)) ∷ named (codes "text") (Text (words_at source point))
    ∷ named (codes "covered") (Truth (is_covered point tally)) ∷ named (codes "count") (count_at point tally)
    ∷ named (codes "true") (held_at point tally) ∷ named (codes "false") (failed_at point tally) ∷ [])

-- the names of the fields
abbrev pub point_names : List (List ℕ)
point_names =
    codes "routine" ∷ codes "routine_line" ∷ codes "routine_column" ∷ codes "point" ∷ codes "text" ∷ codes "covered"
    ∷ codes "count" ∷ codes "true" ∷ codes "false" ∷ []

-- the record of a point, by the counts of all tokens
abbrev pub point_record : RecordForm → List ℕ → Source → (ℕ → Tally) → Point → List ℕ
point_record form name source tallies point =
    record_in form (point_fields name source point (tallies (place_of point)))

-- the records of the points of the routine of a kind
abbrev pub points_records : RecordForm → Kind → Source → (ℕ → Tally) → List Point → List ℕ
points_records form kind source tallies points = flat_map (point_record form (name_of kind) source tallies) points

-- what stands before the records
abbrev pub points_front : RecordForm → List ℕ
points_front form = header_in form point_names
