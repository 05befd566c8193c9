-- What the routines of a deck do with the ALLOC of an item, as records (docs/manual/tool.md, "For other tools").
use Rattle.std.specs.Prelude.{ℕ, Bool, List, [], ◌∷◌, ◌++◌, codes, flat_map, Option, None, Some}
use Rattle.acs_places.specs.declared.place.Place.{Place}
use Rattle.acs_telling.specs.Sources.{spot_at, word_at}
use Rattle.acs_telling.specs.Telling.{comparison_text}
use Rattle.acs_telling.specs.declared.source.Source.{Source}
use Rattle.acs_trace.specs.declared.event.Event.{Event}
use Rattle.acs_trace.specs.declared.event.Event.TheVariants as events
use Rattle.acs_tree.specs.Variables.{name_of}
use Rattle.acs_tree.specs.declared.values.Values.{Values}
use Rattle.flat_records.specs.Records.{Named, header_in, named, record_in}
use Rattle.flat_records.specs.declared.field.FieldValue.{FieldValue}
use Rattle.flat_records.specs.declared.field.FieldValue.TheVariants.{Text, Count, Truth, Missing}
use Rattle.flat_records.specs.declared.form.RecordForm.{RecordForm}
use Rattle.desk_law.specs.Classification.{Classes, classes_of}
use Rattle.sms_construct.specs.Configuration.{Configuration}
use Rattle.sms_construct.specs.declared.alloc.Alloc.{Alloc}
use Rattle.sms_construct.specs.declared.stop.Stop.{Stop}
use Rattle.sms_script.specs.declared.item.Item.{Item}
use Rattle.sms_simulation.specs.OutcomeText.{outcome_text}
use Rattle.sms_simulation.specs.Simulation.{alloc_of}
use Rattle.sms_story.specs.Runs.{runs_of}
use Rattle.sms_story.specs.declared.run.Run.{Run}
use Rattle.sms_explain.specs.DeckTexts.{source_in}
use Rattle.sms_explain.specs.RunText.{values_text}
use Rattle.sms_explain.specs.declared.deck_sources.DeckSources.{DeckSources}
use Rattle.routine_records.specs.declared.happening.Happening.{Happening}
use Rattle.routine_records.specs.declared.happening.Happening.TheVariants as happenings
use Rattle.routine_records.specs.declared.told.Told.{Told}

-- the word of what a record tells
abbrev pub word_of : Happening → List ℕ
word_of happenings.Begin = codes "BEGIN"
word_of happenings.Statement = codes "STATEMENT"
word_of happenings.Comparison = codes "COMPARISON"
word_of happenings.When = codes "WHEN"
word_of happenings.Set = codes "SET"
word_of happenings.Wrote = codes "WROTE"
word_of happenings.Exited = codes "EXITED"
word_of happenings.End = codes "END"
word_of happenings.Outcome = codes "OUTCOME"

-- what happens at the token with this number
abbrev pub told_at : Source → ℕ → Happening → FieldValue → Told
told_at source at event value = record {
  event = event;
  place = Some (spot_at source at).place;
  text = Text (word_at source at);
  holds = Missing;
  value = value;
}

-- what happens at no token
abbrev pub told_without : Happening → FieldValue → Told
told_without event value =
    record { event = event; place = None; text = Missing; holds = Missing; value = value }

-- a comparison in this text, at the token of its right side, whether it holds, and what the variable held
abbrev pub told_compared : Source → List ℕ → ℕ → Bool → List ℕ → Told
told_compared source text right holds value = record {
  event = happenings.Comparison;
  place = Some (spot_at source right).place;
  text = Text text;
  holds = Truth holds;
  value = Text value;
}

-- what is told of an event in the routine of a source
abbrev pub told_event : Source → Event → Told
told_event source (events.Ran at) = told_at source at happenings.Statement Missing
told_event source (events.Compared left op right value holds) =
    told_compared source (comparison_text source left op right) right holds value
told_event source (events.Taken at) = told_at source at happenings.When Missing
told_event source (events.Set target value) = told_at source target happenings.Set (Text value)
told_event source (events.Wrote line) = told_without happenings.Wrote (Text line)
told_event source (events.Exited code) = told_without happenings.Exited (Count code)

-- what is told of the variables
abbrev pub told_values : Happening → Values → Told
told_values event values = told_without event (Text (values_text values))

-- what is told of what a classification comes to
abbrev pub told_outcome : Stop → Values → Told
told_outcome stop values = told_without happenings.Outcome (Text (outcome_text stop values))

-- the line of an item in its script, its job and its number
abbrev pub item_fields : Item → List Named
item_fields item =
    named (codes "line") (Count item.line) ∷ named (codes "job") (Text item.request.job)
    ∷ named (codes "number") (Count item.request.number) ∷ []

-- the line and the column of a place, if there is one
abbrev pub line_of : Option Place → FieldValue
line_of None = Missing
line_of (Some place) = Count place.line

abbrev pub column_of : Option Place → FieldValue
column_of None = Missing
column_of (Some place) = Count place.column

abbrev pub place_fields : Option Place → List Named
place_fields place =
    named (codes "routine_line") (line_of place) ∷ named (codes "routine_column") (column_of place) ∷ []

-- the fields of what is told of the ALLOC of an item in a routine, or in none
abbrev pub told_fields : Item → FieldValue → Told → List Named
told_fields item routine told =
    item_fields item ++ named (codes "routine") routine ∷ named (codes "event") (Text (word_of told.event))
    ∷ (place_fields told.place ++ named (codes "text") told.text ∷ named (codes "holds") told.holds
    ∷ named (codes "value") told.value ∷ [])

-- the names of the fields
abbrev pub told_names : List (List ℕ)
told_names =
    codes "line" ∷ codes "job" ∷ codes "number" ∷ codes "routine" ∷ codes "event" ∷ codes "routine_line"
    ∷ codes "routine_column" ∷ codes "text" ∷ codes "holds" ∷ codes "value" ∷ []

-- the record of what is told
abbrev pub told_record : RecordForm → Item → FieldValue → Told → List ℕ
told_record form item routine told = record_in form (told_fields item routine told)

-- the record of an event in a routine
abbrev pub event_record : RecordForm → Item → FieldValue → Source → Event → List ℕ
event_record form item routine source event = told_record form item routine (told_event source event)

-- a run in a routine: what the variables held at its begin, what happened, and what they held at its end
abbrev pub run_in : RecordForm → Item → FieldValue → Source → Run → List ℕ
run_in form item routine source run =
    told_record form item routine (told_values happenings.Begin run.begins)
    ++ (flat_map (event_record form item routine source) run.events
    ++ told_record form item routine (told_values happenings.End run.ends))

-- the same under the name of its routine
abbrev pub run_records : RecordForm → DeckSources → Item → Run → List ℕ
run_records form sources item run = run_in form item (Text (name_of run.kind)) (source_in sources run.kind) run

-- what a classification that ends so comes to
abbrev pub outcome_record : RecordForm → Item → Stop → Values → List ℕ
outcome_record form item stop values = told_record form item Missing (told_outcome stop values)

-- the same of classes
abbrev pub classes_record : RecordForm → Item → Classes → List ℕ
classes_record form item classes = outcome_record form item classes.stop classes.values

-- the ALLOC of an item: each run, and then what the classification comes to
abbrev pub alloc_records : RecordForm → Configuration → DeckSources → Item → Alloc → List ℕ
alloc_records form config sources item alloc =
    flat_map (run_records form sources item) (runs_of config item.request.job alloc)
    ++ classes_record form item (classes_of config item.request.job alloc)

-- the same, if there is an ALLOC
abbrev pub records_if : RecordForm → Configuration → DeckSources → Item → Option Alloc → List ℕ
records_if form config sources item None = []
records_if form config sources item (Some alloc) = alloc_records form config sources item alloc

-- the records of an item; none but of an ALLOC
abbrev pub item_records : RecordForm → Configuration → DeckSources → Item → List ℕ
item_records form config sources item = records_if form config sources item (alloc_of item.request.op)

-- what stands before the records
abbrev pub front_in : RecordForm → List ℕ
front_in form = header_in form told_names
