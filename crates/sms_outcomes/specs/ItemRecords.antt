-- The ALLOCs of a script, each as a record (docs/manual/tool.md, "For other tools").
use Rattle.std.specs.Prelude.{ℕ, List, [], ◌∷◌, ◌++◌, Option, None, Some, codes, decimal}
use Rattle.csv.specs.Writing.{default_writer, row_text}
use Rattle.serde_json.specs.Data.{Data, number, unsigned, string, object, member}
use Rattle.serde_json.specs.Written.{compact_text}
use Rattle.sms_construct.specs.Configuration.{Configuration}
use Rattle.sms_construct.specs.declared.alloc.Alloc.{Alloc}
use Rattle.sms_script.specs.declared.item.Item.{Item}
use Rattle.desk_law.specs.Classification.{Classes, classes_of}
use Rattle.sms_simulation.specs.Simulation.{alloc_of}
use Rattle.sms_outcomes.specs.Outcomes.{outcome_of, side_members}
use Rattle.flat_records.specs.declared.form.RecordForm.{RecordForm}
use Rattle.flat_records.specs.declared.form.RecordForm.TheVariants.{Csv, Json}

-- the ALLOC of an item: its line in the script, its job and its number, and what its classification comes to
abbrev pub item_value : Item → Classes → Data
item_value item classes =
    object
    (member (codes "line") (number (unsigned item.line))
    (member (codes "job") (string item.request.job)
    (member (codes "number") (number (unsigned item.request.number)) (side_members classes))))

-- the names of the fields, as comma-separated values have them
abbrev pub item_header : List (List ℕ)
item_header = codes "line" ∷ codes "job" ∷ codes "number" ∷ codes "outcome" ∷ []

-- the fields of the ALLOC of an item with this outcome: its line in the script, its job, its number and the outcome
abbrev pub item_fields : Item → List ℕ → List (List ℕ)
item_fields item outcome = decimal item.line ∷ item.request.job ∷ decimal item.request.number ∷ outcome ∷ []

-- the ALLOC of an item in a form
abbrev pub record_in : RecordForm → Item → Classes → List ℕ
record_in Csv item classes = row_text default_writer (item_fields item (outcome_of classes))
record_in Json item classes = compact_text (item_value item classes) ++ 10 ∷ []

-- what stands before the records
abbrev pub front_in : RecordForm → List ℕ
front_in Csv = row_text default_writer item_header
front_in Json = []

-- the record of an item in a form; of another than an ALLOC nothing
abbrev pub record_if : RecordForm → Configuration → Item → Option Alloc → List ℕ
record_if form config item None = []
record_if form config item (Some alloc) = record_in form item (classes_of config item.request.job alloc)

abbrev pub item_record : RecordForm → Configuration → Item → List ℕ
item_record form config item = record_if form config item (alloc_of item.request.op)
