-- Records of fields with names, in two forms (docs/manual/tool.md, "For other tools").
use Rattle.std.specs.Prelude.{ℕ, true, false, List, [], ◌∷◌, ◌++◌, codes, decimal, map}
use Rattle.csv.specs.Writing.{default_writer, row_text}
use Rattle.serde_json.specs.Data.{Data, null, boolean, number, unsigned, string, object, Members, no_members, member}
use Rattle.serde_json.specs.Written.{compact_text}
use Rattle.flat_records.specs.declared.form.RecordForm.{RecordForm}
use Rattle.flat_records.specs.declared.form.RecordForm.TheVariants.{Csv, Json}
use Rattle.flat_records.specs.declared.field.Field.{Field}
use Rattle.flat_records.specs.declared.field.FieldValue.{FieldValue}
use Rattle.flat_records.specs.declared.field.FieldValue.TheVariants.{Text, Count, Truth, Missing}

-- a field: its name, and what it holds
pub record Named : Type 0 where
  pub name : List ℕ
  pub value : FieldValue

-- the field that the code holds
abbrev pub named_of : Field → Named
named_of field = record { name = field.name.now; value = field.value }

-- a field of this name
abbrev pub named : List ℕ → FieldValue → Named
named name value = record { name = name; value = value }

-- what a field holds, as a value of JSON
abbrev pub data_of : FieldValue → Data
data_of (Text text) = string text
data_of (Count count) = number (unsigned count)
data_of (Truth holds) = boolean holds
data_of Missing = null

-- fields as members of an object
abbrev pub members_of : List Named → Members
members_of [] = no_members
members_of (field ∷ fields) = member field.name (data_of field.value) (members_of fields)

-- a record as an object of JSON
abbrev pub object_text : List Named → List ℕ
object_text fields = compact_text (object (members_of fields))

-- what a field holds, as text
abbrev pub text_of : FieldValue → List ℕ
text_of (Text text) = text
text_of (Count count) = decimal count
text_of (Truth true) = codes "true"
text_of (Truth false) = codes "false"
text_of Missing = []

-- what fields hold, as texts
abbrev pub texts_of : List Named → List (List ℕ)
texts_of fields = map (λ field. text_of field.value) fields

-- a record in a form
abbrev pub record_in : RecordForm → List Named → List ℕ
record_in Csv fields = row_text default_writer (texts_of fields)
record_in Json fields = object_text fields ++ 10 ∷ []

-- what stands before records with fields of these names
abbrev pub header_in : RecordForm → List (List ℕ) → List ℕ
header_in Csv names = row_text default_writer names
header_in Json names = []
