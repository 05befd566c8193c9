-- What the translator prints of a deck (docs/manual/tool.md, "Validating a deck").
use Rattle.std.specs.Prelude.{ℕ, List, [], ◌∷◌, ◌++◌, true, false, codes, decimal}
use Rattle.flat_records.specs.Records.{Named, header_in, named, record_in}
use Rattle.flat_records.specs.declared.field.FieldValue.TheVariants.{Text, Count, Truth, Missing}
use Rattle.flat_records.specs.declared.form.RecordForm.{RecordForm}
use Rattle.flat_records.specs.declared.form.RecordForm.TheVariants as forms
use Rattle.sms_construct.specs.declared.fault.Fault.{Fault}
use Rattle.sms_script.specs.FaultText.{fault_text}
use Rattle.tool_words.specs.declared.format.Format.{Format}
use Rattle.tool_words.specs.declared.format.Format.TheVariants as formats

-- the line of a deck with so many storage groups and volumes
abbrev pub valid_text : ℕ → ℕ → List ℕ
valid_text groups volumes = codes "VALID " ++ (decimal groups ++ (codes " " ++ (decimal volumes ++ codes "\n")))

-- the line of a deck's fault
abbrev pub refused_text : Fault → List ℕ
refused_text fault = codes "FAULT " ++ (fault_text fault ++ codes "\n")

-- the names of the fields of a deck's record
abbrev pub deck_names : List (List ℕ)
deck_names = codes "valid" ∷ codes "groups" ∷ codes "volumes" ∷ codes "fault" ∷ []

-- the fields of a deck with so many storage groups and volumes
abbrev pub valid_fields : ℕ → ℕ → List Named
valid_fields groups volumes =
    named (codes "valid") (Truth true) ∷ named (codes "groups") (Count groups)
    ∷ named (codes "volumes") (Count volumes) ∷ named (codes "fault") Missing ∷ []

-- the fields of a deck with this fault
abbrev pub fault_fields : Fault → List Named
fault_fields fault =
    named (codes "valid") (Truth false) ∷ named (codes "groups") Missing ∷ named (codes "volumes") Missing
    ∷ named (codes "fault") (Text (fault_text fault)) ∷ []

-- a deck's record in a form, and what stands before it
abbrev pub deck_record : RecordForm → List Named → List ℕ
deck_record form fields = header_in form deck_names ++ record_in form fields

-- what is told of a deck with so many storage groups and volumes
abbrev pub valid_in : Format → ℕ → ℕ → List ℕ
valid_in formats.Text groups volumes = valid_text groups volumes
valid_in formats.Csv groups volumes = deck_record forms.Csv (valid_fields groups volumes)
valid_in formats.Json groups volumes = deck_record forms.Json (valid_fields groups volumes)

-- what is told of a deck with this fault
abbrev pub refused_in : Format → Fault → List ℕ
refused_in formats.Text fault = refused_text fault
refused_in formats.Csv fault = deck_record forms.Csv (fault_fields fault)
refused_in formats.Json fault = deck_record forms.Json (fault_fields fault)
