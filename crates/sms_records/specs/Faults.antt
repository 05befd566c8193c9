-- The record forms of the faults of decks (docs/manual/records.md, "The record form").
use Rattle.std.specs.Prelude.{◌++◌, ◌∷◌, [], ℕ, List, Option}
use Rattle.sms_construct.specs.declared.fault.Fault.TheVariants as faults
use Rattle.sms_construct.specs.declared.fault.Fault.{Fault}
use Rattle.sms_construct.specs.declared.stage.Stage.{Stage}
use Rattle.sms_construct.specs.declared.text_fault.TextFault.{TextFault}
use Rattle.sms_records.specs.Form.{◌&◌, Form, made, made_at, variants, bare_at, number_32_form, number_8_form}
use Rattle.sms_records.specs.Enums.{kind_form, stage_form}
use Rattle.sms_records.specs.Texts.{name_form, volser_form}
use Rattle.sms_records.specs.Parts.{path_form}

-- the fault of a routine
abbrev pub text_fault_fields : Form (Stage × (ℕ × ℕ))
text_fault_fields = stage_form & number_8_form & number_32_form

-- its form
abbrev pub text_fault_form : Form TextFault
text_fault_form = made text_fault_fields
    (λ x. record { stage = x.0; number = x.1.0; at = x.1.1 })
    (λ x. (x.stage, (x.number, x.at)))

-- the fault of a deck, K0 to K9
abbrev pub fault_write : Fault → List ℕ
fault_write (faults.NotBuilt path) = 0 ∷ path_form.write path
fault_write faults.NotToml = 1 ∷ []
fault_write (faults.UnknownKey path) = 2 ∷ path_form.write path
fault_write (faults.Missing path) = 3 ∷ path_form.write path
fault_write (faults.BadValue path) = 4 ∷ path_form.write path
fault_write (faults.BadName path) = 5 ∷ path_form.write path
fault_write (faults.TwoGroups volser) = 6 ∷ volser_form.write volser
fault_write (faults.Routine kind fault) = 7 ∷ (kind_form.write kind ++ text_fault_form.write fault)
fault_write (faults.Unassigned kind name) = 8 ∷ (kind_form.write kind ++ name_form.write name)
fault_write (faults.TooMany path) = 9 ∷ path_form.write path

-- the readers of its variants
abbrev pub fault_readers : List (List ℕ → Option (Fault × List ℕ))
fault_readers =
    made_at path_form faults.NotBuilt ∷
    bare_at faults.NotToml ∷
    made_at path_form faults.UnknownKey ∷
    made_at path_form faults.Missing ∷
    made_at path_form faults.BadValue ∷
    made_at path_form faults.BadName ∷
    made_at volser_form faults.TwoGroups ∷
    made_at (kind_form & text_fault_form) (λ x. faults.Routine x.0 x.1) ∷
    made_at (kind_form & name_form) (λ x. faults.Unassigned x.0 x.1) ∷
    made_at path_form faults.TooMany ∷ []

-- its form
abbrev pub fault_form : Form Fault
fault_form = variants fault_write fault_readers
