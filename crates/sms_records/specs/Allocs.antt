-- The record form of what an ALLOC asks for (docs/manual/records.md, "The record form").
use Rattle.std.specs.Prelude.{ℕ, List, Option, Some, None, if◌then◌else◌}
use Rattle.std.specs.Str.{bytes_eq}
use Rattle.acs_tree.specs.declared.input.Input.{Input}
use Rattle.sms_construct.specs.declared.alloc.Alloc.{Alloc}
use Rattle.sms_construct.specs.declared.eattr.Eattr.{Eattr}
use Rattle.sms_construct.specs.Quantities.{Quantities}
use Rattle.sms_records.specs.Form.{◌&◌, Form, number_32_form, option, seen}
use Rattle.sms_records.specs.Texts.{dsn_form, name_form, volume_count_form}
use Rattle.sms_records.specs.Enums.{eattr_form}
use Rattle.sms_records.specs.Parts.{space_form}
use Rattle.sms_records.specs.Inputs.{input_form}

-- the space, the classes, the volumes, the day, the retention period, and whether it may lie on cylinder-managed space
abbrev pub ChoiceFields : Type 0
ChoiceFields = Option Quantities × (Option (List ℕ) × (Option (List ℕ) × (Option (List ℕ)
    × (Option ℕ × (ℕ × (Option ℕ × Option Eattr))))))

-- their form
abbrev pub choices_form : Form ChoiceFields
choices_form = option space_form & option name_form & option name_form & option name_form
    & option volume_count_form & number_32_form & option number_32_form & option eattr_form

-- these fields of an ALLOC
abbrev pub choices_of : Alloc → ChoiceFields
choices_of x = (x.space, (x.dataclas, (x.storclas, (x.mgmtclas, (x.volumes, (x.day, (x.retpd, x.eattr)))))))

-- all but the name: what routines see, and the choices
abbrev pub AskedFields : Type 0
AskedFields = Input × ChoiceFields

-- their form
abbrev pub asked_form : Form AskedFields
asked_form = input_form & choices_form

-- these fields of an ALLOC
abbrev pub asked_of : Alloc → AskedFields
asked_of x = (x.input, choices_of x)

-- the ALLOC of these fields
abbrev pub alloc_from : AskedFields → Alloc
alloc_from x = record {
  input = x.0;
  space = x.1.0;
  dataclas = x.1.1.0;
  storclas = x.1.1.1.0;
  mgmtclas = x.1.1.1.1.0;
  volumes = x.1.1.1.1.1.0;
  day = x.1.1.1.1.1.1.0;
  retpd = x.1.1.1.1.1.1.1.0;
  eattr = x.1.1.1.1.1.1.1.1;
}

-- the ALLOC, where the name is that which routines see
abbrev pub alloc_of : List ℕ × AskedFields → Option Alloc
alloc_of x = if bytes_eq x.0 x.1.0.dsn then Some (alloc_from x.1) else None

-- the form of an ALLOC: the name, and the other fields
abbrev pub alloc_form : Form Alloc
alloc_form = seen (dsn_form & asked_form) alloc_of (λ x. (x.input.dsn, asked_of x))
