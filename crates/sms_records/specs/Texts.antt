-- The records of texts and numbers: each is read where its bytes are one (docs/manual/records.md, "The record form").
use Rattle.std.specs.Prelude.{ℕ, List}
use Rattle.dsn_mask.specs.Name.{name_of, volser_of, short_of, literal_of}
use Rattle.dsn_mask.specs.DataSetName.{dsn_of}
use Rattle.sms_construct.specs.Quantities.{request_number_of, volume_count_of}
use Rattle.sms_records.specs.Form.{Form, seen, text_form, number_form}

-- a name of up to eight bytes
abbrev pub name_form : Form (List ℕ)
name_form = seen text_form name_of (λ x. x)

-- a volume serial
abbrev pub volser_form : Form (List ℕ)
volser_form = seen text_form volser_of (λ x. x)

-- a text that routines see
abbrev pub short_form : Form (List ℕ)
short_form = seen text_form short_of (λ x. x)

-- a line or a literal
abbrev pub literal_form : Form (List ℕ)
literal_form = seen text_form literal_of (λ x. x)

-- the name of a data set
abbrev pub dsn_form : Form (List ℕ)
dsn_form = seen text_form dsn_of (λ x. x)

-- a request number, from 1 on
abbrev pub request_number_form : Form ℕ
request_number_form = seen number_form request_number_of (λ x. x)

-- a number of volumes, 1 to 59
abbrev pub volume_count_form : Form ℕ
volume_count_form = seen number_form volume_count_of (λ x. x)
