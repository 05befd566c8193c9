-- The record form of what routines see of a request, in the parts in which a request keeps it: its name, its texts, its
-- numbers and its lists.
use Rattle.std.specs.Prelude.{ℕ, List}
use Rattle.acs_tree.specs.declared.amounts.Amounts.{Amounts}
use Rattle.acs_tree.specs.declared.given_lists.GivenLists.{GivenLists}
use Rattle.acs_tree.specs.declared.given_texts.GivenTexts.{GivenTexts}
use Rattle.acs_tree.specs.declared.input.Input.{Input}
use Rattle.acs_tree.specs.Inputs.{input_with}
use Rattle.sms_records.specs.Form.{◌&◌, Form, number_form, number_32_form}
use Rattle.sms_records.specs.Texts.{short_form}
use Rattle.sms_records.specs.Parts.{account_form, volumes_form}
use Rattle.sms_records.specs.Inputs.{AskingFields, SettingFields, TwoTexts, WantedFields, asking_form, asking_of}
use Rattle.sms_records.specs.Inputs.{default_form, default_of, seen_name_form, setting_form, setting_of, wanted_form}
use Rattle.sms_records.specs.Inputs.{wanted_of}

-- the texts: who asks, what is wanted, the setting, the default classes, the system and its sysplex
abbrev pub TextFields : Type 0
TextFields = AskingFields × (WantedFields × (SettingFields × ((List ℕ × TwoTexts) × TwoTexts)))

-- their form
abbrev pub texts_form : Form TextFields
texts_form = asking_form & wanted_form & setting_form & default_form & (short_form & short_form)

-- the default classes, the system and its sysplex of these texts
abbrev pub last_of : GivenTexts → (List ℕ × TwoTexts) × TwoTexts
last_of x = (default_of x.defaults, (x.environment.sysname, x.environment.sysplex))

-- the fields of these texts
abbrev pub fields_of_texts : GivenTexts → TextFields
fields_of_texts x =
    (asking_of x.origin, (wanted_of x.attributes, (setting_of x.origin x.attributes x.environment, last_of x)))

-- the texts of these fields
abbrev pub texts_of : TextFields → GivenTexts
texts_of (asking, (wanted, (setting, (default, system)))) = record {
  origin = record {
    job = asking.0;
    user = asking.1.0;
    group = asking.1.1.0;
    pgm = asking.1.1.1.0;
    dd = asking.1.1.1.1;
    applic = setting.0;
  };
  attributes = record {
    unit = wanted.0;
    dsorg = wanted.1.0;
    recorg = wanted.1.1.0;
    dsntype = wanted.1.1.1;
    dstype = setting.1.1.0;
    dsowner = setting.1.1.1.1.1;
    expdt = setting.1.0;
  };
  environment = record {
    acsenvir = setting.1.1.1.0;
    xmode = setting.1.1.1.1.0;
    sysname = system.0;
    sysplex = system.1;
  };
  defaults = record { dataclas = default.0; storclas = default.1.0; mgmtclas = default.1.1 };
}

-- the texts of what routines see
abbrev pub texts_in : Input → GivenTexts
texts_in x = record {
  origin = x.origin;
  attributes = x.attributes;
  environment = x.environment;
  defaults = x.defaults;
}

-- the lists: the volumes, and the accounting of the job and of the step
abbrev pub ListFields : Type 0
ListFields = List (List ℕ) × (List (List ℕ) × List (List ℕ))

-- their form
abbrev pub lists_form : Form ListFields
lists_form = volumes_form & (account_form & account_form)

-- the fields of these lists
abbrev pub fields_of_lists : GivenLists → ListFields
fields_of_lists x = (x.volumes, (x.accounting.acct_job, x.accounting.acct_step))

-- the lists of these fields
abbrev pub lists_of : ListFields → GivenLists
lists_of x = record { accounting = record { acct_job = x.1.0; acct_step = x.1.1 }; volumes = x.0 }

-- the lists of what routines see
abbrev pub lists_in : Input → GivenLists
lists_in x = record { accounting = x.accounting; volumes = x.volumes }

-- the retention period and the block size; the lists; the size and the greatest size
abbrev pub CountedFields : Type 0
CountedFields = (ℕ × ℕ) × (ListFields × (ℕ × ℕ))

-- their form
abbrev pub counted_form : Form CountedFields
counted_form = (number_32_form & number_32_form) & lists_form & (number_form & number_form)

-- these fields, of numbers and lists
abbrev pub fields_of_counted : Amounts → GivenLists → CountedFields
fields_of_counted amounts lists =
    ((amounts.retpd, amounts.blksize), (fields_of_lists lists, (amounts.size, amounts.maxsize)))

-- the parts: the name, the texts, and the numbers with the lists
abbrev pub InputParts : Type 0
InputParts = List ℕ × (TextFields × CountedFields)

-- their form
abbrev pub parted_form : Form InputParts
parted_form = seen_name_form & texts_form & counted_form

-- the parts of what routines see
abbrev pub parts_of_input : Input → InputParts
parts_of_input x = (x.dsn, (fields_of_texts (texts_in x), fields_of_counted x.amounts (lists_in x)))

-- what routines see, of these parts
abbrev pub input_of_parts : InputParts → Input
input_of_parts (dsn, (texts, (numbers, (lists, sizes)))) =
    input_with dsn (record { retpd = numbers.0; blksize = numbers.1; size = sizes.0; maxsize = sizes.1 })
    (texts_of texts) (lists_of lists)
