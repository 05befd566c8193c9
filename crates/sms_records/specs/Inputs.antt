-- The record form of what routines see of a request: a field for each read-only variable that isn't always null or 0,
-- in the order of the table of variables (docs/manual/records.md, "The record form").
use Rattle.std.specs.Prelude.{◌==◌, ◌&&◌, ℕ, Bool, List, length, Option, Some, None, if◌then◌else◌}
use Rattle.std.specs.Str.{bytes_eq}
use Rattle.acs_tree.specs.declared.attributes.Attributes.{Attributes}
use Rattle.acs_tree.specs.declared.defaults.Defaults.{Defaults}
use Rattle.acs_tree.specs.declared.environment.Environment.{Environment}
use Rattle.acs_tree.specs.declared.input.Input.{Input}
use Rattle.acs_tree.specs.declared.origin.Origin.{Origin}
use Rattle.acs_tree.specs.Variables.{first_qualifier, last_qualifier}
use Rattle.dsn_mask.specs.Qualifiers.{qualifiers_of}
use Rattle.sms_records.specs.Form.{◌&◌, Form, made, number_form, number_32_form, seen, text_form}
use Rattle.sms_records.specs.Texts.{dsn_form, short_form}
use Rattle.sms_records.specs.Parts.{account_form, volumes_form}

-- what routines see of a name: its first and its last qualifier, and how many there are
abbrev pub NameParts : Type 0
NameParts = List ℕ × (List ℕ × ℕ)

-- the parts of a name
abbrev pub parts_of_name : List ℕ → NameParts
parts_of_name dsn = (first_qualifier dsn, (last_qualifier dsn, length (qualifiers_of dsn)))

-- whether these are the parts of the name
abbrev pub are_parts : List ℕ → NameParts → Bool
are_parts dsn x = bytes_eq x.0 (first_qualifier dsn) &&
    (bytes_eq x.1.0 (last_qualifier dsn) && (x.1.1 == length (qualifiers_of dsn)))

-- the name, where the parts behind it are its own
abbrev pub name_with_parts : List ℕ × NameParts → Option (List ℕ)
name_with_parts x = if are_parts x.0 x.1 then Some x.0 else None

-- &DSN, &HLQ, &LLQ, &NQUAL
abbrev pub name_parts_form : Form NameParts
name_parts_form = text_form & text_form & number_form

-- a name with its parts behind it
abbrev pub seen_name_form : Form (List ℕ)
seen_name_form = seen (dsn_form & name_parts_form) name_with_parts (λ dsn. (dsn, parts_of_name dsn))

-- two texts
abbrev pub TwoTexts : Type 0
TwoTexts = List ℕ × List ℕ

-- &JOB, &USER, &GROUP, &PGM, &DD
abbrev pub AskingFields : Type 0
AskingFields = List ℕ × (List ℕ × (List ℕ × TwoTexts))

-- their form
abbrev pub asking_form : Form AskingFields
asking_form = short_form & short_form & short_form & short_form & short_form

-- the fields of who asks
abbrev pub asking_of : Origin → AskingFields
asking_of x = (x.job, (x.user, (x.group, (x.pgm, x.dd))))

-- &UNIT, &DSORG, &RECORG, &DSNTYPE
abbrev pub WantedFields : Type 0
WantedFields = List ℕ × (List ℕ × TwoTexts)

-- their form
abbrev pub wanted_form : Form WantedFields
wanted_form = short_form & short_form & short_form & short_form

-- the fields of what the data set is to be
abbrev pub wanted_of : Attributes → WantedFields
wanted_of x = (x.unit, (x.dsorg, (x.recorg, x.dsntype)))

-- &APPLIC, &EXPDT, &DSTYPE, &ACSENVIR, &XMODE, &DSOWNER
abbrev pub SettingFields : Type 0
SettingFields = List ℕ × (List ℕ × (List ℕ × (List ℕ × TwoTexts)))

-- their form
abbrev pub setting_form : Form SettingFields
setting_form = short_form & short_form & short_form & short_form & short_form & short_form

-- the fields of the setting
abbrev pub setting_of : Origin → Attributes → Environment → SettingFields
setting_of origin set env =
    (origin.applic, (set.expdt, (set.dstype, (env.acsenvir, (env.xmode, set.dsowner)))))

-- &DEF_DATACLAS, &DEF_STORCLAS, &DEF_MGMTCLAS
abbrev pub default_form : Form (List ℕ × TwoTexts)
default_form = short_form & short_form & short_form

-- the fields of the default classes
abbrev pub default_of : Defaults → List ℕ × TwoTexts
default_of x = (x.dataclas, (x.storclas, x.mgmtclas))

-- &SYSNAME, &SYSPLEX; &RETPD, &BLKSIZE
abbrev pub system_form : Form (TwoTexts × (ℕ × ℕ))
system_form = (short_form & short_form) & number_32_form & number_32_form

-- the fields of the system, and the numbers behind them
abbrev pub system_of : Input → TwoTexts × (ℕ × ℕ)
system_of x = ((x.environment.sysname, x.environment.sysplex), (x.amounts.retpd, x.amounts.blksize))

-- &NVOL with &ANYVOL and &ALLVOL; &ACCT_JOB, &ACCT_STEP; &SIZE, &MAXSIZE
abbrev pub GivenFields : Type 0
GivenFields = List (List ℕ) × ((List (List ℕ) × List (List ℕ)) × (ℕ × ℕ))

-- their form
abbrev pub given_form : Form GivenFields
given_form = volumes_form & (account_form & account_form) & number_form & number_form

-- the lists, and the sizes
abbrev pub given_of : Input → GivenFields
given_of x = (x.volumes, ((x.accounting.acct_job, x.accounting.acct_step), (x.amounts.size, x.amounts.maxsize)))

-- all behind the setting
abbrev pub LaterFields : Type 0
LaterFields = (List ℕ × TwoTexts) × ((TwoTexts × (ℕ × ℕ)) × GivenFields)

-- all but the name
abbrev pub InputFields : Type 0
InputFields = AskingFields × (WantedFields × (SettingFields × LaterFields))

-- their form
abbrev pub input_fields : Form InputFields
input_fields = asking_form & wanted_form & setting_form & default_form & system_form & given_form

-- the fields behind the setting
abbrev pub later_of : Input → LaterFields
later_of x = (default_of x.defaults, (system_of x, given_of x))

-- the fields of what routines see
abbrev pub fields_of_input : Input → InputFields
fields_of_input x =
    (asking_of x.origin, (wanted_of x.attributes, (setting_of x.origin x.attributes x.environment, later_of x)))

-- what routines see, of a name and these fields
abbrev pub input_of : List ℕ → InputFields → Input
input_of its_dsn (asking, (wanted, (setting, (default, (system, given))))) = record {
  dsn = its_dsn;
  origin = record {
    job = asking.0;
    user = asking.1.0;
    group = asking.1.1.0;
    pgm = asking.1.1.1.0;
    dd = asking.1.1.1.1;
    applic = setting.0;
  };
  accounting = record { acct_job = given.1.0.0; acct_step = given.1.0.1 };
  attributes = record {
    unit = wanted.0;
    dsorg = wanted.1.0;
    recorg = wanted.1.1.0;
    dsntype = wanted.1.1.1;
    dstype = setting.1.1.0;
    dsowner = setting.1.1.1.1.1;
    expdt = setting.1.0;
  };
  environment = record {
    acsenvir = setting.1.1.1.0;
    xmode = setting.1.1.1.1.0;
    sysname = system.0.0;
    sysplex = system.0.1;
  };
  defaults = record { dataclas = default.0; storclas = default.1.0; mgmtclas = default.1.1 };
  amounts = record { retpd = system.1.0; blksize = system.1.1; size = given.1.1.0; maxsize = given.1.1.1 };
  volumes = given.0;
}

-- the form of what routines see
abbrev pub input_form : Form Input
input_form = made (seen_name_form & input_fields) (λ x. input_of x.0 x.1) (λ x. (x.dsn, fields_of_input x))
