-- The operands of ALLOC (docs/manual/script.md, "Operands"): which stand in a line, and what each gives.
use Rattle.std.specs.Prelude.{ℕ, Bool, true, false, not, ◌&&◌, List, [], ◌∷◌, ◌++◌, Option, None, Some, bytes_eq}
use Rattle.std.specs.Prelude.{is_some, codes, option_map, unwrap_or}
use Rattle.std.specs.List.{filter_map, list_all, list_any}
use Rattle.acs_tree.specs.declared.accounting.Accounting.{Accounting}
use Rattle.acs_tree.specs.declared.amounts.Amounts.{Amounts}
use Rattle.acs_tree.specs.declared.attributes.Attributes.{Attributes}
use Rattle.acs_tree.specs.declared.defaults.Defaults.{Defaults}
use Rattle.acs_tree.specs.declared.environment.Environment.{Environment}
use Rattle.acs_tree.specs.declared.given_lists.GivenLists.{GivenLists}
use Rattle.acs_tree.specs.declared.given_texts.GivenTexts.{GivenTexts}
use Rattle.acs_tree.specs.declared.input.Input.{Input}
use Rattle.acs_tree.specs.declared.origin.Origin.{Origin}
use Rattle.acs_tree.specs.Inputs.{input_with}
use Rattle.desk_common.specs.Limits.{last_day, most_days, most_name_bytes}
use Rattle.dsn_mask.specs.Name.{name_of}
use Rattle.sms_construct.specs.declared.alloc.Alloc.{Alloc}
use Rattle.sms_construct.specs.Quantities.{Quantities, size_in_kilobytes, most_in_kilobytes}
use Rattle.sms_script.specs.Found.{◌⊳◌}
use Rattle.sms_construct.specs.Parts.{behind_front}
use Rattle.sms_construct.specs.SpaceText.{space_text}
use Rattle.sms_script.specs.Values.{number_to, plain_of, name_value_of, date_of, volumes_of, account_of, count_of}
use Rattle.sms_script.specs.Values.{eattr_of}

-- the keys of the operands
abbrev pub keys : List (List ℕ)
keys =
    codes "SPACE=" ∷ codes "DATACLAS=" ∷ codes "STORCLAS=" ∷ codes "MGMTCLAS=" ∷ codes "DEFDC=" ∷ codes "DEFSC="
    ∷ codes "DEFMC=" ∷ codes "VOL=" ∷ codes "VOLCNT=" ∷ codes "USER=" ∷ codes "GROUP=" ∷ codes "PGM=" ∷ codes "DD="
    ∷ codes "UNIT=" ∷ codes "DSORG=" ∷ codes "RECORG=" ∷ codes "DSNTYPE=" ∷ codes "DSTYPE=" ∷ codes "ACSENVIR="
    ∷ codes "XMODE=" ∷ codes "APPLIC=" ∷ codes "OWNER=" ∷ codes "ACCT=" ∷ codes "STEPACCT=" ∷ codes "RETPD="
    ∷ codes "EXPDT=" ∷ codes "BLKSIZE=" ∷ codes "DAY=" ∷ codes "EATTR=" ∷ []

-- the key is this name and an equals sign
abbrev pub is_key_of : List ℕ → List ℕ → Bool
is_key_of name key = bytes_eq key (name ++ codes "=")

-- the keys of the texts that routines see
abbrev pub text_keys : List (List ℕ)
text_keys =
    codes "USER=" ∷ codes "GROUP=" ∷ codes "PGM=" ∷ codes "DD=" ∷ codes "APPLIC=" ∷ codes "UNIT=" ∷ codes "DSORG="
    ∷ codes "RECORG=" ∷ codes "DSNTYPE=" ∷ codes "DSTYPE=" ∷ codes "OWNER=" ∷ codes "EXPDT=" ∷ codes "ACSENVIR="
    ∷ codes "XMODE=" ∷ codes "DEFDC=" ∷ codes "DEFSC=" ∷ codes "DEFMC=" ∷ []

-- the keys of the lists that routines see
abbrev pub list_keys : List (List ℕ)
list_keys = codes "ACCT=" ∷ codes "STEPACCT=" ∷ codes "VOL=" ∷ []

-- the name is the key of an operand
abbrev pub is_key : List ℕ → Bool
is_key name = list_any (is_key_of name) keys

-- the word has this key
abbrev pub has_key : List ℕ → List ℕ → Bool
has_key word key = is_some (behind_front key word)

-- the word has one of the keys
abbrev pub is_operand : List ℕ → Bool
is_operand word = list_any (has_key word) keys

-- one of the words has one of these keys
abbrev pub have_any : List (List ℕ) → List (List ℕ) → Bool
have_any keys words = list_any (λ word. list_any (has_key word) keys) words

-- the values that stand behind a key
abbrev pub values_of : List ℕ → List (List ℕ) → List (List ℕ)
values_of key operands = filter_map (behind_front key) operands

-- there are two values or more
abbrev pub are_many : List (List ℕ) → Bool
are_many [] = false
are_many (value ∷ []) = false
are_many (value ∷ other ∷ values) = true

-- the key stands at most once
abbrev pub is_once : List (List ℕ) → List ℕ → Bool
is_once operands key = not (are_many (values_of key operands))

-- each word has one of the keys, and no key stands twice
abbrev pub are_operands : List (List ℕ) → Bool
are_operands operands = list_all is_operand operands && list_all (is_once operands) keys

-- what is read in the first value, or the default where there is none
abbrev pub first_or : {V : Type 0} → (List ℕ → Option V) → V → List (List ℕ) → Option V
first_or read default [] = Some default
first_or read default (value ∷ values) = read value

-- what the operand of this key gives
abbrev pub given : {V : Type 0} → List ℕ → (List ℕ → Option V) → V → List (List ℕ) → Option V
given key read default operands = first_or read default (values_of key operands)

-- what an operand gives that may be missing
abbrev pub given_or_none : {V : Type 0} → List ℕ → (List ℕ → Option V) → List (List ℕ) → Option (Option V)
given_or_none key read operands = given key (λ value. option_map (λ v. Some v) (read value)) None operands

-- who asks for the data set, and for what
abbrev pub origin_in : List (List ℕ) → Option Origin
origin_in operands =
    given (codes "USER=") (plain_of most_name_bytes) [] operands ⊳ λ user.
    given (codes "GROUP=") (plain_of most_name_bytes) [] operands ⊳ λ group.
    given (codes "PGM=") (plain_of most_name_bytes) [] operands ⊳ λ pgm.
    given (codes "DD=") (plain_of most_name_bytes) [] operands ⊳ λ dd.
    given (codes "APPLIC=") (plain_of most_name_bytes) [] operands ⊳ λ applic.
    Some (record { job = []; user = user; group = group; pgm = pgm; dd = dd; applic = applic })

-- the accounting of the job and of the step
abbrev pub accounting_in : List (List ℕ) → Option Accounting
accounting_in operands =
    given (codes "ACCT=") account_of [] operands ⊳ λ acct_job.
    given (codes "STEPACCT=") account_of [] operands ⊳ λ acct_step.
    Some (record { acct_job = acct_job; acct_step = acct_step })

-- the attributes of the data set
abbrev pub attributes_in : List (List ℕ) → Option Attributes
attributes_in operands =
    given (codes "UNIT=") (plain_of most_name_bytes) [] operands ⊳ λ unit.
    given (codes "DSORG=") (plain_of most_name_bytes) [] operands ⊳ λ dsorg.
    given (codes "RECORG=") (plain_of most_name_bytes) [] operands ⊳ λ recorg.
    given (codes "DSNTYPE=") (plain_of most_name_bytes) [] operands ⊳ λ dsntype.
    given (codes "DSTYPE=") (plain_of most_name_bytes) (codes "PERM") operands ⊳ λ dstype.
    given (codes "OWNER=") (plain_of most_name_bytes) [] operands ⊳ λ dsowner.
    given (codes "EXPDT=") date_of [] operands ⊳ λ expdt.
    Some (record {
      unit = unit;
      dsorg = dsorg;
      recorg = recorg;
      dsntype = dsntype;
      dstype = dstype;
      dsowner = dsowner;
      expdt = expdt;
    })

-- where the request runs; the system joins later
abbrev pub environment_in : List (List ℕ) → Option Environment
environment_in operands =
    given (codes "ACSENVIR=") (plain_of most_name_bytes) (codes "ALLOC") operands ⊳ λ acsenvir.
    given (codes "XMODE=") (plain_of most_name_bytes) (codes "BATCH") operands ⊳ λ xmode.
    Some (record { acsenvir = acsenvir; xmode = xmode; sysname = []; sysplex = [] })

-- the classes that are the job's defaults
abbrev pub defaults_in : List (List ℕ) → Option Defaults
defaults_in operands =
    given (codes "DEFDC=") name_value_of [] operands ⊳ λ dataclas.
    given (codes "DEFSC=") name_value_of [] operands ⊳ λ storclas.
    given (codes "DEFMC=") name_value_of [] operands ⊳ λ mgmtclas.
    Some (record { dataclas = dataclas; storclas = storclas; mgmtclas = mgmtclas })

-- the texts that the routines see
abbrev pub texts_in : List (List ℕ) → Option GivenTexts
texts_in operands =
    origin_in operands ⊳ λ origin.
    attributes_in operands ⊳ λ attributes.
    environment_in operands ⊳ λ environment.
    defaults_in operands ⊳ λ defaults.
    Some (record { origin = origin; attributes = attributes; environment = environment; defaults = defaults })

-- the lists that the routines see
abbrev pub lists_in : List (List ℕ) → Option GivenLists
lists_in operands =
    accounting_in operands ⊳ λ accounting.
    given (codes "VOL=") volumes_of [] operands ⊳ λ volumes.
    Some (record { accounting = accounting; volumes = volumes })

-- the size of a space in KB; 0 without one
abbrev pub size_of : Option Quantities → ℕ
size_of None = 0
size_of (Some space) = size_in_kilobytes space

-- the size with the secondary quantities in KB; 0 without a space
abbrev pub maxsize_of : Option Quantities → ℕ
maxsize_of None = 0
maxsize_of (Some space) = most_in_kilobytes space

-- the numbers that routines see
abbrev pub amounts_of : Option ℕ → ℕ → Option Quantities → Amounts
amounts_of retpd blksize space =
    record { retpd = unwrap_or retpd 0; blksize = blksize; size = size_of space; maxsize = maxsize_of space }

-- the input that an ALLOC gives its routines; the job and the system join later
abbrev pub input_in : List ℕ → Option ℕ → Option Quantities → List (List ℕ) → Option Input
input_in dsn retpd space operands =
    texts_in operands ⊳ λ texts.
    lists_in operands ⊳ λ lists.
    given (codes "BLKSIZE=") (number_to 2147483647) 0 operands ⊳ λ blksize.
    Some (input_with dsn (amounts_of retpd blksize space) texts lists)

-- what the operands of an ALLOC of this data set ask for
abbrev pub request_in : List ℕ → List (List ℕ) → Option Alloc
request_in dsn operands =
    given_or_none (codes "SPACE=") space_text operands ⊳ λ space.
    given_or_none (codes "DATACLAS=") name_of operands ⊳ λ dataclas.
    given_or_none (codes "STORCLAS=") name_of operands ⊳ λ storclas.
    given_or_none (codes "MGMTCLAS=") name_of operands ⊳ λ mgmtclas.
    given_or_none (codes "VOLCNT=") count_of operands ⊳ λ volumes.
    given (codes "DAY=") (number_to last_day) 0 operands ⊳ λ day.
    given_or_none (codes "RETPD=") (number_to most_days) operands ⊳ λ retpd.
    given_or_none (codes "EATTR=") eattr_of operands ⊳ λ eattr.
    input_in dsn retpd space operands ⊳ λ input.
    Some (record {
      input = input;
      space = space;
      dataclas = dataclas;
      storclas = storclas;
      mgmtclas = mgmtclas;
      volumes = volumes;
      day = day;
      retpd = retpd;
      eattr = eattr;
    })
