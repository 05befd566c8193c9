-- The table of variables (docs/manual/acs-language.md, Variables).
use Rattle.std.specs.Prelude.{◌==◌, ◌+◌, ℕ, List, [], ◌∷◌, length, Option, Some, None, codes, if◌then◌else◌}
use Rattle.std.specs.Option.{option_map, unwrap_or}
use Rattle.std.specs.Str.{bytes_eq}
use Rattle.desk_common.specs.Limits.{most_account_fields, most_index, most_qualifiers}
use Rattle.dsn_mask.specs.Qualifiers.{qualifiers_of}
use Rattle.acs_tree.specs.declared.input.Input.{Input}
use Rattle.acs_tree.specs.declared.kind.Kind.{Kind}
use Rattle.acs_tree.specs.declared.kind.Kind.TheVariants.{DataClas, StorClas, MgmtClas, StorGrp}
use Rattle.acs_tree.specs.declared.values.Values.{Values}
use Rattle.acs_tree.specs.declared.variable.Indexing.{Indexing}
use Rattle.acs_tree.specs.declared.variable.Indexing.TheVariants.{Never, Maybe, Always}
use Rattle.acs_tree.specs.declared.variable.Variable.{Variable}
use Rattle.acs_tree.specs.declared.variable.VariableKind.{VariableKind}
use Rattle.acs_tree.specs.declared.variable.VariableKind.TheVariants as kind
use Rattle.acs_tree.specs.Numbers.{number_of, within}
use Rattle.acs_tree.specs.Value.{Value, Text, Number, Size, AnyOf, AllOf, Groups, text_at}

-- what a variable's name means: what the checks know of it, and what it holds in a run, by its index,
-- which is 0 where none is written
pub record VariableMeaning : Type 0 where
  pub variable : Variable
  pub value : ℕ → Input → Values → Value

-- a row of the table: a name without its ampersand, and what it means
abbrev pub Row : Type 0
Row = List ℕ × VariableMeaning

-- a read-only variable without an index
abbrev pub read_only : List ℕ → VariableKind → (Input → Value) → Row
read_only name kind held = (
  name,
  record {
    variable = record { kind = kind; indexing = Never; set_by = None };
    value = λ index input values. held input;
  },
)

-- a text of the request
abbrev pub text : List ℕ → (Input → List ℕ) → Row
text name held = read_only name kind.Text (λ input. Text (held input))

-- a number of the request
abbrev pub number : List ℕ → (Input → ℕ) → Row
number name held = read_only name kind.Number (λ input. Number (held input))

-- a size of the request
abbrev pub size : List ℕ → (Input → ℕ) → Row
size name held = read_only name kind.Size (λ input. Size (held input))

-- a text of the request, by the index
abbrev pub indexed : List ℕ → Indexing → (Input → ℕ → List ℕ) → Row
indexed name indexing held = (
  name,
  record {
    variable = record { kind = kind.Text; indexing = indexing; set_by = None };
    value = λ index input values. Text (held input index);
  },
)

-- a variable that the routine of a kind sets and later ones read
abbrev pub read_write : Kind → List ℕ → VariableKind → (Values → Value) → Row
read_write setter name kind held = (
  name,
  record {
    variable = record { kind = kind; indexing = Never; set_by = Some setter };
    value = λ index input values. held values;
  },
)

-- a variable that is always null
abbrev pub null : List ℕ → Row
null name = text name (λ input. [])

-- the qualifier of that number, and the whole name where the number is 0
abbrev pub part_of_name : List ℕ → ℕ → List ℕ
part_of_name dsn number = if number == 0 then dsn else text_at (qualifiers_of dsn) number

-- the first qualifier
abbrev pub first_qualifier : List ℕ → List ℕ
first_qualifier dsn = text_at (qualifiers_of dsn) 1

-- the last qualifier
abbrev pub last_qualifier : List ℕ → List ℕ
last_qualifier dsn = text_at (qualifiers_of dsn) (length (qualifiers_of dsn))

-- the name of the variable that a routine of that kind sets
abbrev pub name_of : Kind → List ℕ
name_of DataClas = codes "DATACLAS"
name_of StorClas = codes "STORCLAS"
name_of MgmtClas = codes "MGMTCLAS"
name_of StorGrp = codes "STORGRP"

-- all variables: parts of the data set's name, what routines set, who asks, what the data set is to be, numbers, sizes,
-- volumes, accounting, where the routine runs, the defaults of the request, and what is always null
abbrev pub variables : List Row
variables =
    indexed (codes "DSN") (Maybe most_qualifiers) (λ input index. part_of_name input.dsn index) ∷
    text (codes "HLQ") (λ input. first_qualifier input.dsn) ∷
    text (codes "LLQ") (λ input. last_qualifier input.dsn) ∷
    number (codes "NQUAL") (λ input. length (qualifiers_of input.dsn)) ∷
    read_write DataClas (name_of DataClas) kind.Text (λ values. Text values.dataclas) ∷
    read_write StorClas (name_of StorClas) kind.Text (λ values. Text values.storclas) ∷
    read_write MgmtClas (name_of MgmtClas) kind.Text (λ values. Text values.mgmtclas) ∷
    read_write StorGrp (name_of StorGrp) kind.Groups (λ values. Groups values.groups) ∷
    text (codes "JOB") (λ input. input.origin.job) ∷
    text (codes "USER") (λ input. input.origin.user) ∷
    text (codes "GROUP") (λ input. input.origin.group) ∷
    text (codes "PGM") (λ input. input.origin.pgm) ∷
    text (codes "DD") (λ input. input.origin.dd) ∷
    text (codes "APPLIC") (λ input. input.origin.applic) ∷
    text (codes "UNIT") (λ input. input.attributes.unit) ∷
    text (codes "DSORG") (λ input. input.attributes.dsorg) ∷
    text (codes "RECORG") (λ input. input.attributes.recorg) ∷
    text (codes "DSNTYPE") (λ input. input.attributes.dsntype) ∷
    text (codes "DSTYPE") (λ input. input.attributes.dstype) ∷
    text (codes "DSOWNER") (λ input. input.attributes.dsowner) ∷
    text (codes "EXPDT") (λ input. input.attributes.expdt) ∷
    number (codes "RETPD") (λ input. input.amounts.retpd) ∷
    number (codes "BLKSIZE") (λ input. input.amounts.blksize) ∷
    number (codes "FILENUM") (λ input. 0) ∷
    number (codes "MEMNQUAL") (λ input. 0) ∷
    size (codes "SIZE") (λ input. input.amounts.size) ∷
    size (codes "MAXSIZE") (λ input. input.amounts.maxsize) ∷
    number (codes "NVOL") (λ input. length input.volumes) ∷
    read_only (codes "ANYVOL") kind.Volumes (λ input. AnyOf input.volumes) ∷
    read_only (codes "ALLVOL") kind.Volumes (λ input. AllOf input.volumes) ∷
    indexed (codes "ACCT_JOB") (Always most_account_fields) (λ input index. text_at input.accounting.acct_job index) ∷
    indexed (codes "ACCT_STEP") (Always most_account_fields) (λ input index. text_at input.accounting.acct_step index) ∷
    text (codes "ACSENVIR") (λ input. input.environment.acsenvir) ∷
    text (codes "XMODE") (λ input. input.environment.xmode) ∷
    text (codes "SYSNAME") (λ input. input.environment.sysname) ∷
    text (codes "SYSPLEX") (λ input. input.environment.sysplex) ∷
    text (codes "DEF_DATACLAS") (λ input. input.defaults.dataclas) ∷
    text (codes "DEF_STORCLAS") (λ input. input.defaults.storclas) ∷
    text (codes "DEF_MGMTCLAS") (λ input. input.defaults.mgmtclas) ∷
    null (codes "ACSENVR2") ∷
    null (codes "LABEL") ∷
    null (codes "LIBNAME") ∷
    null (codes "MEMN") ∷
    null (codes "MEMHLQ") ∷
    null (codes "MEMLLQ") ∷
    null (codes "MSPARM") ∷
    null (codes "MSPDEST") ∷
    null (codes "MSPOLICY") ∷
    null (codes "MSPOOL") ∷
    null (codes "MSVGP") ∷ []

-- what stands under that name, if there is something
abbrev pub look_up : {A : Type 0} → List (List ℕ × A) → List ℕ → Option A
look_up [] name = None
look_up (row ∷ rows) name = if bytes_eq name row.0 then Some row.1 else look_up rows name

-- the variable of that name, if there is one
unfoldable pub variable_of : List ℕ → Option Variable
variable_of name = option_map (λ (meaning : VariableMeaning). meaning.variable) (look_up variables name)

-- what the variable of this meaning holds; null where there is none
abbrev pub value_by : Option VariableMeaning → ℕ → Input → Values → Value
value_by None index input values = Text []
value_by (Some meaning) index input values = meaning.value index input values

-- what the variable of that name and that index holds
unfoldable pub variable_value : List ℕ → ℕ → Input → Values → Value
variable_value name = value_by (look_up variables name)

-- the index as it is written: 0 where there is none, and 255, which no variable takes, where it is no number
-- from 1 to 254
abbrev pub index_of : Option (List ℕ) → ℕ
index_of None = 0
index_of (Some word) = unwrap_or (within 1 most_index (number_of word)) (most_index + 1)

-- the order in which the routines run
abbrev pub rank_of : Kind → ℕ
rank_of DataClas = 0
rank_of StorClas = 1
rank_of MgmtClas = 2
rank_of StorGrp = 3
