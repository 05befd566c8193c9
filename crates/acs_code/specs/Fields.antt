-- Variables by what they read.
use Rattle.std.specs.Prelude.{ℕ, List, [], ◌∷◌, length, codes}
use Rattle.std.specs.Option.{unwrap_or}
use Rattle.dsn_mask.specs.Qualifiers.{qualifiers_of}
use Rattle.acs_tree.specs.declared.input.Input.{Input}
use Rattle.acs_tree.specs.declared.values.Values.{Values}
use Rattle.acs_tree.specs.Value.{Value, Text, Number, Size, AnyOf, AllOf, Groups, text_at}
use Rattle.acs_tree.specs.Variables.{first_qualifier, last_qualifier, look_up, part_of_name}
use Rattle.acs_code.specs.declared.field.Field.{Field}
use Rattle.acs_code.specs.declared.field.Field.TheVariants as field
use Rattle.acs_code.specs.declared.field.NumberField.{NumberField}
use Rattle.acs_code.specs.declared.field.NumberField.TheVariants as number
use Rattle.acs_code.specs.declared.field.TextField.{TextField}
use Rattle.acs_code.specs.declared.field.TextField.TheVariants as text
use Rattle.acs_code.specs.declared.instr.Instr.{Instr}
use Rattle.acs_code.specs.declared.instr.Instr.TheVariants.{Test, Jump, SetClass, SetGroups, Write, Exit}

-- what every name reads that is none of these
abbrev pub nothing : Field
nothing = field.Text text.Null

-- the variables that are not always null, in the order of the table of variables
abbrev pub fields : List (List ℕ × Field)
fields =
    (codes "DSN", field.Dsn) ∷
    (codes "HLQ", field.Hlq) ∷
    (codes "LLQ", field.Llq) ∷
    (codes "NQUAL", field.Number number.Nqual) ∷
    (codes "DATACLAS", field.Text text.DataClas) ∷
    (codes "STORCLAS", field.Text text.StorClas) ∷
    (codes "MGMTCLAS", field.Text text.MgmtClas) ∷
    (codes "STORGRP", field.Groups) ∷
    (codes "JOB", field.Text text.Job) ∷
    (codes "USER", field.Text text.User) ∷
    (codes "GROUP", field.Text text.Group) ∷
    (codes "PGM", field.Text text.Pgm) ∷
    (codes "DD", field.Text text.Dd) ∷
    (codes "APPLIC", field.Text text.Applic) ∷
    (codes "UNIT", field.Text text.Device) ∷
    (codes "DSORG", field.Text text.Dsorg) ∷
    (codes "RECORG", field.Text text.Recorg) ∷
    (codes "DSNTYPE", field.Text text.Dsntype) ∷
    (codes "DSTYPE", field.Dstype) ∷
    (codes "DSOWNER", field.Text text.Dsowner) ∷
    (codes "EXPDT", field.Text text.Expdt) ∷
    (codes "RETPD", field.Number number.Retpd) ∷
    (codes "BLKSIZE", field.Number number.Blksize) ∷
    (codes "FILENUM", field.Number number.Zero) ∷
    (codes "MEMNQUAL", field.Number number.Zero) ∷
    (codes "SIZE", field.Size) ∷
    (codes "MAXSIZE", field.MaxSize) ∷
    (codes "NVOL", field.Number number.Nvol) ∷
    (codes "ANYVOL", field.AnyVolume) ∷
    (codes "ALLVOL", field.AllVolumes) ∷
    (codes "ACCT_JOB", field.Text text.AcctJob) ∷
    (codes "ACCT_STEP", field.Text text.AcctStep) ∷
    (codes "ACSENVIR", field.Acsenvir) ∷
    (codes "XMODE", field.Xmode) ∷
    (codes "SYSNAME", field.Text text.Sysname) ∷
    (codes "SYSPLEX", field.Text text.Sysplex) ∷
    (codes "DEF_DATACLAS", field.Text text.DefDataClas) ∷
    (codes "DEF_STORCLAS", field.Text text.DefStorClas) ∷
    (codes "DEF_MGMTCLAS", field.Text text.DefMgmtClas) ∷ []

-- what the variable of that name reads
abbrev pub field_of : List ℕ → Field
field_of name = unwrap_or (look_up fields name) nothing

-- a text that stands in the input or among the values
abbrev pub text_value : TextField → ℕ → Input → Values → List ℕ
text_value text.DataClas index input values = values.dataclas
text_value text.StorClas index input values = values.storclas
text_value text.MgmtClas index input values = values.mgmtclas
text_value text.Job index input values = input.origin.job
text_value text.User index input values = input.origin.user
text_value text.Group index input values = input.origin.group
text_value text.Pgm index input values = input.origin.pgm
text_value text.Dd index input values = input.origin.dd
text_value text.Applic index input values = input.origin.applic
text_value text.Device index input values = input.attributes.unit
text_value text.Dsorg index input values = input.attributes.dsorg
text_value text.Recorg index input values = input.attributes.recorg
text_value text.Dsntype index input values = input.attributes.dsntype
text_value text.Dsowner index input values = input.attributes.dsowner
text_value text.Expdt index input values = input.attributes.expdt
text_value text.AcctJob index input values = text_at input.accounting.acct_job index
text_value text.AcctStep index input values = text_at input.accounting.acct_step index
text_value text.Sysname index input values = input.environment.sysname
text_value text.Sysplex index input values = input.environment.sysplex
text_value text.DefDataClas index input values = input.defaults.dataclas
text_value text.DefStorClas index input values = input.defaults.storclas
text_value text.DefMgmtClas index input values = input.defaults.mgmtclas
text_value text.Null index input values = []

-- a number of the input
abbrev pub number_value : NumberField → Input → ℕ
number_value number.Nqual input = length (qualifiers_of input.dsn)
number_value number.Retpd input = input.amounts.retpd
number_value number.Blksize input = input.amounts.blksize
number_value number.Zero input = 0
number_value number.Nvol input = length input.volumes

-- what a field holds
abbrev pub field_value : Field → ℕ → Input → Values → Value
field_value (field.Text which) index input values = Text (text_value which index input values)
field_value (field.Number which) index input values = Number (number_value which input)
field_value field.Dsn index input values = Text (part_of_name input.dsn index)
field_value field.Hlq index input values = Text (first_qualifier input.dsn)
field_value field.Llq index input values = Text (last_qualifier input.dsn)
field_value field.Groups index input values = Groups values.groups
field_value field.Dstype index input values = Text input.attributes.dstype
field_value field.Size index input values = Size input.amounts.size
field_value field.MaxSize index input values = Size input.amounts.maxsize
field_value field.AnyVolume index input values = AnyOf input.volumes
field_value field.AllVolumes index input values = AllOf input.volumes
field_value field.Acsenvir index input values = Text input.environment.acsenvir
field_value field.Xmode index input values = Text input.environment.xmode

-- what the left side of an instruction reads, if it is a test
abbrev pub left_of : Instr → Field
left_of (Test probe yes' no') = field_of probe.left.name
left_of (Jump to) = nothing
left_of (SetClass part) = nothing
left_of (SetGroups groups) = nothing
left_of (Write parts) = nothing
left_of (Exit code) = nothing
