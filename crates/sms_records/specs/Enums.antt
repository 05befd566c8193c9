-- The record forms of enums without fields: one byte, the position of the variant, from 0 (docs/manual/records.md, "The
-- record form").
use Rattle.std.specs.Prelude.{◌∷◌, [], ℕ, List, Option}
use Rattle.acs_tree.specs.declared.kind.Kind.TheVariants as kinds
use Rattle.acs_tree.specs.declared.kind.Kind.{Kind}
use Rattle.sms_construct.specs.declared.action.Action.TheVariants as actions
use Rattle.sms_construct.specs.declared.action.Action.{Action}
use Rattle.sms_construct.specs.declared.eattr.Eattr.TheVariants as eattrs
use Rattle.sms_construct.specs.declared.eattr.Eattr.{Eattr}
use Rattle.sms_construct.specs.declared.stage.Stage.TheVariants as stages
use Rattle.sms_construct.specs.declared.stage.Stage.{Stage}
use Rattle.sms_construct.specs.declared.status.Status.TheVariants as statuses
use Rattle.sms_construct.specs.declared.status.Status.{Status}
use Rattle.sms_construct.specs.declared.unit.Unit.TheVariants as units
use Rattle.sms_construct.specs.declared.unit.Unit.{Unit as UnitOf}
use Rattle.sms_construct.specs.declared.why_no_extend.WhyNoExtend.TheVariants as reasons
use Rattle.sms_construct.specs.declared.why_no_extend.WhyNoExtend.{WhyNoExtend}
use Rattle.sms_records.specs.Form.{Form, variants, bare_at}

-- the SMS statuses
abbrev pub status_write : Status → List ℕ
status_write statuses.Enable = 0 ∷ []
status_write statuses.NotCon = 1 ∷ []
status_write statuses.DisAll = 2 ∷ []
status_write statuses.DisNew = 3 ∷ []
status_write statuses.QuiAll = 4 ∷ []
status_write statuses.QuiNew = 5 ∷ []

-- the readers of its variants
abbrev pub status_readers : List (List ℕ → Option (Status × List ℕ))
status_readers =
    bare_at statuses.Enable ∷
    bare_at statuses.NotCon ∷
    bare_at statuses.DisAll ∷
    bare_at statuses.DisNew ∷
    bare_at statuses.QuiAll ∷
    bare_at statuses.QuiNew ∷ []

-- its form
abbrev pub status_form : Form Status
status_form = variants status_write status_readers

-- what a VARY does
abbrev pub action_write : Action → List ℕ
action_write actions.Enable = 0 ∷ []
action_write actions.Disable = 1 ∷ []
action_write actions.DisableNew = 2 ∷ []
action_write actions.Quiesce = 3 ∷ []
action_write actions.QuiesceNew = 4 ∷ []

-- the readers of its variants
abbrev pub action_readers : List (List ℕ → Option (Action × List ℕ))
action_readers =
    bare_at actions.Enable ∷
    bare_at actions.Disable ∷
    bare_at actions.DisableNew ∷
    bare_at actions.Quiesce ∷
    bare_at actions.QuiesceNew ∷ []

-- its form
abbrev pub action_form : Form Action
action_form = variants action_write action_readers

-- the units of space
abbrev pub unit_write : UnitOf → List ℕ
unit_write units.Trk = 0 ∷ []
unit_write units.Cyl = 1 ∷ []

-- the readers of its variants
abbrev pub unit_readers : List (List ℕ → Option (UnitOf × List ℕ))
unit_readers = bare_at units.Trk ∷ bare_at units.Cyl ∷ []

-- its form
abbrev pub unit_form : Form UnitOf
unit_form = variants unit_write unit_readers

-- whether a data set may lie on cylinder-managed space
abbrev pub eattr_write : Eattr → List ℕ
eattr_write eattrs.No = 0 ∷ []
eattr_write eattrs.Opt = 1 ∷ []

-- the readers of its variants
abbrev pub eattr_readers : List (List ℕ → Option (Eattr × List ℕ))
eattr_readers = bare_at eattrs.No ∷ bare_at eattrs.Opt ∷ []

-- its form
abbrev pub eattr_form : Form Eattr
eattr_form = variants eattr_write eattr_readers

-- why a data set is not extended
abbrev pub why_no_extend_write : WhyNoExtend → List ℕ
why_no_extend_write reasons.Secondary = 0 ∷ []
why_no_extend_write reasons.Room = 1 ∷ []

-- the readers of its variants
abbrev pub why_no_extend_readers : List (List ℕ → Option (WhyNoExtend × List ℕ))
why_no_extend_readers = bare_at reasons.Secondary ∷ bare_at reasons.Room ∷ []

-- its form
abbrev pub why_no_extend_form : Form WhyNoExtend
why_no_extend_form = variants why_no_extend_write why_no_extend_readers

-- the kinds of routine
abbrev pub kind_write : Kind → List ℕ
kind_write kinds.DataClas = 0 ∷ []
kind_write kinds.StorClas = 1 ∷ []
kind_write kinds.MgmtClas = 2 ∷ []
kind_write kinds.StorGrp = 3 ∷ []

-- the readers of its variants
abbrev pub kind_readers : List (List ℕ → Option (Kind × List ℕ))
kind_readers =
    bare_at kinds.DataClas ∷
    bare_at kinds.StorClas ∷
    bare_at kinds.MgmtClas ∷
    bare_at kinds.StorGrp ∷ []

-- its form
abbrev pub kind_form : Form Kind
kind_form = variants kind_write kind_readers

-- what finds the fault of a routine
abbrev pub stage_write : Stage → List ℕ
stage_write stages.Scanner = 0 ∷ []
stage_write stages.Parser = 1 ∷ []
stage_write stages.Checks = 2 ∷ []

-- the readers of its variants
abbrev pub stage_readers : List (List ℕ → Option (Stage × List ℕ))
stage_readers = bare_at stages.Scanner ∷ bare_at stages.Parser ∷ bare_at stages.Checks ∷ []

-- its form
abbrev pub stage_form : Form Stage
stage_form = variants stage_write stage_readers
