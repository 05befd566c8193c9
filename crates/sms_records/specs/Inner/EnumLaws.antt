-- What these record forms promise: what is read is written so, and what is written is read again.
use Rattle.std.proofs.Common.{refl}
use Rattle.acs_tree.specs.declared.kind.Kind.{Kind}
use Rattle.sms_construct.specs.declared.action.Action.{Action}
use Rattle.sms_construct.specs.declared.eattr.Eattr.{Eattr}
use Rattle.sms_construct.specs.declared.stage.Stage.{Stage}
use Rattle.sms_construct.specs.declared.status.Status.{Status}
use Rattle.sms_construct.specs.declared.unit.Unit.{Unit as UnitOf}
use Rattle.sms_construct.specs.declared.why_no_extend.WhyNoExtend.{WhyNoExtend}
use Rattle.sms_construct.specs.declared.status.Status.TheVariants as statuses
use Rattle.sms_construct.specs.declared.action.Action.TheVariants as actions
use Rattle.sms_construct.specs.declared.unit.Unit.TheVariants as units
use Rattle.sms_construct.specs.declared.eattr.Eattr.TheVariants as eattrs
use Rattle.sms_construct.specs.declared.why_no_extend.WhyNoExtend.TheVariants as reasons
use Rattle.acs_tree.specs.declared.kind.Kind.TheVariants as kinds
use Rattle.sms_construct.specs.declared.stage.Stage.TheVariants as stages
use Rattle.sms_records.specs.Form.{IsExact, IsReadable}
use Rattle.sms_records.specs.Inner.VariantLaws.{◌also◌, variants_exact, bare_readable, bare_exact}
use Rattle.sms_records.specs.Enums.{action_form, action_readers, action_write, eattr_form, eattr_readers, eattr_write}
use Rattle.sms_records.specs.Enums.{kind_form, kind_readers, kind_write, stage_form, stage_readers, stage_write}
use Rattle.sms_records.specs.Enums.{status_form, status_readers, status_write, unit_form, unit_readers, unit_write}
use Rattle.sms_records.specs.Enums.{why_no_extend_form, why_no_extend_readers, why_no_extend_write}

pub status_exact : IsExact status_form
status_exact = variants_exact status_write status_readers
    (bare_exact _ 0 _ refl also bare_exact _ 1 _ refl also bare_exact _ 2 _ refl also bare_exact _ 3 _ refl
    also bare_exact _ 4 _ refl also bare_exact _ 5 _ refl also tt)

pub status_readable : (x : Status) → IsReadable status_form x
status_readable statuses.Enable = bare_readable status_write status_readers 0 _ refl refl
status_readable statuses.NotCon = bare_readable status_write status_readers 1 _ refl refl
status_readable statuses.DisAll = bare_readable status_write status_readers 2 _ refl refl
status_readable statuses.DisNew = bare_readable status_write status_readers 3 _ refl refl
status_readable statuses.QuiAll = bare_readable status_write status_readers 4 _ refl refl
status_readable statuses.QuiNew = bare_readable status_write status_readers 5 _ refl refl

pub action_exact : IsExact action_form
action_exact = variants_exact action_write action_readers
    (bare_exact _ 0 _ refl also bare_exact _ 1 _ refl also bare_exact _ 2 _ refl also bare_exact _ 3 _ refl
    also bare_exact _ 4 _ refl also tt)

pub action_readable : (x : Action) → IsReadable action_form x
action_readable actions.Enable = bare_readable action_write action_readers 0 _ refl refl
action_readable actions.Disable = bare_readable action_write action_readers 1 _ refl refl
action_readable actions.DisableNew = bare_readable action_write action_readers 2 _ refl refl
action_readable actions.Quiesce = bare_readable action_write action_readers 3 _ refl refl
action_readable actions.QuiesceNew = bare_readable action_write action_readers 4 _ refl refl

pub unit_exact : IsExact unit_form
unit_exact = variants_exact unit_write unit_readers (bare_exact _ 0 _ refl, (bare_exact _ 1 _ refl, tt))

pub unit_readable : (x : UnitOf) → IsReadable unit_form x
unit_readable units.Trk = bare_readable unit_write unit_readers 0 _ refl refl
unit_readable units.Cyl = bare_readable unit_write unit_readers 1 _ refl refl

pub eattr_exact : IsExact eattr_form
eattr_exact = variants_exact eattr_write eattr_readers (bare_exact _ 0 _ refl, (bare_exact _ 1 _ refl, tt))

pub eattr_readable : (x : Eattr) → IsReadable eattr_form x
eattr_readable eattrs.No = bare_readable eattr_write eattr_readers 0 _ refl refl
eattr_readable eattrs.Opt = bare_readable eattr_write eattr_readers 1 _ refl refl

pub why_no_extend_exact : IsExact why_no_extend_form
why_no_extend_exact = variants_exact why_no_extend_write why_no_extend_readers
    (bare_exact _ 0 _ refl, (bare_exact _ 1 _ refl, tt))

pub why_no_extend_readable : (x : WhyNoExtend) → IsReadable why_no_extend_form x
why_no_extend_readable reasons.Secondary = bare_readable why_no_extend_write why_no_extend_readers 0 _ refl refl
why_no_extend_readable reasons.Room = bare_readable why_no_extend_write why_no_extend_readers 1 _ refl refl

pub kind_exact : IsExact kind_form
kind_exact = variants_exact kind_write kind_readers
    (bare_exact _ 0 _ refl, (bare_exact _ 1 _ refl, (bare_exact _ 2 _ refl, (bare_exact _ 3 _ refl, tt))))

pub kind_readable : (x : Kind) → IsReadable kind_form x
kind_readable kinds.DataClas = bare_readable kind_write kind_readers 0 _ refl refl
kind_readable kinds.StorClas = bare_readable kind_write kind_readers 1 _ refl refl
kind_readable kinds.MgmtClas = bare_readable kind_write kind_readers 2 _ refl refl
kind_readable kinds.StorGrp = bare_readable kind_write kind_readers 3 _ refl refl

pub stage_exact : IsExact stage_form
stage_exact = variants_exact stage_write stage_readers
    (bare_exact _ 0 _ refl, (bare_exact _ 1 _ refl, (bare_exact _ 2 _ refl, tt)))

pub stage_readable : (x : Stage) → IsReadable stage_form x
stage_readable stages.Scanner = bare_readable stage_write stage_readers 0 _ refl refl
stage_readable stages.Parser = bare_readable stage_write stage_readers 1 _ refl refl
stage_readable stages.Checks = bare_readable stage_write stage_readers 2 _ refl refl
