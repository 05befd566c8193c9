-- The reply to a fresh request, and the state after it.
use Rattle.std.specs.Prelude.{ℕ, List, IfSome}
use Rattle.sms_construct.specs.Quantities.{IsRequestNumber, IsSpace, IsVolumeCount}
use Rattle.sms_construct.specs.declared.alloc.Alloc.{Alloc as Allocation}
use Rattle.sms_construct.specs.declared.reply.Reply.{Reply}
use Rattle.sms_construct.specs.declared.request.Op.{Op}
use Rattle.sms_construct.specs.declared.request.Op.TheVariants as ops
use Rattle.desk_law.specs.State.{DeskState}
use Rattle.desk_law.specs.Allocation.{AllocRule}
use Rattle.desk_law.specs.Extension.{ExtendRule}
use Rattle.desk_law.specs.Deletion.{DeleteRule}
use Rattle.desk_law.specs.Usage.{UsedRule}
use Rattle.desk_law.specs.Releasing.{ReleaseRule}
use Rattle.desk_law.specs.Varying.{VaryRule}
use Rattle.desk_law.specs.Display.{DisplayRule}
use Rattle.desk_law.specs.Purging.{PurgeRule}
use Rattle.desk_law.specs.Activation.{ActivateRule}

-- the quantities of an ALLOC are in range
pub record IsSoundAlloc (alloc : Allocation) : Type 0 where
  pub space : IfSome alloc.space IsSpace
  pub volumes : IfSome alloc.volumes IsVolumeCount

-- what the types of requests ensure
abbrev pub IsSound : Op → Type 0
IsSound (ops.Alloc alloc) = IsSoundAlloc alloc
IsSound (ops.Activate deck) = Unit {0}
IsSound (ops.Extend dsn) = Unit {0}
IsSound (ops.Delete dsn) = Unit {0}
IsSound (ops.Used dsn tracks) = Unit {0}
IsSound (ops.Release dsn) = Unit {0}
IsSound (ops.Display target) = Unit {0}
IsSound (ops.Vary target action) = Unit {0}
IsSound (ops.Purge job floor) = IsRequestNumber floor

-- the rule of the op, for a request of this job; `old_floor` is the floor of each job before
abbrev pub Rule : (List ℕ → ℕ) → DeskState → List ℕ → Op → Reply → DeskState → Type 0
Rule old_floor s job (ops.Alloc alloc) reply after = AllocRule s job alloc reply after
Rule old_floor s job (ops.Activate deck) reply after = ActivateRule s deck reply after
Rule old_floor s job (ops.Extend dsn) reply after = ExtendRule s dsn reply after
Rule old_floor s job (ops.Delete dsn) reply after = DeleteRule s dsn reply after
Rule old_floor s job (ops.Used dsn tracks) reply after = UsedRule s dsn tracks reply after
Rule old_floor s job (ops.Release dsn) reply after = ReleaseRule s dsn reply after
Rule old_floor s job (ops.Display target) reply after = DisplayRule s target reply after
Rule old_floor s job (ops.Vary target action) reply after = VaryRule s target action reply after
Rule old_floor s job (ops.Purge other floor) reply after = PurgeRule s (old_floor other) other floor reply after
