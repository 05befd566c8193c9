-- A number is the same in a column.
use Rattle.std.proofs.Common.{◌≡◌, ◌<◌, ◌≤◌, ◌^◌, ℕ, ℤ, pos, arith, w64, of_z, to_z, to_z-of_z, subst, sym}
use Rattle.sms_construct.specs.declared.target.Target.{Target}
use Rattle.sms_construct.specs.declared.target.Target.TheVariants as targets
use Rattle.sms_construct.specs.declared.status.Status.{Status}
use Rattle.sms_construct.specs.declared.status.Status.TheVariants as statuses
use Rattle.sms_keeper.specs.Loading.{target_rank}
use Rattle.sms_sqlite.specs.Inner.Columns.{status_column}

pub column_is : (z : ℤ) (n : ℕ) → z ≡ pos n → n < 2 ^ 63 → to_z w64 (of_z w64 z) ≡ pos n
column_is z n is low = subst (λ x. to_z w64 (of_z w64 x) ≡ pos n) (sym is) (to_z-of_z {w = w64} {z = pos n} (record { sfits = low }))

pub word_low : (n : ℕ) → n ≤ 4294967295 → n < 2 ^ 63
word_low n low = omega (arith, low)

pub kind_low : (target : Target) → target_rank target < 2 ^ 63
kind_low (targets.Group group) = omega arith
kind_low (targets.Volume volser) = omega arith
kind_low (targets.Set dsn) = omega arith

pub status_low : (status : Status) → status_column status < 2 ^ 63
status_low statuses.Enable = omega arith
status_low statuses.NotCon = omega arith
status_low statuses.DisAll = omega arith
status_low statuses.DisNew = omega arith
status_low statuses.QuiAll = omega arith
status_low statuses.QuiNew = omega arith
