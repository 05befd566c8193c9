-- A keeper that fails where it is told to.
use Rattle.std.specs.Prelude.{ℕ, List, Result, Ok, Err}
use Rattle.desk_common.specs.Causes.{counted}
use Rattle.sms_keeper.specs.declared.change.Change.{Change}
use Rattle.sms_keeper.specs.declared.keeper.KeeperErr.{KeeperErr}
use Rattle.sms_keeper.specs.declared.keeper.KeeperErr.TheVariants.{Failed, NoMemory}

-- the changes that were made, the numbers of the commits that are to fail, and what was counted so far
pub record FaultView : Type 0 where
  pub changes : List Change
  pub fails : List ℕ
  pub calls : ℕ
  pub faults : ℕ

-- the faults after an answer: a failure is one more, and want of memory is none
abbrev pub faults_counted : {T : Type 0} → ℕ → Result T KeeperErr → ℕ
faults_counted before (Ok value) = before
faults_counted before (Err Failed) = counted before
faults_counted before (Err NoMemory) = before
