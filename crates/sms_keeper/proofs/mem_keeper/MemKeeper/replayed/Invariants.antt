use Rattle.std.proofs.Common.{◌≡◌, drop}
use Rattle.std.specs.Prelude.{fold}
use Rattle.sms_keeper.specs.Tables.{rows_after, with_change}
use Rattle.sms_keeper.proofs.mem_keeper.MemKeeper.replayed.Given as goal

-- the tables so far, and the changes that are left
abbrev pub invariant-loop-change : goal.invariant-loop-change
invariant-loop-change l = fold with_change l.replay (drop l.change-index l.self) ≡ rows_after l.self
