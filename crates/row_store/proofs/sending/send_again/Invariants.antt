use Rattle.std.proofs.Common.{◌≡◌}
use Rattle.std.specs.Prelude.{IsTrue}
use Rattle.row_store.specs.declared.contents.Contents.{Contents}
use Rattle.row_store.specs.Inner.Holding.{MayCome}
use Rattle.row_store.proofs.sending.send_again.Given as goal

-- what was seen stays, and only the change may come
abbrev pub invariant-loop : goal.invariant-loop
invariant-loop g l =
    IsTrue (g.S.Store.is_true l.store) → IsTrue (g.S.Store.is_true l.fn.store)
    × ((g.S.Store.seen l.store ≡ g.S.Store.seen l.fn.store)
    × ((c : Contents) → g.S.Store.may l.store c → MayCome (g.S.Store.seen l.fn.store) l.change c))
