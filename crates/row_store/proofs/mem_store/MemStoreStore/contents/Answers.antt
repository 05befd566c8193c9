use Rattle.std.proofs.Common.{subst}
use Rattle.row_store.specs.Memory.{MayHold}
use Rattle.row_store.specs.declared.engine.Engine.{Engine}
use Rattle.row_store.proofs.mem_store.MemStoreStore.contents.Goals as goal

pub returns-clause-leaves : goal.returns-clause-leaves
returns-clause-leaves c = λ x may.
    let could : Engine → Type 0 = λ e. MayHold e x in subst could c.self.view_is (c.show.ensures.may x may)
