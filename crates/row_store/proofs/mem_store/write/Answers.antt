use Rattle.row_store.proofs.EngineLemmas.{leaves_of}
use Rattle.row_store.specs.Memory.{MayHold}
use Rattle.row_store.proofs.mem_store.write.Goals as goal

pub returns-clause-leaves : goal.returns-clause-leaves
returns-clause-leaves c = λ x may.
    leaves_of (MayHold c.next_turn-ending.new.engine) (MayHold c.args.engine.now) c.args.transaction.now c.write.result x
    c.next_turn-ending.ensures.may (c.write.ensures.leaves x may)
