use Rattle.row_store.proofs.mem_store.show.Goals as goal

pub returns-in-Ok-clause-may : goal.returns-in-Ok-clause-may
returns-in-Ok-clause-may c = λ x may. c.next_turn.ensures.may x (c.in-Ok.ensures.may x may)
