use Rattle.desk_state.proofs.WorkLemmas.{made-shared}
use Rattle.desk_state.proofs.using.read_now.Goals as goal

pub returns-in-Ok : goal.returns-in-Ok
returns-in-Ok c = c.or_no_memory.ensures c.args.deck.now (made-shared c.args.deck.now c.in-Ok.config c.new.result (rw c.in-Ok.is at c.read_deck.ensures.ok) c.new.ensures)

pub returns-in-Err : goal.returns-in-Err
returns-in-Err c = record { ok = tt; err = rw c.in-Err.is at c.read_deck.ensures.err }
