use Rattle.std.proofs.Common.{subst}
use Rattle.desk_state.specs.Working.{IsReadAs}
use Rattle.desk_state.proofs.WorkLemmas.{read-shared}
use Rattle.desk_state.proofs.using.shared.Goals as goal

pub returns-in-Ok : goal.returns-in-Ok
returns-in-Ok c = λ deck is. c.or_no_memory.ensures deck (read-shared deck c.args.read.now _ c.share.result c.in-Ok.is c.share.ensures is)

pub returns-in-Err : goal.returns-in-Err
returns-in-Err c = λ deck is. subst (IsReadAs deck) c.in-Err.is is
