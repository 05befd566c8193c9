use Rattle.std.proofs.Common.{[]}
use Rattle.desk_calls.proofs.OrderLemmas.{answered-length}
use Rattle.desk_calls.proofs.answering.answer_shared.Goals as goal

-- each item has its answer
pub run_text-text-requires : goal.run_text-text-requires
run_text-text-requires g c =
    let ran = rw c.in-Ok.is at c.run_shared-answers.ensures.ran in
    record { each = rw c.as_slice.ensures (answered-length c.args.script.now _ [] c.run_shared-answers.result.1.journal ran.once) }
