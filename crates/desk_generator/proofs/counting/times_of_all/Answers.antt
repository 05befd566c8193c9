use Rattle.std.proofs.Common.{arith}
use Rattle.desk_generator.proofs.CountLemmas.{count_fits, counts_more, counts_whole}
use Rattle.desk_generator.proofs.counting.times_of_all.Goals as goal

pub overflow_add-times : goal.overflow_add-times
overflow_add-times c =
    let few = count_fits c.args.answers.now c.loop-answer.answer-index c.place_of.result c.loop-answer.times c.loop-answer.invariant in omega (arith, few, c.loop-answer-test.true)

pub loop-answer-preserved : goal.loop-answer-preserved
loop-answer-preserved c =
    counts_more c.args.answers.now c.loop-answer.answer-index c.answer-item.result c.loop-answer.times c.place_of.result c.loop-answer-test.true c.answer-item.is c.loop-answer.invariant c.place_of.ensures.place

pub returns : goal.returns
returns c = counts_whole c.args.answers.now c.loop-answer.answer-index c.loop-answer.times c.loop-answer-test.false c.loop-answer.invariant
