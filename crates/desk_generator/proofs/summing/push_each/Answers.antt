use Rattle.desk_generator.proofs.LineLemmas.{line_more}
use Rattle.desk_generator.proofs.summing.push_each.Goals as goal

pub loop-place-preserved : goal.loop-place-preserved
loop-place-preserved c = λ times_of are.
    line_more (λ code. code.now) times_of c.args.text.now.items _ _ c.args.all.now c.args.times.now c.loop-place.place _ c.loop-place-test.true are (c.loop-place.invariant times_of are) c.in_ok-push_count.ensures
