use Rattle.std.proofs.Common.{ℕ, List}
use Rattle.desk_generator.specs.Summary.{counts_text, times_answered}
use Rattle.desk_generator.proofs.summing.push_counts.Goals as goal

pub returns : goal.returns
unfolding counts_text
returns c = c.in_ok-push_each.ensures (λ (code : List ℕ). times_answered code c.args.answers.now) c.times_of_all.ensures
