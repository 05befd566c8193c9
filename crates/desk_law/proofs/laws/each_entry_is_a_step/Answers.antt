use Rattle.std.specs.Prelude.{[]}
use Rattle.desk_law.specs.State.{start_of}
use Rattle.desk_law.proofs.HistoryLemmas.{leads-push, legal-stands}
use Rattle.desk_law.proofs.laws.each_entry_is_a_step.Goals as goal

pub returns : goal.returns
returns c = λ o front rest entry legal.
    let there = legal-stands o front rest entry legal in
    (there.state, there.after, there.leads, there.step, leads-push o [] (start_of o) front entry there.state there.after there.leads there.step)
