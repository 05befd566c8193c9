use Rattle.std.proofs.Common.{List, ℕ}
use Rattle.desk_law.specs.Allocation.{AllocRule}
use Rattle.desk_law.specs.Lawful.{IsLawful}
use Rattle.desk_law.specs.State.{DeskState}
use Rattle.desk_state.specs.Answering.{Answers}
use Rattle.desk_state.specs.Standing.{IsRunning}
use Rattle.desk_state.specs.Working.{IsClassified}
use Rattle.desk_state.specs.declared.decision.Decision.{Decision}
use Rattle.desk_state.proofs.OkLemmas.{on-ok}
use Rattle.desk_state.proofs.running.Running.decide_unclassified.Goals as goal

pub returns-clause-answers : goal.returns-clause-answers
returns-clause-answers c =
    let running = c.args.self.now in
    let after = c.decide_as_classified.new.self in
    let job = c.args.job.now in
    let alloc = c.args.alloc.now in
    let made_of = c.classify-classified in
    let written = made_of.new.slate in
    let so : IsClassified c.args.config.now job alloc made_of.result written =
    record { values_are = made_of.ensures.values; stop_is = made_of.ensures.stop; written_is = made_of.ensures.slate } in
    on-ok
    (λ (made : Decision). (s : DeskState) (other : List ℕ) → IsClassified c.args.config.now other alloc made_of.result written → IsLawful s → IsRunning s running → Answers s after (AllocRule s other alloc) made)
    (λ (made : Decision). (s : DeskState) → IsLawful s → IsRunning s running → Answers s after (AllocRule s job alloc) made)
    c.decide_as_classified.result
    (λ made next. λ s lawful is. next s job so lawful is)
    c.decide_as_classified.ensures.answers
