use Rattle.std.proofs.Common.{List, ℕ}
use Rattle.desk_law.specs.Allocation.{AllocRule}
use Rattle.desk_law.specs.Lawful.{IsLawful}
use Rattle.desk_law.specs.State.{DeskState}
use Rattle.desk_state.specs.Answering.{Answers}
use Rattle.desk_state.specs.Standing.{IsRunning}
use Rattle.desk_state.specs.Working.{IsClassified}
use Rattle.desk_state.specs.declared.decision.Decision.{Decision}
use Rattle.desk_state.proofs.OkLemmas.{on-ok}
use Rattle.desk_state.proofs.WorkLemmas.{found-known}
use Rattle.desk_state.proofs.running.Running.decide_unused.Goals as goal

pub decide_as_classified-requires-clause-known : goal.decide_as_classified-requires-clause-known
decide_as_classified-requires-clause-known c =
    found-known c.args.config.now c.args.job.now c.args.alloc.now c.in-Some.classified.now c.args.slate.now (rw c.in-Some.is at c.requires.before) (c.classes_are_known.ensures c.args.job.now c.args.alloc.now)

pub returns-in-Some-clause-answers : goal.returns-in-Some-clause-answers
returns-in-Some-clause-answers c =
    let running = c.args.self.now in
    let after = c.decide_as_classified.new.self in
    let job = c.args.job.now in
    let alloc = c.args.alloc.now in
    let came = c.in-Some.classified.now in
    let slate = c.args.slate.now in
    let so : IsClassified c.args.config.now job alloc came slate = rw c.in-Some.is at c.requires.before in
    on-ok
    (λ (made : Decision). (s : DeskState) (other : List ℕ) → IsClassified c.args.config.now other alloc came slate → IsLawful s → IsRunning s running → Answers s after (AllocRule s other alloc) made)
    (λ (made : Decision). (s : DeskState) → IsLawful s → IsRunning s running → Answers s after (AllocRule s job alloc) made)
    c.decide_as_classified.result
    (λ made next. λ s lawful is. next s job so lawful is)
    c.decide_as_classified.ensures.answers
