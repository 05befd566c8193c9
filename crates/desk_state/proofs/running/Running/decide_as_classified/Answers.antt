use Rattle.std.proofs.Common.{◌∙◌, ap, refl, List, ℕ}
use Rattle.acs_tree.specs.Slates.{SlateLines}
use Rattle.sms_construct.specs.declared.trace.Trace.{Trace}
use Rattle.desk_law.specs.Allocation.{AllocRule}
use Rattle.desk_law.specs.Lawful.{IsLawful}
use Rattle.desk_law.specs.State.{DeskState}
use Rattle.desk_state.specs.Answering.{Answers}
use Rattle.desk_state.specs.Standing.{IsRunning}
use Rattle.desk_state.specs.Inner.Wishing.{ClassifiedRule, classes_with}
use Rattle.desk_state.specs.Working.{IsClassified}
use Rattle.desk_state.specs.declared.decision.Decision.{Decision}
use Rattle.desk_state.proofs.AllocationLemmas.{alloc-made}
use Rattle.desk_state.proofs.OkLemmas.{on-ok}
use Rattle.desk_state.proofs.running.Running.decide_as_classified.Goals as goal

-- what is on a slate, as a trace
abbrev trace_on : SlateLines → Trace
trace_on slate = record { lines = slate.lines; more = slate.more }

pub decide_classified-requires-clause-stands : goal.decide_classified-requires-clause-stands
decide_classified-requires-clause-stands c = record {
  state = c.requires.stands.state;
  lawful = c.requires.stands.lawful;
  stands = c.trace_of.ensures.same c.requires.stands.state c.requires.stands.stands;
}

pub decide_classified-requires-clause-active : goal.decide_classified-requires-clause-active
decide_classified-requires-clause-active c = c.trace_of.ensures.config ∙ c.requires.active

pub decide_classified-requires-clause-unused : goal.decide_classified-requires-clause-unused
decide_classified-requires-clause-unused c = c.trace_of.ensures.sets c.args.alloc.now.input.dsn ∙ c.requires.unused

pub returns-clause-same : goal.returns-clause-same
returns-clause-same c = λ s is. c.decide_classified.ensures.same s (c.trace_of.ensures.same s is)

pub returns-clause-answers : goal.returns-clause-answers
returns-clause-answers c =
    let running = c.args.self.now in
    let between = c.trace_of.new.self in
    let after = c.decide_classified.new.self in
    let alloc = c.args.alloc.now in
    let config = c.args.config.now in
    let came = c.args.classified.now in
    let slate = c.args.slate.now in
    let trace = c.in_ok-trace.trace in
    on-ok
    (λ (made : Decision). (s : DeskState) → IsLawful s → IsRunning s between → Answers s after (ClassifiedRule s config alloc (classes_with came.values came.stop trace)) made)
    (λ (made : Decision). (s : DeskState) (job : List ℕ) → IsClassified config job alloc came slate → IsLawful s → IsRunning s running → Answers s after (AllocRule s job alloc) made)
    c.decide_classified.result
    (λ made next. λ s job so lawful is.
    alloc-made s running after job alloc config config config came.values came.stop trace made is c.requires.active c.requires.unused refl refl
    so.values_are so.stop_is (c.in_ok-trace.ensures.trace ∙ ap trace_on so.written_is) (next s lawful (c.trace_of.ensures.same s is)))
    c.decide_classified.ensures.answers
