use Rattle.std.proofs.Common.{rules, ◌≡◌, [], ◌∷◌, ◌++◌, ap, ◌∙◌}
use Rattle.http_talk.specs.declared.talk.Talk.{Talk}
use Rattle.desk_http.proofs.EnteredLaws.{HasEntered-more}
use Rattle.page_clerk.proofs.FillingLaws.{asked_more, entered_still, unfilled_more}
use Rattle.page_clerk.proofs.page_clerk.hear.Goals as goal

-- where the journal is full, nothing is entered
pub invariant_of-clerk-then-says_full : goal.invariant_of-clerk-then-says_full
invariant_of-clerk-then-says_full g c =
    let talk : Talk = record { request = c.in_ok-request.request; answer = c.step-answer.result } in
    let held = c.clerk.invariant in
    let step = c.step-answer.ensures in
    rw c.reserve.ensures.items (
      entered_still c.clerk.inside.start.value c.clerk.inside.core c.step-answer.new.self c.clerk.inside.talks.items talk held.0 step.opening step.mark step.enters.journal_is
          (c.says_full.ensures.full c.if-says_full.true),
      held.1,
      held.2,
    )

-- the step's entry is that of the talk
pub invariant_of-clerk-2 : goal.invariant_of-clerk-2
invariant_of-clerk-2 g c =
    let talk : Talk = record { request = c.in_ok-request.request; answer = c.step-answer.result } in
    let whole : c.push_reserved.new.self.items ≡ c.clerk.inside.talks.items ++ talk ∷ [] = c.push_reserved.ensures.items ∙ ap (λ l. l ++ talk ∷ []) c.reserve.ensures.items in
    let held = c.clerk.invariant in
    let step = c.step-answer.ensures in
    rw whole (
      HasEntered-more c.clerk.inside.start.value c.clerk.inside.core c.step-answer.new.self c.clerk.inside.talks.items talk held.0
          step.opening step.mark step.enters.journal_is step.enters.no_place step.enters.full,
      unfilled_more c.clerk.inside.talks.items talk held.1 (c.says_full.ensures.other c.if-says_full.false),
      asked_more c.clerk.inside.talks.items talk c.clerk.inside.asked _ held.2 c.asked_after-clerk-inside.ensures,
    )

-- the talk is the last
pub returns-clause-ok : goal.returns-clause-ok
returns-clause-ok g c =
    let talk : Talk = record { request = c.in_ok-request.request; answer = c.step-answer.result } in
    let before : c.clerk.inside.talks.items ≡ c.args.clerk.now.talks = search rules in
    let same : talk.request ≡ c.args.request.now = search rules in
    (talk, c.push_reserved.ensures.items ∙ ap (λ l. l ++ talk ∷ []) (c.reserve.ensures.items ∙ before), same)
