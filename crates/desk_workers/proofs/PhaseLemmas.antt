-- Phases one after the other, and items of a phase that are answered in their order.
use Rattle.std.proofs.Common.{◌≡◌, ℕ, suc, ◌<◌, Bool, true, false, List, [], ◌∷◌, ◌++◌}
use Rattle.std.proofs.Common.{length, take, get_or, append-nil, append_assoc, length-append, refl, sym, ap, subst, ◌∙◌}
use Rattle.std.proofs.Common.{arith}
use Rattle.std.specs.Prelude.{Option}
use Rattle.sms_construct.specs.declared.entry.Answer.{Answer}
use Rattle.sms_construct.specs.declared.entry.Entry.{Entry}
use Rattle.sms_construct.specs.declared.request.Request.{Request}
use Rattle.sms_keeper.specs.declared.rows.Rows.{Rows}
use Rattle.desk_law.specs.State.{Opening}
use Rattle.desk_law.specs.Kept.{is_entered}
use Rattle.sms_core.specs.Core.{Enters, entry_of}
use Rattle.sms_script.specs.declared.item.Item.{Item}
use Rattle.desk_plan.proofs.FrontLemmas.{made-push, take-length, take-more, take-whole}
use Rattle.desk_workers.specs.Phases.{AreAnswered, HasPhase, HasSteps, IsDueIn, IsFrontAnswered}
use Rattle.desk_workers.specs.Phases.{IsPhaseAnswered, entries_for, entry_for}
use Rattle.desk_workers.proofs.DueLemmas.{all-due-longer, all-due-push, full-longer}

-- Steps on a core.

unplaced : (o : Opening) (old new : List Entry) (told told' : Option Rows) (count count' : ℕ) (request : Request) (answer : Answer) (b : Bool) → Enters o old new told told' count count' request answer → is_entered answer.reply ≡ b → answer.place ≡ 0 → b ≡ false
unplaced o old new told told' count count' request answer false enters is none = refl
unplaced o old new told told' count count' request answer true enters is none = let next = enters.lawful is in absurd (omega (arith, none, next.step.place))

-- the answer of a step is due in the history behind it
pub step-due : (o : Opening) (old new : List Entry) (told told' : Option Rows) (count count' : ℕ) (request : Request) (answer : Answer) → Enters o old new told told' count count' request answer → IsDueIn new request answer
step-due o old new told told' count count' request answer enters = record {
  unplaced = (λ none. unplaced o old new told told' count count' request answer (is_entered answer.reply) enters refl none, λ none. (enters.no_place none).0);
  first = λ none. (enters.no_place none).1;
  full = λ full. rw enters.journal_is (full-longer old (entry_of request answer) request.op (enters.full.0 full));
}

pub steps-none : (items : List Item) (before : List Answer) (h : List Entry) → HasSteps items 0 before before h h
steps-none items before h = record { answers = []; behind = sym (append-nil before); counted = refl; grown = sym (append-nil h); due = tt }

pub steps-push : (items : List Item) (count : ℕ) (before after after' : List Answer) (old mid new : List Entry) (item : Item) (answer : Answer) (o : Opening) (told told' : Option Rows) (faults faults' : ℕ)
    → HasSteps items count before after old mid → count < length items → item ≡ get_or items count item → Enters o mid new told told' faults faults' item.request answer → after' ≡ after ++ answer ∷ []
    → HasSteps items (suc count) before after' old new
steps-push items count before after after' old mid new item answer o told told' faults faults' steps less here enters grown =
    let more : take (suc count) items ≡ take count items ++ item ∷ [] = take-more items count item less here in
    let pair : length steps.answers ≡ length (take count items) = steps.counted ∙ sym (take-length items count (omega (arith, less))) in
    let made : entries_for (steps.answers ++ answer ∷ []) (take count items ++ item ∷ []) ≡ entries_for steps.answers (take count items) ++ entry_for item answer = made-push entry_for steps.answers (take count items) answer item pair in
    record {
      answers = steps.answers ++ answer ∷ [];
      behind = grown ∙ ap (λ all. all ++ answer ∷ []) steps.behind ∙ append_assoc before steps.answers (answer ∷ []);
      counted = length-append steps.answers (answer ∷ []) ∙ omega (arith, steps.counted);
      grown = rw (more, made) (enters.journal_is ∙ ap (λ es. es ++ entry_for item answer) steps.grown ∙ append_assoc old (entries_for steps.answers (take count items)) (entry_for item answer));
      due = rw more (all-due-push new steps.answers (take count items) answer item pair (rw enters.journal_is (all-due-longer mid (entry_of item.request answer) steps.answers (take count items) steps.due))
          (step-due o mid new told told' faults faults' item.request answer enters));
    }

-- all items are answered
pub steps-phase : (items : List Item) (before after : List Answer) (old new : List Entry) → HasSteps items (length items) before after old new → HasPhase items before after old new
steps-phase items before after old new steps =
    let whole : take (length items) items ≡ items = take-whole items in
    record {
      answers = steps.answers;
      behind = steps.behind;
      answered = record {
        each = steps.counted;
        added = entries_for steps.answers items;
        grown = rw whole at steps.grown;
        jobs = λ job. refl;
        due = rw whole at steps.due;
      };
    }

-- Phases.

pub answered-none : (h : List Entry) → AreAnswered [] [] h h
answered-none h = (refl, refl)

pub answered-push : (phases : List (List Item)) (answers : List Answer) (items : List Item) (more : List Answer) (old middle new : List Entry) → AreAnswered phases answers old middle → IsPhaseAnswered items more middle new
    → AreAnswered (phases ++ items ∷ []) (answers ++ more) old new
answered-push [] answers items more old middle new done next =
    let none : answers ++ more ≡ more ++ [] = ap (λ xs. xs ++ more) done.0 ∙ sym (append-nil more) in
    (more, [], new, none, subst (λ h. IsPhaseAnswered items more h new) done.1 next, (refl, refl))
answered-push (phase ∷ phases) answers items more old middle new done next =
    let rest = answered-push phases done.1 items more done.2 middle new done.5 next in
    (done.0, done.1 ++ more, done.2, ap (λ xs. xs ++ more) done.3 ∙ append_assoc done.0 done.1 more, done.4, rest)

-- one more of the phases is answered
pub phases-push : (phases : List (List Item)) (i : ℕ) (items : List Item) (before after : List Answer) (old middle new : List Entry) → i < length phases → items ≡ get_or phases i items → AreAnswered (take i phases) before old middle → HasPhase items before after middle new
    → AreAnswered (take (suc i) phases) after old new
phases-push phases i items before after old middle new less here done phase =
    rw (take-more phases i items less here, phase.behind) (answered-push (take i phases) before items phase.answers old middle new done phase.answered)

-- so many phases are answered, and nothing of the next
pub front-answered : (phases : List (List Item)) (i : ℕ) (answers : List Answer) (old middle new : List Entry) → AreAnswered (take i phases) answers old middle → new ≡ middle → IsFrontAnswered phases old new
front-answered phases i answers old middle new done same = record { count = i; answers = answers; answered = rw same done }
