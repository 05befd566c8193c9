-- One more answer.
use Rattle.std.proofs.Common.{◌≡◌, ◌<◌, ◌≤◌, ◌+◌, List, [], ◌∷◌, ◌++◌, ℕ, zero, suc, Bool, true, false, take, drop}
use Rattle.std.proofs.Common.{length, get_or, refl, subst, sym, ap, ◌∙◌, arith, append_assoc, append-nil, length-append}
use Rattle.std.specs.Prelude.{Option}
use Rattle.sms_construct.specs.declared.entry.Answer.{Answer}
use Rattle.sms_construct.specs.declared.entry.Entry.{Entry}
use Rattle.sms_construct.specs.declared.request.Request.{Request}
use Rattle.sms_keeper.specs.declared.rows.Rows.{Rows}
use Rattle.desk_law.specs.State.{Opening}
use Rattle.desk_law.specs.Kept.{is_entered}
use Rattle.sms_core.specs.Core.{Enters, entry_of}
use Rattle.sms_script.specs.declared.item.Item.{Item}
use Rattle.sms_script.specs.Script.{items_of}
use Rattle.desk_workers.specs.Phases.{entries_for}
use Rattle.desk_calls.specs.Run.{AnswersFront, AnswersInOrder, AreDue, IsDue}

-- Answers that are due.

due-push : (h : List Entry) (answers : List Answer) (items : List Item) (answer : Answer) (d : Item) → length answers < length items
    → AreDue h answers items → IsDue (h ++ entries_for answers items) (get_or items (length answers) d).request answer → AreDue h (answers ++ answer ∷ []) items
due-push h answers [] answer d less due one = absurd (omega arith)
due-push h [] (i ∷ items) answer d less due one = (subst (λ es. IsDue es i.request answer) (append-nil h) one, tt)
due-push h (a ∷ answers) (i ∷ items) answer d less due one =
    let behind = sym (append_assoc h (entry_of i.request a) (entries_for answers items)) in
    (due.0, due-push (h ++ entry_of i.request a) answers items answer d (omega arith) due.1 (subst (λ es. IsDue es (get_or items (length answers) d).request answer) behind one))

due-append : (h : List Entry) (xs ys : List Answer) (items more : List Item) → length xs ≡ length items → AreDue h xs items → AreDue (h ++ entries_for xs items) ys more
    → AreDue h (xs ++ ys) (items ++ more)
due-append h [] ys [] more each due next = subst (λ es. AreDue es ys more) (append-nil h) next
due-append h [] ys (i ∷ items) more each due next = absurd (omega arith)
due-append h (x ∷ xs) ys [] more each due next = absurd (omega arith)
due-append h (x ∷ xs) ys (i ∷ items) more each due next =
    let behind = sym (append_assoc h (entry_of i.request x) (entries_for xs items)) in
    (due.0, due-append (h ++ entry_of i.request x) xs ys items more (omega arith) due.1 (subst (λ es. AreDue es ys more) behind next))

no-place : (o : Opening) (old new : List Entry) (told told' : Option Rows) (count count' : ℕ) (request : Request) (answer : Answer) (b : Bool)
    → Enters o old new told told' count count' request answer → is_entered answer.reply ≡ b → answer.place ≡ 0 → b ≡ false
no-place o old new told told' count count' request answer false enters is none = refl
no-place o old new told told' count count' request answer true enters is none = let next = enters.lawful is in absurd (omega (arith, none, next.step.place))

-- the answer of a step is due
step-due : (o : Opening) (old new : List Entry) (told told' : Option Rows) (count count' : ℕ) (request : Request) (answer : Answer)
    → Enters o old new told told' count count' request answer → IsDue old request answer
step-due o old new told told' count count' request answer enters = record {
  unplaced = (λ none. no-place o old new told told' count count' request answer (is_entered answer.reply) enters refl none, λ none. (enters.no_place none).0);
  first = λ none. (enters.no_place none).1;
  full = enters.full;
}

-- Entries.

-- the next item's answer adds its entry
entries_for-push : (answers : List Answer) (items : List Item) (answer : Answer) (d : Item) → length answers < length items
    → entries_for (answers ++ answer ∷ []) items ≡ entries_for answers items ++ entry_of (get_or items (length answers) d).request answer
entries_for-push answers [] answer d less = absurd (omega arith)
entries_for-push [] (item ∷ items) answer d less = append-nil (entry_of item.request answer)
entries_for-push (a ∷ answers) (item ∷ items) answer d less =
    ap (λ es. entry_of item.request a ++ es) (entries_for-push answers items answer d (omega arith)) ∙ sym (append_assoc (entry_of item.request a) _ _)

-- the core entered the next item's answer
entered-push : (answers : List Answer) (items : List Item) (answer : Answer) (item : Item) (first before after : List Entry) → length answers < length items
    → item ≡ get_or items (length answers) item → before ≡ first ++ entries_for answers items → after ≡ before ++ entry_of item.request answer
    → after ≡ first ++ entries_for (answers ++ answer ∷ []) items
entered-push answers items answer item first before after less here once next =
    let more : entries_for (answers ++ answer ∷ []) items ≡ entries_for answers items ++ entry_of item.request answer =
    entries_for-push answers items answer item less ∙ ap (λ (i : Item). entries_for answers items ++ entry_of i.request answer) (sym here) in
    next ∙ ap (λ es. es ++ entry_of item.request answer) once ∙ append_assoc first _ _ ∙ ap (λ es. first ++ es) (sym more)

-- the answers of more items join
pub entries_for-append : (xs ys : List Answer) (items more : List Item) → length xs ≡ length items → entries_for (xs ++ ys) (items ++ more) ≡ entries_for xs items ++ entries_for ys more
entries_for-append [] ys [] more each = refl
entries_for-append [] ys (i ∷ items) more each = absurd (omega arith)
entries_for-append (x ∷ xs) ys [] more each = absurd (omega arith)
entries_for-append (x ∷ xs) ys (i ∷ items) more each =
    ap (λ es. entry_of i.request x ++ es) (entries_for-append xs ys items more (omega arith)) ∙ sym (append_assoc (entry_of i.request x) _ _)

-- Items of a phase.

-- no item is answered yet
pub front-none : (items : List Item) (before : List Answer) (h : List Entry) → AnswersFront items 0 before before h h
front-none items before h = record { answers = []; behind = sym (append-nil before); counted = refl; once = sym (append-nil h); due = tt }

-- the next item is answered
pub front-push : (items : List Item) (count : ℕ) (before after after' : List Answer) (old mid new : List Entry) (item : Item) (answer : Answer)
    (o : Opening) (told told' : Option Rows) (faults faults' : ℕ) → AnswersFront items count before after old mid → count < length items → item ≡ get_or items count item
    → Enters o mid new told told' faults faults' item.request answer → after' ≡ after ++ answer ∷ [] → AnswersFront items (count + 1) before after' old new
front-push items count before after after' old mid new item answer o told told' faults faults' front less here enters grown =
    let answers = front.answers in
    let there : item ≡ get_or items (length answers) item = rw front.counted here in
    let shorter : length answers < length items = omega (arith, front.counted, less) in
    let due = step-due o mid new told told' faults faults' item.request answer enters in
    record {
      answers = answers ++ answer ∷ [];
      behind = grown ∙ ap (λ all. all ++ answer ∷ []) front.behind ∙ append_assoc before answers (answer ∷ []);
      counted = omega (arith, length-append answers (answer ∷ []), front.counted);
      once = entered-push answers items answer item old mid new shorter there front.once enters.journal_is;
      due = due-push old answers items answer item shorter front.due (rw (← there) (subst (λ es. IsDue es item.request answer) front.once due));
    }

-- so many answers there are
pub front-length : (items : List Item) (count : ℕ) (before after : List Answer) (old new : List Entry) → AnswersFront items count before after old new → length after ≡ length before + count
front-length items count before after old new front = rw front.behind (omega (arith, length-append before front.answers, front.counted))

-- Phases.

-- no phase is answered yet
pub order-none : (h : List Entry) → AnswersInOrder [] [] h h
order-none h = record { each = refl; once = sym (append-nil h); due = tt }

-- one more phase is answered
pub phase-answered : (items more : List Item) (before after : List Answer) (old mid new : List Entry) → AnswersInOrder items before old mid → AnswersFront more (length more) before after mid new
    → AnswersInOrder (items ++ more) after old new
phase-answered items more before after old mid new done next = rw next.behind (record {
  each = omega (arith, length-append before next.answers, length-append items more, done.each, next.counted);
  once = next.once ∙ ap (λ es. es ++ entries_for next.answers more) done.once ∙ append_assoc old _ _
      ∙ ap (λ es. old ++ es) (sym (entries_for-append before next.answers items more done.each));
  due = due-append old before next.answers items more done.each done.due (subst (λ es. AreDue es next.answers more) done.once next.due);
})

-- the items up to the next phase
pub items_up_to : (phases : List (List Item)) (i : ℕ) (phase : List Item) → i < length phases → phase ≡ get_or phases i phase → items_of (take (suc i) phases) ≡ items_of (take i phases) ++ phase
items_up_to [] i phase less here = absurd (omega arith)
items_up_to (p ∷ phases) zero phase less here = append-nil p ∙ sym here
items_up_to (p ∷ phases) (suc i) phase less here =
    ap (λ items. p ++ items) (items_up_to phases i phase (omega arith) here) ∙ sym (append_assoc p (items_of (take i phases)) phase)

-- the items before a phase, those of it, and those behind it
items_around : (phases : List (List Item)) (i : ℕ) (phase : List Item) → i < length phases → phase ≡ get_or phases i phase
    → items_of phases ≡ items_of (take i phases) ++ (phase ++ items_of (drop (suc i) phases))
items_around [] i phase less here = absurd (omega arith)
items_around (p ∷ phases) zero phase less here = ap (λ items. items ++ items_of phases) (sym here)
items_around (p ∷ phases) (suc i) phase less here =
    ap (λ items. p ++ items) (items_around phases i phase (omega arith) here) ∙ sym (append_assoc p (items_of (take i phases)) _)

-- a phase has room behind those before it
pub phase-room : (phases : List (List Item)) (i : ℕ) (phase : List Item) → i < length phases → phase ≡ get_or phases i phase → length (items_of (take i phases)) + length phase ≤ length (items_of phases)
phase-room phases i phase less here =
    omega (arith, ap length (items_around phases i phase less here), length-append (items_of (take i phases)) (phase ++ items_of (drop (suc i) phases)), length-append phase (items_of (drop (suc i) phases)))
