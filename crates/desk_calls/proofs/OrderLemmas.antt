-- Answers in script order are those of the phases one after the other.
use Rattle.std.proofs.Common.{◌≡◌, ◌≤◌, ◌+◌, List, [], ◌∷◌, ◌++◌, ℕ, zero, suc, take, drop, length, refl, subst, sym}
use Rattle.std.proofs.Common.{ap, ◌∙◌, arith, append_assoc, append-nil, length-append}
use Rattle.sms_construct.specs.declared.entry.Answer.{Answer}
use Rattle.sms_construct.specs.declared.entry.Entry.{Entry}
use Rattle.sms_core.specs.Core.{entry_of}
use Rattle.sms_script.specs.declared.item.Item.{Item}
use Rattle.sms_script.specs.Script.{items_of}
use Rattle.desk_workers.specs.Phases.{AreAnswered, AreDueIn, IsDueIn, IsPhaseAnswered, entries_for}
use Rattle.desk_workers.proofs.DueLemmas.{full-longer}
use Rattle.desk_calls.specs.Run.{AnswersInOrder, AreDue, IsDue}
use Rattle.desk_calls.proofs.RunLemmas.{entries_for-append}

-- so many answers, and the others
take-drop : (n : ℕ) (xs : List Answer) → xs ≡ take n xs ++ drop n xs
take-drop zero xs = refl
take-drop (suc n) [] = refl
take-drop (suc n) (x ∷ xs) = ap (λ ys. x ∷ ys) (take-drop n xs)

take-many : (n : ℕ) (xs : List Answer) → n ≤ length xs → length (take n xs) ≡ n
take-many zero xs less = refl
take-many (suc n) [] less = absurd (omega (arith, less))
take-many (suc n) (x ∷ xs) less = ap suc (take-many n xs (omega (arith, less)))

-- what is due behind the entries before it is due in each history that goes on from its entry
due-in : (h more : List Entry) (item : Item) (answer : Answer) → IsDue h item.request answer → IsDueIn (h ++ more) item.request answer
due-in h more item answer due = record { unplaced = due.unplaced; first = due.first; full = λ full. full-longer h more item.request.op (due.full.0 full) }

all-due-in : (h : List Entry) (answers : List Answer) (items : List Item) (history : List Entry) (rest : List Entry) → length answers ≡ length items → AreDue h answers items
    → history ≡ h ++ (entries_for answers items ++ rest) → AreDueIn history answers items
all-due-in h [] [] history rest each due is = tt
all-due-in h [] (i ∷ items) history rest each due is = absurd (omega (arith, each))
all-due-in h (a ∷ answers) [] history rest each due is = absurd (omega (arith, each))
all-due-in h (a ∷ answers) (i ∷ items) history rest each due is =
    let entry : List Entry = entry_of i.request a in
    let next : history ≡ (h ++ entry) ++ (entries_for answers items ++ rest) =
    is ∙ ap (λ es. h ++ es) (append_assoc entry (entries_for answers items) rest) ∙ sym (append_assoc h entry (entries_for answers items ++ rest)) in (
      subst (λ es. IsDueIn es i.request a) (sym is) (due-in h (entries_for (a ∷ answers) (i ∷ items) ++ rest) i a due.0),
      all-due-in (h ++ entry) answers items history rest (omega (arith, each)) due.1 next,
    )

due-first : (h : List Entry) (xs ys : List Answer) (items more : List Item) → length xs ≡ length items → AreDue h (xs ++ ys) (items ++ more) → AreDue h xs items
due-first h [] ys [] more each due = tt
due-first h [] ys (i ∷ items) more each due = absurd (omega (arith, each))
due-first h (x ∷ xs) ys [] more each due = absurd (omega (arith, each))
due-first h (x ∷ xs) ys (i ∷ items) more each due = (due.0, due-first (h ++ entry_of i.request x) xs ys items more (omega (arith, each)) due.1)

due-behind : (h : List Entry) (xs ys : List Answer) (items more : List Item) → length xs ≡ length items → AreDue h (xs ++ ys) (items ++ more) → AreDue (h ++ entries_for xs items) ys more
due-behind h [] ys [] more each due = subst (λ es. AreDue es ys more) (sym (append-nil h)) due
due-behind h [] ys (i ∷ items) more each due = absurd (omega (arith, each))
due-behind h (x ∷ xs) ys [] more each due = absurd (omega (arith, each))
due-behind h (x ∷ xs) ys (i ∷ items) more each due =
    subst (λ es. AreDue es ys more) (append_assoc h (entry_of i.request x) (entries_for xs items)) (due-behind (h ++ entry_of i.request x) xs ys items more (omega (arith, each)) due.1)

-- one phase
phase-in_order : (items : List Item) (answers : List Answer) (old new : List Entry) → AnswersInOrder items answers old new → IsPhaseAnswered items answers old new
phase-in_order items answers old new done = record {
  each = done.each;
  added = entries_for answers items;
  grown = done.once;
  jobs = λ job. refl;
  due = all-due-in old answers items new [] done.each done.due (done.once ∙ ap (λ es. old ++ es) (sym (append-nil (entries_for answers items))));
}

none-left : (answers : List Answer) → length answers ≡ 0 → answers ≡ []
none-left [] each = refl
none-left (a ∷ answers) each = absurd (omega (arith, each))

-- all phases
pub in_order_answered : (phases : List (List Item)) (answers : List Answer) (old new : List Entry) → AnswersInOrder (items_of phases) answers old new → AreAnswered phases answers old new
in_order_answered [] answers old new done =
    let none : answers ≡ [] = none-left answers done.each in
    (none, done.once ∙ ap (λ xs. old ++ entries_for xs []) none ∙ append-nil old)
in_order_answered (items ∷ phases) answers old new done =
    let n = length items in
    let xs = take n answers in
    let ys = drop n answers in
    let parts : answers ≡ xs ++ ys = take-drop n answers in
    let many : n ≤ length answers = omega (arith, done.each, length-append items (items_of phases)) in
    let each : length xs ≡ length items = take-many n answers many in
    let both : AnswersInOrder (items ++ items_of phases) (xs ++ ys) old new = subst (λ zs. AnswersInOrder (items ++ items_of phases) zs old new) parts done in
    let first : AnswersInOrder items xs old (old ++ entries_for xs items) = record { each = each; once = refl; due = due-first old xs ys items (items_of phases) each both.due } in
    let rest : AnswersInOrder (items_of phases) ys (old ++ entries_for xs items) new = record {
      each = omega (arith, both.each, length-append xs ys, length-append items (items_of phases), each);
      once = both.once ∙ ap (λ es. old ++ es) (entries_for-append xs ys items (items_of phases) each) ∙ sym (append_assoc old (entries_for xs items) (entries_for ys (items_of phases)));
      due = due-behind old xs ys items (items_of phases) each both.due;
    } in
    (xs, ys, old ++ entries_for xs items, parts, phase-in_order items xs old (old ++ entries_for xs items) first, in_order_answered phases ys (old ++ entries_for xs items) new rest)

-- each item has its answer
pub answered-length : (phases : List (List Item)) (answers : List Answer) (old new : List Entry) → AreAnswered phases answers old new → length answers ≡ length (items_of phases)
answered-length [] answers old new done = ap length done.0
answered-length (items ∷ phases) answers old new done =
    let rest = answered-length phases done.1 done.2 new done.5 in
    omega (arith, ap length done.3, length-append done.0 done.1, done.4.each, rest, length-append items (items_of phases))
