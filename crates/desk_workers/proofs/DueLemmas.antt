-- Answers that are due, as the history goes on.
use Rattle.std.proofs.lemmas.Bool.Decides.{nat_tests}
use Rattle.std.proofs.lemmas.List.Sums.{sum_by-append}
use Rattle.std.proofs.Common.{◌≡◌, ℕ, ◌+◌, ◌≤◌, ◌&&◌, ◌||◌, Bool, true, false, cond}
use Rattle.std.proofs.Common.{List, [], ◌∷◌, ◌++◌, length, append_assoc, length-append, refl}
use Rattle.std.proofs.Common.{◌∙◌, arith}
use Rattle.std.specs.Prelude.{count_by, nat_le}
use Rattle.sms_construct.specs.declared.entry.Answer.{Answer}
use Rattle.sms_construct.specs.declared.entry.Entry.{Entry}
use Rattle.sms_construct.specs.declared.request.Op.{Op}
use Rattle.sms_construct.specs.declared.request.Request.{Request}
use Rattle.turn_lock.specs.declared.signed.Signed.{Signed}
use Rattle.turn_lock.specs.Views.{StartsWith}
use Rattle.desk_law.specs.Kept.{is_entered}
use Rattle.desk_law.specs.Limits.{most_activations, most_entries}
use Rattle.desk_law.specs.Step.{activates, is_activation}
use Rattle.desk_records.specs.Full.{is_full_for}
use Rattle.sms_core.specs.Core.{entry_of}
use Rattle.sms_script.specs.declared.item.Item.{Item}
use Rattle.desk_signing.specs.declared.event.Event.{Event}
use Rattle.desk_signing.specs.Signing.{entries_in, by_seat}
use Rattle.desk_signing.proofs.SignLemmas.{entries-starts}
use Rattle.sms_desk.specs.Signed.{Adds}
use Rattle.sms_desk.specs.Seats.{Submits}
use Rattle.sms_desk.proofs.AddLemmas.{adds-goes-on}
use Rattle.desk_workers.specs.Phases.{AreDueIn, IsDueIn}

count-append : {A : Type 0} (p : A → Bool) (xs ys : List A) → count_by p xs ≤ count_by p (xs ++ ys)
count-append p xs ys =
    let both : count_by p (xs ++ ys) ≡ count_by p xs + count_by p ys = sum_by-append (λ x. cond (p x) 1 0) xs ys in
    omega (arith, both)

le-more : (n a b : ℕ) → a ≤ b → nat_le n a ≡ true → nat_le n b ≡ true
le-more n a b up is = grind (arith, nat_tests, up, is)

or-behind : (c : Bool) → (c || true) ≡ true
or-behind true = refl
or-behind false = refl

or-more : (a b c d : Bool) → (a ≡ true → c ≡ true) → (b ≡ true → d ≡ true) → (a || b) ≡ true → (c || d) ≡ true
or-more true b c d first second is = rw (first refl) refl
or-more false b c d first second is = rw (second is) (or-behind c)

and-more : (a b d : Bool) → (b ≡ true → d ≡ true) → (a && b) ≡ true → (a && d) ≡ true
and-more true b d second is = second is
and-more false b d second is = is

-- a journal that is full stays so
pub full-longer : (h more : List Entry) (op : Op) → is_full_for h op ≡ true → is_full_for (h ++ more) op ≡ true
full-longer h more op is =
    or-more (nat_le most_entries (length h)) (is_activation op && nat_le most_activations (count_by activates h))
    (nat_le most_entries (length (h ++ more))) (is_activation op && nat_le most_activations (count_by activates (h ++ more)))
    (le-more most_entries (length h) (length (h ++ more)) (omega (arith, length-append h more)))
    (and-more (is_activation op) (nat_le most_activations (count_by activates h)) (nat_le most_activations (count_by activates (h ++ more)))
    (le-more most_activations (count_by activates h) (count_by activates (h ++ more)) (count-append activates h more)))
    is

pub due-longer : (h more : List Entry) (request : Request) (answer : Answer) → IsDueIn h request answer → IsDueIn (h ++ more) request answer
due-longer h more request answer due = record { unplaced = due.unplaced; first = due.first; full = λ full. full-longer h more request.op (due.full full) }

pub all-due-longer : (h more : List Entry) (answers : List Answer) (items : List Item) → AreDueIn h answers items → AreDueIn (h ++ more) answers items
all-due-longer h more [] [] due = tt
all-due-longer h more [] (i ∷ items) due = due
all-due-longer h more (a ∷ answers) [] due = due
all-due-longer h more (a ∷ answers) (i ∷ items) due = (due-longer h more i.request a due.0, all-due-longer h more answers items due.1)

pub all-due-starts : (list seen : List (Signed Event)) (answers : List Answer) (items : List Item) → StartsWith list seen → AreDueIn (entries_in seen) answers items → AreDueIn (entries_in list) answers items
all-due-starts list seen answers items starts due = rw (entries-starts list seen starts) (all-due-longer (entries_in seen) (entries_in starts.0) answers items due)

pub all-due-push : (h : List Entry) (answers : List Answer) (items : List Item) (a : Answer) (i : Item) → length answers ≡ length items → AreDueIn h answers items → IsDueIn h i.request a → AreDueIn h (answers ++ a ∷ []) (items ++ i ∷ [])
all-due-push h [] [] a i same due one = (one, tt)
all-due-push h [] (j ∷ items) a i same due one = absurd (omega (arith, same))
all-due-push h (b ∷ answers) [] a i same due one = absurd (omega (arith, same))
all-due-push h (b ∷ answers) (j ∷ items) a i same due one = (due.0, all-due-push h answers items a i (omega (arith, same)) due.1 one)

unplaced : (list new : List (Signed Event)) (number : ℕ) (request : Request) (answer : Answer) (entered : Bool) → Adds list new number request answer → is_entered answer.reply ≡ entered → answer.place ≡ 0 → entered ≡ false
unplaced list new number request answer false adds is none = refl
unplaced list new number request answer true adds is none = let next = adds.lawful is in absurd (omega (arith, none, next.step.place))

-- the answer of a turn is due in what the seat has seen then
pub submits-due : (old new : List (Signed Event)) (number : ℕ) (request : Request) (answer : Answer) → Submits old new number request answer → IsDueIn (entries_in new) request answer
submits-due old new number request answer did =
    let goes = adds-goes-on (old ++ did.between) new number request answer did.adds in
    record {
      unplaced = (λ none. unplaced (old ++ did.between) new number request answer (is_entered answer.reply) did.adds refl none, λ none. (did.adds.no_place none).0);
      first = λ none. (did.adds.no_place none).1;
      full = λ full. rw goes.grown (full-longer (entries_in (old ++ did.between)) (entry_of request answer) request.op (did.adds.full full));
    }

-- and what it has seen then goes on from what it had seen
pub submits-starts : (old new : List (Signed Event)) (number : ℕ) (request : Request) (answer : Answer) → Submits old new number request answer → StartsWith new old
submits-starts old new number request answer did =
    (did.between ++ by_seat number (entry_of request answer), did.adds.list_is ∙ append_assoc old did.between (by_seat number (entry_of request answer)))
