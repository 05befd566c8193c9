-- Entries of the job behind others.
use Rattle.std.proofs.Common.{inl, inr, ℕ, ◌≡◌, true, false, List, [], ◌∷◌, ◌++◌, refl, sym, ap, ◌∙◌, append_assoc}
use Rattle.std.proofs.Common.{append-nil}
use Rattle.std.specs.Prelude.{bytes_eq}
use Rattle.std.specs.List.{list_all}
use Rattle.std.proofs.lemmas.Bool.{cases_Bool}
use Rattle.sms_construct.specs.declared.entry.Answer.{Answer}
use Rattle.sms_construct.specs.declared.entry.Entry.{Entry}
use Rattle.sms_construct.specs.declared.request.Op.{Op}
use Rattle.desk_law.specs.State.{Opening}
use Rattle.desk_law.specs.Kept.{is_entered}
use Rattle.sms_core.specs.Core.{entry_of}
use Rattle.sms_manage.specs.declared.act.Act.{Act}
use Rattle.sms_manage.specs.Managed.{IsAsking, manager}
use Rattle.sms_manage.specs.Inner.Walk.{Asks}

-- no entry was added
pub asking-none : (h : List Entry) → IsAsking h h
asking-none h = record { added = []; behind = sym (append-nil h); asked = refl }

all-both : (xs ys : List Entry) → list_all (λ e. bytes_eq e.request.job manager) xs ≡ true → list_all (λ e. bytes_eq e.request.job manager) ys ≡ true
    → list_all (λ e. bytes_eq e.request.job manager) (xs ++ ys) ≡ true
all-both [] ys one two = two
all-both (x ∷ xs) ys one two = elim (cases_Bool (bytes_eq x.request.job manager)) [
  | inl is ↦ let rest : list_all (λ e. bytes_eq e.request.job manager) xs ≡ true = rw is at one in rw is (all-both xs ys rest two)
  | inr isnt ↦ let no-more : false ≡ true = rw isnt at one in absurd cc
]

-- more were added
pub asking-more : (old mid new : List Entry) → IsAsking old mid → IsAsking mid new → IsAsking old new
asking-more old mid new one two = record {
  added = one.added ++ two.added;
  behind = two.behind ∙ ap (λ es. es ++ two.added) one.behind ∙ append_assoc old one.added two.added;
  asked = all-both one.added two.added one.asked two.asked;
}

one-asked : (number : ℕ) (op : Op) (answer : Answer) → list_all (λ (e : Entry). bytes_eq e.request.job manager) (entry_of (record { job = manager; number = number; op = op }) answer) ≡ true
one-asked number op answer = elim (cases_Bool (is_entered answer.reply)) [
  | inl is ↦ rw is refl
  | inr isnt ↦ rw isnt refl
]

-- what was asked of a data set was added
pub asks-asking : (first : ℕ) (o : Opening) (old new : List Entry) (dsn : List ℕ) (op : Op) (acts acts' : List Act) → Asks first o old new dsn op acts acts' → IsAsking old new
asks-asking first o old new dsn op acts acts' asks = record {
  added = entry_of _ asks.answer;
  behind = asks.enters.journal_is;
  asked = one-asked _ op asks.answer;
}
