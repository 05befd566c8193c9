-- One request of space management.
use Rattle.std.proofs.Common.{inl, inr, ◌≡◌, ◌⊎◌, ◌≤◌, ℕ, ◌+◌, ◌==◌, ◌&&◌, not, Bool, true, false, List, [], ◌∷◌, ◌++◌}
use Rattle.std.proofs.Common.{Option, None, Some, refl, sym, ap, subst, ◌∙◌, arith, append-nil}
use Rattle.std.specs.Prelude.{bytes_eq, find, nat_lt}
use Rattle.std.proofs.lemmas.Bool.{cases_Bool}
use Rattle.std.proofs.lemmas.Bool.Decides.{nat_tests}
use Rattle.sms_construct.specs.declared.data_set.DataSet.{DataSet}
use Rattle.sms_construct.specs.declared.entry.Answer.{Answer}
use Rattle.sms_construct.specs.declared.entry.Entry.{Entry}
use Rattle.sms_construct.specs.declared.reply.Reply.{Reply}
use Rattle.sms_construct.specs.declared.reply.Reply.TheVariants as replies
use Rattle.sms_construct.specs.declared.request.Op.{Op}
use Rattle.sms_construct.specs.declared.request.Op.TheVariants as ops
use Rattle.sms_construct.specs.declared.request.Request.{Request}
use Rattle.sms_keeper.specs.declared.kept_row.KeptRow.{KeptRow}
use Rattle.sms_keeper.specs.declared.rows.Rows.{Rows}
use Rattle.sms_keeper.specs.Tables.{is_reply_of}
use Rattle.desk_law.specs.State.{DeskState, Opening, set_named, start_of, with_set, without_name}
use Rattle.desk_law.specs.Kept.{all_floors, all_rows, floor_of, floor_told, greatest_floor, is_entered, is_fault}
use Rattle.desk_law.specs.Kept.{kept_for, row_of_entry, rows_of_entry}
use Rattle.desk_law.specs.Step.{IsFresh, IsStep}
use Rattle.desk_law.specs.History.{Reaches}
use Rattle.desk_law.specs.Extents.{tracks_of_set}
use Rattle.desk_law.specs.Deletion.{DeleteRule}
use Rattle.desk_law.specs.Releasing.{ReleaseRule, kept_of}
use Rattle.desk_law.specs.Replies.{Makes}
use Rattle.desk_law.proofs.FloorLemmas.{all-floors-append, all-rows-append, append-none}
use Rattle.desk_law.proofs.HistoryLemmas.{leads-one, leads-push}
use Rattle.sms_core.specs.Core.{Enters}
use Rattle.sms_manage.specs.declared.wanted.Due.{Due}
use Rattle.sms_manage.specs.declared.wanted.Due.TheVariants.{Nothing, Delete, Release}
use Rattle.sms_manage.specs.Managed.{IsUnused, IsUnusedFrom, manager, op_for, is_hindered}

pub unused_all : (o : Opening) (h : List Entry) → IsUnused o h → IsUnusedFrom o h 1
unused_all o h unused = record { floor = rw unused.floor (omega arith); kept = λ n any. unused.kept n }

-- the state after what is due was done
abbrev pub after_act : Due → DeskState → DataSet → DeskState
after_act Nothing s set = s
after_act Delete s set = without_name s set.dsn
after_act Release s set = with_set s (kept_of set)

-- what an answer to an act comes to: nothing, or what is due; it tells no floor
pub record IsActed (wanted : Due) (s : DeskState) (set : DataSet) (reply : Reply) (after : DeskState) : Type 0 where
  pub outcome : ((not (is_hindered reply) ≡ false) × (after ≡ s)) ⊎ ((not (is_hindered reply) ≡ true) × (after ≡ after_act wanted s set))
  pub quiet : floor_told reply ≡ []

same-some : (a b : Op) → Some a ≡ Some b → a ≡ b
same-some a b is = cc

fresh-act : (old_floor : List ℕ → ℕ) (s : DeskState) (set : DataSet) (wanted : Due) (op : Op) (e : Entry) (after : DeskState) → op_for wanted set.dsn ≡ Some op → e.request.op ≡ op
    → set_named set.dsn s.sets ≡ Some set → IsFresh old_floor s e after → IsActed wanted s set e.answer.reply after
fresh-act old_floor s set Nothing op e after is asked found fresh = absurd cc
fresh-act old_floor s set Delete op e after is asked found fresh = elim fresh.answer [
  | inl fault ↦ record { outcome = inl (rw fault.reply_is refl, fault.after_is); quiet = rw fault.reply_is refl }
  | inr rule ↦
      let named : e.request.op ≡ ops.Delete set.dsn = asked ∙ sym (same-some (ops.Delete set.dsn) op is) in
      let deletes : DeleteRule s set.dsn e.answer.reply after = rw named at rule in
      let made : Makes (without_name s set.dsn) (replies.Deleted (tracks_of_set set)) e.answer.reply after = rw found at deletes in
      record { outcome = inr (rw made.reply_is refl, made.after_is); quiet = rw made.reply_is refl }
]
fresh-act old_floor s set Release op e after is asked found fresh = elim fresh.answer [
  | inl fault ↦ record { outcome = inl (rw fault.reply_is refl, fault.after_is); quiet = rw fault.reply_is refl }
  | inr rule ↦
      let named : e.request.op ≡ ops.Release set.dsn = asked ∙ sym (same-some (ops.Release set.dsn) op is) in
      let releases : ReleaseRule s set.dsn e.answer.reply after = rw named at rule in
      let made = rw found at releases in
      record { outcome = inr (rw made.reply_is refl, made.after_is); quiet = rw made.reply_is refl }
]

-- What is unused behind an entry.

find-none : (p : KeptRow → Bool) (a b : List KeptRow) → find p a ≡ None → find p b ≡ None → find p (a ++ b) ≡ None
find-none p [] b one two = two
find-none p (x ∷ a) b one two = elim (cases_Bool (p x)) [
  | inl is ↦ let isnt : Some x ≡ None = rw is at one in absurd cc
  | inr not ↦ let rest : find p a ≡ None = rw not at one in rw not (find-none p a b rest two)
]

other-row-at : (number n : ℕ) (e : Entry) (b : Bool) → is_fault e.answer.reply ≡ b → e.request.number ≡ number → number + 1 ≤ n → find (is_reply_of manager n) (rows_of_entry e ++ []) ≡ None
other-row-at number n e true is same less = rw is refl
other-row-at number n e false is same less =
    let other : (e.request.number == n) ≡ false = rw same (grind (arith, nat_tests, less)) in
    let miss : is_reply_of manager n (row_of_entry e) ≡ false = rw other (and-none (bytes_eq e.request.job manager)) in
    rw is (rw miss refl)
  where
    and-none : (b : Bool) → (b && false) ≡ false
    and-none true = refl
    and-none false = refl

unused-push : (o : Opening) (h : List Entry) (number : ℕ) (e : Entry) → IsUnusedFrom o h number → e.request.number ≡ number → floor_told e.answer.reply ≡ [] → IsUnusedFrom o (h ++ e ∷ []) (number + 1)
unused-push o h number e unused same quiet = record {
  floor =
      let floors : all_floors o (h ++ e ∷ []) ≡ all_floors o h = all-floors-append o h (e ∷ []) ∙ ap (λ l. all_floors o h ++ (l ++ [])) quiet ∙ append-none (all_floors o h) in
      let same_floor : greatest_floor manager (all_floors o (h ++ e ∷ [])) ≡ greatest_floor manager (all_floors o h) = ap (greatest_floor manager) floors in
      let below : greatest_floor manager (all_floors o h) ≤ number = unused.floor in
      omega (arith, same_floor, below);
  kept = λ n less.
      ap (find (is_reply_of manager n)) (all-rows-append o h (e ∷ []))
      ∙ find-none (is_reply_of manager n) (all_rows o h) (rows_of_entry e ++ []) (unused.kept n (omega (arith, less))) (other-row-at number n e _ refl same less);
}

unused-later : (o : Opening) (h : List Entry) (number : ℕ) → IsUnusedFrom o h number → IsUnusedFrom o h (number + 1)
unused-later o h number unused = record { floor = let below : floor_of o h manager ≤ number = unused.floor in omega (arith, below); kept = λ n less. unused.kept n (omega (arith, less)) }

-- a request was answered: the state after it, and what is unused then
pub record HasActed (o : Opening) (h' : List Entry) (number : ℕ) (wanted : Due) (s : DeskState) (set : DataSet) (reply : Reply) : Type 0 where
  pub after : DeskState
  pub reaches : Reaches o h' after
  pub acted : IsActed wanted s set reply after
  pub unused : IsUnusedFrom o h' (number + 1)

-- a lawful entry of such a request
entered-act : (o : Opening) (h : List Entry) (number : ℕ) (wanted : Due) (op : Op) (s after : DeskState) (set : DataSet) (e : Entry) → IsUnusedFrom o h number → e.request.job ≡ manager
    → e.request.number ≡ number → e.request.op ≡ op → op_for wanted set.dsn ≡ Some op → set_named set.dsn s.sets ≡ Some set → Reaches o h s → IsStep o h s e after
    → HasActed o (h ++ e ∷ []) number wanted s set e.answer.reply
entered-act o h number wanted op s after set e unused job same asked is found reaches step =
    let above : nat_lt e.request.number (floor_of o h e.request.job) ≡ false = rw (job, same) (not-below number (floor_of o h manager) unused.floor) in
    let none : kept_for o h e.request.job e.request.number ≡ None = rw (job, same) (unused.kept number (omega arith)) in
    let fresh : IsFresh (floor_of o h) s e after = rw (above, none) at step.answer in
    let acted = fresh-act (floor_of o h) s set wanted op e after is asked found fresh in
    record {
      after = after;
      reaches = leads-push o [] (start_of o) h e s after reaches step;
      acted = acted;
      unused = unused-push o h number e unused same acted.quiet;
    }
  where
    not-below : (n floor : ℕ) → floor ≤ n → nat_lt n floor ≡ false
    not-below n floor below = grind (arith, nat_tests, below)

without-entry : (reply : Reply) → is_entered reply ≡ false → (not (is_hindered reply) ≡ false) × (floor_told reply ≡ [])
without-entry (replies.Granted set trace) none = absurd cc
without-entry (replies.NotManaged trace) none = absurd cc
without-entry (replies.Extended added) none = absurd cc
without-entry (replies.Deleted tracks) none = absurd cc
without-entry (replies.Activated count) none = absurd cc
without-entry (replies.Varied target status) none = absurd cc
without-entry (replies.Shown view) none = absurd cc
without-entry (replies.Purged job floor) none = absurd cc
without-entry replies.Noted none = absurd cc
without-entry (replies.Released tracks) none = absurd cc
without-entry (replies.Reused first) none = absurd cc
without-entry (replies.Below floor) none = absurd cc
without-entry replies.NoConfig none = absurd cc
without-entry replies.NameInUse none = absurd cc
without-entry (replies.Exit kind code trace) none = absurd cc
without-entry (replies.UnknownClass kind name trace) none = absurd cc
without-entry (replies.NoQuantity trace) none = absurd cc
without-entry (replies.NoGroup trace) none = absurd cc
without-entry (replies.NoVolume trace) none = absurd cc
without-entry replies.NotFound none = absurd cc
without-entry (replies.NoExtend why) none = absurd cc
without-entry (replies.Deck fault) none = absurd cc
without-entry (replies.VolumeInUse volser) none = absurd cc
without-entry replies.UnknownName none = absurd cc
without-entry replies.JournalFull none = (refl, refl)
without-entry (replies.PastGrant granted) none = absurd cc
without-entry replies.KeeperFault none = absurd cc
without-entry replies.Memory none = (refl, refl)

-- an act was answered by a step
pub step-acted : (o : Opening) (h h' : List Entry) (told told' : Option Rows) (count count' : ℕ) (number : ℕ) (wanted : Due) (op : Op) (s : DeskState) (set : DataSet) (request : Request) (answer : Answer)
    → IsUnusedFrom o h number → request ≡ record { job = manager; number = number; op = op } → op_for wanted set.dsn ≡ Some op → set_named set.dsn s.sets ≡ Some set → Reaches o h s
    → Enters o h h' told told' count count' request answer → HasActed o h' number wanted s set answer.reply
step-acted o h h' told told' count count' number wanted op s set request answer unused asked is found reaches enters = elim (cases_Bool (is_entered answer.reply)) [
  | inl entered ↦
      let e : Entry = record { request = request; answer = answer } in
      let next = enters.lawful entered in
      let same : next.state ≡ s = leads-one o [] (start_of o) h next.state s next.reaches reaches in
      let step : IsStep o h s e next.after = subst (λ t. IsStep o h t e next.after) same next.step in
      let grown : h' ≡ h ++ e ∷ [] = rw entered at enters.journal_is in
      rw grown (entered-act o h number wanted op s next.after set e unused (ap (λ (r : Request). r.job) asked) (ap (λ (r : Request). r.number) asked) (ap (λ (r : Request). r.op) asked) is found reaches step)
  | inr isnt ↦
      let grown : h' ≡ h ++ [] = rw isnt at enters.journal_is in
      let quiet = without-entry answer.reply isnt in
      rw (grown, append-nil h) (record {
        after = s;
        reaches = reaches;
        acted = record { outcome = inl (quiet.0, refl); quiet = quiet.1 };
        unused = unused-later o h number unused;
      })
]
