-- Where a grant of a history comes from.
use Rattle.std.proofs.Common.{◌≡◌, ℕ, Bool, true, false, List, [], ◌∷◌, ◌++◌, refl, sym, ap, ◌∙◌, subst, inl, inr}
use Rattle.std.specs.Prelude.{◌⊎◌, Option, None, Some, find, nat_lt, Ok}
use Rattle.sms_construct.specs.declared.alloc.Alloc.{Alloc}
use Rattle.sms_construct.specs.declared.data_set.DataSet.{DataSet}
use Rattle.sms_construct.specs.declared.entry.Entry.{Entry}
use Rattle.sms_construct.specs.declared.reply.Reply.{Reply}
use Rattle.sms_construct.specs.declared.reply.Reply.TheVariants as replies
use Rattle.sms_construct.specs.declared.request.Op.{Op}
use Rattle.sms_construct.specs.declared.request.Op.TheVariants as ops
use Rattle.sms_construct.specs.declared.trace.Trace.{Trace}
use Rattle.sms_keeper.specs.declared.kept_row.KeptRow.{KeptRow}
use Rattle.sms_keeper.specs.Tables.{is_reply_of}
use Rattle.desk_law.specs.State.{DeskState, Opening, start_of}
use Rattle.desk_law.specs.Classification.{trace_of}
use Rattle.desk_law.specs.Allocation.{Wish, alloc_case, ask_of, candidates_of, new_set, GrantsOn}
use Rattle.desk_law.specs.Changes.{may_change}
use Rattle.desk_law.specs.Kept.{all_rows, floor_of, kept_for, rows_of}
use Rattle.desk_law.specs.Rule.{Rule}
use Rattle.desk_law.specs.Step.{IsFault, IsFresh, IsStep, RepeatsReply, ReusesNumber}
use Rattle.desk_law.specs.History.{IsLegal, Reaches}
use Rattle.desk_law.specs.Grants.{GrantsLawfully, IsLawfulGrant, WasEntered, WasGranted}
use Rattle.desk_law.proofs.CaseLemmas.{on-rule}
use Rattle.desk_law.proofs.LineLemmas.{OneOf}
use Rattle.desk_law.proofs.FloorLemmas.{append-assoc}
use Rattle.desk_law.proofs.AnswerLemmas.{step-below, step-fresh, step-kept}
use Rattle.desk_law.proofs.HistoryLemmas.{Stands, legal-stands}
use Rattle.desk_law.proofs.RowLemmas.{FoundIn, IsRowOf, found-parts, found-passes, row-entry, row-key}

-- The rule that gives a grant.

-- the request gets the grant
abbrev IsGrantOf : DeskState → List ℕ → Op → DataSet → Trace → Type 0
IsGrantOf s job op set trace = (alloc : Alloc) × (op ≡ ops.Alloc alloc) × IsLawfulGrant s job alloc set trace

-- another reply is no grant
other-reply : {C : Type 0} (reply answer : Reply) (set : DataSet) (trace : Trace) → reply ≡ replies.Granted set trace → reply ≡ answer → (answer ≡ replies.Granted set trace → ⊥) → C
other-reply reply answer set trace is reply_is other = absurd (other (sym reply_is ∙ is))

made-granted : (set other : DataSet) (trace told : Trace) → replies.Granted set trace ≡ replies.Granted other told → (other ≡ set) × (told ≡ trace)
made-granted set other trace told same = (cc, cc)

alloc-granted : (s : DeskState) (job : List ℕ) (alloc : Alloc) (wish : Wish) (reply : Reply) (after : DeskState) (set : DataSet) (trace : Trace) → reply ≡ replies.Granted set trace → alloc_case s job alloc ≡ Ok wish
    → OneOf s (ask_of wish) (candidates_of wish) (λ volume. GrantsOn s alloc wish volume reply after) → IsLawfulGrant s job alloc set trace
alloc-granted s job alloc wish reply after set trace is case one =
    let same = made-granted (new_set alloc wish one.volume one.does.pieces) set (trace_of wish.classes) trace (sym one.does.makes.reply_is ∙ is) in record {
      wish = wish;
      case = case;
      position = one.position;
      may = one.may;
      volume = one.volume;
      there = one.there;
      pieces = one.does.pieces;
      granted = one.does.granted;
      set_is = same.0;
      trace_is = same.1;
    }

quiet-granted : (answer : Reply) (set : DataSet) (trace : Trace) → may_change answer ≡ false → answer ≡ replies.Granted set trace → ⊥
quiet-granted answer set trace quiet is =
    let bad : false ≡ true = sym quiet ∙ ap may_change is in absurd cc

pub rule-granted : (old_floor : List ℕ → ℕ) (s : DeskState) (job : List ℕ) (op : Op) (reply : Reply) (after : DeskState) (set : DataSet) (trace : Trace) → reply ≡ replies.Granted set trace
    → Rule old_floor s job op reply after → IsGrantOf s job op set trace
rule-granted old_floor s job op reply after set trace is rule = on-rule old_floor s job op reply after (IsGrantOf s job op set trace) rule (record {
  leaves = λ answer quiet leaves. other-reply reply answer set trace is leaves.reply_is (λ e. quiet-granted answer set trace quiet.0 e);
  grants = λ alloc wish op_is case one. (alloc, op_is, alloc-granted s job alloc wish reply after set trace is case one);
  grows = λ dsn old added op_is may granted extends. other-reply reply _ set trace is extends.reply_is (λ e. cc);
  spreads = λ dsn old op_is may fewer one. other-reply reply _ set trace is one.does.extends.reply_is (λ e. cc);
  deletes = λ dsn old op_is found makes. other-reply reply _ set trace is makes.reply_is (λ e. cc);
  notes = λ dsn tracks old op_is found makes. other-reply reply _ set trace is makes.reply_is (λ e. cc);
  releases = λ dsn old tracks op_is found makes. other-reply reply _ set trace is makes.reply_is (λ e. cc);
  varies = λ target action makes. other-reply reply _ set trace is makes.reply_is (λ e. cc);
  activates = λ deck config op_is configures free makes. other-reply reply _ set trace is makes.reply_is (λ e. cc);
})

fresh-granted : (o : Opening) (front : List Entry) (s : DeskState) (e : Entry) (after : DeskState) (set : DataSet) (trace : Trace) → Reaches o front s → e.answer.reply ≡ replies.Granted set trace
    → IsFresh (floor_of o front) s e after → GrantsLawfully o front e.request set trace
fresh-granted o front s e after set trace reaches is fresh = cases fresh.answer
  where
    cases : IsFault s e after ⊎ Rule (floor_of o front) s e.request.job e.request.op e.answer.reply after → GrantsLawfully o front e.request set trace
    cases (inl fault) =
        let bad : replies.Granted set trace ≡ replies.KeeperFault = sym is ∙ fault.reply_is in absurd cc
    cases (inr rule) =
        let grant = rule-granted (floor_of o front) s e.request.job e.request.op e.answer.reply after set trace is rule in
        record { alloc = grant.0; op_is = grant.1; state = s; reaches = reaches; lawful = grant.2 }

not-below-at : (o : Opening) (front : List Entry) (s : DeskState) (e : Entry) (after : DeskState) (set : DataSet) (trace : Trace) (b : Bool) → nat_lt e.request.number (floor_of o front e.request.job) ≡ b
    → IsStep o front s e after → e.answer.reply ≡ replies.Granted set trace → nat_lt e.request.number (floor_of o front e.request.job) ≡ false
not-below-at o front s e after set trace true test step is =
    let below = step-below o front s e after step test in
    let bad : replies.Granted set trace ≡ replies.Below (floor_of o front e.request.job) = sym is ∙ below.reply_is in absurd cc
not-below-at o front s e after set trace false test step is = test

-- a number that gets a grant isn't below the floor
not-below : (o : Opening) (front : List Entry) (s : DeskState) (e : Entry) (after : DeskState) (set : DataSet) (trace : Trace) → IsStep o front s e after → e.answer.reply ≡ replies.Granted set trace
    → nat_lt e.request.number (floor_of o front e.request.job) ≡ false
not-below o front s e after set trace step is = not-below-at o front s e after set trace _ refl step is

-- a grant of an entry whose number is fresh
pub stands-granted : (o : Opening) (front : List Entry) (e : Entry) (set : DataSet) (trace : Trace) → Stands o [] (start_of o) front e → e.answer.reply ≡ replies.Granted set trace
    → kept_for o front e.request.job e.request.number ≡ None → (e.answer.first ≡ e.answer.place) × GrantsLawfully o front e.request set trace
stands-granted o front e set trace there is missing =
    let fresh = step-fresh o front there.state e there.after there.step (not-below o front there.state e there.after set trace there.step is) missing in
    (fresh.first_is, fresh-granted o front there.state e there.after set trace there.leads is fresh)

-- Kept rows and the entries that they come from.

-- the front of a history up to an entry in it
stands-at : (o : Opening) (front before behind : List Entry) (entry one : Entry) (rest : List Entry) → front ≡ before ++ one ∷ behind → IsLegal o (front ++ entry ∷ rest) → Stands o [] (start_of o) before one
stands-at o front before behind entry one rest is legal =
    let moved : IsLegal o (before ++ one ∷ (behind ++ entry ∷ rest)) =
    subst (IsLegal o) (ap (λ (l : List Entry). l ++ entry ∷ rest) is ∙ append-assoc before (one ∷ behind) (entry ∷ rest)) legal in
    legal-stands o before (behind ++ entry ∷ rest) one moved

entered-by : (o : Opening) (front rest : List Entry) (entry : Entry) (set : DataSet) (trace : Trace) (row : KeptRow) → IsLegal o (front ++ entry ∷ rest) → RepeatsReply row entry
    → row.reply ≡ replies.Granted set trace → is_reply_of entry.request.job entry.request.number row ≡ true → IsRowOf (is_reply_of entry.request.job entry.request.number) o.rows.replies front row
    → WasEntered o front entry set trace
entered-by o front rest entry set trace row legal repeats is passes found =
    let key = row-key entry.request.job entry.request.number row passes in
    let job : entry.request.job ≡ found.one.request.job = sym key.0 ∙ ap (λ (r : KeptRow). r.job) found.row_is in
    let number : entry.request.number ≡ found.one.request.number = sym key.1 ∙ ap (λ (r : KeptRow). r.number) found.row_is in
    let there = stands-at o front found.mid found.behind entry found.one rest found.stands legal in
    let reply : found.one.answer.reply ≡ replies.Granted set trace = sym (ap (λ (r : KeptRow). r.reply) found.row_is) ∙ is in
    let missing : kept_for o found.mid found.one.request.job found.one.request.number ≡ None =
    subst (λ n. find (is_reply_of found.one.request.job n) (all_rows o found.mid) ≡ None) number
    (subst (λ (j : List ℕ). find (is_reply_of j entry.request.number) (all_rows o found.mid) ≡ None) job found.first) in
    let grant = stands-granted o found.mid found.one set trace there reply missing in record {
      before = found.mid;
      one = found.one;
      behind = found.behind ++ entry ∷ [];
      stands = ap (λ (l : List Entry). l ++ entry ∷ []) found.stands ∙ append-assoc found.mid (found.one ∷ found.behind) (entry ∷ []);
      job_is = job;
      number_is = number;
      op_is = repeats.same ∙ ap (λ (r : KeptRow). r.request.op) found.row_is;
      first_is = repeats.first_is ∙ ap (λ (r : KeptRow). r.place) found.row_is;
      lawful = grant.1;
    }

kept-granted : (o : Opening) (front rest : List Entry) (entry : Entry) (set : DataSet) (trace : Trace) (row : KeptRow) → IsLegal o (front ++ entry ∷ rest) → entry.answer.reply ≡ replies.Granted set trace
    → kept_for o front entry.request.job entry.request.number ≡ Some row → RepeatsReply row entry ⊎ ReusesNumber row entry → WasGranted o front entry set trace
kept-granted o front rest entry set trace row legal is found (inr reuses) =
    let bad : replies.Granted set trace ≡ replies.Reused row.place = sym is ∙ reuses.reply_is in absurd cc
kept-granted o front rest entry set trace row legal is found (inl repeats) =
    let reply : row.reply ≡ replies.Granted set trace = sym repeats.reply_is ∙ is in
    let passes = found-passes (is_reply_of entry.request.job entry.request.number) (all_rows o front) row found in
    place reply passes (found-parts (is_reply_of entry.request.job entry.request.number) o.rows.replies (rows_of front) row found)
  where
    place : row.reply ≡ replies.Granted set trace → is_reply_of entry.request.job entry.request.number row ≡ true
        → FoundIn (is_reply_of entry.request.job entry.request.number) o.rows.replies (rows_of front) row → WasGranted o front entry set trace
    place reply passes (inl opened) = inl (record { row = row; kept = opened; op_is = repeats.same; reply_is = reply; first_is = repeats.first_is })
    place reply passes (inr later) = inr (entered-by o front rest entry set trace row legal repeats reply passes (row-entry (is_reply_of entry.request.job entry.request.number) o.rows.replies front row later.0 later.1))

pub was-granted : (o : Opening) (front rest : List Entry) (entry : Entry) (set : DataSet) (trace : Trace) → IsLegal o (front ++ entry ∷ rest) → entry.answer.reply ≡ replies.Granted set trace
    → WasGranted o front entry set trace
was-granted o front rest entry set trace legal is = by_kept (kept_for o front entry.request.job entry.request.number) refl
  where
    by_kept : (k : Option KeptRow) → kept_for o front entry.request.job entry.request.number ≡ k → WasGranted o front entry set trace
    by_kept None missing =
        let grant = stands-granted o front entry set trace (legal-stands o front rest entry legal) is missing in
        inr (record {
          before = front;
          one = entry;
          behind = [];
          stands = refl;
          job_is = refl;
          number_is = refl;
          op_is = refl;
          first_is = grant.0;
          lawful = grant.1;
        })
    by_kept (Some row) found =
        let there = legal-stands o front rest entry legal in
        let repeat = step-kept o front there.state entry there.after row there.step (not-below o front there.state entry there.after set trace there.step is) found in
        kept-granted o front rest entry set trace row legal is found repeat.answer
