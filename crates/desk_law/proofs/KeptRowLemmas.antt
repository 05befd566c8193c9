-- The kept rows of the tables of a history.
use Rattle.std.proofs.Common.{◌≡◌, ◌≤◌, ℕ, ◌+◌, Bool, true, false, List, [], ◌∷◌, ◌++◌, length, refl, sym, ap, ◌∙◌}
use Rattle.std.proofs.Common.{subst, arith, length-append, inl, inr}
use Rattle.std.specs.Prelude.{◌⊎◌, Option, None, Some, filter, find, nat_lt}
use Rattle.std.specs.List.{AllByRecursion}
use Rattle.std.proofs.lemmas.Bool.Decides.{nat_tests}
use Rattle.sms_construct.specs.Fate.{fate_of}
use Rattle.sms_construct.specs.declared.entry.Entry.{Entry}
use Rattle.sms_construct.specs.declared.fate.Fate.TheVariants.{Kept}
use Rattle.sms_construct.specs.declared.reply.Reply.{Reply}
use Rattle.sms_construct.specs.declared.request.Op.{Op}
use Rattle.sms_keeper.specs.declared.floor.Floor.{Floor}
use Rattle.sms_keeper.specs.declared.kept_row.KeptRow.{KeptRow}
use Rattle.sms_keeper.specs.Tables.{is_reply_of}
use Rattle.desk_law.specs.State.{DeskState, Opening}
use Rattle.desk_law.specs.Kept.{all_floors, all_rows, floor_of, is_fault, row_of_entry, rows_of}
use Rattle.desk_law.specs.KeptRows.{AreKeptRows, IsKeptRow}
use Rattle.desk_law.specs.Records.{AreKept, kept_rows}
use Rattle.desk_law.specs.Rule.{Rule}
use Rattle.desk_law.specs.Step.{IsFault, IsFresh}
use Rattle.desk_law.specs.History.{IsLegal}
use Rattle.desk_law.proofs.AnswerLemmas.{step-fresh}
use Rattle.desk_law.proofs.CaseLemmas.{on-rule}
use Rattle.desk_law.proofs.FloorLemmas.{floor-more}
use Rattle.desk_law.proofs.HistoryLemmas.{legal-stands}
use Rattle.desk_law.proofs.PlaceLemmas.{filter-append, find-each}
use Rattle.desk_law.proofs.PlacedRowLemmas.{once-placed, own-key, same-placed}
use Rattle.desk_law.proofs.RowLemmas.{IsRowOf, found-parts, row-entry}

-- The reply of a rule is kept.

rule-kept : (old_floor : List ℕ → ℕ) (s : DeskState) (job : List ℕ) (op : Op) (reply : Reply) (after : DeskState) → Rule old_floor s job op reply after → fate_of reply ≡ Kept
rule-kept old_floor s job op reply after rule = on-rule old_floor s job op reply after (fate_of reply ≡ Kept) rule (record {
  leaves = λ answer quiet leaves. ap fate_of leaves.reply_is ∙ quiet.1;
  grants = λ alloc wish is case one. ap fate_of one.does.makes.reply_is;
  grows = λ dsn set added is may granted extends. ap fate_of extends.reply_is;
  spreads = λ dsn set is may fewer one. ap fate_of one.does.extends.reply_is;
  deletes = λ dsn set is found makes. ap fate_of makes.reply_is;
  notes = λ dsn tracks set is found makes. ap fate_of makes.reply_is;
  releases = λ dsn set tracks is found makes. ap fate_of makes.reply_is;
  varies = λ target action makes. ap fate_of makes.reply_is;
  activates = λ deck config is configures free makes. ap fate_of makes.reply_is;
})

-- Where a row comes from that is found and isn't below its floor.

-- the row is found for its own job and number
abbrev IsFound : Opening → List Entry → KeptRow → Type 0
IsFound o h row = (nat_lt row.number (floor_of o h row.job) ≡ false) × (find (is_reply_of row.job row.number) (all_rows o h) ≡ Some row)

-- it is that of an entry of the history
record ComesWith (o : Opening) (h : List Entry) (row : KeptRow) : Type 0 where
  mid : List Entry
  one : Entry
  behind : List Entry
  stands : h ≡ mid ++ one ∷ behind
  row_is : row ≡ row_of_entry one
  place : one.answer.place ≡ o.base + length mid + 1
  fate : fate_of one.answer.reply ≡ Kept

-- it is one of the opening, or that of an entry
abbrev Comes : Opening → List Entry → KeptRow → Type 0
Comes o h row = (find (is_reply_of row.job row.number) o.rows.replies ≡ Some row) ⊎ ComesWith o h row

fresh-kept : (old_floor : List ℕ → ℕ) (s : DeskState) (e : Entry) (after : DeskState) → is_fault e.answer.reply ≡ false → IsFresh old_floor s e after → fate_of e.answer.reply ≡ Kept
fresh-kept old_floor s e after good fresh = cases fresh.answer
  where
    cases : IsFault s e after ⊎ Rule old_floor s e.request.job e.request.op e.answer.reply after → fate_of e.answer.reply ≡ Kept
    cases (inl fault) =
        let bad : false ≡ true = sym good ∙ ap is_fault fault.reply_is in absurd cc
    cases (inr rule) = rule-kept old_floor s e.request.job e.request.op e.answer.reply after rule

less-floor : (n a b : ℕ) → a ≤ b → nat_lt n b ≡ false → nat_lt n a ≡ false
less-floor n a b le is = grind (arith, nat_tests)

entered-comes : (o : Opening) (h : List Entry) (row : KeptRow) → IsLegal o h → nat_lt row.number (floor_of o h row.job) ≡ false → IsRowOf (is_reply_of row.job row.number) o.rows.replies h row → ComesWith o h row
entered-comes o h row legal above found =
    let one = found.one in
    let there = legal-stands o found.mid found.behind one (subst (IsLegal o) found.stands legal) in
    let job : row.job ≡ one.request.job = ap (λ (r : KeptRow). r.job) found.row_is in
    let number : row.number ≡ one.request.number = ap (λ (r : KeptRow). r.number) found.row_is in
    let le : floor_of o found.mid row.job ≤ floor_of o h row.job = subst (λ (l : List Entry). floor_of o found.mid row.job ≤ floor_of o l row.job) (sym found.stands) (floor-more o found.mid (one ∷ found.behind) row.job) in
    let own : nat_lt row.number (floor_of o found.mid row.job) ≡ false = less-floor row.number (floor_of o found.mid row.job) (floor_of o h row.job) le above in
    let test : nat_lt one.request.number (floor_of o found.mid one.request.job) ≡ false =
    subst (λ n. nat_lt n (floor_of o found.mid one.request.job) ≡ false) number (subst (λ (j : List ℕ). nat_lt row.number (floor_of o found.mid j) ≡ false) job own) in
    let missing : find (is_reply_of one.request.job one.request.number) (all_rows o found.mid) ≡ None =
    subst (λ n. find (is_reply_of one.request.job n) (all_rows o found.mid) ≡ None) number
    (subst (λ (j : List ℕ). find (is_reply_of j row.number) (all_rows o found.mid) ≡ None) job found.first) in
    let fresh = step-fresh o found.mid there.state one there.after there.step test missing in record {
      mid = found.mid;
      one = one;
      behind = found.behind;
      stands = found.stands;
      row_is = found.row_is;
      place = there.step.place;
      fate = fresh-kept (floor_of o found.mid) there.state one there.after found.no_fault fresh;
    }

comes : (o : Opening) (h : List Entry) (row : KeptRow) → IsLegal o h → IsFound o h row → Comes o h row
comes o h row legal is = cases (found-parts (is_reply_of row.job row.number) o.rows.replies (rows_of h) row is.1)
  where
    cases : (find (is_reply_of row.job row.number) o.rows.replies ≡ Some row) ⊎ ((find (is_reply_of row.job row.number) o.rows.replies ≡ None) × (find (is_reply_of row.job row.number) (rows_of h) ≡ Some row)) → Comes o h row
    cases (inl opened) = inl opened
    cases (inr later) = inr (entered-comes o h row legal is.0 (row-entry (is_reply_of row.job row.number) o.rows.replies h row later.0 later.1))

comes-kept : (o : Opening) (h : List Entry) (row : KeptRow) → AreKeptRows o.base o.rows.replies → Comes o h row → IsKeptRow (o.base + length h) row
comes-kept o h row old (inl opened) =
    let is = find-each (IsKeptRow o.base) (is_reply_of row.job row.number) o.rows.replies row old.each opened in
    let within = is.within in
    record { fate = is.fate; job = is.job; number = is.number; some = is.some; within = omega (arith, within) }
comes-kept o h row old (inr entered) =
    let long : length h ≡ length (entered.mid ++ entered.one ∷ entered.behind) = ap length entered.stands in
    let place = entered.place in
    subst (IsKeptRow (o.base + length h)) (sym entered.row_is) (record {
      fate = entered.fate;
      job = refl;
      number = refl;
      some = omega (arith, place);
      within = omega (arith, place, long, length-append entered.mid (entered.one ∷ entered.behind));
    })

-- Two rows that are found.

same-one : (a b : List Entry) (x y : Entry) (more rest : List Entry) → a ++ x ∷ more ≡ b ++ y ∷ rest → length a ≡ length b → x ≡ y
same-one [] [] x y more rest is long = cc
same-one [] (e ∷ b) x y more rest is long = absurd (omega (arith, long))
same-one (e ∷ a) [] x y more rest is long = absurd (omega (arith, long))
same-one (e ∷ a) (f ∷ b) x y more rest is long =
    let tail : a ++ x ∷ more ≡ b ++ y ∷ rest = cc in same-one a b x y more rest tail (omega (arith, long))

-- two rows that are found are one where they have one place
comes-one : (o : Opening) (h : List Entry) (a b : KeptRow) → AreKeptRows o.base o.rows.replies → Comes o h a → Comes o h b → a.place ≡ b.place → a ≡ b
comes-one o h a b old (inl one) (inl two) same = same-placed (is_reply_of a.job a.number) (is_reply_of b.job b.number) o.rows.replies a b same (old.apart a.place) one two
comes-one o h a b old (inl one) (inr two) same =
    let within = (find-each (IsKeptRow o.base) (is_reply_of a.job a.number) o.rows.replies a old.each one).within in
    let place = two.place in
    let own : b.place ≡ two.one.answer.place = ap (λ (r : KeptRow). r.place) two.row_is in
    absurd (omega (arith, within, place, own, same))
comes-one o h a b old (inr one) (inl two) same =
    let within = (find-each (IsKeptRow o.base) (is_reply_of b.job b.number) o.rows.replies b old.each two).within in
    let place = one.place in
    let own : a.place ≡ one.one.answer.place = ap (λ (r : KeptRow). r.place) one.row_is in
    absurd (omega (arith, within, place, own, same))
comes-one o h a b old (inr one) (inr two) same =
    let own : a.place ≡ one.one.answer.place = ap (λ (r : KeptRow). r.place) one.row_is in
    let other : b.place ≡ two.one.answer.place = ap (λ (r : KeptRow). r.place) two.row_is in
    let first = one.place in
    let second = two.place in
    let entry = same-one one.mid two.mid one.one two.one one.behind two.behind (sym one.stands ∙ two.stands) (omega (arith, own, other, first, second, same)) in
    one.row_is ∙ (ap row_of_entry entry ∙ sym two.row_is)

-- The rows of the tables.

-- a row among those that are kept is the one that is found
only-kept : (below : Bool) (found : Option KeptRow) (front rest : List KeptRow) (row : KeptRow) → kept_rows below found ≡ front ++ row ∷ rest → (below ≡ false) × (found ≡ Some row)
only-kept true found [] rest row is = absurd cc
only-kept true found (x ∷ front) rest row is = absurd cc
only-kept false None [] rest row is = absurd cc
only-kept false None (x ∷ front) rest row is = absurd cc
only-kept false (Some y) [] rest row is = (refl, cc)
only-kept false (Some y) (x ∷ []) rest row is = absurd cc
only-kept false (Some y) (x ∷ z ∷ front) rest row is = absurd cc

each-found : (o : Opening) (h : List Entry) (whole front rest : List KeptRow) → ((job : List ℕ) (number : ℕ) → filter (is_reply_of job number) whole ≡ kept_rows (nat_lt number (floor_of o h job)) (find (is_reply_of job number) (all_rows o h)))
    → whole ≡ front ++ rest → AllByRecursion (IsFound o h) rest
each-found o h whole front [] are is = tt
each-found o h whole front (row ∷ rest) are is =
    let p = is_reply_of row.job row.number in
    let here : filter p (row ∷ rest) ≡ row ∷ filter p rest = rw (own-key row) refl in
    let parts : kept_rows (nat_lt row.number (floor_of o h row.job)) (find p (all_rows o h)) ≡ filter p front ++ row ∷ filter p rest =
    sym (are row.job row.number) ∙ (ap (filter p) is ∙ (filter-append p front (row ∷ rest) ∙ ap (λ (l : List KeptRow). filter p front ++ l) here)) in (
      only-kept _ _ (filter p front) (filter p rest) row parts,
      each-found o h whole (front ++ row ∷ []) rest are (is ∙ push-front front row rest),
    )
  where
    push-front : (a : List KeptRow) (x : KeptRow) (b : List KeptRow) → a ++ x ∷ b ≡ (a ++ x ∷ []) ++ b
    push-front [] x b = refl
    push-front (y ∷ a) x b = ap (λ (l : List KeptRow). y ∷ l) (push-front a x b)

few-kept : (below : Bool) (found : Option KeptRow) → length (kept_rows below found) ≤ 1
few-kept true found = omega arith
few-kept false None = omega arith
few-kept false (Some row) = omega arith

each-found-kept : (o : Opening) (h : List Entry) (xs : List KeptRow) → AreKeptRows o.base o.rows.replies → IsLegal o h → AllByRecursion (IsFound o h) xs → AllByRecursion (IsKeptRow (o.base + length h)) xs
each-found-kept o h [] old legal all = tt
each-found-kept o h (x ∷ xs) old legal all = (comes-kept o h x old (comes o h x legal all.0), each-found-kept o h xs old legal all.1)

-- the rows that a legal history keeps
pub kept-rows-kept : (o : Opening) (h : List Entry) (rows : List KeptRow) (standing : List Floor) → AreKeptRows o.base o.rows.replies → IsLegal o h → AreKept (all_floors o h) (all_rows o h) rows standing
    → AreKeptRows (o.base + length h) rows
kept-rows-kept o h rows standing old legal are =
    let all = each-found o h rows [] rows are.replies_are refl in record {
      each = each-found-kept o h rows old legal all;
      apart = λ place. once-placed (IsFound o h) place rows (λ a b x y same. comes-one o h a b old (comes o h a legal x) (comes o h b legal y) same) all
          (λ job number. subst (λ (l : List KeptRow). length l ≤ 1) (sym (are.replies_are job number)) (few-kept (nat_lt number (floor_of o h job)) (find (is_reply_of job number) (all_rows o h))));
    }
