-- Faults of qualifiers, and the first of them.
use Rattle.std.proofs.Common.{Bool, ◌≡◌, ◌≤◌, ◌<◌, ◌+◌, ℕ, zero, suc, true, false, List, [], ◌∷◌, length, get_or, refl}
use Rattle.std.proofs.Common.{arith, inl, inr, ◌⊎◌}
use Rattle.std.specs.Prelude.{◌&&◌}
use Rattle.std.specs.List.{list_all}
use Rattle.std.proofs.lemmas.Bool.{leb-true, le-leb}
use Rattle.std.proofs.lemmas.List.Folds.{list_all_at}
use Rattle.desk_common.specs.Exact.{NotBehind}
use Rattle.dsn_mask.specs.Name.{is_initial}
use Rattle.dsn_mask.specs.DataSetName.{is_qualifier, is_qualifier_byte}
use Rattle.dsn_mask.specs.NameFault.{QualifierFault, empty, ninth_byte, bad_first, bad_later, NameFault, here, behind}
use Rattle.dsn_mask.specs.NameFault.{place_of, IsFirstIn, IsFirstAmong}
use Rattle.dsn_mask.specs.declared.name_err.NameErr.{NameErr}
use Rattle.dsn_mask.specs.declared.name_err.NameErr.TheVariants.{BadQualifier, BadByte}

pub both : (a b : Bool) → (a && b) ≡ true → (a ≡ true) × (b ≡ true)
both true b e = (refl, e)
both false b e = absurd (cc)

false_if : (b : Bool) → (b ≡ true → ⊥) → b ≡ false
false_if true no_way = absurd (no_way refl)
false_if false no_way = refl

list_all_from : (p : ℕ → Bool) (xs : List ℕ) → ((k : ℕ) → k < length xs → p (get_or xs k 0) ≡ true) → list_all p xs ≡ true
list_all_from p [] each = refl
list_all_from p (x ∷ xs) each = rw (each 0 (omega arith)) (list_all_from p xs (λ k less. each (suc k) (omega arith)))

-- one qualifier

pub parts_of : (q : List ℕ) → is_qualifier q ≡ true → (1 ≤ length q) × (length q ≤ 8) × (is_initial (get_or q 0 0) ≡ true) × (list_all is_qualifier_byte q ≡ true)
parts_of q e =
    let a = both _ _ e in
    let b = both _ _ a.1 in
    let c = both _ _ b.1 in
    (leb-true _ _ a.0, leb-true _ _ b.0, c.0, c.1)

no_fault_in : {s n p : ℕ} {err : NameErr} (q : List ℕ) → is_qualifier q ≡ true → QualifierFault s n q p err → ⊥
no_fault_in q e (empty nil) = let some = (parts_of q e).0 in let none : length q ≡ 0 = rw nil refl in omega arith
no_fault_in q e (ninth_byte more) = let most = (parts_of q e).1 in omega arith
no_fault_in q e (bad_first some bad) = let good = (parts_of q e).2 in cc
no_fault_in q e (bad_later i_some less bad) = let good = (parts_of q e).3 in let not_all = list_all_at is_qualifier_byte q _ 0 less bad in cc

fault_from : {s n p : ℕ} {q : List ℕ} {err : NameErr} → QualifierFault s n q p err → s ≤ p
fault_from (empty nil) = omega arith
fault_from (ninth_byte more) = omega arith
fault_from (bad_first some bad) = omega arith
fault_from (bad_later i_some less bad) = omega arith

pub fault_within : {s n p : ℕ} {q : List ℕ} {err : NameErr} → QualifierFault s n q p err → p ≤ s + length q
fault_within (empty nil) = omega arith
fault_within (ninth_byte more) = omega arith
fault_within (bad_first some bad) = omega arith
fault_within (bad_later i_some less bad) = omega arith

with_fault : (s n : ℕ) (q : List ℕ) (err : NameErr) → IsFirstIn s n q err → (is_qualifier q ≡ false) × IsFirstIn s n q err
with_fault s n q err first = (false_if _ (λ good. no_fault_in q good first.is.met), first)

before_empty : {s n p : ℕ} {q : List ℕ} {err : NameErr} → QualifierFault s n q p err → NotBehind (place_of (s, BadQualifier n)) (place_of (p, err))
before_empty (empty nil) = (omega arith, λ same. omega arith)
before_empty (ninth_byte more) = (omega arith, λ same. omega arith)
before_empty (bad_first some bad) = (omega arith, λ same. omega arith)
before_empty (bad_later i_some less bad) = (omega arith, λ same. omega arith)

nil_of : (q : List ℕ) → length q ≡ 0 → q ≡ []
nil_of [] none = refl
nil_of (x ∷ xs) none = absurd (omega arith)

pub empty_first : (s n : ℕ) (q : List ℕ) → length q ≡ 0 → (is_qualifier q ≡ false) × IsFirstIn s n q (BadQualifier n)
empty_first s n q none = with_fault s n q _ (record { place = s; is = record { met = empty (nil_of q none); first = λ other fault. before_empty fault } })

before_bad_first : {s n p : ℕ} {q : List ℕ} {err : NameErr} → 0 < length q → QualifierFault s n q p err → NotBehind (place_of (s, BadByte s)) (place_of (p, err))
before_bad_first {q = q} some (empty nil) = let none : length q ≡ 0 = rw nil refl in absurd (omega arith)
before_bad_first some (ninth_byte more) = (omega arith, λ same. absurd (omega arith))
before_bad_first some (bad_first x bad) = (omega arith, λ same. omega arith)
before_bad_first some (bad_later i_some less bad) = (omega arith, λ same. absurd (omega arith))

pub bad_first_is : (s n : ℕ) (q : List ℕ) → 0 < length q → is_initial (get_or q 0 0) ≡ false → (is_qualifier q ≡ false) × IsFirstIn s n q (BadByte s)
bad_first_is s n q some bad = with_fault s n q _ (record { place = s; is = record { met = bad_first some bad; first = λ other fault. before_bad_first some fault } })

pub initial_is_good : (b : ℕ) → is_initial b ≡ true → is_qualifier_byte b ≡ true
initial_is_good b e = rw e refl

pub order_of : (i k : ℕ) → (i ≤ k) ⊎ (k < i)
order_of i k = grind arith

below : (i k : ℕ) (q : List ℕ) → ((j : ℕ) → j < i → is_qualifier_byte (get_or q j 0) ≡ true) → is_qualifier_byte (get_or q k 0) ≡ false → i ≤ k
below i k q each bad = elim (order_of i k) [ inl less ↦ less | inr more ↦ let good = each k more in absurd (cc) ]

before_bad_byte : {s n p : ℕ} {err : NameErr} (q : List ℕ) (i : ℕ) → i < length q → i < 8 → is_initial (get_or q 0 0) ≡ true → ((k : ℕ) → k < i → is_qualifier_byte (get_or q k 0) ≡ true)
    → QualifierFault s n q p err → NotBehind (place_of (s + i, BadByte (s + i))) (place_of (p, err))
before_bad_byte q i less eight good each (empty nil) = let none : length q ≡ 0 = rw nil refl in absurd (omega arith)
before_bad_byte q i less eight good each (ninth_byte more) = (omega arith, λ same. absurd (omega arith))
before_bad_byte q i less eight good each (bad_first some bad) = absurd (cc)
before_bad_byte q i less eight good each (bad_later some within bad) = let least = below i _ q each bad in (omega arith, λ same. omega arith)

pub bad_byte_is : (s n : ℕ) (q : List ℕ) (i : ℕ) → i < length q → i < 8 → is_initial (get_or q 0 0) ≡ true → ((k : ℕ) → k < i → is_qualifier_byte (get_or q k 0) ≡ true)
    → is_qualifier_byte (get_or q i 0) ≡ false → (is_qualifier q ≡ false) × IsFirstIn s n q (BadByte (s + i))
bad_byte_is s n q zero less eight good each bad = let fine = initial_is_good (get_or q 0 0) good in absurd (cc)
bad_byte_is s n q (suc i) less eight good each bad = with_fault s n q _ (record { place = s + suc i; is = record { met = bad_later (omega arith) less bad; first = λ other fault. before_bad_byte q (suc i) less eight good each fault } })

before_ninth : {s n p : ℕ} {err : NameErr} (q : List ℕ) (i : ℕ) → 8 < length q → 8 ≤ i → is_initial (get_or q 0 0) ≡ true → ((k : ℕ) → k < i → is_qualifier_byte (get_or q k 0) ≡ true)
    → QualifierFault s n q p err → NotBehind (place_of (s + 8, BadQualifier n)) (place_of (p, err))
before_ninth q i long eight good each (empty nil) = let none : length q ≡ 0 = rw nil refl in absurd (omega arith)
before_ninth q i long eight good each (ninth_byte more) = (omega arith, λ same. omega arith)
before_ninth q i long eight good each (bad_first some bad) = absurd (cc)
before_ninth q i long eight good each (bad_later some within bad) = let least = below i _ q each bad in (omega arith, λ same. omega arith)

pub ninth_is : (s n : ℕ) (q : List ℕ) (i : ℕ) → 8 < length q → 8 ≤ i → is_initial (get_or q 0 0) ≡ true → ((k : ℕ) → k < i → is_qualifier_byte (get_or q k 0) ≡ true)
    → (is_qualifier q ≡ false) × IsFirstIn s n q (BadQualifier n)
ninth_is s n q i long eight good each = with_fault s n q _ (record { place = s + 8; is = record { met = ninth_byte long; first = λ other fault. before_ninth q i long eight good each fault } })

pub good_is : (q : List ℕ) (i : ℕ) → 0 < length q → length q ≤ 8 → length q ≤ i → is_initial (get_or q 0 0) ≡ true → ((k : ℕ) → k < i → is_qualifier_byte (get_or q k 0) ≡ true) → is_qualifier q ≡ true
good_is q i some short all good each = rw (le-leb 1 (length q) (omega arith), le-leb (length q) 8 short, good) (list_all_from is_qualifier_byte q (λ k less. each k (omega arith)))

-- qualifiers in a row

pub all_good : (qs : List (List ℕ)) → list_all is_qualifier qs ≡ true → (s n p : ℕ) (err : NameErr) → NameFault s n qs p err → ⊥
all_good [] e s n p err fault = elim fault [ ]
all_good (q ∷ qs) e s n p err (here fault) = no_fault_in q (both _ _ e).0 fault
all_good (q ∷ qs) e s n p err (behind fault) = all_good qs (both _ _ e).1 _ _ _ _ fault

pub faults_from : {s n p : ℕ} {qs : List (List ℕ)} {err : NameErr} → NameFault s n qs p err → s ≤ p
faults_from (here fault) = fault_from fault
faults_from (behind fault) = let later = faults_from fault in omega arith

among_goes_on : {s n p : ℕ} {err : NameErr} (q : List ℕ) (qs : List (List ℕ)) → is_qualifier q ≡ true → NameFault s n (q ∷ qs) p err → NameFault (s + length q + 1) (n + 1) qs p err
among_goes_on q qs good (here fault) = absurd (no_fault_in q good fault)
among_goes_on q qs good (behind fault) = fault

pub goes_on : (s n : ℕ) (q : List ℕ) (qs : List (List ℕ)) (err : NameErr) → is_qualifier q ≡ true → IsFirstAmong (s + length q + 1) (n + 1) qs err → IsFirstAmong s n (q ∷ qs) err
goes_on s n q qs err good found = record { place = found.place; is = record { met = behind found.is.met; first = λ other fault. found.is.first other (among_goes_on q qs good fault) } }

among_here : {s n p : ℕ} {other : NameErr} (q : List ℕ) (qs : List (List ℕ)) (err : NameErr) (found : IsFirstIn s n q err) → NameFault s n (q ∷ qs) p other → NotBehind (place_of (found.place, err)) (place_of (p, other))
among_here {p = p} {other = other} q qs err found (here fault) = found.is.first (p, other) fault
among_here q qs err found (behind fault) = let within = fault_within found.is.met in let later = faults_from fault in (omega arith, λ same. absurd (omega arith))

pub stops : (s n : ℕ) (q : List ℕ) (qs : List (List ℕ)) (err : NameErr) → IsFirstIn s n q err → IsFirstAmong s n (q ∷ qs) err
stops s n q qs err found = record { place = found.place; is = record { met = here found.is.met; first = λ other fault. among_here q qs err found fault } }

-- the walk over the qualifiers

pub walk_stops : (s n : ℕ) (q : List ℕ) (others all : List (List ℕ)) (err : NameErr) → all ≡ q ∷ others → (is_qualifier q ≡ false) × IsFirstIn s n q err
    → (list_all is_qualifier all ≡ false) × IsFirstAmong s n all err
walk_stops s n q others all err e found = rw (e, found.0) (refl, stops s n q others err found.1)

pub walk_goes_on : (s s' n n' : ℕ) (q : List ℕ) (others all : List (List ℕ)) (err : NameErr) → all ≡ q ∷ others → is_qualifier q ≡ true → s' ≡ s + length q + 1 → n' ≡ n + 1
    → IsFirstAmong s' n' others err → IsFirstAmong s n all err
walk_goes_on s s' n n' q others all err e good start number found = rw e (goes_on s n q others err good (rw (start, number) at found))

pub walk_all : (q : List ℕ) (others all : List (List ℕ)) → all ≡ q ∷ others → is_qualifier q ≡ true → list_all is_qualifier all ≡ list_all is_qualifier others
walk_all q others all e good = rw (e, good) refl

-- what the walk over one qualifier needs of these
pub ruleset qualifier_faults = (empty_first, bad_first_is, bad_byte_is, ninth_is, good_is)
