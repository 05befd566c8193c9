-- What certainly never happens.
use Rattle.std.proofs.Common.{◌≡◌, ◌==◌, ◌&&◌, ◌||◌, ℕ, Bool, true, false, List, [], ◌∷◌, ◌++◌, Option, None, Some, refl, sym, ap, ◌∙◌, subst}
use Rattle.std.specs.Prelude.{not, if◌then◌else◌}
use Rattle.std.specs.List.{list_any, list_all}
use Rattle.std.proofs.lemmas.Bool.{eqb-true}
use Rattle.dsn_mask.specs.MaskTest.{fits_items, is_empty, is_star, is_two_stars, mask_fits, passes_behind, passes_somewhere, piece_fits, qualifiers_fit, simple_fits, takes_byte, takes_first}
use Rattle.dsn_mask.specs.Qualifiers.{qualifiers_of}
use Rattle.acs_tree.specs.declared.ending.Ending.{Ending}
use Rattle.acs_tree.specs.declared.ending.Ending.TheVariants as ending
use Rattle.acs_tree.specs.declared.input.Input.{Input}
use Rattle.acs_tree.specs.declared.routine.Compare.TheVariants.{Eq}
use Rattle.acs_tree.specs.declared.routine.Ref.{Ref}
use Rattle.acs_tree.specs.declared.values.Values.{Values}
use Rattle.acs_tree.specs.Comparands.{Comparand}
use Rattle.acs_tree.specs.Compares.{compares, groups_or_null, number_beside, number_compares, text_equals}
use Rattle.acs_tree.specs.Meaning.{Arm, choice, first_of, in_turn}
use Rattle.acs_tree.specs.Outcome.{Action, Outcome, after, then_do}
use Rattle.acs_tree.specs.Outcome as outcome
use Rattle.acs_tree.specs.Value.{Value, Text, Number, Size, AnyOf, AllOf, Groups}
use Rattle.acs_trace.specs.Lint.{Exits, covers_byte, mask_covers, piece_covers, qualifier_covers}

from_false : (b : Bool) → false ≡ true → b ≡ true
from_false b h = subst (λ (t : Bool). (if t then b else true) ≡ true) h refl

or_cases : (a b : Bool) {Q : Type 0} → (a || b) ≡ true → (a ≡ true → Q) → (b ≡ true → Q) → Q
or_cases true b h f g = f refl
or_cases false b h f g = g h

or_left : (a b : Bool) → a ≡ true → (a || b) ≡ true
or_left a b e = ap (λ t. t || b) e

or_right : (a b : Bool) → b ≡ true → (a || b) ≡ true
or_right true b e = refl
or_right false b e = e

and_left : (a b : Bool) → (a && b) ≡ true → a ≡ true
and_left true b h = refl
and_left false b h = h

and_right : (a b : Bool) → (a && b) ≡ true → b ≡ true
and_right true b h = h
and_right false b h = from_false b h

and_both : (a b : Bool) → a ≡ true → b ≡ true → (a && b) ≡ true
and_both a b e f = ap (λ t. t && b) e ∙ f

off_of : (a : Bool) → not a ≡ true → a ≡ false
off_of true h = sym h
off_of false h = refl

-- symbols that take symbols, and what takes items
module _ {S I : Type 0} (is_any : S → Bool) (covers : S → S → Bool) (takes : S → I → Bool)
    (apart : (s t : S) → covers s t ≡ true → is_any t ≡ false) (joins : (s t : S) (i : I) → covers s t ≡ true → takes t i ≡ true → takes s i ≡ true) where
  -- behind a star: what a suffix of the symbols takes, a suffix of the items is
  module _ (p : List S) (rec : (q : List S) (xs : List I) → fits_items is_any covers p q ≡ true → fits_items is_any takes q xs ≡ true → fits_items is_any takes p xs ≡ true) where
    each : (q : List S) → ((xs : List I) → fits_items is_any takes q xs ≡ true → passes_somewhere (fits_items is_any takes p) xs ≡ true)
        → (xs : List I) → passes_somewhere (fits_items is_any takes q) xs ≡ true → passes_somewhere (fits_items is_any takes p) xs ≡ true
    each q go [] h = or_cases (fits_items is_any takes q []) false h (go []) (from_false _)
    each q go (x ∷ xs) h = or_cases (fits_items is_any takes q (x ∷ xs)) (passes_somewhere (fits_items is_any takes q) xs) h (go (x ∷ xs))
        (λ k. or_right (fits_items is_any takes p (x ∷ xs)) (passes_somewhere (fits_items is_any takes p) xs) (each q go xs k))

    later : (t : S) (q : List S) → ((ys : List I) → fits_items is_any takes q ys ≡ true → passes_somewhere (fits_items is_any takes p) ys ≡ true)
        → (c : Bool) (ys : List I) → (if c then passes_somewhere (fits_items is_any takes q) ys else takes_first (takes t) (fits_items is_any takes q) ys) ≡ true → passes_somewhere (fits_items is_any takes p) ys ≡ true
    later t q go true ys l = each q go ys l
    later t q go false [] l = from_false _ l
    later t q go false (y ∷ ys) l = or_right (fits_items is_any takes p (y ∷ ys)) (passes_somewhere (fits_items is_any takes p) ys) (go ys (and_right (takes t y) (fits_items is_any takes q ys) l))

    star : (q : List S) (xs : List I) → passes_somewhere (fits_items is_any covers p) q ≡ true → fits_items is_any takes q xs ≡ true → passes_somewhere (fits_items is_any takes p) xs ≡ true
    star [] [] h k = or_cases (fits_items is_any covers p []) false h (λ f. or_left (fits_items is_any takes p []) false (rec [] [] f refl)) (from_false _)
    star [] (x ∷ xs) h k = from_false _ k
    star (t ∷ q) xs h k = or_cases (fits_items is_any covers p (t ∷ q)) (passes_somewhere (fits_items is_any covers p) q) h
        (λ f. or_left (fits_items is_any takes p xs) (passes_behind (fits_items is_any takes p) xs) (rec (t ∷ q) xs f k))
        (λ f. later t q (λ ys m. star q ys f m) (is_any t) xs k)

    rest : (s t : S) (q : List S) → covers s t ≡ true → fits_items is_any covers p q ≡ true
        → (ys : List I) → takes_first (takes t) (fits_items is_any takes q) ys ≡ true → takes_first (takes s) (fits_items is_any takes p) ys ≡ true
    rest s t q g h [] l = from_false _ l
    rest s t q g h (y ∷ ys) l =
        and_both (takes s y) (fits_items is_any takes p ys) (joins s t y g (and_left (takes t y) (fits_items is_any takes q ys) l)) (rec q ys h (and_right (takes t y) (fits_items is_any takes q ys) l))

    first : (s : S) (q : List S) (xs : List I) → takes_first (covers s) (fits_items is_any covers p) q ≡ true → fits_items is_any takes q xs ≡ true → takes_first (takes s) (fits_items is_any takes p) xs ≡ true
    first s [] xs h k = from_false _ h
    first s (t ∷ q) xs h k =
        let g = and_left (covers s t) (fits_items is_any covers p q) h in
        rest s t q g (and_right (covers s t) (fits_items is_any covers p q) h) xs
        (subst (λ (c : Bool). (if c then passes_somewhere (fits_items is_any takes q) xs else takes_first (takes t) (fits_items is_any takes q) xs) ≡ true) (apart s t g) k)

    one : (s : S) (c : Bool) (q : List S) (xs : List I) → (if c then passes_somewhere (fits_items is_any covers p) q else takes_first (covers s) (fits_items is_any covers p) q) ≡ true
        → fits_items is_any takes q xs ≡ true → (if c then passes_somewhere (fits_items is_any takes p) xs else takes_first (takes s) (fits_items is_any takes p) xs) ≡ true
    one s true q xs h k = star q xs h k
    one s false q xs h k = first s q xs h k

  pub through : (p q : List S) (xs : List I) → fits_items is_any covers p q ≡ true → fits_items is_any takes q xs ≡ true → fits_items is_any takes p xs ≡ true
  through [] [] xs h k = k
  through [] (t ∷ q) xs h k = from_false _ h
  through (s ∷ p) q xs h k = one p (λ r ys. through p r ys) s (is_any s) q xs h k

-- bytes

covers_apart : (s t : ℕ) → covers_byte s t ≡ true → is_star t ≡ false
covers_apart s t h = off_of (is_star t) (and_left (not (is_star t)) (s == 37 || s == t) h)

covers_joins : (s t i : ℕ) → covers_byte s t ≡ true → takes_byte t i ≡ true → takes_byte s i ≡ true
covers_joins s t i h k = or_cases (s == 37) (s == t) (and_right (not (is_star t)) (s == 37 || s == t) h)
    (λ e. or_left (s == 37) (s == i) e)
    (λ e. subst (λ n. takes_byte n i ≡ true) (sym (eqb-true s t e)) k)

pub piece_through : (one other text : List ℕ) → piece_covers one other ≡ true → piece_fits other text ≡ true → piece_fits one text ≡ true
piece_through = through is_star covers_byte takes_byte covers_apart covers_joins

pub simple_through : (one other text : List ℕ) → piece_covers one other ≡ true → simple_fits other text ≡ true → simple_fits one text ≡ true
simple_through one other text h k = piece_through one other text h k

-- qualifiers

pub mask_through : (one other text : List ℕ) → mask_covers one other ≡ true → mask_fits other text ≡ true → mask_fits one text ≡ true
mask_through one other text h k =
    through is_two_stars qualifier_covers piece_fits
    (λ s t e. off_of (is_two_stars t) (and_left (not (is_two_stars t)) (piece_covers s t) e))
    (λ s t q e f. piece_through s t q (and_right (not (is_two_stars t)) (piece_covers s t) e) f)
    (qualifiers_of one) (qualifiers_of other) (qualifiers_of text) h k

-- a wider comparand

any_wider : {A : Type 0} (p q : A → Bool) → ((a : A) → p a ≡ true → q a ≡ true) → (items : List A) → list_any p items ≡ true → list_any q items ≡ true
any_wider p q f [] h = h
any_wider p q f (a ∷ items) h = or_cases (p a) (list_any p items) h (λ e. or_left (q a) (list_any q items) (f a e)) (λ e. or_right (q a) (list_any q items) (any_wider p q f items e))

all_wider : {A : Type 0} (p q : A → Bool) → ((a : A) → p a ≡ true → q a ≡ true) → (items : List A) → list_all p items ≡ true → list_all q items ≡ true
all_wider p q f [] h = h
all_wider p q f (a ∷ items) h = and_both (q a) (list_all q items) (f a (and_left (p a) (list_all p items) h)) (all_wider p q f items (and_right (p a) (list_all p items) h))

pub wider_holds : (input : Input) (values : Values) (value : Value) (right wide : Comparand) → number_beside input values right ≡ None
    → ((text : List ℕ) → text_equals input values right text ≡ true → text_equals input values wide text ≡ true)
    → compares input values Eq value right ≡ true → compares input values Eq value wide ≡ true
wider_holds input values (Text text) right wide n f h = f text h
wider_holds input values (Number number) right wide n f h = from_false _ (sym (ap (number_compares Eq number) n) ∙ h)
wider_holds input values (Size kilobytes) right wide n f h = from_false _ (sym (ap (number_compares Eq kilobytes) n) ∙ h)
wider_holds input values (AnyOf volumes) right wide n f h = any_wider (text_equals input values right) (text_equals input values wide) f volumes h
wider_holds input values (AllOf volumes) right wide n f h =
    and_both (not (is_empty volumes)) (list_all (text_equals input values wide) volumes) (and_left (not (is_empty volumes)) (list_all (text_equals input values right) volumes) h)
    (all_wider (text_equals input values right) (text_equals input values wide) f volumes (and_right (not (is_empty volumes)) (list_all (text_equals input values right) volumes) h))
wider_holds input values (Groups groups) right wide n f h = any_wider (text_equals input values right) (text_equals input values wide) f (groups_or_null groups) h

-- WHENs and EXITs

pub arm_never : (subject : Option Ref) (before behind : List Arm) (arm : Arm) (otherwise : Action) (input : Input) (values : Values)
    → (arm.test subject input values ≡ true → list_any (λ (earlier : Arm). earlier.test subject input values) before ≡ true)
    → first_of subject (before ++ arm ∷ behind) otherwise input values ≡ first_of subject (before ++ behind) otherwise input values
arm_never subject [] behind arm otherwise input values h = none (arm.test subject input values) h
  where
    none : (c : Bool) → (c ≡ true → false ≡ true) → (if c then arm.body input values else first_of subject behind otherwise input values) ≡ first_of subject behind otherwise input values
    none true g = ap (λ (t : Bool). if t then arm.body input values else first_of subject behind otherwise input values) (sym (g refl))
    none false g = refl
arm_never subject (first ∷ before) behind arm otherwise input values h = one (λ g. arm_never subject before behind arm otherwise input values g) (first.test subject input values) h
  where
    one : ((arm.test subject input values ≡ true → list_any (λ (earlier : Arm). earlier.test subject input values) before ≡ true) → first_of subject (before ++ arm ∷ behind) otherwise input values ≡ first_of subject (before ++ behind) otherwise input values)
        → (c : Bool) → (arm.test subject input values ≡ true → (c || list_any (λ (earlier : Arm). earlier.test subject input values) before) ≡ true)
        → (if c then first.body input values else first_of subject (before ++ arm ∷ behind) otherwise input values) ≡ (if c then first.body input values else first_of subject (before ++ behind) otherwise input values)
    one go true g = refl
    one go false g = go g

after_same : (e : Ending) (before : Outcome) (one other : Values → Outcome) → ((values : Values) → one values ≡ other values) → after e before one ≡ after e before other
after_same ending.Falls before one other f = ap (outcome.behind before.lines) (f before.values)
after_same (ending.Exit code) before one other f = refl

pub nothing_behind : (before behind : List Action) (action : Action) (input : Input) (values : Values) → Exits action
    → in_turn (before ++ action ∷ behind) input values ≡ in_turn (before ++ action ∷ []) input values
nothing_behind [] behind action input values e =
    let out = (e input values).1 in
    let cut : (next : Values → Outcome) → then_do (action input values) next ≡ action input values = λ next. ap (λ (o : Ending). after o (action input values) next) out in
    cut (in_turn behind input) ∙ sym (cut (in_turn [] input))
nothing_behind (first ∷ before) behind action input values e =
    after_same (first input values).ending (first input values) (in_turn (before ++ action ∷ behind) input) (in_turn (before ++ action ∷ []) input) (λ v. nothing_behind before behind action input v e)
