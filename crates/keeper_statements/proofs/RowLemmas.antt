-- A row that gets the next rowid comes last.
use Rattle.std.proofs.Common.{◌≡◌, ◌⊎◌, Bool, true, false, cond, List, [], ◌∷◌, ◌++◌, drop, Ok, Err}
use Rattle.std.proofs.Common.{refl, sym, ap, subst, ◌∙◌, inl, inr, arith, IsTrue, ℤ, pos, ◌+ℤ◌, fold, filter, ◌<ℤ◌}
use Rattle.std.proofs.Common.{Less, int_cmp}
use Rattle.std.proofs.lemmas.Bool.{cases_Bool}
use Rattle.std.proofs.lemmas.Bool.Decides.{nat_tests}
use Rattle.std.proofs.lemmas.Int.{ints}
use Rattle.std.proofs.lemmas.List.{map-append}
use Rattle.std.specs.List.{AllByRecursion}
use Rattle.sqlite_value.specs.declared.value.Value.{Value}
use Rattle.sqlite_value.specs.declared.value.Value.TheVariants.{Null, Int}
use Rattle.sqlite_value.specs.Order.{Row, value_cmp}
use Rattle.sqlite_value.proofs.OrderLemmas.{value_cmp-Int}
use Rattle.sqlite_trees.specs.Tree.{rowid, IsTable, put_row}
use Rattle.sqlite_trees.specs.View.{is_int}
use Rattle.sqlite_sql.specs.Ops.{unary}
use Rattle.sqlite_rules.specs.Lists.{Has}
use Rattle.sqlite_rules.specs.Cast.{cast}
use Rattle.sqlite.specs.Kind.TheVariants.{Integer}
use Rattle.sqlite_rules.specs.Edit.{id_in, next_rowid}
use Rattle.sqlite_trees.proofs.TreeLemmas.{IsTable-put_row}
use Rattle.sqlite_rules.proofs.TableLemmas.{int_is, put_has}
use Rattle.sqlite_rules.proofs.ListLemmas.{all_has, all_from, has_filtered}
use Rattle.keeper_statements.specs.Tables.{IsKeyed, bodies}

pub put_last : (new : Row) (rows : List Row) → ((r : Row) → Has rows r → value_cmp (rowid r) (rowid new) ≡ Less) → put_row new rows ≡ rows ++ new ∷ []
put_last new [] below = refl
put_last new (r ∷ rows) below = rw (below r (inl refl)) (ap (λ x. r ∷ x) (put_last new rows (λ y h. below y (inr h))))

lower_than : (a b c : ℤ) → int_cmp a b ≡ Less → b <ℤ c → a <ℤ c
lower_than a b c p q = grind (arith, ints, nat_tests)

below_is : (a b : ℤ) → a <ℤ b → value_cmp (Int a) (Int b) ≡ Less
below_is a b h = value_cmp-Int a b ∙ grind (arith, ints, nat_tests)

abbrev step_rowid : ℤ → Row → ℤ
step_rowid n r = id_in (rowid r) +ℤ pos 1

below_next : (x : Row) (rows : List Row) → IsTable (x ∷ rows) → AllByRecursion (λ r. IsTrue (is_int (rowid r))) (x ∷ rows)
    → AllByRecursion (λ r. id_in (rowid r) <ℤ fold step_rowid (step_rowid (pos 1) x) rows) (x ∷ rows)
below_next x [] up keyed = (omega (arith, ints), tt)
below_next x (y ∷ rows) up keyed =
    let later = below_next y rows up.1 keyed.1 in
    let lower = rw (int_is (rowid x) keyed.0, int_is (rowid y) keyed.1.0, value_cmp-Int (id_in (rowid x)) (id_in (rowid y))) at up.0.0 in
    let first = later.0 in
    (lower_than (id_in (rowid x)) (id_in (rowid y)) _ lower first, later)

pub next_above : (rows : List Row) → IsKeyed rows → (r : Row) → Has rows r → value_cmp (rowid r) (Int (next_rowid rows)) ≡ Less
next_above [] keyed r h = absurd h
next_above (x ∷ rows) keyed r h =
    let below = all_has _ (x ∷ rows) r (below_next x rows keyed.0 keyed.1) h in
    rw (int_is (rowid r) (all_has _ (x ∷ rows) r keyed.1 h)) (below_is _ _ below)

pub put_next : (rows : List Row) (rest : Row) → IsKeyed rows → put_row (Int (next_rowid rows) ∷ rest) rows ≡ rows ++ (Int (next_rowid rows) ∷ rest) ∷ []
put_next rows rest keyed = put_last (Int (next_rowid rows) ∷ rest) rows (λ r h. next_above rows keyed r h)

pub keyed_push : (rows : List Row) (id : ℤ) (rest : Row) → IsKeyed rows → ((r : Row) → Has rows r → value_cmp (rowid r) (Int id) ≡ Less) → IsKeyed (rows ++ (Int id ∷ rest) ∷ [])
keyed_push [] id rest keyed below = ((tt, tt), (refl, tt))
keyed_push (r ∷ rows) id rest keyed below =
    let more = keyed_push rows id rest (keyed.0.1, keyed.1.1) (λ y h. below y (inr h)) in
    ((all_push (λ y. value_cmp (rowid r) (rowid y) ≡ Less) rows (Int id ∷ rest) keyed.0.0 (below r (inl refl)), more.0), (keyed.1.0, more.1))
  where
    all_push : (P : Row → Type 0) (xs : List Row) (x : Row) → AllByRecursion P xs → P x → AllByRecursion P (xs ++ x ∷ [])
    all_push P [] x all here = (here, tt)
    all_push P (y ∷ xs) x all here = (all.0, all_push P xs x all.1 here)

pub keyed_next : (rows : List Row) (rest : Row) → IsKeyed rows → IsKeyed (put_row (Int (next_rowid rows) ∷ rest) rows)
keyed_next rows rest keyed = subst IsKeyed (sym (put_next rows rest keyed)) (keyed_push rows (next_rowid rows) rest keyed (λ r h. next_above rows keyed r h))

-- a row with a number keeps the order
pub keyed_put : (rows : List Row) (id : ℤ) (rest : Row) → IsKeyed rows → IsKeyed (put_row (Int id ∷ rest) rows)
keyed_put rows id rest keyed = (
  IsTable-put_row (Int id ∷ rest) rows keyed.0,
  all_from (λ r. IsTrue (is_int (rowid r))) (put_row (Int id ∷ rest) rows) (λ y h. elim (put_has (Int id ∷ rest) rows y h) [
    | inl is ↦ ap (λ (r : Row). is_int (rowid r)) is
    | inr there ↦ all_has (λ r. IsTrue (is_int (rowid r))) rows y keyed.1 there
  ]),
)

pub keyed_filter : (p : Row → Bool) (rows : List Row) → IsKeyed rows → IsKeyed (filter p rows)
keyed_filter p [] keyed = (tt, tt)
keyed_filter p (r ∷ rows) keyed =
    let more = keyed_filter p rows (keyed.0.1, keyed.1.1) in
    elim (cases_Bool (p r)) [
      | inl here ↦ rw here ((all_from _ (filter p rows) (λ y h. all_has _ rows y keyed.0.0 (has_filtered p rows y h).0), more.0), (keyed.1.0, more.1))
      | inr out ↦ rw out more
    ]

pub bodies_next : (rows : List Row) (rest : Row) → IsKeyed rows → bodies (put_row (Int (next_rowid rows) ∷ rest) rows) ≡ bodies rows ++ rest ∷ []
bodies_next rows rest keyed = ap bodies (put_next rows rest keyed) ∙ map-append (drop 1) rows ((Int (next_rowid rows) ∷ rest) ∷ [])

either : (b : Bool) (x : Value) → cond b x x ≡ x
either true x = refl
either false x = refl

pub cast_null : cast Integer Null ≡ Null
unfolding unary
cast_null = either _ Null

pub cast_int : (n : ℤ) → cast Integer (Int n) ≡ Int n
unfolding unary
cast_int n = either _ (Int n)

-- a part that gave a value did not stop on the way
pub went : {B E R : Type 0} {b : B} {Stops : E → Type 0} → ((stop : E) × Stops stop × (Ok b ≡ Err stop)) ⊎ R → R
went (inl stopped) = absurd (let e = stopped.2 in cc)
went (inr on) = on

pub same_value : {B E : Type 0} {a b : B} → ◌≡◌ {A = Rattle.std.proofs.Common.Result B E} (Ok a) (Ok b) → a ≡ b
same_value e = cc
