-- How an answer is shown to be exact: there is one thing at most, one fault at most, and never both.
use Rattle.std.proofs.Common.{◌≡◌, ◌≤◌, inl, inr, refl, ap, sym, arith}
use Rattle.std.specs.Prelude.{Option, Some, Ok, Err}
use Rattle.desk_common.specs.Exact.{Place, NotBehind, IsFirst, MayRefuse, IsExact}

-- of one place and one rank
abbrev pub AtOne : Place → Place → Type 0
AtOne one other = (one.at ≡ other.at) × (one.rank ≡ other.rank)

at_one : (one other : Place) → NotBehind one other → NotBehind other one → AtOne one other
at_one one other p q =
    let a : one.at ≤ other.at = p.0 in
    let b : other.at ≤ one.at = q.0 in
    let e : one.at ≡ other.at = omega (arith, a, b) in
    let c : one.rank ≤ other.rank = p.1 e in
    let d : other.rank ≤ one.rank = q.1 (sym e) in
    (e, omega (arith, c, d))

-- two that are the first are met at one place
pub first_at_one : {E : Type 0} {is_met : E → Type 0} {place : E → Place} {err other : E} → IsFirst is_met place err → IsFirst is_met place other → AtOne (place err) (place other)
first_at_one {place = place} {err = err} {other = other} a b = at_one (place err) (place other) (a.first other b.met) (b.first err a.met)

pub exact_thing : {T E : Type 0} {is : T → Type 0} {fault : E → Type 0} {memory : Option E} {made : T}
    → ((other : T) → is other → made ≡ other) → ((err : E) → fault err → ⊥) → IsExact is fault memory (Ok made)
exact_thing one none = record {
  thing = λ other s. inl (ap Ok (one other s));
  refused = λ err f. absurd (none err f);
}

pub exact_fault : {T E : Type 0} {is : T → Type 0} {fault : E → Type 0} {memory : Option E} {err : E}
    → ((made : T) → is made → ⊥) → ((other : E) → fault other → err ≡ other) → IsExact is fault memory (Err err)
exact_fault none one = record {
  thing = λ made s. absurd (none made s);
  refused = λ other f. inl (ap Err (one other f));
}

pub exact_want : {T E : Type 0} {is : T → Type 0} {fault : E → Type 0} {err : E} → IsExact is fault (Some err) (Err err)
exact_want = record {
  thing = λ made s. inr refl;
  refused = λ other f. inr refl;
}

pub refuses_want : {E : Type 0} (fault : E → Type 0) {err : E} → MayRefuse fault (Some err) err
refuses_want fault = inr refl
