-- What happens in a store in memory.
use Rattle.std.proofs.Common.{◌≡◌, ◌<◌, ◌≤◌, ◌⊎◌, ℕ, true, false, List, [], ◌∷◌, ◌++◌, zero, suc, Some, refl, sym, ap, ◌∙◌, subst, inl, inr, arith}
use Rattle.std.specs.Prelude.{slice_get}
use Rattle.row_store.specs.Contents.{IsAfter, IsFrom, IsTaken, are_absent, claimed, contents_after, following}
use Rattle.row_store.specs.Histories.{IsRule}
use Rattle.row_store.specs.Inner.Engines.{CanBeMade, Happens, Stands}
use Rattle.row_store.specs.Memory.{IsOneOf, MayHold}
use Rattle.row_store.specs.Outcomes.{IsLater, IsMade, Leaves}
use Rattle.row_store.specs.declared.contents.Contents.{Contents}
use Rattle.row_store.specs.declared.engine.Engine.{Engine}
use Rattle.row_store.specs.declared.guard.Guard.{Guard}
use Rattle.row_store.specs.declared.row.Row.{Row}
use Rattle.row_store.specs.declared.store.Outcome.{Outcome}
use Rattle.row_store.specs.declared.store.Outcome.TheVariants.{Done, Refused, Failed, Unknown}
use Rattle.row_store.specs.declared.transaction.Transaction.{Transaction}

-- guards

-- what comes after is of no earlier epoch
epoch_after : (a b : Guard) → IsAfter a b → a.epoch ≤ b.epoch
epoch_after a b after = elim after [ inl epoch ↦ omega arith | inr same ↦ let e = same.0 in omega arith ]

-- it isn't the same
not_after : (a b : Guard) → IsAfter a b → a ≡ b → ⊥
not_after a b after is =
    let e = ap (λ (g : Guard). g.epoch) is in
    let n = ap (λ (g : Guard). g.number) is in
    elim after [ inl epoch ↦ absurd (omega arith) | inr same ↦ let m = same.1 in absurd (omega arith) ]

-- what comes after what comes after does too
after_after : (a b c : Guard) → IsAfter a b → IsAfter b c → IsAfter a c
after_after a b c one two =
    elim one [
      | inl epoch ↦ let e = epoch_after b c two in inl (omega arith)
      | inr same ↦ let e = same.0 in let m = same.1 in elim two [
        | inl epoch ↦ inl (omega arith)
        | inr next ↦ let f = next.0 in let n = next.1 in inr (e ∙ f, omega arith)
      ]
    ]

after_from : (a b c : Guard) → IsFrom a b → IsAfter b c → IsAfter a c
after_from a b c one two =
    elim one [ inl is ↦ let P : Guard → Type 0 = λ g. IsAfter g c in subst P (sym is) two | inr after ↦ after_after a b c after two ]

epoch_from : (a b : Guard) → IsFrom a b → a.epoch ≤ b.epoch
epoch_from a b one =
    elim one [ inl is ↦ let e = ap (λ (g : Guard). g.epoch) is in omega arith | inr after ↦ epoch_after a b after ]

-- contents

-- what comes after what was seen may come later
later_after : (seen c : Contents) → IsAfter seen.guard c.guard → IsLater seen c
later_after seen c after =
    record { guard = inr after; same = λ is. absurd (not_after seen.guard c.guard after (sym is)) }

later_same : (seen c : Contents) → c ≡ seen → IsLater seen c
later_same seen c is = record { guard = inl (sym (ap (λ (x : Contents). x.guard) is)); same = λ g. is }

-- engines

module _ (old new : Engine) (stands : Stands old) (seen : new.seen ≡ old.seen) (after : IsAfter old.held.guard new.held.guard)
    (late : (c : Contents) → IsOneOf new.late c → IsOneOf old.late c) where
  seen_after : IsAfter new.seen.guard new.held.guard
  seen_after = let P : Contents → Type 0 = λ s. IsAfter s.guard new.held.guard in
      subst P (sym seen) (after_from old.seen.guard old.held.guard new.held.guard stands.later.guard after)

  -- what holds goes on to hold where it moves on
  pub moved_stands : Stands new
  moved_stands = record {
    later = later_after new.seen new.held seen_after;
    late = λ c is. let P : Contents → Type 0 = λ s. IsAfter s.guard c.guard in subst P (sym seen) (stands.late c (late c is));
  }

  module _ (other : new.has_other ≡ true → (old.has_other ≡ true) ⊎ (old.held.guard.epoch < new.held.guard.epoch)) where
    others_at : (c : Contents) → IsAfter new.held.guard c.guard → (old.has_other ≡ true) ⊎ (old.held.guard.epoch < new.held.guard.epoch) → MayHold old c
    others_at c follows one =
        elim one [
          | inl has ↦ inr (inr (inr (has, after_after old.held.guard new.held.guard c.guard after follows)))
          | inr epoch ↦ let e = epoch_after new.held.guard c.guard follows in inr (inr (inl (omega arith)))
        ]

    -- nothing may be that couldn't, but what it holds
    pub moved_may : (c : Contents) → MayHold new c → (c ≡ new.held) ⊎ MayHold old c
    moved_may c may =
        elim may [
          | inl is ↦ inl is
          | inr more ↦ elim more [
            | inl is_late ↦ absurd (not_after new.seen.guard new.held.guard seen_after (sym is_late.0))
            | inr more ↦ elim more [
              | inl taken ↦ let e = epoch_after old.held.guard new.held.guard after in inr (inr (inr (inl (omega arith))))
              | inr others ↦ inr (others_at c others.1 (other others.0))
            ]
          ]
        ]

    move_at : (c : Contents) → MayHold old new.held → (c ≡ new.held) ⊎ MayHold old c → MayHold old c
    move_at c may one = elim one [ inl is ↦ let P : Contents → Type 0 = λ x. MayHold old x in subst P (sym is) may | inr may ↦ may ]

    pub moved : MayHold old new.held → Happens old new
    moved may = record { stands = moved_stands; seen = seen; may = λ c after. move_at c may (moved_may c after) }

-- nothing happens
pub stays : (e : Engine) → Stands e → Happens e e
stays e stands = record { stands = stands; seen = refl; may = λ c may. may }

-- what is at a place of a list is one of it
one_at : (xs : List Contents) (i : ℕ) (x : Contents) → slice_get xs i ≡ Some x → IsOneOf xs x
one_at [] i x is = absurd cc
one_at (y ∷ ys) zero x is = inl (let e : y ≡ x = cc in sym e)
one_at (y ∷ ys) (suc i) x is = inr (one_at ys i x is)

-- a change to which no answer came is made
pub late_happens : (e : Engine) (i : ℕ) (c : Contents) → Stands e → e.held.guard ≡ e.seen.guard → slice_get e.late i ≡ Some c →
    Happens e (record e { held = c; late = [] })
late_happens e i c stands same is =
    let one = one_at e.late i c is in
    let P : Guard → Type 0 = λ g. IsAfter g c.guard in
    moved e (record e { held = c; late = [] }) stands refl (subst P (sym same) (stands.late c one)) (λ x none. absurd none)
    (λ has. inl has) (inr (inl (same, one)))

-- another desk takes the prefix
pub taken_happens : (e : Engine) (next : Guard) → Stands e → next ≡ claimed e.held.guard →
    Happens e (record e { held = record e.held { guard = next }; has_other = true })
taken_happens e next stands is =
    let n : e.held.guard.epoch < next.epoch = let f = ap (λ (g : Guard). g.epoch) is in omega arith in
    moved e (record e { held = record e.held { guard = next }; has_other = true }) stands refl (inl n) (λ x one. one)
    (λ has. inr n) (inr (inr (inl n)))

-- the desk that took it makes a change
pub put_happens : (e : Engine) (next : Guard) (rows : List Row) → Stands e → e.has_other ≡ true → next ≡ following e.held.guard →
    Happens e (record e { held = record { guard = next; rows = rows } })
put_happens e next rows stands has is =
    let f = ap (λ (g : Guard). g.epoch) is in
    let m = ap (λ (g : Guard). g.number) is in
    let after : IsAfter e.held.guard next = inr (sym f, omega arith) in
    moved e (record e { held = record { guard = next; rows = rows } }) stands refl after (λ x one. one) (λ has. inl has)
    (inr (inr (inr (has, after))))

-- where what it holds was seen, all that may come comes later
pub seen_later : (e : Engine) (c : Contents) → Stands e → e.seen ≡ e.held → MayHold e c → IsLater e.seen c
seen_later e c stands is may =
    elim may [
      | inl here ↦ later_same e.seen c (here ∙ sym is)
      | inr more ↦ elim more [
        | inl late ↦ later_after e.seen c (stands.late c late.1)
        | inr more ↦ elim more [
          | inl taken ↦ let f = ap (λ (x : Contents). x.guard.epoch) is in later_after e.seen c (inl (omega arith))
          | inr others ↦ let P : Contents → Type 0 = λ s. IsAfter s.guard c.guard in later_after e.seen c (subst P (sym is) others.1)
        ]
      ]
    ]

-- the guard that was seen stands over what was seen
pub sees_now : (e : Engine) → Stands e → e.seen.guard ≡ e.held.guard → e.seen ≡ e.held
sees_now e stands same = sym (stands.later.same (sym same))

-- what it holds is seen
pub shown_stands : (e : Engine) (seen : Contents) → seen ≡ e.held → Stands (record e { seen = seen; late = [] })
shown_stands e seen is = record { later = later_same seen e.held (sym is); late = λ c none. absurd none }

pub shown_may : (e : Engine) (seen : Contents) (c : Contents) → MayHold (record e { seen = seen; late = [] }) c → MayHold e c
shown_may e seen c may =
    elim may [
      | inl here ↦ inl here
      | inr more ↦ elim more [ inl late ↦ absurd late.1 | inr more ↦ inr (inr more) ]
    ]

-- transactions

-- each leads to a guard that comes after the one that it expects
rule_after : (t : Transaction) → IsRule t → IsAfter t.expects t.next
rule_after t rule =
    elim rule [
      | inl is ↦ let e = ap (λ (g : Guard). g.epoch) is in inl (omega arith)
      | inr more ↦ elim more [
        | inl is ↦ let e = ap (λ (g : Guard). g.epoch) is in let n = ap (λ (g : Guard). g.number) is in inr (sym e, omega arith)
        | inr is ↦ let e = ap (λ (g : Guard). g.epoch) is in let n = ap (λ (g : Guard). g.number) is in inr (sym e, omega arith)
      ]
    ]

-- what it makes of what is there could be made
is_made : (e : Engine) (t : Transaction) (c : Contents) → CanBeMade t e.held → c ≡ contents_after t e.held → IsMade (MayHold e) t c
is_made e t c can is =
    record { before = e.held; could_be = inl refl; expected = can.expected; absent = can.absent; is = is }

-- the engine holds what a transaction makes, and it isn't shown

made_after : (e : Engine) (t : Transaction) (after : Contents) → IsRule t → CanBeMade t e.held → after ≡ contents_after t e.held →
    IsAfter e.held.guard after.guard
made_after e t after rule can is =
    let P : Guard → Type 0 = λ g. IsAfter g after.guard in
    let Q : Contents → Type 0 = λ x. IsAfter t.expects x.guard in
    subst P (sym can.expected) (subst Q (sym is) (rule_after t rule))

pub made_stands : (e : Engine) (t : Transaction) (after : Contents) → Stands e → IsRule t → CanBeMade t e.held →
    after ≡ contents_after t e.held → Stands (record e { held = after })
made_stands e t after stands rule can is =
    moved_stands e (record e { held = after }) stands refl (made_after e t after rule can is) (λ x one. one)

pub made_leaves : (e : Engine) (t : Transaction) (after c : Contents) → Stands e → IsRule t → CanBeMade t e.held →
    after ≡ contents_after t e.held → MayHold (record e { held = after }) c → MayHold e c ⊎ IsMade (MayHold e) t c
made_leaves e t after c stands rule can is may =
    elim (moved_may e (record e { held = after }) stands refl (made_after e t after rule can is) (λ x one. one) (λ has. inl has) c may) [
      | inl here ↦ inr (is_made e t c can (here ∙ is))
      | inr could ↦ inl could
    ]

-- it is shown

pub done_stands : (seen after : Contents) → seen ≡ after → Stands (record { seen = seen; held = after; late = []; has_other = false })
done_stands seen after is = record { later = later_same seen after (sym is); late = λ c none. absurd none }

pub done_sees : (e : Engine) (t : Transaction) (seen after : Contents) → Stands e → t.expects ≡ e.seen.guard → CanBeMade t e.held →
    after ≡ contents_after t e.held → seen ≡ after → (seen ≡ contents_after t e.seen) × (are_absent t.absent e.seen.rows ≡ true)
done_sees e t seen after stands expected can is shown =
    let same = stands.later.same (can.expected ∙ expected) in
    (shown ∙ is ∙ ap (contents_after t) same, ap (λ (x : Contents). are_absent t.absent x.rows) (sym same) ∙ can.absent)

pub done_leaves : (e : Engine) (t : Transaction) (seen after c : Contents) → CanBeMade t e.held → after ≡ contents_after t e.held →
    MayHold (record { seen = seen; held = after; late = []; has_other = false }) c → IsMade (MayHold e) t c ⊎ IsTaken t.next c
done_leaves e t seen after c can is may =
    elim may [
      | inl here ↦ inl (is_made e t c can (here ∙ is))
      | inr more ↦ elim more [
        | inl late ↦ absurd late.1
        | inr more ↦ elim more [
          | inl taken ↦ let P : Contents → Type 0 = λ x. IsTaken x.guard c in inr (subst P is taken)
          | inr others ↦ absurd (let has = others.0 in cc)
        ]
      ]
    ]

-- it may be made later

one_of_more : (xs : List Contents) (x c : Contents) → IsOneOf (xs ++ x ∷ []) c → IsOneOf xs c ⊎ (c ≡ x)
one_of_more [] x c one = elim one [ inl is ↦ inr is | inr none ↦ absurd none ]
one_of_more (y ∷ ys) x c one =
    elim one [
      | inl is ↦ inl (inl is)
      | inr one ↦ elim (one_of_more ys x c one) [ inl before ↦ inl (inr before) | inr is ↦ inr is ]
    ]

waiting_after : (e : Engine) (t : Transaction) (after c : Contents) → Stands e → IsRule t → t.expects ≡ e.seen.guard →
    after ≡ contents_after t e.held → IsOneOf e.late c ⊎ (c ≡ after) → IsAfter e.seen.guard c.guard
waiting_after e t after c stands rule expected is one =
    elim one [
      | inl before ↦ stands.late c before
      | inr here ↦
          let P : Guard → Type 0 = λ g. IsAfter g c.guard in
          let Q : Contents → Type 0 = λ x. IsAfter t.expects x.guard in
          subst P expected (subst Q (sym (here ∙ is)) (rule_after t rule))
    ]

pub waiting_stands : (e : Engine) (t : Transaction) (after : Contents) → Stands e → IsRule t → t.expects ≡ e.seen.guard →
    after ≡ contents_after t e.held → Stands (record e { late = e.late ++ after ∷ [] })
waiting_stands e t after stands rule expected is =
    record { later = stands.later; late = λ c one. waiting_after e t after c stands rule expected is (one_of_more e.late after c one) }

waiting_at : (e : Engine) (t : Transaction) (after c : Contents) → CanBeMade t e.held → after ≡ contents_after t e.held →
    e.held.guard ≡ e.seen.guard → IsOneOf e.late c ⊎ (c ≡ after) → MayHold e c ⊎ IsMade (MayHold e) t c
waiting_at e t after c can is same one =
    elim one [ inl before ↦ inl (inr (inl (same, before))) | inr here ↦ inr (is_made e t c can (here ∙ is)) ]

pub waiting_leaves : (e : Engine) (t : Transaction) (after c : Contents) → CanBeMade t e.held → after ≡ contents_after t e.held →
    MayHold (record e { late = e.late ++ after ∷ [] }) c → MayHold e c ⊎ IsMade (MayHold e) t c
waiting_leaves e t after c can is may =
    elim may [
      | inl here ↦ inl (inl here)
      | inr more ↦ elim more [
        | inl late ↦ waiting_at e t after c can is late.0 (one_of_more e.late after c late.1)
        | inr more ↦ inl (inr (inr more))
      ]
    ]

-- it is refused: what has the guard that it expects is what the engine holds

refused_at : (e : Engine) (t : Transaction) (c : Contents) → t.expects ≡ e.seen.guard → IsAfter e.seen.guard c.guard →
    c.guard ≡ t.expects → are_absent t.absent c.rows ≡ false
refused_at e t c expected after is = absurd (not_after e.seen.guard c.guard after (sym (is ∙ expected)))

pub refused_leaves : (e : Engine) (t : Transaction) (c : Contents) → Stands e → t.expects ≡ e.seen.guard →
    (e.held.guard ≡ t.expects → are_absent t.absent e.held.rows ≡ false) → MayHold e c →
    c.guard ≡ t.expects → are_absent t.absent c.rows ≡ false
refused_leaves e t c stands expected absent may is =
    elim may [
      | inl here ↦
          ap (λ (x : Contents). are_absent t.absent x.rows) here ∙ absent (sym (ap (λ (x : Contents). x.guard) here) ∙ is)
      | inr more ↦ elim more [
        | inl late ↦ refused_at e t c expected (stands.late c late.1) is
        | inr more ↦ elim more [
          | inl taken ↦ refused_at e t c expected (after_from e.seen.guard e.held.guard c.guard stands.later.guard (inl taken)) is
          | inr others ↦ refused_at e t c expected (after_from e.seen.guard e.held.guard c.guard stands.later.guard others.1) is
        ]
      ]
    ]

-- what a transaction leaves, where nothing could be before it that couldn't

made_of : (could could' : Contents → Type 0) (t : Transaction) (c : Contents) → ((x : Contents) → could x → could' x) →
    IsMade could t c → IsMade could' t c
made_of could could' t c more made =
    record { before = made.before; could_be = more made.before made.could_be; expected = made.expected; absent = made.absent; is = made.is }

pub leaves_of : (could could' : Contents → Type 0) (t : Transaction) (outcome : Outcome) (c : Contents) →
    ((x : Contents) → could x → could' x) → Leaves could t outcome c → Leaves could' t outcome c
leaves_of could could' t Done c more left =
    elim left [ inl made ↦ inl (made_of could could' t c more made) | inr taken ↦ inr taken ]
leaves_of could could' t Refused c more left = (more c left.0, left.1)
leaves_of could could' t Failed c more left = more c left
leaves_of could could' t Unknown c more left =
    elim left [ inl before ↦ inl (more c before) | inr made ↦ inr (made_of could could' t c more made) ]
