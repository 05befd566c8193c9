-- Which configuration was active after so many activations.
use Rattle.std.proofs.Common.{◌≡◌, ◌≤◌, ℕ, ◌+◌, List, [], ◌∷◌, ◌++◌, sym, ap, ◌∙◌, subst, arith, inl, inr}
use Rattle.std.specs.Prelude.{◌⊎◌, Some}
use Rattle.sms_construct.specs.Configuration.{Configuration}
use Rattle.sms_construct.specs.declared.entry.Entry.{Entry}
use Rattle.sms_construct.specs.declared.reply.Reply.{Reply}
use Rattle.sms_construct.specs.declared.request.Op.{Op}
use Rattle.desk_law.specs.State.{DeskState, Opening, start_of}
use Rattle.desk_law.specs.Kept.{floor_of}
use Rattle.desk_law.specs.Step.{IsStep}
use Rattle.desk_law.specs.History.{Leads, WasActive}
use Rattle.desk_law.proofs.GivenLemmas.{KeepsActive, TellsActive, gives-active}
use Rattle.desk_law.proofs.StepLemmas.{fresh-gives, on-step, step-one}

-- the same configuration is active, or there was one activation more
abbrev Follows : DeskState → DeskState → Type 0
Follows s after = ((after.active ≡ s.active) × (after.activations ≡ s.activations)) ⊎ (after.activations ≡ s.activations + 1)

same-follows : (s after : DeskState) → after ≡ s → Follows s after
same-follows s after is = inl (ap (λ (t : DeskState). t.active) is, ap (λ (t : DeskState). t.activations) is)

told-follows : (s : DeskState) (op : Op) (reply : Reply) (after : DeskState) → KeepsActive s reply after ⊎ TellsActive s op reply after → Follows s after
told-follows s op reply after (inl keeps) = inl (keeps.active, keeps.counted)
told-follows s op reply after (inr tells) = inr (ap (λ (t : DeskState). t.activations) tells.becomes.after_is)

step-follows : (o : Opening) (before : List Entry) (s : DeskState) (e : Entry) (after : DeskState) → IsStep o before s e after → Follows s after
step-follows o before s e after step =
    on-step o before s e after (Follows s after) step
    (λ below. same-follows s after below.after_is)
    (λ fresh. told-follows s e.request.op e.answer.reply after (gives-active s e.request.op e.answer.reply after (fresh-gives (floor_of o before) s e after fresh)))
    (λ row found repeat. same-follows s after repeat.after_is)

-- so many activations or more, and as many only where the same configuration is active
abbrev Grows : DeskState → DeskState → Type 0
Grows s after = (s.activations ≤ after.activations) × (after.activations ≡ s.activations → after.active ≡ s.active)

grows-step : (s next after : DeskState) → Follows s next → Grows next after → Grows s after
grows-step s next after (inl same) grows =
    let up = grows.0 in
    let count = same.1 in (omega (arith, up, count), λ e. grows.1 (omega (arith, e, count)) ∙ same.0)
grows-step s next after (inr more) grows =
    let up = grows.0 in (omega (arith, up, more), λ e. absurd (omega (arith, e, up, more)))

leads-grow : (o : Opening) (before : List Entry) (s : DeskState) (es : List Entry) (after : DeskState) → Leads o before s es after → Grows s after
leads-grow o before s [] after is = (let same = ap (λ (t : DeskState). t.activations) is in omega (arith, same), λ e. ap (λ (t : DeskState). t.active) is)
leads-grow o before s (e ∷ es) after leads = grows-step s leads.0 after (step-follows o before s e leads.0 leads.1) (leads-grow o (before ++ e ∷ []) leads.0 es after leads.2)

-- one of two states came of the other
abbrev AreInLine : DeskState → DeskState → Type 0
AreInLine t u = Grows t u ⊎ Grows u t

front-head : (e f : Entry) (a b : List Entry) → e ∷ a ≡ f ∷ b → (e ≡ f) × (a ≡ b)
front-head e f a b is = (cc, cc)

-- two fronts of one list: one goes on as the other
two-fronts : (o : Opening) (before : List Entry) (s : DeskState) (a b more rest : List Entry) (t u : DeskState) → a ++ more ≡ b ++ rest → Leads o before s a t → Leads o before s b u → AreInLine t u
two-fronts o before s [] b more rest t u is one two = inl (subst (λ (x : DeskState). Grows x u) (sym one) (leads-grow o before s b u two))
two-fronts o before s (e ∷ a) [] more rest t u is one two = inr (subst (λ (x : DeskState). Grows x t) (sym two) (leads-grow o before s (e ∷ a) t one))
two-fronts o before s (e ∷ a) (f ∷ b) more rest t u is one two =
    let heads = front-head e f (a ++ more) (b ++ rest) is in
    let moved : IsStep o before s e two.0 = subst (λ (x : Entry). IsStep o before s x two.0) (sym heads.0) two.1 in
    let same : one.0 ≡ two.0 = step-one o before s e one.0 two.0 one.1 moved in
    let tail : Leads o (before ++ e ∷ []) one.0 b u =
    subst (λ (x : DeskState). Leads o (before ++ e ∷ []) x b u) (sym same) (subst (λ (x : Entry). Leads o (before ++ x ∷ []) two.0 b u) (sym heads.0) two.2) in
    two-fronts o (before ++ e ∷ []) one.0 a b more rest t u heads.1 one.2 tail

same-some : (x y : Configuration) → Some x ≡ Some y → x ≡ y
same-some x y is = cc

in-line-active : (t u : DeskState) (n : ℕ) (x y : Configuration) → AreInLine t u → t.activations ≡ n → u.activations ≡ n → t.active ≡ Some x → u.active ≡ Some y → x ≡ y
in-line-active t u n x y (inl grows) a b p q = same-some x y (sym p ∙ (sym (grows.1 (b ∙ sym a)) ∙ q))
in-line-active t u n x y (inr grows) a b p q = same-some x y (sym p ∙ (grows.1 (a ∙ sym b) ∙ q))

-- after so many activations one configuration is active
pub active-once : (o : Opening) (h : List Entry) (n : ℕ) (x y : Configuration) → WasActive o h n x → WasActive o h n y → x ≡ y
active-once o h n x y one two =
    in-line-active one.state two.state n x y
    (two-fronts o [] (start_of o) one.front two.front one.rest two.rest one.state two.state (sym one.whole ∙ two.whole) one.reaches two.reaches)
    one.counted two.counted one.active two.active
