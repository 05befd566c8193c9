-- What a step makes of the state.
use Rattle.std.proofs.Common.{◌≡◌, ℕ, Bool, true, false, List, sym, ◌∙◌, subst, inl, inr}
use Rattle.std.specs.Prelude.{◌⊎◌, Option, None, Some, MatchBool, MatchOption, nat_lt}
use Rattle.sms_construct.specs.declared.entry.Entry.{Entry}
use Rattle.sms_construct.specs.declared.reply.Reply.{Reply}
use Rattle.sms_keeper.specs.declared.kept_row.KeptRow.{KeptRow}
use Rattle.desk_law.specs.State.{DeskState, Opening}
use Rattle.desk_law.specs.Changes.{may_change}
use Rattle.desk_law.specs.Kept.{floor_of, kept_for}
use Rattle.desk_law.specs.Rule.{Rule}
use Rattle.desk_law.specs.Step.{IsBelow, IsFault, IsFresh, IsRepeat, IsStep}
use Rattle.desk_law.proofs.GivenLemmas.{Gives, gives-one, gives-still, rule-gives}
use Rattle.desk_law.proofs.LineLemmas.{on-bool, on-option}

-- the number is below its floor, fresh or kept
pub on-step : (o : Opening) (before : List Entry) (s : DeskState) (e : Entry) (after : DeskState) (C : Type 0) → IsStep o before s e after
    → (IsBelow (floor_of o before e.request.job) s e after → C)
    → (IsFresh (floor_of o before) s e after → C)
    → ((row : KeptRow) → kept_for o before e.request.job e.request.number ≡ Some row → IsRepeat row s e after → C) → C
on-step o before s e after C step below fresh repeat =
    on-bool (nat_lt e.request.number (floor_of o before e.request.job)) _ _ C step.answer
    (λ t is. below is)
    (λ t case. on-option (kept_for o before e.request.job e.request.number) _ _ C case (λ t2 is. fresh is) (λ row found is. repeat row found is))

-- what the reply to a fresh request says of the state
pub fresh-gives : (old_floor : List ℕ → ℕ) (s : DeskState) (e : Entry) (after : DeskState) → IsFresh old_floor s e after → Gives s e.request.op e.answer.reply after
fresh-gives old_floor s e after fresh = cases fresh.answer
  where
    cases : IsFault s e after ⊎ Rule old_floor s e.request.job e.request.op e.answer.reply after → Gives s e.request.op e.answer.reply after
    cases (inl fault) = subst (λ (r : Reply). Gives s e.request.op r after) (sym fault.reply_is) fault.after_is
    cases (inr rule) = rule-gives old_floor s e.request.job e.request.op e.answer.reply after rule

-- a reply that comes with no change leaves the state
pub step-still : (o : Opening) (before : List Entry) (s : DeskState) (e : Entry) (after : DeskState) → IsStep o before s e after → may_change e.answer.reply ≡ false → after ≡ s
step-still o before s e after step quiet =
    on-step o before s e after (after ≡ s) step
    (λ below. below.after_is)
    (λ fresh. gives-still s e.request.op e.answer.reply after quiet (fresh-gives (floor_of o before) s e after fresh))
    (λ row found repeat. repeat.after_is)

two-options : {A : Type 0} (o : Option A) (P R : Type 0) (Q T : A → Type 0) (C : Type 0) → MatchOption o P Q → MatchOption o R T → (P → R → C) → ((x : A) → Q x → T x → C) → C
two-options None P R Q T C one other missing there = missing one other
two-options (Some x) P R Q T C one other missing there = there x one other

two-bools : (b : Bool) (P R : Type 0) (Q T : Type 0) (C : Type 0) → MatchBool b P Q → MatchBool b R T → (P → R → C) → (Q → T → C) → C
two-bools true P R Q T C one other hold fail = hold one other
two-bools false P R Q T C one other hold fail = fail one other

-- a step leads to one state
pub step-one : (o : Opening) (before : List Entry) (s : DeskState) (e : Entry) (after other : DeskState) → IsStep o before s e after → IsStep o before s e other → after ≡ other
step-one o before s e after other one two =
    two-bools (nat_lt e.request.number (floor_of o before e.request.job)) _ _ _ _ (after ≡ other) one.answer two.answer
    (λ a b. a.after_is ∙ sym b.after_is)
    (λ a b. two-options (kept_for o before e.request.job e.request.number) _ _ _ _ (after ≡ other) a b
    (λ x y. gives-one s e.request.op e.answer.reply after other (fresh-gives (floor_of o before) s e after x) (fresh-gives (floor_of o before) s e other y))
    (λ kept x y. x.after_is ∙ sym y.after_is))
