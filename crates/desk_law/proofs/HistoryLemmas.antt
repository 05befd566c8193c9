-- Entries one after another.
use Rattle.std.proofs.Common.{◌≡◌, ℕ, List, [], ◌∷◌, ◌++◌, refl, sym, ap, ◌∙◌, subst, inl, inr}
use Rattle.std.specs.Prelude.{◌⊎◌}
use Rattle.sms_construct.specs.declared.entry.Entry.{Entry}
use Rattle.desk_law.specs.State.{DeskState, Opening, start_of}
use Rattle.desk_law.specs.Kept.{floor_of}
use Rattle.desk_law.specs.Rule.{IsSound, Rule}
use Rattle.desk_law.specs.Step.{IsFault, IsStep}
use Rattle.desk_law.specs.History.{IsLegal, Leads}
use Rattle.desk_law.specs.Lawful.{IsLawful}
use Rattle.desk_law.proofs.RuleLemmas.{rule-keeps}
use Rattle.desk_law.proofs.StepLemmas.{on-step, step-one}

push-front : (before : List Entry) (e : Entry) (es : List Entry) → (before ++ e ∷ []) ++ es ≡ before ++ e ∷ es
push-front [] e es = refl
push-front (x ∷ before) e es = ap (λ (l : List Entry). x ∷ l) (push-front before e es)

-- from one state entries lead to one
pub leads-one : (o : Opening) (before : List Entry) (s : DeskState) (es : List Entry) (a b : DeskState) → Leads o before s es a → Leads o before s es b → a ≡ b
leads-one o before s [] a b one two = one ∙ sym two
leads-one o before s (e ∷ es) a b one two =
    let same = step-one o before s e one.0 two.0 one.1 two.1 in
    leads-one o (before ++ e ∷ []) two.0 es a b (subst (λ (t : DeskState). Leads o (before ++ e ∷ []) t es a) same one.2) two.2

-- what an entry among others is
pub record Stands (o : Opening) (before : List Entry) (s : DeskState) (front : List Entry) (entry : Entry) : Type 0 where
  pub state : DeskState
  pub after : DeskState
  pub leads : Leads o before s front state
  pub step : IsStep o (before ++ front) state entry after

pub stands : (o : Opening) (before : List Entry) (s : DeskState) (front rest : List Entry) (entry : Entry) (t : DeskState) → Leads o before s (front ++ entry ∷ rest) t → Stands o before s front entry
stands o before s [] rest entry t leads = record {
  state = s;
  after = leads.0;
  leads = refl;
  step = subst (λ (l : List Entry). IsStep o l s entry leads.0) (sym (behind-none before)) leads.1;
}
  where
    behind-none : (l : List Entry) → l ++ [] ≡ l
    behind-none [] = refl
    behind-none (x ∷ l) = ap (λ (m : List Entry). x ∷ m) (behind-none l)
stands o before s (e ∷ front) rest entry t leads =
    let there = stands o (before ++ e ∷ []) leads.0 front rest entry t leads.2 in record {
      state = there.state;
      after = there.after;
      leads = (leads.0, leads.1, there.leads);
      step = subst (λ (l : List Entry). IsStep o l there.state entry there.after) (push-front before e front) there.step;
    }

-- entries and one more
pub leads-push : (o : Opening) (before : List Entry) (s : DeskState) (front : List Entry) (entry : Entry) (state after : DeskState) → Leads o before s front state → IsStep o (before ++ front) state entry after
    → Leads o before s (front ++ entry ∷ []) after
leads-push o before s [] entry state after leads step = (
  after,
  subst (λ (l : List Entry). IsStep o l s entry after) (behind-none before) (subst (λ (t : DeskState). IsStep o (before ++ []) t entry after) leads step),
  refl,
)
  where
    behind-none : (l : List Entry) → l ++ [] ≡ l
    behind-none [] = refl
    behind-none (x ∷ l) = ap (λ (m : List Entry). x ∷ m) (behind-none l)
leads-push o before s (e ∷ front) entry state after leads step =
    (leads.0, leads.1, leads-push o (before ++ e ∷ []) leads.0 front entry state after leads.2 (subst (λ (l : List Entry). IsStep o l state entry after) (sym (push-front before e front)) step))

-- an entry of a legal history
pub legal-stands : (o : Opening) (front rest : List Entry) (entry : Entry) → IsLegal o (front ++ entry ∷ rest) → Stands o [] (start_of o) front entry
legal-stands o front rest entry legal = stands o [] (start_of o) front rest entry legal.0 legal.1

-- A step keeps a state lawful.

fresh-keeps : (old_floor : List ℕ → ℕ) (s : DeskState) (e : Entry) (after : DeskState) → IsLawful s → IsSound e.request.op → IsFault s e after ⊎ Rule old_floor s e.request.job e.request.op e.answer.reply after → IsLawful after
fresh-keeps old_floor s e after lawful sound (inl fault) = subst IsLawful (sym fault.after_is) lawful
fresh-keeps old_floor s e after lawful sound (inr rule) = rule-keeps old_floor s e.request.job e.request.op e.answer.reply after lawful sound rule

pub step-keeps : (o : Opening) (before : List Entry) (s : DeskState) (e : Entry) (after : DeskState) → IsLawful s → IsStep o before s e after → IsLawful after
step-keeps o before s e after lawful step =
    on-step o before s e after (IsLawful after) step
    (λ below. subst IsLawful (sym below.after_is) lawful)
    (λ fresh. fresh-keeps (floor_of o before) s e after lawful step.sound fresh.answer)
    (λ row found repeat. subst IsLawful (sym repeat.after_is) lawful)

pub leads-lawful : (o : Opening) (before : List Entry) (s : DeskState) (es : List Entry) (after : DeskState) → IsLawful s → Leads o before s es after → IsLawful after
leads-lawful o before s [] after lawful same = subst IsLawful (sym same) lawful
leads-lawful o before s (e ∷ es) after lawful leads = leads-lawful o (before ++ e ∷ []) leads.0 es after (step-keeps o before s e leads.0 lawful leads.1) leads.2
