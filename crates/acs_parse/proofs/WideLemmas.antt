-- Without the limit the table does the same, and goes on where the limit stops it.
use Rattle.std.proofs.Common.{◌≡◌, ℕ, Bool, true, false, cond, List, [], ◌∷◌, ◌++◌, refl, ap, sym, subst}
use Rattle.acs_parse.specs.declared.list_kind.ListKind.{ListKind}
use Rattle.acs_symbol.specs.declared.symbol.WordKind.TheVariants as word
use Rattle.acs_symbol.specs.declared.symbol.Symbol.{Symbol}
use Rattle.acs_symbol.specs.declared.symbol.Symbol.TheVariants.{Word, Variable, Literal, Open}
use Rattle.acs_parse.specs.declared.want.Want.TheVariants as want
use Rattle.acs_parse.specs.Wants.{fits}
use Rattle.acs_parse.specs.Grammar.{limited, unlimited, takes_words, takes_variables, joins}
use Rattle.acs_parse.specs.Inner.Table.{Part, One, OrNumber, ABlock, AnItem, AStatement, Lists, OrExclude}
use Rattle.acs_parse.specs.Inner.Table.{OrAlternative, AChoice, AWhen, MoreWhens, ACondition, MoreOrs, AConjunct}
use Rattle.acs_parse.specs.Inner.Table.{MoreAnds, ATest, AnOperand, MoreOperands, ARef, OrIndex, OrCode, Back, Move}
use Rattle.acs_parse.specs.Inner.Table.{Read, Full, Pass, Refuse, followed, opens, item_opens, test_opens}
use Rattle.acs_parse.specs.Inner.Table.{operand_opens, rule, Step, Go, No, Many, after, step}

abbrev WideMove : Move → Move → Type 0
WideMove Full x = (p : ℕ) × (new : List Part) × (x ≡ Read p new)
WideMove (Read p new) x = x ≡ Read p new
WideMove (Pass p) x = x ≡ Pass p
WideMove Refuse x = x ≡ Refuse

-- a step of the table, without the limit
abbrev pub WideStep : Step → Step → Type 0
WideStep Many x = (p : ℕ) × (j : List Part) × (x ≡ Go p j)
WideStep (Go p j) x = x ≡ Go p j
WideStep No x = x ≡ No

gate_wide : (b : Bool) (p : ℕ) (new : List Part) → WideMove (cond b (Read p new) Full) (Read p new)
gate_wide true p new = refl
gate_wide false p new = (p, new, refl)

cond_wide : (b : Bool) (x y z w : Move) → WideMove x z → WideMove y w → WideMove (cond b x y) (cond b z w)
cond_wide true x y z w f g = f
cond_wide false x y z w f g = g

same_wide : (x : Move) → (Full ≡ x → ⊥) → WideMove x x
same_wide (Read p new) h = refl
same_wide (Pass p) h = refl
same_wide Refuse h = refl
same_wide Full h = absurd (h refl)

wide_opens : (n : ℕ) (t : Symbol) → WideMove (opens limited n t) (opens unlimited n t)
wide_opens n (Word word.If a) = gate_wide (limited n) _ _
wide_opens n (Word word.Select a) = gate_wide (limited n) _ _
wide_opens n (Word word.Do a) = gate_wide (limited n) _ _
wide_opens n _ = refl

wide_item : (top : Bool) (n : ℕ) (t : Symbol) → WideMove (item_opens limited top n t) (item_opens unlimited top n t)
wide_item true n (Word word.FiltList a) = refl
wide_item true n t = wide_opens n t
wide_item false n t = wide_opens n t

wide_test : (n : ℕ) (t : Symbol) → WideMove (test_opens limited n t) (test_opens unlimited n t)
wide_test n Open = gate_wide (limited n) _ _
wide_test n _ = refl

wide_followed : (x y : Move) (more : List Part) → WideMove x y → WideMove (followed x more) (followed y more)
wide_followed Full y more h = (h.0, h.1 ++ more, ap (λ z. followed z more) h.2)
wide_followed (Read p new) y more h = ap (λ z. followed z more) h
wide_followed (Pass p) y more h = ap (λ z. followed z more) h
wide_followed Refuse y more h = ap (λ z. followed z more) h

-- a part whose row has nothing to do with the limit
free_rule : (s : Part) (n : ℕ) (t : Symbol) → rule limited s n t ≡ rule unlimited s n t → (Full ≡ rule limited s n t → ⊥) → WideMove (rule limited s n t) (rule unlimited s n t)
free_rule s n t e h = subst (λ x. WideMove (rule limited s n t) x) e (same_wide (rule limited s n t) h)

no_full : (b : Bool) (x y : Move) → (Full ≡ x → ⊥) → (Full ≡ y → ⊥) → Full ≡ cond b x y → ⊥
no_full true x y f g = f
no_full false x y f g = g

no_full_operand : (kind : ListKind) (n : ℕ) (t : Symbol) → Full ≡ rule limited (AnOperand kind) n t → ⊥
no_full_operand kind n (Literal text) = λ e. cc
no_full_operand kind n (Word form text) = no_full (takes_words kind) (Read n []) Refuse (λ e. cc) (λ e. cc)
no_full_operand kind n (Variable name) = no_full (takes_variables kind) (Read n (OrIndex ∷ [])) Refuse (λ e. cc) (λ e. cc)
no_full_operand kind n _ = λ e. cc

no_full_followed : (x : Move) (more : List Part) → (Full ≡ x → ⊥) → Full ≡ followed x more → ⊥
no_full_followed (Read p new) more h = λ e. cc
no_full_followed (Pass p) more h = λ e. cc
no_full_followed Refuse more h = λ e. cc
no_full_followed Full more h = absurd (h refl)

no_full_lists : (n : ℕ) (t : Symbol) → Full ≡ rule limited Lists n t → ⊥
no_full_lists n (Word word.Include a) = λ e. cc
no_full_lists n (Word word.Exclude a) = λ e. cc
no_full_lists n _ = λ e. cc

no_full_choice : (n : ℕ) (t : Symbol) → Full ≡ rule limited AChoice n t → ⊥
no_full_choice n Open = λ e. cc
no_full_choice n (Word word.When a) = λ e. cc
no_full_choice n _ = λ e. cc

pub wide_rule : (s : Part) (n : ℕ) (t : Symbol) → WideMove (rule limited s n t) (rule unlimited s n t)
wide_rule (One w e) n t = free_rule (One w e) n t refl (no_full (fits w t) _ _ (λ e. cc) (λ e. cc))
wide_rule OrNumber n t = free_rule OrNumber n t refl (no_full (fits want.Number t) _ _ (λ e. cc) (λ e. cc))
wide_rule (ABlock top) n t = cond_wide (fits want.End t) _ _ _ _ refl (wide_followed (item_opens limited top n t) (item_opens unlimited top n t) (ABlock top ∷ []) (wide_item top n t))
wide_rule (AnItem top) n t = wide_item top n t
wide_rule AStatement n t = wide_opens n t
wide_rule Lists n t = free_rule Lists n t refl (no_full_lists n t)
wide_rule OrExclude n t = free_rule OrExclude n t refl (no_full (fits want.Exclude t) _ _ (λ e. cc) (λ e. cc))
wide_rule (OrAlternative w) n t = free_rule (OrAlternative w) n t refl (no_full (fits w t) _ _ (λ e. cc) (λ e. cc))
wide_rule AChoice n t = free_rule AChoice n t refl (no_full_choice n t)
wide_rule (AWhen b) n t = free_rule (AWhen b) n t refl (no_full (fits want.When t) _ _ (λ e. cc) (λ e. cc))
wide_rule (MoreWhens b) n t = free_rule (MoreWhens b) n t refl (no_full (fits want.When t) _ _ (λ e. cc) (λ e. cc))
wide_rule ACondition n t = wide_followed (test_opens limited n t) (test_opens unlimited n t) (MoreAnds ∷ MoreOrs ∷ []) (wide_test n t)
wide_rule MoreOrs n t = cond_wide (fits want.Or t) _ _ _ _ (gate_wide (limited n) _ _) refl
wide_rule AConjunct n t = wide_followed (test_opens limited n t) (test_opens unlimited n t) (MoreAnds ∷ []) (wide_test n t)
wide_rule MoreAnds n t = cond_wide (fits want.And t) _ _ _ _ (gate_wide (limited n) _ _) refl
wide_rule ATest n t = wide_test n t
wide_rule (AnOperand kind) n t = free_rule (AnOperand kind) n t refl (no_full_operand kind n t)
wide_rule (MoreOperands kind) n t = free_rule (MoreOperands kind) n t refl (no_full (fits want.Comma t) _ _ (λ e. cc) (no_full (joins kind t) (followed (operand_opens kind n t) (MoreOperands kind ∷ [])) (Pass n) (no_full_followed (operand_opens kind n t) (MoreOperands kind ∷ []) (no_full_operand kind n t)) (λ e. cc)))
wide_rule ARef n t = free_rule ARef n t refl (no_full (fits want.Variable t) _ _ (λ e. cc) (λ e. cc))
wide_rule OrIndex n t = free_rule OrIndex n t refl (no_full (fits want.Open t) _ _ (λ e. cc) (λ e. cc))
wide_rule OrCode n t = free_rule OrCode n t refl (no_full (fits want.Code t) _ _ (λ e. cc) (λ e. cc))
wide_rule Back n t = refl

by_move : (x y : Move) (k : List Part) (f g : ℕ → Step) → WideMove x y → ((p : ℕ) → WideStep (f p) (g p)) → WideStep (after x k f) (after y k g)
by_move Full y k f g h below = (h.0, h.1 ++ k, ap (λ z. after z k g) h.2)
by_move (Read p new) y k f g h below = ap (λ z. after z k g) h
by_move (Pass p) y k f g h below = subst (λ z. WideStep (f p) (after z k g)) (sym h) (below p)
by_move Refuse y k f g h below = ap (λ z. after z k g) h

pub wide : (k : List Part) (n : ℕ) (t : Symbol) → WideStep (step limited k n t) (step unlimited k n t)
wide [] n t = refl
wide (s ∷ k) n t = by_move (rule limited s n t) (rule unlimited s n t) k (λ p. step limited k p t) (λ p. step unlimited k p t) (wide_rule s n t) (λ p. wide k p t)
