-- The rules of the grammar, for tokens that are known by an equation.
use Rattle.std.proofs.Common.{◌≡◌, ℕ, suc, true, false, cond, List, [], ◌∷◌, length, refl, ap, subst}
use Rattle.acs_tree.specs.declared.routine.Compare.{Compare}
use Rattle.acs_symbol.specs.declared.symbol.WordKind.{WordKind}
use Rattle.acs_symbol.specs.declared.symbol.WordKind.TheVariants as word
use Rattle.acs_symbol.specs.declared.symbol.Symbol.{Symbol}
use Rattle.acs_symbol.specs.declared.symbol.Symbol.TheVariants.{Word, Variable, Operator}
use Rattle.acs_parse.specs.declared.want.Want.{Want}
use Rattle.acs_parse.specs.declared.want.Want.TheVariants as want
use Rattle.acs_parse.specs.Wants.{fits}
use Rattle.acs_parse.specs.Grammar.{starts, limited, IsOperator, by_sign, by_word, IsListName, named_by_word}
use Rattle.acs_parse.specs.Grammar.{named_by_variable, IsHead, headed_by_word, headed_by_variable}
use Rattle.acs_parse.specs.Inner.Table.{Effect, Part, One, Stop, next, after, Refuse, Read, effect, step, verdict}

pub named_word : {kind : WordKind} {text : List ℕ} {ts rest : List Symbol} → ts ≡ Word kind text ∷ rest → (t : Symbol) × IsListName t text × (ts ≡ t ∷ rest)
named_word {kind} {text} e = (Word kind text, named_by_word, e)

pub named_variable : {text : List ℕ} {ts rest : List Symbol} → ts ≡ Variable text ∷ rest → (t : Symbol) × IsListName t text × (ts ≡ t ∷ rest)
named_variable {text} e = (Variable text, named_by_variable, e)

pub headed_word : {kind : WordKind} {text : List ℕ} {ts rest : List Symbol} → ts ≡ Word kind text ∷ rest → starts want.Number ts ≡ false
    → (t : Symbol) × IsHead t text × (ts ≡ t ∷ rest)
headed_word {kind} {text} e f = (Word kind text, headed_by_word (subst (λ x. starts want.Number x ≡ false) e f), e)

pub headed_variable : {text : List ℕ} {ts rest : List Symbol} → ts ≡ Variable text ∷ rest → (t : Symbol) × IsHead t text × (ts ≡ t ∷ rest)
headed_variable {text} e = (Variable text, headed_by_variable, e)

pub operator_sign : {op : Compare} {ts rest : List Symbol} → ts ≡ Operator op ∷ rest → (t : Symbol) × IsOperator t op × (ts ≡ t ∷ rest)
operator_sign {op} e = (Operator op, by_sign, e)

pub operator_word : {op : Compare} {text : List ℕ} {ts rest : List Symbol} → ts ≡ Word (word.Compare op) text ∷ rest → (t : Symbol) × IsOperator t op × (ts ≡ t ∷ rest)
operator_word {op} {text} e = (Word (word.Compare op) text, by_word, e)

-- a token that isn't wanted stops the table
pub refused : (w : Want) (f : Effect) (k : List Part) (n : ℕ) (t : Symbol) (ts : List Symbol) → fits w t ≡ false → verdict limited (One w f ∷ k) n (t ∷ ts) ≡ Stop (length (t ∷ ts))
refused w f k n t ts e = ap (λ b. next (after (cond b (Read (effect f n) []) Refuse) k (λ m. step limited k m t)) (suc (length ts)) (λ j m. verdict limited j m ts)) e

no_head : (t : Symbol) → fits want.Number t ≡ true → fits want.Head t ≡ false
no_head (Word word.Number text) e = refl
no_head _ e = cc

pub number_heads_nothing : (f : Effect) (k : List Part) (n : ℕ) (ts : List Symbol) → starts want.Number ts ≡ true → verdict limited (One want.Head f ∷ k) n ts ≡ Stop (length ts)
number_heads_nothing f k n [] e = cc
number_heads_nothing f k n (t ∷ ts) e = refused want.Head f k n t ts (no_head t e)
