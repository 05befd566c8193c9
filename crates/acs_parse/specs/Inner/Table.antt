-- What is still to be read, as a stack of parts that one token changes, and how many are open. It is
-- the means of the parser: what is promised stands in Grammar and Places.
use Rattle.std.specs.Prelude.{◌&&◌, ℕ, suc, Bool, true, false, cond, List, [], ◌∷◌, ◌++◌, length}
use Rattle.acs_parse.specs.declared.list_kind.ListKind.{ListKind}
use Rattle.acs_parse.specs.declared.list_kind.ListKind.TheVariants as list
use Rattle.acs_symbol.specs.declared.symbol.WordKind.TheVariants as word
use Rattle.acs_symbol.specs.declared.symbol.Symbol.{Symbol}
use Rattle.acs_symbol.specs.declared.symbol.Symbol.TheVariants.{Word, Variable, Literal, Open}
use Rattle.acs_parse.specs.declared.want.Want.{Want}
use Rattle.acs_parse.specs.declared.want.Want.TheVariants as want
use Rattle.acs_parse.specs.Wants.{fits}
use Rattle.acs_parse.specs.Grammar.{takes_words, takes_variables, joins, back}

-- what a token does to the number that are open: nothing, it closes one, or all behind so many are over
pub data Effect : Type 0 where
  Keep : Effect
  Lower : Effect
  To : ℕ → Effect

-- how many are open behind a token
abbrev pub effect : Effect → ℕ → ℕ
effect Keep n = n
effect Lower n = back n
effect (To m) n = m

-- a part of the grammar
pub data Part : Type 0 where
  One : Want → Effect → Part
  OrNumber : Part
  ABlock : Bool → Part
  AnItem : Bool → Part
  AStatement : Part
  Lists : Part
  OrExclude : Part
  OrAlternative : Want → Part
  AChoice : Part
  AWhen : Bool → Part
  MoreWhens : Bool → Part
  ACondition : Part
  MoreOrs : Part
  AConjunct : Part
  MoreAnds : Part
  ATest : Part
  AnOperand : ListKind → Part
  MoreOperands : ListKind → Part
  ARef : Part
  OrIndex : Part
  OrCode : Part
  Back : Part

-- what a part does at a token: it takes it, so many are open then, and these parts are to be read; one
-- too many would be open; it is over before the token; or it can't have it
pub data Move : Type 0 where
  Read : ℕ → List Part → Move
  Full : Move
  Pass : ℕ → Move
  Refuse : Move

-- the same with more behind it
abbrev pub followed : Move → List Part → Move
followed (Read n new) more = Read n (new ++ more)
followed Full more = Full
followed (Pass n) more = Refuse
followed Refuse more = Refuse

-- one more opens, if it may
abbrev pub gate : (ℕ → Bool) → ℕ → List Part → Move
gate may n new = cond (may n) (Read (suc n) new) Full

-- a list of entries in parentheses
abbrev pub entries : List Part
entries = One want.Open Keep ∷ AnOperand list.Entries ∷ MoreOperands list.Entries ∷ One want.Close Keep ∷ []

-- behind a WHEN
abbrev pub when_parts : Bool → ℕ → List Part
when_parts true n =
    One want.Open Keep ∷ AnOperand list.Items ∷ MoreOperands list.Items ∷ One want.Close Keep ∷ AStatement ∷ []
when_parts false n = One want.Open Keep ∷ ACondition ∷ One want.Close (To n) ∷ AStatement ∷ []

-- what a token that begins a statement asks for
abbrev pub opens : (ℕ → Bool) → ℕ → Symbol → Move
opens may n (Word word.Set a) =
    Read n (ARef ∷ One want.Equal Keep ∷ AnOperand list.Values ∷ MoreOperands list.Values ∷ [])
opens may n (Word word.If a) =
    gate may n (ACondition ∷ One want.Then (To (suc n)) ∷ AStatement ∷ OrAlternative want.Else ∷ Back ∷ [])
opens may n (Word word.Select a) = gate may n (AChoice ∷ OrAlternative want.Otherwise ∷ One want.End Lower ∷ [])
opens may n (Word word.Do a) = gate may n (ABlock false ∷ Back ∷ [])
opens may n (Word word.Write a) = Read n (AnOperand list.Parts ∷ MoreOperands list.Parts ∷ [])
opens may n (Word word.Exit a) = Read n (OrCode ∷ [])
opens may n _ = Refuse

-- the same in a block, where a filter list may begin too at the top
abbrev pub item_opens : (ℕ → Bool) → Bool → ℕ → Symbol → Move
item_opens may true n (Word word.FiltList a) = Read n (One want.Name Keep ∷ Lists ∷ [])
item_opens may top n t = opens may n t

-- what a token that begins a comparison asks for, or a condition in parentheses
abbrev pub test_opens : (ℕ → Bool) → ℕ → Symbol → Move
test_opens may n (Variable name) = Read n (OrIndex ∷ One want.Operator Keep ∷ AnOperand list.Items ∷ [])
test_opens may n Open = gate may n (ACondition ∷ One want.Close Lower ∷ [])
test_opens may n _ = Refuse

-- what a token that begins an operand of a list asks for
abbrev pub operand_opens : ListKind → ℕ → Symbol → Move
operand_opens kind n (Literal text) = Read n []
operand_opens kind n (Word form text) = cond (takes_words kind) (Read n []) Refuse
operand_opens kind n (Variable name) = cond (takes_variables kind) (Read n (OrIndex ∷ [])) Refuse
operand_opens kind n _ = Refuse

-- what a token that begins the lists of a FILTLIST asks for
abbrev pub list_opens : ℕ → Symbol → Move
list_opens n (Word word.Include a) = Read n (entries ++ OrExclude ∷ [])
list_opens n (Word word.Exclude a) = Read n entries
list_opens n _ = Refuse

-- what the token behind SELECT asks for
abbrev pub choice_opens : ℕ → Symbol → Move
choice_opens n Open = Read n (ARef ∷ One want.Close Keep ∷ AWhen true ∷ MoreWhens true ∷ [])
choice_opens n (Word word.When a) = Read n (when_parts false n ++ MoreWhens false ∷ [])
choice_opens n _ = Refuse

-- what each part does at a token
abbrev pub rule : (ℕ → Bool) → Part → ℕ → Symbol → Move
rule may (One w e) n t = cond (fits w t) (Read (effect e n) []) Refuse
rule may OrNumber n t = cond (fits want.Number t) (Read n []) (Pass n)
rule may (ABlock top) n t = cond (fits want.End t) (Read n []) (followed (item_opens may top n t) (ABlock top ∷ []))
rule may (AnItem top) n t = item_opens may top n t
rule may AStatement n t = opens may n t
rule may Lists n t = list_opens n t
rule may OrExclude n t = cond (fits want.Exclude t) (Read n entries) (Pass n)
rule may (OrAlternative w) n t = cond (fits w t) (Read n (AStatement ∷ [])) (Pass n)
rule may AChoice n t = choice_opens n t
rule may (AWhen b) n t = cond (fits want.When t) (Read n (when_parts b n)) Refuse
rule may (MoreWhens b) n t = cond (fits want.When t) (Read n (when_parts b n ++ MoreWhens b ∷ [])) (Pass n)
rule may ACondition n t = followed (test_opens may n t) (MoreAnds ∷ MoreOrs ∷ [])
rule may MoreOrs n t = cond (fits want.Or t) (gate may n (AConjunct ∷ MoreOrs ∷ [])) (Pass n)
rule may AConjunct n t = followed (test_opens may n t) (MoreAnds ∷ [])
rule may MoreAnds n t = cond (fits want.And t) (gate may n (ATest ∷ MoreAnds ∷ [])) (Pass n)
rule may ATest n t = test_opens may n t
rule may (AnOperand kind) n t = operand_opens kind n t
rule may (MoreOperands kind) n t =
    cond (fits want.Comma t) (Read n (AnOperand kind ∷ MoreOperands kind ∷ []))
    (cond (joins kind t) (followed (operand_opens kind n t) (MoreOperands kind ∷ [])) (Pass n))
rule may ARef n t = cond (fits want.Variable t) (Read n (OrIndex ∷ [])) Refuse
rule may OrIndex n t = cond (fits want.Open t) (Read n (One want.Number Keep ∷ One want.Close Keep ∷ [])) (Pass n)
rule may OrCode n t =
    cond (fits want.Code t) (Read n (One want.Open Keep ∷ One want.Word Keep ∷ One want.Close Keep ∷ [])) (Pass n)
rule may Back n t = Pass (back n)

-- the whole of a routine
abbrev pub start : List Part
start = One want.Proc Keep ∷ OrNumber ∷ One want.Head Keep ∷ ABlock true ∷ []

-- what a token makes of a stack
pub data Step : Type 0 where
  Go : ℕ → List Part → Step
  No : Step
  Many : Step

-- a move on a stack: where its part is over, `passed` says what the rest does
abbrev pub after : Move → List Part → (ℕ → Step) → Step
after (Read n new) k passed = Go n (new ++ k)
after Full k passed = Many
after (Pass n) k passed = passed n
after Refuse k passed = No

-- parts that are over before the token are passed, and the first other one decides; with none the token is refused
abbrev pub step : (ℕ → Bool) → List Part → ℕ → Symbol → Step
step may [] n t = No
step may (s ∷ k) n t = after (rule may s n t) k (λ m. step may k m t)

-- a part that may end with the text
abbrev pub may_be_empty : Part → Bool
may_be_empty OrNumber = true
may_be_empty OrExclude = true
may_be_empty (OrAlternative w) = true
may_be_empty (MoreWhens b) = true
may_be_empty MoreOrs = true
may_be_empty MoreAnds = true
may_be_empty (MoreOperands kind) = true
may_be_empty OrIndex = true
may_be_empty OrCode = true
may_be_empty Back = true
may_be_empty _ = false

-- parts that may all end with the text
abbrev pub all_empty : List Part → Bool
all_empty [] = true
all_empty (s ∷ k) = may_be_empty s && all_empty k

-- how reading ends: at the end of all, too early, before a token that can't come, or before one that
-- opens one too many; with so many tokens left
pub data Verdict : Type 0 where
  Complete : Verdict
  Short : Verdict
  Stop : ℕ → Verdict
  TooMany : ℕ → Verdict

-- how reading ends behind a step with so many tokens left, where `go` says how it ends with the new stack
abbrev pub next : Step → ℕ → (List Part → ℕ → Verdict) → Verdict
next No left go = Stop left
next Many left go = TooMany left
next (Go n k) left go = go k n

-- how reading these tokens ends, from a stack with so many open
abbrev pub verdict : (ℕ → Bool) → List Part → ℕ → List Symbol → Verdict
verdict may k n [] = cond (all_empty k) Complete Short
verdict may k n (t ∷ ts) = next (step may k n t) (suc (length ts)) (λ j m. verdict may j m ts)
