-- The tokens that stand for a part of the table, and when a row of it is right. It serves the proofs
-- alone.
use Rattle.std.specs.Prelude.{◌≡◌, ℕ, Bool, true, List, [], ◌∷◌, Option}
use Rattle.acs_tree.specs.declared.routine.Ref.{Ref}
use Rattle.acs_tree.specs.declared.routine.Operand.{Operand}
use Rattle.acs_tree.specs.declared.routine.Cond.{Cond}
use Rattle.acs_tree.specs.declared.routine.When.{When}
use Rattle.acs_tree.specs.declared.routine.Stmt.{Stmt}
use Rattle.acs_symbol.specs.declared.symbol.Symbol.{Symbol}
use Rattle.acs_parse.specs.declared.want.Want.{Want}
use Rattle.acs_parse.specs.Wants.{fits}
use Rattle.acs_parse.specs.Grammar.{back, IsIndex, IsRef, IsOperand, IsFurther, IsExclude, IsLists, IsCode, IsCond}
use Rattle.acs_parse.specs.Grammar.{IsOrs, IsConj, IsAnds, IsPrim, IsStmt, IsAlternative, IsChoice, IsWhen, IsWhens}
use Rattle.acs_parse.specs.Grammar.{IsBlock, IsItem, IsOrNumber}
use Rattle.acs_parse.specs.Inner.Table.{effect, Part, One, OrNumber, ABlock, AnItem, AStatement, Lists, OrExclude}
use Rattle.acs_parse.specs.Inner.Table.{OrAlternative, AChoice, AWhen, MoreWhens, ACondition, MoreOrs, AConjunct}
use Rattle.acs_parse.specs.Inner.Table.{MoreAnds, ATest, AnOperand, MoreOperands, ARef, OrIndex, OrCode, Back, Move}
use Rattle.acs_parse.specs.Inner.Table.{Read, Full, Pass, Refuse}

-- the tokens begin with the one that is wanted
abbrev pub Takes : Want → List Symbol → List Symbol → Type 0
Takes w ts rest = (t : Symbol) × (fits w t ≡ true) × (ts ≡ t ∷ rest)

-- the tokens are one of the part, and then the rest; n are open before it and m behind it
abbrev pub Lang : ℕ → (ℕ → Bool) → Part → ℕ → List Symbol → ℕ → List Symbol → Type 0
Lang total may (One w e) n ts m rest = Takes w ts rest × (effect e n ≡ m)
Lang total may OrNumber n ts m rest = IsOrNumber ts rest × (n ≡ m)
Lang total may (ABlock top) n ts m rest = (ss : List Stmt) × IsBlock total may top n ts ss rest × (n ≡ m)
Lang total may (AnItem top) n ts m rest = (s : Stmt) × IsItem total may top n ts s rest × (n ≡ m)
Lang total may AStatement n ts m rest = (s : Stmt) × IsStmt total may n ts s rest × (n ≡ m)
Lang total may Lists n ts m rest = (os : List Operand) × (xs : List Operand) × IsLists total ts os xs rest × (n ≡ m)
Lang total may OrExclude n ts m rest = (xs : List Operand) × IsExclude total ts xs rest × (n ≡ m)
Lang total may (OrAlternative w) n ts m rest = (s : Option Stmt) × IsAlternative total may w n ts s rest × (n ≡ m)
Lang total may AChoice n ts m rest = (r : Option Ref) × (ws : List When) × IsChoice total may n ts r ws rest × (n ≡ m)
Lang total may (AWhen b) n ts m rest = (w : When) × IsWhen total may b n ts w rest × (n ≡ m)
Lang total may (MoreWhens b) n ts m rest = (ws : List When) × IsWhens total may b n ts ws rest × (n ≡ m)
Lang total may ACondition n ts m rest = (c : Cond) × IsCond total may n ts c m rest
Lang total may MoreOrs n ts m rest = (x : Cond) → (c : Cond) × IsOrs total may n x ts c m rest
Lang total may AConjunct n ts m rest = (c : Cond) × IsConj total may n ts c m rest
Lang total may MoreAnds n ts m rest = (x : Cond) → (c : Cond) × IsAnds total may n x ts c m rest
Lang total may ATest n ts m rest = (c : Cond) × IsPrim total may n ts c m rest
Lang total may (AnOperand kind) n ts m rest = (o : Operand) × IsOperand total kind ts o rest × (n ≡ m)
Lang total may (MoreOperands kind) n ts m rest = (os : List Operand) × IsFurther total kind ts os rest × (n ≡ m)
Lang total may ARef n ts m rest = (r : Ref) × IsRef total ts r rest × (n ≡ m)
Lang total may OrIndex n ts m rest = (i : Option (List ℕ)) × (at : ℕ) × IsIndex total ts i at rest × (n ≡ m)
Lang total may OrCode n ts m rest = (o : Option Operand) × IsCode total ts o rest × (n ≡ m)
Lang total may Back n ts m rest = (ts ≡ rest) × (back n ≡ m)

-- the parts one after another
abbrev pub Seq : ℕ → (ℕ → Bool) → List Part → ℕ → List Symbol → ℕ → List Symbol → Type 0
Seq total may [] n ts m rest = (n ≡ m) × (ts ≡ rest)
Seq total may (s ∷ k) n ts m rest =
    (p : ℕ) × (ms : List Symbol) × Lang total may s n ts p ms × Seq total may k p ms m rest

-- a move is right
abbrev pub Holds : ℕ → (ℕ → Bool) → Part → ℕ → Symbol → Move → Type 0
Holds total may s n t (Read p new) =
    (m : ℕ) (ms rest : List Symbol) → Seq total may new p ms m rest → Lang total may s n (t ∷ ms) m rest
Holds total may s n t (Pass m) = (ms : List Symbol) → Lang total may s n (t ∷ ms) m (t ∷ ms)
Holds total may s n t Full = Unit {0}
Holds total may s n t Refuse = Unit {0}
