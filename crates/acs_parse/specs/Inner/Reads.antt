-- What a reader of the parser says of its answer. It is the means of the parser: what is promised
-- stands in Grammar, Places and ParseFault.
use Rattle.std.specs.Prelude.{◌≡◌, ◌⊎◌, ◌-◌, ℕ, suc, Bool, true, false, List, [], ◌∷◌, ◌++◌, length, Option, Result, Ok}
use Rattle.std.specs.Prelude.{Err}
use Rattle.acs_tree.specs.declared.routine.Operand.{Operand}
use Rattle.acs_tree.specs.declared.routine.Cond.{Cond}
use Rattle.acs_tree.specs.declared.routine.WhenTest.{WhenTest}
use Rattle.acs_tree.specs.declared.routine.WhenTest.TheVariants.{Any, Holds}
use Rattle.acs_tree.specs.declared.routine.When.{When}
use Rattle.acs_tree.specs.declared.routine.Form.{Form}
use Rattle.acs_tree.specs.declared.routine.Stmt.{Stmt}
use Rattle.acs_tree.specs.declared.routine.Routine.{Routine}
use Rattle.acs_parse.specs.declared.list_kind.ListKind.{ListKind}
use Rattle.acs_parse.specs.declared.list_kind.ListKind.TheVariants as list
use Rattle.acs_symbol.specs.declared.symbol.Symbol.{Symbol}
use Rattle.acs_symbol.specs.declared.symbol.WordKind.{WordKind}
use Rattle.acs_symbol.specs.declared.symbol.WordKind.TheVariants as word
use Rattle.acs_symbol.specs.declared.symbol.Symbol.TheVariants.{Word, Open, Close, Comma}
use Rattle.acs_parse.specs.declared.want.Want.{Want}
use Rattle.acs_parse.specs.declared.want.Want.TheVariants as want
use Rattle.acs_parse.specs.declared.fault.ParseErr.{ParseErr}
use Rattle.acs_parse.specs.declared.fault.ParseErr.TheVariants as answer
use Rattle.acs_parse.specs.declared.fault.Fault.{Fault}
use Rattle.acs_parse.specs.declared.fault.Fault.TheVariants.{Unexpected, Ended, Deep, NoMemory}
use Rattle.acs_parse.specs.Grammar.{starts, placed, joins, limited, IsOperands, IsCond, IsStmt, IsAlternative, IsItem}
use Rattle.acs_parse.specs.Grammar.{IsWhen, IsWhens, IsRoutineOf}
use Rattle.acs_parse.specs.Inner.Language.{Takes}
use Rattle.acs_parse.specs.Inner.Table.{Effect, Keep, To, Part, One, ACondition, AnOperand, MoreOperands, start}
use Rattle.acs_parse.specs.Inner.Table.{Verdict, Short, Stop, TooMany, verdict}

-- the table ends in the same way
abbrev pub Fails : Fault → Verdict → Type 0
Fails (Unexpected left) v = v ≡ Stop left
Fails Ended v = v ≡ Short
Fails (Deep left) v = v ≡ TooMany left
Fails NoMemory v = Unit {0}

-- the table fails so at these parts, whatever is to be read behind them
abbrev pub FailsAt : Fault → List Part → ℕ → List Symbol → Type 0
FailsAt e s n ts = (k : List Part) → Fails e (verdict limited (s ++ k) n ts)

-- it read what it says, or the table fails there too
abbrev pub Parses : {X : Type 0} → (X → Type 0) → List Part → ℕ → List Symbol → Result X Fault → Type 0
Parses P s n ts (Ok x) = P x
Parses P s n ts (Err e) = FailsAt e s n ts

-- the same, however many are open
abbrev pub Reads : {X : Type 0} → (X → Type 0) → List Part → List Symbol → Result X Fault → Type 0
Reads P s ts (Ok x) = P x
Reads P s ts (Err e) = (n : ℕ) → FailsAt e s n ts

-- the same for one token, whatever it does to the number that are open
abbrev pub ReadsOne : {X : Type 0} → (X → Type 0) → Want → List Symbol → Result X Fault → Type 0
ReadsOne P w ts (Ok x) = P x
ReadsOne P w ts (Err e) = (f : Effect) (n : ℕ) → FailsAt e (One w f ∷ []) n ts

-- one more opens where n are open, or one too many at these tokens
abbrev pub Opens : ℕ → List Symbol → Result ℕ Fault → Type 0
Opens n ts (Ok m) = (limited n ≡ true) × (m ≡ suc n)
Opens n ts (Err e) = (limited n ≡ false) × (e ≡ Deep (length ts))

-- the wanted token is passed, or another stands and nothing is
abbrev pub Skips : Want → List Symbol → List Symbol → Bool → Type 0
Skips w ts ms true = Takes w ts ms
Skips w ts ms false = (starts w ts ≡ false) × (ms ≡ ts)

-- the next operand of a list begins here: behind a comma, or at once
abbrev pub GoesOn : ListKind → List Symbol → List Symbol → Type 0
GoesOn kind ts behind =
    (ts ≡ Comma ∷ behind) ⊎ ((t : Symbol) × (ms : List Symbol) × (ts ≡ t ∷ ms) × (joins kind t ≡ true) × (behind ≡ ts))

-- a list of entries in parentheses
abbrev pub IsEntries : ℕ → List Symbol → List Operand → List Symbol → Type 0
IsEntries total ts os rest = (ms : List Symbol) × (ts ≡ Open ∷ ms) × IsOperands total list.Entries ms os (Close ∷ rest)

-- the token begins a statement that has others inside it
abbrev pub nesting : Symbol → Bool
nesting (Word word.If a) = true
nesting (Word word.Select a) = true
nesting (Word word.Do a) = true
nesting _ = false

-- such a statement begins at these tokens
abbrev pub nests : List Symbol → Bool
nests [] = false
nests (t ∷ ts) = nesting t

-- a statement, however many are open where it begins
abbrev pub IsPlain : ℕ → List Symbol → Stmt → List Symbol → Type 0
IsPlain total ts s rest = (n : ℕ) → IsStmt total limited n ts s rest

-- these statements and such a one behind them, which is read
abbrev pub IsPlainMore : ℕ → List Symbol → List Stmt → List Stmt → List Symbol → Type 0
IsPlainMore total ts list longer rest = (s : Stmt) × IsPlain total ts s rest × (longer ≡ list ++ s ∷ [])

-- what a statement with this word is, by the tokens behind the word
abbrev pub IsBehind : ℕ → WordKind → ℕ → List Symbol → Form → List Symbol → Type 0
IsBehind total kind n ts form rest =
    (a : List ℕ) → IsStmt total limited n (Word kind a ∷ ts) (placed total (Word kind a ∷ ts) form) rest

-- the same of a statement whose first token is at this place, however many are open
abbrev pub IsBehindAt : ℕ → WordKind → ℕ → List Symbol → Stmt → List Symbol → Type 0
IsBehindAt total kind at ts s rest =
    (f : Form) × (s ≡ record { at = at; form = f }) × ((n : ℕ) → IsBehind total kind n ts f rest)

-- the same where the word opens one more, so that this many are open behind it
abbrev pub IsInside : ℕ → WordKind → ℕ → List Symbol → Form → List Symbol → Type 0
IsInside total kind inner ts form rest = (n : ℕ) → limited n ≡ true → inner ≡ suc n → IsBehind total kind n ts form rest

-- the WHENs of a SELECT, at least one
abbrev pub AreWhens : ℕ → Bool → ℕ → List Symbol → List When → List Symbol → Type 0
AreWhens total b n ts list rest = (w : When) × (ws : List When) × (ms : List Symbol) ×
    IsWhen total limited b n ts w ms × IsWhens total limited b n ms ws rest × (list ≡ w ∷ ws)

-- a condition and the wanted token behind it
abbrev pub IsCondBefore : ℕ → Want → ℕ → List Symbol → Cond → List Symbol → Type 0
IsCondBefore total w n ts c rest = (m : ℕ) × (a : List Symbol) × IsCond total limited n ts c m a × Takes w a rest

-- the statements of an IF, with the ELSE's if there is one
abbrev pub AreArms : ℕ → ℕ → List Symbol → Stmt → Option Stmt → List Symbol → Type 0
AreArms total n ts s o rest =
    (ms : List Symbol) × IsStmt total limited n ts s ms × IsAlternative total limited want.Else n ms o rest

-- these statements of a block and one more, which is read
abbrev pub IsItemMore : ℕ → Bool → ℕ → List Symbol → List Stmt → List Stmt → List Symbol → Type 0
IsItemMore total whole n ts list longer rest =
    (s : Stmt) × IsItem total limited whole n ts s rest × (longer ≡ list ++ s ∷ [])

-- this list of WHENs and one more, which is read
abbrev pub IsOneMore : ℕ → Bool → ℕ → List Symbol → List When → List When → List Symbol → Type 0
IsOneMore total b n ts list longer rest = (w : When) × IsWhen total limited b n ts w rest × (longer ≡ list ++ w ∷ [])

-- what stands behind a WHEN in parentheses: items, or a condition
pub data IsTest (total : ℕ) : Bool → ℕ → List Symbol → WhenTest → List Symbol → Type 0 where
  any_of : {n : ℕ} {ts rest : List Symbol} {os : List Operand} → IsOperands total list.Items ts os (Close ∷ rest) →
      IsTest total true n (Open ∷ ts) (Any os) rest
  holding : {n m : ℕ} {ts rest : List Symbol} {c : Cond} → IsCond total limited n ts c m (Close ∷ rest) →
      IsTest total false n (Open ∷ ts) (Holds c) rest

-- the parts of the same
abbrev pub test_parts : Bool → ℕ → List Part
test_parts true n = One want.Open Keep ∷ AnOperand list.Items ∷ MoreOperands list.Items ∷ One want.Close Keep ∷ []
test_parts false n = One want.Open Keep ∷ ACondition ∷ One want.Close (To n) ∷ []

-- the whole of the tokens
abbrev pub Whole : ℕ → List Symbol → Result Routine Fault → Type 0
Whole total ts (Ok tree) = IsRoutineOf total limited ts tree
Whole total ts (Err e) = Fails e (verdict limited start 0 ts)

-- the fault with its place, of so many tokens in all
abbrev pub told : ℕ → Fault → ParseErr
told total (Unexpected left) = answer.Unexpected (total - left)
told total Ended = answer.Ended
told total (Deep left) = answer.Deep (total - left)
told total NoMemory = answer.NoMemory
