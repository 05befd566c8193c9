-- Legal histories.
use Rattle.std.specs.Prelude.{ℕ, ◌≡◌, List, [], ◌∷◌, ◌++◌, Some}
use Rattle.sms_construct.specs.Configuration.{Configuration}
use Rattle.sms_construct.specs.declared.entry.Entry.{Entry}
use Rattle.desk_law.specs.State.{DeskState, Opening, start_of}
use Rattle.desk_law.specs.Step.{IsStep}

-- each of the entries is a step after those before it, and they lead from one state to another
abbrev pub Leads : Opening → List Entry → DeskState → List Entry → DeskState → Type 0
Leads o before s [] after = after ≡ s
Leads o before s (e ∷ es) after =
    (next : DeskState) × IsStep o before s e next × Leads o (before ++ e ∷ []) next es after

-- the history is legal behind the opening, and leaves the desk in this state
abbrev pub Reaches : Opening → List Entry → DeskState → Type 0
Reaches o h s = Leads o [] (start_of o) h s

-- from the state of the opening on, every entry in order is a step
abbrev pub IsLegal : Opening → List Entry → Type 0
IsLegal o h = (s : DeskState) × Reaches o h s

-- after some front of the history there were so many activations, and this configuration was active
pub record WasActive (o : Opening) (h : List Entry) (count : ℕ) (config : Configuration) : Type 0 where
  pub front : List Entry
  pub rest : List Entry
  pub whole : h ≡ front ++ rest
  pub state : DeskState
  pub reaches : Reaches o front state
  pub counted : state.activations ≡ count
  pub active : state.active ≡ Some config
