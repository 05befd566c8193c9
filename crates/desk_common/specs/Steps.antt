-- What is found in steps.
use Rattle.std.specs.Prelude.{Result, Ok, Err}

-- an error ends the steps; else the next step gets what was found
abbrev pub ◌⊳◌ : {A B E : Type 0} → Result A E → (A → Result B E) → Result B E
Err error ⊳ next = Err error
Ok found ⊳ next = next found

infixr 10 ◌⊳◌
