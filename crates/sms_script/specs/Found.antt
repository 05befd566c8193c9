-- What is read in steps.
use Rattle.std.specs.Prelude.{Option, None, Some}

-- what was found goes on; where nothing was, nothing is
abbrev pub ◌⊳◌ : {A B : Type 0} → Option A → (A → Option B) → Option B
None ⊳ next = None
Some found ⊳ next = next found

infixr 10 ◌⊳◌
