-- Lists of signed entries, as the seats of a turn lock make them.
use Rattle.std.specs.Prelude.{◌≡◌, ℕ, List, ◌++◌, Some}
use Rattle.turn_lock.specs.declared.signed.Signed.{Signed}
use Rattle.turn_lock.specs.Views.{IsMine}

-- the entry with the number of its seat
abbrev pub signed : ℕ × ℕ → Signed ℕ
signed pair = record { by = Some pair.0; entry = pair.1 }

-- the list goes on from the old one, by entries of the seat of this number
abbrev pub GrewBy : ℕ → List (Signed ℕ) → List (Signed ℕ) → Type 0
GrewBy number old new = (more : List (Signed ℕ)) × (new ≡ old ++ more) × IsMine number more
