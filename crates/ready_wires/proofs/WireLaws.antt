-- What a read of a connection in memory gives.
use Rattle.std.proofs.Common.{◌≡◌, ◌+◌, ◌-◌, ℕ, List, ◌++◌, length, take, drop, ap, sym, ◌∙◌, Some}
use Rattle.std.specs.Prelude.{Option}
use Rattle.std.proofs.lemmas.List.{take_rest}
use Rattle.std.proofs.Math.Seq.{take-add}
use Rattle.ready_wires.specs.Wires.{Grows}

-- the bytes that were read, and those that were copied behind them
pub came_more : (came : Option (List ℕ)) (bytes to : List ℕ) (read n : ℕ) → came ≡ Some (take read bytes) → take n to ≡ take n (take (length bytes - read) (drop read bytes)) → Grows came (Some (take (read + n) bytes)) (take n to)
came_more came bytes to read n is copied = rw is (ap Some (take-add read n bytes ∙ ap (λ l. take read bytes ++ l) (sym (copied ∙ ap (λ l. take n l) (take_rest bytes read)))))
