use Rattle.std.proofs.Common.{◌≡◌, ℕ, ◌<◌, get_or, [], ◌∷◌}
use Rattle.json.specs.Print.{escape_byte}
use Rattle.json_text.proofs.quoting.plain_len.Given as goal

-- each byte so far stands for itself
abbrev pub invariant-loop-at : goal.invariant-loop-at
invariant-loop-at l = (k : ℕ) → k < l.at → escape_byte (get_or l.bytes k 0) ≡ get_or l.bytes k 0 ∷ []
