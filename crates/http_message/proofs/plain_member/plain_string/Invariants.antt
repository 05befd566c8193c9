use Rattle.std.proofs.Common.{◌≡◌, ℕ, ◌<◌, get_or, [], ◌∷◌}
use Rattle.json.specs.Print.{escape_byte}
use Rattle.http_message.proofs.plain_member.plain_string.Given as goal

-- each byte so far is of ASCII and stands for itself
abbrev pub invariant-loop-at : goal.invariant-loop-at
invariant-loop-at l = record {
  itself : (k : ℕ) → k < l.at → escape_byte (get_or l.text k 0) ≡ get_or l.text k 0 ∷ [];
  ascii : (k : ℕ) → k < l.at → get_or l.text k 0 < 128;
}
