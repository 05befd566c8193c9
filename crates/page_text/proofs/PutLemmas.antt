-- A text that is put behind nothing.
use Rattle.std.proofs.Common.{◌≡◌, ◌++◌, ℕ, List, [], ap, append_assoc, ◌∙◌}

pub from_empty : (all new text body : List ℕ) → all ≡ new ++ text → new ≡ [] → text ≡ body → all ≡ body
from_empty all new text body e none is = e ∙ ap (λ l. l ++ text) none ∙ is

-- three texts that are put one behind the other
pub three_behind : (all two one old x y z : List ℕ) → all ≡ two ++ z → two ≡ one ++ y → one ≡ old ++ x → all ≡ old ++ (x ++ (y ++ z))
three_behind all two one old x y z e f g =
    e ∙ ap (λ l. l ++ z) (f ∙ ap (λ l. l ++ y) g) ∙ append_assoc (old ++ x) y z ∙ append_assoc old x (y ++ z)
