-- Texts that are put together from their parts.
use Rattle.std.proofs.Common.{◌≡◌, ◌++◌, ◌∙◌, ap, append_assoc, List, ℕ}
use Rattle.std.specs.Prelude.{Result, Ok, Err, OnOk}

-- a part behind another is the two behind what was there
pub behind : (new mid old a b : List ℕ) → new ≡ mid ++ b → mid ≡ old ++ a → new ≡ old ++ (a ++ b)
behind new mid old a b is before = is ∙ ap (λ l. l ++ b) before ∙ append_assoc old a b

-- where it was put
pub on-behind : {T E : Type 0} (r : Result T E) (new mid old a b : List ℕ) → OnOk r (new ≡ mid ++ b) → mid ≡ old ++ a → OnOk r (new ≡ old ++ (a ++ b))
on-behind (Ok t) new mid old a b is before = behind new mid old a b is before
on-behind (Err e) new mid old a b is before = tt

-- the same put
pub on-same : {T E : Type 0} (r : Result T E) (new old a b : List ℕ) → a ≡ b → OnOk r (new ≡ old ++ a) → OnOk r (new ≡ old ++ b)
on-same (Ok t) new old a b same is = is ∙ ap (λ l. old ++ l) same
on-same (Err e) new old a b same is = tt
