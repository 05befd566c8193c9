-- Operands that were put behind a line, or weren't.
use Rattle.std.proofs.Common.{◌≡◌, ◌∙◌, ◌++◌, Bool, true, false, List, ℕ, Some, None, ap, sym}
use Rattle.std.specs.Prelude.{Option, option_map, if◌then◌else◌}

-- behind a line, where they were put
pub put : (b : Bool) (new old : List ℕ) (one other : Option (List ℕ)) → b ≡ true → one ≡ other
    → (if b then Some new else None) ≡ option_map (λ t. old ++ t) one → Some new ≡ option_map (λ t. old ++ t) other
put b new old one other is same h = sym (ap (λ (c : Bool). if c then Some new else None) is) ∙ h ∙ ap (option_map (λ t. old ++ t)) same

-- and where they weren't
pub not_put : (b : Bool) (new old : List ℕ) (one other : Option (List ℕ)) → b ≡ false → one ≡ other
    → (if b then Some new else None) ≡ option_map (λ t. old ++ t) one → None ≡ option_map (λ t. old ++ t) other
not_put b new old one other is same h = sym (ap (λ (c : Bool). if c then Some new else None) is) ∙ h ∙ ap (option_map (λ t. old ++ t)) same
