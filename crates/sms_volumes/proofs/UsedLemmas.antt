-- Whether extents lie on a volume.
use Rattle.std.proofs.Common.{◌≡◌, ◌∙◌, ℕ, Bool, List, [], ◌∷◌, reverse, refl, sym, ap}
use Rattle.std.specs.Prelude.{bytes_eq, ◌||◌}
use Rattle.std.specs.List.{list_any}
use Rattle.std.proofs.lemmas.List.Sorted.{IsPermutation-reverse, list_any-IsPermutation}
use Rattle.sms_construct.specs.declared.extent.Extent.{Extent}
use Rattle.desk_law.specs.Extents.{is_used}

-- some extent is on the volume
any-used : (volser : List ℕ) (extents : List Extent) → list_any (λ (e : Extent). bytes_eq e.volser volser) extents ≡ is_used volser extents
any-used volser [] = refl
any-used volser (e ∷ extents) = ap (λ (b : Bool). bytes_eq e.volser volser || b) (any-used volser extents)

-- the same, the last looked at first
pub any-reversed : (volser : List ℕ) (extents : List Extent) → list_any (λ (e : Extent). bytes_eq e.volser volser) (reverse extents) ≡ is_used volser extents
any-reversed volser extents =
    sym (list_any-IsPermutation (λ (e : Extent). bytes_eq e.volser volser) extents (reverse extents) (IsPermutation-reverse extents)) ∙ any-used volser extents
