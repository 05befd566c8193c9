-- On how many volumes extents lie, at a worked example.
use Rattle.std.proofs.Common.{◌≡◌, ℕ, List, [], ◌∷◌, length, refl}
use Rattle.std.specs.Prelude.{codes}
use Rattle.sms_construct.specs.declared.extent.Extent.{Extent}
use Rattle.desk_law.specs.Extents.{volumes_of}

abbrev at : List ℕ → ℕ → Extent
at volser start = record { volser = volser; start = start; length = 10 }

-- a volume that stands again behind another counts once
two_volumes : length (volumes_of (at (codes "VOL001") 0 ∷ at (codes "VOL002") 0 ∷ at (codes "VOL001") 10 ∷ [])) ≡ 2
two_volumes = refl
