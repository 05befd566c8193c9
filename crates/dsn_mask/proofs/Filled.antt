-- A text at the front of a buffer of zeros.
use Rattle.std.proofs.Common.{◌≡◌, ℕ, List, ◌++◌, length, take, drop, refl, ◌-◌}
use Rattle.std.proofs.Math.ListN.{replicate}
use Rattle.std.proofs.Math.Seq.{take-append_seam}
use Rattle.std.proofs.lemmas.List.{drop-replicate}
use Rattle.dsn_mask.specs.Inner.Text.{padded}

abbrev pub filled : ℕ → List ℕ → List ℕ → List ℕ
filled size front bytes = front ++ drop {A = ℕ} (length bytes) (replicate size 0)

filled_is : (size : ℕ) (bytes : List ℕ) → (length bytes ≡ length (take (length bytes) (filled size bytes bytes))) × (filled size bytes bytes ≡ padded size (take (length bytes) (filled size bytes bytes)))
filled_is size bytes =
    let seam : take (length bytes) (filled size bytes bytes) ≡ bytes = take-append_seam bytes (drop {A = ℕ} (length bytes) (replicate size 0)) in
    let zeros : drop {A = ℕ} (length bytes) (replicate size 0) ≡ replicate (size - length bytes) 0 = drop-replicate (length bytes) size 0 in
    (rw seam refl, rw (seam, zeros) refl)

pub filled_front : (size : ℕ) (bytes front : List ℕ) → front ≡ bytes → (length bytes ≡ length (take (length bytes) (filled size front bytes))) × (filled size front bytes ≡ padded size (take (length bytes) (filled size front bytes)))
filled_front size bytes front same = rw same (filled_is size bytes)
