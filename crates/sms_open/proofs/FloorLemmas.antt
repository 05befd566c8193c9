-- The floors that a log was told.
use Rattle.std.proofs.Common.{◌≡◌, ◌<◌, ◌+◌, ℕ, Bool, true, false, List, length, get_or, take, refl, sym, ap, ◌∙◌, max}
use Rattle.std.specs.Prelude.{bytes_eq, if◌then◌else◌}
use Rattle.sms_keeper.specs.declared.floor.Floor.{Floor}
use Rattle.sms_keeper.specs.Log.{floor_in, floor_with}
use Rattle.desk_law.specs.Kept.{greatest_floor}
use Rattle.desk_law.proofs.ByteLemmas.{same-bytes}
use Rattle.desk_records.proofs.GreatestLemmas.{greatest-one}
use Rattle.sms_open.proofs.EachLemmas.{take-one}

logged-at : (f : Floor) (job : List ℕ) (mid : List (List ℕ × ℕ)) (G : List ℕ → ℕ) (b : Bool) → bytes_eq f.job job ≡ b → ((j : List ℕ) → floor_in j mid ≡ G j)
    → (if b then max f.floor (floor_in f.job mid) else floor_in job mid) ≡ (if b then max f.floor (G job) else G job)
logged-at f job mid G true is known = ap (λ (n : ℕ). max f.floor n) (known f.job ∙ ap G (same-bytes f.job job is))
logged-at f job mid G false is known = known job

-- one floor more
pub floor-logged : (fs : List Floor) (i : ℕ) (f : Floor) (job : List ℕ) (old mid new : List (List ℕ × ℕ)) → i < length fs → f ≡ get_or fs i f → ((j : List ℕ) → floor_in j mid ≡ floor_in j old)
    → ((j : List ℕ) → floor_in j old ≡ greatest_floor j (take i fs)) → floor_in job new ≡ floor_with mid f.job f.floor job → floor_in job new ≡ greatest_floor job (take (i + 1) fs)
floor-logged fs i f job old mid new less is stays known put =
    put ∙ (logged-at f job mid (λ (j : List ℕ). greatest_floor j (take i fs)) (bytes_eq f.job job) refl (λ j. stays j ∙ known j)
    ∙ (sym (greatest-one (take i fs) f.job f.floor job) ∙ ap (greatest_floor job) (sym (take-one fs i f less is))))
