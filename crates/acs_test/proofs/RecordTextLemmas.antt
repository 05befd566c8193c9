-- The parts of cases are their JSON.
use Rattle.std.proofs.Common.{◌≡◌, ◌++◌, ◌∙◌, ℕ, List, Bool, true, false, ap, append_assoc, refl}
use Rattle.json.specs.Print.{escape_byte}
use Rattle.serde_json.specs.Written.{compact_text}
use Rattle.desk_law.specs.Classification.{Classes}
use Rattle.acs_test.specs.CaseRecords.{case_value}
use Rattle.acs_test.specs.Inner.Pieces.{case_piece}
use Rattle.acs_test.specs.declared.case.Case.{Case}

pub case_is : (case : Case) (old new : Classes) (same : Bool) → case_piece case old new same ≡ compact_text (case_value case old new same)
unfolding escape_byte
case_is case old new true = refl
case_is case old new false = refl

-- a part, and what stands behind it
pub behind : (before part first rest now : List ℕ) → first ≡ before ++ part → now ≡ first ++ rest → now ≡ before ++ (part ++ rest)
behind before part first rest now e f = f ∙ ap (λ (t : List ℕ). t ++ rest) e ∙ append_assoc before part rest
