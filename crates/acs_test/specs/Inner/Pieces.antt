-- The parts of cases as they are written in JSON.
use Rattle.std.specs.Prelude.{ℕ, Bool, true, false, List, ◌++◌, codes}
use Rattle.json.specs.Print.{quoted}
use Rattle.serde_json.specs.Written.{members_text}
use Rattle.desk_law.specs.Classification.{Classes}
use Rattle.sms_outcomes.specs.Outcomes.{side_members}
use Rattle.acs_test.specs.declared.case.Case.{Case}

-- whether a case comes to something else
abbrev pub differs_piece : Bool → List ℕ
differs_piece true = codes ",\"differs\":false"
differs_piece false = codes ",\"differs\":true"

-- a case
abbrev pub case_piece : Case → Classes → Classes → Bool → List ℕ
case_piece case old new same =
    codes "{\"case\":" ++ (quoted case.name ++ (differs_piece same
    ++ (codes ",\"old\":{" ++ (members_text false (side_members old)
    ++ (codes ",\"new\":{" ++ (members_text false (side_members new) ++ codes "}"))))))
