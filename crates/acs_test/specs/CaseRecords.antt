-- What cases come to, as records for other tools (docs/manual/tool.md, "For other tools").
use Rattle.std.specs.Prelude.{ℕ, Bool, true, false, not, List, [], ◌∷◌, ◌++◌, codes}
use Rattle.csv.specs.Writing.{default_writer, row_text}
use Rattle.serde_json.specs.Data.{Data, boolean, string, object, no_members, member}
use Rattle.serde_json.specs.Written.{compact_text}
use Rattle.desk_law.specs.Classification.{Classes}
use Rattle.sms_outcomes.specs.Outcomes.{outcome_of, side_members}
use Rattle.acs_test.specs.declared.case.Case.{Case}

-- a case: its name, whether it comes to something else, and what it comes to on both sides
abbrev pub case_value : Case → Classes → Classes → Bool → Data
case_value case old new same =
    object
    (member (codes "case") (string case.name)
    (member (codes "differs") (boolean (not same))
    (member (codes "old") (object (side_members old))
    (member (codes "new") (object (side_members new)) no_members))))

-- a case as a line of JSON
abbrev pub case_line : Case → Classes → Classes → Bool → List ℕ
case_line case old new same = compact_text (case_value case old new same) ++ 10 ∷ []

-- the names of the fields of a case, as comma-separated values have them
abbrev pub case_header : List (List ℕ)
case_header = codes "case" ∷ codes "differs" ∷ codes "old" ∷ codes "new" ∷ []

-- whether a case comes to something else, in a word
abbrev pub differs_word : Bool → List ℕ
differs_word true = codes "NO"
differs_word false = codes "YES"

-- a case as a record of comma-separated values: its name, whether it comes to something else, and both outcomes
abbrev pub case_record : Case → Classes → Classes → Bool → List ℕ
case_record case old new same =
    row_text default_writer (case.name ∷ differs_word same ∷ outcome_of old ∷ outcome_of new ∷ [])
