-- How cases come out under two configurations (docs/manual/tool.md, "Comparing two decks").
use Rattle.std.specs.Prelude.{ℕ, ◌≡◌, ◌↔◌, ◌+◌, Bool, true, false, List, [], ◌∷◌, ◌++◌, codes, decimal, flat_map}
use Rattle.std.specs.Prelude.{length}
use Rattle.csv.specs.Writing.{default_writer, row_text}
use Rattle.acs_tree.specs.Slates.{SlateLines}
use Rattle.acs_tree.specs.declared.values.Values.{Values}
use Rattle.sms_construct.specs.Configuration.{Configuration}
use Rattle.sms_script.specs.NameText.{spaced}
use Rattle.sms_script.specs.TraceText.{trace_lines}
use Rattle.desk_law.specs.Classification.{Classes, classes_of}
use Rattle.sms_construct.specs.declared.stop.Stop.{Stop}
use Rattle.sms_simulation.specs.OutcomeText.{behind, outcome_text}
use Rattle.acs_test.specs.CaseRecords.{case_header, case_line, case_record}
use Rattle.acs_test.specs.declared.case.Case.{Case}
use Rattle.acs_test.specs.declared.form.CaseForm.{CaseForm}
use Rattle.acs_test.specs.declared.form.CaseForm.TheVariants.{Lines, Csv, Json}

-- what a case comes to under a configuration
abbrev pub classes_for : Configuration → Case → Classes
classes_for config case = classes_of config case.job case.alloc

-- the line of an outcome
abbrev pub outcome_line : Stop → Values → List ℕ
outcome_line stop values = outcome_text stop values ++ 10 ∷ []

-- the lines that the routines wrote, each behind this front
abbrev pub written_text : List ℕ → SlateLines → List ℕ
written_text front written =
    flat_map (behind front) (trace_lines (record { lines = written.lines; more = written.more }))

-- the outcome, and the lines that the routines wrote, each behind this front
abbrev pub outcome_lines : List ℕ → Classes → List ℕ
outcome_lines front classes = outcome_line classes.stop classes.values ++ written_text front classes.written

-- a case that comes to the same
abbrev pub same_text : Case → Classes → List ℕ
same_text case classes = spaced (case.name ∷ codes "SAME" ∷ outcome_lines (codes "  ") classes ∷ [])

-- what a case comes to on one side
abbrev pub side_text : List ℕ → Classes → List ℕ
side_text side classes = side ++ outcome_lines (codes "    ") classes

-- the first line of a case that comes to something else
abbrev pub differing_head : Case → List ℕ
differing_head case = spaced (case.name ∷ codes "DIFFERS\n" ∷ [])

-- a case that comes to something else
abbrev pub differing_text : Case → Classes → Classes → List ℕ
differing_text case old new = differing_head case ++ (side_text (codes "  OLD ") old ++ side_text (codes "  NEW ") new)

-- the lines of a case that comes to this under the one and the other configuration, and whether that is the same
abbrev pub case_text : Case → Classes → Classes → Bool → List ℕ
case_text case old new true = same_text case old
case_text case old new false = differing_text case old new

-- one more where the case isn't the same
abbrev pub count_differing : Bool → ℕ → ℕ
count_differing true count = count
count_differing false count = count + 1

-- whether the case comes to the same under both: values, lines and ends are equal
abbrev pub IsSame : Configuration → Configuration → Case → Bool → Type 0
IsSame before after case same = (same ≡ true) ↔ (classes_for before case ≡ classes_for after case)

-- a case in a form
abbrev pub text_in : CaseForm → Case → Classes → Classes → Bool → List ℕ
text_in Lines case old new same = case_text case old new same
text_in Csv case old new same = case_record case old new same
text_in Json case old new same = case_line case old new same

-- what is listed of a case: where only changed cases are, nothing of one that comes to the same
abbrev pub listed_text : CaseForm → Bool → Case → Classes → Classes → Bool → List ℕ
listed_text form true case old new true = []
listed_text form changed case old new same = text_in form case old new same

-- so many of the cases differ, and this is their text in a form, or with `changed` that of those that differ
pub data IsListed (before after : Configuration) (form : CaseForm) (changed : Bool)
    : List Case → ℕ → List ℕ → Type 0 where
  none : IsListed before after form changed [] 0 []
  one : (case : Case) (cases : List Case) (differing : ℕ) (text : List ℕ) (same : Bool)
      → IsSame before after case same → IsListed before after form changed cases differing text
      → IsListed before after form changed (case ∷ cases) (count_differing same differing)
      (listed_text form changed case (classes_for before case) (classes_for after case) same ++ text)

-- the last line: the number of the cases, and of those that differ
abbrev pub end_text : ℕ → ℕ → List ℕ
end_text cases differing = spaced (codes "CASES" ∷ decimal cases ∷ codes "DIFFER" ∷ decimal differing ∷ []) ++ 10 ∷ []

-- what stands before the cases: of comma-separated values the names of the fields
abbrev pub front_in : CaseForm → List ℕ
front_in Lines = []
front_in Csv = row_text default_writer case_header
front_in Json = []

-- what stands behind the cases
abbrev pub end_in : CaseForm → ℕ → ℕ → List ℕ
end_in Lines cases differing = end_text cases differing
end_in Csv cases differing = []
end_in Json cases differing = []

-- the text of all cases in a form, or with `changed` of those that differ; so many differ
pub record IsListingOf (before after : Configuration) (form : CaseForm) (changed : Bool) (cases : List Case)
    (differing : ℕ) (text : List ℕ) : Type 0 where
  pub lines : List ℕ
  pub listed : IsListed before after form changed cases differing lines
  pub text_is : text ≡ front_in form ++ (lines ++ end_in form (length cases) differing)

-- the text of all cases with its last line
abbrev pub IsListing : Configuration → Configuration → List Case → List ℕ → Type 0
IsListing before after cases text = (differing : ℕ) × IsListingOf before after Lines false cases differing text
