-- What a comparison comes to: its status and its text (docs/manual/tool.md, "Comparing two decks").
use Rattle.std.specs.Prelude.{◌≡◌, ◌&&◌, ℕ, Bool, List, [], ◌++◌, decimal, codes, nat_lt, if◌then◌else◌}
use Rattle.sms_script.specs.FaultText.{fault_text}
use Rattle.acs_test.specs.Listing.{IsListingOf}
use Rattle.acs_test.specs.declared.cases.Cases.{Cases}
use Rattle.acs_test.specs.declared.cases_err.CasesErr.{CasesErr}
use Rattle.acs_test.specs.declared.cases_err.CasesErr.TheVariants as errs
use Rattle.acs_test.specs.declared.form.CaseForm.{CaseForm}
use Rattle.acs_test.specs.declared.form.CaseForm.TheVariants as forms
use Rattle.acs_test.specs.declared.cases_err.Side.{Side}
use Rattle.acs_test.specs.declared.cases_err.Side.TheVariants.{Old, New}
use Rattle.tool_calls.specs.declared.status.ToolStatus.{ToolStatus}
use Rattle.tool_calls.specs.declared.status.ToolStatus.TheVariants.{Done, FaultFound}
use Rattle.tool_words.specs.declared.comparison.Comparison.{Comparison}
use Rattle.tool_words.specs.declared.format.Format.{Format}
use Rattle.tool_words.specs.declared.format.Format.TheVariants as formats

-- a code, and a number behind it
abbrev pub numbered : List ℕ → ℕ → List ℕ
numbered code number = code ++ decimal number ++ codes "\n"

-- the code of a deck's side
abbrev pub side_code : Side → List ℕ
side_code Old = codes "FAULT U2 OLD "
side_code New = codes "FAULT U2 NEW "

-- the line of a refusal; want of memory has none
abbrev pub cases_fault_text : CasesErr → List ℕ
cases_fault_text (errs.Layout line) = numbered (codes "FAULT U1 ") line
cases_fault_text (errs.Deck side fault) = side_code side ++ fault_text fault ++ codes "\n"
cases_fault_text (errs.Fields number) = numbered (codes "FAULT U3 ") number
cases_fault_text (errs.Header column) = numbered (codes "FAULT U4 ") column
cases_fault_text (errs.BadCase number) = numbered (codes "FAULT U5 ") number
cases_fault_text errs.TooMany = codes "FAULT U6\n"
cases_fault_text errs.NoMemory = []

-- a refusal is told by its line; want of memory is told by none
abbrev pub TellsCases : CasesErr → List ℕ → Type 0
TellsCases (errs.Layout line) text = text ≡ cases_fault_text (errs.Layout line)
TellsCases (errs.Deck side fault) text = text ≡ cases_fault_text (errs.Deck side fault)
TellsCases (errs.Fields number) text = text ≡ cases_fault_text (errs.Fields number)
TellsCases (errs.Header column) text = text ≡ cases_fault_text (errs.Header column)
TellsCases (errs.BadCase number) text = text ≡ cases_fault_text (errs.BadCase number)
TellsCases errs.TooMany text = text ≡ cases_fault_text errs.TooMany
TellsCases errs.NoMemory text = ⊥

-- a case differs, and that is to be told by the status
abbrev pub is_failed : Comparison → ℕ → Bool
is_failed comparison differing = comparison.fail && nat_lt 0 differing

-- the status of a comparison by which so many cases differ
abbrev pub compared_status : Comparison → ℕ → ToolStatus
compared_status comparison differing = if is_failed comparison differing then FaultFound else Done

-- the form of the listing
abbrev pub form_of : Format → CaseForm
form_of formats.Text = forms.Lines
form_of formats.Csv = forms.Csv
form_of formats.Json = forms.Json

-- the listing of these cases, and its status
pub record TellsListing (cases : Cases) (comparison : Comparison) (status : ToolStatus) (text : List ℕ) : Type 0 where
  pub differing : ℕ
  pub status_is : status ≡ compared_status comparison differing
  pub listing :
      IsListingOf cases.before cases.after (form_of comparison.format) comparison.changed cases.list differing text

-- what a comparison of what reads so comes to: the listing of the cases, or the line of the refusal
pub data IsComparison (reads : Cases → Type 0) (refuses : CasesErr → Type 0) (comparison : Comparison)
    : ToolStatus → List ℕ → Type 0 where
  listed : (cases : Cases) (status : ToolStatus) (text : List ℕ) → reads cases →
      TellsListing cases comparison status text → IsComparison reads refuses comparison status text
  unlisted : (err : CasesErr) → refuses err →
      IsComparison reads refuses comparison FaultFound (cases_fault_text err)
