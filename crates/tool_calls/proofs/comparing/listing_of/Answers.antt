use Rattle.std.proofs.Common.{subst}
use Rattle.std.specs.Prelude.{IfOk}
use Rattle.acs_test.specs.Listing.{IsListingOf}
use Rattle.acs_test.specs.declared.form.CaseForm.{CaseForm}
use Rattle.tool_calls.proofs.comparing.listing_of.Goals as goal

pub returns : goal.returns
returns c =
    let cases = c.args.cases.now in
    subst (λ (form : CaseForm). IfOk c.list_cases.result (λ made. IsListingOf cases.before cases.after form c.args.comparison.changed cases.list made.differing made.text.items))
    c.form_of-form.ensures c.list_cases.ensures
