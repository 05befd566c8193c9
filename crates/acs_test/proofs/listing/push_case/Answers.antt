use Rattle.std.proofs.Common.{rules, ◌++◌, List, ℕ, ap, ap₂, sym, ◌∙◌}
use Rattle.desk_law.specs.Classification.{Classes}
use Rattle.acs_test.specs.Listing.{classes_for, text_in}
use Rattle.acs_test.proofs.ListingLemmas.{put_in}
use Rattle.acs_test.proofs.listing.push_case.Goals as goal

pub returns-clause-text : goal.returns-clause-text
returns-clause-text c =
    let text = c.args.text.now.items in
    let case = c.args.case.now in
    let before = classes_for c.args.cases.now.before case in
    let after = classes_for c.args.cases.now.after case in
    c.in_ok-push_case_text.ensures
    ∙ ap₂ (λ (old new : Classes). text ++ text_in c.args.form case old new c.are_same-same.result) c.classified-before.ensures c.classified-after.ensures
    ∙ ap (λ (told : List ℕ). text ++ told) (sym (put_in c.args.form c.args.changed case before after c.are_same-same.result (search rules)))
