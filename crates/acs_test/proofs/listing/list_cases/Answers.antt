use Rattle.std.proofs.Common.{◌≤◌, ◌+◌, ◌++◌, ℕ, List, length, ap, drop, sym, ◌∙◌, subst, arith}
use Rattle.acs_test.specs.Listing.{IsListed, end_in, front_in}
use Rattle.acs_test.specs.declared.case.Case.{Case}
use Rattle.acs_test.proofs.ListingLemmas.{IsListedSo, counted_few, drop_all, listed_all, listed_more, listed_none}
use Rattle.acs_test.proofs.listing.list_cases.Goals as goal

pub loop-case-init : goal.loop-case-init
loop-case-init c =
    let before = c.args.cases.now.before in
    let after = c.args.cases.now.after in
    let form = c.args.form in
    let changed = c.args.changed in
    let list = c.as_slice-list.result.now in
    record {
      listed = subst (λ (text : List ℕ). IsListedSo before after form changed list list 0 text) (sym c.new-text.ensures.items) (listed_none before after form changed list);
      few = omega arith;
    }

pub loop-case-preserved : goal.loop-case-preserved
loop-case-preserved c =
    let before = c.args.cases.now.before in
    let after = c.args.cases.now.after in
    let form = c.args.form in
    let changed = c.args.changed in
    let list = c.as_slice-list.result.now in
    let i = c.loop-case.case-index in
    let same = c.in_ok-same.same in
    let inv = c.loop-case.invariant in
    record {
      listed = subst (λ (n : ℕ). IsListedSo before after form changed list (drop (i + 1) list) n c.push_case.new.text.items) (sym c.counted-differing.ensures)
          (listed_more before after form changed list i c.case-item.result same c.loop-case.differing c.loop-case.text.items c.push_case.new.text.items (omega (arith, c.loop-case-test.true)) c.case-item.is
          c.in_ok-same.ensures.same c.in_ok-same.ensures.text inv.listed);
      few = subst (λ (n : ℕ). n ≤ i + 1) (sym c.counted-differing.ensures) (counted_few same c.loop-case.differing i inv.few);
    }

pub returns : goal.returns
returns c =
    let before = c.args.cases.now.before in
    let after = c.args.cases.now.after in
    let form = c.args.form in
    let changed = c.args.changed in
    let list = c.as_slice-list.result.now in
    let i = c.loop-case.case-index in
    let differing = c.loop-case.differing in
    let text = c.loop-case.text.items in
    let whole : IsListed before after form changed list differing text = listed_all before after form changed list (drop i list) differing text (drop_all list i (omega (arith, c.loop-case-test.false))) c.loop-case.invariant.listed in
    record {
      lines = text;
      listed = subst (λ (cases : List Case). IsListed before after form changed cases differing text) c.as_slice-list.ensures whole;
      text_is = c.in_ok-whole.ensures
          ∙ ap (λ (t : List ℕ). front_in form ++ (t ++ end_in form (length list) differing)) c.deref.ensures.value
          ∙ ap (λ (cases : List Case). front_in form ++ (text ++ end_in form (length cases) differing)) c.as_slice-list.ensures;
    }
