use Rattle.std.proofs.Common.{◌∙◌, List, ℕ, sym, ap}
use Rattle.acs_tree.specs.declared.amounts.Amounts.{Amounts}
use Rattle.acs_tree.specs.Compares.{number_beside, number_compares, text_equals, texts_compare}
use Rattle.acs_code.specs.declared.field.Field.TheVariants as field
use Rattle.acs_code.specs.Machine.{right_comparand}
use Rattle.acs_run.proofs.VariableLemmas.{on_left}
use Rattle.acs_run.proofs.compare.holds.Goals as goal

pub returns-in-Text-clause-holds : goal.returns-in-Text-clause-holds
returns-in-Text-clause-holds c =
    c.texts_compare.ensures ∙ ap (texts_compare c.args.probe.now.op) (c.equals.ensures ∙ ap (λ (text : List ℕ). text_equals c.args.input.now c.args.values.now (right_comparand c.args.filters.now c.args.probe.now.right) text) c.text-text.ensures)
    ∙ on_left c.args.filters.now c.args.probe.now c.args.input.now c.args.values.now (field.Text c.in-Text.field) (sym c.in-Text.is ∙ c.requires.left)

pub returns-in-Number-clause-holds : goal.returns-in-Number-clause-holds
returns-in-Number-clause-holds c =
    c.number_holds.ensures c.args.filters.now ∙ ap (λ (number : ℕ). number_compares c.args.probe.now.op number (number_beside c.args.input.now c.args.values.now (right_comparand c.args.filters.now c.args.probe.now.right))) c.number.ensures
    ∙ on_left c.args.filters.now c.args.probe.now c.args.input.now c.args.values.now (field.Number c.in-Number.field) (sym c.in-Number.is ∙ c.requires.left)

pub returns-in-Size-clause-holds : goal.returns-in-Size-clause-holds
returns-in-Size-clause-holds c =
    c.number_holds-in-Size.ensures c.args.filters.now ∙ ap (λ (amounts : Amounts). number_compares c.args.probe.now.op amounts.size (number_beside c.args.input.now c.args.values.now (right_comparand c.args.filters.now c.args.probe.now.right))) c.amounts.ensures
    ∙ on_left c.args.filters.now c.args.probe.now c.args.input.now c.args.values.now field.Size (sym c.in-Size.is ∙ c.requires.left)

pub returns-in-MaxSize-clause-holds : goal.returns-in-MaxSize-clause-holds
returns-in-MaxSize-clause-holds c =
    c.number_holds-in-MaxSize.ensures c.args.filters.now ∙ ap (λ (amounts : Amounts). number_compares c.args.probe.now.op amounts.maxsize (number_beside c.args.input.now c.args.values.now (right_comparand c.args.filters.now c.args.probe.now.right))) c.amounts-in-MaxSize.ensures
    ∙ on_left c.args.filters.now c.args.probe.now c.args.input.now c.args.values.now field.MaxSize (sym c.in-MaxSize.is ∙ c.requires.left)
