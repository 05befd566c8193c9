use Rattle.std.proofs.Common.{◌∙◌, ap}
use Rattle.acs_tree.specs.Compares.{compares}
use Rattle.acs_tree.specs.Value.{Value}
use Rattle.acs_code.specs.Machine.{right_comparand}
use Rattle.acs_run.proofs.VariableLemmas.{on_left}
use Rattle.acs_run.proofs.compare.value_holds.Goals as goal

pub returns : goal.returns
returns c =
    c.compares.ensures ∙ ap (λ (held : Value). compares c.args.input.now c.args.values.now c.args.probe.now.op held (right_comparand c.args.filters.now c.args.probe.now.right)) c.value-left.ensures
    ∙ on_left c.args.filters.now c.args.probe.now c.args.input.now c.args.values.now c.args.left c.requires
