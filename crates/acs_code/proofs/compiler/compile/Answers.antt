use Rattle.std.proofs.Common.{◌∙◌, ap}
use Rattle.acs_tree.specs.declared.routine.Routine.{Routine}
use Rattle.acs_code.proofs.Places.{forward_all, same_parts, stands_all}
use Rattle.acs_code.proofs.compiler.compile.Goals as goal

pub seal-requires-clause-forward : goal.seal-requires-clause-forward
seal-requires-clause-forward c =
    let parts = same_parts c.kind-kind.result c.finish-instrs.ensures c.in_ok-filters.ensures in
    forward_all c.args.checked.now c.block.new.code c.kind-kind.result c.in_ok-lists.lists c.as_slice-body.result.now _ c.in_ok-code.code parts c.in_ok-code.ensures c.in_ok-block.ensures

pub returns-clause-stands : goal.returns-clause-stands
returns-clause-stands c =
    let parts = same_parts c.kind-kind.result c.finish-instrs.ensures c.in_ok-filters.ensures in
    stands_all c.args.checked.now c.block.new.code c.kind-kind.result c.in_ok-lists.lists c.as_slice-body.result.now c.seal.result c.in_ok-code.code c.kind-kind.ensures
    (c.as_slice-body.ensures ∙ ap (λ (tree : Routine). tree.body) c.tree.ensures.tree) c.in_ok-lists.ensures (c.seal.ensures ∙ parts) c.in_ok-code.ensures c.in_ok-block.ensures

pub returns-clause-forward : goal.returns-clause-forward
returns-clause-forward c =
    let parts = same_parts c.kind-kind.result c.finish-instrs.ensures c.in_ok-filters.ensures in
    forward_all c.args.checked.now c.block.new.code c.kind-kind.result c.in_ok-lists.lists c.as_slice-body.result.now c.seal.result c.in_ok-code.code (c.seal.ensures ∙ parts) c.in_ok-code.ensures c.in_ok-block.ensures
