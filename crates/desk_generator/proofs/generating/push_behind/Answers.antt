use Rattle.std.proofs.Common.{◌+◌, List, arith, ap, ◌∙◌, get_or, length}
use Rattle.sms_script.specs.declared.item.Item.{Item}
use Rattle.desk_generator.proofs.GeneratedLemmas.{behind}
use Rattle.desk_generator.proofs.generating.push_behind.Goals as goal

pub returns : goal.returns
returns c = λ seed drew are.
    c.in_ok-push_item.ensures
    ∙ behind seed c.args.place c.args.drawn c.args.items.now c.index-as_slice-place.result c.in_ok-request.request (length c.args.items.now + 1)
    (c.index-as_slice-place.is ∙ ap (λ (xs : List Item). get_or xs c.args.place c.index-as_slice-place.result) c.as_slice.ensures) c.in_ok-request.ensures (omega (arith, c.requires.last)) drew are
