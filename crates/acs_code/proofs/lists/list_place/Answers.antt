use Rattle.std.proofs.Common.{◌∙◌, ap, sym}
use Rattle.std.specs.Prelude.{bytes_eq}
use Rattle.acs_code.specs.declared.compiled_list.CompiledList.{CompiledList}
use Rattle.acs_code.proofs.ListLemmas.{place_of}
use Rattle.acs_code.proofs.lists.list_place.Goals as goal

pub returns-then-eq : goal.returns-then-eq
returns-then-eq c =
    place_of c.args.lists.now c.args.name.now c.loop-place.place c.index-lists-place.result c.loop-place-test.true c.index-lists-place.is
    (ap (λ (list : CompiledList). bytes_eq list.name c.args.name.now) c.index-lists-place.is ∙ sym c.if-eq.ensures) c.loop-place.invariant
