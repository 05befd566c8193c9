use Rattle.std.proofs.Common.{◌∙◌, ap, sym}
use Rattle.std.specs.Prelude.{bytes_eq}
use Rattle.std.proofs.lemmas.Result.{on_ok_weaker}
use Rattle.acs_tree.specs.Variables.{name_of}
use Rattle.acs_code.proofs.SetLemmas.{set_turn}
use Rattle.acs_code.proofs.sets.set.Goals as goal

pub returns-then-eq : goal.returns-then-eq
returns-then-eq c =
    let same = ap (λ name. bytes_eq name (name_of c.args.kind)) (sym c.bytes.ensures.bytes) ∙ ap (bytes_eq c.bytes.result.now) (sym c.name.ensures) ∙ sym c.if-eq.ensures in
    on_ok_weaker _ (set_turn c.args.kind c.args.target.now c.args.values.now same) c.set_kind.ensures
