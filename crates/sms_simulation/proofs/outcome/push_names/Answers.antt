use Rattle.std.proofs.Common.{◌∷◌, ◌++◌, ℕ, List, sym, ap, ◌∙◌, append_assoc}
use Rattle.std.specs.Prelude.{flat_map}
use Rattle.desk_common.specs.Bytes.{comma}
use Rattle.sms_simulation.proofs.GroupLemmas.{groups_parts}
use Rattle.sms_simulation.proofs.outcome.push_names.Goals as goal

pub returns : goal.returns
returns c =
    let others = flat_map (λ (group : List ℕ). comma ∷ group) c.args.others.now in
    c.in_ok-push_others.ensures
    ∙ ap (λ (text : List ℕ). text ++ others) (c.in_ok-extend_from_slice.ensures.items ∙ ap (λ (bytes : List ℕ). c.args.text.now.items ++ bytes) c.bytes.ensures.bytes)
    ∙ append_assoc c.args.text.now.items c.args.first.now others
    ∙ ap (λ (text : List ℕ). c.args.text.now.items ++ text) (sym (groups_parts c.args.first.now c.args.others.now))
