use Rattle.std.proofs.Common.{arith, ◌≡◌}
use Rattle.std.proofs.lemmas.Grind.{common_steps}
use Rattle.std.specs.Str.{str_to_ascii_uppercase}
use Rattle.acs_tree.proofs.UpperLemmas.{upper_is_ident}
use Rattle.acs_tree.proofs.ident.raised.Goals as goal

pub invariant_of-result : goal.invariant_of-result
invariant_of-result c =
    let e : c.new.result ≡ str_to_ascii_uppercase c.args.bytes.now = grind (arith, common_steps) in
    upper_is_ident c.new.result c.args.bytes.now e c.requires
