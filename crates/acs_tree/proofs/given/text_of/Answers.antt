use Rattle.std.proofs.Common.{rules}
use Rattle.acs_tree.proofs.NameLemmas.{name_is_short}
use Rattle.acs_tree.proofs.given.text_of.Goals as goal

-- a name is a value
pub unwrap-requires : goal.unwrap-requires
unwrap-requires c =
    let short = name_is_short c.args.name.now c.bytes.ensures.form in
    search (rules, short)
