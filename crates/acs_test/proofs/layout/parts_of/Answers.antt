use Rattle.std.proofs.Common.{◌∙◌, List, ℕ, Ok, ap}
use Rattle.acs_test.specs.Layout.{Parts}
use Rattle.acs_test.specs.Inner.Parts.{block_seen, numbered_in}
use Rattle.acs_test.proofs.LayoutLemmas.{lines_whole, parts_found}
use Rattle.acs_test.proofs.layout.parts_of.Goals as goal

pub returns-clause-parts : goal.returns-clause-parts
returns-clause-parts c =
    let before = block_seen c.in_ok-before.before in
    let after = block_seen c.in_ok-after.after in
    parts_found c.args.bytes.now (numbered_in c.in_ok-first.first) before (numbered_in c.in_ok-second.second) after (numbered_in c.in_ok-third.third)
    c.in_ok-first.ensures.behind c.in_ok-before.ensures.block c.in_ok-second.ensures.behind c.in_ok-after.ensures.block c.in_ok-third.ensures.behind
    ∙ ap (λ (table : List ℕ). let parts : Parts = record { before = before.deck; after = after.deck; table = table } in Ok parts) (lines_whole c.in_ok-third.third.text.now)
