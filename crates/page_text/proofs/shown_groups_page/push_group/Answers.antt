-- The two parts are the whole.
use Rattle.std.proofs.Common.{◌++◌, ◌∙◌, ap, append_assoc}
use Rattle.page_text.specs.Inner.GroupPieces.{group_front, group_limits}
use Rattle.page_text.proofs.GroupLemmas.{shown_group_is}
use Rattle.page_text.proofs.shown_groups_page.push_group.Goals as goal

pub returns : goal.returns
returns c =
    let it = c.args.group.now in
    let old = c.args.text.now.items in
    c.in_ok-push_limits.ensures ∙ ap (λ l. l ++ group_limits it) c.in_ok-push_sums.ensures ∙ append_assoc old (group_front it.row) (group_limits it) ∙ ap (λ l. old ++ l) (shown_group_is it)
