-- The figures are the JSON.
use Rattle.std.proofs.Common.{◌++◌, ◌∙◌, ap}
use Rattle.page_text.proofs.PieceLemmas.{group_is}
use Rattle.page_text.proofs.group_page.push_group.Goals as goal

pub returns : goal.returns
returns c = c.in_ok-push_figures.ensures ∙ ap (λ l. c.args.text.now.items ++ l) (group_is c.args.row.now)
