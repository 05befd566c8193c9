use Rattle.std.proofs.Common.{◌∙◌, ap, sym}
use Rattle.acs_tree.specs.declared.routine.Operand.{Operand}
use Rattle.acs_tree.specs.Nodes.{Right}
use Rattle.acs_tree.specs.Suits.{is_too_great, is_word_with, token_of}
use Rattle.acs_check.specs.Inner.Walk.{met}
use Rattle.acs_check.proofs.NodeLemmas.{right_at}
use Rattle.acs_check.proofs.nodes.right.Goals as goal

pub returns : goal.returns
returns c =
    let back = sym c.new-item.ensures in
    right_at c.args.kind c.args.before.now c.args.best c.args.left.now c.new-item.result _ _ _ _ _ _ _ _ _ _ _ _ (c.token_of-at.ensures ∙ ap token_of back) c.is_listed-listed.ensures c.is_unknown_indexed.ensures c.is_unsuited-unsuited.ensures
    (c.is_too_great.ensures ∙ ap (λ (operand : Operand). is_word_with (is_too_great c.args.left.now) operand.form) back) c.is_read_early.ensures
    c.note-best.ensures c.unlisted-best.ensures c.note-best-2.ensures c.value_range-best.ensures c.misplaced-best.ensures c.note.ensures
    ∙ ap (λ operand. met c.args.kind c.args.before.now c.args.best (Right c.args.left.now operand)) c.new-item.ensures
