-- The lines that are put are those that the routines wrote.
use Rattle.std.proofs.Common.{◌++◌, ◌∙◌, ℕ, List, ap, codes, false}
use Rattle.serde_json.specs.Written.{items_text}
use Rattle.sms_outcomes.specs.Outcomes.{text_values}
use Rattle.sms_outcomes.proofs.members.push_written.Goals as goal

pub returns : goal.returns
returns c =
    c.in_ok-push_lines.ensures
    ∙ ap (λ (lines : List (List ℕ)). c.args.text.now.items ++ (codes ",\"written\":[" ++ items_text false (text_values lines))) (c.as_slice.ensures ∙ c.in_ok-lines.ensures)
