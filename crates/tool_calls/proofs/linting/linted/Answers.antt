-- What is told is of the deck.
use Rattle.std.proofs.Common.{ℕ, List, ap, ◌∙◌, subst}
use Rattle.sms_lint.specs.Linting.{IsLintOf}
use Rattle.tool_calls.specs.ToolText.{lint_status}
use Rattle.tool_calls.proofs.AnswerLemmas.{linted_told}
use Rattle.tool_calls.proofs.linting.linted.Goals as goal

pub returns-in-Shown : goal.returns-in-Shown
returns-in-Shown c =
    let found = c.in-Shown.found in
    let shown = rw c.in-Shown.is at c.in_ok-found.ensures in
    let is = subst (λ (deck : List ℕ). IsLintOf deck found) (c.in_ok-deck.ensures ∙ c.from_vec.ensures) shown in
    linted_told is (c.lint_status-status.ensures ∙ ap (λ (findings : ℕ). lint_status c.args.fail findings) c.len.ensures) c.in_ok-text-in-Shown.ensures
