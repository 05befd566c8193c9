-- The parts are the JSON.
use Rattle.std.proofs.Common.{◌++◌, ◌∙◌, ℕ, List, ap}
use Rattle.sms_outcomes.specs.Outcomes.{classes_made}
use Rattle.sms_outcomes.proofs.PieceLemmas.{side_is}
use Rattle.sms_outcomes.proofs.members.push_members.Goals as goal

pub returns : goal.returns
returns c =
    c.in_ok-push_parts.ensures ∙ ap (λ (t : List ℕ). c.args.text.now.items ++ t) (side_is (classes_made c.args.made.now c.args.written.now))
