use Rattle.std.proofs.Common.{codes}
use Rattle.sms_simulation.specs.OutcomeText.{outcome_text}
use Rattle.sms_explain.proofs.ExplanationLemmas.{in_three}
use Rattle.sms_explain.specs.Explanation.{front_text}
use Rattle.sms_explain.proofs.explaining.push_end.Goals as goal

pub returns : goal.returns
returns c =
    let classified = c.args.classified.now in
    in_three c.args.text.now.items (front_text c.args.item.now) (outcome_text classified.stop classified.values) (codes "\n")
    c.push_front.new.text.items c.push_outcome.new.text.items c.extend_from_slice.new.self.items
    c.in_ok-push_front.ensures c.in_ok-push_outcome.ensures c.in_ok-extend_from_slice.ensures.items
