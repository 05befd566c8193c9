use Rattle.std.proofs.Common.{◌++◌, ℕ, List, codes, ap, ◌∙◌}
use Rattle.sms_explain.proofs.ExplanationLemmas.{in_four}
use Rattle.sms_explain.specs.Explanation.{front_text}
use Rattle.sms_explain.proofs.explaining.push_head.Goals as goal

pub returns : goal.returns
returns c =
    in_four c.args.text.now.items (front_text c.args.item.now) (codes "ALLOC ") c.args.allocation.now.input.dsn (codes "\n")
    c.push_front.new.text.items c.extend_from_slice.new.self.items c.extend_from_slice-2.new.self.items c.extend_from_slice-3.new.self.items
    c.in_ok-push_front.ensures c.in_ok-extend_from_slice.ensures.items
    (c.in_ok-extend_from_slice-2.ensures.items ∙ ap (λ (bytes : List ℕ). c.extend_from_slice.new.self.items ++ bytes) (c.bytes.ensures.bytes ∙ c.dsn.ensures))
    c.in_ok-extend_from_slice-3.ensures.items
