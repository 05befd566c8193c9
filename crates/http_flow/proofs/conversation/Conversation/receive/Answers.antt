-- What a piece does.
use Rattle.std.proofs.Common.{rules, ◌≡◌, ◌++◌, ◌∙◌, sym, ap, arith, refl, length, length-append}
use Rattle.std.proofs.lemmas.Grind.{common_steps}
use Rattle.http_flow.specs.Flow.{FlowView}
use Rattle.http_flow.proofs.FlowLaws.{goes_on_wanting, goes_on_short, goes_on_turned, open_waits}
use Rattle.http_flow.proofs.conversation.Conversation.receive.Goals as goal

pub returns-then-is_err : goal.returns-then-is_err
returns-then-is_err g c = goes_on_wanting _ _ _ c.args.self.now _ c.args.piece.now c.requires.room c.requires.waits (ap (λ (v : FlowView). v.due) c.self.view_is) refl (search rules)

pub returns-then-len-self : goal.returns-then-len-self
returns-then-len-self g c =
    let whole : c.extend_from_slice.new.self.items ≡ c.self.inside.buffer.items ++ c.args.piece.now = grind (arith, common_steps) in
    goes_on_short _ _ _ c.args.self.now _ c.args.piece.now c.requires.waits
    (rw whole (ap (λ (v : FlowView). record v { rest = v.rest ++ c.args.piece.now }) c.self.view_is))
    (omega (arith, c.if-len-self.true, c.len.ensures, ap length (whole ∙ ap (λ (v : FlowView). v.rest ++ c.args.piece.now) c.self.view_is), ap (λ (v : FlowView). v.need) c.self.view_is))
    (omega (arith, c.self.invariant.1, ap (λ (v : FlowView). v.need) c.self.view_is))

pub returns : goal.returns
returns g c =
    let whole : c.extend_from_slice.new.self.items ≡ c.self.inside.buffer.items ++ c.args.piece.now = grind (arith, common_steps) in
    goes_on_turned _ _ _ _ c.args.self.now _ c.answer.new.self c.args.piece.now (whole ∙ ap (λ (v : FlowView). v.rest ++ c.args.piece.now) c.self.view_is) (ap (λ (v : FlowView). v.due) c.self.view_is) (λ came taken xs h. open_waits _ came taken xs c.args.self.now c.requires.waits h) c.answer.ensures
