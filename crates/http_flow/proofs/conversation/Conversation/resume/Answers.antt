-- What going on does.
use Rattle.std.proofs.Common.{[], sym, append-nil, refl}
use Rattle.http_flow.proofs.FlowLaws.{goes_on_turned, open_full}
use Rattle.http_flow.proofs.conversation.Conversation.resume.Goals as goal

pub returns : goal.returns
returns g c = goes_on_turned _ _ _ _ c.args.self.now c.args.self.now c.answer.new.self [] (sym (append-nil c.args.self.now.rest)) refl (λ came taken xs h. open_full _ came taken xs c.args.self.now c.requires h) c.answer.ensures
