-- What came before goes on.
use Rattle.std.proofs.Common.{◌≡◌, [], rules, arith}
use Rattle.std.proofs.lemmas.Grind.{common_steps}
use Rattle.serve_poll.proofs.VisitorLaws.{hears_on, hears_still, never_held, room_waits}
use Rattle.serve_poll.proofs.visitor.go_on.Goals as goal

pub returns-then-not-is_empty-clause-hears : goal.returns-then-not-is_empty-clause-hears
returns-then-not-is_empty-clause-hears g c = λ wire. hears_still _ _ _ wire _

pub returns-in-Full-clause-hears : goal.returns-in-Full-clause-hears
returns-in-Full-clause-hears g c = λ wire.
    let sent : c.args.conversation.now.due ≡ [] = first_of (search rules, grind (arith, common_steps)) in
    hears_on _ _ _ _ wire c.args.conversation.now _ sent c.resume.ensures

pub returns-in-Full-clause-gone : goal.returns-in-Full-clause-gone
returns-in-Full-clause-gone g c = λ none full. never_held _ _ _ _ c.args.conversation.now _ c.requires c.resume.ensures none full

pub returns-in-Full-clause-room : goal.returns-in-Full-clause-room
returns-in-Full-clause-room g c = λ none waits. room_waits _ _ _ _ c.args.conversation.now _ c.requires c.resume.ensures none waits

pub returns-in-Waits-clause-hears : goal.returns-in-Waits-clause-hears
returns-in-Waits-clause-hears g c = λ wire. hears_still _ _ _ wire _
