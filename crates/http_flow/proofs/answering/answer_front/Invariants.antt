-- What was answered so far.
use Rattle.std.proofs.Common.{◌-◌, length}
use Rattle.http_flow.specs.Inner.Fronts.{HasAnswered}
use Rattle.http_flow.proofs.answering.answer_front.Given as goal

abbrev pub invariant-loop-alloc : goal.invariant-loop-alloc
invariant-loop-alloc g l = HasAnswered
    (record { port = l.site; refusal = g.C.Pages.refusal }) g.C.Pages.shows
    (record { talks = g.C.Clerk.talks l.initial.clerk; start = g.C.Pages.begun l.initial.clerk })
    (record { talks = g.C.Clerk.talks l.clerk; start = g.C.Pages.begun l.clerk })
    l.buffer l.at l.initial.out.items l.out.items

abbrev pub decreases-loop-alloc : goal.decreases-loop-alloc
decreases-loop-alloc g l = length l.buffer - l.at
