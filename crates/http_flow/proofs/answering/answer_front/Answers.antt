-- One question more, and why it goes no further.
use Rattle.std.proofs.Common.{◌∙◌, arith, inl, inr, sym}
use Rattle.http_flow.proofs.FrontLaws.{rest_next, answered_more, front_last, front_memory, front_full}
use Rattle.http_flow.proofs.answering.answer_front.Goals as goal

pub loop-alloc-preserved : goal.loop-alloc-preserved
loop-alloc-preserved g c =
    answered_more _ _ _ _ _ _ _ _ _ _ c.loop-alloc.invariant c.in-On.len (omega arith) (rest_next _ _ _ _ c.args.buffer.now _ _ c.loop-alloc.at _ c.in-On.ensures)

pub returns-in-Last : goal.returns-in-Last
returns-in-Last g c =
    front_last _ _ _ _ _ _ _ _ _ _ c.loop-alloc.invariant (omega arith) (rest_next _ _ _ _ c.args.buffer.now _ _ c.loop-alloc.at _ c.in-Last.ensures)

pub returns-in-NoMemory : goal.returns-in-NoMemory
returns-in-NoMemory g c =
    front_memory _ _ _ _ _ _ _ _ _ _ c.loop-alloc.invariant (omega arith) (rest_next _ _ _ _ c.args.buffer.now _ _ c.loop-alloc.at _ c.in-NoMemory.ensures)

pub returns-then-not-has_room : goal.returns-then-not-has_room
returns-then-not-has_room g c = front_full _ _ _ _ _ _ _ _ c.loop-alloc.invariant (inr (sym c.has_room.ensures ∙ c.if-not-has_room.true))

pub returns : goal.returns
returns g c = front_full _ _ _ _ _ _ _ _ c.loop-alloc.invariant (inl (omega arith))
