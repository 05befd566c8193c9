-- Ledgers may go to other threads.
use denote.Param.Send.{IsSend, plain_send, struct_send, recorded_send, view_send}
use denote.Struct.Declared as declared_struct
use Rattle.std.proofs.Crossing.{Box-send, Vec-send}
use Rattle.std.proofs.alloc.Global.TheSendSync as heap_facts
use Rattle.std.specs.contracts.boxed.Box as boxes
use Rattle.std.specs.contracts.alloc.Global as heap
use Rattle.std.specs.contracts.vec.Vec as vec
use Rattle.std.specs.contracts.impls.GlobalAllocator.TheImpl.{ghosts as heap_ghosts}
use Rattle.track_ledger.specs.contracts.tree.Tree as tree
use Rattle.track_ledger.specs.contracts.tree.Node as node
use Rattle.track_ledger.specs.contracts.gap_list.Gaps as gaps
use Rattle.track_ledger.specs.contracts.gap_list.Gaps.TheInside as gaps_inside
use Rattle.track_ledger.specs.contracts.ledger.Ledger as ledger
use Rattle.track_ledger.specs.contracts.ledger.Ledger.TheInside as ledger_inside
use Rattle.track_ledger.proofs.piece.Piece.TheSendSync as piece
use Rattle.track_ledger.proofs.measure.Longest.TheSendSync as longest
use Rattle.track_ledger.proofs.tree.Node.TheLaws.TheKnot as knot

node-send : IsSend node.the_row
node-send = knot.send-Node piece.the_send (plain_send _ _ _ _ _) longest.the_send Box-send

tree-send : IsSend (tree.the_field).row
tree-send = knot.send-Tree Box-send node-send

spares-send : IsSend (vec.the_row (boxes.the_row node.the_row heap.the_row heap_ghosts) heap.the_row heap_ghosts)
spares-send = Vec-send _ (Box-send node.the_row node-send)

gaps-send : IsSend gaps.the_row
gaps-send = view_send gaps_inside.the_row _ _ _ _ (recorded_send (gaps_inside.the_field).row _ _ (gaps_inside.the_type).to_one
    (struct_send (declared_struct.shape gaps_inside.the_type) (heap_facts.the_field_send, (tree-send, (spares-send, tt)))))

pub ledger-send : IsSend ledger.the_row
ledger-send = view_send ledger_inside.the_row _ _ _ _ (recorded_send (ledger_inside.the_field).row _ _ (ledger_inside.the_type).to_one
    (struct_send (declared_struct.shape ledger_inside.the_type) (plain_send _ _ _ _ _, (plain_send _ _ _ _ _, (plain_send _ _ _ _ _, (gaps-send, tt))))))
