-- The bytes that came with those of this read.
use Rattle.std.proofs.Common.{rules, ap, sym}
use Rattle.ready_wires.specs.Memory.{WireInMemory}
use Rattle.ready_wires.proofs.WireLaws.{came_more}
use Rattle.ready_wires.proofs.mem_wire.MemWire.give.Goals as goal

pub returns-clause-came : goal.returns-clause-came
returns-clause-came c = came_more _ c.self.inside.bytes.items c.copy_front-count.new.to c.self.inside.read c.copy_front-count.result (sym (ap (λ (w : WireInMemory). w.seen.came) c.self.view_is)) (search rules)
