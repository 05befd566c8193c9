use Rattle.std.proofs.Common.{◌≡◌, length, map}
use Rattle.acs_tree.specs.Variables.{look_up}
use Rattle.acs_code.proofs.field.look_up.Given as goal

abbrev pub invariant-loop-rows : goal.invariant-loop-rows
invariant-loop-rows l = look_up (map (λ row. (row.0.now, row.1)) l.rows) l.name ≡ look_up (map (λ row. (row.0.now, row.1)) l.initial.rows) l.name

abbrev pub decreases-loop-rows : goal.decreases-loop-rows
decreases-loop-rows l = length l.rows
