use Rattle.std.proofs.Common.{◌≡◌, true}
use Rattle.dsn_mask.specs.MaskFault.{is_clear_below}
use Rattle.dsn_mask.proofs.mask_fault.first_fault.Given as goal

abbrev pub invariant-loop-at : goal.invariant-loop-at
invariant-loop-at l = is_clear_below l.dotted l.bytes l.at ≡ true
