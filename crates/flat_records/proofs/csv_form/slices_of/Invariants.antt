-- The texts that were gone over.
use Rattle.std.proofs.Common.{◌≡◌, map, take}
use Rattle.flat_records.proofs.csv_form.slices_of.Given as goal

abbrev pub invariant-loop-text : goal.invariant-loop-text
invariant-loop-text l = map (λ slice. slice.now) l.slices.items ≡ take l.text-index l.texts
