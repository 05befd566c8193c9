-- The texts of the fields that were gone over.
use Rattle.std.proofs.Common.{◌≡◌, map, take}
use Rattle.flat_records.specs.Records.{named_of, texts_of}
use Rattle.flat_records.proofs.csv_form.texts_of.Given as goal

abbrev pub invariant-loop-field : goal.invariant-loop-field
invariant-loop-field l = l.texts.items ≡ texts_of (map named_of (take l.field-index l.fields))
