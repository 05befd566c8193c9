use Rattle.std.proofs.Common.{◌≡◌, map, take}
use Rattle.dsn_mask.specs.Quoted.{text_at, texts_of}
use Rattle.dsn_mask.proofs.quoted.sorted_places.Given as goal

abbrev pub invariant-loop-place : goal.invariant-loop-place
invariant-loop-place l = map (text_at l.entries) l.places.items ≡ texts_of (take l.place l.entries)
