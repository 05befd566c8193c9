use Rattle.std.proofs.Common.{◌≡◌, ◌≤◌, ◌+◌, drop}
use Rattle.acs_places.specs.Places.{behind_all}
use Rattle.acs_places.proofs.place.Place.behind.Given as goal

abbrev pub invariant-loop-byte : goal.invariant-loop-byte
invariant-loop-byte l = record {
  line : l.place.line ≤ l.initial.place.line + l.byte-index;
  column : l.place.column ≤ l.initial.place.column + l.byte-index;
  place : behind_all l.place (drop l.byte-index l.bytes) ≡ behind_all l.initial.place l.bytes;
}
