use Rattle.std.proofs.Common.{◌≡◌, ◌≤◌, length, map, take, drop}
use Rattle.acs_check.specs.Inner.Marks.{is_simple_statement}
use Rattle.acs_check.specs.Inner.Walk.{passed}
use Rattle.acs_check.proofs.checker.body.Given as goal

abbrev pub invariant-loop-index : goal.invariant-loop-index
invariant-loop-index l = record {
  walked : passed l.kind (take l.index l.body) l.best (drop l.index l.body) ≡ passed l.kind (take 0 l.body) l.initial.best l.body;
  marks : take l.marked l.marks ≡ map is_simple_statement (take l.marked l.body);
  few : l.marked ≤ l.index;
  room : l.marked ≤ length l.marks;
}
