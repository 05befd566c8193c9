use Rattle.std.proofs.Common.{◌≡◌, ◌≤◌, List, length, map, drop}
use Rattle.acs_tree.specs.Meaning.{first_of, in_turn, meaning}
use Rattle.acs_tree.specs.Outcome.{Action}
use Rattle.acs_code.specs.Inner.Arms.{arm_of}
use Rattle.acs_code.specs.Compiled.{filters_of}
use Rattle.acs_code.specs.Inner.Upward.{Does}
use Rattle.acs_code.specs.declared.instr.Instr.{Instr}
use Rattle.acs_code.proofs.blocks.+statements.Given as goal

abbrev pub invariant-when_clauses-loop-left : goal.invariant-when_clauses-loop-left
invariant-when_clauses-loop-left l = (l.left ≤ length l.arms) × ((other : Action) (rest : List Instr) → l.end ≡ length rest → Does l.kind (filters_of l.lists) other rest l.initial.code → Does l.kind (filters_of l.lists) (first_of l.subject (map (arm_of l.kind l.lists) (drop l.left l.arms)) other) rest l.code)

abbrev pub decreases-when_clauses-loop-left : goal.decreases-when_clauses-loop-left
decreases-when_clauses-loop-left l = l.left

abbrev pub invariant-block-loop-left : goal.invariant-block-loop-left
invariant-block-loop-left l = (l.left ≤ length l.body) × Does l.kind (filters_of l.lists) (in_turn (map (meaning l.kind l.lists) (drop l.left l.body))) l.initial.code l.code

abbrev pub decreases-block-loop-left : goal.decreases-block-loop-left
decreases-block-loop-left l = l.left
