-- With the ALLOCs of the cases that are left, the items are all.
use Rattle.std.proofs.Common.{◌≡◌, ◌++◌, length, map}
use Rattle.std.specs.Prelude.{filter}
use Rattle.case_scripts.specs.CaseScripts.{case_item, is_named}
use Rattle.case_scripts.proofs.script.push_cases.Given as goal

abbrev pub invariant-loop-rest : goal.invariant-loop-rest
invariant-loop-rest l = l.items.items ++ map case_item (filter (is_named l.fn.name) l.rest) ≡ l.fn.items.items ++ map case_item (filter (is_named l.fn.name) l.fn.cases)

abbrev pub decreases-loop-rest : goal.decreases-loop-rest
decreases-loop-rest l = length l.rest
