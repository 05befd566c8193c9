-- With what is left, the text is the whole.
use Rattle.std.proofs.Common.{◌≡◌, ◌++◌, false, length, map}
use Rattle.serde_json.specs.Written.{items_text}
use Rattle.page_text.specs.PageBodies.{set_values}
use Rattle.page_text.proofs.set_page.push_sets.Given as goal

abbrev pub invariant-loop-rest : goal.invariant-loop-rest
invariant-loop-rest l = l.text.items ++ items_text l.later (set_values (map (λ set. set.now) l.rest)) ≡ l.fn.text.items ++ items_text false (set_values (map (λ set. set.now) l.fn.sets))

abbrev pub decreases-loop-rest : goal.decreases-loop-rest
decreases-loop-rest l = length l.rest
