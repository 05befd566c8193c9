-- With what is left, the text is the whole.
use Rattle.std.proofs.Common.{◌≡◌, ◌++◌, false, length}
use Rattle.serde_json.specs.Written.{items_text}
use Rattle.page_text.specs.TrackBodies.{gap_values}
use Rattle.page_text.proofs.tracks_page.push_gaps.Given as goal

abbrev pub invariant-loop-rest : goal.invariant-loop-rest
invariant-loop-rest l = l.text.items ++ items_text l.later (gap_values l.rest) ≡ l.fn.text.items ++ items_text false (gap_values l.fn.gaps)

abbrev pub decreases-loop-rest : goal.decreases-loop-rest
decreases-loop-rest l = length l.rest
