-- Written lines that are equal.
use Rattle.std.proofs.Common.{◌≡◌, Bool, List, Decides}
use Rattle.std.specs.Cmp.Lexicographic.{pointwise}
use Rattle.std.proofs.lemmas.Slice.Eq.{slice_eq-Decides}
use Rattle.acs_tree.specs.declared.line.Line.{Line}

-- two lists of lines are compared line by line
pub lines_decided : {E : Line → Line → Bool} (result : Bool) (one other : List Line) → result ≡ pointwise E one other → ((a b : Line) → Decides (E a b) (a ≡ b)) → Decides result (one ≡ other)
lines_decided result one other said decides = slice_eq-Decides decides one other result said
