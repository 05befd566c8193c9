use Rattle.std.proofs.Common.{◌≡◌, ◌≤◌, ◌∷◌, [], length}
use Rattle.desk_common.specs.Words.{words_of}
use Rattle.desk_common.proofs.cutting.next_word.Given as goal

-- the words of the rest are those of the text
abbrev pub invariant-loop-rest : goal.invariant-loop-rest
invariant-loop-rest l = (words_of (l.blank ∷ []) l.rest ≡ words_of (l.blank ∷ []) l.text) × (length l.rest ≤ length l.text)

abbrev pub decreases-loop-rest : goal.decreases-loop-rest
decreases-loop-rest l = length l.rest
