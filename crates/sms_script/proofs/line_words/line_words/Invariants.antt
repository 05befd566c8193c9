use Rattle.std.proofs.Common.{◌≡◌, ◌++◌, ◌∷◌, [], length, map}
use Rattle.desk_common.specs.Words.{words_of}
use Rattle.sms_script.proofs.line_words.line_words.Given as goal

-- the words so far, and those of the rest
abbrev pub invariant-loop-word : goal.invariant-loop-word
invariant-loop-word g l = map (λ word. word.now) l.words.items ++ words_of (32 ∷ []) l.rest ≡ words_of (32 ∷ []) l.line

abbrev pub decreases-loop-word : goal.decreases-loop-word
decreases-loop-word g l = length l.rest
