use Rattle.std.proofs.Common.{◌≡◌, take}
use Rattle.std.specs.Prelude.{map}
use Rattle.desk_generator.specs.Summary.{all_codes, times_answered}
use Rattle.desk_generator.proofs.counting.times_of_all.Given as goal

-- how many of the answers that were gone over have each code
abbrev pub invariant-loop-answer : goal.invariant-loop-answer
invariant-loop-answer l = l.times ≡ map (λ code. times_answered code (take l.answer-index l.answers)) all_codes
