use Rattle.std.proofs.Common.{◌≡◌, ◌++◌, ℕ, List, take}
use Rattle.std.specs.Prelude.{flat_map, map}
use Rattle.desk_generator.specs.Summary.{count_line}
use Rattle.desk_generator.proofs.summing.push_each.Given as goal

-- the lines of the codes that were gone over
abbrev pub invariant-loop-place : goal.invariant-loop-place
invariant-loop-place l = (times_of : List ℕ → ℕ) → l.times ≡ map times_of (map (λ code. code.now) l.all)
    → l.text.items ≡ l.initial.text.items ++ flat_map (λ code. count_line code (times_of code)) (map (λ code. code.now) (take l.place l.all))
