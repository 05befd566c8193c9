-- The lines of codes with their numbers.
use Rattle.std.proofs.Common.{◌≡◌, ◌+◌, ◌<◌, ℕ, List, ◌++◌, length, get_or, take, sym, ap, ◌∙◌, arith}
use Rattle.std.specs.Prelude.{flat_map, map}
use Rattle.std.proofs.lemmas.List.{flat_map_more, get_or-map, length-map, map_more}
use Rattle.desk_generator.specs.Summary.{count_line}

-- the line of one code more
pub line_more : {X : Type 0} (v : X → List ℕ) (f : List ℕ → ℕ) (before text after : List ℕ) (all : List X) (times : List ℕ) (place : ℕ) (d : X)
    → place < length all → times ≡ map f (map v all)
    → text ≡ before ++ flat_map (λ code. count_line code (f code)) (map v (take place all))
    → after ≡ text ++ count_line (v (get_or all place d)) (get_or times place 0)
    → after ≡ before ++ flat_map (λ code. count_line code (f code)) (map v (take (place + 1) all))
line_more v f before text after all times place d inside are so_far pushed =
    pushed ∙ ap (λ (bytes : List ℕ). bytes ++ count_line (v (get_or all place d)) (get_or times place 0)) so_far
    ∙ ap (λ (n : ℕ). (before ++ flat_map line (map v (take place all))) ++ count_line (v (get_or all place d)) n) number
    ∙ flat_map_more line before (map v (take place all)) (v (get_or all place d))
    ∙ ap (λ (cs : List (List ℕ)). before ++ flat_map line cs) (sym (map_more v all place d inside))
  where
    line : List ℕ → List ℕ
    line code = count_line code (f code)

    within : place < length (map v all)
    within = omega (arith, inside, length-map all v)

    number : get_or times place 0 ≡ f (v (get_or all place d))
    number = ap (λ (ns : List ℕ). get_or ns place 0) are ∙ get_or-map f (map v all) place (v d) 0 within ∙ ap f (get_or-map v all place d (v d) inside)
