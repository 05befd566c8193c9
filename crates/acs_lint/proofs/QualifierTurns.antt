-- The turns of a walk of a mask over the qualifiers of another.
use Rattle.std.proofs.Common.{◌≡◌, ◌<◌, ℕ, true, false, List, [], ◌∷◌, length, ap, subst, arith}
use Rattle.dsn_mask.specs.MaskTest.{is_two_stars}
use Rattle.acs_trace.specs.Lint.{qualifier_covers}
use Rattle.acs_lint.specs.Inner.Fronts.{qualifiers_cover}
use Rattle.dsn_mask.proofs.Greedy.{Walk, walk_first, walk_star, walk_pair, walk_back, walk_stuck, walk_ends}
use Rattle.dsn_mask.proofs.Turns.{cost, star_less}

abbrev pub QualifierWalk : List (List ℕ) → List (List ℕ) → List (List ℕ) → List (List ℕ) → List (List ℕ) → List (List ℕ) → Type 0
QualifierWalk mask text ps xs qs ys = Walk is_two_stars qualifier_covers mask text ps xs qs ys

pub first_step : (mask text : List (List ℕ)) → QualifierWalk mask text mask text mask []
first_step mask text = walk_first is_two_stars qualifier_covers mask text

pub stars_step : {mask text ps xs qs ys rest : List (List ℕ)} → QualifierWalk mask text ps xs qs ys → (p : List ℕ) × (is_two_stars p ≡ true) × (ps ≡ p ∷ rest) → QualifierWalk mask text rest xs rest xs
stars_step {mask} {text} {ps} {xs} {qs} {ys} {rest} w m = walk_star (subst (λ z. QualifierWalk mask text z xs qs ys) m.2 w) m.1

pub pair_step : {mask text ps xs qs ys rest others : List (List ℕ)} → QualifierWalk mask text ps xs qs ys → (p : List ℕ) × (b : List ℕ) × (is_two_stars p ≡ false) × (qualifier_covers p b ≡ true) × (ps ≡ p ∷ rest) × (xs ≡ b ∷ others) → QualifierWalk mask text rest others qs ys
pair_step {mask} {text} {ps} {xs} {qs} {ys} {rest} {others} w m =
    walk_pair (subst (λ z. QualifierWalk mask text (m.0 ∷ rest) z qs ys) m.5 (subst (λ z. QualifierWalk mask text z xs qs ys) m.4 w)) m.2 m.3

pub back_step : {mask text ps xs qs ys others : List (List ℕ)} (y : List ℕ) → QualifierWalk mask text ps xs qs ys → qualifiers_cover ps xs ≡ false → ys ≡ y ∷ others → QualifierWalk mask text qs others qs others
back_step {mask} {text} {ps} {xs} {qs} {ys} {others} y w e h = walk_back (subst (λ z. QualifierWalk mask text ps xs qs z) h w) e

pub stuck_step : {mask text ps xs qs ys : List (List ℕ)} → QualifierWalk mask text ps xs qs ys → qualifiers_cover ps xs ≡ false → ys ≡ [] → qualifiers_cover mask text ≡ false
stuck_step {mask} {text} {ps} {xs} {qs} {ys} w e h = walk_stuck (subst (λ z. QualifierWalk mask text ps xs qs z) h w) e

pub end_step : {mask text ps xs qs ys : List (List ℕ)} → QualifierWalk mask text ps xs qs ys → (ps ≡ []) × (xs ≡ []) → qualifiers_cover mask text ≡ true
end_step {mask} {text} {ps} {xs} {qs} {ys} w m = walk_ends (subst (λ z. QualifierWalk mask text [] z qs ys) m.1 (subst (λ z. QualifierWalk mask text z xs qs ys) m.0 w))

pub stars_smaller : {mask text ps xs qs ys rest : List (List ℕ)} → QualifierWalk mask text ps xs qs ys → (p : List ℕ) × (is_two_stars p ≡ true) × (ps ≡ p ∷ rest) → cost (length mask) (length text) (length rest) (length xs) (length rest) < cost (length mask) (length text) (length qs) (length ys) (length ps)
stars_smaller {mask} {text} {ps} {xs} {qs} {ys} {rest} w m =
    star_less (length mask) (length text) (length rest) (length qs) (length xs) (length ys) (length ps) (omega (arith, ap length m.2)) w.no_longer w.text_left

-- what a walk over qualifiers needs of these
pub ruleset qualifier_steps = (first_step, stars_step, pair_step, back_step, stuck_step, end_step)
