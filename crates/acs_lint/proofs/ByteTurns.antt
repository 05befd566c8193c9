-- The turns of a walk of a piece over the bytes of another.
use Rattle.std.proofs.Common.{◌≡◌, ◌<◌, ℕ, true, false, List, [], ◌∷◌, length, ap, subst, arith}
use Rattle.dsn_mask.specs.MaskTest.{is_star}
use Rattle.acs_trace.specs.Lint.{covers_byte, piece_covers}
use Rattle.dsn_mask.proofs.Greedy.{Walk, walk_first, walk_star, walk_pair, walk_back, walk_stuck, walk_ends}
use Rattle.dsn_mask.proofs.Turns.{cost, star_less}

abbrev pub ByteWalk : List ℕ → List ℕ → List ℕ → List ℕ → List ℕ → List ℕ → Type 0
ByteWalk mask text ps xs qs ys = Walk is_star covers_byte mask text ps xs qs ys

pub first_turn : (mask text : List ℕ) → ByteWalk mask text mask text mask []
first_turn mask text = walk_first is_star covers_byte mask text

pub star_turn : {mask text ps xs qs ys rest : List ℕ} → ByteWalk mask text ps xs qs ys → (p : ℕ) × (is_star p ≡ true) × (ps ≡ p ∷ rest) → ByteWalk mask text rest xs rest xs
star_turn {mask} {text} {ps} {xs} {qs} {ys} {rest} w m = walk_star (subst (λ z. ByteWalk mask text z xs qs ys) m.2 w) m.1

pub pair_turn : {mask text ps xs qs ys rest others : List ℕ} → ByteWalk mask text ps xs qs ys → (p : ℕ) × (b : ℕ) × (is_star p ≡ false) × (covers_byte p b ≡ true) × (ps ≡ p ∷ rest) × (xs ≡ b ∷ others) → ByteWalk mask text rest others qs ys
pair_turn {mask} {text} {ps} {xs} {qs} {ys} {rest} {others} w m =
    walk_pair (subst (λ z. ByteWalk mask text (m.0 ∷ rest) z qs ys) m.5 (subst (λ z. ByteWalk mask text z xs qs ys) m.4 w)) m.2 m.3

pub back_turn : {mask text ps xs qs ys others : List ℕ} (y : ℕ) → ByteWalk mask text ps xs qs ys → piece_covers ps xs ≡ false → ys ≡ y ∷ others → ByteWalk mask text qs others qs others
back_turn {mask} {text} {ps} {xs} {qs} {ys} {others} y w e h = walk_back (subst (λ z. ByteWalk mask text ps xs qs z) h w) e

pub stuck_turn : {mask text ps xs qs ys : List ℕ} → ByteWalk mask text ps xs qs ys → piece_covers ps xs ≡ false → ys ≡ [] → piece_covers mask text ≡ false
stuck_turn {mask} {text} {ps} {xs} {qs} {ys} w e h = walk_stuck (subst (λ z. ByteWalk mask text ps xs qs z) h w) e

pub end_turn : {mask text ps xs qs ys : List ℕ} → ByteWalk mask text ps xs qs ys → (ps ≡ []) × (xs ≡ []) → piece_covers mask text ≡ true
end_turn {mask} {text} {ps} {xs} {qs} {ys} w m = walk_ends (subst (λ z. ByteWalk mask text [] z qs ys) m.1 (subst (λ z. ByteWalk mask text z xs qs ys) m.0 w))

pub star_smaller : {mask text ps xs qs ys rest : List ℕ} → ByteWalk mask text ps xs qs ys → (p : ℕ) × (is_star p ≡ true) × (ps ≡ p ∷ rest) → cost (length mask) (length text) (length rest) (length xs) (length rest) < cost (length mask) (length text) (length qs) (length ys) (length ps)
star_smaller {mask} {text} {ps} {xs} {qs} {ys} {rest} w m =
    star_less (length mask) (length text) (length rest) (length qs) (length xs) (length ys) (length ps) (omega (arith, ap length m.2)) w.no_longer w.text_left

-- what a walk over bytes needs of these
pub ruleset byte_turns = (first_turn, star_turn, pair_turn, back_turn, stuck_turn, end_turn)
