-- The last symbols of pieces, of which one covers the other.
use Rattle.std.proofs.Common.{◌≡◌, ◌&&◌, ◌||◌, ℕ, Bool, true, false, List, [], ◌∷◌, ◌++◌, refl, sym, ap, ◌∙◌, subst}
use Rattle.std.specs.Prelude.{if◌then◌else◌}
use Rattle.dsn_mask.specs.MaskTest.{fits_items, is_empty, is_star, passes_behind, passes_somewhere, takes_first}
use Rattle.acs_trace.specs.Lint.{covers_byte, piece_covers}
use Rattle.acs_lint.proofs.BoolLemmas.{either_of, left_of, never, off_left, off_right, right_of}

module _ (last : ℕ) (plain : is_star last ≡ false) where
  abbrev Fits : List ℕ → List ℕ → Bool
  Fits piece other = fits_items is_star covers_byte piece other

  -- what a symbol asks of what it stands before
  abbrev Asks : Bool → ℕ → List ℕ → List ℕ → Bool
  Asks star symbol piece other = if star then passes_somewhere (Fits piece) other else takes_first (covers_byte symbol) (Fits piece) other

  at_end : (other : List ℕ) → Fits (last ∷ []) other ≡ true → takes_first (covers_byte last) is_empty other ≡ true
  at_end other h = subst (λ (star : Bool). Asks star last [] other ≡ true) plain h

  none_left : {Q : Type 0} (piece : List ℕ) → Fits (piece ++ last ∷ []) [] ≡ true → Q
  none_left [] h = never (at_end [] h)
  none_left {Q} (symbol ∷ piece) h = step (λ f. none_left {Q = Q} piece f) (is_star symbol) h
    where
      step : (Fits (piece ++ last ∷ []) [] ≡ true → Q) → (star : Bool) → Asks star symbol (piece ++ last ∷ []) [] ≡ true → Q
      step go true g = either_of (Fits (piece ++ last ∷ []) []) false g go (λ f. never f)
      step go false g = never g

  not_empty : {Q : Type 0} (other : List ℕ) (byte : ℕ) → is_empty (other ++ byte ∷ []) ≡ true → Q
  not_empty [] byte h = never h
  not_empty (x ∷ other) byte h = never h

  module _ (byte : ℕ) where
    -- where the rest of a piece covers something, its last symbol covers the last one
    abbrev Ends : List ℕ → Type 0
    Ends piece = (other : List ℕ) → Fits (piece ++ last ∷ []) (other ++ byte ∷ []) ≡ true → covers_byte last byte ≡ true

    behind_ends : (piece : List ℕ) → Ends piece → (other : List ℕ) → passes_behind (Fits (piece ++ last ∷ [])) (other ++ byte ∷ []) ≡ true → covers_byte last byte ≡ true
    behind_ends piece go [] h = either_of (Fits (piece ++ last ∷ []) []) false h (none_left piece) (λ f. never f)
    behind_ends piece go (x ∷ other) h =
        either_of (Fits (piece ++ last ∷ []) (other ++ byte ∷ [])) (passes_behind (Fits (piece ++ last ∷ [])) (other ++ byte ∷ [])) h (go other) (behind_ends piece go other)

    first_ends : (symbol : ℕ) (piece : List ℕ) → Ends piece → (other : List ℕ) → takes_first (covers_byte symbol) (Fits (piece ++ last ∷ [])) (other ++ byte ∷ []) ≡ true → covers_byte last byte ≡ true
    first_ends symbol piece go [] h = none_left piece (right_of (covers_byte symbol byte) (Fits (piece ++ last ∷ []) []) h)
    first_ends symbol piece go (x ∷ other) h = go other (right_of (covers_byte symbol x) (Fits (piece ++ last ∷ []) (other ++ byte ∷ [])) h)

    step_ends : (star : Bool) (symbol : ℕ) (piece : List ℕ) → Ends piece → (other : List ℕ) → Asks star symbol (piece ++ last ∷ []) (other ++ byte ∷ []) ≡ true → covers_byte last byte ≡ true
    step_ends true symbol piece go other h =
        either_of (Fits (piece ++ last ∷ []) (other ++ byte ∷ [])) (passes_behind (Fits (piece ++ last ∷ [])) (other ++ byte ∷ [])) h (go other) (behind_ends piece go other)
    step_ends false symbol piece go other h = first_ends symbol piece go other h

    last_ends : Ends []
    last_ends [] h = left_of (covers_byte last byte) true (at_end (byte ∷ []) h)
    last_ends (x ∷ other) h = not_empty other byte (right_of (covers_byte last x) (is_empty (other ++ byte ∷ [])) (at_end (x ∷ (other ++ byte ∷ [])) h))

    pub ends : (piece : List ℕ) → Ends piece
    ends [] other h = last_ends other h
    ends (symbol ∷ piece) other h = step_ends (is_star symbol) symbol piece (ends piece) other h

-- a piece whose last symbol is no star and doesn't cover the last one of another covers it not
pub ends_apart : (piece other rest others : List ℕ) (last byte : ℕ) → piece ≡ rest ++ last ∷ [] → other ≡ others ++ byte ∷ [] → (is_star last || covers_byte last byte) ≡ false → piece_covers piece other ≡ false
ends_apart piece other rest others last byte e f h = cases (piece_covers piece other) refl
  where
    cases : (b : Bool) → piece_covers piece other ≡ b → b ≡ false
    cases false g = refl
    cases true g =
        never (sym (off_right (is_star last) (covers_byte last byte) h) ∙ ends last (off_left (is_star last) (covers_byte last byte) h) byte rest others (sym (ap (λ (p : List ℕ). piece_covers p other) e ∙ ap (piece_covers (rest ++ last ∷ [])) f) ∙ g))
