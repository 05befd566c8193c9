-- What is told of candidates, from its parts.
use Rattle.std.proofs.Common.{◌≡◌, ◌++◌, ℕ, Bool, List, [], ◌∷◌, refl, ap, ap₂, ◌∙◌}
use Rattle.std.specs.Prelude.{◌==◌, flat_map}
use Rattle.sms_explain.proofs.ExplanationLemmas.{in_three}
use Rattle.volume_lists.specs.declared.view.VolView.{VolView}
use Rattle.volume_lists.specs.declared.view.Want.{Want}
use Rattle.volume_reasons.specs.Inner.Turns.{has_turn, turn_text}
use Rattle.volume_reasons.specs.Reasons.{may_be_chosen, none_is_left}
use Rattle.volume_reasons.specs.VolumesText.{asked_text, line_text, none_text, views_text, volume_text}
use Rattle.volume_reasons.specs.declared.turn.Turn.{Turn}

flat-same : {X : Type 0} (f g : X → List ℕ) (xs : List X) → ((x : X) → f x ≡ g x) → flat_map f xs ≡ flat_map g xs
flat-same f g [] same = refl
flat-same f g (x ∷ xs) same = ap₂ (λ (a b : List ℕ). a ++ b) (same x) (flat-same f g xs same)

-- what is asked, the volumes by the earliest turn, and whether there is none
pub views_parts : (views : List VolView) (want : Want) (first : Turn) (last : Bool) (before one two now : List ℕ) → ((view : VolView) → has_turn first want view ≡ may_be_chosen views want view)
    → (first.rank == 4) ≡ none_is_left views want → last ≡ (first.rank == 4) → one ≡ before ++ asked_text want → two ≡ one ++ flat_map (turn_text first want) views → now ≡ two ++ none_text last
    → now ≡ before ++ views_text views want
views_parts views want first last before one two now may none is asked told written =
    let lines : flat_map (turn_text first want) views ≡ flat_map (volume_text views want) views =
    flat-same (turn_text first want) (volume_text views want) views (λ view. ap (line_text want view) (may view)) in
    in_three before (asked_text want) (flat_map (volume_text views want) views) (none_text (none_is_left views want)) one two now asked
    (told ∙ ap (λ (l : List ℕ). one ++ l) lines) (written ∙ ap (λ (b : Bool). two ++ none_text b) (is ∙ none))
