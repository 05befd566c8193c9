-- The parts of volumes are their JSON.
use Rattle.std.proofs.Common.{◌≡◌, ◌≤◌, ◌-◌, ◌++◌, ◌∷◌, [], ◌∙◌, ℕ, Bool, List, ap, append_assoc, arith, drop, get_or, length, refl, suc, sym, take, true}
use Rattle.std.proofs.lemmas.List.{take_all}
use Rattle.json.specs.Print.{escape_byte}
use Rattle.serde_json.specs.Written.{comma_if, items_text}
use Rattle.store_report.specs.VolumesJson.{volume_body, volume_values, volumes_body}
use Rattle.store_report.specs.Inner.VolumePieces.{volume_figures, volume_measures, volume_names, volumes_piece}
use Rattle.store_report.specs.declared.listed_volume.ListedVolume.{ListedVolume}

pub volume_is : (volume : ListedVolume) → volume_names volume ++ (volume_figures volume ++ volume_measures volume) ≡ volume_body volume
unfolding escape_byte
volume_is volume = simp append_assoc refl

pub volumes_are : (volumes : List ListedVolume) → volumes_piece volumes ≡ volumes_body volumes
unfolding escape_byte
volumes_are volumes = refl

-- the first volume stands before the others
pub first_of_left : (left : List ListedVolume) (volume : ListedVolume) → 1 ≤ length left → volume ≡ get_or left 0 volume → left ≡ volume ∷ take (length left - 1) (drop 1 left)
first_of_left [] volume some is = absurd (omega (arith, some))
first_of_left (first ∷ others) volume some is =
    let count : suc (length others) - 1 ≡ length others = omega arith in
    let all : take (suc (length others) - 1) others ≡ others = rw count (take_all (length others) others (omega arith)) in
    ap (λ (v : ListedVolume). v ∷ others) (sym is) ∙ ap (λ (l : List ListedVolume). volume ∷ l) (sym all)

-- a volume more is written
pub volume_more : (left others : List ListedVolume) (volume : ListedVolume) (later : Bool) (before between behind whole : List ℕ) → left ≡ volume ∷ others
    → between ≡ before ++ comma_if later → behind ≡ between ++ volume_body volume → before ++ items_text later (volume_values left) ≡ whole
    → behind ++ items_text true (volume_values others) ≡ whole
volume_more left others volume later before between behind whole shape comma one is =
    let rest = items_text true (volume_values others) in
    ap (λ l. l ++ rest) (one ∙ ap (λ l. l ++ volume_body volume) comma)
    ∙ append_assoc (before ++ comma_if later) (volume_body volume) rest
    ∙ append_assoc before (comma_if later) (volume_body volume ++ rest)
    ∙ ap (λ l. before ++ items_text later (volume_values l)) (sym shape) ∙ is
