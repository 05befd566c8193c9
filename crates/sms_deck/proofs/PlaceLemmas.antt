-- Volumes that are put at their places.
use Rattle.std.proofs.Common.{◌≡◌, ℕ, List, [], ◌∷◌, ◌++◌, refl, sym, ap}
use Rattle.std.specs.Prelude.{Option, Some, None, codes}
use Rattle.std.specs.Option.{option_and_then}
use Rattle.toml.specs.Data.{Members, get_member, as_table}
use Rattle.dsn_mask.specs.Name.{volser_of}
use Rattle.sms_construct.specs.declared.volume.VolumeDef.{VolumeDef}
use Rattle.deck_meaning.specs.Layout.{or_empty}
use Rattle.deck_meaning.specs.Constructs.{group_volumes, named, volume_of}
use Rattle.deck_meaning.specs.Places.{Places, put_volume, put_volumes}

pub put_append : (places : Places) (xs ys : List VolumeDef) → put_volumes places (xs ++ ys) ≡ put_volumes (put_volumes places xs) ys
put_append places [] ys = refl
put_append places (x ∷ xs) ys = put_append (put_volume places x) xs ys

-- the table of a group's volumes, if there is one
abbrev volumes_at : Option Members → Option Members
volumes_at keys = option_and_then (λ keys. option_and_then as_table (get_member (codes "volume") keys)) keys

pub group_with : (group : List ℕ) (keys : Option Members) (volumes : Members) → Some volumes ≡ volumes_at keys → group_volumes (Some group) keys ≡ named volser_of (volume_of group) volumes
group_with group None volumes e = absurd cc
group_with group (Some keys) volumes e = ap (λ o. named volser_of (volume_of group) (or_empty o)) (sym e)

pub group_without : (group : List ℕ) (keys : Option Members) → None ≡ volumes_at keys → group_volumes (Some group) keys ≡ []
group_without group None e = refl
group_without group (Some keys) e = ap (λ o. named volser_of (volume_of group) (or_empty o)) (sym e)
