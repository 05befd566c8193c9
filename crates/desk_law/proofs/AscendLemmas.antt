-- Names in byte order stand once each.
use Rattle.std.proofs.Common.{◌≡◌, ◌≤◌, ℕ, zero, suc, Bool, true, false, cond, List, [], ◌∷◌, refl, sym, ap, ◌∙◌, subst}
use Rattle.std.proofs.Common.{arith}
use Rattle.std.specs.Prelude.{◌&&◌, bytes_eq, map, Option, None, Some, IfSome}
use Rattle.std.specs.Cmp.Lexicographic.{slice_cmp, nat_list_cmp_total}
use Rattle.std.specs.Ordering.{is_lt, nat_cmp, ordering_reverse}
use Rattle.std.specs.declared.cmp.Ordering.{Ordering}
use Rattle.std.specs.declared.cmp.Ordering.TheVariants.{Less, Equal, Greater}
use Rattle.acs_tree.specs.declared.kind.Kind.TheVariants.{StorGrp}
use Rattle.sms_construct.specs.Configuration.{Configuration, IsConfiguration, are_ascending, is_before}
use Rattle.sms_construct.specs.declared.storage_group.StorGroup.{StorGroup}
use Rattle.sms_construct.specs.declared.volume.VolumeDef.{VolumeDef}
use Rattle.desk_law.specs.Volumes.{groups_in, times_group, times_volume, volumes_in}
use Rattle.desk_law.proofs.ByteLemmas.{same-bytes}

less-is : (o : Ordering) → is_lt o ≡ true → o ≡ Less
less-is Less is = refl
less-is Equal is = absurd cc
less-is Greater is = absurd cc

both : (a b : Bool) → (a && b) ≡ true → (a ≡ true) × (b ≡ true)
both true b is = (refl, is)
both false b is = absurd cc

-- each of the names stands behind this one
abbrev pub AreBehind : List ℕ → List (List ℕ) → Type 0
AreBehind name [] = Unit {0}
AreBehind name (other ∷ others) = (slice_cmp nat_cmp name other ≡ Less) × AreBehind name others

behind-earlier : (name earlier : List ℕ) (others : List (List ℕ)) → slice_cmp nat_cmp earlier name ≡ Less → AreBehind name others → AreBehind earlier others
behind-earlier name earlier [] less all = tt
behind-earlier name earlier (other ∷ others) less all = (nat_list_cmp_total.trans earlier name other less all.0, behind-earlier name earlier others less all.1)

pub behind-ascending : (name : List ℕ) (others : List (List ℕ)) → are_ascending (name ∷ others) ≡ true → AreBehind name others
behind-ascending name [] is = tt
behind-ascending name (other ∷ others) is =
    let parts = both (is_lt (slice_cmp nat_cmp name other)) (are_ascending (other ∷ others)) is in
    let less = less-is (slice_cmp nat_cmp name other) parts.0 in
    (less, behind-earlier other name others less (behind-ascending other others parts.1))

pub ascending-rest : (name : List ℕ) (others : List (List ℕ)) → are_ascending (name ∷ others) ≡ true → are_ascending others ≡ true
ascending-rest name others is = (both (is_before name others) (are_ascending others) is).1

less-off-at : (a b : List ℕ) (c : Bool) → bytes_eq b a ≡ c → slice_cmp nat_cmp a b ≡ Less → bytes_eq b a ≡ false
less-off-at a b true is less =
    let own : slice_cmp nat_cmp a a ≡ Less = subst (λ (n : List ℕ). slice_cmp nat_cmp a n ≡ Less) (same-bytes b a is) less in
    let turned : slice_cmp nat_cmp a a ≡ ordering_reverse (slice_cmp nat_cmp a a) = nat_list_cmp_total.antisymm a a in
    let bad : Less ≡ Greater = sym own ∙ (turned ∙ ap ordering_reverse own) in absurd cc
less-off-at a b false is less = is

less-off : (a b : List ℕ) → slice_cmp nat_cmp a b ≡ Less → bytes_eq b a ≡ false
less-off a b less = less-off-at a b _ refl less

none-behind : (name : List ℕ) (volumes : List VolumeDef) → AreBehind name (map (λ (v : VolumeDef). v.volser) volumes) → times_volume name volumes ≡ 0
none-behind name [] all = refl
none-behind name (v ∷ volumes) all =
    let off : cond (bytes_eq v.volser name) 1 zero ≡ zero = rw (less-off name v.volser all.0) refl in
    omega (arith, off, none-behind name volumes all.1)

once-at : (name : List ℕ) (v : VolumeDef) (volumes : List VolumeDef) (b : Bool) → bytes_eq v.volser name ≡ b → AreBehind v.volser (map (λ (w : VolumeDef). w.volser) volumes)
    → times_volume name volumes ≤ 1 → times_volume name (v ∷ volumes) ≤ 1
once-at name v volumes true is all rest =
    let one : cond (bytes_eq v.volser name) 1 zero ≡ suc zero = rw is refl in
    let none : times_volume name volumes ≡ 0 = subst (λ (n : List ℕ). times_volume n volumes ≡ 0) (same-bytes v.volser name is) (none-behind v.volser volumes all) in
    omega (arith, one, none)
once-at name v volumes false is all rest =
    let off : cond (bytes_eq v.volser name) 1 zero ≡ zero = rw is refl in
    omega (arith, off, rest)

pub volumes-once : (name : List ℕ) (volumes : List VolumeDef) → are_ascending (map (λ (v : VolumeDef). v.volser) volumes) ≡ true → times_volume name volumes ≤ 1
volumes-once name [] is = omega arith
volumes-once name (v ∷ volumes) is =
    once-at name v volumes _ refl (behind-ascending v.volser (map (λ (w : VolumeDef). w.volser) volumes) is) (volumes-once name volumes (ascending-rest v.volser (map (λ (w : VolumeDef). w.volser) volumes) is))

no-group-behind : (name : List ℕ) (groups : List StorGroup) → AreBehind name (map (λ (g : StorGroup). g.name) groups) → times_group name groups ≡ 0
no-group-behind name [] all = refl
no-group-behind name (g ∷ groups) all =
    let off : cond (bytes_eq g.name name) 1 zero ≡ zero = rw (less-off name g.name all.0) refl in
    omega (arith, off, no-group-behind name groups all.1)

group-once-at : (name : List ℕ) (g : StorGroup) (groups : List StorGroup) (b : Bool) → bytes_eq g.name name ≡ b → AreBehind g.name (map (λ (h : StorGroup). h.name) groups)
    → times_group name groups ≤ 1 → times_group name (g ∷ groups) ≤ 1
group-once-at name g groups true is all rest =
    let one : cond (bytes_eq g.name name) 1 zero ≡ suc zero = rw is refl in
    let none : times_group name groups ≡ 0 = subst (λ (n : List ℕ). times_group n groups ≡ 0) (same-bytes g.name name is) (no-group-behind g.name groups all) in
    omega (arith, one, none)
group-once-at name g groups false is all rest =
    let off : cond (bytes_eq g.name name) 1 zero ≡ zero = rw is refl in
    omega (arith, off, rest)

pub groups-once : (name : List ℕ) (groups : List StorGroup) → are_ascending (map (λ (g : StorGroup). g.name) groups) ≡ true → times_group name groups ≤ 1
groups-once name [] is = omega arith
groups-once name (g ∷ groups) is =
    group-once-at name g groups _ refl (behind-ascending g.name (map (λ (h : StorGroup). h.name) groups) is) (groups-once name groups (ascending-rest g.name (map (λ (h : StorGroup). h.name) groups) is))

-- in the active configuration
pub active-volume-once : (active : Option Configuration) (name : List ℕ) → IfSome active IsConfiguration → times_volume name (volumes_in active) ≤ 1
active-volume-once None name is = omega arith
active-volume-once (Some config) name is = volumes-once name config.volumes is.volsers

pub active-group-once : (active : Option Configuration) (name : List ℕ) → IfSome active IsConfiguration → times_group name (groups_in active) ≤ 1
active-group-once None name is = omega arith
active-group-once (Some config) name is = groups-once name config.groups (is.names StorGrp)
