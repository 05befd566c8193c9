-- One status a target, and extents that stay inside when a configuration becomes active.
use Rattle.std.proofs.Common.{◌≡◌, ◌≤◌, ℕ, ◌+◌, Bool, true, false, cond, List, [], ◌∷◌, ◌++◌, refl, ap, ◌∙◌, arith, inl}
use Rattle.std.proofs.Common.{inr}
use Rattle.std.specs.Prelude.{◌⊎◌, None, Some, find, map, bytes_eq, nat_lt, ◌&&◌}
use Rattle.std.specs.List.{AllByRecursion}
use Rattle.std.proofs.lemmas.Bool.Decides.{nat_tests}
use Rattle.sms_construct.specs.Configuration.{Configuration, IsConfiguration, is_connected}
use Rattle.sms_construct.specs.Status.{status_of_action}
use Rattle.sms_construct.specs.declared.action.Action.{Action}
use Rattle.sms_construct.specs.declared.action.Action.TheVariants.{Enable, Disable, DisableNew, Quiesce, QuiesceNew}
use Rattle.sms_construct.specs.declared.data_set.DataSet.{DataSet}
use Rattle.sms_construct.specs.declared.extent.Extent.{Extent}
use Rattle.sms_construct.specs.declared.status.Status.{Status}
use Rattle.sms_construct.specs.declared.storage_group.StorGroup.{StorGroup}
use Rattle.sms_construct.specs.declared.target.Target.{Target}
use Rattle.sms_construct.specs.declared.target.Target.TheVariants.{Group, Volume, Set}
use Rattle.sms_construct.specs.declared.volume.VolumeDef.{VolumeDef}
use Rattle.sms_keeper.specs.declared.status_row.StatusRow.{StatusRow}
use Rattle.sms_keeper.specs.Tables.{is_status_of, row_with, same_target}
use Rattle.desk_law.specs.State.{DeskState, with_status}
use Rattle.desk_law.specs.Extents.{extents_of, is_used}
use Rattle.desk_law.specs.Statuses.{may_have, status_in, times_status}
use Rattle.desk_law.specs.Volumes.{times_group, times_target, times_volume, tracks_of, volumes_in}
use Rattle.desk_law.specs.Activation.{activated, first_barred, row_of_group, row_of_volume}
use Rattle.desk_law.specs.Lawful.{IsInside, IsLawful, IsLawfulSet}
use Rattle.desk_law.proofs.ByteLemmas.{bytes-self, same-bytes}
use Rattle.desk_law.proofs.GrantLemmas.{used-tail}
use Rattle.desk_law.proofs.SetLemmas.{each-append}

status-append : (target : Target) (a b : List StatusRow) → times_status target (a ++ b) ≡ times_status target a + times_status target b
status-append target [] b = omega arith
status-append target (row ∷ a) b = omega (arith, status-append target a b)

groups-of-group : (n : List ℕ) (present : List StatusRow) (groups : List StorGroup) → times_status (Group n) (map (row_of_group present) groups) ≡ times_group n groups
groups-of-group n present [] = refl
groups-of-group n present (g ∷ groups) = ap (λ m. cond (bytes_eq g.name n) 1 0 + m) (groups-of-group n present groups)

groups-of-volume : (n : List ℕ) (present : List StatusRow) (groups : List StorGroup) → times_status (Volume n) (map (row_of_group present) groups) ≡ 0
groups-of-volume n present [] = refl
groups-of-volume n present (g ∷ groups) = omega (arith, groups-of-volume n present groups)

groups-of-set : (n : List ℕ) (present : List StatusRow) (groups : List StorGroup) → times_status (Set n) (map (row_of_group present) groups) ≡ 0
groups-of-set n present [] = refl
groups-of-set n present (g ∷ groups) = omega (arith, groups-of-set n present groups)

volumes-of-volume : (n : List ℕ) (present : List StatusRow) (volumes : List VolumeDef) → times_status (Volume n) (map (row_of_volume present) volumes) ≡ times_volume n volumes
volumes-of-volume n present [] = refl
volumes-of-volume n present (v ∷ volumes) = ap (λ m. cond (bytes_eq v.volser n) 1 0 + m) (volumes-of-volume n present volumes)

volumes-of-group : (n : List ℕ) (present : List StatusRow) (volumes : List VolumeDef) → times_status (Group n) (map (row_of_volume present) volumes) ≡ 0
volumes-of-group n present [] = refl
volumes-of-group n present (v ∷ volumes) = omega (arith, volumes-of-group n present volumes)

volumes-of-set : (n : List ℕ) (present : List StatusRow) (volumes : List VolumeDef) → times_status (Set n) (map (row_of_volume present) volumes) ≡ 0
volumes-of-set n present [] = refl
volumes-of-set n present (v ∷ volumes) = omega (arith, volumes-of-set n present volumes)

pub statuses-activated : (s : DeskState) (config : Configuration) (target : Target) → times_status target (activated s config).statuses ≡ times_target (Some config) target
statuses-activated s config (Group n) =
    omega (arith, status-append (Group n) (map (row_of_group s.statuses) config.groups) (map (row_of_volume s.statuses) config.volumes), groups-of-group n s.statuses config.groups, volumes-of-group n s.statuses config.volumes)
statuses-activated s config (Volume n) =
    omega (arith, status-append (Volume n) (map (row_of_group s.statuses) config.groups) (map (row_of_volume s.statuses) config.volumes), groups-of-volume n s.statuses config.groups, volumes-of-volume n s.statuses config.volumes)
statuses-activated s config (Set n) =
    omega (arith, status-append (Set n) (map (row_of_group s.statuses) config.groups) (map (row_of_volume s.statuses) config.volumes), groups-of-set n s.statuses config.groups, volumes-of-set n s.statuses config.volumes)

-- no volume bars the configuration, so that each in use is there as large
barred-at : (used : List ℕ → Bool) (volumes others : List VolumeDef) (v : VolumeDef) (n : List ℕ) (b passes : Bool) → bytes_eq v.volser n ≡ b → (used v.volser && nat_lt (tracks_of v.volser others) v.tracks) ≡ passes
    → used n ≡ true → (find (λ (x : VolumeDef). used x.volser && nat_lt (tracks_of x.volser others) x.tracks) volumes ≡ None → tracks_of n volumes ≤ tracks_of n others)
    → find (λ (x : VolumeDef). used x.volser && nat_lt (tracks_of x.volser others) x.tracks) (v ∷ volumes) ≡ None → tracks_of n (v ∷ volumes) ≤ tracks_of n others
barred-at used volumes others v n b true is passes there rest found =
    let now : Some v ≡ None = rw passes at found in absurd cc
barred-at used volumes others v n true false is passes there rest found =
    let same : v.volser ≡ n = same-bytes v.volser n is in
    let on : used v.volser ≡ true = ap used same ∙ there in
    let test : nat_lt (tracks_of v.volser others) v.tracks ≡ false = rw on at passes in
    let le : v.tracks ≤ tracks_of v.volser others = grind (arith, nat_tests) in
    let moved : tracks_of v.volser others ≡ tracks_of n others = ap (λ m. tracks_of m others) same in
    rw is (omega (arith, le, moved))
barred-at used volumes others v n false false is passes there rest found =
    let now : find (λ (x : VolumeDef). used x.volser && nat_lt (tracks_of x.volser others) x.tracks) volumes ≡ None = rw passes at found in
    rw is (rest now)

none-barred : (used : List ℕ → Bool) (volumes others : List VolumeDef) (n : List ℕ) → used n ≡ true → find (λ (x : VolumeDef). used x.volser && nat_lt (tracks_of x.volser others) x.tracks) volumes ≡ None
    → tracks_of n volumes ≤ tracks_of n others
none-barred used [] others n there found = omega arith
none-barred used (v ∷ volumes) others n there found = barred-at used volumes others v n _ _ refl refl there (λ e. none-barred used volumes others n there e) found

used-here : (e : Extent) (es : List Extent) → is_used e.volser (e ∷ es) ≡ true
used-here e es = rw (bytes-self e.volser) refl

used-left-at : (n : List ℕ) (e : Extent) (a b : List Extent) (c : Bool) → bytes_eq e.volser n ≡ c → (is_used n a ≡ true → is_used n (a ++ b) ≡ true) → is_used n (e ∷ a) ≡ true → is_used n ((e ∷ a) ++ b) ≡ true
used-left-at n e a b true is rest there = rw is refl
used-left-at n e a b false is rest there =
    let now : is_used n a ≡ true = rw is at there in rw is (rest now)

used-left : (n : List ℕ) (a b : List Extent) → is_used n a ≡ true → is_used n (a ++ b) ≡ true
used-left n [] b there = absurd cc
used-left n (e ∷ a) b there = used-left-at n e a b _ refl (used-left n a b) there

used-right : (n : List ℕ) (a b : List Extent) → is_used n b ≡ true → is_used n (a ++ b) ≡ true
used-right n [] b there = there
used-right n (e ∷ a) b there = used-tail n e (a ++ b) (used-right n a b there)

still-inside : (volumes others : List VolumeDef) (es : List Extent) → ((n : List ℕ) → is_used n es ≡ true → tracks_of n volumes ≤ tracks_of n others) → AllByRecursion (IsInside volumes) es → AllByRecursion (IsInside others) es
still-inside volumes others [] large all = tt
still-inside volumes others (e ∷ es) large all =
    let within = all.0.1 in
    let le = large e.volser (used-here e es) in
    ((all.0.0, omega (arith, within, le)), still-inside volumes others es (λ n there. large n (used-tail n e es there)) all.1)

pub sets-activated : (volumes others : List VolumeDef) (sets : List DataSet) → ((n : List ℕ) → is_used n (extents_of sets) ≡ true → tracks_of n volumes ≤ tracks_of n others)
    → AllByRecursion (IsLawfulSet volumes) sets → AllByRecursion (IsLawfulSet others) sets
sets-activated volumes others [] large all = tt
sets-activated volumes others (set ∷ sets) large all =
    let here = all.0 in (
      record {
        some = here.some;
        inside = still-inside volumes others set.extents (λ n there. large n (used-left n set.extents (extents_of sets) there)) here.inside;
        parted = here.parted;
        few = here.few;
        whole = here.whole;
      },
      sets-activated volumes others sets (λ n there. large n (used-right n set.extents (extents_of sets) there)) all.1,
    )

-- the row has a status that its target may have
abbrev pub IsConnected : StatusRow → Type 0
IsConnected row = may_have row.target row.status ≡ true

present-at : (target : Target) (row : StatusRow) (rows : List StatusRow) (other : Status) (b : Bool) → is_status_of target row ≡ b → may_have target row.status ≡ true ⊎ (b ≡ false) → may_have target (status_in rows target other) ≡ true
    → may_have target (status_in (row ∷ rows) target other) ≡ true
present-at target row rows other true is (inl here) rest = rw is here
present-at target row rows other true is (inr bad) rest = absurd cc
present-at target row rows other false is here rest = rw is rest

-- the target of a row is the one that is looked for
same-kind : (target : Target) (row : StatusRow) (b : Bool) → is_status_of target row ≡ b → IsConnected row → may_have target row.status ≡ true ⊎ (b ≡ false)
same-kind target row false is here = inr refl
same-kind target row true is here = inl (kinds row.target target is here)
  where
    kinds : (own other : Target) → same_target own other ≡ true → may_have own row.status ≡ true → may_have other row.status ≡ true
    kinds own (Group n) is here = refl
    kinds own (Set n) is here = refl
    kinds (Volume m) (Volume n) is here = here
    kinds (Group m) (Volume n) is here = absurd cc
    kinds (Set m) (Volume n) is here = absurd cc

present-connected : (target : Target) (rows : List StatusRow) (other : Status) → AllByRecursion IsConnected rows → may_have target other ≡ true → may_have target (status_in rows target other) ≡ true
present-connected target [] other all here = here
present-connected target (row ∷ rows) other all here = present-at target row rows other _ refl (same-kind target row _ refl all.0) (present-connected target rows other all.1 here)

groups-connected : (present : List StatusRow) (groups : List StorGroup) → AllByRecursion IsConnected (map (row_of_group present) groups)
groups-connected present [] = tt
groups-connected present (g ∷ groups) = (refl, groups-connected present groups)

volumes-connected : (present : List StatusRow) (volumes : List VolumeDef) → AllByRecursion IsConnected present → AllByRecursion (λ (v : VolumeDef). is_connected v.status ≡ true) volumes
    → AllByRecursion IsConnected (map (row_of_volume present) volumes)
volumes-connected present [] all own = tt
volumes-connected present (v ∷ volumes) all own = (present-connected (Volume v.volser) present v.status all own.0, volumes-connected present volumes all own.1)

pub lawful-activated : (s : DeskState) (config : Configuration) → IsLawful s → IsConfiguration config → first_barred s config ≡ None → IsLawful (activated s config)
lawful-activated s config lawful is found = record {
  sets = sets-activated (volumes_in s.active) config.volumes s.sets (λ n there. none-barred (λ m. is_used m (extents_of s.sets)) (volumes_in s.active) config.volumes n there found) lawful.sets;
  once = lawful.once;
  names = lawful.names;
  statuses = statuses-activated s config;
  connected = each-append IsConnected (map (row_of_group s.statuses) config.groups) (map (row_of_volume s.statuses) config.volumes) (groups-connected s.statuses config.groups)
      (volumes-connected s.statuses config.volumes lawful.connected is.connected);
  config = is;
}

-- VARY.

varied-times : (target other : Target) (status : Status) (rows : List StatusRow) → times_status other (map (row_with target status) rows) ≡ times_status other rows
varied-times target other status [] = refl
varied-times target other status (row ∷ rows) = ap (λ n. cond (is_status_of other row) 1 0 + n) (varied-times target other status rows)

action-connected : (action : Action) (target : Target) → may_have target (status_of_action action) ≡ true
action-connected action (Group n) = refl
action-connected action (Set n) = refl
action-connected Enable (Volume n) = refl
action-connected Disable (Volume n) = refl
action-connected DisableNew (Volume n) = refl
action-connected Quiesce (Volume n) = refl
action-connected QuiesceNew (Volume n) = refl

varied-one : (target : Target) (action : Action) (row : StatusRow) (b : Bool) → is_status_of target row ≡ b → IsConnected row → IsConnected (row_with target (status_of_action action) row)
varied-one target action row true is here = rw is (action-connected action row.target)
varied-one target action row false is here = rw is here

varied-connected : (target : Target) (action : Action) (rows : List StatusRow) → AllByRecursion IsConnected rows → AllByRecursion IsConnected (map (row_with target (status_of_action action)) rows)
varied-connected target action [] all = tt
varied-connected target action (row ∷ rows) all = (varied-one target action row _ refl all.0, varied-connected target action rows all.1)

pub lawful-varied : (s : DeskState) (target : Target) (action : Action) → IsLawful s → IsLawful (with_status s target (status_of_action action))
lawful-varied s target action lawful = record {
  sets = lawful.sets;
  once = lawful.once;
  names = lawful.names;
  statuses = λ other. varied-times target other (status_of_action action) s.statuses ∙ lawful.statuses other;
  connected = varied-connected target action s.statuses lawful.connected;
  config = lawful.config;
}
