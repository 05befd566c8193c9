-- Statuses that are varied row after row.
use Rattle.std.proofs.Common.{◌≡◌, ◌≤◌, ◌<◌, ℕ, zero, suc, ◌+◌, Bool, true, false, cond, List, [], ◌∷◌, ◌++◌, length}
use Rattle.std.proofs.Common.{map, get_or, take, refl, sym, ap, ◌∙◌, subst, arith}
use Rattle.std.specs.Prelude.{Option, None, Some, IfSome}
use Rattle.std.specs.List.{AllByRecursion}
use Rattle.sms_construct.specs.Configuration.{Configuration, IsConfiguration}
use Rattle.sms_construct.specs.declared.status.Status.{Status}
use Rattle.sms_construct.specs.declared.status.Status.TheVariants.{NotCon}
use Rattle.sms_construct.specs.declared.target.Target.{Target}
use Rattle.sms_construct.specs.declared.target.Target.TheVariants.{Group, Volume, Set}
use Rattle.sms_keeper.specs.declared.status_row.StatusRow.{StatusRow}
use Rattle.sms_keeper.specs.Tables.{is_status_of, row_with, same_target}
use Rattle.desk_law.specs.State.{DeskState, start_of, with_status}
use Rattle.desk_law.specs.Lawful.{IsLawful}
use Rattle.desk_law.specs.Records.{empty_opening}
use Rattle.desk_law.specs.Statuses.{may_have, status_in, times_status}
use Rattle.desk_law.specs.Volumes.{times_target}
use Rattle.desk_law.proofs.AscendLemmas.{active-group-once, active-volume-once}
use Rattle.desk_law.proofs.ByteLemmas.{bytes-turned, same-bytes}
use Rattle.desk_law.proofs.StatusLemmas.{lawful-activated, statuses-activated}
use Rattle.desk_records.proofs.OpeningLemmas.{empty-sound}
use Rattle.sms_volumes.specs.Holding.{AreVolumesOf, IsGroupOf, IsVolumeOf}
use Rattle.sms_volumes.specs.declared.active_volumes.ActiveVolumes.{ActiveVolumes}
use Rattle.sms_volumes.proofs.NextLemmas.{status-none}
use Rattle.sms_volumes.proofs.VaryLemmas.{varied-other, varied-same}
use Rattle.desk_restoring.specs.Inner.Replaying.{IsAllowed, fresh_state, statuses_varied, with_sets, with_statuses}
use Rattle.desk_restoring.proofs.ListLemmas.{each-take, each-weaker, take-next}

-- Each state on the way is lawful.

varied-times : (target other : Target) (status : Status) (rows : List StatusRow) → times_status other (map (row_with target status) rows) ≡ times_status other rows
varied-times target other status [] = refl
varied-times target other status (row ∷ rows) = ap (λ n. cond (is_status_of other row) 1 0 + n) (varied-times target other status rows)

-- targets that are the same may have the same statuses
may-too : (own target : Target) (status : Status) → same_target own target ≡ true → may_have target status ≡ true → may_have own status ≡ true
may-too (Group n) target status same may = refl
may-too (Set n) target status same may = refl
may-too (Volume m) (Volume n) status same may = may
may-too (Volume m) (Group n) status same may = absurd cc
may-too (Volume m) (Set n) status same may = absurd cc

allowed-one : (target : Target) (status : Status) (row : StatusRow) (b : Bool) → is_status_of target row ≡ b → may_have target status ≡ true → IsAllowed row → IsAllowed (row_with target status row)
allowed-one target status row true is may here = rw is (may-too row.target target status is may)
allowed-one target status row false is may here = rw is here

allowed-all : (target : Target) (status : Status) (rows : List StatusRow) → may_have target status ≡ true → AllByRecursion IsAllowed rows → AllByRecursion IsAllowed (map (row_with target status) rows)
allowed-all target status [] may all = tt
allowed-all target status (row ∷ rows) may all = (allowed-one target status row _ refl may all.0, allowed-all target status rows may all.1)

lawful-status : (s : DeskState) (target : Target) (status : Status) → IsLawful s → may_have target status ≡ true → IsLawful (with_status s target status)
lawful-status s target status lawful may = record {
  sets = lawful.sets;
  once = lawful.once;
  names = lawful.names;
  statuses = λ other. varied-times target other status s.statuses ∙ lawful.statuses other;
  connected = allowed-all target status s.statuses may lawful.connected;
  config = lawful.config;
}

lawful-statuses : (s : DeskState) (rows : List StatusRow) → IsLawful s → AllByRecursion IsAllowed rows → IsLawful (with_statuses s (statuses_varied rows s.statuses))
lawful-statuses s [] lawful all = lawful
lawful-statuses s (row ∷ rows) lawful all = lawful-statuses (with_status s row.target row.status) rows (lawful-status s row.target row.status lawful all.0) all.1

pub lawful-fresh : (config : Option Configuration) → IfSome config IsConfiguration → IsLawful (fresh_state config)
lawful-fresh None is = empty-sound.lawful
lawful-fresh (Some config) is = lawful-activated (start_of empty_opening) config empty-sound.lawful is refl

-- One row more.

varied-push : (rows : List StatusRow) (row : StatusRow) (statuses : List StatusRow) → statuses_varied (rows ++ row ∷ []) statuses ≡ map (row_with row.target row.status) (statuses_varied rows statuses)
varied-push [] row statuses = refl
varied-push (r ∷ rows) row statuses = varied-push rows row (map (row_with r.target r.status) statuses)

pub statuses-next : (s : DeskState) (rows : List StatusRow) (i : ℕ) (row : StatusRow) (running after : ActiveVolumes) → i < length rows → row ≡ get_or rows i row → AllByRecursion IsAllowed rows → IsLawful s
    → AreVolumesOf (with_statuses s (statuses_varied (take i rows) s.statuses)) running
    → ((t : DeskState) → IsLawful t → AreVolumesOf t running → AreVolumesOf (with_status t row.target row.status) after) → AreVolumesOf (with_statuses s (statuses_varied (take (i + 1) rows) s.statuses)) after
statuses-next s rows i row running after lt read all lawful are vary =
    let same : statuses_varied (take (i + 1) rows) s.statuses ≡ map (row_with row.target row.status) (statuses_varied (take i rows) s.statuses) =
    ap (λ (l : List StatusRow). statuses_varied l s.statuses) (take-next rows i row lt read) ∙ varied-push (take i rows) row s.statuses in
    subst (λ (l : List StatusRow). AreVolumesOf (with_statuses s l) after) (sym same)
    (vary (with_statuses s (statuses_varied (take i rows) s.statuses)) (lawful-statuses s (take i rows) lawful (each-take IsAllowed i rows all)) are)

-- Targets.

target-is : (a b : Target) → same_target a b ≡ true → a ≡ b
target-is (Group n) (Group m) is = ap Group (same-bytes n m is)
target-is (Volume n) (Volume m) is = ap Volume (same-bytes n m is)
target-is (Set n) (Set m) is = ap Set (same-bytes n m is)
target-is (Group n) (Volume m) is = absurd cc
target-is (Group n) (Set m) is = absurd cc
target-is (Volume n) (Group m) is = absurd cc
target-is (Volume n) (Set m) is = absurd cc
target-is (Set n) (Group m) is = absurd cc
target-is (Set n) (Volume m) is = absurd cc

target-turned : (a b : Target) → same_target a b ≡ false → same_target b a ≡ false
target-turned (Group n) (Group m) off = bytes-turned n m off
target-turned (Volume n) (Volume m) off = bytes-turned n m off
target-turned (Set n) (Set m) off = bytes-turned n m off
target-turned (Group n) (Volume m) off = refl
target-turned (Group n) (Set m) off = refl
target-turned (Volume n) (Group m) off = refl
target-turned (Volume n) (Set m) off = refl
target-turned (Set n) (Group m) off = refl
target-turned (Set n) (Volume m) off = refl

target-apart : (a b : Target) → same_target a b ≡ false → (row : StatusRow) → is_status_of b row ≡ true → is_status_of a row ≡ false
target-apart a b off row is = ap (λ (x : Target). same_target x a) (target-is row.target b is) ∙ target-turned a b off

-- What is found when all rows were gone over.

none-varied-at : (target : Target) (d : Status) (row : StatusRow) (rows statuses : List StatusRow) (b : Bool) → is_status_of target row ≡ b → cond b 1 0 + times_status target rows ≡ 0
    → (times_status target rows ≡ 0 → status_in (statuses_varied rows (map (row_with row.target row.status) statuses)) target d ≡ status_in (map (row_with row.target row.status) statuses) target d)
    → status_in (statuses_varied (row ∷ rows) statuses) target d ≡ status_in statuses target d
none-varied-at target d row rows statuses true is none rest = absurd (omega (arith, none))
none-varied-at target d row rows statuses false is none rest = rest (omega (arith, none)) ∙ varied-other row.target target row.status d statuses (target-apart row.target target is)

-- a target without a row keeps its status
none-varied : (target : Target) (d : Status) (rows statuses : List StatusRow) → times_status target rows ≡ 0 → status_in (statuses_varied rows statuses) target d ≡ status_in statuses target d
none-varied target d [] statuses none = refl
none-varied target d (row ∷ rows) statuses none = none-varied-at target d row rows statuses _ refl none (none-varied target d rows (map (row_with row.target row.status) statuses))

one-varied-at : (target : Target) (d : Status) (row : StatusRow) (rows statuses : List StatusRow) (b : Bool) → is_status_of target row ≡ b → cond b 1 0 + times_status target rows ≡ 1
    → 1 ≤ times_status target statuses → (times_status target rows ≡ 1 → status_in (statuses_varied rows (map (row_with row.target row.status) statuses)) target d ≡ status_in rows target d)
    → status_in (statuses_varied (row ∷ rows) statuses) target d ≡ status_in (row ∷ rows) target d
one-varied-at target d row rows statuses true is one some rest =
    let now : status_in (map (row_with row.target row.status) statuses) target d ≡ row.status =
    ap (λ (x : Target). status_in (map (row_with x row.status) statuses) target d) (target-is row.target target is) ∙ varied-same target row.status d statuses some in
    let here : status_in (row ∷ rows) target d ≡ row.status = rw is refl in
    none-varied target d rows (map (row_with row.target row.status) statuses) (omega (arith, one)) ∙ (now ∙ sym here)
one-varied-at target d row rows statuses false is one some rest =
    let here : status_in (row ∷ rows) target d ≡ status_in rows target d = rw is refl in
    rest (omega (arith, one)) ∙ sym here

-- a target with one row has its status, where it had any
one-varied : (target : Target) (d : Status) (rows statuses : List StatusRow) → times_status target rows ≡ 1 → 1 ≤ times_status target statuses
    → status_in (statuses_varied rows statuses) target d ≡ status_in rows target d
one-varied target d [] statuses one some = absurd (omega (arith, one))
one-varied target d (row ∷ rows) statuses one some =
    let still : times_status target (map (row_with row.target row.status) statuses) ≡ times_status target statuses = varied-times row.target target row.status statuses in
    one-varied-at target d row rows statuses _ refl one some (λ e. one-varied target d rows (map (row_with row.target row.status) statuses) e (omega (arith, still, some)))

varied-found-at : (target : Target) (d : Status) (rows statuses : List StatusRow) (n : ℕ) → times_status target rows ≡ n → n ≤ 1 → times_status target rows ≡ times_status target statuses
    → status_in (statuses_varied rows statuses) target d ≡ status_in rows target d
varied-found-at target d rows statuses zero is less same =
    none-varied target d rows statuses is ∙ (status-none target d statuses (omega (arith, is, same)) ∙ sym (status-none target d rows is))
varied-found-at target d rows statuses (suc zero) is less same = one-varied target d rows statuses (omega (arith, is)) (omega (arith, is, same))
varied-found-at target d rows statuses (suc (suc n)) is less same = absurd (omega (arith, less))

varied-found : (target : Target) (d : Status) (rows statuses : List StatusRow) → times_status target rows ≤ 1 → times_status target rows ≡ times_status target statuses
    → status_in (statuses_varied rows statuses) target d ≡ status_in rows target d
varied-found target d rows statuses less same = varied-found-at target d rows statuses (times_status target rows) refl less same

target-once : (s : DeskState) (target : Target) → IsLawful s → times_status target s.statuses ≤ 1
target-once s (Group n) lawful = omega (arith, lawful.statuses (Group n), active-group-once s.active n lawful.config)
target-once s (Volume n) lawful = omega (arith, lawful.statuses (Volume n), active-volume-once s.active n lawful.config)
target-once s (Set n) lawful = omega (arith, lawful.statuses (Set n))

none-active : (target : Target) → times_target None target ≡ 0
none-active (Group n) = refl
none-active (Volume n) = refl
none-active (Set n) = refl

fresh-times : (config : Option Configuration) (target : Target) → times_status target (fresh_state config).statuses ≡ times_target config target
fresh-times None target = sym (none-active target)
fresh-times (Some config) target = statuses-activated (start_of empty_opening) config target

-- States that find the same statuses.

found-alike : (s : DeskState) (activations : ℕ) (rows : List StatusRow) (running : ActiveVolumes) → ((target : Target) → status_in s.statuses target NotCon ≡ status_in rows target NotCon) → AreVolumesOf s running
    → AreVolumesOf (record { activations = activations; active = s.active; statuses = rows; sets = s.sets }) running
found-alike s activations rows running same are =
    let t : DeskState = record { activations = activations; active = s.active; statuses = rows; sets = s.sets } in
    record {
      groups_are = are.groups_are;
      volumes_are = are.volumes_are;
      each_group = each-weaker (IsGroupOf s) (IsGroupOf t) running.groups.items (λ g is. record { status = is.status ∙ same (Group g.group.name); volumes = is.volumes }) are.each_group;
      each_volume = each-weaker (IsVolumeOf s running.groups.items) (IsVolumeOf t running.groups.items) running.volumes.items
          (λ v is. record {
            status = is.status ∙ same (Volume v.volume.volser);
            group = record { group = is.group.group; there = is.group.there; named = is.group.named };
            capacity = is.capacity;
            ledger = is.ledger;
          }) are.each_volume;
    }

restored-at : (config : Option Configuration) (s : DeskState) (running : ActiveVolumes) → s.active ≡ config → IsLawful s
    → AreVolumesOf (with_statuses (fresh_state config) (statuses_varied s.statuses (fresh_state config).statuses)) running
    → AreVolumesOf (record { activations = s.activations; active = config; statuses = s.statuses; sets = [] }) running
restored-at None s running is lawful are =
    found-alike (with_statuses (fresh_state None) (statuses_varied s.statuses [])) s.activations s.statuses running
    (λ target. varied-found target NotCon s.statuses [] (target-once s target lawful)
    (lawful.statuses target ∙ (ap (λ (o : Option Configuration). times_target o target) is ∙ none-active target)))
    are
restored-at (Some config) s running is lawful are =
    let fresh : DeskState = fresh_state (Some config) in
    found-alike (with_statuses fresh (statuses_varied s.statuses fresh.statuses)) s.activations s.statuses running
    (λ target. varied-found target NotCon s.statuses fresh.statuses (target-once s target lawful)
    (lawful.statuses target ∙ (ap (λ (o : Option Configuration). times_target o target) is ∙ sym (fresh-times (Some config) target))))
    are

-- the volumes of the configuration with the statuses of the rows
pub restored-volumes : (s : DeskState) (running : ActiveVolumes) → IsLawful s → AreVolumesOf (with_statuses (fresh_state s.active) (statuses_varied s.statuses (fresh_state s.active).statuses)) running
    → AreVolumesOf (with_sets s []) running
restored-volumes s running lawful are = restored-at s.active s running refl lawful are
