-- The rows of the present statuses.
use Rattle.std.proofs.Common.{◌≡◌, ◌≤◌, ℕ, List, [], ◌∷◌, ◌++◌, length, map, take, refl, ap, ◌∙◌}
use Rattle.std.specs.List.{AllByRecursion}
use Rattle.std.proofs.lemmas.List.{take_all}
use Rattle.sms_construct.specs.Configuration.{Configuration}
use Rattle.sms_keeper.specs.declared.status_row.StatusRow.{StatusRow}
use Rattle.desk_law.specs.Activation.{row_of_group, row_of_volume, statuses_under}
use Rattle.sms_volumes.specs.Next.{AreNext, IsNextGroup, IsNextVolume}
use Rattle.sms_volumes.specs.StatusRows.{group_row, running_statuses, volume_row}
use Rattle.sms_volumes.specs.declared.active_group.ActiveGroup.{ActiveGroup}
use Rattle.sms_volumes.specs.declared.active_volume.ActiveVolume.{ActiveVolume}
use Rattle.sms_volumes.specs.declared.active_volumes.ActiveVolumes.{ActiveVolumes}

group-rows-of : (present : List StatusRow) (config : Configuration) (groups : List ActiveGroup) → AllByRecursion (IsNextGroup present config) groups
    → map group_row groups ≡ map (row_of_group present) (map (λ (g : ActiveGroup). g.group) groups)
group-rows-of present config [] all = refl
group-rows-of present config (g ∷ groups) all =
    let head = all.0.status in let rest = group-rows-of present config groups all.1 in rw (head, rest) refl

volume-rows-of : (present : List StatusRow) (config : Configuration) (groups : List ActiveGroup) (volumes : List ActiveVolume) → AllByRecursion (IsNextVolume present config groups) volumes
    → map volume_row volumes ≡ map (row_of_volume present) (map (λ (v : ActiveVolume). v.volume) volumes)
volume-rows-of present config groups [] all = refl
volume-rows-of present config groups (v ∷ volumes) all =
    let head = all.0.status in let rest = volume-rows-of present config groups volumes all.1 in rw (head, rest) refl

-- the volumes of the next configuration have the statuses under it
pub next-rows : (present : List StatusRow) (config : Configuration) (next : ActiveVolumes) → AreNext present config next → running_statuses next ≡ statuses_under config present
next-rows present config next are =
    let groups : map group_row next.groups.items ≡ map (row_of_group present) config.groups =
    group-rows-of present config next.groups.items are.each_group ∙ ap (map (row_of_group present)) are.groups_are in
    let volumes : map volume_row next.volumes.items ≡ map (row_of_volume present) config.volumes =
    volume-rows-of present config next.groups.items next.volumes.items are.each_volume ∙ ap (map (row_of_volume present)) are.volumes_are in
    rw (groups, volumes) refl

-- all volumes were gone over
pub all-rows : (running : ActiveVolumes) (i : ℕ) → length running.volumes.items ≤ i → map group_row running.groups.items ++ map volume_row (take i running.volumes.items) ≡ running_statuses running
all-rows running i le = ap (λ (l : List ActiveVolume). map group_row running.groups.items ++ map volume_row l) (take_all i running.volumes.items le)
