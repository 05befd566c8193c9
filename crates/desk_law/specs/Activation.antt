-- ACTIVATE (docs/manual/rules.md, "ACTIVATE").
use Rattle.std.specs.Prelude.{ℕ, ◌+◌, ◌&&◌, ◌⊎◌, nat_lt, List, ◌++◌, find, map, Option, Some, MatchOption}
use Rattle.sms_construct.specs.Configuration.{Configuration}
use Rattle.sms_construct.specs.declared.fault.Fault.{Fault}
use Rattle.sms_construct.specs.declared.reply.Reply.{Reply}
use Rattle.sms_construct.specs.declared.reply.Reply.TheVariants as replies
use Rattle.sms_construct.specs.declared.storage_group.StorGroup.{StorGroup}
use Rattle.sms_construct.specs.declared.target.Target.TheVariants as targets
use Rattle.sms_construct.specs.declared.volume.VolumeDef.{VolumeDef}
use Rattle.deck_meaning.specs.Reading.{Configures, HasFirstFault}
use Rattle.sms_keeper.specs.declared.status_row.StatusRow.{StatusRow}
use Rattle.desk_law.specs.State.{DeskState}
use Rattle.desk_law.specs.Extents.{extents_of, is_used}
use Rattle.desk_law.specs.Replies.{Leaves, Makes}
use Rattle.desk_law.specs.Statuses.{status_in}
use Rattle.desk_law.specs.Volumes.{tracks_of, volumes_in}

-- the first active volume, in byte order, that holds an extent and is missing from the configuration or has fewer
-- tracks there
abbrev pub first_barred : DeskState → Configuration → Option VolumeDef
first_barred s config =
    find (λ volume. is_used volume.volser (extents_of s.sets)
    && nat_lt (tracks_of volume.volser config.volumes) volume.tracks) (volumes_in s.active)

-- a storage group with its present status, and with that of the deck where it has none
abbrev pub row_of_group : List StatusRow → StorGroup → StatusRow
row_of_group present group =
    record { target = targets.Group group.name; status = status_in present (targets.Group group.name) group.status }

-- a volume likewise
abbrev pub row_of_volume : List StatusRow → VolumeDef → StatusRow
row_of_volume present volume =
    record {
      target = targets.Volume volume.volser;
      status = status_in present (targets.Volume volume.volser) volume.status;
    }

-- the statuses when a configuration becomes active
abbrev pub statuses_under : Configuration → List StatusRow → List StatusRow
statuses_under config present = map (row_of_group present) config.groups ++ map (row_of_volume present) config.volumes

-- the state in which this configuration has become active
abbrev pub activated : DeskState → Configuration → DeskState
activated s config =
    record s { activations = s.activations + 1; active = Some config; statuses = statuses_under config s.statuses }

-- a volume in use bars the configuration; else it becomes active
abbrev pub ConfigurationRule : DeskState → Configuration → Reply → DeskState → Type 0
ConfigurationRule s config reply after =
    MatchOption (first_barred s config)
    (Makes (activated s config) (replies.Activated (s.activations + 1)) reply after)
    (λ volume. Leaves s (replies.VolumeInUse volume.volser) reply after)

-- the deck has a fault, which is the reply
pub record RefusesDeck (s : DeskState) (deck : List ℕ) (reply : Reply) (after : DeskState) : Type 0 where
  pub fault : Fault
  pub found : HasFirstFault deck fault
  pub leaves : Leaves s (replies.Deck fault) reply after

-- the deck gives a configuration
pub record TakesDeck (s : DeskState) (deck : List ℕ) (reply : Reply) (after : DeskState) : Type 0 where
  pub config : Configuration
  pub configures : Configures deck config
  pub rule : ConfigurationRule s config reply after

-- the deck is refused for its first fault, or its configuration is taken
abbrev pub ActivateRule : DeskState → List ℕ → Reply → DeskState → Type 0
ActivateRule s deck reply after = RefusesDeck s deck reply after ⊎ TakesDeck s deck reply after
