-- The configurations and requests of the examples.
use Rattle.std.proofs.Common.{ℕ, false, List, [], ◌∷◌}
use Rattle.std.specs.Prelude.{codes, Bool, Some, None}
use Rattle.acs_tree.specs.Inputs.{bare_input}
use Rattle.sms_construct.specs.Configuration.{Configuration}
use Rattle.sms_construct.specs.declared.alloc.Alloc.{Alloc}
use Rattle.sms_construct.specs.declared.data_set.DataSet.{DataSet}
use Rattle.sms_construct.specs.declared.eattr.Eattr.TheVariants.{No}
use Rattle.sms_construct.specs.declared.extent.Extent.{Extent}
use Rattle.sms_construct.specs.declared.status.Status.{Status}
use Rattle.sms_construct.specs.declared.status.Status.TheVariants.{Enable, QuiAll}
use Rattle.sms_construct.specs.declared.storage_group.StorGroup.{StorGroup}
use Rattle.sms_construct.specs.declared.unit.Unit.{Unit as SpaceUnit}
use Rattle.sms_construct.specs.declared.unit.Unit.TheVariants.{Trk, Cyl}
use Rattle.sms_construct.specs.declared.volume.VolumeDef.{VolumeDef}
use Rattle.track_ledger.specs.declared.piece.Piece.{Piece}
use Rattle.desk_law.specs.State.{DeskState}
use Rattle.desk_law.specs.Activation.{activated}
use Rattle.desk_law.specs.Candidates.{Ask}

abbrev pub piece : ℕ → ℕ → Piece
piece start length = record { start = start; length = length }

abbrev pub extent : List ℕ → ℕ → ℕ → Extent
extent volser start length = record { volser = volser; start = start; length = length }

abbrev pub group : List ℕ → ℕ → Bool → StorGroup
group name high overflow = record { name = name; status = Enable; high = high; low = 1; overflow = overflow; breakpoint = 10 }

-- a volume of the storage group SG1
abbrev pub volume : List ℕ → ℕ → Status → VolumeDef
volume volser tracks status = record { volser = volser; group = codes "SG1"; status = status; tracks = tracks }

-- a configuration of the storage group SG1 with this threshold and these volumes; DC1 names a space and two volumes
abbrev pub deck_with : ℕ → List VolumeDef → Configuration
deck_with high volumes = record {
  deck = [];
  system = None;
  sysplex = None;
  data_classes = record { name = codes "DC1"; space = Some (record { unit = Cyl; primary = 2; secondary = 1 }); volumes = Some 2; eattr = No } ∷ [];
  storage_classes = record { name = codes "SC1"; multi_tier = false } ∷ [];
  management_classes = [];
  groups = group (codes "SG1") high false ∷ [];
  volumes = volumes;
  routines = record { dataclas = None; storclas = None; mgmtclas = None; storgrp = None };
}

-- one volume of so many tracks
abbrev pub one : ℕ → Configuration
one tracks = deck_with 85 (volume (codes "VOL001") tracks Enable ∷ [])

-- two volumes of 100 tracks, the second quiesced
abbrev pub two : Configuration
two = deck_with 85 (volume (codes "VOL001") 100 Enable ∷ volume (codes "VOL002") 100 QuiAll ∷ [])

-- a new desk, and one on which a configuration is active
abbrev pub new_desk : DeskState
new_desk = record { activations = 0; active = None; statuses = []; sets = [] }

abbrev pub desk_under : Configuration → DeskState
desk_under config = activated new_desk config

-- a data set A.B in tracks, with this secondary quantity, number of volumes and extents
abbrev pub data_set : ℕ → ℕ → List Extent → DataSet
data_set secondary volumes extents = record {
  dsn = codes "A.B";
  dataclas = None;
  storclas = codes "SC1";
  mgmtclas = None;
  group = codes "SG1";
  unit = Trk;
  secondary = secondary;
  volumes = volumes;
  day = 0;
  retpd = None;
  used = 0;
  extents = extents;
  eattr = No;
}

-- the desk with that data set
abbrev pub desk_with : Configuration → DataSet → DeskState
desk_with config set = record { activations = 1; active = Some config; statuses = (desk_under config).statuses; sets = set ∷ [] }

-- what is asked of volumes for a data set that may lie on so many of them, on track-managed space, in any order of
-- storage groups
abbrev pub ask : SpaceUnit → ℕ → ℕ → Ask
ask unit tracks volumes = record { unit = unit; tracks = tracks; volumes = volumes; eattr = No; tiers = [] }

-- an ALLOC of A.B
abbrev pub asks : SpaceUnit → ℕ → ℕ → Alloc
asks unit primary secondary = record {
  input = bare_input (codes "A.B");
  space = Some (record { unit = unit; primary = primary; secondary = secondary });
  dataclas = None;
  storclas = None;
  mgmtclas = None;
  volumes = None;
  day = 0;
  retpd = None;
  eattr = None;
}

-- the same without a space, and with a storage class
abbrev pub asks_nothing : Alloc
asks_nothing = record { input = bare_input (codes "A.B"); space = None; dataclas = None; storclas = None; mgmtclas = None; volumes = None; day = 0; retpd = None; eattr = None }

abbrev pub asks_class : List ℕ → Alloc
asks_class name = record { input = bare_input (codes "A.B"); space = None; dataclas = None; storclas = Some name; mgmtclas = None; volumes = None; day = 0; retpd = None; eattr = None }
