-- How a list of a store ends: each status and its cause.
use Rattle.std.specs.Prelude.{◌≡◌, ℕ, List, [], Option, None, Some, filter, flat_map, map}
use Rattle.std.specs.Io.KnownBytes.{Appends}
use Rattle.desk_common.specs.Causes.{Rose}
use Rattle.desk_common.specs.Fronts.{IsProperPrefix}
use Rattle.sms_construct.specs.Configuration.{Configuration}
use Rattle.sms_construct.specs.declared.data_set.DataSet.{DataSet}
use Rattle.sms_keeper.specs.declared.keeper.Keeper.{Ghosts}
use Rattle.sms_keeper.specs.declared.table.Table.{Table}
use Rattle.desk_law.specs.Display.{shown_volume}
use Rattle.desk_law.specs.Extents.{extents_of}
use Rattle.desk_law.specs.State.{DeskState, Opening, start_of}
use Rattle.desk_law.specs.Volumes.{groups_in, volumes_in}
use Rattle.desk_calls.specs.declared.status.RunStatus.{RunStatus}
use Rattle.desk_calls.specs.declared.status.RunStatus.TheVariants.{Done, BadWords, ReadFault, WriteFault, Script}
use Rattle.desk_calls.specs.declared.status.RunStatus.TheVariants.{TooLong, NoMemory}
use Rattle.page_text.specs.declared.group_row.GroupRow.{GroupRow}
use Rattle.store_report.specs.GroupSums.{group_row}
use Rattle.store_report.specs.Selecting.{extents_on, fits_group, fits_set, fits_volume}
use Rattle.store_report.specs.Texts.{classes_text, extents_text, groups_text, sets_text, volumes_text}
use Rattle.store_report.specs.declared.extent_row.ExtentRow.{ExtentRow}
use Rattle.store_report.specs.declared.format.Format.{Format}
use Rattle.store_report.specs.declared.listed_volume.ListedVolume.{ListedVolume}
use Rattle.store_report.specs.declared.listing.Listing.{Listing}
use Rattle.store_report.specs.declared.listing.Listing.TheVariants as lists
use Rattle.store_report.specs.declared.query.Query.{Query}
use Rattle.store_report.specs.declared.selection.Selection.{Selection}
use Rattle.volume_gaps.specs.ListedVolumes.{listed_volume}
use Rattle.store_calls.specs.Opened.{IsUnopened, WasOpened}
use Rattle.store_calls.specs.declared.status.StoreStatus.{StoreStatus}
use Rattle.store_calls.specs.declared.status.StoreStatus.TheVariants.{Ran, Unopened}

-- what is told of a sink at one moment
pub record Seen : Type 0 where
  pub taken : Option (List ℕ)
  pub faults : ℕ

-- what these tell of a sink
abbrev pub seen_sink : {K : Type 0} → (K → Option (List ℕ)) → (K → ℕ) → K → Seen
seen_sink taken faults sink = record { taken = taken sink; faults = faults sink }

-- the volumes of a desk that fit, each with the thresholds of its storage group and its longest gap
abbrev pub volume_rows : Selection → DeskState → List ListedVolume
volume_rows selection s =
    map (listed_volume (groups_in s.active) (extents_of s.sets))
    (filter (fits_volume selection) (map (shown_volume s) (volumes_in s.active)))

-- its storage groups that fit, each with the sums of its volumes
abbrev pub group_rows : Selection → DeskState → List GroupRow
group_rows selection s =
    filter (fits_group selection) (map (group_row (map (shown_volume s) (volumes_in s.active))) (groups_in s.active))

-- the data sets that fit
abbrev pub set_rows : Selection → List DataSet → List DataSet
set_rows selection sets = filter (fits_set selection) sets

-- their extents, those on the volume alone where one is asked for
abbrev pub extent_rows : Selection → List DataSet → List ExtentRow
extent_rows selection sets = flat_map (extents_on selection.volume) (set_rows selection sets)

-- the classes of a configuration in a form, none where nothing is active
abbrev pub classes_of : Format → Option Configuration → List ℕ
classes_of format None = classes_text format [] [] []
classes_of format (Some config) =
    classes_text format config.data_classes config.storage_classes config.management_classes

-- the text of this list, of what a desk with this opening begins with
abbrev pub list_text : Listing → Query → Opening → List ℕ
list_text lists.Groups query o = groups_text query.format (group_rows query.selection (start_of o))
list_text lists.Volumes query o = volumes_text query.format (volume_rows query.selection (start_of o))
list_text lists.Classes query o = classes_of query.format (start_of o).active
list_text lists.Sets query o = sets_text query.format (set_rows query.selection o.rows.sets)
list_text lists.Extents query o = extents_text query.format (extent_rows query.selection o.rows.sets)

-- the text is what is asked of what a desk with this opening begins with
abbrev pub IsListed : Query → Opening → List ℕ → Type 0
IsListed query o text = text ≡ list_text query.listing query o

-- the sink took the whole of a list
pub record WasListed (query : Query) (o : Opening) (old new : Seen) : Type 0 where
  pub text : List ℕ
  pub listed : IsListed query o text
  pub written : Appends old.taken new.taken text
  pub faults : new.faults ≡ old.faults

-- the sink took a proper front of a list before its count of faults rose
pub record WasCut (query : Query) (o : Opening) (old new : Seen) : Type 0 where
  pub text : List ℕ
  pub front : List ℕ
  pub listed : IsListed query o text
  pub proper : IsProperPrefix front text
  pub written : Appends old.taken new.taken front
  pub rose : Rose old.faults new.faults

-- what each status of a list says
abbrev pub ListEnds : Query → Opening → Seen → Seen → RunStatus → Type 0
ListEnds query o old new Done = WasListed query o old new
ListEnds query o old new BadWords = ⊥
ListEnds query o old new ReadFault = ⊥
ListEnds query o old new WriteFault = WasCut query o old new
ListEnds query o old new (Script err) = ⊥
ListEnds query o old new TooLong = ⊥
ListEnds query o old new NoMemory = new ≡ old

module _ {P : Type 0} (told_by : Ghosts P) (damage : P → Option (Table × ℕ)) where
  -- what was found of the store was listed, and the store stayed as it was
  pub record WasStoreListed (query : Query) (old new : Seen) (before after : P) (status : RunStatus) :
      Type 0 where
    pub opening : Opening
    pub opened : WasOpened told_by damage before after opening
    pub ends : ListEnds query opening old new status

  -- what each status says
  abbrev pub StoreListEnds : Query → Seen → Seen → P → P → StoreStatus → Type 0
  StoreListEnds query old new before after (Ran status) = WasStoreListed query old new before after status
  StoreListEnds query old new before after (Unopened err) = IsUnopened told_by damage before after err
