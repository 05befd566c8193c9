-- Deeds where room was taken.
use Rattle.std.proofs.Common.{◌≡◌, ℕ, List, sym, subst}
use Rattle.std.specs.Prelude.{Option, IfSome}
use Rattle.sms_construct.specs.declared.data_set.DataSet.{DataSet}
use Rattle.desk_law.specs.State.{DeskState}
use Rattle.sms_volumes.specs.Changing.{IsFront}
use Rattle.desk_state.specs.Catalog.{set_in}
use Rattle.desk_state.specs.declared.deed.Deed.{Deed}
use Rattle.desk_state.specs.declared.deed.Deed.TheVariants as deeds
use Rattle.desk_state.specs.declared.running.Running.{Running}
use Rattle.desk_state.specs.Deeds.{Fits, IsPossible}

-- a deed that was possible is so over the same volumes and data sets
pub possible-same : (running more : Running) (deed : Deed) → more.volumes ≡ running.volumes → ((dsn : List ℕ) → set_in dsn more.catalog.sets ≡ set_in dsn running.catalog.sets) → IsPossible running deed → IsPossible more deed
possible-same running more deeds.Nothing same sets possible = possible
possible-same running more (deeds.Get set place pieces) same sets possible = rw same possible
possible-same running more (deeds.Note set) same sets possible = possible
possible-same running more (deeds.Keep set) same sets possible = subst (λ (o : Option DataSet). IfSome o (λ (old : DataSet). IsFront set.extents old.extents)) (sym (sets set.dsn)) possible
possible-same running more (deeds.Remove dsn) same sets possible = possible
possible-same running more (deeds.Become count config volumes statuses) same sets possible = possible
possible-same running more (deeds.Vary target status) same sets possible = possible
possible-same running more (deeds.Raise job floor) same sets possible = possible

-- a deed that fitted fits over the same volumes
pub fits-same : (s : DeskState) (running more : Running) (deed : Deed) → more.volumes ≡ running.volumes → Fits s running deed → Fits s more deed
fits-same s running more deeds.Nothing same fits = fits
fits-same s running more (deeds.Get set place pieces) same fits = record { volume = fits.volume; at = rw same fits.at; extents = fits.extents }
fits-same s running more (deeds.Note set) same fits = fits
fits-same s running more (deeds.Keep set) same fits = fits
fits-same s running more (deeds.Remove dsn) same fits = fits
fits-same s running more (deeds.Become count config volumes statuses) same fits = fits
fits-same s running more (deeds.Vary target status) same fits = fits
fits-same s running more (deeds.Raise job floor) same fits = fits
