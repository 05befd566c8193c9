-- The running state stands for the state that a deed makes.
use Rattle.std.proofs.Common.{Bor, ◌≡◌, ℕ, Bool, true, false, cond, List, [], ◌∷◌, refl, sym, ap, ◌∙◌, subst}
use Rattle.std.specs.Prelude.{Option, None, Some, bytes_eq}
use Rattle.std.specs.Option.{option_copied}
use Rattle.sms_construct.specs.Configuration.{Configuration}
use Rattle.sms_construct.specs.declared.data_set.DataSet.{DataSet}
use Rattle.sms_construct.specs.declared.status.Status.{Status}
use Rattle.sms_construct.specs.declared.target.Target.{Target}
use Rattle.sms_keeper.specs.Tables.{put_set, without_set}
use Rattle.sms_keeper.specs.declared.effect.Effect.TheVariants as effects
use Rattle.sms_keeper.specs.declared.status_row.StatusRow.{StatusRow}
use Rattle.desk_law.specs.State.{DeskState, set_named, with_set, with_status, without_name}
use Rattle.desk_law.specs.Activation.{activated}
use Rattle.desk_law.specs.Extents.{extents_if, extents_named, front_tracks}
use Rattle.desk_law.specs.Lawful.{IsLawful}
use Rattle.desk_law.proofs.ByteLemmas.{same-bytes}
use Rattle.desk_records.specs.Effects.{state_with}
use Rattle.sms_volumes.specs.Holding.{AreVolumesOf}
use Rattle.sms_volumes.specs.declared.active_volumes.ActiveVolumes.{ActiveVolumes}
use Rattle.sms_volumes.proofs.NamedLemmas.{named-gone, named-put, named-put-other, named-without}
use Rattle.sms_volumes.proofs.RunningLemmas.{all-same}
use Rattle.desk_state.specs.Catalog.{set_in}
use Rattle.desk_state.specs.Deeds.{HasFront, IsNext}
use Rattle.desk_state.specs.Standing.{IsRunning}
use Rattle.desk_state.specs.declared.running.Running.{Running}

-- A data set is put in place of the one of its name.

pub put-found : (sets : List DataSet) (set : DataSet) (dsn : List ℕ) (old new : Option DataSet) (b : Bool) → bytes_eq set.dsn dsn ≡ b → new ≡ cond b (Some set) old → old ≡ set_named dsn sets → new ≡ set_named dsn (put_set set sets)
put-found sets set dsn old new true is put same = put ∙ sym (named-put set dsn sets is)
put-found sets set dsn old new false is put same = put ∙ (same ∙ sym (named-put-other set dsn sets is))

pub put-running : (s : DeskState) (set : DataSet) (running after : Running) → after.activations ≡ running.activations → after.config ≡ running.config
    → ((dsn : List ℕ) → set_in dsn after.catalog.sets ≡ cond (bytes_eq set.dsn dsn) (Some set) (set_in dsn running.catalog.sets))
    → AreVolumesOf (with_set s set) after.volumes → IsRunning s running → IsRunning (with_set s set) after
put-running s set running after activations config put now is = record {
  activations = activations ∙ is.activations;
  active = config ∙ is.active;
  volumes = now;
  sets = λ dsn. put-found s.sets set dsn (set_in dsn running.catalog.sets) (set_in dsn after.catalog.sets) (bytes_eq set.dsn dsn) refl (put dsn) (is.sets dsn);
}

-- The data set of a name is dropped.

pub drop-found : (sets : List DataSet) (dsn other : List ℕ) (old new : Option DataSet) (b : Bool) → bytes_eq dsn other ≡ b → new ≡ cond b None old → old ≡ set_named other sets → new ≡ set_named other (without_set dsn sets)
drop-found sets dsn other old new true is drop same =
    drop ∙ sym (ap (λ n. set_named other (without_set n sets)) (same-bytes dsn other is) ∙ named-gone other sets)
drop-found sets dsn other old new false is drop same = drop ∙ (same ∙ sym (named-without dsn other sets is))

pub drop-running : (s : DeskState) (dsn : List ℕ) (running after : Running) → after.activations ≡ running.activations → after.config ≡ running.config
    → ((other : List ℕ) → set_in other after.catalog.sets ≡ cond (bytes_eq dsn other) None (set_in other running.catalog.sets))
    → AreVolumesOf (without_name s dsn) after.volumes → IsRunning s running → IsRunning (without_name s dsn) after
drop-running s dsn running after activations config drop now is = record {
  activations = activations ∙ is.activations;
  active = config ∙ is.active;
  volumes = now;
  sets = λ other. drop-found s.sets dsn other (set_in other running.catalog.sets) (set_in other after.catalog.sets) (bytes_eq dsn other) refl (drop other) (is.sets other);
}

absent-at : (dsn : List ℕ) (set : DataSet) (sets : List DataSet) (b : Bool) → bytes_eq set.dsn dsn ≡ b → (set_named dsn sets ≡ None → without_set dsn sets ≡ sets)
    → set_named dsn (set ∷ sets) ≡ None → without_set dsn (set ∷ sets) ≡ set ∷ sets
absent-at dsn set sets true is rest none =
    let now : Some set ≡ None = rw is at none in absurd cc
absent-at dsn set sets false is rest none =
    let now : set_named dsn sets ≡ None = rw is at none in rw is (ap (λ (l : List DataSet). set ∷ l) (rest now))

absent : (dsn : List ℕ) (sets : List DataSet) → set_named dsn sets ≡ None → without_set dsn sets ≡ sets
absent dsn [] none = refl
absent dsn (set ∷ sets) none = absent-at dsn set sets _ refl (absent dsn sets) none

-- where there is none, all is as it was
pub without-absent : (s : DeskState) (dsn : List ℕ) (running : ActiveVolumes) → set_named dsn s.sets ≡ None → AreVolumesOf s running → AreVolumesOf (without_name s dsn) running
without-absent s dsn running none are =
    let same : without_name s dsn ≡ s = ap (λ (l : List DataSet). record { activations = s.activations; active = s.active; statuses = s.statuses; sets = l }) (absent dsn s.sets none) in
    subst (λ (t : DeskState). AreVolumesOf t running) (sym same) are

-- what is found nowhere
pub copied-none : (o : Option (Bor DataSet)) → ((x : Bor DataSet) → o ≡ Some x → ⊥) → option_copied o ≡ None
copied-none None none = refl
copied-none (Some x) none = absurd (none x refl)

-- the front of nothing is nothing
pub front-none : (s : DeskState) (set : DataSet) (running : ActiveVolumes) → set_named set.dsn s.sets ≡ None → HasFront s.sets set → IsLawful s → AreVolumesOf s running → AreVolumesOf (with_set s set) running
front-none s set running none front lawful are =
    let held : extents_named set.dsn s.sets ≡ [] = ap extents_if none in
    all-same s set running lawful are (front.extents ∙ (ap (front_tracks front.keep) held ∙ sym held))

-- A configuration becomes active.

pub become-running : (s : DeskState) (count : ℕ) (config : Configuration) (volumes : ActiveVolumes) (statuses : List StatusRow) (running after : Running)
    → after.activations ≡ count → after.config ≡ Some config → after.catalog ≡ running.catalog
    → IsNext s count config volumes statuses → AreVolumesOf (activated s config) after.volumes → IsRunning s running → IsRunning (activated s config) after
become-running s count config volumes statuses running after activations active catalog next now is =
    record {
      activations = activations ∙ next.counted;
      active = active;
      volumes = now;
      sets = λ dsn. ap (λ c. set_in dsn c.sets) catalog ∙ is.sets dsn;
    }

-- the statuses that it brings are those of the state
pub became-active : (s : DeskState) (count : ℕ) (config : Configuration) (volumes : ActiveVolumes) (statuses : List StatusRow) (after : Running) → IsNext s count config volumes statuses
    → IsRunning (activated s config) after → IsRunning (state_with s (effects.Activated count statuses) (Some config)) after
became-active s count config volumes statuses after next is =
    subst (λ (l : List StatusRow). IsRunning (state_with s (effects.Activated count l) (Some config)) after) (sym next.statuses_are) is

-- A status is varied.

pub vary-running : (s : DeskState) (target : Target) (status : Status) (running after : Running) → after.activations ≡ running.activations → after.config ≡ running.config → after.catalog ≡ running.catalog
    → AreVolumesOf (with_status s target status) after.volumes → IsRunning s running → IsRunning (with_status s target status) after
vary-running s target status running after activations config catalog now is = record {
  activations = activations ∙ is.activations;
  active = config ∙ is.active;
  volumes = now;
  sets = λ dsn. ap (λ c. set_in dsn c.sets) catalog ∙ is.sets dsn;
}
