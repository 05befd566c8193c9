-- The running state goes on standing for its state.
use Rattle.std.proofs.Common.{◌≡◌, ℕ, List, ◌∙◌, sym, ap, subst}
use Rattle.std.specs.Prelude.{Option, Some, IfSome}
use Rattle.sms_construct.specs.declared.data_set.DataSet.{DataSet}
use Rattle.desk_law.specs.State.{DeskState}
use Rattle.desk_law.specs.Extents.{extents_if}
use Rattle.desk_law.specs.Releasing.{kept_of, tracks_kept}
use Rattle.desk_law.specs.Volumes.{volumes_in}
use Rattle.desk_law.proofs.SetLemmas.{name-is}
use Rattle.sms_volumes.specs.Changing.{IsFront, LiesOnSome}
use Rattle.sms_volumes.specs.Holding.{AreVolumesOf, StandForSome}
use Rattle.desk_state.specs.Catalog.{set_in}
use Rattle.desk_state.specs.Standing.{IsRunning, IsSomeState}
use Rattle.desk_state.specs.declared.running.Running.{Running}
use Rattle.desk_state.proofs.ExtentLemmas.{front-is}
use Rattle.desk_state.proofs.FewLemmas.{found-lawful}
use Rattle.desk_state.proofs.OkLemmas.{on-found}

-- with a catalog that finds the same
pub with-room : (s : DeskState) (running after : Running) → after.activations ≡ running.activations → after.config ≡ running.config → after.volumes ≡ running.volumes
    → ((dsn : List ℕ) → set_in dsn after.catalog.sets ≡ set_in dsn running.catalog.sets) → IsRunning s running → IsRunning s after
with-room s running after activations config volumes same is = record {
  activations = activations ∙ is.activations;
  active = config ∙ is.active;
  volumes = subst (AreVolumesOf s) (sym volumes) is.volumes;
  sets = λ dsn. same dsn ∙ is.sets dsn;
}

-- its volumes stand for that of the lawful state
pub some-volumes : (running : Running) → IsSomeState running → StandForSome running.volumes
some-volumes running some = record { state = some.state; lawful = some.lawful; stand = some.stands.volumes }

-- what the catalog finds lies on them
pub found-lies : (running : Running) → IsSomeState running → (dsn : List ℕ) (o : Option DataSet) → o ≡ set_in dsn running.catalog.sets → IfSome o (λ (set : DataSet). LiesOnSome running.volumes set.extents)
found-lies running some dsn o is = on-found (λ (set : DataSet). LiesOnSome running.volumes set.extents) o (λ set found. record {
  state = some.state;
  dsn = dsn;
  lawful = some.lawful;
  stand = some.stands.volumes;
  extents_are = sym (ap extents_if (sym (some.stands.sets dsn) ∙ (sym is ∙ found)));
})

-- what it keeps in a release is its front
pub found-front : (running : Running) → IsSomeState running → (dsn : List ℕ) (set : DataSet) → set_in dsn running.catalog.sets ≡ Some set
    → IfSome (set_in set.dsn running.catalog.sets) (λ (old : DataSet). IsFront (kept_of set).extents old.extents)
found-front running some dsn set found =
    let name : set.dsn ≡ dsn = name-is dsn some.state.sets set (sym (some.stands.sets dsn) ∙ found) in
    let there : set_in set.dsn running.catalog.sets ≡ Some set = ap (λ n. set_in n running.catalog.sets) name ∙ found in
    subst (λ (o : Option DataSet). IfSome o (λ (old : DataSet). IsFront (kept_of set).extents old.extents)) (sym there)
    (front-is (volumes_in some.state.active) (tracks_kept set) set.extents (found-lawful running some dsn set found).inside)
