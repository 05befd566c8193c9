-- What a classification that is done leaves.
use Rattle.std.proofs.Common.{◌≡◌, ◌≢◌, ℕ, Bool, true, false, List, [], ◌∷◌, Option, Some, None, ◌==◌, refl, sym, ap}
use Rattle.std.proofs.Common.{subst, ◌∙◌, if◌then◌else◌}
use Rattle.std.specs.Option.{option_or}
use Rattle.acs_tree.specs.declared.ending.Ending.{Ending}
use Rattle.acs_tree.specs.declared.ending.Ending.TheVariants as endings
use Rattle.acs_tree.specs.declared.input.Input.{Input}
use Rattle.acs_tree.specs.declared.kind.Kind.{Kind}
use Rattle.acs_tree.specs.declared.kind.Kind.TheVariants.{DataClas, StorClas, MgmtClas, StorGrp}
use Rattle.acs_tree.specs.declared.values.Values.{Values}
use Rattle.sms_construct.specs.Configuration.{Configuration, has_construct}
use Rattle.desk_law.specs.Classification.{Classes, Meanings, Progress, after_class, class_of, class_stop, classes_under}
use Rattle.desk_law.specs.Classification.{end_with_groups, ends, exit_stop, if_managed, is_null, run, unless_stopped}
use Rattle.sms_construct.specs.declared.stop.Stop.{Stop}
use Rattle.sms_construct.specs.declared.stop.Stop.TheVariants as stops
use Rattle.sms_classes.specs.Known.{AreKnown, LeavesOthers, known_class}
use Rattle.sms_classes.proofs.OnwardLemmas.{groups_part, management_part, storage_part}

-- what stops a classification isn't that it is done
abbrev Stops : Option Stop → Type 0
Stops found = (stop : Stop) → found ≡ Some stop → stop ≡ stops.Done → ⊥

none_stops : Stops None
none_stops stop e d = cc

exit_is : (kind : Kind) (code : ℕ) → Stops (Some (stops.Exit kind code))
exit_is kind code stop e d = cc

unknown_is : (kind : Kind) (class : List ℕ) → Stops (Some (stops.Unknown kind class))
unknown_is kind class stop e d = cc

either_stops : (b : Bool) (one other : Option Stop) → Stops one → Stops other → Stops (if b then one else other)
either_stops true one other s t = s
either_stops false one other s t = t

exit_stops : (kind : Kind) (ending : Ending) → Stops (exit_stop kind ending)
exit_stops kind endings.Falls = none_stops
exit_stops kind (endings.Exit code) = either_stops (code == 0) None (Some (stops.Exit kind code)) none_stops (exit_is kind code)

class_stops : (config : Configuration) (kind : Kind) (class : List ℕ) → Stops (class_stop config kind class)
class_stops config kind class = either_stops (is_null class) None _ none_stops (either_stops (has_construct kind class config) None (Some (stops.Unknown kind class)) none_stops (unknown_is kind class))

-- nothing stopped it
record Passes (second : Option Stop) (last : Progress) (next : Progress → Classes) (came : Classes) : Type 0 where
  none : second ≡ None
  goes : came ≡ next last

passes_both : (one other : Option Stop) (last : Progress) (next : Progress → Classes) → Stops one → Stops other → (unless_stopped (option_or one other) last next).stop ≡ stops.Done
    → Passes other last next (unless_stopped (option_or one other) last next)
passes_both None None last next s t h = record { none = refl; goes = refl }
passes_both None (Some stop) last next s t h = absurd (t stop refl h)
passes_both (Some stop) other last next s t h = absurd (s stop refl h)

passes_class : (config : Configuration) (kind : Kind) (last : Progress) (next : Progress → Classes) → (after_class config kind last next).stop ≡ stops.Done
    → Passes (class_stop config kind (class_of kind last.values)) last next (after_class config kind last next)
passes_class config kind last next h =
    passes_both (exit_stop kind last.ending) (class_stop config kind (class_of kind last.values)) last next (exit_stops kind last.ending) (class_stops config kind (class_of kind last.values)) h

passes_one : (found : Option Stop) (last : Progress) (next : Progress → Classes) → Stops found → (unless_stopped found last next).stop ≡ stops.Done → unless_stopped found last next ≡ next last
passes_one None last next s h = refl
passes_one (Some stop) last next s h = absurd (s stop refl h)

-- the storage class isn't null
record Managed (test : Bool) (next came : Classes) : Type 0 where
  not_null : test ≡ false
  goes : came ≡ next

is_managed : (test : Bool) (last : Progress) (next : Classes) → (if test then ends stops.Unmanaged last else next).stop ≡ stops.Done → Managed test next (if test then ends stops.Unmanaged last else next)
is_managed true last next h = absurd (let e : stops.Unmanaged ≡ stops.Done = h in cc)
is_managed false last next h = record { not_null = refl; goes = refl }

known_if : (null has : Bool) (kind : Kind) (class : List ℕ) → null ≡ false → (if null then None else (if has then None else Some (stops.Unknown kind class))) ≡ None → (if null then None else (if has then Some class else None)) ≡ Some class
known_if true has kind class n e = cc
known_if false true kind class n e = refl
known_if false false kind class n e = absurd (let s : Some (stops.Unknown kind class) ≡ None = e in cc)

-- there is a storage group
record Grouped (groups : List (List ℕ)) (last : Progress) (came : Classes) : Type 0 where
  some : groups ≢ []
  values : came.values ≡ last.values

is_grouped : (groups : List (List ℕ)) (last : Progress) → (end_with_groups groups last).stop ≡ stops.Done → Grouped groups last (end_with_groups groups last)
is_grouped [] last h = absurd (let e : stops.NoGroup ≡ stops.Done = h in cc)
is_grouped (group ∷ groups) last h = record { some = λ e. cc; values = refl }

-- what stands at the end, of what stood behind the management class routine
record FromThird (third : Progress) (came : Classes) : Type 0 where
  dataclas : came.values.dataclas ≡ third.values.dataclas
  storclas : came.values.storclas ≡ third.values.storclas
  mgmtclas : came.values.mgmtclas ≡ third.values.mgmtclas
  groups : came.values.groups ≢ []

from_third : (meanings : Meanings) (input : Input) (third : Progress) → LeavesOthers meanings StorGrp → (groups_part meanings input third).stop ≡ stops.Done → FromThird third (groups_part meanings input third)
from_third meanings input third leaves h =
    let last : Progress = run meanings input StorGrp third in
    let listed : groups_part meanings input third ≡ end_with_groups last.values.groups last = passes_one (exit_stop StorGrp last.ending) last _ (exit_stops StorGrp last.ending) h in
    let grouped : Grouped last.values.groups last (end_with_groups last.values.groups last) = is_grouped last.values.groups last (ap (λ (c : Classes). c.stop) (sym listed) ∙ h) in
    let same : (groups_part meanings input third).values ≡ last.values = ap (λ (c : Classes). c.values) listed ∙ grouped.values in
    record {
      dataclas = ap (λ (v : Values). v.dataclas) same ∙ leaves input third DataClas refl;
      storclas = ap (λ (v : Values). v.storclas) same ∙ leaves input third StorClas refl;
      mgmtclas = ap (λ (v : Values). v.mgmtclas) same ∙ leaves input third MgmtClas refl;
      groups = λ e. grouped.some (ap (λ (v : Values). v.groups) (sym same) ∙ e);
    }

-- of what stood behind the storage class routine
record FromSecond (config : Configuration) (second : Progress) (came : Classes) : Type 0 where
  dataclas : came.values.dataclas ≡ second.values.dataclas
  storclas : came.values.storclas ≡ second.values.storclas
  mgmtclas : class_stop config MgmtClas came.values.mgmtclas ≡ None
  groups : came.values.groups ≢ []

from_second : (config : Configuration) (meanings : Meanings) (input : Input) (second : Progress) → LeavesOthers meanings MgmtClas → LeavesOthers meanings StorGrp
    → (management_part config meanings input second).stop ≡ stops.Done → FromSecond config second (management_part config meanings input second)
from_second config meanings input second leaves after h =
    let third : Progress = run meanings input MgmtClas second in
    let passes : Passes (class_stop config MgmtClas third.values.mgmtclas) third (groups_part meanings input) (management_part config meanings input second) = passes_class config MgmtClas third (groups_part meanings input) h in
    let from : FromThird third (groups_part meanings input third) = from_third meanings input third after (ap (λ (c : Classes). c.stop) (sym passes.goes) ∙ h) in
    let same : (management_part config meanings input second).values ≡ (groups_part meanings input third).values = ap (λ (c : Classes). c.values) passes.goes in
    record {
      dataclas = ap (λ (v : Values). v.dataclas) same ∙ from.dataclas ∙ leaves input second DataClas refl;
      storclas = ap (λ (v : Values). v.storclas) same ∙ from.storclas ∙ leaves input second StorClas refl;
      mgmtclas = ap (λ class. class_stop config MgmtClas class) (ap (λ (v : Values). v.mgmtclas) same ∙ from.mgmtclas) ∙ passes.none;
      groups = λ e. from.groups (ap (λ (v : Values). v.groups) (sym same) ∙ e);
    }

-- of what stood behind the data class routine
record FromFirst (config : Configuration) (first : Progress) (came : Classes) : Type 0 where
  dataclas : came.values.dataclas ≡ first.values.dataclas
  storclas : known_class config StorClas came.values.storclas ≡ Some came.values.storclas
  mgmtclas : class_stop config MgmtClas came.values.mgmtclas ≡ None
  groups : came.values.groups ≢ []

from_first : (config : Configuration) (meanings : Meanings) (input : Input) (first : Progress) → LeavesOthers meanings StorClas → LeavesOthers meanings MgmtClas → LeavesOthers meanings StorGrp
    → (storage_part config meanings input first).stop ≡ stops.Done → FromFirst config first (storage_part config meanings input first)
from_first config meanings input first leaves after last h =
    let second : Progress = run meanings input StorClas first in
    let class : List ℕ = second.values.storclas in
    let passes : Passes (class_stop config StorClas class) second (λ second. if_managed second (management_part config meanings input)) (storage_part config meanings input first) = passes_class config StorClas second (λ second. if_managed second (management_part config meanings input)) h in
    let managed : Managed (is_null class) (management_part config meanings input second) (if_managed second (management_part config meanings input)) = is_managed (is_null class) second (management_part config meanings input second) (ap (λ (c : Classes). c.stop) (sym passes.goes) ∙ h) in
    let goes : storage_part config meanings input first ≡ management_part config meanings input second = passes.goes ∙ managed.goes in
    let from : FromSecond config second (management_part config meanings input second) = from_second config meanings input second after last (ap (λ (c : Classes). c.stop) (sym goes) ∙ h) in
    let same : (storage_part config meanings input first).values ≡ (management_part config meanings input second).values = ap (λ (c : Classes). c.values) goes in
    let known : known_class config StorClas class ≡ Some class = known_if (is_null class) (has_construct StorClas class config) StorClas class managed.not_null passes.none in
    let kept : (storage_part config meanings input first).values.storclas ≡ class = ap (λ (v : Values). v.storclas) same ∙ from.storclas in
    record {
      dataclas = ap (λ (v : Values). v.dataclas) same ∙ from.dataclas ∙ leaves input first DataClas refl;
      storclas = subst (λ (found : List ℕ). known_class config StorClas found ≡ Some found) (sym kept) known;
      mgmtclas = ap (λ (v : Values). class_stop config MgmtClas v.mgmtclas) same ∙ from.mgmtclas;
      groups = λ e. from.groups (ap (λ (v : Values). v.groups) (sym same) ∙ e);
    }

pub done_known : (config : Configuration) (meanings : Meanings) (input : Input) (start : Progress) → LeavesOthers meanings StorClas → LeavesOthers meanings MgmtClas → LeavesOthers meanings StorGrp
    → (classes_under config meanings input start).stop ≡ stops.Done → AreKnown config (classes_under config meanings input start).values
done_known config meanings input start leaves after last h =
    let first : Progress = run meanings input DataClas start in
    let passes : Passes (class_stop config DataClas first.values.dataclas) first (storage_part config meanings input) (classes_under config meanings input start) = passes_class config DataClas first (storage_part config meanings input) h in
    let from : FromFirst config first (storage_part config meanings input first) = from_first config meanings input first leaves after last (ap (λ (c : Classes). c.stop) (sym passes.goes) ∙ h) in
    let same : (classes_under config meanings input start).values ≡ (storage_part config meanings input first).values = ap (λ (c : Classes). c.values) passes.goes in
    let known : AreKnown config (storage_part config meanings input first).values = record {
      dataclas = ap (λ class. class_stop config DataClas class) from.dataclas ∙ passes.none;
      storclas = from.storclas;
      mgmtclas = from.mgmtclas;
      groups = from.groups;
    } in
    subst (λ (v : Values). AreKnown config v) (sym same) known
