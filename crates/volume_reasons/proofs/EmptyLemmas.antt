-- A desk that has just activated a deck, and what it tells of an ALLOC.
use Rattle.std.proofs.Common.{◌≡◌, ℕ, true, false, List, [], codes, refl, sym, ap, ◌∙◌}
use Rattle.std.specs.Prelude.{None, Some, bytes_eq, filter, map}
use Rattle.std.specs.List.{list_any}
use Rattle.desk_common.specs.Steps.{◌⊳◌}
use Rattle.desk_law.specs.Allocation.{Wish, ask_of as primary_of, candidates_of, data_class_of, space_case}
use Rattle.desk_law.specs.Allocation.{space_of, wish_with}
use Rattle.desk_law.specs.Candidates.{Ask, view_of, want_of}
use Rattle.desk_law.specs.Classification.{Classes, answer_of, classes_of}
use Rattle.desk_law.specs.Lawful.{IsLawful}
use Rattle.desk_law.specs.Records.{empty_opening}
use Rattle.desk_law.specs.State.{DeskState, start_of}
use Rattle.desk_law.proofs.StatusLemmas.{lawful-activated}
use Rattle.desk_records.proofs.OpeningLemmas.{empty-sound}
use Rattle.sms_construct.specs.Configuration.{Configuration, IsConfiguration}
use Rattle.sms_construct.specs.Quantities.{Quantities}
use Rattle.sms_construct.specs.declared.alloc.Alloc.{Alloc}
use Rattle.sms_construct.specs.declared.stop.Stop.{Stop}
use Rattle.sms_construct.specs.declared.stop.Stop.TheVariants as stops
use Rattle.sms_volumes.specs.Holding.{AreVolumesOf, StandForSome}
use Rattle.sms_volumes.specs.declared.active_volumes.ActiveVolumes.{ActiveVolumes}
use Rattle.volume_reasons.specs.EmptyDesk.{empty_under}
use Rattle.volume_reasons.specs.Explained.{case_text, volumes_text}
use Rattle.volume_reasons.specs.Inner.Stops.{is_done}
use Rattle.volume_reasons.specs.VolumesText.{views_text}

-- The state.

pub lawful-empty : (config : Configuration) → IsConfiguration config → IsLawful (empty_under config)
lawful-empty config is = lawful-activated (start_of empty_opening) config empty-sound.lawful is refl

pub stands-empty : (config : Configuration) (volumes : ActiveVolumes) → IsConfiguration config → AreVolumesOf (empty_under config) volumes → StandForSome volumes
stands-empty config volumes is are = record { state = empty_under config; lawful = lawful-empty config is; stand = are }

-- What it tells.

stopped : (s : DeskState) (config : Configuration) (alloc : Alloc) (classes : Classes) (stop : Stop) → is_done stop ≡ false → case_text s (answer_of stop classes ⊳ λ classified. space_case alloc config classified) ≡ []
stopped s config alloc classes stops.Done off = absurd cc
stopped s config alloc classes stops.Unmanaged off = refl
stopped s config alloc classes (stops.Exit kind code) off = refl
stopped s config alloc classes (stops.Unknown kind name) off = refl
stopped s config alloc classes stops.NoGroup off = refl

done : (s : DeskState) (config : Configuration) (alloc : Alloc) (classes : Classes) (stop : Stop) → is_done stop ≡ true
    → case_text s (answer_of stop classes ⊳ λ classified. space_case alloc config classified) ≡ case_text s (space_case alloc config classes)
done s config alloc classes stops.Done on = refl
done s config alloc classes stops.Unmanaged on = absurd cc
done s config alloc classes (stops.Exit kind code) on = absurd cc
done s config alloc classes (stops.Unknown kind name) on = absurd cc
done s config alloc classes stops.NoGroup on = absurd cc

-- of an ALLOC whose classification stops nothing is told
pub stopped-text : (config : Configuration) (job : List ℕ) (alloc : Alloc) (stop : Stop) → stop ≡ (classes_of config job alloc).stop → is_done stop ≡ false → volumes_text config job alloc ≡ []
stopped-text config job alloc stop is off = stopped (empty_under config) config alloc (classes_of config job alloc) (classes_of config job alloc).stop (ap is_done (sym is) ∙ off)

-- of another what the space says
pub done-text : (config : Configuration) (job : List ℕ) (alloc : Alloc) (stop : Stop) → stop ≡ (classes_of config job alloc).stop → is_done stop ≡ true
    → volumes_text config job alloc ≡ case_text (empty_under config) (space_case alloc config (classes_of config job alloc))
done-text config job alloc stop is on = done (empty_under config) config alloc (classes_of config job alloc) (classes_of config job alloc).stop (ap is_done (sym is) ∙ on)

-- of one with a space its candidates
pub wish-text : (config : Configuration) (alloc : Alloc) (classes : Classes) (space : Quantities) (groups : List (List ℕ)) (ask : Ask) → space_of alloc (data_class_of config classes.values.dataclas) ≡ Some space
    → groups ≡ classes.values.groups → ask ≡ primary_of (wish_with alloc config classes space)
    → views_text (map (view_of (empty_under config) ask) (filter (λ volume. list_any (bytes_eq volume.group) groups) config.volumes)) (want_of ask) ≡ case_text (empty_under config) (space_case alloc config classes)
wish-text config alloc classes space groups ask there same asks =
    let s : DeskState = empty_under config in
    let wish : Wish = wish_with alloc config classes space in
    ap (λ (g : List (List ℕ)). views_text (map (view_of s ask) (filter (λ volume. list_any (bytes_eq volume.group) g) config.volumes)) (want_of ask)) same
    ∙ ap (λ (a : Ask). views_text (map (view_of s a) (candidates_of wish)) (want_of a)) asks
    ∙ (rw there refl)

-- of one without a space that there is none
pub spaceless-text : (config : Configuration) (alloc : Alloc) (classes : Classes) → space_of alloc (data_class_of config classes.values.dataclas) ≡ None
    → case_text (empty_under config) (space_case alloc config classes) ≡ codes "  NO QUANTITY\n"
spaceless-text config alloc classes none = rw none refl
