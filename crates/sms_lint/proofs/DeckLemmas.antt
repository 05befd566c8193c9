-- Each finding in a deck is true.
use Rattle.std.proofs.Common.{◌≡◌, ◌&&◌, ◌||◌, ℕ, Bool, true, false, cond, List, [], ◌∷◌, ◌++◌, map, bytes_eq, refl, sym, ap, ◌∙◌, subst}
use Rattle.std.specs.Prelude.{Option, Some, None, find, flat_map, is_none, option_and_then, unwrap_or, if◌then◌else◌}
use Rattle.std.specs.Option.{option_or}
use Rattle.std.specs.List.{AllByRecursion, list_any}
use Rattle.std.proofs.lemmas.Slice.Eq.{bytes_eq-Decides}
use Rattle.acs_lint.proofs.FindingLemmas.{findings_true}
use Rattle.acs_lint.proofs.BoolLemmas.{never}
use Rattle.acs_lint.proofs.SetLemmas.{routine_keeps}
use Rattle.acs_lint.proofs.ListLemmas.{all_append, all_flat}
use Rattle.acs_lint.specs.Findings.{findings_of}
use Rattle.acs_lint.specs.Meant.{IsFinding}
use Rattle.acs_lint.specs.Uses.{may_be_set, values_of}
use Rattle.acs_lint.specs.declared.finding.Finding.{Finding}
use Rattle.acs_tree.specs.CheckedRoutine.{CheckedRoutine}
use Rattle.acs_tree.specs.Sound.{Among, here, there}
use Rattle.acs_tree.specs.declared.kind.Kind.{Kind}
use Rattle.acs_tree.specs.declared.kind.Kind.TheVariants.{DataClas, StorClas, MgmtClas, StorGrp}
use Rattle.sms_construct.specs.Configuration.{Configuration, routine_of}
use Rattle.sms_construct.specs.declared.data_set.DataSet.{DataSet}
use Rattle.sms_construct.specs.declared.management_class.MgmtClass.{MgmtClass}
use Rattle.sms_construct.specs.declared.storage_group.StorGroup.{StorGroup}
use Rattle.sms_manage.specs.Due.{class_of, due_of, has_passed, has_unused, is_releasing, lifetime_of}
use Rattle.sms_manage.specs.declared.wanted.Due.TheVariants.{Delete, Nothing, Release}
use Rattle.toml.specs.Data.{Members}
use Rattle.sms_lint.specs.DeckFound.{findings_in, found_in_kind, found_in_routine, found_in_routines, found_on_constructs, in_routine, is_enabled_in, names_in}
use Rattle.sms_lint.specs.DeckFound.{never_expires, never_expires_if, never_set, never_set_by, never_set_in, never_set_ones, not_enabled}
use Rattle.sms_lint.specs.DeckMeant.{IsDeckFinding}
use Rattle.sms_lint.specs.declared.deck_finding.DeckFinding.{DeckFinding}
use Rattle.sms_lint.specs.declared.deck_finding.DeckFinding.TheVariants.{NeverExpires, NeverSet, NotEnabled}

on_left : (a b : Bool) → a ≡ true → (a || b) ≡ true
on_left a b e = ap (λ (t : Bool). t || b) e

on_right : (a b : Bool) → b ≡ true → (a || b) ≡ true
on_right true b e = refl
on_right false b e = e

some_none : {A : Type 0} {x : A} → Some x ≡ None → ⊥
some_none e = cc

release_delete : Release ≡ Delete → ⊥
release_delete e = cc

nothing_delete : Nothing ≡ Delete → ⊥
nothing_delete e = cc

-- what is found is one of those that were looked at
found_among : {A : Type 0} (test : A → Bool) (items : List A) (item : A) → find test items ≡ Some item → Among item items
found_among test [] item e = absurd (some_none (sym e))
found_among test (x ∷ items) item e = step (λ f. found_among test items item f) (test x) e
  where
    step : (find test items ≡ Some item → Among item items) → (b : Bool) → cond b (Some x) (find test items) ≡ Some item → Among item (x ∷ items)
    step go true f = subst (λ y. Among y (x ∷ items)) (ap (λ o. unwrap_or o x) f) here
    step go false f = there (go f)

-- one of these groups is there
is_named : (group : StorGroup) (groups : List StorGroup) → Among group groups → list_any (bytes_eq group.name) (map (λ (g : StorGroup). g.name) groups) ≡ true
is_named group [] x' = elim x' [ ]
is_named group (first ∷ groups) here = on_left (bytes_eq group.name group.name) (list_any (bytes_eq group.name) (map (λ (g : StorGroup). g.name) groups)) ((bytes_eq-Decides group.name group.name).1 refl)
is_named group (first ∷ groups) (there m) = on_right (bytes_eq group.name first.name) (list_any (bytes_eq group.name) (map (λ (g : StorGroup). g.name) groups)) (is_named group groups m)

module _ (config : Configuration) where
  abbrev AreTrue : List DeckFinding → Type 0
  AreTrue findings = AllByRecursion (IsDeckFinding config) findings

  told_true : (kind : Kind) (routine : CheckedRoutine) → routine_of kind config.routines ≡ Some routine → (findings : List Finding) → AllByRecursion (IsFinding routine.tree) findings → AreTrue (in_routine kind findings)
  told_true kind routine e [] a = tt
  told_true kind routine e (finding ∷ findings) a = (record { routine = routine; of_kind = e; meant = a.0 }, told_true kind routine e findings a.1)

  routine_true : (kind : Kind) (routine : Option CheckedRoutine) → routine_of kind config.routines ≡ routine → AreTrue (found_in_routine kind routine)
  routine_true kind None e = tt
  routine_true kind (Some routine) e = told_true kind routine e (findings_of routine.tree) (findings_true routine.tree)

  kind_true : (kind : Kind) → AreTrue (found_in_kind config kind)
  kind_true kind = routine_true kind (routine_of kind config.routines) refl

  routines_true : AreTrue (found_in_routines config)
  routines_true =
      all_append (IsDeckFinding config) (found_in_kind config DataClas) (found_in_kind config StorClas ++ (found_in_kind config MgmtClas ++ found_in_kind config StorGrp)) (kind_true DataClas)
      (all_append (IsDeckFinding config) (found_in_kind config StorClas) (found_in_kind config MgmtClas ++ found_in_kind config StorGrp) (kind_true StorClas)
      (all_append (IsDeckFinding config) (found_in_kind config MgmtClas) (found_in_kind config StorGrp) (kind_true MgmtClas) (kind_true StorGrp)))

  never_true : (kind : Kind) (routine : CheckedRoutine) → routine_of kind config.routines ≡ Some routine → (name : List ℕ) → AreTrue (never_set kind (values_of routine.tree) name)
  never_true kind routine e name = step (may_be_set name (values_of routine.tree)) (bytes_eq name []) refl refl
    where
      step : (a b : Bool) → may_be_set name (values_of routine.tree) ≡ a → bytes_eq name [] ≡ b → AreTrue (if a || b then [] else NeverSet kind name ∷ [])
      step true b l n = tt
      step false true l n = tt
      step false false l n = (record { routine = routine; of_kind = e; never = routine_keeps name n routine.tree kind l }, tt)

  set_true : (kind : Kind) (routine : Option CheckedRoutine) → routine_of kind config.routines ≡ routine → (names : List (List ℕ)) → AreTrue (never_set_by kind routine names)
  set_true kind None e names = tt
  set_true kind (Some routine) e names = all_flat (IsDeckFinding config) (never_set kind (values_of routine.tree)) names (λ name m. never_true kind routine e name)

  set_in_true : (top : Members) (kind : Kind) → AreTrue (never_set_in config top kind)
  set_in_true top kind = set_true kind (routine_of kind config.routines) refl (names_in top kind)

  ones_true : (top : Members) → AreTrue (never_set_ones config top)
  ones_true top =
      all_append (IsDeckFinding config) (never_set_in config top DataClas) (never_set_in config top StorClas ++ (never_set_in config top MgmtClas ++ never_set_in config top StorGrp)) (set_in_true top DataClas)
      (all_append (IsDeckFinding config) (never_set_in config top StorClas) (never_set_in config top MgmtClas ++ never_set_in config top StorGrp) (set_in_true top StorClas)
      (all_append (IsDeckFinding config) (never_set_in config top MgmtClas) (never_set_in config top StorGrp) (set_in_true top MgmtClas) (set_in_true top StorGrp)))

  -- nothing is deleted without a lifetime
  not_deleted : (day : ℕ) (set : DataSet) (lifetime : Option ℕ) (releasing : Bool) → lifetime ≡ None → (if has_passed day set lifetime then Delete else (if releasing then Release else Nothing)) ≡ Delete → ⊥
  not_deleted day set (Some days) releasing e d = absurd (some_none e)
  not_deleted day set None true e d = release_delete d
  not_deleted day set None false e d = nothing_delete d

  no_lifetime : (set : DataSet) (class : MgmtClass) → class_of config set ≡ Some class → set.retpd ≡ None → class.expire_after ≡ None → lifetime_of config set ≡ None
  no_lifetime set class c r x =
      ap (λ (days : Option ℕ). option_or days (option_and_then (λ (m : MgmtClass). m.expire_after) (class_of config set))) r
      ∙ ap (λ (m : Option MgmtClass). option_and_then (λ (k : MgmtClass). k.expire_after) m) c ∙ x

  none_of : {A : Type 0} (o : Option A) → is_none o ≡ true → o ≡ None
  none_of None e = refl
  none_of (Some x) e = never e

  class_true : (name : List ℕ) (found : Option MgmtClass) → find (λ (class : MgmtClass). bytes_eq name class.name) config.management_classes ≡ found → AreTrue (never_expires_if found)
  class_true name None e = tt
  class_true name (Some class) e = step (is_none class.expire_after) refl
    where
      step : (b : Bool) → is_none class.expire_after ≡ b → AreTrue (if b then NeverExpires class.name ∷ [] else [])
      step true n = (
        record {
          class = class;
          name_is = refl;
          is_class = found_among (λ (m : MgmtClass). bytes_eq name m.name) config.management_classes class e;
          kept = λ set day c r d. not_deleted day set (lifetime_of config set) (is_releasing (class_of config set) && has_unused set) (no_lifetime set class c r (none_of class.expire_after n)) d;
        },
        tt,
      )
      step false n = tt

  enabled_true : (group : StorGroup) → Among group config.groups → AreTrue (not_enabled config.volumes group)
  enabled_true group m = step (list_any (is_enabled_in group.name) config.volumes) refl
    where
      step : (b : Bool) → list_any (is_enabled_in group.name) config.volumes ≡ b → AreTrue (if b then [] else NotEnabled group.name ∷ [])
      step true n = tt
      step false n = (record { is_group = is_named group config.groups m; none = n }, tt)

  constructs_true : (top : Members) → AreTrue (found_on_constructs config top)
  constructs_true top =
      all_append (IsDeckFinding config) (never_set_ones config top) (flat_map (not_enabled config.volumes) config.groups ++ flat_map (never_expires config) (names_in top MgmtClas)) (ones_true top)
      (all_append (IsDeckFinding config) (flat_map (not_enabled config.volumes) config.groups) (flat_map (never_expires config) (names_in top MgmtClas))
      (all_flat (IsDeckFinding config) (not_enabled config.volumes) config.groups enabled_true)
      (all_flat (IsDeckFinding config) (never_expires config) (names_in top MgmtClas) (λ name m. class_true name (find (λ (class : MgmtClass). bytes_eq name class.name) config.management_classes) refl)))

  pub deck_true : (top : Members) → AreTrue (findings_in config top)
  deck_true top = all_append (IsDeckFinding config) (found_in_routines config) (found_on_constructs config top) routines_true (constructs_true top)
