-- What lint finds in a deck (docs/manual/tool.md, "Linting a deck").
use Rattle.std.specs.Prelude.{◌&&◌, ◌||◌, ◌++◌, ℕ, Bool, true, false, List, [], ◌∷◌, Option, None, Some, find, flat_map, map}
use Rattle.std.specs.Prelude.{is_none, if◌then◌else◌}
use Rattle.std.specs.List.{list_any}
use Rattle.std.specs.Str.{bytes_eq}
use Rattle.acs_lint.specs.Findings.{findings_of}
use Rattle.acs_lint.specs.Uses.{may_be_set, values_of}
use Rattle.acs_lint.specs.declared.finding.Finding.{Finding}
use Rattle.acs_tree.specs.CheckedRoutine.{CheckedRoutine}
use Rattle.acs_tree.specs.declared.routine.Operand.{Operand}
use Rattle.acs_tree.specs.declared.kind.Kind.{Kind}
use Rattle.acs_tree.specs.declared.kind.Kind.TheVariants.{DataClas, StorClas, MgmtClas, StorGrp}
use Rattle.deck_meaning.specs.Layout.{table_at}
use Rattle.dsn_mask.specs.Name.{name_of}
use Rattle.sms_construct.specs.Configuration.{Configuration, routine_of}
use Rattle.sms_construct.specs.Keys.{key_of}
use Rattle.sms_construct.specs.declared.management_class.MgmtClass.{MgmtClass}
use Rattle.toml.specs.Data.{Members, member, no_members}
use Rattle.sms_construct.specs.declared.status.Status.{Status}
use Rattle.sms_construct.specs.declared.status.Status.TheVariants.{Enable, NotCon, DisAll, DisNew, QuiAll, QuiNew}
use Rattle.sms_construct.specs.declared.storage_group.StorGroup.{StorGroup}
use Rattle.sms_construct.specs.declared.volume.VolumeDef.{VolumeDef}
use Rattle.sms_lint.specs.declared.deck_finding.DeckFinding.{DeckFinding}
use Rattle.sms_lint.specs.declared.deck_finding.DeckFinding.TheVariants.{InRoutine, NeverExpires, NeverSet, NotEnabled}

-- findings on the routine of a kind
abbrev pub in_routine : Kind → List Finding → List DeckFinding
in_routine kind findings = map (λ (finding : Finding). InRoutine kind finding) findings

-- what is found in a routine; in a missing one nothing
abbrev pub found_in_routine : Kind → Option CheckedRoutine → List DeckFinding
found_in_routine kind None = []
found_in_routine kind (Some routine) = in_routine kind (findings_of routine.tree)

-- what is found in the routine of a kind
abbrev pub found_in_kind : Configuration → Kind → List DeckFinding
found_in_kind config kind = found_in_routine kind (routine_of kind config.routines)

-- the constructs of a kind that a deck's table names

-- the name that the bytes spell, if they spell one
abbrev pub name_if : Option (List ℕ) → List (List ℕ)
name_if None = []
name_if (Some name) = name ∷ []

-- the names among the keys of a table
abbrev pub names_among : Members → List (List ℕ)
names_among no_members = []
names_among (member key value others) = name_if (name_of key) ++ names_among others

-- the names of the constructs of a kind
abbrev pub names_in : Members → Kind → List (List ℕ)
names_in top kind = names_among (table_at (key_of kind) top)

-- the finding on a construct, where none of these values may be its name; no value is the null name
abbrev pub never_set : Kind → List Operand → List ℕ → List DeckFinding
never_set kind values name = if may_be_set name values || bytes_eq name [] then [] else NeverSet kind name ∷ []

-- the findings on constructs of a kind that this routine doesn't set; without one nothing
abbrev pub never_set_by : Kind → Option CheckedRoutine → List (List ℕ) → List DeckFinding
never_set_by kind None names = []
never_set_by kind (Some routine) names = flat_map (never_set kind (values_of routine.tree)) names

-- the findings on constructs of a kind that their routine doesn't set
abbrev pub never_set_in : Configuration → Members → Kind → List DeckFinding
never_set_in config top kind = never_set_by kind (routine_of kind config.routines) (names_in top kind)

-- the finding on a management class, if it is there, that names no days
abbrev pub never_expires_if : Option MgmtClass → List DeckFinding
never_expires_if None = []
never_expires_if (Some class) = if is_none class.expire_after then NeverExpires class.name ∷ [] else []

-- the finding on the management class of this name, if it names no days
abbrev pub never_expires : Configuration → List ℕ → List DeckFinding
never_expires config name = never_expires_if (find (λ class. bytes_eq name class.name) config.management_classes)

-- the status ENABLE
abbrev pub is_enabled : Status → Bool
is_enabled Enable = true
is_enabled NotCon = false
is_enabled DisAll = false
is_enabled DisNew = false
is_enabled QuiAll = false
is_enabled QuiNew = false

-- the volume is one of the storage group of this name, and enabled
abbrev pub is_enabled_in : List ℕ → VolumeDef → Bool
is_enabled_in name volume = bytes_eq name volume.group && is_enabled volume.status

-- the finding on a storage group, where none of these volumes is enabled and its own
abbrev pub not_enabled : List VolumeDef → StorGroup → List DeckFinding
not_enabled volumes group = if list_any (is_enabled_in group.name) volumes then [] else NotEnabled group.name ∷ []

-- what is found in the four routines, in the order in which they run
abbrev pub found_in_routines : Configuration → List DeckFinding
found_in_routines config =
    found_in_kind config DataClas ++ (found_in_kind config StorClas ++ (found_in_kind config MgmtClas ++
    found_in_kind config StorGrp))

-- the findings on constructs that their routines don't set
abbrev pub never_set_ones : Configuration → Members → List DeckFinding
never_set_ones config top =
    never_set_in config top DataClas ++ (never_set_in config top StorClas ++ (never_set_in config top MgmtClas ++
    never_set_in config top StorGrp))

-- what is found on constructs: what no routine sets, groups without an enabled volume, classes by which nothing expires
abbrev pub found_on_constructs : Configuration → Members → List DeckFinding
found_on_constructs config top =
    never_set_ones config top ++ (flat_map (not_enabled config.volumes) config.groups ++
    flat_map (never_expires config) (names_in top MgmtClas))

-- what is found in a configuration whose deck has this table: in its routines, then on its constructs
abbrev pub findings_in : Configuration → Members → List DeckFinding
findings_in config top = found_in_routines config ++ found_on_constructs config top
