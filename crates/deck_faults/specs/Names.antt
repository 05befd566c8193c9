-- Whether the names that a routine may set are known (docs/manual/tool.md, "Every fault of a deck").
use Rattle.std.specs.Prelude.{◌&&◌, not, List, [], Bool, true, false, Option, None, Some, is_some, map, if◌then◌else◌}
use Rattle.toml.specs.Data.{Data, Members, no_members, member, get_member, as_table}
use Rattle.dsn_mask.specs.Name.{is_name}
use Rattle.acs_tree.specs.declared.kind.Kind.{Kind}
use Rattle.acs_tree.specs.CheckedRoutine.{CheckedRoutine}
use Rattle.sms_construct.specs.declared.fault.Fault.{Fault}
use Rattle.sms_construct.specs.Keys.{key_of}
use Rattle.deck_meaning.specs.Layout.{unknown_fault}
use Rattle.deck_meaning.specs.Outcomes.{assigned_fault}
use Rattle.deck_meaning.specs.Tables.{top_rows, version_of}
use Rattle.deck_faults.specs.Survey.{alone}

-- each key is a construct name
abbrev pub are_names : Members → Bool
are_names no_members = true
are_names (member name value others) = is_name name && are_names others

-- a table, each key of which is a construct name
abbrev pub are_named : Option Members → Bool
are_named None = false
are_named (Some keys) = are_names keys

-- nothing, or such a table
abbrev pub is_named : Option Data → Bool
is_named None = true
is_named (Some value) = are_named (as_table value)

-- the top table has an unknown key, which may be one that was meant as another
abbrev pub has_unknown : Members → Bool
has_unknown top = is_some (unknown_fault [] (map (λ row. row.key) (top_rows (version_of top))) top)

-- the names of the constructs of a kind are known: none can stand under another key
abbrev pub names_known : Kind → Members → Bool
names_known kind top = not (has_unknown top) && is_named (get_member (key_of kind) top)

-- the fault of a routine that sets what is no construct of its kind, where their names are known
abbrev pub known_fault : Kind → Members → Option CheckedRoutine → Option Fault
known_fault kind top routine = if names_known kind top then assigned_fault kind top routine else None
