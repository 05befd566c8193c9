-- A value as the meaning of a routine sees it.
use Rattle.std.specs.Prelude.{ℕ, Bool, false, List, Option, Some, None}
use Rattle.dsn_mask.specs.Filter.{FilterLists, passes_filter}
use Rattle.acs_tree.specs.declared.input.Input.{Input}
use Rattle.acs_tree.specs.declared.values.Values.{Values}
use Rattle.acs_tree.specs.Value.{Value, Text, Number, Size, AnyOf, AllOf, Groups}
use Rattle.acs_run.specs.declared.value.Value.{Value as Held}
use Rattle.acs_run.specs.declared.value.Value.TheVariants as held

-- the volumes are the request's, and the groups those of the values so far
abbrev pub seen : Input → Values → Held → Value
seen input values (held.Text text) = Text text
seen input values (held.Number number) = Number number
seen input values (held.Size kilobytes) = Size kilobytes
seen input values held.AnyVolume = AnyOf input.volumes
seen input values held.AllVolumes = AllOf input.volumes
seen input values held.StorageGroups = Groups values.groups

-- the text passes the filter list, if there is one
abbrev pub passes_if_any : List ℕ → Option FilterLists → Bool
passes_if_any text None = false
passes_if_any text (Some lists) = passes_filter text lists.include lists.exclude
