-- The faults of a table and of those inside it (docs/manual/tool.md, "Every fault of a deck").
use Rattle.std.specs.Prelude.{ℕ, List, [], ◌∷◌, ◌++◌, Bool, Option, None, Some, nat_le, if◌then◌else◌}
use Rattle.toml.specs.Data.{Data, Members, no_members, member, as_table}
use Rattle.sms_construct.specs.declared.fault.Fault.{Fault}
use Rattle.sms_construct.specs.declared.fault.Fault.TheVariants.{BadValue, BadName, TooMany}
use Rattle.sms_construct.specs.Path.{below}
use Rattle.deck_meaning.specs.Layout.{Walk, key_count}

-- the faults of a table at a path
abbrev pub Survey : Type 0
Survey = List ℕ → Members → List Fault

-- the fault, if there is one
abbrev pub alone : Option Fault → List Fault
alone None = []
alone (Some fault) = fault ∷ []

-- of a table the first fault alone
abbrev pub first_alone : Walk → Survey
first_alone walk path keys = alone (walk path keys)

-- the faults of what a name or a key stands for, which is to be a table
abbrev pub table_faults : Survey → List ℕ → Option Members → List Fault
table_faults survey path None = BadValue path ∷ []
table_faults survey path (Some keys) = survey path keys

-- the faults of one name; what stands under a key that is none isn't looked at
abbrev pub name_faults : (List ℕ → Bool) → Survey → List ℕ → List ℕ → Data → List Fault
name_faults is_name survey path name value =
    if is_name name then table_faults survey (below path name) (as_table value) else BadName (below path name) ∷ []

-- the faults of the names, in byte order
abbrev pub each_faults : (List ℕ → Bool) → Survey → Survey
each_faults is_name survey path no_members = []
each_faults is_name survey path (member name value others) =
    name_faults is_name survey path name value ++ each_faults is_name survey path others

-- the fault of a table of more names than so many
abbrev pub limit_fault : ℕ → Walk
limit_fault limit path keys = if nat_le (key_count keys) limit then None else Some (TooMany path)

-- the faults of a table of at most so many names
abbrev pub names_faults : ℕ → (List ℕ → Bool) → Survey → Survey
names_faults limit is_name survey path keys = alone (limit_fault limit path keys) ++ each_faults is_name survey path keys

-- the faults of what stands at a key, if anything does, which is to be a table
abbrev pub inner_faults : Survey → List ℕ → Option Data → List Fault
inner_faults survey path None = []
inner_faults survey path (Some value) = table_faults survey path (as_table value)
