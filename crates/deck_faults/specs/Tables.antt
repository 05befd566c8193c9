-- The faults of each table of a deck (docs/manual/tool.md, "Every fault of a deck").
use Rattle.std.specs.Prelude.{List, [], ◌++◌, Option, codes, is_some, map, take, if◌then◌else◌}
use Rattle.std.specs.Option.{option_or}
use Rattle.toml.specs.Data.{Members, get_member}
use Rattle.dsn_mask.specs.Name.{is_name, is_volser}
use Rattle.acs_tree.specs.declared.kind.Kind.{Kind}
use Rattle.acs_tree.specs.declared.kind.Kind.TheVariants.{DataClas, StorClas, MgmtClas, StorGrp}
use Rattle.sms_construct.specs.declared.fault.Fault.{Fault}
use Rattle.sms_construct.specs.Keys.{key_of}
use Rattle.sms_construct.specs.Path.{below}
use Rattle.deck_meaning.specs.declared.version.Version.{Version}
use Rattle.deck_meaning.specs.declared.version.Version.TheVariants.{Two}
use Rattle.deck_meaning.specs.Limits.{most_group_volumes}
use Rattle.deck_meaning.specs.Layout.{Row, Walk, row_fault, rows_fault, unknown_fault}
use Rattle.deck_meaning.specs.Tables.{construct_walk, group_rows, most_constructs, routine_walk, top_rows, version_of}
use Rattle.deck_meaning.specs.Tables.{version_row, volume_walk}
use Rattle.deck_faults.specs.Survey.{Survey, alone, first_alone, inner_faults, names_faults}

-- the first fault of some keys of a table with fixed keys: an unknown key comes first, as in the whole table
abbrev pub own_keys : List Row → List Row → Walk
own_keys rows some path keys =
    option_or (unknown_fault path (map (λ row. row.key) rows) keys) (rows_fault path keys some)

-- the first fault of a storage group's keys but the last, its volumes
abbrev pub group_walk : Walk
group_walk = own_keys group_rows (take 6 group_rows)

-- the faults of the volumes of a storage group, each volume's first
abbrev pub volumes_survey : Survey
volumes_survey = names_faults most_group_volumes is_volser (first_alone volume_walk)

-- the faults of a storage group: the first of its own keys, then those of its volumes
abbrev pub group_survey : Survey
group_survey path keys =
    alone (group_walk path keys)
    ++ inner_faults volumes_survey (below path (codes "volume")) (get_member (codes "volume") keys)

-- the faults of a construct: of a class its first
abbrev pub construct_survey : Version → Kind → Survey
construct_survey version DataClas = first_alone (construct_walk version DataClas)
construct_survey version StorClas = first_alone (construct_walk version StorClas)
construct_survey version MgmtClas = first_alone (construct_walk version MgmtClas)
construct_survey version StorGrp = group_survey

-- the faults of the constructs of a kind, in byte order of their names
abbrev pub constructs_faults : Version → Kind → Survey
constructs_faults version kind path top =
    inner_faults (names_faults (most_constructs kind) is_name (construct_survey version kind))
    (below path (key_of kind)) (get_member (key_of kind) top)

-- the first fault of the table of routines
abbrev pub routine_faults : Survey
routine_faults path top =
    inner_faults (first_alone routine_walk) (below path (codes "routine")) (get_member (codes "routine") top)

-- the first fault of the keys of the top table that are no tables: an unknown key, the version, the names of system
-- and sysplex
abbrev pub head_walk : Version → Walk
head_walk version = own_keys (top_rows version) (take 3 (top_rows version))

-- the faults of the top table and of those inside
abbrev pub top_survey : Version → Survey
top_survey version path top =
    alone (head_walk version path top)
    ++ constructs_faults version DataClas path top
    ++ constructs_faults version StorClas path top
    ++ constructs_faults version MgmtClas path top
    ++ constructs_faults version StorGrp path top
    ++ routine_faults path top

-- the version by which the tables are read: where the deck's own is missing or wrong, the one that has every key, so
-- that no key is told as unknown for that alone
abbrev pub read_as : Members → Version
read_as top =
    if is_some (row_fault [] top version_row (get_member (codes "version") top)) then Two else version_of top

-- the faults of the top table and of those inside, of the deck
abbrev pub tables_faults : Members → List Fault
tables_faults top = top_survey (read_as top) [] top
