-- What a keeper that loads its tables answers (docs/manual/records.md, "Loading").
use Rattle.std.specs.Prelude.{◌≡◌, ℕ, List, Option, Some, None, IfSome, IsSorted}
use Rattle.std.specs.Cmp.Lexicographic.{slice_cmp}
use Rattle.std.specs.declared.cmp.Ordering.{Ordering}
use Rattle.std.specs.Ordering.{nat_cmp, on, then_cmp}
use Rattle.sms_construct.specs.declared.data_set.DataSet.{DataSet}
use Rattle.sms_construct.specs.declared.target.Target.{Target}
use Rattle.sms_construct.specs.declared.target.Target.TheVariants as targets
use Rattle.sms_keeper.specs.declared.deck_row.DeckRow.{DeckRow}
use Rattle.sms_keeper.specs.declared.floor.Floor.{Floor}
use Rattle.sms_keeper.specs.declared.kept_row.KeptRow.{KeptRow}
use Rattle.sms_keeper.specs.declared.load_err.LoadErr.{LoadErr}
use Rattle.sms_keeper.specs.declared.load_err.LoadErr.TheVariants.{Failed, Damaged, NoMemory}
use Rattle.sms_keeper.specs.declared.rows.Rows.{Rows}
use Rattle.sms_keeper.specs.declared.status_row.StatusRow.{StatusRow}
use Rattle.sms_keeper.specs.declared.table.Table.{Table}
use Rattle.sms_keeper.specs.Tables.{AreSame}

-- texts by their bytes
abbrev pub text_cmp : List ℕ → List ℕ → Ordering
text_cmp = slice_cmp nat_cmp

-- data sets by name
abbrev pub by_name : DataSet → DataSet → Ordering
by_name = on (λ set. set.dsn) text_cmp

-- kept replies by job, and then by number
abbrev pub by_request : KeptRow → KeptRow → Ordering
by_request = then_cmp (on (λ row. row.job) text_cmp) (on (λ row. row.number) nat_cmp)

-- decks by number
abbrev pub by_count : DeckRow → DeckRow → Ordering
by_count = on (λ row. row.count) nat_cmp

-- storage groups come before volumes
abbrev pub target_rank : Target → ℕ
target_rank (targets.Group group) = 0
target_rank (targets.Volume volser) = 1
target_rank (targets.Set dsn) = 2

-- the name of a target
abbrev pub target_name : Target → List ℕ
target_name (targets.Group group) = group
target_name (targets.Volume volser) = volser
target_name (targets.Set dsn) = dsn

-- targets by kind, and then by name
abbrev pub target_cmp : Target → Target → Ordering
target_cmp = then_cmp (on target_rank nat_cmp) (on target_name text_cmp)

-- statuses by target
abbrev pub by_target : StatusRow → StatusRow → Ordering
by_target = on (λ row. row.target) target_cmp

-- floors by job
abbrev pub by_job : Floor → Floor → Ordering
by_job = on (λ row. row.job) text_cmp

-- each list stands in the order of its keys
pub record AreOrdered (rows : Rows) : Type 0 where
  pub sets : IsSorted by_name rows.sets
  pub replies : IsSorted by_request rows.replies
  pub decks : IsSorted by_count rows.decks
  pub statuses : IsSorted by_target rows.statuses
  pub floors : IsSorted by_job rows.floors

-- the told tables, in the order of their keys
pub record AreLoaded (told rows : Rows) : Type 0 where
  pub same : AreSame rows told
  pub ordered : AreOrdered rows

-- no tables are told, and the damage that is told is this row
pub record IsDamaged (told : Option Rows) (damage : Option (Table × ℕ)) (table : Table) (row : ℕ) : Type 0 where
  pub unknown : told ≡ None
  pub first : IfSome damage (λ found. found ≡ (table, row))

-- a refusal that names a row names the damage
abbrev pub NamesDamage : Option Rows → Option (Table × ℕ) → LoadErr → Type 0
NamesDamage told damage Failed = Unit {0}
NamesDamage told damage (Damaged table row) = IsDamaged told damage table row
NamesDamage told damage NoMemory = Unit {0}

-- damage that is told after the call was told before it
abbrev pub StaysDamaged : Option (Table × ℕ) → Option (Table × ℕ) → Type 0
StaysDamaged before after = IfSome after (λ found. before ≡ Some found)

-- damage that is told before the call and after it is the same
abbrev pub SameDamage : Option (Table × ℕ) → Option (Table × ℕ) → Type 0
SameDamage before after = IfSome before (λ found. IfSome after (λ still. still ≡ found))
