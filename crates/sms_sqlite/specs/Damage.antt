-- Rows that stand for nothing, and the first of them (docs/manual/records.md, "Loading").
use Rattle.std.specs.Prelude.{ℕ, suc, List, [], ◌∷◌, Option, Some, None, is_some, option_map, if◌then◌else◌}
use Rattle.std.specs.Option.{option_or}
use Rattle.sqlite.specs.Order.{Row}
use Rattle.sms_keeper.specs.declared.table.Table.{Table}
use Rattle.sms_keeper.specs.declared.table.Table.TheVariants.{Sets, Replies, Decks, Statuses, Floors}
use Rattle.keeper_statements.specs.Order.{in_order, by_first, by_two}
use Rattle.keeper_statements.specs.Tables.{Tables}
use Rattle.sms_sqlite.specs.Values.{set_in, reply_in, deck_in, status_in, floor_in}

-- the place of the first row that stands for nothing
abbrev pub first_unread : {A B : Type 0} → (A → Option B) → List A → Option ℕ
first_unread read [] = None
first_unread read (row ∷ rows) = if is_some (read row) then option_map suc (first_unread read rows) else Some 0

-- the same with its table
abbrev pub unread_in : {B : Type 0} → Table → (Row → Option B) → List Row → Option (Table × ℕ)
unread_in table read rows = option_map (λ place. (table, place)) (first_unread read rows)

-- the rows of each table in the order of its keys
abbrev pub ordered : Tables → Tables
ordered t = record {
  sets = in_order by_first t.sets;
  replies = in_order by_two t.replies;
  decks = in_order by_first t.decks;
  statuses = in_order by_two t.statuses;
  floors = in_order by_first t.floors;
}

-- the first row that stands for nothing, in the order of the tables
abbrev pub damage_in : Tables → Option (Table × ℕ)
damage_in t =
    option_or (unread_in Sets set_in t.sets)
    (option_or (unread_in Replies reply_in t.replies)
    (option_or (unread_in Decks deck_in t.decks)
    (option_or (unread_in Statuses status_in t.statuses) (unread_in Floors floor_in t.floors))))
