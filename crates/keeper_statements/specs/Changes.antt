-- What each writing text does to the tables.
use Rattle.std.specs.Prelude.{ℕ, ℤ, List, [], ◌∷◌, ◌++◌}
use Rattle.sqlite_trees.specs.Tree.{put_row}
use Rattle.keeper_statements.specs.Tables.{Tables}
use Rattle.keeper_statements.specs.Tests.{set_row, reply_row, deck_row, status_row, floor_row, is_of, is_status}
use Rattle.keeper_statements.specs.Tests.{is_below, without}

-- the data set in place of the one of its name, or added
abbrev pub with_set : List ℕ → List ℕ → Tables → Tables
with_set dsn bytes t = record t { sets = without (is_of dsn) t.sets ++ set_row dsn bytes ∷ [] }

-- no data set of this name
abbrev pub without_set : List ℕ → Tables → Tables
without_set dsn t = record t { sets = without (is_of dsn) t.sets }

-- the row of a reply added
abbrev pub with_reply : List ℕ → ℤ → ℤ → List ℕ → List ℕ → Tables → Tables
with_reply job number place request reply t =
    record t { replies = t.replies ++ reply_row job number place request reply ∷ [] }

-- no reply of the job below this number
abbrev pub without_below : List ℕ → ℤ → Tables → Tables
without_below job limit t = record t { replies = without (is_below job limit) t.replies }

-- the deck put where its number belongs
abbrev pub with_deck : ℤ → List ℕ → Tables → Tables
with_deck count bytes t = record t { decks = put_row (deck_row count bytes) t.decks }

-- no status
abbrev pub without_statuses : Tables → Tables
without_statuses t = record t { statuses = [] }

-- a status added
abbrev pub with_status : ℤ → List ℕ → ℤ → Tables → Tables
with_status kind name status t = record t { statuses = t.statuses ++ status_row kind name status ∷ [] }

-- no status of this kind and name
abbrev pub without_status : ℤ → List ℕ → Tables → Tables
without_status kind name t = record t { statuses = without (is_status kind name) t.statuses }

-- the floor in place of the job's, or added
abbrev pub with_floor : List ℕ → ℤ → Tables → Tables
with_floor job floor t = record t { floors = without (is_of job) t.floors ++ floor_row job floor ∷ [] }

-- the tables as they are made: without rows
abbrev pub empty_tables : Tables
empty_tables = record { sets = []; replies = []; decks = []; statuses = []; floors = [] }
