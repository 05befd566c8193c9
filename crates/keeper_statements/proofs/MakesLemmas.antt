-- What each writing text makes of the tables.
use Rattle.std.proofs.Common.{◌≡◌, ◌&&◌, ◌||◌, cond, codes, ℕ, ℤ, Bool, true, false, not, List, [], ◌∷◌, ◌++◌, filter}
use Rattle.std.proofs.Common.{map, drop, Ok, None, Some, refl, sym, ap, ap₂, subst, ◌∙◌, inl, inr}
use Rattle.std.specs.List.{list_all, list_any}
use Rattle.std.proofs.lemmas.List.{map-append}
use Rattle.sqlite.specs.declared.types.Value.TheVariants.{Null, Int, Text, Blob}
use Rattle.sqlite.specs.Order.{Row}
use Rattle.sqlite.specs.State.{State, Executes}
use Rattle.sqlite.specs.Term.{holds}
use Rattle.sqlite_value.specs.Order.{column}
use Rattle.sqlite_value.specs.Keys.{first_key}
use Rattle.sqlite_trees.specs.Tree.{put_row}
use Rattle.sqlite_trees.proofs.ListLemmas.{filter-map}
use Rattle.sqlite_rules.specs.Edit.{next_rowid, is_taken}
use Rattle.sqlite.specs.Schema.{Schema}
use Rattle.sqlite.specs.Table.{Table}
use Rattle.sqlite_rules.specs.Keys.{conflicts, shares}
use Rattle.sqlite_schema.specs.Rules.{agree, guards}
use Rattle.sqlite_schema.specs.declared.schema.Index.{Index}
use Rattle.keeper_statements.specs.Changes.{with_set, without_set, with_reply, without_below, with_deck}
use Rattle.keeper_statements.specs.Changes.{without_statuses, with_status, without_status, with_floor}
use Rattle.keeper_statements.specs.Found.{keys_of, keys_on, placed}
use Rattle.keeper_statements.specs.Schema.{sets_table, replies_table, decks_table, statuses_table, floors_table}
use Rattle.keeper_statements.specs.Schema.{sets_columns, replies_columns, decks_columns, statuses_columns}
use Rattle.keeper_statements.specs.Schema.{floors_columns}
use Rattle.keeper_statements.specs.Steps.{Makes}
use Rattle.keeper_statements.specs.Tables.{IsKeyed, IsReady, bodies, tables_in}
use Rattle.keeper_statements.specs.Tests.{set_row, reply_row, deck_row, status_row, floor_row, is_of, is_status}
use Rattle.keeper_statements.specs.Tests.{is_below, is_equal, is_less, without, HasFound}
use Rattle.keeper_statements.proofs.TextLemmas as texts
use Rattle.keeper_statements.proofs.RowLemmas.{keyed_next, bodies_next, keyed_filter, keyed_push, keyed_put, next_above}
use Rattle.keeper_statements.proofs.RowLemmas.{cast_null, cast_int}
use Rattle.keeper_statements.proofs.FoundLemmas.{column_dropped, and_true, found_count}
use Rattle.keeper_statements.proofs.InsertLemmas.{inserts, Puts}
use Rattle.keeper_statements.proofs.ReplaceLemmas.{replaces, replaced}
use Rattle.keeper_statements.proofs.DeleteLemmas.{overlay_none, removes, Removes}
use Rattle.keeper_statements.proofs.EditLemmas.{acts_alone, rows_of_form}
use Rattle.keeper_statements.proofs.PlaceLemmas.{listed_of}
use Rattle.keeper_statements.proofs.TableLemmas.{makes_sets, makes_replies, makes_decks, makes_statuses, makes_floors}

-- the tests of SQL are those of the rows without their numbers
first_alike : (key : Row) (text : List ℕ) (r : Row) → list_all (holds ((Text text ∷ key) ∷ r ∷ [])) (texts.first_is ∷ []) ≡ is_of text (drop 1 r)
first_alike key text r = and_true _ ∙ ap (λ v. is_equal v (Text text)) (sym (column_dropped r 0))

below_alike : (job : List ℕ) (limit : ℤ) (r : Row) → list_all (holds ((Text job ∷ Int limit ∷ []) ∷ r ∷ [])) (texts.first_is ∷ texts.second_below ∷ []) ≡ is_below job limit (drop 1 r)
below_alike job limit r =
    ap (λ b. is_equal (column r 1) (Text job) && b) (and_true _)
    ∙ ap₂ (λ a b. is_equal a (Text job) && is_less b (Int limit)) (sym (column_dropped r 0)) (sym (column_dropped r 1))

status_alike : (kind : ℤ) (name : List ℕ) (r : Row) → list_all (holds ((Int kind ∷ Text name ∷ []) ∷ r ∷ [])) (texts.first_is ∷ texts.second_is ∷ []) ≡ is_status kind name (drop 1 r)
status_alike kind name r =
    ap (λ b. is_equal (column r 1) (Int kind) && b) (and_true _)
    ∙ ap₂ (λ a b. is_equal a (Int kind) && is_equal b (Text name)) (sym (column_dropped r 0)) (sym (column_dropped r 1))

any_alike : (r : Row) → list_all (holds ([] ∷ r ∷ [])) [] ≡ true
any_alike r = refl

none_left : (rows : List Row) → filter (λ r. not true) rows ≡ []
none_left [] = refl
none_left (r ∷ rows) = none_left rows

bodies_left : (q : Row → Bool) (rows : List Row) → bodies (filter (λ r. not (q (drop 1 r))) rows) ≡ without q (bodies rows)
bodies_left q rows = sym (filter-map (λ b. not (q b)) (drop 1) rows)

-- the row of the key is replaced by one that comes last
bodies_replaced : (key : List ℕ) (rest : Row) (rows : List Row) → bodies (replaced key rest rows) ≡ without (is_of key) (bodies rows) ++ rest ∷ []
bodies_replaced key rest rows =
    map-append (drop 1) (filter (λ r. not (is_of key (drop 1 r))) rows) ((Int (next_rowid rows) ∷ rest) ∷ [])
    ∙ ap (λ (l : List Row). l ++ rest ∷ []) (bodies_left (is_of key) rows)

keyed_replaced : (key : List ℕ) (rest : Row) (rows : List Row) → IsKeyed rows → IsKeyed (replaced key rest rows)
keyed_replaced key rest rows keyed =
    let p = λ (r : Row). not (is_of key (drop 1 r)) in
    keyed_push (filter p rows) (next_rowid rows) rest (keyed_filter p rows keyed)
    (λ r h. next_above rows keyed r (Rattle.sqlite_rules.proofs.ListLemmas.has_filtered p rows r h).0)

-- the rows that share a key of a table with a row, told by the keys alone
keys_share : (table : Table) (new r : Row) (indexes : List Index)
    → list_any (shares None table new r) indexes ≡ list_any (λ (k : List ℕ × ℕ). agree (record { digits = k.1 }) k.0 r k.0 new) (map (λ (i : Index). (i.columns, i.order.digits)) (filter (λ i. guards i table) indexes))
keys_share table new r [] = refl
keys_share table new r (i ∷ more) = by (guards i table) (keys_share table new r more)
  where
    agrees : List ℕ × ℕ → Bool
    agrees k = agree (record { digits = k.1 }) k.0 r k.0 new

    key : Index → List ℕ × ℕ
    key j = (j.columns, j.order.digits)

    by : (b : Bool) → list_any (shares None table new r) more ≡ list_any agrees (map key (filter (λ j. guards j table) more))
        → ((b && true && agree i.order i.columns r i.columns new) || list_any (shares None table new r) more) ≡ list_any agrees (map key (cond b (i ∷ filter (λ j. guards j table) more) (filter (λ j. guards j table) more)))
    by true same = ap (λ rest. agree i.order i.columns r i.columns new || rest) same
    by false same = same

-- in a table whose one key is its first column, a row conflicts by its number or by that column
key_conflict : (form : Table) (schema : Schema) (tree : ℕ) → keys_of form ≡ (1 ∷ [], 0) ∷ [] → keys_on schema (placed form tree) ≡ keys_of form → (new r : Row)
    → conflicts None schema.indexes (placed form tree) new r ≡ ((is_equal (column r 0) (column new 0) && true) || ((is_equal (column r 1) (column new 1) && true) || false))
unfolding first_key
key_conflict form schema tree is keys new r =
    ap (λ b. (is_equal (column r 0) (column new 0) && true) || b)
    (keys_share (placed form tree) new r schema.indexes ∙ ap (list_any (λ (k : List ℕ × ℕ). agree (record { digits = k.1 }) k.0 r k.0 new)) (keys ∙ is))

pub puts_set : (old new : State) (dsn bytes : List ℕ) (count : ℕ) → IsReady old.now → Executes texts.put_set_text (set_row dsn bytes) old new (Ok count) → Makes (with_set dsn bytes) old.now new.now
puts_set old new dsn bytes count ready h =
    let rest = set_row dsn bytes in
    let there = ready.sets.there in
    let t = listed_of sets_table old.now.schema ready.serves there in
    let edits = replaces t.at there.tree (codes "sets") sets_columns None (1 ∷ []) ((1 ∷ []) ∷ []) dsn (Blob bytes) texts.two_terms texts.put_set_text old new count (acts_alone sets_table old.now.schema (inl refl) ready.serves there)
    (key_conflict sets_table old.now.schema there.tree refl there.keys) (λ id. rw (cast_int id)) (rw cast_null) t.listed (texts.put_set_means old.now.schema there.tree t) refl ready.sets.keyed h in
    makes_sets (replaced dsn rest) (λ sets. without (is_of dsn) sets ++ rest ∷ []) old.now new.now ready edits
    (keyed_replaced dsn rest (old.now.trees there.tree) ready.sets.keyed) (bodies_replaced dsn rest (old.now.trees there.tree))

pub puts_floor : (old new : State) (job : List ℕ) (floor : ℤ) (count : ℕ) → IsReady old.now → Executes texts.floor_text (floor_row job floor) old new (Ok count) → Makes (with_floor job floor) old.now new.now
puts_floor old new job floor count ready h =
    let rest = floor_row job floor in
    let there = ready.floors.there in
    let t = listed_of floors_table old.now.schema ready.serves there in
    let edits = replaces t.at there.tree (codes "floors") floors_columns None (1 ∷ []) ((1 ∷ []) ∷ []) job (Int floor) texts.two_terms texts.floor_text old new count (acts_alone floors_table old.now.schema (inr (inr (inr (inr (inl refl))))) ready.serves there)
    (key_conflict floors_table old.now.schema there.tree refl there.keys) (λ id. rw (cast_int id, cast_int floor)) (rw (cast_null, cast_int floor)) t.listed (texts.floor_means old.now.schema there.tree t) refl ready.floors.keyed h in
    makes_floors (replaced job rest) (λ floors. without (is_of job) floors ++ rest ∷ []) old.now new.now ready edits
    (keyed_replaced job rest (old.now.trees there.tree) ready.floors.keyed) (bodies_replaced job rest (old.now.trees there.tree))

pub drops_set : (old new : State) (dsn : List ℕ) (count : ℕ) → IsReady old.now → Executes texts.drop_set_text (Text dsn ∷ []) old new (Ok count) → Makes (without_set dsn) old.now new.now
drops_set old new dsn count ready h =
    let p = λ (r : Row). is_of dsn (drop 1 r) in
    let there = ready.sets.there in
    let t = listed_of sets_table old.now.schema ready.serves there in
    let it = removes t.at there.tree (codes "sets") sets_columns None (1 ∷ []) ((1 ∷ []) ∷ []) (texts.first_is ∷ []) texts.drop_set_text (Text dsn ∷ []) p old new count
    t.listed (texts.drop_set_means old.now.schema there.tree t) (acts_alone sets_table old.now.schema (inl refl) ready.serves there) (first_alike [] dsn) (overlay_none there.tree) ready.sets.keyed h in
    makes_sets (filter (λ r. not (p r))) (without (is_of dsn)) old.now new.now ready it.edits
    (keyed_filter (λ r. not (p r)) (old.now.trees there.tree) ready.sets.keyed) (bodies_left (is_of dsn) (old.now.trees there.tree))

pub drops_below : (old new : State) (job : List ℕ) (limit : ℤ) (count : ℕ) → IsReady old.now → Executes texts.below_text (Text job ∷ Int limit ∷ []) old new (Ok count) → Makes (without_below job limit) old.now new.now
drops_below old new job limit count ready h =
    let p = λ (r : Row). is_below job limit (drop 1 r) in
    let there = ready.replies.there in
    let t = listed_of replies_table old.now.schema ready.serves there in
    let it = removes t.at there.tree (codes "replies") replies_columns None (1 ∷ 2 ∷ []) ((3 ∷ []) ∷ (1 ∷ 2 ∷ []) ∷ []) (texts.first_is ∷ texts.second_below ∷ []) texts.below_text
    (Text job ∷ Int limit ∷ []) p old new count t.listed (texts.below_means old.now.schema there.tree t) (acts_alone replies_table old.now.schema (inr (inl refl)) ready.serves there) (below_alike job limit) (overlay_none there.tree) ready.replies.keyed h in
    makes_replies (filter (λ r. not (p r))) (without (is_below job limit)) old.now new.now ready it.edits
    (keyed_filter (λ r. not (p r)) (old.now.trees there.tree) ready.replies.keyed) (bodies_left (is_below job limit) (old.now.trees there.tree))

pub clears_statuses : (old new : State) (count : ℕ) → IsReady old.now → Executes texts.clear_text [] old new (Ok count) → Makes without_statuses old.now new.now
clears_statuses old new count ready h =
    let there = ready.statuses.there in
    let t = listed_of statuses_table old.now.schema ready.serves there in
    let it = removes t.at there.tree (codes "statuses") statuses_columns None (1 ∷ 2 ∷ []) ((1 ∷ 2 ∷ []) ∷ []) [] texts.clear_text [] (λ r. true) old new count
    t.listed (texts.clear_means old.now.schema there.tree t) (acts_alone statuses_table old.now.schema (inr (inr (inr (inl refl)))) ready.serves there) any_alike (overlay_none there.tree) ready.statuses.keyed h in
    makes_statuses (filter (λ r. not true)) (λ rows. []) old.now new.now ready it.edits
    (keyed_filter (λ r. not true) (old.now.trees there.tree) ready.statuses.keyed) (ap bodies (none_left (old.now.trees there.tree)))

removes_status : (old new : State) (kind : ℤ) (name : List ℕ) (count : ℕ) (ready : IsReady old.now) → Executes texts.drop_status_text (Int kind ∷ Text name ∷ []) old new (Ok count)
    → Removes ready.statuses.there.tree (λ r. is_status kind name (drop 1 r)) old.now new.now count
removes_status old new kind name count ready h =
    let there = ready.statuses.there in
    let t = listed_of statuses_table old.now.schema ready.serves there in
    removes t.at there.tree (codes "statuses") statuses_columns None (1 ∷ 2 ∷ []) ((1 ∷ 2 ∷ []) ∷ []) (texts.first_is ∷ texts.second_is ∷ []) texts.drop_status_text
    (Int kind ∷ Text name ∷ []) (λ r. is_status kind name (drop 1 r)) old new count t.listed (texts.drop_status_means old.now.schema there.tree t) (acts_alone statuses_table old.now.schema (inr (inr (inr (inl refl)))) ready.serves there)
    (status_alike kind name) (overlay_none there.tree) ready.statuses.keyed h

pub drops_status : (old new : State) (kind : ℤ) (name : List ℕ) (count : ℕ) → IsReady old.now → Executes texts.drop_status_text (Int kind ∷ Text name ∷ []) old new (Ok count)
    → Makes (without_status kind name) old.now new.now
drops_status old new kind name count ready h =
    let p = λ (r : Row). is_status kind name (drop 1 r) in
    let rows = old.now.trees ready.statuses.there.tree in
    let it = removes_status old new kind name count ready h in
    makes_statuses (filter (λ r. not (p r))) (without (is_status kind name)) old.now new.now ready it.edits
    (keyed_filter (λ r. not (p r)) rows ready.statuses.keyed) (bodies_left (is_status kind name) rows)

pub counts_status : (old new : State) (kind : ℤ) (name : List ℕ) (count : ℕ) → IsReady old.now → Executes texts.drop_status_text (Int kind ∷ Text name ∷ []) old new (Ok count)
    → HasFound (is_status kind name) (tables_in old.now).statuses count
counts_status old new kind name count ready h =
    let it = removes_status old new kind name count ready h in
    subst (λ (rows : List Row). HasFound (is_status kind name) (bodies rows) count) (sym (rows_of_form statuses_table old.now ready.statuses.there))
    (found_count (is_status kind name) (old.now.trees ready.statuses.there.tree) it.found count ready.statuses.keyed it.is it.counted)

-- a row that gets the next number
abbrev next_row : Row → List Row → Row
next_row rest rows = Int (next_rowid rows) ∷ rest

pub adds_reply : (old new : State) (job : List ℕ) (number place : ℤ) (request reply : List ℕ) (count : ℕ) → IsReady old.now
    → Executes texts.reply_text (reply_row job number place request reply) old new (Ok count) → Makes (with_reply job number place request reply) old.now new.now
adds_reply old new job number place request reply count ready h =
    let rest = reply_row job number place request reply in
    let there = ready.replies.there in
    let t = listed_of replies_table old.now.schema ready.serves there in
    let it = inserts t.at there.tree (codes "replies") replies_columns None (1 ∷ 2 ∷ []) ((3 ∷ []) ∷ (1 ∷ 2 ∷ []) ∷ []) texts.five_terms 6 texts.reply_text rest (next_row rest) old new count
    t.listed (texts.reply_means old.now.schema there.tree t) (acts_alone replies_table old.now.schema (inr (inl refl)) ready.serves there) (λ rows. rw (cast_null, cast_int number, cast_int place)) h in
    makes_replies (λ rows. put_row (next_row rest rows) rows) (λ rows. rows ++ rest ∷ []) old.now new.now ready it.edits
    (keyed_next (old.now.trees there.tree) rest ready.replies.keyed) (bodies_next (old.now.trees there.tree) rest ready.replies.keyed)

pub adds_status : (old new : State) (kind : ℤ) (name : List ℕ) (status : ℤ) (count : ℕ) → IsReady old.now
    → Executes texts.status_text (status_row kind name status) old new (Ok count) → Makes (with_status kind name status) old.now new.now
adds_status old new kind name status count ready h =
    let rest = status_row kind name status in
    let there = ready.statuses.there in
    let t = listed_of statuses_table old.now.schema ready.serves there in
    let it = inserts t.at there.tree (codes "statuses") statuses_columns None (1 ∷ 2 ∷ []) ((1 ∷ 2 ∷ []) ∷ []) texts.three_terms 4 texts.status_text rest (next_row rest) old new count
    t.listed (texts.status_means old.now.schema there.tree t) (acts_alone statuses_table old.now.schema (inr (inr (inr (inl refl)))) ready.serves there) (λ rows. rw (cast_null, cast_int kind, cast_int status)) h in
    makes_statuses (λ rows. put_row (next_row rest rows) rows) (λ rows. rows ++ rest ∷ []) old.now new.now ready it.edits
    (keyed_next (old.now.trees there.tree) rest ready.statuses.keyed) (bodies_next (old.now.trees there.tree) rest ready.statuses.keyed)

inserts_deck : (old new : State) (number : ℤ) (bytes : List ℕ) (count : ℕ) (ready : IsReady old.now) → Executes texts.deck_text (Int number ∷ Blob bytes ∷ []) old new (Ok count)
    → Puts ready.decks.there.tree (λ rows. deck_row number bytes) old.now new.now
inserts_deck old new number bytes count ready h =
    let there = ready.decks.there in
    let t = listed_of decks_table old.now.schema ready.serves there in
    inserts t.at there.tree (codes "decks") decks_columns (Some 0) (0 ∷ []) [] texts.deck_terms 3 texts.deck_text (Int number ∷ Blob bytes ∷ []) (λ rows. deck_row number bytes) old new count
    t.listed (texts.deck_means old.now.schema there.tree t) (acts_alone decks_table old.now.schema (inr (inr (inl refl))) ready.serves there) (λ rows. rw (cast_null, cast_int number)) h

pub adds_deck : (old new : State) (number : ℤ) (bytes : List ℕ) (count : ℕ) → IsReady old.now → Executes texts.deck_text (Int number ∷ Blob bytes ∷ []) old new (Ok count)
    → Makes (with_deck number bytes) old.now new.now
adds_deck old new number bytes count ready h =
    let it = inserts_deck old new number bytes count ready h in
    makes_decks (put_row (deck_row number bytes)) (put_row (deck_row number bytes)) old.now new.now ready it.edits
    (keyed_put (old.now.trees ready.decks.there.tree) number (Null ∷ Blob bytes ∷ []) ready.decks.keyed) refl

pub deck_is_free : (old new : State) (number : ℤ) (bytes : List ℕ) (count : ℕ) → IsReady old.now → Executes texts.deck_text (Int number ∷ Blob bytes ∷ []) old new (Ok count)
    → is_taken (tables_in old.now).decks (deck_row number bytes) ≡ false
deck_is_free old new number bytes count ready h =
    ap (λ (rows : List Row). is_taken rows (deck_row number bytes)) (rows_of_form decks_table old.now ready.decks.there) ∙ (inserts_deck old new number bytes count ready h).free
