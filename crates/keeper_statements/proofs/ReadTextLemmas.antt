-- What the reading texts are understood as, where their tables are found by name.
use Rattle.std.proofs.Common.{◌≡◌, ℕ, pos, negsuc, List, [], ◌∷◌, codes, true, false, map, Ok, Err, Some, None, Option}
use Rattle.std.proofs.Common.{refl}
use Rattle.sqlite.specs.Collation.TheVariants.{Binary}
use Rattle.sqlite.specs.Command.TheVariants.{Select}
use Rattle.sqlite.specs.Kind.TheVariants.{Integer, Text, Blob}
use Rattle.sqlite.specs.Query.{inner, end}
use Rattle.sqlite.specs.Schema.{Schema}
use Rattle.sqlite.specs.Term.{Term, lit, col, op2}
use Rattle.sqlite.specs.declared.types.Value.TheVariants.{Null, Int}
use Rattle.sqlite_ast.specs.declared.Binary.TheVariants as ops
use Rattle.sqlite_ast.specs.declared.Core.{Core, roll-Core}
use Rattle.sqlite_ast.specs.declared.Expr.{Expr}
use Rattle.sqlite_ast.specs.declared.Expr.TheVariants as written_as
use Rattle.sqlite_ast.specs.declared.Select.{Select as Asked, roll-Select}
use Rattle.sqlite_ast.specs.declared.Shown.TheVariants as shows
use Rattle.sqlite_ast.specs.declared.Sort.{Sort}
use Rattle.sqlite_ast.specs.declared.Statement.{Statement}
use Rattle.sqlite_ast.specs.declared.Statement.TheVariants as written
use Rattle.sqlite_draft.specs.declared.query.Draft.{Draft}
use Rattle.sqlite_resolve.specs.Body as body
use Rattle.sqlite_resolve.specs.Compile.{command_by, first, returning_by, timed_by}
use Rattle.sqlite_resolve.specs.Expr.{lower}
use Rattle.sqlite_resolve.specs.Lowering.{Checked, alone, nothing}
use Rattle.sqlite_resolve.specs.Order as ordering
use Rattle.sqlite_resolve.specs.Program.{program, query}
use Rattle.sqlite_resolve.specs.Scope.{Name, declared}
use Rattle.sqlite_resolve.specs.declared.scope.Output.{Output}
use Rattle.sqlite_schema.specs.Names.{same_name}
use Rattle.sqlite_schema.specs.declared.program.Program.{Program}
use Rattle.sqlite_sql.specs.declared.ops.BinaryOp.TheVariants.{Compare}
use Rattle.sqlite_sql.specs.declared.ops.CompareOp.TheVariants.{Gt}
use Rattle.sqlite_syntax.specs.declared.statement.Parsed.{Parsed}
use Rattle.sqlite_tied.specs.Compute.{everything}
use Rattle.sqlite_value.specs.declared.keys.Collation.{Collation}
use Rattle.sqlite_value.specs.declared.keys.Key.{Key}
use Rattle.keeper_statements.specs.Schema.{strict_column, sets_table, replies_table, decks_table, statuses_table}
use Rattle.keeper_statements.specs.Schema.{floors_table}
use Rattle.keeper_statements.proofs.ColumnLemmas.{Picked, looked, output_rowid, outputs_for, over, reading, shows_all}
use Rattle.keeper_statements.proofs.ColumnLemmas.{shows_rowid, sort_by, sorts_column, sorts_rowid}
use Rattle.keeper_statements.proofs.PlaceLemmas.{IsListed}
use Rattle.keeper_statements.proofs.SelectLemmas.{query_is, sorts_one, sorts_three, sorts_two, source_for}
use Rattle.keeper_statements.proofs.TextLemmas.{both, compared, first_is}
use Rattle.keeper_statements.proofs.UnderstoodLemmas.{Means, Reads, deleting, draft_of, means_of, program_is}
use Rattle.keeper_statements.proofs.UnderstoodLemmas.{program_of, selected_as}

abbrev pub sets_text : List ℕ
sets_text = codes "SELECT dsn, rec FROM sets ORDER BY dsn, rowid"

abbrev pub replies_text : List ℕ
replies_text = codes "SELECT job, number, place, request, reply FROM replies ORDER BY job, number, rowid"

abbrev pub decks_text : List ℕ
decks_text = codes "SELECT count, bytes FROM decks ORDER BY count"

abbrev pub statuses_text : List ℕ
statuses_text = codes "SELECT kind, name, status FROM statuses ORDER BY kind, name, rowid"

abbrev pub floors_text : List ℕ
floors_text = codes "SELECT job, floor FROM floors ORDER BY job, rowid"

abbrev pub above_text : List ℕ
above_text = codes "SELECT rowid FROM floors WHERE job = ?1 AND floor > ?2"

-- a column of the row to sort by
abbrev pub sorted_by : ℕ → Term × Key
sorted_by at = (col 1 at, record { collation = Binary; descending = false })

-- a program that shows these columns of all rows of a tree, in this order
abbrev pub selecting : ℕ → List Term → List (Term × Key) → Program
selecting tree project order = record { lets = []; body = record { from = inner tree end; filter = []; group = None; project = project; distinct = false; collations = []; order = order; limit = lit (Int (negsuc 0)); offset = lit (Int (pos 0)) } }

abbrev pub second_above : Term
second_above = op2 (Compare Gt Binary) (col 1 2) (col 0 1)

abbrev pub two_shown : List Term
two_shown = col 1 1 ∷ col 1 2 ∷ []

abbrev pub three_shown : List Term
three_shown = col 1 1 ∷ col 1 2 ∷ col 1 3 ∷ []

abbrev pub five_shown : List Term
five_shown = col 1 1 ∷ col 1 2 ∷ col 1 3 ∷ col 1 4 ∷ col 1 5 ∷ []

abbrev pub deck_shown : List Term
deck_shown = col 1 0 ∷ col 1 2 ∷ []

abbrev pub by_key : List (Term × Key)
by_key = sorted_by 1 ∷ sorted_by 0 ∷ []

abbrev pub by_two_keys : List (Term × Key)
by_two_keys = sorted_by 1 ∷ sorted_by 2 ∷ sorted_by 0 ∷ []

abbrev pub by_number : List (Term × Key)
by_number = sorted_by 0 ∷ []

-- the draft of such a program
abbrev reading_of : ℕ → List Term → List (Term × Key) → Draft
reading_of tree project order = record { from = inner tree end; filter = []; group = None; project = project; distinct = false; collations = []; order = order; limit = lit (Int (negsuc 0)); offset = lit (Int (pos 0)) }

-- the statement is a query of this draft
abbrev AsksBy : Schema → Draft → List Name → List (Option Collation) → Statement → Type 0
AsksBy schema d names by (written.Select s) = query schema s ≡ Ok ((d, names, by), [])
AsksBy schema d names by _ = ⊥

-- so is what was read of a text
abbrev Asks : Schema → Draft → List Name → List (Option Collation) → Checked Parsed → Type 0
Asks schema d names by (Ok p) = (p.formats ≡ []) × AsksBy schema d names by p.statement
Asks schema d names by (Err e) = ⊥

module _ (schema : Schema) (d : Draft) (names : List Name) (by : List (Option Collation)) (p : Program) (programmed : program schema [] d ≡ Ok p) where
  statement_reads : (formats : List Name) (base : ℕ) (it : Statement) → formats ≡ [] → AsksBy schema d names by it
      → (timed_by schema formats it ≡ []) × (returning_by schema base it ≡ Ok None) × (command_by schema formats base it ≡ Ok (Select p names))
  statement_reads formats base (written.Select s) none asks = (none, refl, selected_as schema s d names by p asks programmed)
  statement_reads formats base _ none asks = absurd asks

  asks_reads : (r : Checked Parsed) → Asks schema d names by r → Reads schema (Select p names) r
  asks_reads (Ok q) asks = statement_reads q.formats _ q.statement asks.0 asks.1
  asks_reads (Err e) asks = absurd asks

-- SELECT of columns of one table, as it is read
abbrev core_of : List Name → Name → Option Expr → Core
core_of names table filter = roll-Core (record { distinct = false; shown = map (λ n. shows.One (written_as.Column None n) None n) names; from = source_for table ∷ []; filter = filter; group = []; having = None })

abbrev select_of : Core → List Sort → Asked
select_of core order = roll-Select (record { with = []; first = core; others = []; order = order; limit = None; offset = None })

abbrev sets_picked : List Picked
sets_picked = record { name = codes "dsn"; place = 0; column = strict_column (codes "dsn") Text } ∷ record { name = codes "rec"; place = 1; column = strict_column (codes "rec") Blob } ∷ []

abbrev sets_outs : (schema : Schema) (tree : ℕ) → IsListed sets_table tree schema → List Output
sets_outs schema tree t = outputs_for schema sets_table tree t [] sets_picked

sets_sorted : (schema : Schema) (tree : ℕ) (t : IsListed sets_table tree schema)
    → ordering.sorts lower (over schema sets_table tree t (sets_outs schema tree t) false) (sets_outs schema tree t) (sort_by schema sets_table tree t (codes "dsn") ∷ sort_by schema sets_table tree t (codes "rowid") ∷ []) (reading 99998 (declared sets_table 1 (strict_column (codes "rec") Blob))) ≡ Ok (by_key, reading 99996 nothing)
unfolding same_name alone ordering.alias_in looked
sets_sorted schema tree t =
    sorts_two (over schema sets_table tree t (sets_outs schema tree t) false) (sets_outs schema tree t) (sort_by schema sets_table tree t (codes "dsn")) (sort_by schema sets_table tree t (codes "rowid")) (sorted_by 1) (sorted_by 0) (reading 99998 (declared sets_table 1 (strict_column (codes "rec") Blob))) (reading 99997 (declared sets_table 0 (strict_column (codes "dsn") Text))) (reading 99996 nothing)
    (sorts_column schema sets_table tree t (sets_outs schema tree t) [] (record { name = codes "dsn"; place = 0; column = strict_column (codes "dsn") Text }) 99998 (declared sets_table 1 (strict_column (codes "rec") Blob)) (record { named = refl; got = refl }) refl refl)
    (sorts_rowid schema sets_table tree t (sets_outs schema tree t) (sorted_by 1 ∷ []) 99997 (declared sets_table 0 (strict_column (codes "dsn") Text)) refl refl refl)

sets_query : (schema : Schema) (tree : ℕ) (t : IsListed sets_table tree schema)
    → query schema (select_of (core_of (codes "dsn" ∷ codes "rec" ∷ []) (codes "sets") None) (sort_by schema sets_table tree t (codes "dsn") ∷ sort_by schema sets_table tree t (codes "rowid") ∷ [])) ≡ Ok ((reading_of tree two_shown by_key, codes "dsn" ∷ codes "rec" ∷ [], Some Binary ∷ Some Binary ∷ []), [])
unfolding same_name body.tests looked
sets_query schema tree t =
    query_is schema sets_table tree t (core_of (codes "dsn" ∷ codes "rec" ∷ []) (codes "sets") None) (sets_outs schema tree t) None [] 99998 (declared sets_table 1 (strict_column (codes "rec") Blob)) (shows_all schema sets_table tree t sets_picked 100000 nothing (record { named = refl; got = refl }, (record { named = refl; got = refl }, tt)) (refl, (refl, tt))) refl refl refl refl refl 99998 (declared sets_table 1 (strict_column (codes "rec") Blob)) refl
    (sort_by schema sets_table tree t (codes "dsn") ∷ sort_by schema sets_table tree t (codes "rowid") ∷ []) by_key 99996 nothing (sets_sorted schema tree t) (select_of (core_of (codes "dsn" ∷ codes "rec" ∷ []) (codes "sets") None) (sort_by schema sets_table tree t (codes "dsn") ∷ sort_by schema sets_table tree t (codes "rowid") ∷ [])) refl refl refl refl refl refl

sets_asks : (schema : Schema) (tree : ℕ) (t : IsListed sets_table tree schema) → Asks schema (reading_of tree two_shown by_key) (codes "dsn" ∷ codes "rec" ∷ []) (Some Binary ∷ Some Binary ∷ []) (first sets_text)
unfolding everything
sets_asks schema tree t = (refl, sets_query schema tree t)

pub sets_means : (schema : Schema) (tree : ℕ) (t : IsListed sets_table tree schema) → Means schema sets_text (Select (selecting tree two_shown by_key) (codes "dsn" ∷ codes "rec" ∷ []))
sets_means schema tree t =
    means_of schema sets_text _ (asks_reads schema (reading_of tree two_shown by_key) (codes "dsn" ∷ codes "rec" ∷ []) (Some Binary ∷ Some Binary ∷ []) (selecting tree two_shown by_key)
    (program_is schema sets_table tree t (reading_of tree two_shown by_key) refl) (first sets_text) (sets_asks schema tree t))

abbrev replies_picked : List Picked
replies_picked = record { name = codes "job"; place = 0; column = strict_column (codes "job") Text } ∷ record { name = codes "number"; place = 1; column = strict_column (codes "number") Integer } ∷ record { name = codes "place"; place = 2; column = strict_column (codes "place") Integer } ∷ record { name = codes "request"; place = 3; column = strict_column (codes "request") Blob } ∷ record { name = codes "reply"; place = 4; column = strict_column (codes "reply") Blob } ∷ []

abbrev replies_outs : (schema : Schema) (tree : ℕ) → IsListed replies_table tree schema → List Output
replies_outs schema tree t = outputs_for schema replies_table tree t [] replies_picked

replies_sorted : (schema : Schema) (tree : ℕ) (t : IsListed replies_table tree schema)
    → ordering.sorts lower (over schema replies_table tree t (replies_outs schema tree t) false) (replies_outs schema tree t) (sort_by schema replies_table tree t (codes "job") ∷ sort_by schema replies_table tree t (codes "number") ∷ sort_by schema replies_table tree t (codes "rowid") ∷ []) (reading 99995 (declared replies_table 4 (strict_column (codes "reply") Blob))) ≡ Ok (by_two_keys, reading 99992 nothing)
unfolding same_name alone ordering.alias_in looked
replies_sorted schema tree t =
    sorts_three (over schema replies_table tree t (replies_outs schema tree t) false) (replies_outs schema tree t) (sort_by schema replies_table tree t (codes "job")) (sort_by schema replies_table tree t (codes "number")) (sort_by schema replies_table tree t (codes "rowid")) (sorted_by 1) (sorted_by 2) (sorted_by 0) (reading 99995 (declared replies_table 4 (strict_column (codes "reply") Blob))) (reading 99994 (declared replies_table 0 (strict_column (codes "job") Text))) (reading 99993 (declared replies_table 1 (strict_column (codes "number") Integer))) (reading 99992 nothing)
    (sorts_column schema replies_table tree t (replies_outs schema tree t) [] (record { name = codes "job"; place = 0; column = strict_column (codes "job") Text }) 99995 (declared replies_table 4 (strict_column (codes "reply") Blob)) (record { named = refl; got = refl }) refl refl)
    (sorts_column schema replies_table tree t (replies_outs schema tree t) (sorted_by 1 ∷ []) (record { name = codes "number"; place = 1; column = strict_column (codes "number") Integer }) 99994 (declared replies_table 0 (strict_column (codes "job") Text)) (record { named = refl; got = refl }) refl refl)
    (sorts_rowid schema replies_table tree t (replies_outs schema tree t) (sorted_by 1 ∷ sorted_by 2 ∷ []) 99993 (declared replies_table 1 (strict_column (codes "number") Integer)) refl refl refl)

replies_query : (schema : Schema) (tree : ℕ) (t : IsListed replies_table tree schema)
    → query schema (select_of (core_of (codes "job" ∷ codes "number" ∷ codes "place" ∷ codes "request" ∷ codes "reply" ∷ []) (codes "replies") None) (sort_by schema replies_table tree t (codes "job") ∷ sort_by schema replies_table tree t (codes "number") ∷ sort_by schema replies_table tree t (codes "rowid") ∷ [])) ≡ Ok ((reading_of tree five_shown by_two_keys, codes "job" ∷ codes "number" ∷ codes "place" ∷ codes "request" ∷ codes "reply" ∷ [], Some Binary ∷ Some Binary ∷ Some Binary ∷ Some Binary ∷ Some Binary ∷ []), [])
unfolding same_name body.tests looked
replies_query schema tree t =
    query_is schema replies_table tree t (core_of (codes "job" ∷ codes "number" ∷ codes "place" ∷ codes "request" ∷ codes "reply" ∷ []) (codes "replies") None) (replies_outs schema tree t) None [] 99995 (declared replies_table 4 (strict_column (codes "reply") Blob)) (shows_all schema replies_table tree t replies_picked 100000 nothing (record { named = refl; got = refl }, (record { named = refl; got = refl }, (record { named = refl; got = refl }, (record { named = refl; got = refl }, (record { named = refl; got = refl }, tt))))) (refl, (refl, (refl, (refl, (refl, tt)))))) refl refl refl refl refl 99995 (declared replies_table 4 (strict_column (codes "reply") Blob)) refl
    (sort_by schema replies_table tree t (codes "job") ∷ sort_by schema replies_table tree t (codes "number") ∷ sort_by schema replies_table tree t (codes "rowid") ∷ []) by_two_keys 99992 nothing (replies_sorted schema tree t) (select_of (core_of (codes "job" ∷ codes "number" ∷ codes "place" ∷ codes "request" ∷ codes "reply" ∷ []) (codes "replies") None) (sort_by schema replies_table tree t (codes "job") ∷ sort_by schema replies_table tree t (codes "number") ∷ sort_by schema replies_table tree t (codes "rowid") ∷ [])) refl refl refl refl refl refl

replies_asks : (schema : Schema) (tree : ℕ) (t : IsListed replies_table tree schema) → Asks schema (reading_of tree five_shown by_two_keys) (codes "job" ∷ codes "number" ∷ codes "place" ∷ codes "request" ∷ codes "reply" ∷ []) (Some Binary ∷ Some Binary ∷ Some Binary ∷ Some Binary ∷ Some Binary ∷ []) (first replies_text)
unfolding everything
replies_asks schema tree t = (refl, replies_query schema tree t)

pub replies_means : (schema : Schema) (tree : ℕ) (t : IsListed replies_table tree schema) → Means schema replies_text (Select (selecting tree five_shown by_two_keys) (codes "job" ∷ codes "number" ∷ codes "place" ∷ codes "request" ∷ codes "reply" ∷ []))
replies_means schema tree t =
    means_of schema replies_text _ (asks_reads schema (reading_of tree five_shown by_two_keys) (codes "job" ∷ codes "number" ∷ codes "place" ∷ codes "request" ∷ codes "reply" ∷ []) (Some Binary ∷ Some Binary ∷ Some Binary ∷ Some Binary ∷ Some Binary ∷ []) (selecting tree five_shown by_two_keys)
    (program_is schema replies_table tree t (reading_of tree five_shown by_two_keys) refl) (first replies_text) (replies_asks schema tree t))

abbrev decks_picked : List Picked
decks_picked = record { name = codes "count"; place = 0; column = record { name = codes "count"; kind = Integer; is_strict = true; not_null = false; default = Null; collation = Binary } } ∷ record { name = codes "bytes"; place = 1; column = strict_column (codes "bytes") Blob } ∷ []

abbrev decks_outs : (schema : Schema) (tree : ℕ) → IsListed decks_table tree schema → List Output
decks_outs schema tree t = outputs_for schema decks_table tree t [] decks_picked

decks_sorted : (schema : Schema) (tree : ℕ) (t : IsListed decks_table tree schema)
    → ordering.sorts lower (over schema decks_table tree t (decks_outs schema tree t) false) (decks_outs schema tree t) (sort_by schema decks_table tree t (codes "count") ∷ []) (reading 99998 (declared decks_table 1 (strict_column (codes "bytes") Blob))) ≡ Ok (by_number, reading 99997 (declared decks_table 0 (record { name = codes "count"; kind = Integer; is_strict = true; not_null = false; default = Null; collation = Binary })))
unfolding same_name alone ordering.alias_in looked
decks_sorted schema tree t =
    sorts_one (over schema decks_table tree t (decks_outs schema tree t) false) (decks_outs schema tree t) (sort_by schema decks_table tree t (codes "count")) (sorted_by 0) (reading 99998 (declared decks_table 1 (strict_column (codes "bytes") Blob))) (reading 99997 (declared decks_table 0 (record { name = codes "count"; kind = Integer; is_strict = true; not_null = false; default = Null; collation = Binary })))
    (sorts_column schema decks_table tree t (decks_outs schema tree t) [] (record { name = codes "count"; place = 0; column = record { name = codes "count"; kind = Integer; is_strict = true; not_null = false; default = Null; collation = Binary } }) 99998 (declared decks_table 1 (strict_column (codes "bytes") Blob)) (record { named = refl; got = refl }) refl refl)

decks_query : (schema : Schema) (tree : ℕ) (t : IsListed decks_table tree schema)
    → query schema (select_of (core_of (codes "count" ∷ codes "bytes" ∷ []) (codes "decks") None) (sort_by schema decks_table tree t (codes "count") ∷ [])) ≡ Ok ((reading_of tree deck_shown by_number, codes "count" ∷ codes "bytes" ∷ [], None ∷ Some Binary ∷ []), [])
unfolding same_name body.tests looked
decks_query schema tree t =
    query_is schema decks_table tree t (core_of (codes "count" ∷ codes "bytes" ∷ []) (codes "decks") None) (decks_outs schema tree t) None [] 99998 (declared decks_table 1 (strict_column (codes "bytes") Blob)) (shows_all schema decks_table tree t decks_picked 100000 nothing (record { named = refl; got = refl }, (record { named = refl; got = refl }, tt)) (refl, (refl, tt))) refl refl refl refl refl 99998 (declared decks_table 1 (strict_column (codes "bytes") Blob)) refl
    (sort_by schema decks_table tree t (codes "count") ∷ []) by_number 99997 (declared decks_table 0 (record { name = codes "count"; kind = Integer; is_strict = true; not_null = false; default = Null; collation = Binary })) (decks_sorted schema tree t) (select_of (core_of (codes "count" ∷ codes "bytes" ∷ []) (codes "decks") None) (sort_by schema decks_table tree t (codes "count") ∷ [])) refl refl refl refl refl refl

decks_asks : (schema : Schema) (tree : ℕ) (t : IsListed decks_table tree schema) → Asks schema (reading_of tree deck_shown by_number) (codes "count" ∷ codes "bytes" ∷ []) (None ∷ Some Binary ∷ []) (first decks_text)
unfolding everything
decks_asks schema tree t = (refl, decks_query schema tree t)

pub decks_means : (schema : Schema) (tree : ℕ) (t : IsListed decks_table tree schema) → Means schema decks_text (Select (selecting tree deck_shown by_number) (codes "count" ∷ codes "bytes" ∷ []))
decks_means schema tree t =
    means_of schema decks_text _ (asks_reads schema (reading_of tree deck_shown by_number) (codes "count" ∷ codes "bytes" ∷ []) (None ∷ Some Binary ∷ []) (selecting tree deck_shown by_number)
    (program_is schema decks_table tree t (reading_of tree deck_shown by_number) refl) (first decks_text) (decks_asks schema tree t))

abbrev statuses_picked : List Picked
statuses_picked = record { name = codes "kind"; place = 0; column = strict_column (codes "kind") Integer } ∷ record { name = codes "name"; place = 1; column = strict_column (codes "name") Text } ∷ record { name = codes "status"; place = 2; column = strict_column (codes "status") Integer } ∷ []

abbrev statuses_outs : (schema : Schema) (tree : ℕ) → IsListed statuses_table tree schema → List Output
statuses_outs schema tree t = outputs_for schema statuses_table tree t [] statuses_picked

statuses_sorted : (schema : Schema) (tree : ℕ) (t : IsListed statuses_table tree schema)
    → ordering.sorts lower (over schema statuses_table tree t (statuses_outs schema tree t) false) (statuses_outs schema tree t) (sort_by schema statuses_table tree t (codes "kind") ∷ sort_by schema statuses_table tree t (codes "name") ∷ sort_by schema statuses_table tree t (codes "rowid") ∷ []) (reading 99997 (declared statuses_table 2 (strict_column (codes "status") Integer))) ≡ Ok (by_two_keys, reading 99994 nothing)
unfolding same_name alone ordering.alias_in looked
statuses_sorted schema tree t =
    sorts_three (over schema statuses_table tree t (statuses_outs schema tree t) false) (statuses_outs schema tree t) (sort_by schema statuses_table tree t (codes "kind")) (sort_by schema statuses_table tree t (codes "name")) (sort_by schema statuses_table tree t (codes "rowid")) (sorted_by 1) (sorted_by 2) (sorted_by 0) (reading 99997 (declared statuses_table 2 (strict_column (codes "status") Integer))) (reading 99996 (declared statuses_table 0 (strict_column (codes "kind") Integer))) (reading 99995 (declared statuses_table 1 (strict_column (codes "name") Text))) (reading 99994 nothing)
    (sorts_column schema statuses_table tree t (statuses_outs schema tree t) [] (record { name = codes "kind"; place = 0; column = strict_column (codes "kind") Integer }) 99997 (declared statuses_table 2 (strict_column (codes "status") Integer)) (record { named = refl; got = refl }) refl refl)
    (sorts_column schema statuses_table tree t (statuses_outs schema tree t) (sorted_by 1 ∷ []) (record { name = codes "name"; place = 1; column = strict_column (codes "name") Text }) 99996 (declared statuses_table 0 (strict_column (codes "kind") Integer)) (record { named = refl; got = refl }) refl refl)
    (sorts_rowid schema statuses_table tree t (statuses_outs schema tree t) (sorted_by 1 ∷ sorted_by 2 ∷ []) 99995 (declared statuses_table 1 (strict_column (codes "name") Text)) refl refl refl)

statuses_query : (schema : Schema) (tree : ℕ) (t : IsListed statuses_table tree schema)
    → query schema (select_of (core_of (codes "kind" ∷ codes "name" ∷ codes "status" ∷ []) (codes "statuses") None) (sort_by schema statuses_table tree t (codes "kind") ∷ sort_by schema statuses_table tree t (codes "name") ∷ sort_by schema statuses_table tree t (codes "rowid") ∷ [])) ≡ Ok ((reading_of tree three_shown by_two_keys, codes "kind" ∷ codes "name" ∷ codes "status" ∷ [], Some Binary ∷ Some Binary ∷ Some Binary ∷ []), [])
unfolding same_name body.tests looked
statuses_query schema tree t =
    query_is schema statuses_table tree t (core_of (codes "kind" ∷ codes "name" ∷ codes "status" ∷ []) (codes "statuses") None) (statuses_outs schema tree t) None [] 99997 (declared statuses_table 2 (strict_column (codes "status") Integer)) (shows_all schema statuses_table tree t statuses_picked 100000 nothing (record { named = refl; got = refl }, (record { named = refl; got = refl }, (record { named = refl; got = refl }, tt))) (refl, (refl, (refl, tt)))) refl refl refl refl refl 99997 (declared statuses_table 2 (strict_column (codes "status") Integer)) refl
    (sort_by schema statuses_table tree t (codes "kind") ∷ sort_by schema statuses_table tree t (codes "name") ∷ sort_by schema statuses_table tree t (codes "rowid") ∷ []) by_two_keys 99994 nothing (statuses_sorted schema tree t) (select_of (core_of (codes "kind" ∷ codes "name" ∷ codes "status" ∷ []) (codes "statuses") None) (sort_by schema statuses_table tree t (codes "kind") ∷ sort_by schema statuses_table tree t (codes "name") ∷ sort_by schema statuses_table tree t (codes "rowid") ∷ [])) refl refl refl refl refl refl

statuses_asks : (schema : Schema) (tree : ℕ) (t : IsListed statuses_table tree schema) → Asks schema (reading_of tree three_shown by_two_keys) (codes "kind" ∷ codes "name" ∷ codes "status" ∷ []) (Some Binary ∷ Some Binary ∷ Some Binary ∷ []) (first statuses_text)
unfolding everything
statuses_asks schema tree t = (refl, statuses_query schema tree t)

pub statuses_means : (schema : Schema) (tree : ℕ) (t : IsListed statuses_table tree schema) → Means schema statuses_text (Select (selecting tree three_shown by_two_keys) (codes "kind" ∷ codes "name" ∷ codes "status" ∷ []))
statuses_means schema tree t =
    means_of schema statuses_text _ (asks_reads schema (reading_of tree three_shown by_two_keys) (codes "kind" ∷ codes "name" ∷ codes "status" ∷ []) (Some Binary ∷ Some Binary ∷ Some Binary ∷ []) (selecting tree three_shown by_two_keys)
    (program_is schema statuses_table tree t (reading_of tree three_shown by_two_keys) refl) (first statuses_text) (statuses_asks schema tree t))

abbrev floors_picked : List Picked
floors_picked = record { name = codes "job"; place = 0; column = strict_column (codes "job") Text } ∷ record { name = codes "floor"; place = 1; column = strict_column (codes "floor") Integer } ∷ []

abbrev floors_outs : (schema : Schema) (tree : ℕ) → IsListed floors_table tree schema → List Output
floors_outs schema tree t = outputs_for schema floors_table tree t [] floors_picked

floors_sorted : (schema : Schema) (tree : ℕ) (t : IsListed floors_table tree schema)
    → ordering.sorts lower (over schema floors_table tree t (floors_outs schema tree t) false) (floors_outs schema tree t) (sort_by schema floors_table tree t (codes "job") ∷ sort_by schema floors_table tree t (codes "rowid") ∷ []) (reading 99998 (declared floors_table 1 (strict_column (codes "floor") Integer))) ≡ Ok (by_key, reading 99996 nothing)
unfolding same_name alone ordering.alias_in looked
floors_sorted schema tree t =
    sorts_two (over schema floors_table tree t (floors_outs schema tree t) false) (floors_outs schema tree t) (sort_by schema floors_table tree t (codes "job")) (sort_by schema floors_table tree t (codes "rowid")) (sorted_by 1) (sorted_by 0) (reading 99998 (declared floors_table 1 (strict_column (codes "floor") Integer))) (reading 99997 (declared floors_table 0 (strict_column (codes "job") Text))) (reading 99996 nothing)
    (sorts_column schema floors_table tree t (floors_outs schema tree t) [] (record { name = codes "job"; place = 0; column = strict_column (codes "job") Text }) 99998 (declared floors_table 1 (strict_column (codes "floor") Integer)) (record { named = refl; got = refl }) refl refl)
    (sorts_rowid schema floors_table tree t (floors_outs schema tree t) (sorted_by 1 ∷ []) 99997 (declared floors_table 0 (strict_column (codes "job") Text)) refl refl refl)

floors_query : (schema : Schema) (tree : ℕ) (t : IsListed floors_table tree schema)
    → query schema (select_of (core_of (codes "job" ∷ codes "floor" ∷ []) (codes "floors") None) (sort_by schema floors_table tree t (codes "job") ∷ sort_by schema floors_table tree t (codes "rowid") ∷ [])) ≡ Ok ((reading_of tree two_shown by_key, codes "job" ∷ codes "floor" ∷ [], Some Binary ∷ Some Binary ∷ []), [])
unfolding same_name body.tests looked
floors_query schema tree t =
    query_is schema floors_table tree t (core_of (codes "job" ∷ codes "floor" ∷ []) (codes "floors") None) (floors_outs schema tree t) None [] 99998 (declared floors_table 1 (strict_column (codes "floor") Integer)) (shows_all schema floors_table tree t floors_picked 100000 nothing (record { named = refl; got = refl }, (record { named = refl; got = refl }, tt)) (refl, (refl, tt))) refl refl refl refl refl 99998 (declared floors_table 1 (strict_column (codes "floor") Integer)) refl
    (sort_by schema floors_table tree t (codes "job") ∷ sort_by schema floors_table tree t (codes "rowid") ∷ []) by_key 99996 nothing (floors_sorted schema tree t) (select_of (core_of (codes "job" ∷ codes "floor" ∷ []) (codes "floors") None) (sort_by schema floors_table tree t (codes "job") ∷ sort_by schema floors_table tree t (codes "rowid") ∷ [])) refl refl refl refl refl refl

floors_asks : (schema : Schema) (tree : ℕ) (t : IsListed floors_table tree schema) → Asks schema (reading_of tree two_shown by_key) (codes "job" ∷ codes "floor" ∷ []) (Some Binary ∷ Some Binary ∷ []) (first floors_text)
unfolding everything
floors_asks schema tree t = (refl, floors_query schema tree t)

pub floors_means : (schema : Schema) (tree : ℕ) (t : IsListed floors_table tree schema) → Means schema floors_text (Select (selecting tree two_shown by_key) (codes "job" ∷ codes "floor" ∷ []))
floors_means schema tree t =
    means_of schema floors_text _ (asks_reads schema (reading_of tree two_shown by_key) (codes "job" ∷ codes "floor" ∷ []) (Some Binary ∷ Some Binary ∷ []) (selecting tree two_shown by_key)
    (program_is schema floors_table tree t (reading_of tree two_shown by_key) refl) (first floors_text) (floors_asks schema tree t))

-- a job's floor above a number
abbrev above_test : Option Expr
above_test = both (compared ops.Eq (codes "job") 1) (compared ops.Gt (codes "floor") 2)

above_filtered : (schema : Schema) (tree : ℕ) (t : IsListed floors_table tree schema)
    → body.tests lower (over schema floors_table tree t (output_rowid schema floors_table tree t ∷ []) false) [] above_test (reading 99999 nothing) ≡ Ok (first_is ∷ second_above ∷ [], reading 99992 nothing)
unfolding everything
above_filtered schema tree t = simp t.listed

above_query : (schema : Schema) (tree : ℕ) (t : IsListed floors_table tree schema)
    → query schema (select_of (core_of (codes "rowid" ∷ []) (codes "floors") above_test) []) ≡ Ok ((draft_of tree (first_is ∷ second_above ∷ []), codes "rowid" ∷ [], None ∷ []), [])
unfolding same_name ordering.sorts looked
above_query schema tree t =
    query_is schema floors_table tree t (core_of (codes "rowid" ∷ []) (codes "floors") above_test) (output_rowid schema floors_table tree t ∷ []) above_test (first_is ∷ second_above ∷ []) 99999 nothing
    (shows_rowid schema floors_table tree t 100000 nothing refl refl refl) refl refl refl refl refl 99992 nothing (above_filtered schema tree t)
    [] [] 99992 nothing refl (select_of (core_of (codes "rowid" ∷ []) (codes "floors") above_test) []) refl refl refl refl refl refl

above_asks : (schema : Schema) (tree : ℕ) (t : IsListed floors_table tree schema) → Asks schema (draft_of tree (first_is ∷ second_above ∷ [])) (codes "rowid" ∷ []) (None ∷ []) (first above_text)
unfolding everything
above_asks schema tree t = (refl, above_query schema tree t)

pub above_means : (schema : Schema) (tree : ℕ) (t : IsListed floors_table tree schema) → Means schema above_text (Select (deleting tree (first_is ∷ second_above ∷ [])) (codes "rowid" ∷ []))
above_means schema tree t =
    means_of schema above_text _ (asks_reads schema (draft_of tree (first_is ∷ second_above ∷ [])) (codes "rowid" ∷ []) (None ∷ []) (deleting tree (first_is ∷ second_above ∷ []))
    (program_of schema floors_table tree t (first_is ∷ second_above ∷ []) refl) (first above_text) (above_asks schema tree t))
