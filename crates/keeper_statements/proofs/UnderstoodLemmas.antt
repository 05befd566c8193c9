-- What a text on one table is understood as, whatever other tables there are.
use Rattle.std.proofs.Common.{◌≡◌, ◌+◌, ◌^◌, ◌&&◌, ◌-◌, ℕ, pos, negsuc, true, false, cond, List, [], ◌∷◌, Ok, Err, Some}
use Rattle.std.proofs.Common.{None, Option, slice_get, refl, sym, ap, subst, ◌∙◌, arith, nat_le, nat_lt}
use Rattle.std.specs.Prelude.{option_and_then, option_map, unwrap_or}
use Rattle.std.proofs.lemmas.Bool.{lt-leb, lt-ltb}
use Rattle.sqlite.specs.declared.types.Value.TheVariants.{Int}
use Rattle.sqlite.specs.Command.{Command}
use Rattle.sqlite.specs.Command.TheVariants.{Insert, InsertOr, Delete, Select}
use Rattle.sqlite.specs.Listing.{if_select, listing_schema, misses_table, reads_listing, understood}
use Rattle.sqlite.specs.Query.{inner, end}
use Rattle.sqlite.specs.Schema.{Schema}
use Rattle.sqlite.specs.Source.{Source}
use Rattle.sqlite.specs.Table.{Table}
use Rattle.sqlite.specs.Term.{Term, lit, col}
use Rattle.sqlite.proofs.Callers.{IsPlain, command_of}
use Rattle.sqlite_ast.specs.declared.Expr.{Expr}
use Rattle.sqlite_ast.specs.declared.Rows.{Rows}
use Rattle.sqlite_ast.specs.declared.Rows.TheVariants as rows
use Rattle.sqlite_ast.specs.declared.Select.{Select as Asked}
use Rattle.sqlite_ast.specs.declared.Statement.{Statement}
use Rattle.sqlite_ast.specs.declared.Statement.TheVariants as written
use Rattle.sqlite_draft.specs.declared.join.Step.TheVariants.{Inner}
use Rattle.sqlite_draft.specs.declared.query.Draft.{Draft}
use Rattle.sqlite_draft.specs.Query.{query_of}
use Rattle.sqlite_resolve.specs.Body.{table_at}
use Rattle.sqlite_resolve.specs.Compile.{command, command_by, compiled, delete, first, formats_of, insert, insert_or}
use Rattle.sqlite_resolve.specs.Compile.{meaning, new_rows, on_table, planned, read, returning, returning_by, small}
use Rattle.sqlite_resolve.specs.Compile.{timed, timed_by, with_command}
use Rattle.sqlite_resolve.specs.Given.{upserts}
use Rattle.sqlite_resolve.specs.Lowering.{Checked, and_then, or_else}
use Rattle.sqlite_resolve.specs.Program.{Shown, program, query}
use Rattle.sqlite_resolve.specs.Scope.{Name}
use Rattle.sqlite_resolve.specs.Write.{deleted, simple}
use Rattle.sqlite_resolve.specs.declared.compiled.Compiled.{Compiled}
use Rattle.sqlite_resolve.specs.declared.error.CompileError.TheVariants.{NoSuchTable, Mismatch}
use Rattle.sqlite_schema.specs.declared.command.Conflict.{Conflict}
use Rattle.sqlite_schema.specs.declared.command.Returning.{Returning}
use Rattle.sqlite_schema.specs.declared.command.Upsert.{Upsert}
use Rattle.sqlite_schema.specs.declared.program.Program.{Program}
use Rattle.sqlite_schema.specs.declared.program.Table.{Table as Let}
use Rattle.sqlite_value.specs.declared.keys.Collation.{Collation}
use Rattle.sqlite_syntax.specs.declared.statement.Parsed.{Parsed}
use Rattle.sqlite_typing.specs.Types.{Slots, accepts_after, is_count, row_classes, table_classes}
use Rattle.sqlite_typing.specs.declared.class.Class.{Class}
use Rattle.keeper_statements.specs.Found.{placed, table_in}
use Rattle.keeper_statements.proofs.PlaceLemmas.{IsListed}

-- a text is understood as this command, with nothing besides
pub record Means (schema : Schema) (text : List ℕ) (k : Command) : Type 0 where
  pub is : command_of (understood schema text) ≡ k
  pub plain : IsPlain (understood schema text)
  pub unlisted : reads_listing schema text ≡ false

-- what was read of a text is this command under the schema
abbrev pub Reads : Schema → Command → Checked Parsed → Type 0
Reads schema k (Ok p) = (timed_by schema p.formats p.statement ≡ []) × (returning_by schema (small p.names + small []) p.statement ≡ Ok None) × (command_by schema p.formats (small p.names + small []) p.statement ≡ Ok k)
Reads schema k (Err e) = ⊥

module _ (schema : Schema) (text : List ℕ) (k : Command) where
  abbrev with_shown : Parsed → ℕ → Option Returning → Checked (Command × Option Returning)
  with_shown p base shown = and_then (command schema p.formats base p.statement) (λ c. Ok (c, shown))

  abbrev with_formats : Parsed → List Name → Checked (List Name × (Command × Option Returning))
  with_formats p formats = and_then (meaning schema p (small p.names + small formats)) (λ found. Ok (formats, found))

  abbrev with_plan : Parsed → Checked (List Name × (Command × Option Returning)) → Checked Compiled
  with_plan p found = and_then found (λ q. Ok (with_command p q))

  abbrev plan : List Name × (Command × Option Returning)
  plan = ([], (k, None))

  means_by : (p : Parsed) → first text ≡ Ok p → Reads schema k (Ok p) → Means schema text k
  unfolding understood compiled planned meaning timed returning command
  means_by p read reads =
      let base = small p.names + small [] in
      let meant : meaning schema p base ≡ Ok (k, None) = ap (λ r. and_then r (with_shown p base)) reads.1 ∙ ap (λ (r : Checked Command). and_then r (λ c. Ok (c, None))) reads.2 in
      let plans : planned schema p ≡ Ok plan = ap (with_formats p) reads.0 ∙ ap (λ (r : Checked (Command × Option Returning)). and_then r (λ found. Ok ([], found))) meant in
      let c = with_command p plan in
      let is : compiled schema text ≡ Ok c = ap (λ (r : Checked Parsed). and_then r (λ q. with_plan q (planned schema q))) read ∙ ap (with_plan p) plans in
      let known : understood schema text ≡ Ok c = ap (λ (r : Checked Compiled). cond (misses_table r) (if_select (compiled listing_schema text)) r) is in
      record { is = ap command_of known; plain = subst IsPlain (sym known) (refl, refl); unlisted = ap misses_table is }

  pub means_of : Reads schema k (first text) → Means schema text k
  means_of reads = by (first text) refl reads
    where
      by : (r : Checked Parsed) → first text ≡ r → Reads schema k r → Means schema text k
      by (Ok p) read reads = means_by p read reads
      by (Err e) read reads = absurd reads

pub formats_none : (form : Table) (tree : ℕ) (schema : Schema) (t : IsListed form tree schema) → formats_of schema form.name ≡ form.stamps.formats
formats_none form tree schema t =
    ap (λ o. unwrap_or (option_map (λ (u : Table). u.stamps.formats) (option_and_then (slice_get schema.tables) o)) []) t.named
    ∙ ap (λ o. unwrap_or (option_map (λ (u : Table). u.stamps.formats) o) []) t.listed

module _ (schema : Schema) (form : Table) (tree : ℕ) (t : IsListed form tree schema) where
  on_form : (f : ℕ → Table → Checked Command) (c : Checked Command) → f t.at (placed form tree) ≡ c → on_table schema form.name f ≡ c
  on_form f c is =
      ap (λ o. and_then (or_else o NoSuchTable) (λ at. and_then (table_at schema at) (f at))) t.named
      ∙ ap (λ o. and_then (or_else o NoSuchTable) (f t.at)) t.listed ∙ is

  pub inserted_as : (base : ℕ) (columns : List Name) (given : Rows) (s : Source) → new_rows schema (placed form tree) base columns given ≡ Ok s → insert schema base form.name columns given ≡ Ok (Insert t.at s)
  unfolding insert
  inserted_as base columns given s is =
      on_form (λ at table. and_then (new_rows schema table base columns given) (λ s. Ok (Insert at s))) (Ok (Insert t.at s)) (ap (λ (r : Checked Source). and_then r (λ s. Ok (Insert t.at s))) is)

  pub replaced_as : (way : Conflict) (base : ℕ) (columns : List Name) (given : Rows) (s : Source) → new_rows schema (placed form tree) base columns given ≡ Ok s
      → upserts schema t.at (placed form tree) base [] ≡ Ok [] → insert_or schema base way form.name columns given [] ≡ Ok (InsertOr t.at way s [])
  unfolding insert_or
  replaced_as way base columns given s is none =
      on_form (λ at table. and_then (new_rows schema table base columns given) (λ s. and_then (upserts schema at table base []) (λ found. Ok (InsertOr at way s found)))) (Ok (InsertOr t.at way s []))
      (ap (λ (r : Checked Source). and_then r (λ s. and_then (upserts schema t.at (placed form tree) base []) (λ found. Ok (InsertOr t.at way s found)))) is
      ∙ ap (λ (r : Checked (List Upsert)). and_then r (λ found. Ok (InsertOr t.at way s found))) none)

  pub deleted_as : (test : Option Expr) (d : Draft) (p : Program) → deleted schema t.at (placed form tree) test ≡ Ok d → program schema [] d ≡ Ok p → delete schema form.name test ≡ Ok (Delete t.at p)
  unfolding delete
  deleted_as test d p drafted programmed =
      on_form (λ at table. and_then (deleted schema at table test) (λ d. and_then (program schema [] d) (λ p. Ok (Delete at p)))) (Ok (Delete t.at p))
      (ap (λ (r : Checked Draft). and_then r (λ d. and_then (program schema [] d) (λ p. Ok (Delete t.at p)))) drafted ∙ ap (λ (r : Checked Program). and_then r (λ p. Ok (Delete t.at p))) programmed)

  -- the tree is none of the tables that a statement computes
  pub stored_tree : nat_le (2 ^ 31) tree ≡ false
  stored_tree = lt-leb (2 ^ 31) tree (omega (arith, t.low))

  pub low_tree : nat_lt tree (2 ^ 31) ≡ true
  low_tree = lt-ltb tree (2 ^ 31) (omega (arith, t.low))

  classes_are : table_classes schema [] tree ≡ Some (row_classes (placed form tree))
  classes_are =
      ap (λ b. cond b (slice_get [] (tree - 2 ^ 31)) (option_map row_classes (table_in schema tree))) stored_tree ∙ ap (option_map row_classes) t.apart

  abbrev slots_with : Option (List Class) → Option Slots
  slots_with o = option_and_then (λ (slots : Slots). Some slots) (option_map (λ row. row ∷ []) o)

  -- a query over the tree alone, whose terms suit the columns of the table
  pub program_is : (d : Draft) → (accepts_after [] (query_of d) (Some (row_classes (placed form tree) ∷ [])) && (is_count [] d.limit && is_count [] d.offset)) ≡ true
      → program schema [] (record d { from = inner tree end }) ≡ Ok (record { lets = []; body = query_of (record d { from = inner tree end }) })
  unfolding program
  program_is d accepted =
      let done : Program = record { lets = []; body = query_of (record d { from = inner tree end }) } in
      ap (λ o. cond (accepts_after [] (query_of d) (slots_with o) && (is_count [] d.limit && is_count [] d.offset)) (Ok done) (Err Mismatch)) classes_are
      ∙ ap (λ b. cond b (Ok done) (Err Mismatch)) accepted

-- the draft of what finds rows of a tree, as DELETE has it
abbrev pub draft_of : ℕ → List Term → Draft
draft_of tree terms = simple (Inner tree ∷ []) terms (col 1 0 ∷ [])

-- a program that finds the numbers of rows
abbrev pub deleting : ℕ → List Term → Program
deleting tree filter = record { lets = []; body = record { from = inner tree end; filter = filter; group = None; project = col 1 0 ∷ []; distinct = false; collations = []; order = []; limit = lit (Int (negsuc 0)); offset = lit (Int (pos 0)) } }

pub program_of : (schema : Schema) (form : Table) (tree : ℕ) (t : IsListed form tree schema) (terms : List Term)
    → (accepts_after [] (deleting tree terms).body (Some (row_classes (placed form tree) ∷ [])) && (is_count [] (lit (Int (negsuc 0))) && is_count [] (lit (Int (pos 0))))) ≡ true
    → program schema [] (draft_of tree terms) ≡ Ok (deleting tree terms)
program_of schema form tree t terms accepted = program_is schema form tree t (draft_of tree terms) accepted

-- the parts of what was read of a text
abbrev pub base_of : Checked Parsed → ℕ
base_of (Ok p) = small p.names + small []
base_of (Err e) = 0

abbrev columns_by : Statement → List Name
columns_by (written.Insert how name columns given clauses shown) = columns
columns_by _ = []

abbrev pub columns_of : Checked Parsed → List Name
columns_of (Ok p) = columns_by p.statement
columns_of (Err e) = []

abbrev rows_by : Statement → Rows
rows_by (written.Insert how name columns given clauses shown) = given
rows_by _ = rows.Defaults

abbrev pub rows_of : Checked Parsed → Rows
rows_of (Ok p) = rows_by p.statement
rows_of (Err e) = rows.Defaults

abbrev test_by : Statement → Option Expr
test_by (written.Delete name test shown) = test
test_by _ = None

abbrev pub test_of : Checked Parsed → Option Expr
test_of (Ok p) = test_by p.statement
test_of (Err e) = None

-- a query of this draft
pub selected_as : (schema : Schema) (s : Asked) (d : Draft) (names : List Name) (by : List (Option Collation)) (p : Program)
    → query schema s ≡ Ok ((d, names, by), []) → program schema [] d ≡ Ok p → read schema s ≡ Ok (Select p names)
unfolding read
selected_as schema s d names by p asked programmed =
    ap (λ (r : Checked (Shown × List Let)). and_then r (λ q. and_then (program schema q.1 q.0.0) (λ p. Ok (Select p q.0.1)))) asked ∙ ap (λ (r : Checked Program). and_then r (λ p. Ok (Select p names))) programmed
