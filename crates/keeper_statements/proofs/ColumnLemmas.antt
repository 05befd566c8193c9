-- What the columns of one table stand for in a query over it, whatever other tables there are.
use Rattle.std.proofs.Common.{◌≡◌, ◌++◌, ◌-◌, ◌^◌, ℕ, Bool, true, false, cond, List, [], ◌∷◌, Ok, Some, None, codes}
use Rattle.std.proofs.Common.{map, nat_lt, slice_get, refl, ap, ◌∙◌}
use Rattle.std.specs.Prelude.{option_and_then, option_map}
use Rattle.std.specs.List.{AllByRecursion}
use Rattle.sqlite.specs.Schema.{Schema}
use Rattle.sqlite.specs.Table.{Table}
use Rattle.sqlite.specs.Term.{Term, col}
use Rattle.sqlite_ast.specs.declared.Expr.TheVariants as written
use Rattle.sqlite_ast.specs.declared.Shown.{Shown}
use Rattle.sqlite_ast.specs.declared.Shown.TheVariants as shows
use Rattle.sqlite_ast.specs.declared.Sort.{Sort, roll-Sort}
use Rattle.sqlite_resolve.specs.Body as body
use Rattle.sqlite_resolve.specs.Expr.{lower, lower_to, node, opened, passes}
use Rattle.sqlite_resolve.specs.Lowering.{alone, and_then, begin, finish, nothing, or_else, spend}
use Rattle.sqlite_resolve.specs.Order as ordering
use Rattle.sqlite_resolve.specs.Scope.{Context, Name, column, column_at, column_in, declared, find, hit, in_level}
use Rattle.sqlite_resolve.specs.Scope.{is_among, is_rowid, only, rowid_in, term_of}
use Rattle.sqlite_resolve.specs.declared.error.CompileError.TheVariants.{NoSuchColumn}
use Rattle.sqlite_resolve.specs.declared.scope.Bound.{Bound}
use Rattle.sqlite_resolve.specs.declared.scope.Found.TheVariants as found
use Rattle.sqlite_resolve.specs.declared.scope.Output.{Output}
use Rattle.sqlite_resolve.specs.declared.state.Carried.{Carried}
use Rattle.sqlite_resolve.specs.declared.state.State.{State}
use Rattle.sqlite_schema.specs.Names.{column_named, place_of, same_name}
use Rattle.sqlite_schema.specs.declared.schema.Column.{Column}
use Rattle.sqlite_value.specs.declared.keys.Key.{Key}
use Rattle.keeper_statements.specs.Found.{placed}
use Rattle.keeper_statements.proofs.PlaceLemmas.{IsListed}
use Rattle.keeper_statements.proofs.UnderstoodLemmas.{low_tree}

-- all that unfolds where a text's tree is looked into
unfoldable pub looked : Unit {0}
unfolding
    Rattle.sqlite_ast.specs.declared.Expr.TheBlock.hidden-the_row-Expr-0 Rattle.sqlite_ast.specs.declared.Expr.TheBlock.shown-the_row-Expr-0 Rattle.sqlite_ast.specs.declared.Expr.TheBlock.hidden-the_row-Expr-1
    Rattle.sqlite_ast.specs.declared.Expr.TheBlock.shown-the_row-Expr-1 Rattle.sqlite_ast.specs.declared.Expr.TheBlock.hidden-the_row-Select-2 Rattle.sqlite_ast.specs.declared.Expr.TheBlock.shown-the_row-Select-2
    Rattle.sqlite_ast.specs.declared.Expr.TheBlock.hidden-the_row-Arm-3 Rattle.sqlite_ast.specs.declared.Expr.TheBlock.shown-the_row-Arm-3 Rattle.sqlite_ast.specs.declared.Expr.TheBlock.hidden-the_row-Shown-4
    Rattle.sqlite_ast.specs.declared.Expr.TheBlock.shown-the_row-Shown-4 Rattle.sqlite_ast.specs.declared.Expr.TheBlock.hidden-the_row-Source-5 Rattle.sqlite_ast.specs.declared.Expr.TheBlock.shown-the_row-Source-5
    Rattle.sqlite_ast.specs.declared.Expr.TheBlock.hidden-the_row-Select-with-4-6 Rattle.sqlite_ast.specs.declared.Expr.TheBlock.shown-the_row-Select-with-4-6 Rattle.sqlite_ast.specs.declared.Expr.TheBlock.hidden-the_row-Select-others-2-7
    Rattle.sqlite_ast.specs.declared.Expr.TheBlock.shown-the_row-Select-others-2-7 Rattle.sqlite_ast.specs.declared.Expr.TheBlock.hidden-the_row-Sort-8 Rattle.sqlite_ast.specs.declared.Expr.TheBlock.shown-the_row-Sort-8
    Rattle.sqlite_ast.specs.declared.Expr.TheViews.out-Expr Rattle.sqlite_ast.specs.declared.Expr.TheViews.roll-Expr Rattle.sqlite_ast.specs.declared.Expr.TheViews.out-Shown
    Rattle.sqlite_ast.specs.declared.Expr.TheViews.roll-Shown Rattle.sqlite_ast.specs.declared.Expr.TheViews.out-Core Rattle.sqlite_ast.specs.declared.Expr.TheViews.roll-Core
    Rattle.sqlite_ast.specs.declared.Expr.TheViews.out-Select Rattle.sqlite_ast.specs.declared.Expr.TheViews.roll-Select Rattle.sqlite_ast.specs.declared.Expr.TheViews.out-Source
    Rattle.sqlite_ast.specs.declared.Expr.TheViews.roll-Source denote.Hole.Carrier.out denote.Hole.Carrier.roll
    denote.Hole.Carrier.shown denote.Hole.Carrier.hidden
looked = tt

-- while one table is read: so much of the budget is left, and the last expression carried this
abbrev pub reading : ℕ → Carried → State
reading budget last = record { next = 2; steps = []; aggregates = []; budget = budget; written = None; last = last }

-- a column that is asked for
pub record Picked : Type 0 where
  pub name : List ℕ
  pub place : ℕ
  pub column : Column

module _ (schema : Schema) (form : Table) (tree : ℕ) (t : IsListed form tree schema) where
  -- the table in the first slot
  abbrev pub bound : Bound
  bound = record { name = form.name; table = t.at; slot = 1; shared = [] }

  abbrev pub over : List Output → Bool → Context
  over outputs may = record { schema = schema; levels = record { tables = bound ∷ []; shown = outputs } ∷ []; may_aggregate = may; may_alias = true }

  -- the form has the column at its place
  pub record IsPicked (p : Picked) : Type 0 where
    pub named : column_named (placed form tree) p.name ≡ Some p.place
    pub got : slice_get form.columns p.place ≡ Some p.column

  abbrev pub term_for : Picked → Term
  term_for p = col 1 (place_of (placed form tree) p.place)

  abbrev pub carried_by : Picked → Carried
  carried_by p = declared (placed form tree) p.place p.column

  hits : (p : Picked) → IsPicked p → hit schema None p.name false bound ≡ Some (found.Column 1 t.at p.place)
  unfolding hit column_in is_among
  hits p is =
      ap (λ o. option_map (found.Column 1 t.at) (option_and_then (λ (u : Table). column_named u p.name) o)) t.listed ∙ ap (option_map (found.Column 1 t.at)) is.named

  finds : (outputs : List Output) (may : Bool) (p : Picked) → IsPicked p → find (over outputs may) None p.name ≡ Ok (found.Column 1 t.at p.place)
  unfolding find in_level only
  finds outputs may p is = rw (hits p is)

  column_got : (p : Picked) → IsPicked p → column_at schema 1 t.at p.place ≡ Ok (term_for p, carried_by p)
  unfolding column_at
  column_got p is =
      ap (λ o. or_else (option_and_then (λ (u : Table). option_map (λ c. (col 1 (place_of u p.place), declared u p.place c)) (slice_get u.columns p.place)) o) NoSuchColumn) t.listed
      ∙ ap (λ o. or_else (option_map (λ c. (col 1 (place_of (placed form tree) p.place), declared (placed form tree) p.place c)) o) NoSuchColumn) is.got

  column_is : (outputs : List Output) (may : Bool) (p : Picked) (s : State) → IsPicked p → column (over outputs may) None p.name s ≡ Ok (term_for p, record s { last = carried_by p })
  unfolding column term_of
  column_is outputs may p s is = rw (finds outputs may p is, column_got p is)

  -- a column as an expression
  pub lowers : (outputs : List Output) (may : Bool) (p : Picked) (budget : ℕ) (last : Carried) → IsPicked p → nat_lt 1 budget ≡ true
      → lower (over outputs may) (written.Column None p.name) (reading budget last) ≡ Ok (term_for p, reading (budget - 1) (carried_by p))
  unfolding lower_to node opened passes spend begin finish looked
  lowers outputs may p budget last is enough = rw (enough, column_is outputs may p (reading (budget - 1) nothing) is)

  misses_rowid : column_named (placed form tree) (codes "rowid") ≡ None → hit schema None (codes "rowid") false bound ≡ None
  unfolding hit column_in is_among
  misses_rowid none =
      ap (λ o. option_map (found.Column 1 t.at) (option_and_then (λ (u : Table). column_named u (codes "rowid")) o)) t.listed ∙ ap (option_map (found.Column 1 t.at)) none

  hits_rowid : hit schema None (codes "rowid") true bound ≡ Some (found.Rowid 1 t.at)
  unfolding hit rowid_in is_among
  hits_rowid =
      ap (λ o. option_and_then (λ (u : Table). cond (nat_lt u.tree (2 ^ 31)) (Some (found.Rowid 1 t.at)) None) o) t.listed
      ∙ ap (λ b. cond b (Some (found.Rowid 1 t.at)) None) (low_tree schema form tree t)

  finds_rowid : (outputs : List Output) (may : Bool) → column_named (placed form tree) (codes "rowid") ≡ None → find (over outputs may) None (codes "rowid") ≡ Ok (found.Rowid 1 t.at)
  unfolding find in_level only is_rowid same_name
  finds_rowid outputs may none = rw (misses_rowid none, hits_rowid)

  rowid_is : (outputs : List Output) (may : Bool) (s : State) → column_named (placed form tree) (codes "rowid") ≡ None → column (over outputs may) None (codes "rowid") s ≡ Ok (col 1 0, record s { last = nothing })
  unfolding column term_of
  rowid_is outputs may s none = rw (finds_rowid outputs may none)

  pub lowers_rowid : (outputs : List Output) (may : Bool) (budget : ℕ) (last : Carried) → column_named (placed form tree) (codes "rowid") ≡ None → nat_lt 1 budget ≡ true
      → lower (over outputs may) (written.Column None (codes "rowid")) (reading budget last) ≡ Ok (col 1 0, reading (budget - 1) nothing)
  unfolding lower_to node opened passes spend begin finish looked
  lowers_rowid outputs may budget last none enough = rw (enough, rowid_is outputs may (reading (budget - 1) nothing) none)

  -- the name under which a column is shown
  declared_is : (p : Picked) → IsPicked p → body.declared schema t.at (Some p.place) ≡ Some p.column.name
  unfolding body.declared
  declared_is p is =
      ap (λ o. option_and_then (λ (u : Table). option_and_then (λ k. option_map (λ (c : Column). c.name) (slice_get u.columns k)) (Some p.place)) o) t.listed ∙ ap (option_map (λ (c : Column). c.name)) is.got

  heading_is : (outputs : List Output) (may : Bool) (p : Picked) (text : Name) → IsPicked p → body.heading (over outputs may) (written.Column None p.name) text ≡ p.column.name
  unfolding body.heading looked
  heading_is outputs may p text is = rw (finds outputs may p is, declared_is p is)

  -- what is shown of it
  abbrev pub output_for : Picked → Output
  output_for p = record { name = p.column.name; is_alias = false; is_column = true; term = term_for p; carried = carried_by p }

  abbrev pub ask_for : Picked → Shown
  ask_for p = shows.One (written.Column None p.name) None p.name

  shows_column : (tables : List Bound) (done : List Output) (p : Picked) (budget : ℕ) (last : Carried) → IsPicked p → nat_lt 1 budget ≡ true
      → body.shown lower (over [] true) tables done (ask_for p) (reading budget last) ≡ Ok (done ++ output_for p ∷ [], reading (budget - 1) (carried_by p))
  unfolding body.shown body.is_column looked
  shows_column tables done p budget last is enough = rw (lowers [] true p budget last is enough, heading_is [] true p p.name is)

  rowid_declared : form.key ≡ None → body.declared schema t.at (option_and_then (λ (u : Table). u.key) (slice_get schema.tables t.at)) ≡ None
  unfolding body.declared
  rowid_declared keyless = rw (t.listed, keyless)

  heading_rowid : (outputs : List Output) (may : Bool) (text : Name) → column_named (placed form tree) (codes "rowid") ≡ None → form.key ≡ None
      → body.heading (over outputs may) (written.Column None (codes "rowid")) text ≡ codes "rowid"
  unfolding body.heading looked
  heading_rowid outputs may text none keyless = rw (finds_rowid outputs may none, rowid_declared keyless)

  -- what is shown of the number of the row
  abbrev pub output_rowid : Output
  output_rowid = record { name = codes "rowid"; is_alias = false; is_column = true; term = col 1 0; carried = nothing }

  abbrev pub ask_rowid : Shown
  ask_rowid = shows.One (written.Column None (codes "rowid")) None (codes "rowid")

  pub shows_rowid : (budget : ℕ) (last : Carried) → column_named (placed form tree) (codes "rowid") ≡ None → form.key ≡ None → nat_lt 1 budget ≡ true
      → body.outputs lower (over [] true) (bound ∷ []) (ask_rowid ∷ []) (reading budget last) ≡ Ok (output_rowid ∷ [], reading (budget - 1) nothing)
  unfolding body.outputs body.shown body.is_column looked
  shows_rowid budget last none keyless enough = rw (lowers_rowid [] true budget last none enough, heading_rowid [] true (codes "rowid") none keyless)

  -- columns one behind the other

  abbrev pub left_of : ℕ → List Picked → ℕ
  left_of budget [] = budget
  left_of budget (p ∷ ps) = left_of (budget - 1) ps

  abbrev pub last_of : Carried → List Picked → Carried
  last_of last [] = last
  last_of last (p ∷ ps) = last_of (carried_by p) ps

  abbrev pub outputs_for : List Output → List Picked → List Output
  outputs_for done [] = done
  outputs_for done (p ∷ ps) = outputs_for (done ++ output_for p ∷ []) ps

  abbrev pub IsEnough : ℕ → List Picked → Type 0
  IsEnough budget [] = Unit {0}
  IsEnough budget (p ∷ ps) = (nat_lt 1 budget ≡ true) × IsEnough (budget - 1) ps

  shows_from : (tables : List Bound) (done : List Output) (ps : List Picked) (budget : ℕ) (last : Carried) → AllByRecursion IsPicked ps → IsEnough budget ps
      → body.outputs_from lower (over [] true) tables done (map ask_for ps) (reading budget last) ≡ Ok (outputs_for done ps, reading (left_of budget ps) (last_of last ps))
  shows_from tables done [] budget last all enough = refl
  shows_from tables done (p ∷ ps) budget last all enough =
      ap (λ r. and_then r (λ q. body.outputs_from lower (over [] true) tables q.0 (map ask_for ps) q.1)) (shows_column tables done p budget last all.0 enough.0)
      ∙ shows_from tables (done ++ output_for p ∷ []) ps (budget - 1) (carried_by p) all.1 enough.1

  pub shows_all : (ps : List Picked) (budget : ℕ) (last : Carried) → AllByRecursion IsPicked ps → IsEnough budget ps
      → body.outputs lower (over [] true) (bound ∷ []) (map ask_for ps) (reading budget last) ≡ Ok (outputs_for [] ps, reading (left_of budget ps) (last_of last ps))
  unfolding body.outputs
  shows_all ps budget last all enough = shows_from (bound ∷ []) [] ps budget last all enough

  -- to sort by a column, or by the number of the row

  abbrev pub sort_by : Name → Sort
  sort_by name = roll-Sort (record { key = written.Column None name; descending = false; nulls_first = None })

  abbrev pub key_for : Picked → Term × Key
  key_for p = (term_for p, record { collation = alone (carried_by p); descending = false })

  pub sorts_column : (outputs : List Output) (done : List (Term × Key)) (p : Picked) (budget : ℕ) (last : Carried) → IsPicked p → nat_lt 1 budget ≡ true → ordering.alias_in outputs (written.Column None p.name) ≡ None
      → ordering.sort lower (over outputs false) outputs done (sort_by p.name) (reading budget last) ≡ Ok (done ++ key_for p ∷ [], reading (budget - 1) (carried_by p))
  unfolding ordering.sort ordering.peeled ordering.key ordering.is_numeral ordering.is_integer ordering.collation_of ordering.written_on ordering.placed looked
  sorts_column outputs done p budget last is enough none = rw (none, lowers outputs false p budget last is enough)

  pub sorts_rowid : (outputs : List Output) (done : List (Term × Key)) (budget : ℕ) (last : Carried) → column_named (placed form tree) (codes "rowid") ≡ None → nat_lt 1 budget ≡ true
      → ordering.alias_in outputs (written.Column None (codes "rowid")) ≡ None
      → ordering.sort lower (over outputs false) outputs done (sort_by (codes "rowid")) (reading budget last) ≡ Ok (done ++ (col 1 0, record { collation = alone nothing; descending = false }) ∷ [], reading (budget - 1) nothing)
  unfolding ordering.sort ordering.peeled ordering.key ordering.is_numeral ordering.is_integer ordering.collation_of ordering.written_on ordering.placed looked
  sorts_rowid outputs done budget last unnamed enough none = rw (none, lowers_rowid outputs false budget last unnamed enough)
