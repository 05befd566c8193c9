-- What a query over one table is read as, whatever other tables there are.
use Rattle.std.proofs.Common.{◌≡◌, ◌-◌, ℕ, pos, negsuc, true, false, List, [], ◌∷◌, Ok, None, Option, map}
use Rattle.sqlite.specs.declared.types.Value.TheVariants.{Int}
use Rattle.sqlite.specs.Query.{inner, end}
use Rattle.sqlite.specs.Schema.{Schema}
use Rattle.sqlite.specs.Table.{Table}
use Rattle.sqlite.specs.Term.{Term, lit}
use Rattle.sqlite_ast.specs.declared.Core.{Core, out-Core}
use Rattle.sqlite_ast.specs.declared.Expr.{Expr}
use Rattle.sqlite_ast.specs.declared.Origin.TheVariants as origin
use Rattle.sqlite_ast.specs.declared.Select.{Select, out-Select}
use Rattle.sqlite_ast.specs.declared.Sort.{Sort}
use Rattle.sqlite_ast.specs.declared.Source.{Source, roll-Source}
use Rattle.sqlite_draft.specs.declared.join.Step.TheVariants.{Inner}
use Rattle.sqlite_draft.specs.declared.query.Draft.{Draft}
use Rattle.sqlite_resolve.specs.Body as body
use Rattle.sqlite_resolve.specs.Expr.{lower}
use Rattle.sqlite_resolve.specs.Lowering.{fresh, nothing, take_slot}
use Rattle.sqlite_resolve.specs.Order as ordering
use Rattle.sqlite_resolve.specs.Program as programs
use Rattle.sqlite_resolve.specs.Scope.{Context, Name}
use Rattle.sqlite_resolve.specs.Select as selects
use Rattle.sqlite_resolve.specs.Terms.{number}
use Rattle.sqlite_resolve.specs.declared.body.Body.{Body}
use Rattle.sqlite_resolve.specs.declared.scope.Output.{Output}
use Rattle.sqlite_resolve.specs.declared.select.Clauses.{Clauses}
use Rattle.sqlite_resolve.specs.declared.state.Carried.{Carried}
use Rattle.sqlite_resolve.specs.declared.state.State.{State}
use Rattle.sqlite_value.specs.declared.keys.Key.{Key}
use Rattle.keeper_statements.proofs.ColumnLemmas.{bound, looked, over, reading}
use Rattle.keeper_statements.proofs.PlaceLemmas.{IsListed}

-- FROM with one table, as it is read
abbrev pub source_for : Name → Source
source_for name = roll-Source (record { is_left = false; origin = origin.Table name; alias = None; on = None; using = [] })

module _ (schema : Schema) (form : Table) (tree : ℕ) (t : IsListed form tree schema) where
  bounds_are : body.bounds schema (source_for form.name ∷ []) (fresh 1 100000) ≡ Ok (bound schema form tree t ∷ [], reading 100000 nothing)
  unfolding body.bounds body.bound body.table_in take_slot looked
  bounds_are = rw t.named

  joins_are : (outputs : List Output) (s : State) → body.joins lower (over schema form tree t outputs false) (bound schema form tree t ∷ []) (source_for form.name ∷ []) s ≡ Ok (record { steps = Inner tree ∷ []; filter = [] }, s)
  unfolding body.joins body.join body.shared body.inner_join body.tests looked
  joins_are outputs s = rw t.listed

  -- a SELECT of columns of the table, by its parts
  module _ (core : Core) (outs : List Output) (filter : Option Expr) (terms : List Term) (start_budget : ℕ) (start_last : Carried)
      (shows : body.outputs lower (over schema form tree t [] true) (bound schema form tree t ∷ []) (out-Core core).shown (reading 100000 nothing) ≡ Ok (outs, reading start_budget start_last)) (from_is : (out-Core core).from ≡ source_for form.name ∷ [])
      (filter_is : (out-Core core).filter ≡ filter) (group_is : (out-Core core).group ≡ []) (having_is : (out-Core core).having ≡ None) (distinct_is : (out-Core core).distinct ≡ false)
      (budget : ℕ) (last : Carried) where
    abbrev whole : Body
    whole = record { level = record { tables = bound schema form tree t ∷ []; shown = outs }; steps = Inner tree ∷ []; filter = terms }

    module _ (filtered : body.tests lower (over schema form tree t outs false) [] filter (reading start_budget start_last) ≡ Ok (terms, reading budget last)) where
      body_is : body.body lower (selects.outermost schema) core (fresh 1 100000) ≡ Ok (whole, reading budget last)
      unfolding body.body body.result body.matching
      body_is = rw (from_is, bounds_are, shows, joins_are outs (reading start_budget start_last), filter_is, filtered)

      module _ (order : List Sort) (keys : List (Term × Key)) (end_budget : ℕ) (end_last : Carried)
          (sorted : ordering.sorts lower (over schema form tree t outs false) outs order (reading budget last) ≡ Ok (keys, reading end_budget end_last)) where
        abbrev clauses : Clauses
        clauses = record { body = whole; is_grouped = false; keys = []; collations = []; having = []; order = keys }

        parts_are : selects.parts schema core order (fresh 1 100000) ≡ Ok (clauses, reading end_budget end_last)
        unfolding selects.parts selects.having ordering.keys body.tests
        parts_are = rw (body_is, group_is, having_is, sorted)

        abbrev pub draft_is : Draft
        draft_is = record { from = inner tree end; filter = terms; group = None; project = map (λ (o : Output). o.term) outs; distinct = false; collations = []; order = keys; limit = lit (Int (negsuc 0)); offset = lit (Int (pos 0)) }

        abbrev pub named_shown : programs.Shown
        named_shown = (draft_is, map (λ (o : Output). o.name) outs, map (λ (o : Output). o.carried.collation) outs)

        named_is : selects.named schema core order (lit (Int (negsuc 0)), number 0) ≡ Ok named_shown
        unfolding selects.named selects.assembled selects.ungrouped
        named_is = rw (parts_are, distinct_is)

        pub query_is : (s : Select) → (out-Select s).with ≡ [] → (out-Select s).first ≡ core → (out-Select s).others ≡ [] → (out-Select s).order ≡ order → (out-Select s).limit ≡ None → (out-Select s).offset ≡ None
            → programs.query schema s ≡ Ok (named_shown, [])
        unfolding programs.query programs.query_to programs.level programs.with programs.whole selects.paging selects.constant_or programs.alone programs.single programs.sources programs.source programs.viewing looked
        query_is s with_is first_is others_is order_is limit_is offset_is = rw (with_is, limit_is, offset_is, others_is, first_is, order_is, from_is, named_is)

-- ORDER BY with one key, two, and three
module _ (cx : Context) (outputs : List Output) where
  pub sorts_one : (a : Sort) (x : Term × Key) (r s : State) → ordering.sort lower cx outputs [] a r ≡ Ok (x ∷ [], s) → ordering.sorts lower cx outputs (a ∷ []) r ≡ Ok (x ∷ [], s)
  unfolding ordering.sorts
  sorts_one a x r s first = rw first

  pub sorts_two : (a b : Sort) (x y : Term × Key) (r s u : State) → ordering.sort lower cx outputs [] a r ≡ Ok (x ∷ [], s) → ordering.sort lower cx outputs (x ∷ []) b s ≡ Ok (x ∷ y ∷ [], u)
      → ordering.sorts lower cx outputs (a ∷ b ∷ []) r ≡ Ok (x ∷ y ∷ [], u)
  unfolding ordering.sorts
  sorts_two a b x y r s u first second = rw (first, second)

  pub sorts_three : (a b c : Sort) (x y z : Term × Key) (r s u v : State) → ordering.sort lower cx outputs [] a r ≡ Ok (x ∷ [], s) → ordering.sort lower cx outputs (x ∷ []) b s ≡ Ok (x ∷ y ∷ [], u)
      → ordering.sort lower cx outputs (x ∷ y ∷ []) c u ≡ Ok (x ∷ y ∷ z ∷ [], v) → ordering.sorts lower cx outputs (a ∷ b ∷ c ∷ []) r ≡ Ok (x ∷ y ∷ z ∷ [], v)
  unfolding ordering.sorts
  sorts_three a b c x y z r s u v first second third = rw (first, second, third)
