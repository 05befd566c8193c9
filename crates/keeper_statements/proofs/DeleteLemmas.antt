-- What a DELETE does to any rows.
use Rattle.std.proofs.Common.{◌≡◌, ◌-◌, ◌^◌, ℕ, Bool, true, false, cond, nat_le, not, List, [], ◌∷◌, Ok, None, Some}
use Rattle.std.proofs.Common.{length, filter, slice_get, refl, sym, ap, subst, ◌∙◌, unwrap_or, Option}
use Rattle.std.specs.List.{list_all}
use Rattle.std.proofs.lemmas.List.{length-map}
use Rattle.sqlite.specs.declared.types.Value.TheVariants.{Null}
use Rattle.sqlite.specs.declared.types.Value.{Value}
use Rattle.sqlite.specs.Order.{Row}
use Rattle.sqlite.specs.Term.{Term, holds}
use Rattle.sqlite.specs.Command.TheVariants.{Delete}
use Rattle.sqlite.specs.Edit.{edit_of}
use Rattle.sqlite.specs.Rowids.TheVariants.{Given}
use Rattle.sqlite.specs.Does.{Tally, AtPlace, OnRows}
use Rattle.sqlite.specs.Rows.{Written}
use Rattle.sqlite.specs.Table.{Table}
use Rattle.sqlite.specs.Tree.{Trees}
use Rattle.sqlite_trees.specs.Tree.{rowid}
use Rattle.sqlite.specs.Query.{IsAnswer}
use Rattle.sqlite.specs.Program.{overlay}
use Rattle.sqlite.specs.Effect.{Database}
use Rattle.sqlite.specs.State.{State, mode_of, Executes}
use Rattle.sqlite_rules.specs.Calls.{ids_of}
use Rattle.sqlite_rules.specs.Edit.{taken_by, row_at, id_in}
use Rattle.sqlite_rules.specs.Probe.{AreFound}
use Rattle.sqlite_rules.proofs.ProbeLemmas.{found_rowids}
use Rattle.sqlite.proofs.Callers.{runs_as, one_step}
use Rattle.keeper_statements.specs.Schema.{strict_table}
use Rattle.keeper_statements.specs.Tables.{IsKeyed}
use Rattle.keeper_statements.proofs.RowLemmas.{went, same_value}
use Rattle.keeper_statements.proofs.FoundLemmas.{IsFound, removed}
use Rattle.keeper_statements.proofs.EditLemmas.{ActsAlone, Edits, others_then}
use Rattle.keeper_statements.proofs.UnderstoodLemmas.{Means, deleting}
use Rattle.sqlite_schema.specs.declared.schema.Column.{Column}

-- a program that finds the numbers of rows, as DELETE has it
pub finds : (tree : ℕ) (terms : List Term) (db : Trees) (params found : List Value) (rows : List Row) → IsAnswer (deleting tree terms).body db params rows → AreFound terms (db tree) params rows
finds tree terms db params found rows a =
    found_rowids tree terms db params rows (record { staged = a.staged; grouped = a.grouped; kept = a.kept; distinct = a.distinct; ordered = a.ordered; same = a.same; sorted = a.sorted; shown = a.shown })

-- a statement that computes no table reads each tree as it is
pub overlay_none : (tree : ℕ) (db : Trees) → overlay db [] tree ≡ db tree
overlay_none tree db = by (nat_le (2 ^ 31) tree)
  where
    by : (b : Bool) → unwrap_or (cond b (slice_get [] (tree - 2 ^ 31)) None) (db tree) ≡ db tree
    by true = refl
    by false = refl

-- the rows that were removed, and how many they were
pub record Removes (tree : ℕ) (p : Row → Bool) (old new : Database) (count : ℕ) : Type 0 where
  pub edits : Edits tree (filter (λ r. not (p r))) old new
  pub found : List Row
  pub is : IsFound p (old.trees tree) found
  pub counted : count ≡ length found

module _ (at tree : ℕ) (name : List ℕ) (columns : List Column) (key : Option ℕ) (primary : List ℕ) (uniques : List (List ℕ)) where
  abbrev table : Table
  table = strict_table name tree columns key primary uniques

  pub removes : (terms : List Term) (text : List ℕ) (params : Row) (p : Row → Bool) (old new : State) (count : ℕ)
      → slice_get old.now.schema.tables at ≡ Some table → Means old.now.schema text (Delete at (deleting tree terms)) → ActsAlone old.now.schema tree
      → ((r : Row) → list_all (holds (params ∷ r ∷ [])) terms ≡ p r) → ((db : Trees) → overlay db [] tree ≡ db tree) → IsKeyed (old.now.trees tree)
      → Executes text params old new (Ok count) → Removes tree p old.now new.now count
  removes terms text params p old new count listed means alone alike seen keyed h =
      let db = old.now.trees in
      let schema = old.now.schema in
      let command = Delete at (deleting tree terms) in
      let w = runs_as text params old new schema refl command means.is means.plain count h in
      let done = went (subst (λ o. AtPlace (λ (t : Table). OnRows (record { limit = old.step_limit; keys = (mode_of old).keys; schema = schema; table = t; params = params }) (mode_of old) None command db) o (Ok (w.tally, new.now))) listed w.changed) in
      let told = same_value (went (went done.2).2).2 in
      let now = ap (λ (p : Tally × Database). p.1) told in
      let given = went done.1 in
      let written = went given.2 in
      let trees : done.0.trees ≡ written.0 = ap (λ (it : Written). it.trees) (same_value written.2) in
      let edit = edit_of db table (ids_of given.0) Given 0 [] in
      let applied = one_step schema (mode_of old).keys db written.0 edit (alone (mode_of old).keys (taken_by db edit) edit.news) written.1 in
      let answer : IsAnswer (deleting tree terms).body (overlay db []) params given.0 = given.1.answer Null in
      let found : AreFound terms (db tree) params given.0 = subst (λ (rows : List Row). AreFound terms rows params given.0) (seen db) (finds tree terms (overlay db []) params [] given.0 answer) in
      let hits : IsFound p (db tree) given.0 = record {
        sound = λ x k. let s = found.sound x k in (s.0, s.1, sym (alike s.0) ∙ s.2, s.3);
        complete = λ r k passes. found.complete r k (alike r ∙ passes);
      } in
      let at_tree = λ (t : ℕ). ap (λ (d : Database). d.trees t) now ∙ ap (λ (x : Trees). x t) trees in
      record {
        edits = record {
          schema = ap (λ (d : Database). d.schema) now;
          rows = at_tree tree ∙ applied.rows ∙ removed p (db tree) given.0 keyed hits;
          others = others_then schema.tables tree db written.0 new.now.trees at_tree applied.tables;
          sound = w.sound;
        };
        found = given.0;
        is = hits;
        counted = w.counted ∙ ap (λ (p : Tally × Database). unwrap_or p.0.rows 0) told ∙ ap (λ (it : Written). length it.rows) (same_value written.2)
            ∙ length-map (ids_of given.0) (row_at (db tree)) ∙ length-map given.0 (λ r. id_in (rowid r));
      }
