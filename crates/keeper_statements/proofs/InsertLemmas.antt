-- What a plain INSERT does to any rows.
use Rattle.std.proofs.Common.{◌≡◌, ℕ, ◌/◌, ◌&&◌, Bool, true, false, not, List, [], ◌∷◌, map, drop, length, Ok, None}
use Rattle.std.proofs.Common.{Some, Option, slice_get, refl, sym, ap, subst, ◌∙◌}
use Rattle.sqlite.specs.Order.{Row}
use Rattle.sqlite.specs.Term.{Term}
use Rattle.sqlite.specs.Source.TheVariants.{Values}
use Rattle.sqlite.specs.Command.TheVariants.{Insert}
use Rattle.sqlite.specs.Edit.{edit_of}
use Rattle.sqlite_rules.specs.Edit.{taken_by, numbered, is_taken, are_fresh, put_all}
use Rattle.sqlite.specs.Rowids.TheVariants.{Chosen}
use Rattle.sqlite.specs.Does.{Tally, AtPlace, OnRows}
use Rattle.sqlite.specs.Rows.{Written, stamped}
use Rattle.sqlite.specs.Effect.{Database, value_rows}
use Rattle.sqlite.specs.Table.{Table}
use Rattle.sqlite.specs.Tree.{Trees}
use Rattle.sqlite_trees.specs.Tree.{put_row}
use Rattle.sqlite.specs.State.{State, mode_of, Executes}
use Rattle.sqlite_rules.specs.Cast.{cast_row}
use Rattle.sqlite.proofs.Callers.{runs_as, one_step}
use Rattle.sqlite_schema.specs.declared.schema.Column.{Column}
use Rattle.keeper_statements.specs.Schema.{strict_table}
use Rattle.keeper_statements.proofs.RowLemmas.{went, same_value}
use Rattle.keeper_statements.proofs.EditLemmas.{ActsAlone, Edits, others_then}
use Rattle.keeper_statements.proofs.UnderstoodLemmas.{Means}

-- the row was put, where none had its number
pub record Puts (tree : ℕ) (row_in : List Row → Row) (old new : Database) : Type 0 where
  pub edits : Edits tree (λ rows. put_row (row_in rows) rows) old new
  pub free : is_taken (old.trees tree) (row_in (old.trees tree)) ≡ false

not_true : (b : Bool) → (not b && true) ≡ true → b ≡ false
not_true true e = absurd cc
not_true false e = refl

module _ (at tree : ℕ) (name : List ℕ) (columns : List Column) (key : Option ℕ) (primary : List ℕ) (uniques : List (List ℕ)) where
  abbrev table : Table
  table = strict_table name tree columns key primary uniques

  pub inserts : (terms : List Term) (width : ℕ) (text : List ℕ) (params : Row) (row_in : List Row → Row) (old new : State) (count : ℕ)
      → slice_get old.now.schema.tables at ≡ Some table → Means old.now.schema text (Insert at (Values terms width)) → ActsAlone old.now.schema tree
      → ((rows : List Row) → numbered Chosen rows (map (λ s. cast_row table (drop 0 s)) (value_rows (stamped table params) width (length terms / width) terms)) ≡ row_in rows ∷ [])
      → Executes text params old new (Ok count) → Puts tree row_in old.now new.now
  inserts terms width text params row_in old new count listed means alone news h =
      let db = old.now.trees in
      let schema = old.now.schema in
      let command = Insert at (Values terms width) in
      let w = runs_as text params old new schema refl command means.is means.plain count h in
      let done = went (subst (λ o. AtPlace (λ (t : Table). OnRows (record { limit = old.step_limit; keys = (mode_of old).keys; schema = schema; table = t; params = params }) (mode_of old) None command db) o (Ok (w.tally, new.now))) listed w.changed) in
      let now = ap (λ (p : Tally × Database). p.1) (same_value (went (went done.2).2).2) in
      let given = went done.1 in
      let written = went (went given.2).2 in
      let counted = went written.2 in
      let trees : done.0.trees ≡ written.0 = ap (λ (it : Written). it.trees) (same_value counted.2) ∙ same_value counted.1 in
      let edit = edit_of db table [] Chosen 0 given.0 in
      let applied = one_step schema (mode_of old).keys db written.0 edit (alone (mode_of old).keys (taken_by db edit) edit.news) written.1 in
      let row : numbered Chosen (db tree) (map (λ s. cast_row table (drop 0 s)) given.0) ≡ row_in (db tree) ∷ [] =
      ap (λ all. numbered Chosen (db tree) (map (λ s. cast_row table (drop 0 s)) all)) given.1.1 ∙ news (db tree) in
      let fresh : are_fresh (db tree) (row_in (db tree) ∷ []) ≡ true = ap (are_fresh (db tree)) (sym row) ∙ applied.fresh in
      let at_tree = λ (t : ℕ). ap (λ (d : Database). d.trees t) now ∙ ap (λ (x : Trees). x t) trees in
      record {
        edits = record {
          schema = ap (λ (d : Database). d.schema) now;
          rows = at_tree tree ∙ applied.rows ∙ ap (put_all (db tree)) row;
          others = others_then schema.tables tree db written.0 new.now.trees at_tree applied.tables;
          sound = w.sound;
        };
        free = not_true _ fresh;
      }
