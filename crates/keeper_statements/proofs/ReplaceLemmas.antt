-- What INSERT OR REPLACE does to any rows of a table whose key is its first column.
use Rattle.std.proofs.Common.{◌≡◌, ◌/◌, inl, inr, ℕ, ℤ, Bool, true, false, not, cond, ◌&&◌, ◌||◌, List, [], ◌∷◌, ◌++◌}
use Rattle.std.proofs.Common.{length, filter, slice_get, Ok, Err, Result, Some, None, Option, Less, drop, refl, sym, ap}
use Rattle.std.proofs.Common.{subst, ◌∙◌, is_eq}
use Rattle.sqlite.specs.declared.types.Value.TheVariants.{Null, Int, Text}
use Rattle.sqlite.specs.declared.types.Value.{Value}
use Rattle.sqlite.specs.Collation.TheVariants.{Binary}
use Rattle.sqlite_value.specs.Order.{Row, column, value_cmp}
use Rattle.sqlite_sql.specs.Ops.{binary, is_true, is_null, from_truth}
use Rattle.sqlite.specs.Term.{Term}
use Rattle.sqlite.specs.Source.TheVariants.{Values}
use Rattle.sqlite.specs.Command.TheVariants.{InsertOr}
use Rattle.sqlite_schema.specs.declared.command.Conflict.TheVariants.{Replace}
use Rattle.sqlite.specs.Edit.{edit_of, edited}
use Rattle.sqlite.specs.Rowids.TheVariants.{Chosen, Given}
use Rattle.sqlite.specs.Does.{Tally, AtPlace, OnRows}
use Rattle.sqlite.specs.Rows.{Written, Task, Puts, Clears, Tries, Judged, TriesEach, nothing, count_of, mended, stamped}
use Rattle.sqlite.specs.Effect.{edit_error, Database, value_rows}
use Rattle.sqlite.specs.declared.error.Error.{Error}
use Rattle.sqlite_rules.specs.declared.error.Refusal.{Refusal}
use Rattle.sqlite.specs.Table.{Table}
use Rattle.sqlite.specs.Tree.{Trees}
use Rattle.sqlite_trees.specs.Tree.{rowid, put_row}
use Rattle.sqlite.specs.Schema.{Schema}
use Rattle.sqlite.specs.State.{State, mode_of, Executes}
use Rattle.sqlite_schema.specs.Rules.{equal}
use Rattle.sqlite_schema.specs.declared.schema.Column.{Column}
use Rattle.sqlite_schema.specs.declared.schema.Keys.{Keys}
use Rattle.sqlite_rules.specs.Lists.{Has}
use Rattle.sqlite_rules.specs.Calls.{ids_of}
use Rattle.sqlite_rules.specs.Keys.{AreConflicts, conflicts}
use Rattle.sqlite_rules.specs.Edit.{taken_by, next_rowid, without_all, with_rowid}
use Rattle.sqlite_rules.specs.Cast.{cast_row}
use Rattle.sqlite_rules.proofs.TableLemmas.{without_all_has}
use Rattle.sqlite.proofs.Callers.{runs_as, one_step}
use Rattle.keeper_statements.specs.Schema.{strict_table}
use Rattle.keeper_statements.specs.Tables.{IsKeyed}
use Rattle.keeper_statements.specs.Tests.{is_of}
use Rattle.keeper_statements.proofs.RowLemmas.{put_last, next_above, went, same_value}
use Rattle.keeper_statements.proofs.FoundLemmas.{IsFound, removed, column_dropped, and_true}
use Rattle.keeper_statements.proofs.EditLemmas.{ActsAlone, Edits, others_both, others_same, others_then}
use Rattle.keeper_statements.proofs.UnderstoodLemmas.{Means}

or_false : (b : Bool) → (b || false) ≡ b
or_false true = refl
or_false false = refl

-- a lower number is not the same one
never : (c : Bool) → is_true (cond c Null (from_truth (Some (is_eq Less)))) ≡ false
never true = refl
never false = refl

not_equal : (a b : Value) → value_cmp a b ≡ Less → equal Binary a b ≡ false
unfolding binary
not_equal a b less = ap (λ o. is_true (cond (is_null a || is_null b) Null (from_truth (Some (is_eq o))))) less ∙ never (is_null a || is_null b)

-- the row of this key is replaced by a new one, which comes last
abbrev pub replaced : List ℕ → Row → List Row → List Row
replaced key rest rows = filter (λ r. not (is_of key (drop 1 r))) rows ++ (Int (next_rowid rows) ∷ rest) ∷ []

module _ (at tree : ℕ) (name : List ℕ) (columns : List Column) (number : Option ℕ) (primary : List ℕ) (uniques : List (List ℕ))
    (key : List ℕ) (second : Value) where
  abbrev table : Table
  table = strict_table name tree columns number primary uniques

  abbrev rest : Row
  rest = Text key ∷ second ∷ []

  module _ (schema : Schema) (alone : ActsAlone schema tree)
      (conflict_is : (new r : Row) → conflicts None schema.indexes table new r ≡ ((equal Binary (column r 0) (column new 0) && true) || ((equal Binary (column r 1) (column new 1) && true) || false)))
      (cast_is : (id : ℤ) → cast_row table (Int id ∷ rest) ≡ Int id ∷ rest)
      (new_is : cast_row table (mended Replace table (Null ∷ rest)) ≡ Null ∷ rest) where
    are_conflicts : (rows : List Row) → IsKeyed rows → (r : Row) → Has rows r
        → conflicts None schema.indexes table (Int (next_rowid rows) ∷ rest) r ≡ is_of key (drop 1 r)
    are_conflicts rows keyed r h =
        conflict_is (Int (next_rowid rows) ∷ rest) r
        ∙ ap (λ b. (b && true) || ((equal Binary (column r 1) (Text key) && true) || false)) (not_equal (rowid r) (Int (next_rowid rows)) (next_above rows keyed r h))
        ∙ or_false _ ∙ and_true _ ∙ ap (λ v. equal Binary v (Text key)) (sym (column_dropped r 0))

    -- the rows that conflict are those of the key
    are_found : (rows found : List Row) → IsKeyed rows → AreConflicts None schema.indexes table rows (Int (next_rowid rows) ∷ rest) found
        → IsFound (λ r. is_of key (drop 1 r)) rows found
    are_found rows found keyed c = record {
      sound = λ x h. let s = c.sound x h in (s.0, s.1, sym (are_conflicts rows keyed s.0 s.1) ∙ s.2, s.3);
      complete = λ r h passes. c.complete r h (are_conflicts rows keyed r h ∙ passes);
    }

    put_behind : (rows : List Row) (ids : List ℤ) → IsKeyed rows → put_row (Int (next_rowid rows) ∷ rest) (without_all rows ids) ≡ without_all rows ids ++ (Int (next_rowid rows) ∷ rest) ∷ []
    put_behind rows ids keyed = put_last (Int (next_rowid rows) ∷ rest) (without_all rows ids) (λ r h. next_above rows keyed r (without_all_has ids rows r h))

    module _ (limit : Option ℕ) (keys : Keys) (params : Row) (db : Trees) (keyed : IsKeyed (db tree)) where
      abbrev task : Task
      task = record { limit = limit; keys = keys; schema = schema; table = table; params = params }

      abbrev new : Row
      new = Int (next_rowid (db tree)) ∷ rest

      abbrev Others : Trees → Type 0
      Others mid = Rattle.std.specs.List.AllByRecursion (λ (t : Table). (t.tree ≡ tree → ⊥) → mid t.tree ≡ db t.tree) schema.tables

      abbrev Ends : List ℤ → Written → Type 0
      Ends ids w = (w.trees tree ≡ without_all (db tree) ids ++ new ∷ []) × Others w.trees

      puts : (ids : List ℤ) (mid : Trees) (w : Written) → mid tree ≡ without_all (db tree) ids → Others mid → Puts task new mid (Ok w) → Ends ids w
      puts ids mid w left others h =
          let put = went h in
          let trees : w.trees ≡ put.0 = ap (λ (it : Written). it.trees) (same_value put.2) in
          let edit = edit_of mid table [] Given 0 (new ∷ []) in
          let applied = one_step schema keys mid put.0 edit (alone keys (taken_by mid edit) edit.news) put.1 in
          let rows : edited mid (edit_of mid table [] Given 0 (new ∷ [])) ≡ put_row new (without_all (db tree) ids) = rw (cast_is (next_rowid (db tree)), left) in
          let at_tree = λ (t : ℕ). ap (λ (x : Trees). x t) trees in (
            at_tree tree ∙ applied.rows ∙ rows ∙ put_behind (db tree) ids keyed,
            others_then schema.tables tree db put.0 w.trees at_tree (others_both schema.tables tree db mid put.0 others applied.tables),
          )

      clears : (found : List Row) (w : Written) → Clears task Replace new db found (Ok w) → Ends (ids_of found) w
      clears [] w h = puts [] db w refl (others_same schema.tables tree db) h
      clears (x ∷ more) w h =
          let cut = went h in
          let edit = edit_of db table (ids_of (x ∷ more)) Given 0 [] in
          let applied = one_step schema keys db cut.0 edit (alone keys (taken_by db edit) edit.news) cut.1 in
          puts (ids_of (x ∷ more)) cut.0 w applied.rows applied.tables cut.2

      abbrev Comes : Written → Type 0
      Comes w = (w.trees tree ≡ replaced key rest (db tree)) × Others w.trees

      judged : (w : Written) (verdict : Option Refusal) → Judged task Replace [] new db verdict (Ok w) → Comes w
      judged w None k =
          let ends = clears k.0 w k.2 in
          (ends.0 ∙ ap (λ (l : List Row). l ++ new ∷ []) (removed (λ r. is_of key (drop 1 r)) (db tree) k.0 keyed (are_found (db tree) k.0 keyed k.1)), ends.1)
      judged w (Some why) k = absurd (let e : ◌≡◌ {A = Result Written (Option Error)} (Ok w) (Err (Some (edit_error why))) = k in cc)

      tries : (w : Written) → Tries task Replace [] new db (Ok w) → Comes w
      tries w (inl out) = absurd (let e = out.1 in cc)
      tries w (inr h) = judged w h.0 h.2

  pub replaces : (terms : List Term) (text : List ℕ) (old new : State) (count : ℕ) (alone : ActsAlone old.now.schema tree)
      (conflict_is : (new r : Row) → conflicts None old.now.schema.indexes table new r ≡ ((equal Binary (column r 0) (column new 0) && true) || ((equal Binary (column r 1) (column new 1) && true) || false)))
      (cast_is : (id : ℤ) → cast_row table (Int id ∷ rest) ≡ Int id ∷ rest) (new_is : cast_row table (mended Replace table (Null ∷ rest)) ≡ Null ∷ rest)
      → slice_get old.now.schema.tables at ≡ Some table → Means old.now.schema text (InsertOr at Replace (Values terms 3) [])
      → value_rows (stamped table rest) 3 (length terms / 3) terms ≡ (Null ∷ rest) ∷ []
      → IsKeyed (old.now.trees tree)
      → Executes text rest old new (Ok count) → Edits tree (replaced key rest) old.now new.now
  replaces terms text old new count alone conflict_is cast_is new_is listed means sources keyed h =
      let db = old.now.trees in
      let schema = old.now.schema in
      let command = InsertOr at Replace (Values terms 3) [] in
      let w = runs_as text rest old new schema refl command means.is means.plain count h in
      let done = went (subst (λ o. AtPlace (λ (t : Table). OnRows (record { limit = old.step_limit; keys = (mode_of old).keys; schema = schema; table = t; params = rest }) (mode_of old) None command db) o (Ok (w.tally, new.now))) listed w.changed) in
      let now = ap (λ (p : Tally × Database). p.1) (same_value (went (went done.2).2).2) in
      let given = went done.1 in
      let counter = went given.2 in
      let tried = went counter.2 in
      let counted = went tried.2 in
      let task : Task = record { limit = old.step_limit; keys = (mode_of old).keys; schema = schema; table = table; params = rest } in
      let one = went (subst (λ rows. TriesEach task Replace [] rows (count_of counter.0) (nothing db) (Ok tried.0)) (given.1.1 ∙ sources) tried.1) in
      let row : with_rowid Chosen (db tree) (cast_row table (mended Replace table (Null ∷ rest))) ≡ Int (next_rowid (db tree)) ∷ rest = ap (with_rowid Chosen (db tree)) new_is in
      let it = tries schema alone conflict_is cast_is new_is old.step_limit (mode_of old).keys rest db keyed one.0 (subst (λ r. Tries task Replace [] r db (Ok one.0)) row one.1) in
      let trees : done.0.trees ≡ one.0.trees =
      ap (λ (x : Written). x.trees) (same_value counted.2) ∙ same_value counted.1 ∙ ap (λ (p : Written × ℤ). p.0.trees) (same_value one.2) in
      let at_tree = λ (t : ℕ). ap (λ (d : Database). d.trees t) now ∙ ap (λ (x : Trees). x t) trees in
      record {
        schema = ap (λ (d : Database). d.schema) now;
        rows = at_tree tree ∙ it.0;
        others = others_then schema.tables tree db one.0.trees new.now.trees at_tree it.1;
        sound = w.sound;
      }
