-- What the texts are understood as, where their tables are found by name.
use Rattle.std.proofs.Common.{◌≡◌, ℕ, List, [], ◌∷◌, codes, Ok, Some, None, Option, refl}
use Rattle.sqlite.specs.declared.types.Value.TheVariants.{Null}
use Rattle.sqlite.specs.Command.TheVariants.{Insert, InsertOr, Delete}
use Rattle.sqlite.specs.Term.{Term, lit, col, op2}
use Rattle.sqlite.specs.Source.TheVariants.{Values}
use Rattle.sqlite.specs.Schema.{Schema}
use Rattle.sqlite_schema.specs.declared.command.Conflict.TheVariants.{Replace}
use Rattle.sqlite_tied.specs.Compute.{everything}
use Rattle.sqlite.specs.Collation.TheVariants.{Binary}
use Rattle.sqlite_sql.specs.declared.ops.BinaryOp.TheVariants.{Compare}
use Rattle.sqlite_sql.specs.declared.ops.CompareOp.TheVariants.{Eq, Lt}
use Rattle.sqlite_resolve.specs.Compile.{first}
use Rattle.sqlite_resolve.specs.Write.{deleted}
use Rattle.sqlite_ast.specs.declared.Binary.{Binary as Operator}
use Rattle.sqlite_ast.specs.declared.Binary.TheVariants as ops
use Rattle.sqlite_ast.specs.declared.Expr.{Expr}
use Rattle.sqlite_ast.specs.declared.Expr.TheVariants as written_as
use Rattle.keeper_statements.specs.Found.{placed}
use Rattle.keeper_statements.specs.Schema.{sets_table, replies_table, decks_table, statuses_table, floors_table}
use Rattle.keeper_statements.proofs.PlaceLemmas.{IsListed}
pub use Rattle.keeper_statements.proofs.UnderstoodLemmas.{deleting}
use Rattle.keeper_statements.proofs.UnderstoodLemmas.{Means, Reads, base_of, columns_of, deleted_as, draft_of}
use Rattle.keeper_statements.proofs.UnderstoodLemmas.{formats_none, inserted_as, means_of, program_of, replaced_as}
use Rattle.keeper_statements.proofs.UnderstoodLemmas.{rows_of, test_of}

abbrev pub put_set_text : List ℕ
put_set_text = codes "INSERT OR REPLACE INTO sets (dsn, rec) VALUES (?1, ?2)"

abbrev pub drop_set_text : List ℕ
drop_set_text = codes "DELETE FROM sets WHERE dsn = ?1"

abbrev pub reply_text : List ℕ
reply_text = codes "INSERT INTO replies (job, number, place, request, reply) VALUES (?1, ?2, ?3, ?4, ?5)"

abbrev pub below_text : List ℕ
below_text = codes "DELETE FROM replies WHERE job = ?1 AND number < ?2"

abbrev pub deck_text : List ℕ
deck_text = codes "INSERT INTO decks (count, bytes) VALUES (?1, ?2)"

abbrev pub clear_text : List ℕ
clear_text = codes "DELETE FROM statuses"

abbrev pub status_text : List ℕ
status_text = codes "INSERT INTO statuses (kind, name, status) VALUES (?1, ?2, ?3)"

abbrev pub drop_status_text : List ℕ
drop_status_text = codes "DELETE FROM statuses WHERE kind = ?1 AND name = ?2"

abbrev pub floor_text : List ℕ
floor_text = codes "INSERT OR REPLACE INTO floors (job, floor) VALUES (?1, ?2)"

-- a comparison of a column of the row with a parameter
abbrev pub first_is : Term
first_is = op2 (Compare Eq Binary) (col 1 1) (col 0 0)

abbrev pub second_is : Term
second_is = op2 (Compare Eq Binary) (col 1 2) (col 0 1)

abbrev pub second_below : Term
second_below = op2 (Compare Lt Binary) (col 1 2) (col 0 1)

abbrev pub two_terms : List Term
two_terms = lit Null ∷ col 0 0 ∷ col 0 1 ∷ []

abbrev pub three_terms : List Term
three_terms = lit Null ∷ col 0 0 ∷ col 0 1 ∷ col 0 2 ∷ []

abbrev pub five_terms : List Term
five_terms = lit Null ∷ col 0 0 ∷ col 0 1 ∷ col 0 2 ∷ col 0 3 ∷ col 0 4 ∷ []

abbrev pub deck_terms : List Term
deck_terms = col 0 0 ∷ lit Null ∷ col 0 1 ∷ []

put_set_reads : (schema : Schema) (tree : ℕ) (t : IsListed sets_table tree schema) → Reads schema (InsertOr t.at Replace (Values two_terms 3) []) (first put_set_text)
unfolding everything
put_set_reads schema tree t = (formats_none sets_table tree schema t, refl, replaced_as schema sets_table tree t Replace (base_of (first put_set_text)) (columns_of (first put_set_text)) (rows_of (first put_set_text)) (Values two_terms 3) refl refl)

floor_reads : (schema : Schema) (tree : ℕ) (t : IsListed floors_table tree schema) → Reads schema (InsertOr t.at Replace (Values two_terms 3) []) (first floor_text)
unfolding everything
floor_reads schema tree t = (formats_none floors_table tree schema t, refl, replaced_as schema floors_table tree t Replace (base_of (first floor_text)) (columns_of (first floor_text)) (rows_of (first floor_text)) (Values two_terms 3) refl refl)

reply_reads : (schema : Schema) (tree : ℕ) (t : IsListed replies_table tree schema) → Reads schema (Insert t.at (Values five_terms 6)) (first reply_text)
unfolding everything
reply_reads schema tree t = (formats_none replies_table tree schema t, refl, inserted_as schema replies_table tree t (base_of (first reply_text)) (columns_of (first reply_text)) (rows_of (first reply_text)) (Values five_terms 6) refl)

deck_reads : (schema : Schema) (tree : ℕ) (t : IsListed decks_table tree schema) → Reads schema (Insert t.at (Values deck_terms 3)) (first deck_text)
unfolding everything
deck_reads schema tree t = (formats_none decks_table tree schema t, refl, inserted_as schema decks_table tree t (base_of (first deck_text)) (columns_of (first deck_text)) (rows_of (first deck_text)) (Values deck_terms 3) refl)

status_reads : (schema : Schema) (tree : ℕ) (t : IsListed statuses_table tree schema) → Reads schema (Insert t.at (Values three_terms 4)) (first status_text)
unfolding everything
status_reads schema tree t = (formats_none statuses_table tree schema t, refl, inserted_as schema statuses_table tree t (base_of (first status_text)) (columns_of (first status_text)) (rows_of (first status_text)) (Values three_terms 4) refl)

-- a comparison of a column with a parameter, as it is read
abbrev pub compared : Operator → List ℕ → ℕ → Expr
compared op name n = written_as.Binary op (written_as.Column None name) (written_as.Parameter n)

-- two of them
abbrev pub both : Expr → Expr → Option Expr
both a b = Some (written_as.Binary ops.And a b)

abbrev below_test : Option Expr
below_test = both (compared ops.Eq (codes "job") 1) (compared ops.Lt (codes "number") 2)

abbrev status_test : Option Expr
status_test = both (compared ops.Eq (codes "kind") 1) (compared ops.Eq (codes "name") 2)

drop_set_draft : (schema : Schema) (tree : ℕ) (t : IsListed sets_table tree schema) → deleted schema t.at (placed sets_table tree) (test_of (first drop_set_text)) ≡ Ok (draft_of tree (first_is ∷ []))
unfolding everything
drop_set_draft schema tree t = simp t.listed

drop_set_reads : (schema : Schema) (tree : ℕ) (t : IsListed sets_table tree schema) → Reads schema (Delete t.at (deleting tree (first_is ∷ []))) (first drop_set_text)
unfolding everything
drop_set_reads schema tree t =
    (refl, refl, deleted_as schema sets_table tree t (test_of (first drop_set_text)) (draft_of tree (first_is ∷ [])) (deleting tree (first_is ∷ [])) (drop_set_draft schema tree t) (program_of schema sets_table tree t (first_is ∷ []) refl))

below_draft : (schema : Schema) (tree : ℕ) (t : IsListed replies_table tree schema) → deleted schema t.at (placed replies_table tree) below_test ≡ Ok (draft_of tree (first_is ∷ second_below ∷ []))
unfolding everything
below_draft schema tree t = simp t.listed

below_reads : (schema : Schema) (tree : ℕ) (t : IsListed replies_table tree schema) → Reads schema (Delete t.at (deleting tree (first_is ∷ second_below ∷ []))) (first below_text)
unfolding everything
below_reads schema tree t =
    (refl, refl, deleted_as schema replies_table tree t below_test (draft_of tree (first_is ∷ second_below ∷ [])) (deleting tree (first_is ∷ second_below ∷ [])) (below_draft schema tree t) (program_of schema replies_table tree t (first_is ∷ second_below ∷ []) refl))

clear_draft : (schema : Schema) (tree : ℕ) (t : IsListed statuses_table tree schema) → deleted schema t.at (placed statuses_table tree) (test_of (first clear_text)) ≡ Ok (draft_of tree [])
unfolding everything
clear_draft schema tree t = refl

clear_reads : (schema : Schema) (tree : ℕ) (t : IsListed statuses_table tree schema) → Reads schema (Delete t.at (deleting tree [])) (first clear_text)
unfolding everything
clear_reads schema tree t =
    (refl, refl, deleted_as schema statuses_table tree t (test_of (first clear_text)) (draft_of tree []) (deleting tree []) (clear_draft schema tree t) (program_of schema statuses_table tree t [] refl))

drop_status_draft : (schema : Schema) (tree : ℕ) (t : IsListed statuses_table tree schema) → deleted schema t.at (placed statuses_table tree) status_test ≡ Ok (draft_of tree (first_is ∷ second_is ∷ []))
unfolding everything
drop_status_draft schema tree t = simp t.listed

drop_status_reads : (schema : Schema) (tree : ℕ) (t : IsListed statuses_table tree schema) → Reads schema (Delete t.at (deleting tree (first_is ∷ second_is ∷ []))) (first drop_status_text)
unfolding everything
drop_status_reads schema tree t =
    (refl, refl, deleted_as schema statuses_table tree t status_test (draft_of tree (first_is ∷ second_is ∷ [])) (deleting tree (first_is ∷ second_is ∷ [])) (drop_status_draft schema tree t) (program_of schema statuses_table tree t (first_is ∷ second_is ∷ []) refl))

pub put_set_means : (schema : Schema) (tree : ℕ) (t : IsListed sets_table tree schema) → Means schema put_set_text (InsertOr t.at Replace (Values two_terms 3) [])
put_set_means schema tree t = means_of schema put_set_text _ (put_set_reads schema tree t)

pub drop_set_means : (schema : Schema) (tree : ℕ) (t : IsListed sets_table tree schema) → Means schema drop_set_text (Delete t.at (deleting tree (first_is ∷ [])))
drop_set_means schema tree t = means_of schema drop_set_text _ (drop_set_reads schema tree t)

pub reply_means : (schema : Schema) (tree : ℕ) (t : IsListed replies_table tree schema) → Means schema reply_text (Insert t.at (Values five_terms 6))
reply_means schema tree t = means_of schema reply_text _ (reply_reads schema tree t)

pub below_means : (schema : Schema) (tree : ℕ) (t : IsListed replies_table tree schema) → Means schema below_text (Delete t.at (deleting tree (first_is ∷ second_below ∷ [])))
below_means schema tree t = means_of schema below_text _ (below_reads schema tree t)

pub deck_means : (schema : Schema) (tree : ℕ) (t : IsListed decks_table tree schema) → Means schema deck_text (Insert t.at (Values deck_terms 3))
deck_means schema tree t = means_of schema deck_text _ (deck_reads schema tree t)

pub clear_means : (schema : Schema) (tree : ℕ) (t : IsListed statuses_table tree schema) → Means schema clear_text (Delete t.at (deleting tree []))
clear_means schema tree t = means_of schema clear_text _ (clear_reads schema tree t)

pub status_means : (schema : Schema) (tree : ℕ) (t : IsListed statuses_table tree schema) → Means schema status_text (Insert t.at (Values three_terms 4))
status_means schema tree t = means_of schema status_text _ (status_reads schema tree t)

pub drop_status_means : (schema : Schema) (tree : ℕ) (t : IsListed statuses_table tree schema) → Means schema drop_status_text (Delete t.at (deleting tree (first_is ∷ second_is ∷ [])))
drop_status_means schema tree t = means_of schema drop_status_text _ (drop_status_reads schema tree t)

pub floor_means : (schema : Schema) (tree : ℕ) (t : IsListed floors_table tree schema) → Means schema floor_text (InsertOr t.at Replace (Values two_terms 3) [])
floor_means schema tree t = means_of schema floor_text _ (floor_reads schema tree t)
