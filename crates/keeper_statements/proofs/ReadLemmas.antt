-- What a reading text answers.
use Rattle.std.proofs.Common.{◌≡◌, ℕ, List, [], ◌∷◌, map, drop, flat_map, codes, refl, sym, ap, subst}
use Rattle.std.proofs.Common.{◌∙◌, Ordering, Less, Equal, Greater, IsSorted}
use Rattle.std.specs.Cmp.{IsTotalOrder}
use Rattle.std.specs.Ordering.{ordering_then}
use Rattle.std.proofs.lemmas.Cmp.{on_total, then_total}
use Rattle.sqlite.specs.declared.types.Value.TheVariants.{Null}
use Rattle.sqlite.specs.Command.TheVariants.{Select}
use Rattle.sqlite.specs.Effect.{Answers, Database}
use Rattle.sqlite.specs.Order.{Row}
use Rattle.sqlite.specs.Program.{overlay}
use Rattle.sqlite.specs.Query.{IsAnswer, Query, Output, output, output_cmp}
use Rattle.sqlite.specs.State.{State, Shown}
use Rattle.sqlite.specs.Term.{Term, eval_all}
use Rattle.sqlite.specs.Tree.{Trees}
use Rattle.sqlite.proofs.Callers.{reads_as}
use Rattle.sqlite_value.specs.Order.{column, value_cmp}
use Rattle.sqlite_value.specs.declared.keys.Key.{Key}
use Rattle.sqlite_value.proofs.OrderLemmas.{value_cmp_total, then-Equal}
use Rattle.sqlite_trees.proofs.ListLemmas.{map-map, pull_back}
use Rattle.sqlite_trees.specs.Tree.{rowid}
use Rattle.keeper_statements.specs.Order.{in_order, by_first, by_two, two_columns, three_columns, five_columns}
use Rattle.keeper_statements.specs.Order.{deck_columns}
use Rattle.sqlite.specs.Table.{Table}
use Rattle.keeper_statements.specs.Schema.{sets_table, replies_table, decks_table, statuses_table, floors_table}
use Rattle.keeper_statements.specs.Found.{CanRead, HasForm}
use Rattle.keeper_statements.specs.Tables.{IsKeyed, bodies, rows_at, rows_named, tables_in}
use Rattle.keeper_statements.proofs.DeleteLemmas.{overlay_none}
use Rattle.keeper_statements.proofs.FoundLemmas.{column_dropped}
use Rattle.keeper_statements.proofs.PlaceLemmas.{placed_of}
use Rattle.keeper_statements.proofs.OrderLemmas.{numbered, numbered_total, numbered_apart, numbered_alike, one_order}
use Rattle.keeper_statements.proofs.OrderLemmas.{order_mapped, sorted_from_map, sorted_stays}
use Rattle.keeper_statements.proofs.ReadTextLemmas as texts

-- the parameters, of which there are none, and the row
abbrev env : Row → List Row
env r = [] ∷ r ∷ []

met : (q : Query) (rows : List Row) → map (output q) (flat_map (λ r. env r ∷ []) rows) ≡ map (λ r. output q (env r)) rows
met q [] = refl
met q (r ∷ rows) = ap (λ l. output q (env r) ∷ l) (met q rows)

module _ (tree : ℕ) (project : List Term) (order : List (Term × Key)) (key : Row → Row → Ordering) (total : IsTotalOrder key) (shown : Row → Row) where
  abbrev q : Query
  q = (texts.selecting tree project order).body

  abbrev out : Row → Output
  out r = output q (env r)

  pub answer_is : (db : Trees) (rows : List Row) → ((a b : Row) → output_cmp q (out a) (out b) ≡ numbered key a b) → ((r : Row) → eval_all project (env r) ≡ shown r)
      → IsKeyed (db tree) → IsAnswer q db [] rows → rows ≡ map shown (in_order key (db tree))
  answer_is db rows sorts shows keyed answer =
      let all : answer.kept ≡ map out (db tree) = answer.distinct ∙ ap (map (output q)) answer.grouped ∙ met q (db tree) in
      let from = pull_back out answer.kept answer.ordered answer.same (db tree) all in
      let sorted : IsSorted (λ a b. output_cmp q (out a) (out b)) from.0 = sorted_from_map (output_cmp q) out from.0 (subst (IsSorted (output_cmp q)) from.2 answer.sorted) in
      let in_turn : IsSorted (numbered key) from.0 = subst (λ (c : Row → Row → Ordering). IsSorted c from.0) (λ i a b. sorts a b i) sorted in
      let is : from.0 ≡ in_order key (db tree) =
      sym (sorted_stays (numbered key) (numbered_total key total) from.0 in_turn)
      ∙ sym (one_order (numbered key) (numbered_total key total) (db tree) from.0 from.1 (numbered_apart key (db tree) keyed.0))
      ∙ numbered_alike key (db tree) keyed.0 in
      answer.shown ∙ ap (map (λ (o : Output). o.1)) from.2 ∙ map-map (λ (o : Output). o.1) out from.0
      ∙ (λ i. map (λ r. shows r i) from.0) ∙ ap (map shown) is

first_total : IsTotalOrder by_first
first_total = on_total (λ (row : Row). column row 0) value_cmp_total

two_total : IsTotalOrder by_two
two_total = then_total first_total (on_total (λ (row : Row). column row 1) value_cmp_total)

-- an order of bodies, as one of rows with their numbers
abbrev on_bodies : (Row → Row → Ordering) → Row → Row → Ordering
on_bodies key a b = key (drop 1 a) (drop 1 b)

bodies_shown : (key : Row → Row → Ordering) (shown : Row → Row) (rows : List Row) → map (λ r. shown (drop 1 r)) (in_order (on_bodies key) rows) ≡ map shown (in_order key (bodies rows))
bodies_shown key shown rows = sym (map-map shown (drop 1) (in_order (on_bodies key) rows)) ∙ ap (map shown) (order_mapped (drop 1) key rows)

-- a column is compared the same with the row's number and without
same_column : (a b : Row) (at : ℕ) → value_cmp (column a (Rattle.std.proofs.Common.suc at)) (column b (Rattle.std.proofs.Common.suc at)) ≡ value_cmp (column (drop 1 a) at) (column (drop 1 b) at)
same_column a b at = λ i. value_cmp (sym (column_dropped a at) i) (sym (column_dropped b at) i)

then_again : (a b c : Ordering) → ordering_then a (ordering_then b c) ≡ ordering_then (ordering_then a b) c
then_again Less b c = refl
then_again Equal b c = refl
then_again Greater b c = refl

then_self : (a : Ordering) → ordering_then a Equal ≡ ordering_then a a
then_self Less = refl
then_self Equal = refl
then_self Greater = refl

sorts_one : (a b : Row) → ordering_then (value_cmp (column a 1) (column b 1)) (ordering_then (value_cmp (rowid a) (rowid b)) Equal) ≡ numbered (on_bodies by_first) a b
sorts_one a b = λ i. ordering_then (same_column a b 0 i) (then-Equal (value_cmp (rowid a) (rowid b)) i)

sorts_two : (a b : Row) → ordering_then (value_cmp (column a 1) (column b 1)) (ordering_then (value_cmp (column a 2) (column b 2)) (ordering_then (value_cmp (rowid a) (rowid b)) Equal))
    ≡ numbered (on_bodies by_two) a b
sorts_two a b =
    (λ i. ordering_then (same_column a b 0 i) (ordering_then (same_column a b 1 i) (then-Equal (value_cmp (rowid a) (rowid b)) i)))
    ∙ then_again (by_first (drop 1 a) (drop 1 b)) (value_cmp (column (drop 1 a) 1) (column (drop 1 b) 1)) (value_cmp (rowid a) (rowid b))

shows_two : (r : Row) → column r 1 ∷ column r 2 ∷ [] ≡ two_columns (drop 1 r)
shows_two r = λ i. sym (column_dropped r 0) i ∷ sym (column_dropped r 1) i ∷ []

shows_three : (r : Row) → column r 1 ∷ column r 2 ∷ column r 3 ∷ [] ≡ three_columns (drop 1 r)
shows_three r = λ i. sym (column_dropped r 0) i ∷ sym (column_dropped r 1) i ∷ sym (column_dropped r 2) i ∷ []

shows_five : (r : Row) → column r 1 ∷ column r 2 ∷ column r 3 ∷ column r 4 ∷ column r 5 ∷ [] ≡ five_columns (drop 1 r)
shows_five r = λ i. sym (column_dropped r 0) i ∷ sym (column_dropped r 1) i ∷ sym (column_dropped r 2) i ∷ sym (column_dropped r 3) i ∷ sym (column_dropped r 4) i ∷ []

-- the rows that a text shows of a table, where those of its tree are read so
shown_of : (form : Table) (db : Database) (h : HasForm form db.schema) → IsKeyed (db.trees h.tree) → (key : Row → Row → Ordering) (shown : Row → Row) (rows : List Row)
    → (IsKeyed (overlay db.trees [] h.tree) → rows ≡ map shown (in_order key (overlay db.trees [] h.tree))) → rows ≡ map shown (in_order key (rows_named db form.name))
shown_of form db h keyed key shown rows f =
    let same = overlay_none h.tree db.trees in
    f (subst IsKeyed (sym same) keyed) ∙ ap (λ (l : List Row). map shown (in_order key l)) (same ∙ sym (ap (rows_at db.trees) h.named))

module _ (old new : State) (rows : List Row) (serves : CanRead old.now.schema) where
  pub sets_shown : (there : HasForm sets_table old.now.schema) → IsKeyed (old.now.trees there.tree) → Shown texts.sets_text [] old new rows → rows ≡ map two_columns (in_order by_first (tables_in old.now).sets)
  sets_shown there rising h =
      let p = texts.selecting there.tree texts.two_shown texts.by_key in
      let means = texts.sets_means old.now.schema there.tree (placed_of sets_table old.now.schema serves.apart there) in
      let reads : Answers old.now p [] rows = reads_as texts.sets_text [] old new old.now.schema refl (Select p (codes "dsn" ∷ codes "rec" ∷ [])) means.is means.plain means.unlisted rows h in
      let answer : IsAnswer p.body (overlay old.now.trees []) [] rows = reads.answer Null in
      shown_of sets_table old.now there rising (on_bodies by_first) (λ r. two_columns (drop 1 r)) rows (λ keyed.
      answer_is there.tree texts.two_shown texts.by_key (on_bodies by_first) (on_total (drop 1) first_total) (λ r. two_columns (drop 1 r)) (overlay old.now.trees []) rows sorts_one shows_two keyed answer)
      ∙ bodies_shown by_first two_columns (rows_named old.now (codes "sets"))

  pub replies_shown : (there : HasForm replies_table old.now.schema) → IsKeyed (old.now.trees there.tree) → Shown texts.replies_text [] old new rows → rows ≡ map five_columns (in_order by_two (tables_in old.now).replies)
  replies_shown there rising h =
      let p = texts.selecting there.tree texts.five_shown texts.by_two_keys in
      let means = texts.replies_means old.now.schema there.tree (placed_of replies_table old.now.schema serves.apart there) in
      let reads : Answers old.now p [] rows = reads_as texts.replies_text [] old new old.now.schema refl (Select p (codes "job" ∷ codes "number" ∷ codes "place" ∷ codes "request" ∷ codes "reply" ∷ [])) means.is means.plain means.unlisted rows h in
      let answer : IsAnswer p.body (overlay old.now.trees []) [] rows = reads.answer Null in
      shown_of replies_table old.now there rising (on_bodies by_two) (λ r. five_columns (drop 1 r)) rows (λ keyed.
      answer_is there.tree texts.five_shown texts.by_two_keys (on_bodies by_two) (on_total (drop 1) two_total) (λ r. five_columns (drop 1 r)) (overlay old.now.trees []) rows sorts_two shows_five keyed answer)
      ∙ bodies_shown by_two five_columns (rows_named old.now (codes "replies"))

  pub decks_shown : (there : HasForm decks_table old.now.schema) → IsKeyed (old.now.trees there.tree) → Shown texts.decks_text [] old new rows → rows ≡ map deck_columns (in_order by_first (tables_in old.now).decks)
  decks_shown there rising h =
      let p = texts.selecting there.tree texts.deck_shown texts.by_number in
      let means = texts.decks_means old.now.schema there.tree (placed_of decks_table old.now.schema serves.apart there) in
      let reads : Answers old.now p [] rows = reads_as texts.decks_text [] old new old.now.schema refl (Select p (codes "count" ∷ codes "bytes" ∷ [])) means.is means.plain means.unlisted rows h in
      let answer : IsAnswer p.body (overlay old.now.trees []) [] rows = reads.answer Null in
      shown_of decks_table old.now there rising by_first deck_columns rows (λ keyed.
      answer_is there.tree texts.deck_shown texts.by_number by_first first_total deck_columns (overlay old.now.trees []) rows (λ a b. then_self (value_cmp (rowid a) (rowid b))) (λ r. refl) keyed answer)

  pub statuses_shown : (there : HasForm statuses_table old.now.schema) → IsKeyed (old.now.trees there.tree) → Shown texts.statuses_text [] old new rows → rows ≡ map three_columns (in_order by_two (tables_in old.now).statuses)
  statuses_shown there rising h =
      let p = texts.selecting there.tree texts.three_shown texts.by_two_keys in
      let means = texts.statuses_means old.now.schema there.tree (placed_of statuses_table old.now.schema serves.apart there) in
      let reads : Answers old.now p [] rows = reads_as texts.statuses_text [] old new old.now.schema refl (Select p (codes "kind" ∷ codes "name" ∷ codes "status" ∷ [])) means.is means.plain means.unlisted rows h in
      let answer : IsAnswer p.body (overlay old.now.trees []) [] rows = reads.answer Null in
      shown_of statuses_table old.now there rising (on_bodies by_two) (λ r. three_columns (drop 1 r)) rows (λ keyed.
      answer_is there.tree texts.three_shown texts.by_two_keys (on_bodies by_two) (on_total (drop 1) two_total) (λ r. three_columns (drop 1 r)) (overlay old.now.trees []) rows sorts_two shows_three keyed answer)
      ∙ bodies_shown by_two three_columns (rows_named old.now (codes "statuses"))

  pub floors_shown : (there : HasForm floors_table old.now.schema) → IsKeyed (old.now.trees there.tree) → Shown texts.floors_text [] old new rows → rows ≡ map two_columns (in_order by_first (tables_in old.now).floors)
  floors_shown there rising h =
      let p = texts.selecting there.tree texts.two_shown texts.by_key in
      let means = texts.floors_means old.now.schema there.tree (placed_of floors_table old.now.schema serves.apart there) in
      let reads : Answers old.now p [] rows = reads_as texts.floors_text [] old new old.now.schema refl (Select p (codes "job" ∷ codes "floor" ∷ [])) means.is means.plain means.unlisted rows h in
      let answer : IsAnswer p.body (overlay old.now.trees []) [] rows = reads.answer Null in
      shown_of floors_table old.now there rising (on_bodies by_first) (λ r. two_columns (drop 1 r)) rows (λ keyed.
      answer_is there.tree texts.two_shown texts.by_key (on_bodies by_first) (on_total (drop 1) first_total) (λ r. two_columns (drop 1 r)) (overlay old.now.trees []) rows sorts_one shows_two keyed answer)
      ∙ bodies_shown by_first two_columns (rows_named old.now (codes "floors"))
