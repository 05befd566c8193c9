-- What the search for a higher floor finds.
use Rattle.std.proofs.Common.{◌≡◌, ◌&&◌, ℕ, ℤ, Bool, true, false, not, List, [], ◌∷◌, drop, length, eqb, refl, sym, ap}
use Rattle.std.proofs.Common.{ap₂, subst, ◌∙◌, inl, arith, ne_eqb, codes}
use Rattle.std.specs.List.{list_all, list_any}
use Rattle.sqlite.specs.declared.types.Value.TheVariants.{Null, Int, Text}
use Rattle.sqlite.specs.Effect.{Answers}
use Rattle.sqlite.specs.Order.{Row}
use Rattle.sqlite.specs.Program.{overlay}
use Rattle.sqlite.specs.Query.{IsAnswer}
use Rattle.sqlite.specs.State.{State, Shown}
use Rattle.sqlite.specs.Term.{holds}
use Rattle.sqlite.specs.Command.TheVariants.{Select}
use Rattle.sqlite.specs.Listing.{understood}
use Rattle.sqlite.proofs.Callers.{reads_as, IsPlain}
use Rattle.sqlite_value.specs.Order.{column}
use Rattle.sqlite_trees.specs.Tree.{rowid}
use Rattle.sqlite_rules.specs.Lists.{Has}
use Rattle.sqlite_rules.proofs.ListLemmas.{some_has, some_from}
use Rattle.sqlite_rules.proofs.ProbeLemmas.{has_mapped, mapped_has}
use Rattle.sqlite_rules.specs.Probe.{AreFound}
use Rattle.keeper_statements.specs.Schema.{floors_table}
use Rattle.keeper_statements.specs.Tables.{IsReady, bodies, tables_in}
use Rattle.keeper_statements.specs.Tests.{is_above, is_equal, is_greater}
use Rattle.keeper_statements.proofs.ReadTextLemmas as texts
use Rattle.keeper_statements.proofs.TextLemmas.{first_is}
use Rattle.keeper_statements.proofs.UnderstoodLemmas.{deleting}
use Rattle.keeper_statements.proofs.EditLemmas.{rows_of_form}
use Rattle.keeper_statements.proofs.PlaceLemmas.{listed_of}
use Rattle.keeper_statements.proofs.FoundLemmas.{column_dropped, and_true}
use Rattle.keeper_statements.proofs.DeleteLemmas.{finds, overlay_none}

above_alike : (job : List ℕ) (number : ℤ) (r : Row) → list_all (holds ((Text job ∷ Int number ∷ []) ∷ r ∷ [])) (first_is ∷ texts.second_above ∷ []) ≡ is_above job number (drop 1 r)
above_alike job number r =
    ap (λ b. is_equal (column r 1) (Text job) && b) (and_true _)
    ∙ ap₂ (λ a b. is_equal a (Text job) && is_greater b (Int number)) (sym (column_dropped r 0)) (sym (column_dropped r 1))

abbrev is_empty : List Row → Bool
is_empty rows = eqb (length rows) 0

empty_is : (rows : List Row) → ((x : Row) → Has rows x → ⊥) → is_empty rows ≡ true
empty_is [] none = refl
empty_is (x ∷ rows) none = absurd (none x (inl refl))

full_is : (rows : List Row) (x : Row) → Has rows x → is_empty rows ≡ false
full_is [] x h = absurd h
full_is (y ∷ rows) x h = ne_eqb _ 0 (omega arith)

pub above_found : (old new : State) (job : List ℕ) (number : ℤ) (rows : List Row) → IsReady old.now → Shown texts.above_text (Text job ∷ Int number ∷ []) old new rows
    → not (is_empty rows) ≡ list_any (is_above job number) (tables_in old.now).floors
above_found old new job number rows ready h =
    let there = ready.floors.there in
    let tree = there.tree in
    let params = Text job ∷ Int number ∷ [] in
    let terms = first_is ∷ texts.second_above ∷ [] in
    let q = deleting tree terms in
    let means = texts.above_means old.now.schema tree (listed_of floors_table old.now.schema ready.serves there) in
    let reads : Answers old.now q params rows = reads_as texts.above_text params old new old.now.schema refl (Select q (codes "rowid" ∷ [])) means.is means.plain means.unlisted rows h in
    let answer : IsAnswer q.body (overlay old.now.trees []) params rows = reads.answer Null in
    let found = subst (λ (l : List Row). AreFound terms l params rows) (overlay_none tree old.now.trees) (finds tree terms (overlay old.now.trees []) params [] rows answer) in
    by (list_any (is_above job number) (bodies (old.now.trees tree))) refl found.sound found.complete
    ∙ ap (λ (l : List Row). list_any (is_above job number) (bodies l)) (sym (rows_of_form floors_table old.now there))
  where
    tree : ℕ
    tree = ready.floors.there.tree

    by : (b : Bool) → list_any (is_above job number) (bodies (old.now.trees tree)) ≡ b
        → ((x : Row) → Has rows x → (r : Row) × Has (old.now.trees tree) r × (list_all (holds ((Text job ∷ Int number ∷ []) ∷ r ∷ [])) (first_is ∷ texts.second_above ∷ []) ≡ true) × (x ≡ rowid r ∷ []))
        → ((r : Row) → Has (old.now.trees tree) r → list_all (holds ((Text job ∷ Int number ∷ []) ∷ r ∷ [])) (first_is ∷ texts.second_above ∷ []) ≡ true → Has rows (rowid r ∷ []))
        → not (is_empty rows) ≡ b
    by true is sound complete =
        let some = some_has (is_above job number) (bodies (old.now.trees tree)) is in
        let at = has_mapped (drop 1) (old.now.trees tree) some.0 some.1 in
        let passes : is_above job number (drop 1 at.0) ≡ true = ap (is_above job number) (sym at.2) ∙ some.2 in
        ap not (full_is rows _ (complete at.0 at.1 (above_alike job number at.0 ∙ passes)))
    by false is sound complete =
        ap not (empty_is rows (λ x h.
        let hit = sound x h in
        let passes : is_above job number (drop 1 hit.0) ≡ true = sym (above_alike job number hit.0) ∙ hit.2 in
        let some : list_any (is_above job number) (bodies (old.now.trees tree)) ≡ true = some_from (is_above job number) (bodies (old.now.trees tree)) (drop 1 hit.0) (mapped_has (drop 1) (old.now.trees tree) hit.0 hit.1) passes in
        cc))

-- a query changes nothing
pub shown_same : (text : List ℕ) (params : Row) (old new : State) (rows : List Row) → IsPlain (understood old.now.schema text) → Shown text params old new rows → new.now ≡ old.now
unfolding Shown
shown_same text params old new rows plain h =
    let bare = subst IsPlain h.1.is plain in
    let it = rw bare.0 at h.2 in
    it.3.0.now_is

pub above_same : (old new : State) (job : List ℕ) (number : ℤ) (rows : List Row) → IsReady old.now → Shown texts.above_text (Text job ∷ Int number ∷ []) old new rows → new.now ≡ old.now
above_same old new job number rows ready h =
    let there = ready.floors.there in
    shown_same texts.above_text (Text job ∷ Int number ∷ []) old new rows (texts.above_means old.now.schema there.tree (listed_of floors_table old.now.schema ready.serves there)).plain h
