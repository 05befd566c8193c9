-- The test of filter lists is the relation.
use Rattle.std.proofs.Common.{Bool, ◌≡◌, ℕ, true, false, List, [], ◌∷◌, refl, sym, ◌∙◌, inl, inr}
use Rattle.std.specs.Prelude.{◌&&◌, ◌↔◌, IsTrue, Any, bytes_eq, not}
use Rattle.std.specs.List.{list_any}
use Rattle.std.specs.Cmp.Lexicographic.{same_text, other_text}
use Rattle.std.proofs.lemmas.List.Folds.{Any-from_list_any, list_any-from_Any}
use Rattle.dsn_mask.specs.MaskTest.{is_empty, mask_fits, simple_fits}
use Rattle.dsn_mask.specs.Filter.{EntryFits, PassesFilter, entry_fits, passes_filter}
use Rattle.dsn_mask.specs.declared.entry.Entry.{Entry}
use Rattle.dsn_mask.specs.declared.entry.Entry.TheVariants.{Quoted, Dots, Plain}
use Rattle.dsn_mask.proofs.Faults.{both}
use Rattle.dsn_mask.proofs.Fitting.{mask_law, piece_law}
use Rattle.dsn_mask.proofs.Greedy.{by_either, left_of_or, right_of_or}

not_both : false ≡ true → ⊥
not_both e = cc

-- entries

same_bytes : (a b : List ℕ) (same : Bool) → same ≡ bytes_eq a b → a ≡ b → same ≡ true
same_bytes a b true e h = refl
same_bytes a b false e h = absurd (other_text a b e h)

entry_from : (value : List ℕ) (entry : Entry) → entry_fits value entry ≡ true → EntryFits value entry
entry_from value (Quoted literal) e = same_text literal value (sym e)
entry_from value (Dots mask) e = (mask_law mask value (mask_fits mask value) refl).0 e
entry_from value (Plain simple) e = (piece_law simple value (simple_fits simple value) refl).0 e

entry_passes : (value : List ℕ) (entry : Entry) → EntryFits value entry → entry_fits value entry ≡ true
entry_passes value (Quoted literal) f = same_bytes literal value _ refl f
entry_passes value (Dots mask) f = (mask_law mask value (mask_fits mask value) refl).1 f
entry_passes value (Plain simple) f = (piece_law simple value (simple_fits simple value) refl).1 f

some_fits : (value : List ℕ) (entries : List Entry) → list_any (entry_fits value) entries ≡ true → Any (EntryFits value) entries
some_fits value entries e = let a = Any-from_list_any (entry_fits value) entries e in (a.0, a.1, a.2, a.3, entry_from value a.1 a.4)

some_passes : (value : List ℕ) (entries : List Entry) → Any (EntryFits value) entries → list_any (entry_fits value) entries ≡ true
some_passes value entries a = list_any-from_Any (entry_fits value) entries (a.0, a.1, a.2, a.3, entry_passes value a.1 a.4)

-- the two lists

empty_is : (entries : List Entry) → is_empty entries ≡ true → entries ≡ []
empty_is [] e = refl
empty_is (x ∷ xs) e = absurd (not_both e)

empty_passes : (entries : List Entry) → entries ≡ [] → is_empty entries ≡ true
empty_passes [] e = refl
empty_passes (x ∷ xs) e = cc

not_false : (b : Bool) → not b ≡ true → b ≡ true → ⊥
not_false true e h = not_both e
not_false false e h = not_both h

not_true : (b : Bool) → (b ≡ true → ⊥) → not b ≡ true
not_true true no_way = absurd (no_way refl)
not_true false no_way = refl

and_true : (a b : Bool) → a ≡ true → b ≡ true → (a && b) ≡ true
and_true a b e h = rw (e, h) refl

filter_from : (value : List ℕ) (include exclude : List Entry) → passes_filter value include exclude ≡ true → PassesFilter value include exclude
filter_from value include exclude e =
    let parts = both _ _ e in
    record {
      included = by_either (is_empty include) (list_any (entry_fits value) include) parts.0 (λ h. inl (empty_is include h)) (λ h. inr (some_fits value include h));
      not_excluded = λ a. not_false _ parts.1 (some_passes value exclude a);
    }

filter_passes : (value : List ℕ) (include exclude : List Entry) → PassesFilter value include exclude → passes_filter value include exclude ≡ true
filter_passes value include exclude p =
    and_true _ _ (elim p.included [
      | inl none ↦ left_of_or (is_empty include) (list_any (entry_fits value) include) (empty_passes include none)
      | inr some ↦ right_of_or (is_empty include) (list_any (entry_fits value) include) (some_passes value include some)
    ]) (not_true _ (λ h. p.not_excluded (some_fits value exclude h)))

pub filter_law : (value : List ℕ) (include exclude : List Entry) (result : Bool) → result ≡ passes_filter value include exclude → IsTrue result ↔ PassesFilter value include exclude
filter_law value include exclude true e = (λ h. filter_from value include exclude (sym e), λ p. refl)
filter_law value include exclude false e = (λ h. absurd (not_both h), λ p. absurd (not_both (e ∙ filter_passes value include exclude p)))
