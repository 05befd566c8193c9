-- Filter lists and their places.
use Rattle.std.proofs.Common.{◌≡◌, ◌<◌, ◌+◌, ◌*◌, ℕ, zero, suc, Bool, true, false, List, [], ◌∷◌, length, drop, get_or}
use Rattle.std.proofs.Common.{refl, sym, ap, ◌∙◌, subst, arith}
use Rattle.std.specs.Prelude.{Option, Some, bytes_eq, cond, find, map, slice_get, if◌then◌else◌}
use Rattle.std.proofs.Math.Seq.{drop-cons}
use Rattle.std.proofs.lemmas.Option.{slice_get-get_or}
use Rattle.acs_code.specs.declared.compiled_list.CompiledList.{CompiledList}
use Rattle.acs_tree.specs.declared.routine.Stmt.{Stmt}
use Rattle.acs_tree.specs.Comparands.{Comparand, Filter, Nothing, filter_of, list_comparand}
use Rattle.acs_tree.specs.FilterLists.{FilterList, list_named, lists_in}
use Rattle.acs_code.specs.Machine.{filter_comparand}
use Rattle.acs_code.specs.Rights.{IsFilterOf, IsNoneAmong, IsPlaceAmong, filter_place}
use Rattle.acs_code.specs.Compiled.{compiled, compiled_comparand, compiled_in, filters_in}

pub two_each : (lists : List CompiledList) → length (filters_in lists) ≡ 2 * length lists
two_each [] = refl
two_each (list ∷ lists) = omega (arith, two_each lists)

dotted_at : (lists : List CompiledList) (place : ℕ) (list : CompiledList) → slice_get lists place ≡ Some list → slice_get (filters_in lists) (2 * place) ≡ Some list.dotted
dotted_at [] place list e = cc
dotted_at (first ∷ lists) zero list e = ap (λ (found : CompiledList). Some found.dotted) (let same : first ≡ list = cc in same)
dotted_at (first ∷ lists) (suc place) list e =
    let next : 2 * suc place ≡ suc (suc (2 * place)) = omega arith in
    ap (slice_get (filters_in (first ∷ lists))) next ∙ dotted_at lists place list e

plain_at : (lists : List CompiledList) (place : ℕ) (list : CompiledList) → slice_get lists place ≡ Some list → slice_get (filters_in lists) (2 * place + 1) ≡ Some list.plain
plain_at [] place list e = cc
plain_at (first ∷ lists) zero list e = ap (λ (found : CompiledList). Some found.plain) (let same : first ≡ list = cc in same)
plain_at (first ∷ lists) (suc place) list e =
    let next : 2 * suc place + 1 ≡ suc (suc (2 * place + 1)) = omega arith in
    ap (slice_get (filters_in (first ∷ lists))) next ∙ plain_at lists place list e

pub place_of : (lists : List CompiledList) (name : List ℕ) (place : ℕ) (list : CompiledList) → place < length lists → list ≡ get_or lists place list → bytes_eq list.name name ≡ true
    → ((whole : Bool) → compiled_comparand whole (drop place lists) name ≡ compiled_comparand whole lists name) → IsPlaceAmong lists name place
place_of lists name place list within is same rest = record { within = within; same = found; there = there }
  where
    at : slice_get lists place ≡ Some list
    at = slice_get-get_or lists place list within ∙ ap Some (sym is)

    named : (whole : Bool) → Filter (if whole then list.dotted else list.plain) ≡ compiled_comparand whole lists name
    named whole =
        sym (ap (λ b. if b then Filter (if whole then list.dotted else list.plain) else compiled_comparand whole (drop (suc place) lists) name) same)
        ∙ ap (λ (l : CompiledList). compiled_comparand whole (l ∷ drop (suc place) lists) name) is
        ∙ sym (ap (λ ls. compiled_comparand whole ls name) (drop-cons lists place list within)) ∙ rest whole

    found : (whole : Bool) → filter_comparand (slice_get (filters_in lists) (filter_place whole place)) ≡ compiled_comparand whole lists name
    found true = ap filter_comparand (dotted_at lists place list at) ∙ named true
    found false = ap filter_comparand (plain_at lists place list at) ∙ named false

    there : (whole : Bool) → filter_place whole place < length (filters_in lists)
    there true = omega (arith, within, two_each lists)
    there false = omega (arith, within, two_each lists)

-- compiled lists are those of the body

same_step : (b whole : Bool) (list : FilterList) (rest : Comparand) (found : Option FilterList) → rest ≡ list_comparand whole found
    → (if b then Filter (if whole then filter_of true list else filter_of false list) else rest) ≡ list_comparand whole (cond b (Some list) found)
same_step true true list rest found e = refl
same_step true false list rest found e = refl
same_step false whole list rest found e = e

same_among : (whole : Bool) (lists : List FilterList) (name : List ℕ) → compiled_comparand whole (map compiled lists) name ≡ list_comparand whole (find (λ (list : FilterList). bytes_eq list.name name) lists)
same_among whole [] name = refl
same_among whole (list ∷ lists) name =
    same_step (bytes_eq list.name name) whole list (compiled_comparand whole (map compiled lists) name) (find (λ (other : FilterList). bytes_eq other.name name) lists) (same_among whole lists name)

module _ (body : List Stmt) (lists : List CompiledList) (are : lists ≡ compiled_in body) (name : List ℕ) (whole : Bool) where
  same_list : compiled_comparand whole lists name ≡ list_comparand whole (list_named body name)
  same_list = ap (λ ls. compiled_comparand whole ls name) are ∙ same_among whole (lists_in body) name

  pub no_list : IsNoneAmong lists name → list_comparand whole (list_named body name) ≡ Nothing
  no_list none = sym same_list ∙ none whole

  pub filter_of_list : (place : ℕ) → IsPlaceAmong lists name place → IsFilterOf body whole name (filter_place whole place)
  filter_of_list place is = record {
    same = ap (λ ls. filter_comparand (slice_get (filters_in ls) (filter_place whole place))) (sym are) ∙ is.same whole ∙ same_list;
    there = subst (λ ls. filter_place whole place < length (filters_in ls)) are (is.there whole);
  }
