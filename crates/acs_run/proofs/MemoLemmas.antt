-- What a run remembers.
use Rattle.std.proofs.Common.{◌≡◌, ℕ, zero, suc, Bool, List, [], ◌∷◌, replicate, refl, sym, ap, ◌∙◌, subst, ⊎_elim}
use Rattle.std.specs.Prelude.{Option, Some, None, slice_get, slice_set}
use Rattle.std.proofs.lemmas.Bool.{cases_eq}
use Rattle.dsn_mask.specs.Filter.{FilterLists}
use Rattle.acs_run.specs.declared.memo.Memo.{Memo}
use Rattle.acs_run.specs.Inner.Memos.{Knows, Remembers}
use Rattle.acs_run.specs.Inner.Seen.{passes_if_any}

set_here : (answers : List (Option Bool)) (place : ℕ) (answer other : Bool) → slice_get (slice_set answers place (Some answer)) place ≡ Some (Some other) → other ≡ answer
set_here [] place answer other e = absurd (let no : None ≡ Some (Some other) = e in cc)
set_here (first ∷ answers) zero answer other e = let is : Some (Some answer) ≡ Some (Some other) = e in cc
set_here (first ∷ answers) (suc place) answer other e = set_here answers place answer other e

set_elsewhere : (answers : List (Option Bool)) (place at : ℕ) (answer : Bool) → (at ≡ place → ⊥) → slice_get (slice_set answers place (Some answer)) at ≡ slice_get answers at
set_elsewhere [] place at answer apart = refl
set_elsewhere (first ∷ answers) zero zero answer apart = absurd (apart refl)
set_elsewhere (first ∷ answers) zero (suc at) answer apart = refl
set_elsewhere (first ∷ answers) (suc place) zero answer apart = refl
set_elsewhere (first ∷ answers) (suc place) (suc at) answer apart = set_elsewhere answers place at answer (λ e. apart (ap suc e))

pub remembered : (filters : List FilterLists) (dsn : List ℕ) (answers : List (Option Bool)) (place : ℕ) (answer : Bool) → Remembers filters dsn answers → answer ≡ passes_if_any dsn (slice_get filters place) → Remembers filters dsn (slice_set answers place (Some answer))
remembered filters dsn answers place answer before found = λ at other e. ⊎_elim
    (λ here. set_here answers place answer other (ap (slice_get (slice_set answers place (Some answer))) (sym here) ∙ e) ∙ found ∙ ap (λ n. passes_if_any dsn (slice_get filters n)) (sym here))
    (λ apart. before at other (sym (set_elsewhere answers place at answer apart) ∙ e))
    (cases_eq at place)

-- no answer is there at first
pub none_there : (count place : ℕ) (answer : Bool) → slice_get (replicate {A = Option Bool} count None) place ≡ Some (Some answer) → ⊥
none_there zero place answer e = let no : None ≡ Some (Some answer) = e in cc
none_there (suc count) zero answer e = let no : Some None ≡ Some (Some answer) = e in cc
none_there (suc count) (suc place) answer e = none_there count place answer e

-- what is known after a text was made
pub known_after : (filters : List FilterLists) (dsn own : List ℕ) (before after : Memo) → own ≡ dsn → (Knows filters own before → Knows filters own after) → Knows filters dsn before → Knows filters dsn after
known_after filters dsn own before after same learns knows = subst (λ (n : List ℕ). Knows filters n after) same (learns (subst (λ (n : List ℕ). Knows filters n before) (sym same) knows))
