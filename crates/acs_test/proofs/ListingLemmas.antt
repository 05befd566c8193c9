-- The listing, case by case.
use Rattle.std.proofs.Common.{◌≡◌, ◌<◌, ◌≤◌, ℕ, zero, suc, ◌+◌, Bool, true, false, ◌&&◌, List, [], ◌∷◌, ◌++◌, length, get_or}
use Rattle.std.proofs.Common.{drop, refl, sym, ap, ◌∙◌, subst, arith, append_assoc, append-nil}
use Rattle.std.proofs.lemmas.List.{at_drop_more}
use Rattle.desk_law.specs.Classification.{Classes}
use Rattle.sms_construct.specs.Configuration.{Configuration}
use Rattle.acs_test.specs.Listing.{IsListed, IsSame, classes_for, count_differing, listed_text, none, one, text_in}
use Rattle.acs_test.specs.declared.case.Case.{Case}
use Rattle.acs_test.specs.declared.form.CaseForm.{CaseForm}

-- cases with this listing before those that are left
abbrev pub IsListedSo : Configuration → Configuration → CaseForm → Bool → List Case → List Case → ℕ → List ℕ → Type 0
IsListedSo before after form changed cases rest differing text = (count : ℕ) (more : List ℕ) → IsListed before after form changed rest count more → IsListed before after form changed cases (differing + count) (text ++ more)

-- what is listed of a case: nothing where it is left out, and else its text

pub left_out : (form : CaseForm) (changed : Bool) (case : Case) (old new : Classes) (same : Bool) → changed ≡ true → same ≡ true → listed_text form changed case old new same ≡ []
left_out form true case old new true c e = refl
left_out form true case old new false c e = absurd (cc e)
left_out form false case old new same c e = absurd (cc c)

pub put_in : (form : CaseForm) (changed : Bool) (case : Case) (old new : Classes) (same : Bool) → (changed && same) ≡ false → listed_text form changed case old new same ≡ text_in form case old new same
put_in form false case old new same e = refl
put_in form true case old new false e = refl
put_in form true case old new true e = absurd (cc e)

-- nothing was listed yet
pub listed_none : (before after : Configuration) (form : CaseForm) (changed : Bool) (cases : List Case) → IsListedSo before after form changed cases cases 0 []
listed_none before after form changed cases count more listed = subst (λ (n : ℕ). IsListed before after form changed cases n more) (omega arith) listed

-- all cases are listed
pub listed_all : (before after : Configuration) (form : CaseForm) (changed : Bool) (cases rest : List Case) (differing : ℕ) (text : List ℕ) → rest ≡ [] → IsListedSo before after form changed cases rest differing text → IsListed before after form changed cases differing text
listed_all before after form changed cases rest differing text empty so_far =
    let last : IsListed before after form changed rest 0 [] = subst (λ (cs : List Case). IsListed before after form changed cs 0 []) (sym empty) none in
    subst (λ (n : ℕ). IsListed before after form changed cases n text) (omega arith) (subst (λ (t : List ℕ). IsListed before after form changed cases (differing + 0) t) (append-nil text) (so_far 0 [] last))

counted : (same : Bool) (differing count : ℕ) → differing + count_differing same count ≡ count_differing same differing + count
counted true differing count = refl
counted false differing count = omega arith

-- one case more
pub listed_more : (before after : Configuration) (form : CaseForm) (changed : Bool) (cases : List Case) (i : ℕ) (case : Case) (same : Bool) (differing : ℕ) (text grown : List ℕ) → i < length cases → case ≡ get_or cases i case → IsSame before after case same
    → grown ≡ text ++ listed_text form changed case (classes_for before case) (classes_for after case) same → IsListedSo before after form changed cases (drop i cases) differing text
    → IsListedSo before after form changed cases (drop (i + 1) cases) (count_differing same differing) grown
listed_more before after form changed cases i case same differing text grown less here is longer so_far count more listed =
    let shown = listed_text form changed case (classes_for before case) (classes_for after case) same in
    let next : drop i cases ≡ case ∷ drop (i + 1) cases = at_drop_more (λ (cs : List Case). cs) cases i case less ∙ ap (λ (c : Case). c ∷ drop (i + 1) cases) (sym here) in
    let joined = so_far (count_differing same count) (shown ++ more)
    (subst (λ (cs : List Case). IsListed before after form changed cs (count_differing same count) (shown ++ more)) (sym next) (one case (drop (i + 1) cases) count more same is listed)) in
    subst (λ (n : ℕ). IsListed before after form changed cases n (grown ++ more)) (counted same differing count)
    (subst (λ (t : List ℕ). IsListed before after form changed cases (differing + count_differing same count) t) (sym (append_assoc text shown more) ∙ ap (λ (t : List ℕ). t ++ more) (sym longer)) joined)

-- behind the last case there is none
pub drop_all : (cases : List Case) (i : ℕ) → length cases ≤ i → drop i cases ≡ []
drop_all [] zero less = refl
drop_all [] (suc i) less = refl
drop_all (case ∷ cases) zero less = absurd (omega arith)
drop_all (case ∷ cases) (suc i) less = drop_all cases i (omega arith)

pub counted_few : (same : Bool) (differing i : ℕ) → differing ≤ i → count_differing same differing ≤ i + 1
counted_few true differing i few = omega arith
counted_few false differing i few = omega arith
