-- Faults that are told one by one are the first of all of them.
use Rattle.std.proofs.Common.{◌≡◌, ◌≤◌, ◌<◌, ◌+◌, ℕ, Bool, true, false, List, [], ◌∷◌, ◌++◌, length, take, nat_lt, refl, sym, ◌∙◌, ap, arith}
use Rattle.std.specs.Prelude.{if◌then◌else◌}
use Rattle.std.proofs.lemmas.List.{append-nil, append_assoc, length-append, take_at, take_all}
use Rattle.std.proofs.lemmas.Bool.Decides.{nat_tests}
use Rattle.sms_construct.specs.declared.fault.Fault.{Fault}
use Rattle.deck_faults.specs.Inner.Telling.{put, put_all}

pub put_append : (told xs ys : List Fault) → put_all told (xs ++ ys) ≡ put_all (put_all told xs) ys
put_append told [] ys = refl
put_append told (x ∷ xs) ys = put_append (put told x) xs ys

-- where there is no room, nothing is told

full_at : (told : List Fault) (x : Fault) (xs : List Fault) (b : Bool) → nat_lt (length told) 100 ≡ b → length told ≡ 100 → put_all told xs ≡ told → put_all (if b then told ++ x ∷ [] else told) xs ≡ told
full_at told x xs true t e h = absurd (grind (arith, nat_tests))
full_at told x xs false t e h = h

full : (told xs : List Fault) → length told ≡ 100 → put_all told xs ≡ told
full told [] e = refl
full told (x ∷ xs) e = full_at told x xs (nat_lt (length told) 100) refl e (full told xs e)

-- what is told is the front of what there is
told_at : (told : List Fault) (x : Fault) (xs : List Fault) (b : Bool) → nat_lt (length told) 100 ≡ b → length told ≤ 100
    → ((next : List Fault) → length next ≤ 100 → put_all next xs ≡ take 100 (next ++ xs)) → put_all (if b then told ++ x ∷ [] else told) xs ≡ take 100 (told ++ x ∷ xs)
told_at told x xs true t fits h =
    let few : length told < 100 = grind (arith, nat_tests) in
    let one_more : length (told ++ x ∷ []) ≤ 100 = let e = length-append told (x ∷ []) in omega (arith, e, few) in
    h (told ++ x ∷ []) one_more ∙ ap (take 100) (append_assoc told (x ∷ []) xs)
told_at told x xs false t fits h =
    let most : length told ≡ 100 = grind (arith, nat_tests) in
    full told xs most ∙ sym (take_at told (x ∷ xs) 100 most)

pub told_front : (told xs : List Fault) → length told ≤ 100 → put_all told xs ≡ take 100 (told ++ xs)
told_front told [] fits = sym (ap (take 100) (append-nil told) ∙ take_all 100 told fits)
told_front told (x ∷ xs) fits = told_at told x xs (nat_lt (length told) 100) refl fits (λ next h. told_front next xs h)

pub told_from_none : (xs : List Fault) → put_all [] xs ≡ take 100 xs
told_from_none xs = told_front [] xs (omega arith)
