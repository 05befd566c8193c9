-- What is known of a signed list at the close.
use Rattle.std.proofs.Common.{inl, inr, ◌≡◌, ℕ, zero, suc, ◌-◌, ◌<◌, ◌≤◌, ◌==◌, List, [], ◌∷◌, ◌++◌}
use Rattle.std.proofs.Common.{length, get_or, None, All, Contains, length-append}
use Rattle.std.proofs.Common.{refl, sym, ap, subst, ◌∙◌, arith}
use Rattle.std.proofs.lemmas.Bool.{cases_Bool}
use Rattle.std.proofs.lemmas.List.Elements.{recursion_from_All}
use Rattle.std.specs.List.{AllByRecursion}
use Rattle.turn_lock.specs.declared.signed.Signed.{Signed}
use Rattle.turn_lock.specs.Views.{IsBy, StartsWith, made_by}
use Rattle.turn_lock.proofs.StepLemmas.{made_more}
use Rattle.desk_signing.specs.declared.event.Event.{Event}
use Rattle.desk_signing.specs.declared.event.Event.TheVariants.{Began, Made}
use Rattle.sms_construct.specs.declared.entry.Entry.{Entry}
use Rattle.desk_law.specs.State.{Opening}
use Rattle.desk_signing.specs.Signing.{events, made, sign, signed, signed_last}
use Rattle.desk_plan.specs.Sharing.{those}
use Rattle.desk_workers.specs.Inner.Closed.{HasClosed, Signs}

same-made : (a b : Entry) (xs ys : List (Signed Event)) → made None a ∷ xs ≡ made None b ∷ ys → (a ≡ b) × (xs ≡ ys)
same-made a b xs ys is =
    let head : made None a ≡ made None b = cc in
    let entry : Made a ≡ Made b = ap (λ (e : Signed Event). e.entry) head in
    (cc, cc)

-- the entries before stand, and the others are signed
front : (js js' : List Entry) (ns : List ℕ) (rest : List (Signed Event)) → sign (length js) js' ns ≡ sign (length js) js [] ++ rest → (added : List Entry) × (js' ≡ js ++ added) × (sign zero added ns ≡ rest)
front [] js' ns rest is = (js', refl, is)
front (j ∷ js) [] ns rest is = absurd cc
front (j ∷ js) (k ∷ js') ns rest is =
    let heads = same-made k j (sign (length js) js' ns) (sign (length js) js [] ++ rest) is in
    let t = front js js' ns rest heads.1 in
    (t.0, ap (λ x. x ∷ js') heads.0 ∙ ap (λ xs. j ∷ xs) t.1, t.2)

unsigned-made : (k : ℕ) (js : List Entry) → made_by k (sign (length js) js []) ≡ []
unsigned-made k [] = refl
unsigned-made k (j ∷ js) = unsigned-made k js

signed-made : (k : ℕ) (es : List Entry) (ns : List ℕ) → length es ≡ length ns → made_by k (sign zero es ns) ≡ events (those k ns es)
signed-made k [] [] same = refl
signed-made k [] (n ∷ ns) same = refl
signed-made k (e ∷ es) [] same = absurd (omega (arith, same))
signed-made k (e ∷ es) (n ∷ ns) same =
    let rest = signed-made k es ns (omega (arith, same)) in
    elim (cases_Bool (n == k)) [
      | inl is ↦ rw is (ap (λ xs. Made e ∷ xs) rest)
      | inr not ↦ rw not rest
    ]

events-one : (a b : Entry) (xs ys : List Event) → Made a ∷ xs ≡ Made b ∷ ys → (a ≡ b) × (xs ≡ ys)
events-one a b xs ys is = (cc, cc)

events-same : (xs ys : List Entry) → events xs ≡ events ys → xs ≡ ys
events-same [] [] is = refl
events-same [] (y ∷ ys) is = absurd cc
events-same (x ∷ xs) [] is = absurd cc
events-same (x ∷ xs) (y ∷ ys) is = let heads = events-one x y (events xs) (events ys) is in ap (λ z. z ∷ xs) heads.0 ∙ ap (λ zs. y ∷ zs) (events-same xs ys heads.1)

any-default : (xs : List ℕ) (i a b : ℕ) → i < length xs → get_or xs i a ≡ get_or xs i b
any-default [] i a b less = absurd (omega arith)
any-default (x ∷ xs) zero a b less = refl
any-default (x ∷ xs) (suc i) a b less = any-default xs i a b (omega arith)

all-signs : (numbers : List ℕ) (es : List Entry) (ns : List ℕ) → length es ≡ length ns → AllByRecursion (IsBy numbers) (sign zero es ns) → AllByRecursion (Signs (length numbers) (λ i. get_or numbers i 0)) ns
all-signs numbers [] [] same h = tt
all-signs numbers [] (n ∷ ns) same h = absurd (omega (arith, same))
all-signs numbers (e ∷ es) [] same h = absurd (omega (arith, same))
all-signs numbers (e ∷ es) (n ∷ ns) same h =
    let at : Contains numbers n = h.0 in
    ((at.0, at.1, sym (any-default numbers at.0 0 n at.1 ∙ at.2)), all-signs numbers es ns (omega (arith, same)) h.1)

all-behind : (P : Signed Event → Type 0) (xs ys : List (Signed Event)) → AllByRecursion P (xs ++ ys) → AllByRecursion P ys
all-behind P [] ys h = h
all-behind P (x ∷ xs) ys h = all-behind P xs ys h.1

same-began : (o : Opening) (mark b : ℕ) (o' : Opening) (mark' b' : ℕ) (xs ys : List (Signed Event)) → record { by = None; entry = Began o mark b } ∷ xs ≡ record { by = None; entry = Began o' mark' b' } ∷ ys → (o ≡ o') × (mark ≡ mark') × (b ≡ b') × (xs ≡ ys)
same-began o mark b o' mark' b' xs ys is =
    let one : Signed Event = record { by = None; entry = Began o mark b } in
    let other : Signed Event = record { by = None; entry = Began o' mark' b' } in
    let head : one ≡ other = cc in
    let entry : Began o mark b ≡ Began o' mark' b' = ap (λ (e : Signed Event). e.entry) head in
    (cc, cc, cc, cc)

-- what the clauses of a close come to
pub has-closed : (numbers : List ℕ) (owned : ℕ → List Entry) (o : Opening) (mark : ℕ) (o' : Opening) (mark' : ℕ) (js js' : List Entry) (ns : List ℕ) → length ns ≤ length js' → StartsWith (signed_last o' mark' js' ns) (signed o mark (length js) js [])
    → All (IsBy numbers) (signed_last o' mark' js' ns) → ((i : ℕ) → i < length numbers → made_by (get_or numbers i 0) (signed_last o' mark' js' ns) ≡ events (owned i))
    → HasClosed (length numbers) (λ i. get_or numbers i 0) owned o mark o' mark' js js' ns
has-closed numbers owned o mark o' mark' js js' ns few starts by own =
    let b = length js' - length ns in
    let same = same-began o' mark' b o mark (length js) (sign b js' ns) (sign (length js) js [] ++ starts.0) starts.1 in
    let tail : sign (length js) js' ns ≡ sign (length js) js [] ++ starts.0 = subst (λ c. sign c js' ns ≡ sign (length js) js [] ++ starts.0) same.2 same.3 in
    let t = front js js' ns starts.0 tail in
    let counted : length t.0 ≡ length ns = omega (arith, same.2, few, ap length t.1, length-append js t.0) in
    let whole : sign b js' ns ≡ sign (length js) js [] ++ sign zero t.0 ns = same.3 ∙ ap (λ xs. sign (length js) js [] ++ xs) (sym t.2) in
    let theirs : AllByRecursion (IsBy numbers) (sign zero t.0 ns) =
    all-behind (IsBy numbers) (sign (length js) js []) (sign zero t.0 ns) (subst (AllByRecursion (IsBy numbers)) whole (recursion_from_All (IsBy numbers) (signed_last o' mark' js' ns) by).1) in
    record {
      opening = same.0;
      mark_is = same.1;
      added = t.0;
      grown = t.1;
      counted = counted;
      signs = all-signs numbers t.0 ns counted theirs;
      own = λ i less.
          let k = get_or numbers i 0 in
          let made_is : made_by k (sign b js' ns) ≡ events (those k ns t.0) =
          ap (made_by k) whole ∙ made_more k (sign (length js) js []) (sign zero t.0 ns) ∙ ap (λ xs. xs ++ made_by k (sign zero t.0 ns)) (unsigned-made k js) ∙ signed-made k t.0 ns counted in
          events-same (those k ns t.0) (owned i) (sym made_is ∙ own i less);
    }
