-- What the forms of lists and options promise, and reading items one after the other, as a loop does.
use Rattle.std.proofs.Common.{◌≡◌, ℕ, zero, suc, ◌+◌, ◌^◌, ◌<◌, ◌≤◌, List, [], ◌∷◌, ◌++◌, length, Option, Some, None}
use Rattle.std.proofs.Common.{refl, sym, ap, subst, ◌∙◌, append_assoc, arith, ◌-◌}
use Rattle.std.specs.List.{flat_map, AllByRecursion}
use Rattle.std.specs.Int.{w64, to_be_bytes}
use Rattle.std.proofs.lemmas.List.{append-nil}
use Rattle.std.proofs.lemmas.List.Concat.{flat_map-cons}
use Rattle.sms_records.specs.Form.{◌>>=◌, Form, AreBytes, Takes, IsExact, IsReadable, number_at, list, list_at, many_at}
use Rattle.sms_records.specs.Form.{option, option_at}
use Rattle.sms_records.specs.declared.record_err.RecordErr.{RecordErr}
use Rattle.sms_records.specs.declared.record_err.RecordErr.TheVariants as errors
use Rattle.sms_records.specs.Reading.{Fails}
use Rattle.sms_records.specs.Inner.FormLaws.{AreBytes-rest, bind_some, some_is, Takes-then, number_exact, number_again}

many_exact : {T : Type 0} (form : Form T) → IsExact form → (n : ℕ) (bytes : List ℕ) (x : List T × List ℕ)
    → AreBytes bytes → many_at form n bytes ≡ Some x → Takes bytes (flat_map form.write x.0) x.1 × (length x.0 ≡ n)
unfolding many_at
many_exact form exact zero bytes x fits e =
    subst (λ (y : List _ × List ℕ). Takes bytes (flat_map form.write y.0) y.1 × (length y.0 ≡ 0))
    (some_is ([], bytes) x e) (record { parts = refl; rest_fits = fits }, refl)
many_exact form exact (suc n) bytes x fits e =
    let a = bind_some (form.read bytes)
    (λ first. many_at form n first.1 >>= λ others. Some (first.0 ∷ others.0, others.1)) x e in
    let b = bind_some (many_at form n a.0.1) (λ others. Some (a.0.0 ∷ others.0, others.1)) x a.2 in
    let first = exact bytes a.0.1 a.0.0 fits a.1 in
    let second = many_exact form exact n a.0.1 b.0 first.rest_fits b.1 in
    let whole = Takes-then bytes (form.write a.0.0) a.0.1 (flat_map form.write b.0.0) b.0.1 first second.0 in
    subst (λ (y : List _ × List ℕ). Takes bytes (flat_map form.write y.0) y.1 × (length y.0 ≡ suc n))
    (some_is (a.0.0 ∷ b.0.0, b.0.1) x b.2) (rw flat_map-cons whole, ap suc second.1)

many_readable : {T : Type 0} (form : Form T) (xs : List T) (rest : List ℕ) → AllByRecursion (IsReadable form) xs
    → many_at form (length xs) (flat_map form.write xs ++ rest) ≡ Some (xs, rest)
unfolding many_at
many_readable form [] rest again = refl
many_readable form (x ∷ xs) rest again =
    let regrouped : flat_map form.write (x ∷ xs) ++ rest ≡ form.write x ++ (flat_map form.write xs ++ rest) =
    ap (λ (t : List ℕ). t ++ rest) (flat_map-cons form.write x xs)
    ∙ append_assoc (form.write x) (flat_map form.write xs) rest in
    ap (many_at form (suc (length xs))) regrouped
    ∙ rw (again.0 (flat_map form.write xs ++ rest), many_readable form xs rest again.1) refl

pub list_exact : {T : Type 0} (form : Form T) → IsExact form → IsExact (list form)
unfolding list_at
list_exact form exact bytes rest xs fits e =
    let a = bind_some (number_at bytes) (λ n. many_at form n.0 n.1) (xs, rest) e in
    let first = number_exact bytes a.0.1 a.0.0 fits a.1 in
    let second = many_exact form exact a.0.0 a.0.1 (xs, rest) first.rest_fits a.2 in
    let whole = Takes-then bytes (to_be_bytes w64 a.0.0) a.0.1 (flat_map form.write xs) rest first second.0 in
    subst (λ (k : ℕ). Takes bytes (to_be_bytes w64 k ++ flat_map form.write xs) rest) (sym second.1) whole

pub list_readable : {T : Type 0} (form : Form T) (xs : List T) → length xs < 2 ^ 64
    → AllByRecursion (IsReadable form) xs → IsReadable (list form) xs
unfolding list_at
list_readable form xs lt again rest =
    ap (list_at form) (append_assoc (to_be_bytes w64 (length xs)) (flat_map form.write xs) rest)
    ∙ rw (number_again (length xs) (flat_map form.write xs ++ rest) lt, many_readable form xs rest again) refl

pub option_exact : {T : Type 0} (form : Form T) → IsExact form → IsExact (option form)
unfolding option_at
option_exact form exact [] rest o fits e = absurd cc
option_exact form exact (zero ∷ bytes) rest o fits e =
    subst (λ (x : Option _ × List ℕ). Takes (0 ∷ bytes) ((option form).write x.0) x.1)
    (some_is (None, bytes) (o, rest) e) (record { parts = refl; rest_fits = AreBytes-rest 0 bytes fits })
option_exact form exact (suc zero ∷ bytes) rest o fits e =
    let b = bind_some (form.read bytes) (λ x. Some (Some x.0, x.1)) (o, rest) e in
    let t = exact bytes b.0.1 b.0.0 (AreBytes-rest 1 bytes fits) b.1 in
    subst (λ (x : Option _ × List ℕ). Takes (1 ∷ bytes) ((option form).write x.0) x.1)
    (some_is (Some b.0.0, b.0.1) (o, rest) b.2)
    (record { parts = ap (λ (w : List ℕ). 1 ∷ w) t.parts; rest_fits = t.rest_fits })
option_exact form exact (suc (suc byte) ∷ bytes) rest o fits e = absurd cc

pub none_readable : {T : Type 0} (form : Form T) → IsReadable (option form) None
unfolding option_at
none_readable form rest = refl

pub some_readable : {T : Type 0} (form : Form T) (x : T) → IsReadable form x → IsReadable (option form) (Some x)
unfolding option_at
some_readable form x again rest = rw (again rest) refl

-- what was read before, and what is still read
abbrev pub with_front : {T : Type 0} → List T → Option (List T × List ℕ) → Option (List T × List ℕ)
with_front front read = read >>= λ x. Some (front ++ x.0, x.1)

regroup : {T : Type 0} (front : List T) (x : T) (read : Option (List T × List ℕ))
    → with_front front (read >>= λ xs. Some (x ∷ xs.0, xs.1)) ≡ with_front (front ++ x ∷ []) read
regroup front x (Some xs) = ap (λ (items : List _). Some (items, xs.1)) (simp append_assoc)
regroup front x None = refl

pub goes_on : {T : Type 0} (form : Form T) (front : List T) (count i : ℕ) (bytes : List ℕ) (x : T) (after : List ℕ)
    (total : Option (List T × List ℕ)) → i < count → form.read bytes ≡ Some (x, after)
    → with_front front (many_at form (count - i) bytes) ≡ total
    → with_front (front ++ x ∷ []) (many_at form (count - (i + 1)) after) ≡ total
unfolding many_at
goes_on form front count i bytes x after total lt h so_far =
    let k : count - i ≡ suc (count - (i + 1)) = omega arith in
    let one : with_front front (many_at form (count - i) bytes) ≡ with_front (front ++ x ∷ [])
    (many_at form (count - (i + 1)) after) = rw (k, h) (regroup front x (many_at form (count - (i + 1)) after)) in
    sym one ∙ so_far

pub ends : {T : Type 0} (form : Form T) (e : RecordErr) (front : List T) (count i : ℕ) (bytes : List ℕ)
    (total : Option (List T × List ℕ)) → i < count → Fails e (form.read bytes)
    → with_front front (many_at form (count - i) bytes) ≡ total → Fails e total
unfolding many_at
ends form errors.NoMemory front count i bytes total lt h so_far = tt
ends form errors.Bad front count i bytes total lt h so_far =
    let k : count - i ≡ suc (count - (i + 1)) = omega arith in
    let one : with_front front (many_at form (count - i) bytes) ≡ None = rw (k, h) refl in
    sym so_far ∙ one

pub is_done : {T : Type 0} (form : Form T) (front : List T) (count i : ℕ) (bytes : List ℕ)
    (total : Option (List T × List ℕ)) → count ≤ i → with_front front (many_at form (count - i) bytes) ≡ total
    → total ≡ Some (front, bytes)
unfolding many_at
is_done form front count i bytes total le so_far =
    let k : count - i ≡ 0 = omega arith in
    let one : with_front front (many_at form (count - i) bytes) ≡ Some (front, bytes) =
    rw k (ap (λ (items : List _). Some (items, bytes)) (append-nil front)) in
    sym so_far ∙ one
