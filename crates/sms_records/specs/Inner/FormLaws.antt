-- What forms promise: what is read is written so, and what is written is read again. Numbers, texts, values seen as
-- others,
-- and one behind the other.
use Rattle.std.proofs.Common.{◌≡◌, ℕ, suc, ◌+◌, ◌^◌, ◌<◌, ◌≤◌, Bool, true, false, cond, ltb, List, ◌∷◌, ◌++◌, length}
use Rattle.std.proofs.Common.{take, drop, Option, Some, None, Result, Ok, Err, refl, sym, ap, subst, ◌∙◌, append_assoc}
use Rattle.std.proofs.Common.{arith, inl, inr}
use Rattle.std.specs.Prelude.{nat_le, OnOk}
use Rattle.std.specs.Int.{w64, from_be_bytes, to_be_bytes}
use Rattle.std.proofs.lemmas.Bool.{cases_lt, ltb-false, le-ltb, le-leb}
use Rattle.std.proofs.lemmas.List.{take_at, drop_at, take-append-drop, length-append, length-take, get_or-drop}
use Rattle.std.proofs.lemmas.List.{get_or-take, get_or_past}
use Rattle.std.proofs.lemmas.Nat.{be_bytes_8, from_be_bytes-to_be_bytes_8}
use Rattle.desk_common.specs.Limits.{up_to}
use Rattle.sms_records.specs.Form.{◌>>=◌, Form, AreBytes, Takes, IsExact, IsReadable, number_form, number_at, text_form}
use Rattle.sms_records.specs.Form.{text_at, seen, seen_at, number_32_form, number_16_form, number_8_form, small, made}
use Rattle.sms_records.specs.Form.{◌&◌, both_at}

AreBytes-drop : (n : ℕ) (bytes : List ℕ) → AreBytes bytes → AreBytes (drop n bytes)
AreBytes-drop n bytes h i = rw get_or-drop (h (n + i))

AreBytes-take : (n : ℕ) (bytes : List ℕ) → AreBytes bytes → AreBytes (take n bytes)
AreBytes-take n bytes h i =
    elim (cases_lt i n) [
      | inl lt ↦ rw (get_or-take n bytes i 0 lt) (h i)
      | inr le ↦ rw (get_or_past (take n bytes) i 0 (omega (arith, length-take n bytes))) (omega arith)
    ]

pub AreBytes-rest : (byte : ℕ) (bytes : List ℕ) → AreBytes (byte ∷ bytes) → AreBytes bytes
AreBytes-rest byte bytes h i = h (suc i)

-- the value of a step that gave one
pub bind_some : {A B : Type 0} (r : Option A) (f : A → Option B) (y : B) → (r >>= f) ≡ Some y
    → (x : A) × (r ≡ Some x) × (f x ≡ Some y)
bind_some (Some x) f y e = (x, refl, e)
bind_some None f y e = absurd cc

guard_some : {A : Type 0} (b : Bool) (x y : A) → cond b None (Some x) ≡ Some y → (b ≡ false) × (x ≡ y)
guard_some true x y e = absurd cc
guard_some false x y e = (refl, cc)

abbrev pub some : {A : Type 0} → A → Option A
some x = Some x

pub some_is : {A : Type 0} (x y : A) → some x ≡ some y → x ≡ y
some_is x y e = cc

pub Takes-then : (a x b y c : List ℕ) → Takes a x b → Takes b y c → Takes a (x ++ y) c
Takes-then a x b y c p q = record {
  parts = p.parts ∙ ap (λ (t : List ℕ). x ++ t) q.parts
      ∙ sym (append_assoc x y c);
  rest_fits = q.rest_fits;
}

pub number_exact : IsExact number_form
number_exact bytes rest n fits e =
    let g = guard_some (ltb (length bytes) 8) (from_be_bytes w64 (take 8 bytes), drop 8 bytes) (n, rest) e in
    let long : 8 ≤ length bytes = ltb-false _ _ g.0 in
    let n-is : from_be_bytes w64 (take 8 bytes) ≡ n = ap (λ (p : ℕ × List ℕ). p.0) g.1 in
    let rest-is : drop 8 bytes ≡ rest = ap (λ (p : ℕ × List ℕ). p.1) g.1 in
    let front : to_be_bytes w64 n ≡ take 8 bytes =
    rw (← n-is) (be_bytes_8 (take 8 bytes) _ (omega (arith, length-take 8 bytes))
    (AreBytes-take 8 bytes fits) refl) in
    let parts : bytes ≡ to_be_bytes w64 n ++ rest =
    sym (ap (λ (t : List ℕ). t ++ rest) front ∙ ap (λ (t : List ℕ). take 8 bytes ++ t) (sym rest-is)
    ∙ take-append-drop 8 bytes) in
    record { parts = parts; rest_fits = rw (← rest-is) (AreBytes-drop 8 bytes fits) }

front_again : (front rest : List ℕ) (n : ℕ) → length front ≡ 8 → from_be_bytes w64 front ≡ n
    → number_at (front ++ rest) ≡ Some (n, rest)
front_again front rest n len is =
    let long : ltb (length (front ++ rest)) 8 ≡ false = le-ltb _ _ (omega (arith, length-append front rest)) in
    rw (long, take_at front rest 8 len, drop_at front rest 8 len, is) refl

pub number_again : (n : ℕ) (rest : List ℕ) → n < 2 ^ 64 → number_at (to_be_bytes w64 n ++ rest) ≡ Some (n, rest)
number_again n rest lt = front_again (to_be_bytes w64 n) rest n refl (from_be_bytes-to_be_bytes_8 n lt)

pub number_readable : (n : ℕ) → n < 2 ^ 64 → IsReadable number_form n
number_readable n lt rest = number_again n rest lt

pub text_exact : IsExact text_form
unfolding text_at
text_exact bytes rest x fits e =
    let b = bind_some (number_at bytes) (λ n. cond (ltb (length n.1) n.0) None (Some (take n.0 n.1, drop n.0 n.1)))
    (x, rest) e in
    let n = b.0 in
    let t = number_exact bytes n.1 n.0 fits b.1 in
    let g = guard_some (ltb (length n.1) n.0) (take n.0 n.1, drop n.0 n.1) (x, rest) b.2 in
    let long : n.0 ≤ length n.1 = ltb-false _ _ g.0 in
    let len : length (take n.0 n.1) ≡ n.0 = omega (arith, length-take n.0 n.1) in
    let second : Takes n.1 (take n.0 n.1) (drop n.0 n.1) = record {
      parts =
          sym (take-append-drop n.0 n.1);
      rest_fits = AreBytes-drop n.0 n.1 t.rest_fits;
    } in
    let all = Takes-then bytes (to_be_bytes w64 n.0) n.1 (take n.0 n.1) (drop n.0 n.1) t second in
    let whole : Takes bytes (text_form.write (take n.0 n.1)) (drop n.0 n.1) =
    subst (λ (k : ℕ). Takes bytes (to_be_bytes w64 k ++ take n.0 n.1) (drop n.0 n.1)) (sym len) all in
    subst (λ (p : List ℕ × List ℕ). Takes bytes (text_form.write p.0) p.1) g.1 whole

pub text_readable : (x : List ℕ) → length x < 2 ^ 64 → IsReadable text_form x
unfolding text_at
text_readable x lt rest =
    let long : ltb (length (x ++ rest)) (length x) ≡ false = le-ltb _ _ (omega (arith, length-append x rest)) in
    ap text_at (append_assoc (to_be_bytes w64 (length x)) x rest)
    ∙ rw (number_again (length x) (x ++ rest) lt, long, take_at x rest (length x) refl, drop_at x rest (length x) refl)
    refl

pub seen_exact : {A B : Type 0} (form : Form A) (test : A → Option B) (back : B → A) → IsExact form
    → ((a : A) (b : B) → test a ≡ Some b → a ≡ back b) → IsExact (seen form test back)
unfolding seen_at
seen_exact form test back exact same bytes rest x fits e =
    let a = bind_some (form.read bytes) (λ found. test found.0 >>= λ made. Some (made, found.1)) (x, rest) e in
    let b = bind_some (test a.0.0) (λ made. Some (made, a.0.1)) (x, rest) a.2 in
    let t = exact bytes a.0.1 a.0.0 fits a.1 in
    let whole : Takes bytes (form.write (back b.0)) a.0.1 =
    subst (λ (y : _). Takes bytes (form.write y) a.0.1) (same a.0.0 b.0 b.1) t in
    subst (λ (p : _ × List ℕ). Takes bytes (form.write (back p.0)) p.1) (some_is (b.0, a.0.1) (x, rest) b.2) whole

pub seen_readable : {A B : Type 0} (form : Form A) (test : A → Option B) (back : B → A) (b : B)
    → IsReadable form (back b) → test (back b) ≡ Some b → IsReadable (seen form test back) b
unfolding seen_at
seen_readable form test back b again passes rest = rw (again rest, passes) refl

pub guard_some_of : {A : Type 0} (b : Bool) (x y : A) → cond b (Some x) None ≡ Some y → (b ≡ true) × (x ≡ y)
guard_some_of true x y e = (refl, cc)
guard_some_of false x y e = absurd cc

pub small_exact : (most : ℕ) → IsExact (small most)
small_exact most = seen_exact number_form (up_to most) (λ n. n) number_exact
    (λ a b e. (guard_some_of (nat_le a most) a b e).1)

pub number_32_exact : IsExact number_32_form
number_32_exact = small_exact 4294967295

pub number_16_exact : IsExact number_16_form
number_16_exact = small_exact 65535

pub number_8_exact : IsExact number_8_form
number_8_exact = small_exact 255

pub small_readable : (most n : ℕ) → n ≤ most → n < 2 ^ 64 → IsReadable (small most) n
small_readable most n le lt = seen_readable number_form (up_to most) (λ n. n) n (number_readable n lt)
    (rw (le-leb n most le) refl)

pub made_exact : {A B : Type 0} (form : Form A) (make : A → B) (back : B → A) → IsExact form
    → ((a : A) → a ≡ back (make a)) → IsExact (made form make back)
made_exact form make back exact same = seen_exact form (λ a. Some (make a)) back exact (λ a b e. same a
    ∙ ap back (some_is (make a) b e))

pub made_readable : {A B : Type 0} (form : Form A) (make : A → B) (back : B → A) (b : B) → IsReadable form (back b)
    → make (back b) ≡ b → IsReadable (made form make back) b
made_readable form make back b again same = seen_readable form (λ a. Some (make a)) back b again (ap some same)

pub made_again : {A B : Type 0} (form : Form A) (make : A → B) (back : B → A) → ((b : B) → make (back b) ≡ b)
    → (x : B) → IsReadable form (back x) → IsReadable (made form make back) x
made_again form make back same x again = made_readable form make back x again (same x)

pub both_exact : {A B : Type 0} (first : Form A) (second : Form B) → IsExact first → IsExact second
    → IsExact (first & second)
unfolding both_at
both_exact first second exact-1 exact-2 bytes rest x fits e =
    let a = bind_some (first.read bytes) (λ a. second.read a.1 >>= λ b. Some ((a.0, b.0), b.1)) (x, rest) e in
    let b = bind_some (second.read a.0.1) (λ b. Some ((a.0.0, b.0), b.1)) (x, rest) a.2 in
    let t1 = exact-1 bytes a.0.1 a.0.0 fits a.1 in
    let t2 = exact-2 a.0.1 b.0.1 b.0.0 t1.rest_fits b.1 in
    let whole = Takes-then bytes (first.write a.0.0) a.0.1 (second.write b.0.0) b.0.1 t1 t2 in
    subst (λ (p : (_ × _) × List ℕ). Takes bytes (first.write p.0.0 ++ second.write p.0.1) p.1)
    (some_is ((a.0.0, b.0.0), b.0.1) (x, rest) b.2) whole

infixr 60 ◌&-exact◌
pub ◌&-exact◌ : {A B : Type 0} {first : Form A} {second : Form B} → IsExact first → IsExact second
    → IsExact (first & second)
p &-exact q = both_exact _ _ p q

pub both_readable : {A B : Type 0} (first : Form A) (second : Form B) (a : A) (b : B) → IsReadable first a
    → IsReadable second b → IsReadable (first & second) (a, b)
unfolding both_at
both_readable first second a b again-1 again-2 rest =
    rw (append_assoc (first.write a) (second.write b) rest, again-1 (second.write b ++ rest), again-2 rest) refl

pub both_written : {A B : Type 0} (first : Form A) (second : Form B) (a : A) (b : B) (old mid new : List ℕ)
    → mid ≡ old ++ first.write a → new ≡ mid ++ second.write b → new ≡ old ++ (first & second).write (a, b)
both_written first second a b old mid new front back = back ∙ ap (λ (bytes : List ℕ). bytes ++ second.write b) front
    ∙ append_assoc old (first.write a) (second.write b)

pub on_ok : {T E P Q : Type 0} (r : Result T E) → (P → Q) → OnOk r P → OnOk r Q
on_ok (Ok x) f h = f h
on_ok (Err e) f h = tt

pub seen_as : {T : Type 0} (form : Form T) (x y : T) → x ≡ y → IsReadable form y → IsReadable form x
seen_as form x y same again = subst (IsReadable form) (sym same) again
