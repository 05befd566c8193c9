-- What reading all of the bytes answers, and that no record is the front of another.
use Rattle.std.proofs.Common.{◌≡◌, ℕ, Bool, true, false, cond, eqb, List, [], ◌++◌, length, Some, None, Result, Ok, Err}
use Rattle.std.proofs.Common.{refl, sym, ap, ◌∙◌}
use Rattle.std.specs.Prelude.{IfOk, IsErrOf}
use Rattle.std.proofs.lemmas.Bool.{eqb-true}
use Rattle.std.proofs.lemmas.List.{append-nil, nil_from_length}
use Rattle.sms_records.specs.Form.{Form, AreBytes, IsExact, IsReadable, whole}
use Rattle.sms_records.specs.declared.record_err.RecordErr.{RecordErr}
use Rattle.sms_records.specs.declared.record_err.RecordErr.TheVariants as errors
use Rattle.sms_records.specs.Reading.{Gives}
use Rattle.sms_records.specs.Inner.FormLaws.{bind_some, some_is}

guard_whole : {A : Type 0} (b : Bool) (x y : A) → cond b (Some x) None ≡ Some y → (b ≡ true) × (x ≡ y)
guard_whole true x y e = (refl, cc)
guard_whole false x y e = absurd cc

pub whole-found : {T : Type 0} (form : Form T) (bytes : List ℕ) (x : T) → IsExact form → AreBytes bytes
    → whole form bytes ≡ Some x → bytes ≡ form.write x
unfolding whole
whole-found form bytes x exact fits e =
    let a = bind_some (form.read bytes) (λ found. cond (eqb (length found.1) 0) (Some found.0) None) x e in
    let g = guard_whole (eqb (length a.0.1) 0) a.0.0 x a.2 in
    let none : a.0.1 ≡ [] = nil_from_length a.0.1 (eqb-true _ _ g.0) in
    let t = exact bytes a.0.1 a.0.0 fits a.1 in
    t.parts ∙ ap (λ (rest : List ℕ). form.write a.0.0 ++ rest) none ∙ append-nil (form.write a.0.0)
    ∙ ap form.write g.1

pub whole-again : {T : Type 0} (form : Form T) (bytes : List ℕ) (x : T) → IsReadable form x → bytes ≡ form.write x
    → whole form bytes ≡ Some x
unfolding whole
whole-again form bytes x again is =
    let read : form.read bytes ≡ Some (x, []) = ap form.read (is ∙ sym (append-nil (form.write x))) ∙ again [] in
    rw read refl

pub is_found : {T : Type 0} (form : Form T) (bytes : List ℕ) (r : Result T RecordErr) → IsExact form → AreBytes bytes
    → Gives (λ x. x) r (whole form bytes) → IfOk r (λ x. bytes ≡ form.write x)
is_found form bytes (Ok x) exact fits given = whole-found form bytes x exact fits given
is_found form bytes (Err e) exact fits given = tt

pub is_bad : {T : Type 0} (form : Form T) (bytes : List ℕ) (r : Result T RecordErr)
    → Gives (λ x. x) r (whole form bytes) → IsErrOf r errors.Bad → (x : T) → IsReadable form x → bytes ≡ form.write x
    → ⊥
is_bad form bytes (Ok y) given bad x again is = absurd cc
is_bad form bytes (Err errors.NoMemory) given bad x again is = absurd cc
is_bad form bytes (Err errors.Bad) given bad x again is = let e = whole-again form bytes x again is in absurd cc

pub no-front : {T : Type 0} (form : Form T) (x y : T) (more : List ℕ) → IsReadable form x → IsReadable form y
    → form.write y ≡ form.write x ++ more → (y ≡ x) × (more ≡ [])
no-front form x y more again-x again-y e =
    let first : form.read (form.write x ++ more) ≡ Some (x, more) = again-x more in
    let second : form.read (form.write x ++ more) ≡ Some (y, []) =
    ap form.read (sym e ∙ sym (append-nil (form.write y))) ∙ again-y [] in
    let same : (x, more) ≡ (y, []) = some_is (x, more) (y, []) (sym first ∙ second) in
    (ap (λ (p : _ × List ℕ). p.0) (sym same), ap (λ (p : _ × List ℕ). p.1) same)
