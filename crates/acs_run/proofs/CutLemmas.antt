-- A line that is cut.
use Rattle.std.proofs.Common.{◌≡◌, ◌<◌, ◌≤◌, ◌+◌, ℕ, Bool, true, List, [], ◌++◌, length, take, sym, ap, ◌∙◌, ⊎_elim}
use Rattle.std.proofs.Common.{subst, append_assoc, arith}
use Rattle.std.specs.Prelude.{min, slice_set}
use Rattle.std.specs.List.{AllPass}
use Rattle.std.proofs.lemmas.List.Elements.{All-push}
use Rattle.std.proofs.Math.Seq.{take-append-add}
use Rattle.std.proofs.lemmas.Bool.{cases_lt}
use Rattle.std.proofs.lemmas.List.{length-take, take_all, take-append-le, append-nil, take_more_set}

short_cut : (xs : List ℕ) → length (take 110 xs) ≤ 110
short_cut xs = omega (arith, length-take 110 xs)

pub cut_twice : (xs ys : List ℕ) → take 110 (take 110 xs ++ ys) ≡ take 110 (xs ++ ys)
cut_twice xs ys = ⊎_elim
    (λ less. ap (λ l. take 110 (l ++ ys)) (take_all 110 xs (omega (arith, less))))
    (λ more. take-append-le 110 (take 110 xs) ys (omega (arith, more, length-take 110 xs)) ∙ take_all 110 (take 110 xs) (short_cut xs) ∙ sym (take-append-le 110 xs ys more))
    (cases_lt (length xs) 110)

-- what there is room for
pub cut_room : (line bytes : List ℕ) (room : ℕ) → room + length line ≡ 110 → line ++ take (min (length bytes) room) bytes ≡ take 110 (line ++ bytes)
cut_room line bytes room e =
    let whole : 110 ≡ length line + room = omega (arith, e) in
    let kept : take (min (length bytes) room) bytes ≡ take room bytes = ⊎_elim
    (λ less. let all : min (length bytes) room ≡ length bytes = omega (arith, less) in ap (λ n. take n bytes) all ∙ take_all (length bytes) bytes (omega arith) ∙ sym (take_all room bytes (omega (arith, less))))
    (λ more. let all : min (length bytes) room ≡ room = omega (arith, more) in ap (λ n. take n bytes) all)
    (cases_lt (length bytes) room) in
    ap (λ l. line ++ l) kept ∙ sym (ap (λ n. take n (line ++ bytes)) whole ∙ take-append-add line bytes room)

-- a piece more of what is written piece by piece
pub cut_more : (line piece rest new whole : List ℕ) → new ≡ take 110 (line ++ piece) → take 110 (line ++ (piece ++ rest)) ≡ whole → take 110 (new ++ rest) ≡ whole
cut_more line piece rest new whole e h = ap (λ l. take 110 (l ++ rest)) e ∙ cut_twice (line ++ piece) rest ∙ ap (take 110) (append_assoc line piece rest) ∙ h

pub cut_end : (line rest whole : List ℕ) → length line ≤ 110 → rest ≡ [] → take 110 (line ++ rest) ≡ whole → line ≡ whole
cut_end line rest whole short e h = sym (take_all 110 line short) ∙ ap (take 110) (sym (append-nil line) ∙ ap (λ l. line ++ l) (sym e)) ∙ h

pub put_end : (new line bytes : List ℕ) (room least k : ℕ) → new ≡ line ++ take k (take least bytes) → length (take least bytes) ≤ k → least ≡ min (length bytes) room → room + length line ≡ 110 → new ≡ take 110 (line ++ bytes)
put_end new line bytes room least k e all el er =
    e ∙ ap (λ l. line ++ l) (take_all k (take least bytes) all ∙ ap (λ n. take n bytes) el) ∙ cut_room line bytes room er

-- a byte more in the buffer
pub byte_pushed : (p : ℕ → Bool) (buffer : List ℕ) (count byte : ℕ) → count < length buffer → AllPass p (take count buffer) → p byte ≡ true → AllPass p (take (count + 1) (slice_set buffer count byte))
byte_pushed p buffer count byte within all here = subst (AllPass p) (sym (take_more_set buffer count byte within)) (All-push (λ b. p b ≡ true) (take count buffer) byte all here)
