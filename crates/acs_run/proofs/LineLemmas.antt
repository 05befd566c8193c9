-- What is written in a line.
use Rattle.std.proofs.Common.{◌≡◌, ◌<◌, ◌≤◌, ◌+◌, ℕ, suc, true, List, [], ◌∷◌, ◌++◌, length, take, drop, get_or, sym}
use Rattle.std.proofs.Common.{ap, ◌∙◌, append_assoc, arith}
use Rattle.std.specs.Prelude.{◌^◌, ◌%◌, decimal, slice_index_or}
use Rattle.std.specs.List.{AllPass}
use Rattle.std.proofs.lemmas.Bool.Decides.{nat_tests}
use Rattle.std.proofs.lemmas.Fmt.{decimal_by_steps}
use Rattle.std.proofs.lemmas.List.{append-nil, length-take, take_all}
use Rattle.std.proofs.lemmas.List.Elements.{All-push}
use Rattle.std.proofs.Math.ListN.{drop_of_length-le}
use Rattle.std.proofs.Math.Seq.{drop-cons}
use Rattle.dsn_mask.specs.Name.{IsName, IsShort, IsVolser, is_literal_byte, is_name_byte, is_short_byte}
use Rattle.acs_tree.specs.Writing.{listed}
use Rattle.acs_tree.specs.declared.input.Input.{Input}
use Rattle.acs_tree.specs.declared.values.Values.{Values}
use Rattle.acs_code.specs.declared.part.Part.{Part}
use Rattle.acs_code.specs.Machine.{part_text, parts_text}
use Rattle.acs_run.specs.Inner.Lines.{after_commas}
use Rattle.acs_run.proofs.CutLemmas.{cut_end, cut_more, cut_twice}

short_byte : (b : ℕ) → is_short_byte b ≡ true → is_literal_byte b ≡ true
short_byte b e = grind (arith, nat_tests)

name_byte : (b : ℕ) → is_name_byte b ≡ true → is_literal_byte b ≡ true
name_byte b e = grind (arith, nat_tests)

pub short_is_literal : (text : List ℕ) → IsShort text → AllPass is_literal_byte text
short_is_literal text is = λ k d h. short_byte (slice_index_or text k d) (is.1 k d h)

pub volser_is_literal : (text : List ℕ) → IsVolser text → AllPass is_literal_byte text
volser_is_literal text is = λ k d h. name_byte (slice_index_or text k d) (is.2 k d h)

pub name_is_literal : (text : List ℕ) → IsName text → AllPass is_literal_byte text
name_is_literal text is = λ k d h. name_byte (slice_index_or text k d) (is.3 k d h)

-- names behind the first
pub listed_rest : (name : List ℕ) (names : List (List ℕ)) → listed (name ∷ names) ≡ name ++ after_commas names
listed_rest name [] = sym (append-nil name)
listed_rest name (next ∷ names) = ap (λ l. name ++ (44 ∷ l)) (listed_rest next names)

-- digits
digit_byte : (n : ℕ) → n < 10 → is_literal_byte (48 + n) ≡ true
digit_byte n h = grind (arith, nat_tests)

no_bytes : AllPass is_literal_byte []
no_bytes k d h = absurd (omega (arith, h))

pub decimal_is_literal : (n : ℕ) → n < 2 ^ 64 → AllPass is_literal_byte (decimal n)
decimal_is_literal = decimal_by_steps (λ n ds. AllPass is_literal_byte ds)
    (λ n h. All-push (λ b. is_literal_byte b ≡ true) [] (48 + n) no_bytes (digit_byte n h))
    (λ n ds h all. All-push (λ b. is_literal_byte b ≡ true) ds (48 + n % 10) all (digit_byte (n % 10) (omega arith)))

pub cut_two : (line one two mid new : List ℕ) → mid ≡ take 110 (line ++ one) → new ≡ take 110 (mid ++ two) → new ≡ take 110 (line ++ (one ++ two))
cut_two line one two mid new em en = en ∙ ap (λ l. take 110 (l ++ two)) em ∙ cut_twice (line ++ one) two ∙ ap (take 110) (append_assoc line one two)

pub cut_short : (new xs : List ℕ) → new ≡ take 110 xs → length new ≤ 110
cut_short new xs e = omega (arith, ap length e, length-take 110 xs)

-- one name more
pub names_turn : (names : List (List ℕ)) (k : ℕ) (name line mid new whole : List ℕ) → k < length names → name ≡ get_or names k name → mid ≡ take 110 (line ++ 44 ∷ []) → new ≡ take 110 (mid ++ name)
    → take 110 (line ++ after_commas (drop k names)) ≡ whole → (length new ≤ 110) × (take 110 (new ++ after_commas (drop (k + 1) names)) ≡ whole)
names_turn names k name line mid new whole h is em en e =
    let one : k + 1 ≡ suc k = omega arith in
    let rest = after_commas (drop (suc k) names) in
    let split : after_commas (drop k names) ≡ (44 ∷ name) ++ rest = ap after_commas (drop-cons names k name h) ∙ ap (λ n. (44 ∷ n) ++ rest) (sym is) in (
      cut_short new (mid ++ name) en,
      ap (λ n. take 110 (new ++ after_commas (drop n names))) one
          ∙ cut_more line (44 ∷ name) rest new whole (cut_two line (44 ∷ []) name mid new em en) (ap (λ l. take 110 (line ++ l)) (sym split) ∙ e),
    )

pub names_end : (names : List (List ℕ)) (k : ℕ) (line whole : List ℕ) → length names ≤ k → length line ≤ 110 → take 110 (line ++ after_commas (drop k names)) ≡ whole → line ≡ whole
names_end names k line whole h short e = cut_end line (after_commas (drop k names)) whole short (ap after_commas (drop_of_length-le names h)) e

pub names_all : (names rest : List (List ℕ)) (name line mid new : List ℕ) → names ≡ name ∷ rest → mid ≡ take 110 (line ++ name) → new ≡ take 110 (mid ++ after_commas rest) → new ≡ take 110 (line ++ listed names)
names_all names rest name line mid new e em en = cut_two line name (after_commas rest) mid new em en ∙ ap (λ l. take 110 (line ++ l)) (sym (ap listed e ∙ listed_rest name rest))

pub names_none : (names : List (List ℕ)) (line : List ℕ) → names ≡ [] → length line ≤ 110 → line ≡ take 110 (line ++ listed names)
names_none names line e short = sym (take_all 110 line short) ∙ ap (take 110) (sym (append-nil line) ∙ ap (λ ns. line ++ listed ns) (sym e))

-- one part more
pub parts_turn : (parts : List Part) (k : ℕ) (part : Part) (input : Input) (values : Values) (line new whole : List ℕ) → k < length parts → part ≡ get_or parts k part → new ≡ take 110 (line ++ part_text part input values)
    → take 110 (line ++ parts_text (drop k parts) input values) ≡ whole → (length new ≤ 110) × (take 110 (new ++ parts_text (drop (k + 1) parts) input values) ≡ whole)
parts_turn parts k part input values line new whole h is en e =
    let one : k + 1 ≡ suc k = omega arith in
    let rest = parts_text (drop (suc k) parts) input values in
    let split : parts_text (drop k parts) input values ≡ part_text part input values ++ rest = ap (λ ps. parts_text ps input values) (drop-cons parts k part h) ∙ ap (λ p. part_text p input values ++ rest) (sym is) in (
      cut_short new (line ++ part_text part input values) en,
      ap (λ n. take 110 (new ++ parts_text (drop n parts) input values)) one
          ∙ cut_more line (part_text part input values) rest new whole en (ap (λ l. take 110 (line ++ l)) (sym split) ∙ e),
    )

pub parts_end : (parts : List Part) (k : ℕ) (input : Input) (values : Values) (line whole : List ℕ) → length parts ≤ k → length line ≤ 110 → take 110 (line ++ parts_text (drop k parts) input values) ≡ whole → line ≡ whole
parts_end parts k input values line whole h short e = cut_end line (parts_text (drop k parts) input values) whole short (ap (λ ps. parts_text ps input values) (drop_of_length-le parts h)) e
