-- The step's value stands at the front of the text.
use Rattle.std.proofs.Common.{◌≡◌, ◌≤◌, ◌<◌, ◌-◌, ℕ, Bool, true, false, List, [], ◌∷◌, length, refl, sym, ◌∙◌, subst}
use Rattle.std.proofs.Common.{arith}
use Rattle.std.specs.Prelude.{if◌then◌else◌, nat_le, ◌==◌, Option, Some, None, codes}
use Rattle.std.proofs.lemmas.Bool.Decides.{nat_tests}
use Rattle.acs_lex.specs.declared.token.TokenForm.{TokenForm}
use Rattle.acs_lex.specs.declared.token.TokenForm.TheVariants.{Word, Variable, Literal, Sign}
use Rattle.acs_lex.specs.declared.fault.LexErr.TheVariants.{OpenLiteral, LongWord}
use Rattle.acs_lex.specs.Lexical.{Runs, is_blank, is_line_end, is_name_byte, is_word_byte, is_ampersand, is_quote}
use Rattle.acs_lex.specs.Lexical.{is_quotable, is_single_sign, is_double_sign, begins, counted_bytes, most_bytes}
use Rattle.acs_lex.specs.Lexical.{IsCommentTail, over, inside, IsGap, blank, comment}
use Rattle.acs_lex.specs.Tokens.{IsLongest, size_of, token_at, IsToken, token}
use Rattle.acs_lex.specs.LexFault.{StopsBy, open_comment, open_literal, bad_inside, bad_byte, too_long}
use Rattle.acs_lex.specs.Inner.Scanning.{Front, Ends, Skips, Takes, Fails, after, after_comment, token_front, bad_front}
use Rattle.acs_lex.specs.Inner.Scanning.{comment_front, slash_front, literal_front, single_front, sign_front}
use Rattle.acs_lex.specs.Inner.Scanning.{ampersand_front, front}
use Rattle.acs_lex.proofs.ByteLemmas.{same_of, clash, not_slash, only_among, ampersand_no_single, not_printable}
use Rattle.acs_lex.proofs.RunLemmas.{starts, runs_after, after_stops}
use Rattle.acs_lex.proofs.FormLemmas.{word_longest, variable_longest, literal_longest, double_longest, single_longest}
use Rattle.acs_lex.proofs.FormLemmas.{double_here, no_form}

-- what the value of a step says of the text
abbrev pub Stands : ℕ → List ℕ → Front → Type 0
Stands total text Ends = text ≡ []
Stands total text (Skips rest) = IsGap text rest
Stands total text (Takes one rest) = IsToken total text one rest
Stands total text (Fails err) = StopsBy total text err

le_of : (m n : ℕ) → nat_le m n ≡ true → m ≤ n
le_of m n e = grind (arith, nat_tests)

lt_of : (m n : ℕ) → nat_le m n ≡ false → n < m
lt_of m n e = grind (arith, nat_tests)

token_by : (total : ℕ) (form : TokenForm) (text rest : List ℕ) (v : Bool) → nat_le (counted_bytes form (size_of text rest)) (most_bytes form) ≡ v → IsLongest form text rest → Stands total text (if v then Takes (token_at total form text rest) rest else Fails (LongWord (total - length text)))
token_by total form text rest true e d = token d (le_of _ _ e)
token_by total form text rest false e d = too_long d (lt_of _ _ e)

token_stands : (total : ℕ) (form : TokenForm) (text rest : List ℕ) → IsLongest form text rest → Stands total text (token_front total form text rest)
token_stands total form text rest d = token_by total form text rest (nat_le (counted_bytes form (size_of text rest)) (most_bytes form)) refl d

bad_stands : (total a : ℕ) (bytes : List ℕ) → is_blank a ≡ false → is_word_byte a ≡ false → is_quote a ≡ false → begins (codes "/*") (a ∷ bytes) ≡ false → (is_ampersand a ≡ true → starts is_name_byte bytes ≡ false) → double_here a bytes ≡ false → is_single_sign a ≡ false → Stands total (a ∷ bytes) (bad_front total (a ∷ bytes))
bad_stands total a bytes g w q o n t s = bad_byte g o q (λ form rest d. no_form a bytes w s q n t form rest d)

single_by : (total a : ℕ) (bytes : List ℕ) → is_blank a ≡ false → is_word_byte a ≡ false → is_quote a ≡ false → begins (codes "/*") (a ∷ bytes) ≡ false → (is_ampersand a ≡ true → starts is_name_byte bytes ≡ false) → double_here a bytes ≡ false → (v : Bool) → is_single_sign a ≡ v → Stands total (a ∷ bytes) (if v then token_front total Sign (a ∷ bytes) bytes else bad_front total (a ∷ bytes))
single_by total a bytes g w q o n t true e = token_stands total Sign (a ∷ bytes) bytes (single_longest a bytes e t)
single_by total a bytes g w q o n t false e = bad_stands total a bytes g w q o n t e

double_by : (total a b : ℕ) (rest : List ℕ) → is_blank a ≡ false → is_word_byte a ≡ false → is_quote a ≡ false → begins (codes "/*") (a ∷ b ∷ rest) ≡ false → (is_ampersand a ≡ true → is_name_byte b ≡ false) → (v : Bool) → is_double_sign a b ≡ v → Stands total (a ∷ b ∷ rest) (if v then token_front total Sign (a ∷ b ∷ rest) rest else single_front total (a ∷ b ∷ rest) a (b ∷ rest))
double_by total a b rest g w q o n true e = token_stands total Sign (a ∷ b ∷ rest) rest (double_longest a b rest e)
double_by total a b rest g w q o n false e = single_by total a (b ∷ rest) g w q o n e (is_single_sign a) refl

sign_stands : (total a : ℕ) (bytes : List ℕ) → is_blank a ≡ false → is_word_byte a ≡ false → is_quote a ≡ false → begins (codes "/*") (a ∷ bytes) ≡ false → (is_ampersand a ≡ true → starts is_name_byte bytes ≡ false) → Stands total (a ∷ bytes) (sign_front total (a ∷ bytes) a bytes)
sign_stands total a [] g w q o n = single_by total a [] g w q o n refl (is_single_sign a) refl
sign_stands total a (b ∷ rest) g w q o n = double_by total a b rest g w q o n (is_double_sign a b) refl

-- the end of a comment

tail_by : (a b : ℕ) (bytes : List ℕ) (v : Bool) → begins (codes "*/") (a ∷ b ∷ bytes) ≡ v → ((rest : List ℕ) → after_comment (b ∷ bytes) ≡ Some rest → IsCommentTail (b ∷ bytes) rest) → (rest : List ℕ) → (if v then Some bytes else after_comment (b ∷ bytes)) ≡ Some rest → IsCommentTail (a ∷ b ∷ bytes) rest
tail_by a b bytes true e h rest k =
    let same : bytes ≡ rest = cc in
    subst (λ z. IsCommentTail (a ∷ b ∷ bytes) z) same (over e)
tail_by a b bytes false e h rest k = inside e (h rest k)

pub tail_of : (bytes rest : List ℕ) → after_comment bytes ≡ Some rest → IsCommentTail bytes rest
tail_of [] rest e = absurd (cc)
tail_of (a ∷ []) rest e = absurd (cc)
tail_of (a ∷ b ∷ bytes) rest e = tail_by a b bytes (begins (codes "*/") (a ∷ b ∷ bytes)) refl (λ r k. tail_of (b ∷ bytes) r k) rest e

no_tail : {rest : List ℕ} → IsCommentTail [] rest → ⊥
no_tail d = elim d [ ]

pub of_tail : {bytes rest : List ℕ} → IsCommentTail bytes rest → after_comment bytes ≡ Some rest
of_tail (over e) = rw e refl
of_tail (inside {bytes = []} e d) = absurd (no_tail d)
of_tail (inside {bytes = b ∷ bytes} e d) = rw e (of_tail d)

none_some : {rest : List ℕ} → None ≡ Some rest → ⊥
none_some e = cc

comment_by : (total a b : ℕ) (bytes : List ℕ) (found : Option (List ℕ)) → begins (codes "/*") (a ∷ b ∷ bytes) ≡ true → after_comment bytes ≡ found → Stands total (a ∷ b ∷ bytes) (comment_front total (a ∷ b ∷ bytes) found)
comment_by total a b bytes None o e = open_comment o (λ rest d. none_some (sym e ∙ of_tail d))
comment_by total a b bytes (Some rest) o e = comment o (tail_of bytes rest e)

slash_by : (total b : ℕ) (rest : List ℕ) (v : Bool) → (42 == b) ≡ v → Stands total (47 ∷ b ∷ rest) (if v then comment_front total (47 ∷ b ∷ rest) (after_comment rest) else bad_front total (47 ∷ b ∷ rest))
slash_by total b rest true e = comment_by total 47 b rest (after_comment rest) (rw e refl) refl
slash_by total b rest false e = bad_stands total 47 (b ∷ rest) refl refl refl (rw e refl) (λ h. absurd (clash (sym h))) refl refl

slash_stands : (total : ℕ) (bytes : List ℕ) → Stands total (47 ∷ bytes) (slash_front total (47 ∷ bytes) bytes)
slash_stands total [] = bad_stands total 47 [] refl refl refl refl (λ h. refl) refl refl
slash_stands total (b ∷ rest) = slash_by total b rest (42 == b) refl

-- a literal

run_to : (bytes at : List ℕ) → after is_quotable bytes ≡ at → Runs is_quotable bytes at
run_to bytes at n = subst (λ z. Runs is_quotable bytes z) n (runs_after is_quotable bytes)

line_by : (total a b : ℕ) (bytes rest : List ℕ) → is_quote a ≡ true → after is_quotable bytes ≡ b ∷ rest → is_quotable b ≡ false → is_quote b ≡ false → (v : Bool) → is_line_end b ≡ v → Stands total (a ∷ bytes) (if v then Fails (OpenLiteral (total - length (a ∷ bytes))) else bad_front total (b ∷ rest))
line_by total a b bytes rest e n p q true h = open_literal e (run_to bytes (b ∷ rest) n) h
line_by total a b bytes rest e n p q false h = bad_inside e (run_to bytes (b ∷ rest) n) (not_printable b p q) h

quote_by : (total a b : ℕ) (bytes rest : List ℕ) → is_quote a ≡ true → after is_quotable bytes ≡ b ∷ rest → is_quotable b ≡ false → (v : Bool) → is_quote b ≡ v → Stands total (a ∷ bytes) (if v then token_front total Literal (a ∷ bytes) rest else (if is_line_end b then Fails (OpenLiteral (total - length (a ∷ bytes))) else bad_front total (b ∷ rest)))
quote_by total a b bytes rest e n p true h = token_stands total Literal (a ∷ bytes) rest (literal_longest a b bytes rest e n h)
quote_by total a b bytes rest e n p false h = line_by total a b bytes rest e n p h (is_line_end b) refl

literal_stands : (total a : ℕ) (bytes at : List ℕ) → is_quote a ≡ true → after is_quotable bytes ≡ at → starts is_quotable at ≡ false → Stands total (a ∷ bytes) (literal_front total (a ∷ bytes) at)
literal_stands total a bytes [] e n p = open_literal e (run_to bytes [] n) refl
literal_stands total a bytes (b ∷ rest) e n p = quote_by total a b bytes rest e n p (is_quote b) refl

-- a variable or a sign

name_by : (total a b : ℕ) (rest : List ℕ) → is_blank a ≡ false → is_word_byte a ≡ false → is_quote a ≡ false → begins (codes "/*") (a ∷ b ∷ rest) ≡ false → is_ampersand a ≡ true → (v : Bool) → is_name_byte b ≡ v → Stands total (a ∷ b ∷ rest) (if v then token_front total Variable (a ∷ b ∷ rest) (after is_name_byte rest) else sign_front total (a ∷ b ∷ rest) a (b ∷ rest))
name_by total a b rest g w q o e true h = token_stands total Variable (a ∷ b ∷ rest) (after is_name_byte rest) (variable_longest a b rest e h)
name_by total a b rest g w q o e false h = sign_stands total a (b ∷ rest) g w q o (λ k. h)

ampersand_stands : (total a : ℕ) (bytes : List ℕ) → is_blank a ≡ false → is_word_byte a ≡ false → is_quote a ≡ false → begins (codes "/*") (a ∷ bytes) ≡ false → is_ampersand a ≡ true → Stands total (a ∷ bytes) (ampersand_front total (a ∷ bytes) a bytes)
ampersand_stands total a [] g w q o e = bad_stands total a [] g w q o (λ h. refl) refl (ampersand_no_single a e)
ampersand_stands total a (b ∷ rest) g w q o e = name_by total a b rest g w q o e (is_name_byte b) refl

-- the choice by the first byte

abbrev pub slash_step : ℕ → ℕ → List ℕ → Front
slash_step total a bytes = if 47 == a then slash_front total (a ∷ bytes) bytes else sign_front total (a ∷ bytes) a bytes

abbrev ampersand_step : ℕ → ℕ → List ℕ → Front
ampersand_step total a bytes = if is_ampersand a then ampersand_front total (a ∷ bytes) a bytes else slash_step total a bytes

abbrev quote_step : ℕ → ℕ → List ℕ → Front
quote_step total a bytes = if is_quote a then literal_front total (a ∷ bytes) (after is_quotable bytes) else ampersand_step total a bytes

abbrev word_step : ℕ → ℕ → List ℕ → Front
word_step total a bytes = if is_word_byte a then token_front total Word (a ∷ bytes) (after is_word_byte bytes) else quote_step total a bytes

slash_at : (total a : ℕ) (bytes : List ℕ) → is_blank a ≡ false → is_word_byte a ≡ false → is_quote a ≡ false → is_ampersand a ≡ false → (v : Bool) → (47 == a) ≡ v → Stands total (a ∷ bytes) (if v then slash_front total (a ∷ bytes) bytes else sign_front total (a ∷ bytes) a bytes)
slash_at total a bytes g w q m true e = subst (λ x. Stands total (x ∷ bytes) (slash_front total (x ∷ bytes) bytes)) (same_of 47 a e) (slash_stands total bytes)
slash_at total a bytes g w q m false e = sign_stands total a bytes g w q (not_slash a bytes e) (λ k. clash (sym k ∙ m))

ampersand_not_slash : (a : ℕ) (bytes : List ℕ) → is_ampersand a ≡ true → begins (codes "/*") (a ∷ bytes) ≡ false
ampersand_not_slash a bytes e = subst (λ x. begins (codes "/*") (x ∷ bytes) ≡ false) (only_among 38 a e) refl

ampersand_at : (total a : ℕ) (bytes : List ℕ) → is_blank a ≡ false → is_word_byte a ≡ false → is_quote a ≡ false → (v : Bool) → is_ampersand a ≡ v → Stands total (a ∷ bytes) (if v then ampersand_front total (a ∷ bytes) a bytes else slash_step total a bytes)
ampersand_at total a bytes g w q true e = ampersand_stands total a bytes g w q (ampersand_not_slash a bytes e) e
ampersand_at total a bytes g w q false e = slash_at total a bytes g w q e (47 == a) refl

quote_at : (total a : ℕ) (bytes : List ℕ) → is_blank a ≡ false → is_word_byte a ≡ false → (v : Bool) → is_quote a ≡ v → Stands total (a ∷ bytes) (if v then literal_front total (a ∷ bytes) (after is_quotable bytes) else ampersand_step total a bytes)
quote_at total a bytes g w true e = literal_stands total a bytes (after is_quotable bytes) e refl (after_stops is_quotable bytes)
quote_at total a bytes g w false e = ampersand_at total a bytes g w e (is_ampersand a) refl

word_at : (total a : ℕ) (bytes : List ℕ) → is_blank a ≡ false → (v : Bool) → is_word_byte a ≡ v → Stands total (a ∷ bytes) (if v then token_front total Word (a ∷ bytes) (after is_word_byte bytes) else quote_step total a bytes)
word_at total a bytes g true e = token_stands total Word (a ∷ bytes) (after is_word_byte bytes) (word_longest a bytes e)
word_at total a bytes g false e = quote_at total a bytes g e (is_quote a) refl

blank_at : (total a : ℕ) (bytes : List ℕ) (v : Bool) → is_blank a ≡ v → Stands total (a ∷ bytes) (if v then Skips bytes else word_step total a bytes)
blank_at total a bytes true e = blank e
blank_at total a bytes false e = word_at total a bytes e (is_word_byte a) refl

pub front_stands : (total : ℕ) (text : List ℕ) → Stands total text (front total text)
front_stands total [] = refl
front_stands total (a ∷ bytes) = blank_at total a bytes (is_blank a) refl
