-- Which tests no byte passes together.
use Rattle.std.proofs.Common.{◌≡◌, ℕ, Bool, true, false, not, List, [], ◌∷◌, refl, sym, ◌∙◌, ap, subst, arith}
use Rattle.std.specs.Prelude.{◌==◌, ◌&&◌, ◌||◌, codes}
use Rattle.std.specs.List.{list_all}
use Rattle.std.proofs.lemmas.Bool.Decides.{nat_tests}
use Rattle.acs_lex.specs.Lexical.{among, is_line_end, is_blank, is_name_byte, is_word_byte, is_ampersand, is_quote}
use Rattle.acs_lex.specs.Lexical.{is_printable, is_quotable, is_single_sign, is_double_sign, begins}

pub clash : {A : Type 0} → true ≡ false → A
clash e = cc

pub left_true : (v w : Bool) → (v && w) ≡ true → v ≡ true
left_true true w e = refl
left_true false w e = e

pub right_true : (v w : Bool) → (v && w) ≡ true → w ≡ true
right_true true w e = e
right_true false w e = clash (sym e)

pub and_false : (v w : Bool) → v ≡ false → (v && w) ≡ false
and_false v w e = rw e refl

false_of_not : (v : Bool) → not v ≡ true → v ≡ false
false_of_not true e = clash (sym e)
false_of_not false e = refl

pub same_of : (m n : ℕ) → (m == n) ≡ true → m ≡ n
same_of m n e = grind (arith, nat_tests)

fails_at : (test : ℕ → Bool) (x b : ℕ) → not (test x) ≡ true → (rest : Bool) → (rest ≡ true → test b ≡ false) → (v : Bool) → (x == b) ≡ v → (v || rest) ≡ true → test b ≡ false
fails_at test x b h rest more true i e = sym (ap test (same_of x b i)) ∙ false_of_not (test x) h
fails_at test x b h rest more false i e = more e

-- a test that fails at all bytes of a list fails at each of them
pub fails_among : (bytes : List ℕ) (test : ℕ → Bool) → list_all (λ x. not (test x)) bytes ≡ true → (b : ℕ) → among bytes b ≡ true → test b ≡ false
fails_among [] test h b e = clash (sym e)
fails_among (x ∷ bytes) test h b e = fails_at test x b (left_true _ _ h) (among bytes b) (λ k. fails_among bytes test (right_true _ _ h) b k) (x == b) refl e

-- a byte that passes such a test is not in the list
absent_at : (bytes : List ℕ) (test : ℕ → Bool) → list_all (λ x. not (test x)) bytes ≡ true → (b : ℕ) → test b ≡ true → (v : Bool) → among bytes b ≡ v → v ≡ false
absent_at bytes test h b e true i = clash (sym e ∙ fails_among bytes test h b i)
absent_at bytes test h b e false i = refl

pub absent_among : (bytes : List ℕ) (test : ℕ → Bool) → list_all (λ x. not (test x)) bytes ≡ true → (b : ℕ) → test b ≡ true → among bytes b ≡ false
absent_among bytes test h b e = absent_at bytes test h b e (among bytes b) refl

or_false : (v : Bool) → (v || false) ≡ true → v ≡ true
or_false true e = refl
or_false false e = e

-- the only byte of a list of one
pub only_among : (x b : ℕ) → among (x ∷ []) b ≡ true → x ≡ b
only_among x b e = same_of x b (or_false (x == b) e)

-- the bytes that begin a sign of two bytes
abbrev pub begins_double : ℕ → Bool
begins_double byte = among (codes "&^><") byte

first_of_six : (p q r s a b c d e f : Bool) → ((p && a) || ((q && b) || ((q && c) || ((q && d) || ((r && e) || ((s && f) || false)))))) ≡ true → (p || (q || (r || (s || false)))) ≡ true
first_of_six true q r s a b c d e f h = refl
first_of_six false true r s a b c d e f h = refl
first_of_six false false true s a b c d e f h = refl
first_of_six false false false true a b c d e f h = refl
first_of_six false false false false a b c d e f h = h

pub double_begins : (a b : ℕ) → is_double_sign a b ≡ true → begins_double a ≡ true
double_begins a b e = first_of_six (38 == a) (94 == a) (62 == a) (60 == a) _ _ _ _ _ _ e

both_same : (v : Bool) → ((v && true) || false) ≡ true → (v || false) ≡ true
both_same true e = refl
both_same false e = e

double_at : (a b : ℕ) → 38 ≡ a → is_double_sign a b ≡ true → is_ampersand b ≡ true
double_at a b e h = both_same (38 == b) (subst (λ x. is_double_sign x b ≡ true) (sym e) h)

-- behind an ampersand only an ampersand makes a sign of two bytes
pub double_ampersand : (a b : ℕ) → is_ampersand a ≡ true → is_double_sign a b ≡ true → is_ampersand b ≡ true
double_ampersand a b e h = double_at a b (only_among 38 a e) h

pub not_slash : (a : ℕ) (bytes : List ℕ) → (47 == a) ≡ false → begins (codes "/*") (a ∷ bytes) ≡ false
not_slash a bytes e = and_false _ _ e

pub slash_of : (a b : ℕ) (bytes : List ℕ) → begins (codes "/*") (a ∷ b ∷ bytes) ≡ true → 47 ≡ a
slash_of a b bytes e = same_of 47 a (left_true _ _ e)

pub star_of : (a b : ℕ) (bytes : List ℕ) → begins (codes "/*") (a ∷ b ∷ bytes) ≡ true → 42 ≡ b
star_of a b bytes e = same_of 42 b (left_true _ true (right_true _ _ e))

pub word_no_blank : (b : ℕ) → is_word_byte b ≡ true → is_blank b ≡ false
word_no_blank b e = absent_among (32 ∷ 9 ∷ 10 ∷ 13 ∷ []) is_word_byte refl b e

pub word_no_ampersand : (b : ℕ) → is_word_byte b ≡ true → is_ampersand b ≡ false
word_no_ampersand b e = absent_among (codes "&") is_word_byte refl b e

pub word_no_quote : (b : ℕ) → is_word_byte b ≡ true → is_quote b ≡ false
word_no_quote b e = absent_among (codes "'") is_word_byte refl b e

pub word_no_single : (b : ℕ) → is_word_byte b ≡ true → is_single_sign b ≡ false
word_no_single b e = absent_among (codes "=><|(),") is_word_byte refl b e

pub word_no_double : (b : ℕ) → is_word_byte b ≡ true → begins_double b ≡ false
word_no_double b e = absent_among (codes "&^><") is_word_byte refl b e

pub name_no_ampersand : (b : ℕ) → is_name_byte b ≡ true → is_ampersand b ≡ false
name_no_ampersand b e = absent_among (codes "&") is_name_byte refl b e

pub ampersand_no_name : (b : ℕ) → is_ampersand b ≡ true → is_name_byte b ≡ false
ampersand_no_name b e = fails_among (codes "&") is_name_byte refl b e

pub ampersand_no_quote : (b : ℕ) → is_ampersand b ≡ true → is_quote b ≡ false
ampersand_no_quote b e = fails_among (codes "&") is_quote refl b e

pub ampersand_no_single : (b : ℕ) → is_ampersand b ≡ true → is_single_sign b ≡ false
ampersand_no_single b e = fails_among (codes "&") is_single_sign refl b e

pub quote_no_single : (b : ℕ) → is_quote b ≡ true → is_single_sign b ≡ false
quote_no_single b e = fails_among (codes "'") is_single_sign refl b e

pub quote_no_double : (b : ℕ) → is_quote b ≡ true → begins_double b ≡ false
quote_no_double b e = fails_among (codes "'") begins_double refl b e

pub quote_not_quotable : (b : ℕ) → is_quote b ≡ true → is_quotable b ≡ false
quote_not_quotable b e = fails_among (codes "'") is_quotable refl b e

pub line_end_not_quotable : (b : ℕ) → is_line_end b ≡ true → is_quotable b ≡ false
line_end_not_quotable b e = fails_among (10 ∷ 13 ∷ []) is_quotable refl b e

pub line_end_no_quote : (b : ℕ) → is_line_end b ≡ true → is_quote b ≡ false
line_end_no_quote b e = fails_among (10 ∷ 13 ∷ []) is_quote refl b e

pub quote_is_printable : (b : ℕ) → is_quote b ≡ true → is_printable b ≡ true
quote_is_printable b e = subst (λ x. is_printable x ≡ true) (only_among 39 b e) refl

not_both : (v w : Bool) → (v && not w) ≡ false → w ≡ false → v ≡ false
not_both true w h e = clash (ap not (sym e) ∙ h)
not_both false w h e = refl

-- between quotes only a quote and what isn't printable may not stand
pub not_printable : (b : ℕ) → is_quotable b ≡ false → is_quote b ≡ false → is_printable b ≡ false
not_printable b h e = not_both (is_printable b) (is_quote b) h e

-- what a single sign or the first byte of a double one is not
pub single_is_no : (test : ℕ → Bool) → list_all (λ x. not (test x)) (codes "=><|(),") ≡ true → (b : ℕ) → is_single_sign b ≡ true → test b ≡ false
single_is_no test h b e = fails_among (codes "=><|(),") test h b e

pub double_is_no : (test : ℕ → Bool) → list_all (λ x. not (test x)) (codes "&^><") ≡ true → (b : ℕ) → begins_double b ≡ true → test b ≡ false
double_is_no test h b e = fails_among (codes "&^><") test h b e
