-- Nothing but the step's value stands at the front of a text.
use Rattle.std.proofs.Common.{◌≡◌, ◌≤◌, ◌<◌, ◌-◌, ℕ, Bool, true, false, List, [], ◌∷◌, length, refl, sym, ◌∙◌, ap}
use Rattle.std.proofs.Common.{subst, arith}
use Rattle.std.specs.Prelude.{if◌then◌else◌, nat_le, ◌==◌, Option, Some, None, codes}
use Rattle.std.proofs.lemmas.Bool.Decides.{nat_tests}
use Rattle.acs_lex.specs.declared.token.TokenForm.{TokenForm}
use Rattle.acs_lex.specs.declared.token.TokenForm.TheVariants.{Word, Variable, Sign}
use Rattle.acs_lex.specs.declared.token.Token.{Token}
use Rattle.acs_lex.specs.declared.fault.LexErr.{LexErr}
use Rattle.acs_lex.specs.declared.fault.LexErr.TheVariants.{OpenLiteral}
use Rattle.acs_lex.specs.Lexical.{is_blank, is_line_end, is_name_byte, is_word_byte, is_ampersand, is_quote}
use Rattle.acs_lex.specs.Lexical.{is_printable, is_quotable, is_single_sign, is_double_sign, begins, IsForm, word}
use Rattle.acs_lex.specs.Lexical.{variable, literal, double, single, IsCommentTail, over, inside, IsGap, blank, comment}
use Rattle.acs_lex.specs.Tokens.{IsToken, token}
use Rattle.acs_lex.specs.LexFault.{ends_line, StopsBy, open_comment, open_literal, bad_inside, bad_byte, too_long}
use Rattle.acs_lex.specs.Inner.Scanning.{Front, Ends, Skips, Takes, Fails, after, after_comment, token_front, bad_front}
use Rattle.acs_lex.specs.Inner.Scanning.{comment_front, literal_front, sign_front, ampersand_front, front}
use Rattle.acs_lex.proofs.ByteLemmas.{clash, and_false, slash_of, star_of, only_among, double_begins, double_is_no}
use Rattle.acs_lex.proofs.ByteLemmas.{single_is_no, double_ampersand, word_no_blank, ampersand_no_name}
use Rattle.acs_lex.proofs.ByteLemmas.{ampersand_no_single, quote_not_quotable, line_end_not_quotable, line_end_no_quote}
use Rattle.acs_lex.proofs.ByteLemmas.{quote_is_printable}
use Rattle.acs_lex.proofs.RunLemmas.{starts, runs_after, runs_end, runs_most}
use Rattle.acs_lex.proofs.FormLemmas.{double_here, form_shorter}
use Rattle.acs_lex.proofs.FrontLemmas.{Stands, front_stands, tail_of, of_tail, slash_step}

of_le : (m n : ℕ) → m ≤ n → nat_le m n ≡ true
of_le m n e = grind (arith, nat_tests)

of_lt : (m n : ℕ) → n < m → nat_le m n ≡ false
of_lt m n e = grind (arith, nat_tests)

opens_slash : (total b : ℕ) (bytes : List ℕ) → 42 ≡ b → front total (47 ∷ b ∷ bytes) ≡ comment_front total (47 ∷ b ∷ bytes) (after_comment bytes)
opens_slash total b bytes e = subst (λ x. front total (47 ∷ x ∷ bytes) ≡ comment_front total (47 ∷ x ∷ bytes) (after_comment bytes)) e refl

opens_front : (total a b : ℕ) (bytes : List ℕ) → begins (codes "/*") (a ∷ b ∷ bytes) ≡ true → front total (a ∷ b ∷ bytes) ≡ comment_front total (a ∷ b ∷ bytes) (after_comment bytes)
opens_front total a b bytes o = subst (λ x. front total (x ∷ b ∷ bytes) ≡ comment_front total (x ∷ b ∷ bytes) (after_comment bytes)) (slash_of a b bytes o) (opens_slash total b bytes (star_of a b bytes o))

gap_front : (total : ℕ) (text rest : List ℕ) → IsGap text rest → Skips rest ≡ front total text
gap_front total _ rest (blank e) = rw e refl
gap_front total _ rest (comment {a = a} {b = b} {bytes = bytes} o d) = sym (opens_front total a b bytes o ∙ ap (λ z. comment_front total (a ∷ b ∷ bytes) z) (of_tail d))

word_front : (total a : ℕ) (bytes : List ℕ) → is_word_byte a ≡ true → front total (a ∷ bytes) ≡ token_front total Word (a ∷ bytes) (after is_word_byte bytes)
word_front total a bytes e = rw (word_no_blank a e, e) refl

variable_front : (total a b : ℕ) (bytes : List ℕ) → is_ampersand a ≡ true → is_name_byte b ≡ true → front total (a ∷ b ∷ bytes) ≡ token_front total Variable (a ∷ b ∷ bytes) (after is_name_byte bytes)
variable_front total a b bytes e n = subst (λ x. front total (x ∷ b ∷ bytes) ≡ token_front total Variable (x ∷ b ∷ bytes) (after is_name_byte bytes)) (only_among 38 a e) (rw n refl)

quote_front : (total a : ℕ) (bytes at : List ℕ) → is_quote a ≡ true → after is_quotable bytes ≡ at → front total (a ∷ bytes) ≡ literal_front total (a ∷ bytes) at
quote_front total a bytes at e n = subst (λ x. front total (x ∷ bytes) ≡ literal_front total (x ∷ bytes) at) (only_among 39 a e) (ap (λ z. literal_front total (39 ∷ bytes) z) n)

-- a sign's first byte leads to the signs
to_sign_by : (total a : ℕ) (bytes : List ℕ) → (47 == a) ≡ false → (is_ampersand a ≡ true → ampersand_front total (a ∷ bytes) a bytes ≡ sign_front total (a ∷ bytes) a bytes) → (v : Bool) → is_ampersand a ≡ v → (if v then ampersand_front total (a ∷ bytes) a bytes else slash_step total a bytes) ≡ sign_front total (a ∷ bytes) a bytes
to_sign_by total a bytes s m true e = m e
to_sign_by total a bytes s m false e = rw s refl

to_sign : (total a : ℕ) (bytes : List ℕ) → is_blank a ≡ false → is_word_byte a ≡ false → is_quote a ≡ false → (47 == a) ≡ false → (is_ampersand a ≡ true → ampersand_front total (a ∷ bytes) a bytes ≡ sign_front total (a ∷ bytes) a bytes) → front total (a ∷ bytes) ≡ sign_front total (a ∷ bytes) a bytes
to_sign total a bytes g w q s m = rw (g, w, q) (to_sign_by total a bytes s m (is_ampersand a) refl)

double_front : (total a b : ℕ) (rest : List ℕ) → is_double_sign a b ≡ true → front total (a ∷ b ∷ rest) ≡ token_front total Sign (a ∷ b ∷ rest) rest
double_front total a b rest e =
    let h = double_begins a b e in
    to_sign total a (b ∷ rest) (double_is_no is_blank refl a h) (double_is_no is_word_byte refl a h) (double_is_no is_quote refl a h) (double_is_no (λ x. 47 == x) refl a h)
    (λ k. rw (ampersand_no_name b (double_ampersand a b k e)) refl)
    ∙ rw e refl

single_here : (total a : ℕ) (bytes : List ℕ) → is_single_sign a ≡ true → double_here a bytes ≡ false → sign_front total (a ∷ bytes) a bytes ≡ token_front total Sign (a ∷ bytes) bytes
single_here total a [] e n = rw e refl
single_here total a (b ∷ rest) e n = rw (n, e) refl

single_front_is : (total a : ℕ) (bytes : List ℕ) → is_single_sign a ≡ true → double_here a bytes ≡ false → front total (a ∷ bytes) ≡ token_front total Sign (a ∷ bytes) bytes
single_front_is total a bytes e n =
    to_sign total a bytes (single_is_no is_blank refl a e) (single_is_no is_word_byte refl a e) (single_is_no is_quote refl a e) (single_is_no (λ x. 47 == x) refl a e)
    (λ k. clash (sym e ∙ ampersand_no_single a k))
    ∙ single_here total a bytes e n

-- no sign of two bytes stands where the longest token has one
short_by : (a b : ℕ) (bytes : List ℕ) → ((form : TokenForm) (rest : List ℕ) → IsForm form (a ∷ b ∷ bytes) rest → length (b ∷ bytes) ≤ length rest) → (v : Bool) → is_double_sign a b ≡ v → v ≡ false
short_by a b bytes m true e = absurd (omega (arith, m Sign bytes (double e)))
short_by a b bytes m false e = refl

short_here : (a : ℕ) (bytes : List ℕ) → ((form : TokenForm) (rest : List ℕ) → IsForm form (a ∷ bytes) rest → length bytes ≤ length rest) → double_here a bytes ≡ false
short_here a [] m = refl
short_here a (b ∷ bytes) m = short_by a b bytes m (is_double_sign a b) refl

form_front : (total : ℕ) (form : TokenForm) (text rest : List ℕ) → IsForm form text rest → ((other : TokenForm) (behind : List ℕ) → IsForm other text behind → length rest ≤ length behind) → front total text ≡ token_front total form text rest
form_front total _ _ rest (word {b = b} {bytes = bytes} e d) m =
    word_front total b bytes e ∙ ap (λ z. token_front total Word (b ∷ bytes) z) (sym (runs_most d (m Word (after is_word_byte bytes) (word e (runs_after is_word_byte bytes)))))
form_front total _ _ rest (variable {a = a} {b = b} {bytes = bytes} e n d) m =
    variable_front total a b bytes e n ∙ ap (λ z. token_front total Variable (a ∷ b ∷ bytes) z) (sym (runs_most d (m Variable (after is_name_byte bytes) (variable e n (runs_after is_name_byte bytes)))))
form_front total _ _ rest (literal {a = a} {b = b} {bytes = bytes} e d k) m =
    quote_front total a bytes (b ∷ rest) e (runs_end d (quote_not_quotable b k)) ∙ rw k refl
form_front total _ _ rest (double {a = a} {b = b} e) m = double_front total a b rest e
form_front total _ _ rest (single {a = a} e) m = single_front_is total a rest e (short_here a rest m)

token_is_front : (total : ℕ) (text rest : List ℕ) (one : Token) → IsToken total text one rest → Takes one rest ≡ front total text
token_is_front total text rest _ (token {form = form} d h) = sym (form_front total form text rest d.is d.most ∙ rw (of_le _ _ h) refl)

line_stops : (rest : List ℕ) → ends_line rest ≡ true → starts is_quotable rest ≡ false
line_stops [] e = refl
line_stops (b ∷ rest) e = line_end_not_quotable b e

line_front : (total : ℕ) (text at : List ℕ) → ends_line at ≡ true → literal_front total text at ≡ Fails (OpenLiteral (total - length text))
line_front total text [] e = refl
line_front total text (b ∷ rest) e = rw (line_end_no_quote b e, e) refl

not_quote : (b : ℕ) (v : Bool) → is_quote b ≡ v → is_printable b ≡ false → v ≡ false
not_quote b true e p = clash (sym (quote_is_printable b e) ∙ p)
not_quote b false e p = refl

inside_front : (total : ℕ) (text rest : List ℕ) (b : ℕ) → is_printable b ≡ false → is_line_end b ≡ false → literal_front total text (b ∷ rest) ≡ bad_front total (b ∷ rest)
inside_front total text rest b p l = rw (not_quote b (is_quote b) refl p, l) refl

no_comment : (bytes : List ℕ) (found : Option (List ℕ)) → after_comment bytes ≡ found → ((rest : List ℕ) → IsCommentTail bytes rest → ⊥) → found ≡ None
no_comment bytes None e h = refl
no_comment bytes (Some rest) e h = absurd (h rest (tail_of bytes rest e))

-- where no piece begins, only the bad byte stands

no_gap : {A : Type 0} {a : ℕ} {bytes rest : List ℕ} → IsGap (a ∷ bytes) rest → is_blank a ≡ false → begins (codes "/*") (a ∷ bytes) ≡ false → A
no_gap (blank e) g o = clash (sym e ∙ g)
no_gap (comment e d) g o = clash (sym e ∙ o)

no_token : {A : Type 0} {total : ℕ} {text rest : List ℕ} {one : Token} → IsToken total text one rest → ((form : TokenForm) (behind : List ℕ) → IsForm form text behind → ⊥) → A
no_token (token {form = form} {rest = rest} d h) n = absurd (n form rest d.is)

only_fault : (total a : ℕ) (bytes : List ℕ) (err : LexErr) → StopsBy total (a ∷ bytes) err → begins (codes "/*") (a ∷ bytes) ≡ false → is_quote a ≡ false → ((form : TokenForm) (rest : List ℕ) → IsForm form (a ∷ bytes) rest → ⊥) → Fails err ≡ bad_front total (a ∷ bytes)
only_fault total a bytes _ (open_comment e h) o q n = clash (sym e ∙ o)
only_fault total a bytes _ (open_literal e d h) o q n = clash (sym e ∙ q)
only_fault total a bytes _ (bad_inside e d p l) o q n = clash (sym e ∙ q)
only_fault total a bytes _ (bad_byte g e h k) o q n = refl
only_fault total a bytes _ (too_long {form = form} {rest = rest} d h) o q n = absurd (n form rest d.is)

only_bad : (total a : ℕ) (bytes : List ℕ) (x : Front) → Stands total (a ∷ bytes) x → is_blank a ≡ false → begins (codes "/*") (a ∷ bytes) ≡ false → is_quote a ≡ false → ((form : TokenForm) (rest : List ℕ) → IsForm form (a ∷ bytes) rest → ⊥) → x ≡ bad_front total (a ∷ bytes)
only_bad total a bytes Ends e g o q n = absurd (cc)
only_bad total a bytes (Skips rest) d g o q n = no_gap d g o
only_bad total a bytes (Takes one rest) d g o q n = no_token d n
only_bad total a bytes (Fails err) d g o q n = only_fault total a bytes err d o q n

fault_is_front : (total : ℕ) (text : List ℕ) (err : LexErr) → StopsBy total text err → Fails err ≡ front total text
fault_is_front total _ _ (open_comment {a = a} {b = b} {bytes = bytes} o h) = sym (opens_front total a b bytes o ∙ ap (λ z. comment_front total (a ∷ b ∷ bytes) z) (no_comment bytes (after_comment bytes) refl h))
fault_is_front total _ _ (open_literal {a = a} {bytes = bytes} {rest = rest} e d h) = sym (quote_front total a bytes rest e (runs_end d (line_stops rest h)) ∙ line_front total (a ∷ bytes) rest h)
fault_is_front total _ _ (bad_inside {a = a} {b = b} {bytes = bytes} {rest = rest} e d p l) = sym (quote_front total a bytes (b ∷ rest) e (runs_end d (and_false _ _ p)) ∙ inside_front total (a ∷ bytes) rest b p l)
fault_is_front total _ _ (bad_byte {a = a} {bytes = bytes} g o q n) = sym (only_bad total a bytes (front total (a ∷ bytes)) (front_stands total (a ∷ bytes)) g o q n)
fault_is_front total text _ (too_long {form = form} {rest = rest} d h) = sym (form_front total form text rest d.is d.most ∙ rw (of_lt _ _ h) refl)

pub stands_front : (total : ℕ) (text : List ℕ) (x : Front) → Stands total text x → x ≡ front total text
stands_front total text Ends e = sym (ap (λ z. front total z) e)
stands_front total text (Skips rest) d = gap_front total text rest d
stands_front total text (Takes one rest) d = token_is_front total text rest one d
stands_front total text (Fails err) d = fault_is_front total text err d

-- what is left is shorter

tail_shorter : {text rest : List ℕ} → IsCommentTail text rest → length rest < length text
tail_shorter (over e) = omega arith
tail_shorter (inside e d) = omega (arith, tail_shorter d)

pub gap_shorter : {text rest : List ℕ} → IsGap text rest → length rest < length text
gap_shorter (blank e) = omega arith
gap_shorter (comment o d) = omega (arith, tail_shorter d)

pub token_shorter : {total : ℕ} {text rest : List ℕ} {one : Token} → IsToken total text one rest → length rest < length text
token_shorter (token d h) = form_shorter d.is
