-- Which token is the longest at the front of a text, by its first bytes.
use Rattle.std.proofs.Common.{◌≡◌, ◌≤◌, ◌<◌, ℕ, Bool, true, false, List, [], ◌∷◌, length, sym, ◌∙◌, ap, subst, arith}
use Rattle.acs_lex.specs.declared.token.TokenForm.{TokenForm}
use Rattle.acs_lex.specs.declared.token.TokenForm.TheVariants.{Word, Variable, Literal, Sign}
use Rattle.acs_lex.specs.Lexical.{Runs, is_name_byte, is_word_byte, is_ampersand, is_quote, is_quotable, is_single_sign}
use Rattle.acs_lex.specs.Lexical.{is_double_sign, IsForm, word, variable, literal, double, single}
use Rattle.acs_lex.specs.Tokens.{IsLongest}
use Rattle.acs_lex.specs.Inner.Scanning.{after}
use Rattle.acs_lex.proofs.ByteLemmas.{clash, double_begins, double_ampersand, word_no_ampersand, word_no_quote}
use Rattle.acs_lex.proofs.ByteLemmas.{word_no_single, word_no_double, name_no_ampersand, ampersand_no_quote}
use Rattle.acs_lex.proofs.ByteLemmas.{ampersand_no_single, quote_no_single, quote_no_double, quote_not_quotable}
use Rattle.acs_lex.proofs.RunLemmas.{starts, runs_after, runs_shorter, after_least, runs_end}

against : {A : Type 0} {v : Bool} → v ≡ true → v ≡ false → A
against e h = clash (sym e ∙ h)

word_most : (a : ℕ) (bytes : List ℕ) → is_word_byte a ≡ true → (form : TokenForm) (rest : List ℕ) → IsForm form (a ∷ bytes) rest → length (after is_word_byte bytes) ≤ length rest
word_most a bytes e _ rest (word h d) = after_least d
word_most a bytes e _ rest (variable h k d) = against h (word_no_ampersand a e)
word_most a bytes e _ rest (literal h d k) = against h (word_no_quote a e)
word_most a bytes e _ rest (double {b = b} h) = against (double_begins a b h) (word_no_double a e)
word_most a bytes e _ rest (single h) = against h (word_no_single a e)

pub word_longest : (a : ℕ) (bytes : List ℕ) → is_word_byte a ≡ true → IsLongest Word (a ∷ bytes) (after is_word_byte bytes)
word_longest a bytes e = record {
  is = word e (runs_after is_word_byte bytes);
  most = λ form rest d. word_most a bytes e form rest d;
}

variable_most : (a b : ℕ) (bytes : List ℕ) → is_ampersand a ≡ true → is_name_byte b ≡ true → (form : TokenForm) (rest : List ℕ) → IsForm form (a ∷ b ∷ bytes) rest → length (after is_name_byte bytes) ≤ length rest
variable_most a b bytes e n _ rest (word h d) = against e (word_no_ampersand a h)
variable_most a b bytes e n _ rest (variable h k d) = after_least d
variable_most a b bytes e n _ rest (literal h d k) = against h (ampersand_no_quote a e)
variable_most a b bytes e n _ rest (double h) = against (double_ampersand a b e h) (name_no_ampersand b n)
variable_most a b bytes e n _ rest (single h) = against h (ampersand_no_single a e)

pub variable_longest : (a b : ℕ) (bytes : List ℕ) → is_ampersand a ≡ true → is_name_byte b ≡ true → IsLongest Variable (a ∷ b ∷ bytes) (after is_name_byte bytes)
variable_longest a b bytes e n = record {
  is = variable e n (runs_after is_name_byte bytes);
  most = λ form rest d. variable_most a b bytes e n form rest d;
}

literal_most : (a b : ℕ) (bytes behind : List ℕ) → is_quote a ≡ true → after is_quotable bytes ≡ b ∷ behind → (form : TokenForm) (rest : List ℕ) → IsForm form (a ∷ bytes) rest → length behind ≤ length rest
literal_most a b bytes behind e n _ rest (word h d) = against e (word_no_quote a h)
literal_most a b bytes behind e n _ rest (variable h k d) = against e (ampersand_no_quote a h)
literal_most a b bytes behind e n _ rest (literal {b = q} h d k) =
    let same : after is_quotable bytes ≡ q ∷ rest = runs_end d (quote_not_quotable q k) in
    let tails : behind ≡ rest = cc in
    omega (arith, ap length tails)
literal_most a b bytes behind e n _ rest (double {b = q} h) = against (double_begins a q h) (quote_no_double a e)
literal_most a b bytes behind e n _ rest (single h) = against h (quote_no_single a e)

pub literal_longest : (a b : ℕ) (bytes behind : List ℕ) → is_quote a ≡ true → after is_quotable bytes ≡ b ∷ behind → is_quote b ≡ true → IsLongest Literal (a ∷ bytes) behind
literal_longest a b bytes behind e n k = record {
  is = literal e (subst (λ z. Runs is_quotable bytes z) n (runs_after is_quotable bytes)) k;
  most = λ form rest d. literal_most a b bytes behind e n form rest d;
}

double_most : (a b : ℕ) (behind : List ℕ) → is_double_sign a b ≡ true → (form : TokenForm) (rest : List ℕ) → IsForm form (a ∷ b ∷ behind) rest → length behind ≤ length rest
double_most a b behind e _ rest (word h d) = against (double_begins a b e) (word_no_double a h)
double_most a b behind e _ rest (variable h k d) = against (double_ampersand a b h e) (name_no_ampersand b k)
double_most a b behind e _ rest (literal h d k) = against (double_begins a b e) (quote_no_double a h)
double_most a b behind e _ rest (double h) = omega arith
double_most a b behind e _ rest (single h) = omega arith

pub double_longest : (a b : ℕ) (behind : List ℕ) → is_double_sign a b ≡ true → IsLongest Sign (a ∷ b ∷ behind) behind
double_longest a b behind e = record {
  is = double e;
  most = λ form rest d. double_most a b behind e form rest d;
}

-- a sign of two bytes stands at the front, the first of them being this one
abbrev pub double_here : ℕ → List ℕ → Bool
double_here a [] = false
double_here a (b ∷ bytes) = is_double_sign a b

single_most : (a : ℕ) (bytes : List ℕ) → is_single_sign a ≡ true → double_here a bytes ≡ false → (form : TokenForm) (rest : List ℕ) → IsForm form (a ∷ bytes) rest → length bytes ≤ length rest
single_most a bytes e n _ rest (word h d) = against e (word_no_single a h)
single_most a bytes e n _ rest (variable h k d) = against e (ampersand_no_single a h)
single_most a bytes e n _ rest (literal h d k) = against e (quote_no_single a h)
single_most a bytes e n _ rest (double h) = against h n
single_most a bytes e n _ rest (single h) = omega arith

pub single_longest : (a : ℕ) (bytes : List ℕ) → is_single_sign a ≡ true → double_here a bytes ≡ false → IsLongest Sign (a ∷ bytes) bytes
single_longest a bytes e n = record {
  is = single e;
  most = λ form rest d. single_most a bytes e n form rest d;
}

-- which bytes begin no token
pub no_form : (a : ℕ) (bytes : List ℕ) → is_word_byte a ≡ false → is_single_sign a ≡ false → is_quote a ≡ false → (is_ampersand a ≡ true → starts is_name_byte bytes ≡ false) → double_here a bytes ≡ false → (form : TokenForm) (rest : List ℕ) → IsForm form (a ∷ bytes) rest → ⊥
no_form a bytes w s q n t _ rest (word h d) = against h w
no_form a bytes w s q n t _ rest (variable h k d) = against k (n h)
no_form a bytes w s q n t _ rest (literal h d k) = against h q
no_form a bytes w s q n t _ rest (double h) = against h t
no_form a bytes w s q n t _ rest (single h) = against h s

-- what is left is shorter
pub form_shorter : {form : TokenForm} {text rest : List ℕ} → IsForm form text rest → length rest < length text
form_shorter (word e d) = omega (arith, runs_shorter d)
form_shorter (variable e n d) = omega (arith, runs_shorter d)
form_shorter (literal e d k) = omega (arith, runs_shorter d)
form_shorter (double e) = omega arith
form_shorter (single e) = omega arith
