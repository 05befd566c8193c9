-- Where the tokens of a cut stand, and what text they have.
use Rattle.std.proofs.Common.{◌≡◌, ◌≤◌, ◌<◌, ◌-◌, ℕ, suc, Bool, true, List, [], ◌∷◌, length, take, drop, refl, sym, ◌∙◌}
use Rattle.std.proofs.Common.{ap, subst, arith}
use Rattle.std.specs.Prelude.{All}
use Rattle.std.proofs.lemmas.Grind.{common_steps}
use Rattle.std.proofs.lemmas.List.Elements.{All-nil, All-cons}
use Rattle.acs_lex.specs.declared.token.TokenForm.{TokenForm}
use Rattle.acs_lex.specs.declared.token.TokenForm.TheVariants.{Word, Variable, Literal, Sign}
use Rattle.acs_lex.specs.declared.token.Token.{Token}
use Rattle.acs_lex.specs.Lexical.{Runs, stop, on, IsForm, word, variable, literal, double, single, counted_bytes}
use Rattle.acs_lex.specs.Lexical.{most_bytes, IsCommentTail, over, inside, IsGap, blank, comment}
use Rattle.acs_lex.specs.Tokens.{IsLongest, size_of, token_at, token, CutsInto, nothing_left, after_gap, after_token}
use Rattle.acs_lex.specs.Tokens.{IsCut, InOrder, token_text, IsTokenOf}
use Rattle.acs_lex.proofs.RunLemmas.{runs_shorter}
use Rattle.acs_lex.proofs.FormLemmas.{form_shorter}
use Rattle.acs_lex.proofs.OneFrontLemmas.{gap_shorter}

-- the tokens in order

order_from : {total : ℕ} {text : List ℕ} {tokens : List Token} (from : ℕ) → CutsInto total text tokens → length text ≤ total → from ≤ total - length text → InOrder from total tokens
order_from from nothing_left h k = omega arith
order_from from (after_gap d c) h k = order_from from c (omega (arith, gap_shorter d)) (omega (arith, gap_shorter d))
order_from {total} from (after_token (token {rest = rest} d e) c) h k =
    (k, (omega (arith, form_shorter d.is)), order_from (total - length rest) c (omega (arith, form_shorter d.is)) (omega arith))

pub cut_in_order : (text : List ℕ) (tokens : List Token) → IsCut text tokens → InOrder 0 (length text) tokens
cut_in_order text tokens c = order_from 0 c (omega arith) (omega arith)

-- a text's own bytes, without the last ones

take_cons : (n b : ℕ) (bytes : List ℕ) → n ≤ length bytes → take (suc (length bytes) - n) (b ∷ bytes) ≡ b ∷ take (length bytes - n) bytes
take_cons n b bytes h = grind (arith, common_steps)

runs_front : {test : ℕ → Bool} {bytes at : List ℕ} (n : ℕ) → Runs test bytes at → n ≤ length at → Runs test (take (length bytes - n) bytes) (take (length at - n) at)
runs_front n stop h = stop
runs_front {test} {at = at} n (on {b = b} {bytes = bytes} e d) h =
    subst (λ z. Runs test z (take (length at - n) at)) (sym (take_cons n b bytes (omega (arith, runs_shorter d)))) (on e (runs_front n d h))

nothing_behind : (xs : List ℕ) → take (length xs - length xs) xs ≡ []
nothing_behind xs = grind (arith, common_steps)

one_behind : (b : ℕ) (rest : List ℕ) → take (suc (length rest) - length rest) (b ∷ rest) ≡ b ∷ []
one_behind b rest = grind (arith, common_steps)

run_alone : {test : ℕ → Bool} {bytes rest : List ℕ} → Runs test bytes rest → Runs test (take (length bytes - length rest) bytes) []
run_alone {test} {bytes} {rest} d = subst (λ z. Runs test (take (length bytes - length rest) bytes) z) (nothing_behind rest) (runs_front (length rest) d (omega arith))

run_to_one : {test : ℕ → Bool} {b : ℕ} {bytes rest : List ℕ} → Runs test bytes (b ∷ rest) → Runs test (take (length bytes - length rest) bytes) (b ∷ [])
run_to_one {test} {b} {bytes} {rest} d = subst (λ z. Runs test (take (length bytes - length rest) bytes) z) (one_behind b rest) (runs_front (length rest) d (omega arith))

first_cons : (b : ℕ) (bytes rest : List ℕ) → length rest ≤ length bytes → b ∷ take (length bytes - length rest) bytes ≡ take (length (b ∷ bytes) - length rest) (b ∷ bytes)
first_cons b bytes rest h = sym (take_cons (length rest) b bytes h)

two_cons : (a b : ℕ) (bytes rest : List ℕ) → length rest ≤ length bytes → a ∷ b ∷ take (length bytes - length rest) bytes ≡ take (length (a ∷ b ∷ bytes) - length rest) (a ∷ b ∷ bytes)
two_cons a b bytes rest h = ap (λ z. a ∷ z) (first_cons b bytes rest h) ∙ first_cons a (b ∷ bytes) rest (omega arith)

single_cons : (a : ℕ) (rest : List ℕ) → a ∷ [] ≡ take (length (a ∷ rest) - length rest) (a ∷ rest)
single_cons a rest = grind (arith, common_steps)

double_cons : (a b : ℕ) (rest : List ℕ) → a ∷ b ∷ [] ≡ take (length (a ∷ b ∷ rest) - length rest) (a ∷ b ∷ rest)
double_cons a b rest = grind (arith, common_steps)

form_alone : {form : TokenForm} {text rest : List ℕ} → IsForm form text rest → IsForm form (take (length text - length rest) text) []
form_alone {rest = rest} (word {b = b} {bytes = bytes} e d) = subst (λ z. IsForm Word z []) (first_cons b bytes rest (runs_shorter d)) (word e (run_alone d))
form_alone {rest = rest} (variable {a = a} {b = b} {bytes = bytes} e n d) = subst (λ z. IsForm Variable z []) (two_cons a b bytes rest (runs_shorter d)) (variable e n (run_alone d))
form_alone {rest = rest} (literal {a = a} {b = b} {bytes = bytes} e d k) = subst (λ z. IsForm Literal z []) (first_cons a bytes rest (omega (arith, runs_shorter d))) (literal e (run_to_one d) k)
form_alone {rest = rest} (double {a = a} {b = b} e) = subst (λ z. IsForm Sign z []) (double_cons a b rest) (double e)
form_alone {rest = rest} (single {a = a} e) = subst (λ z. IsForm Sign z []) (single_cons a rest) (single e)

-- what is behind is an end of the text

abbrev pub any_byte : ℕ → Bool
any_byte b = true

runs_any : {test : ℕ → Bool} {bytes rest : List ℕ} → Runs test bytes rest → Runs any_byte bytes rest
runs_any stop = stop
runs_any (on e d) = on refl (runs_any d)

pub runs_join : {test : ℕ → Bool} {bytes at rest : List ℕ} → Runs test bytes at → Runs test at rest → Runs test bytes rest
runs_join stop d = d
runs_join (on e c) d = on e (runs_join c d)

pub form_runs : {form : TokenForm} {text rest : List ℕ} → IsForm form text rest → Runs any_byte text rest
form_runs (word e d) = on refl (runs_any d)
form_runs (variable e n d) = on refl (on refl (runs_any d))
form_runs (literal e d k) = on refl (runs_join (runs_any d) (on refl stop))
form_runs (double e) = on refl (on refl stop)
form_runs (single e) = on refl stop

tail_runs : {text rest : List ℕ} → IsCommentTail text rest → Runs any_byte text rest
tail_runs (over e) = on refl (on refl stop)
tail_runs (inside e d) = on refl (tail_runs d)

pub gap_runs : {text rest : List ℕ} → IsGap text rest → Runs any_byte text rest
gap_runs (blank e) = on refl stop
gap_runs (comment o d) = on refl (on refl (tail_runs d))

drop_cons : (n b : ℕ) (bytes : List ℕ) → n ≤ length bytes → drop (suc (length bytes) - n) (b ∷ bytes) ≡ drop (length bytes - n) bytes
drop_cons n b bytes h = grind (arith, common_steps)

drop_none : (xs : List ℕ) → drop (length xs - length xs) xs ≡ xs
drop_none xs = grind (arith, common_steps)

runs_drop : {test : ℕ → Bool} {bytes rest : List ℕ} → Runs test bytes rest → drop (length bytes - length rest) bytes ≡ rest
runs_drop {rest = rest} stop = drop_none rest
runs_drop {rest = rest} (on {b = b} {bytes = bytes} e d) = drop_cons (length rest) b bytes (runs_shorter d) ∙ runs_drop d

-- the text of a token at an end of the text

sizes : (total at behind : ℕ) → at ≤ total → behind ≤ at → (total - behind) - (total - at) ≡ at - behind
sizes total at behind h k = omega arith

text_of : (whole text rest : List ℕ) (form : TokenForm) → Runs any_byte whole text → length rest ≤ length text → token_text whole (token_at (length whole) form text rest) ≡ take (length text - length rest) text
text_of whole text rest form d h = ap (λ n. take n (drop (length whole - length text) whole)) (sizes (length whole) (length text) (length rest) (runs_shorter d) h) ∙ ap (λ z. take (length text - length rest) z) (runs_drop d)

length_taken : (text rest : List ℕ) → length rest ≤ length text → length (take (length text - length rest) text) ≡ length text - length rest
length_taken text rest h = grind (arith, common_steps)

pub is_token_of : (whole text rest : List ℕ) (form : TokenForm) → Runs any_byte whole text → IsLongest form text rest → counted_bytes form (size_of text rest) ≤ most_bytes form → IsTokenOf whole (token_at (length whole) form text rest)
is_token_of whole text rest form d l h =
    let shorter : length rest < length text = form_shorter l.is in
    let inside : length text ≤ length whole = runs_shorter d in
    let same = text_of whole text rest form d (omega arith) in
    record {
      not_empty = omega arith;
      within = omega arith;
      is = subst (λ z. IsForm form z []) (sym same) (form_alone l.is);
      fits = subst (λ n. counted_bytes form n ≤ most_bytes form) (sym (ap length same ∙ length_taken text rest (omega arith))) h;
    }

tokens_from : (whole : List ℕ) {text : List ℕ} {tokens : List Token} → Runs any_byte whole text → CutsInto (length whole) text tokens → All (IsTokenOf whole) tokens
tokens_from whole r nothing_left = All-nil (IsTokenOf whole)
tokens_from whole r (after_gap d c) = tokens_from whole (runs_join r (gap_runs d)) c
tokens_from whole {text} r (after_token (token {form = form} {rest = rest} d e) c) = All-cons (IsTokenOf whole) _ _ (is_token_of whole text rest form r d e) (tokens_from whole (runs_join r (form_runs d.is)) c)

pub cut_of_tokens : (text : List ℕ) (tokens : List Token) → IsCut text tokens → All (IsTokenOf text) tokens
cut_of_tokens text tokens c = tokens_from text stop c
