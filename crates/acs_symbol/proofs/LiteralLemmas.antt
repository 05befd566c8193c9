-- What stands between the quotes of a literal.
use Rattle.std.proofs.Common.{◌≡◌, ◌≤◌, ◌+◌, ◌-◌, ℕ, true, List, [], ◌∷◌, length, take, sym, subst, arith}
use Rattle.std.specs.List.{AllPass}
use Rattle.std.proofs.lemmas.Grind.{common_steps}
use Rattle.std.proofs.lemmas.Bool.Decides.{nat_tests}
use Rattle.std.proofs.lemmas.List.Elements.{All-nil, All-cons}
use Rattle.desk_common.specs.Limits.{most_literal_bytes}
use Rattle.dsn_mask.specs.Name.{is_literal_byte, IsLiteral}
use Rattle.acs_lex.specs.declared.token.TokenForm.TheVariants.{Literal}
use Rattle.acs_lex.specs.Lexical.{Runs, stop, on, is_quotable, IsForm, literal}
use Rattle.acs_lex.proofs.RunLemmas.{runs_shorter}
use Rattle.acs_symbol.specs.Symbols.{unquoted}

quotable_is_literal : (b : ℕ) → is_quotable b ≡ true → is_literal_byte b ≡ true
quotable_is_literal b e = grind (arith, nat_tests)

take_none : (xs : List ℕ) → take (length xs - length xs) xs ≡ []
take_none xs = grind (arith, common_steps)

take_cons : (n b : ℕ) (bytes : List ℕ) → n ≤ length bytes → take (length (b ∷ bytes) - n) (b ∷ bytes) ≡ b ∷ take (length bytes - n) bytes
take_cons n b bytes h = grind (arith, common_steps)

-- the bytes of a run may stand in a literal
run_passes : {bytes rest : List ℕ} → Runs is_quotable bytes rest → AllPass is_literal_byte (take (length bytes - length rest) bytes)
run_passes {rest = rest} stop = subst (λ z. AllPass is_literal_byte z) (sym (take_none rest)) (All-nil (λ b. is_literal_byte b ≡ true))
run_passes {rest = rest} (on {b = b} {bytes = bytes} e d) =
    subst (λ z. AllPass is_literal_byte z) (sym (take_cons (length rest) b bytes (runs_shorter d)))
    (All-cons (λ b. is_literal_byte b ≡ true) _ _ (quotable_is_literal b e) (run_passes d))

unquoted_cons : (a : ℕ) (bytes : List ℕ) → unquoted (a ∷ bytes) ≡ take (length bytes - 1) bytes
unquoted_cons a bytes = grind (arith, common_steps)

length_taken : (n : ℕ) (bytes : List ℕ) → length (take (length bytes - n) bytes) ≤ length bytes - n
length_taken n bytes = grind (arith, common_steps)

-- a literal has two quotes
pub two_quotes : {text : List ℕ} → IsForm Literal text [] → 2 ≤ length text
two_quotes (literal e d k) = omega (arith, runs_shorter d)

-- what is between them is a literal's text
pub unquoted_is_literal : {text : List ℕ} → IsForm Literal text [] → length text ≤ most_literal_bytes + 2 → IsLiteral (unquoted text)
unquoted_is_literal (literal {a = a} {b = b} {bytes = bytes} e d k) h =
    subst (λ z. IsLiteral z) (sym (unquoted_cons a bytes)) (omega (arith, length_taken 1 bytes), run_passes d)
