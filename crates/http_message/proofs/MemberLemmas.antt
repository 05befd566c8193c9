-- Objects of one member, as they are written and read.
use Rattle.std.proofs.Common.{◌≡◌, ◌<◌, ℕ, zero, suc, true, List, [], ◌∷◌, ◌++◌, length, get_or, take, drop, None, Some}
use Rattle.std.proofs.Common.{refl, sym, ap, ◌∙◌, subst, append-nil, arith}
use Rattle.std.specs.Prelude.{◌&&◌, IsUtf8, Option, is_some, unwrap_or, option_and_then, if◌then◌else◌}
use Rattle.json.specs.Token.{Token}
use Rattle.json.specs.Lex.{tokens}
use Rattle.json.specs.Json.{Json, if_last, value}
use Rattle.json.specs.Print.{escape, escape_byte}
use Rattle.json.specs.Tree.{json_tokens}
use Rattle.json.proofs.Printed.Tokens.{tokens-print}
use Rattle.json.proofs.Printed.Trees.{ArePrintable-json_tokens, value-json_tokens}
use Rattle.serde_json.specs.Data.{Data, object, member, no_members, string}
use Rattle.serde_json.specs.Find.{as_object}
use Rattle.serde_json.specs.Read.{of_json, read}
use Rattle.serde_json.specs.Written.{compact_text, outline}
use Rattle.serde_json.proofs.Texts.{print-outline}
use Rattle.sms_script.specs.Found.{◌⊳◌}
use Rattle.http_message.specs.Operands.{body_operands, key_of, operand_of, operands_of}
use Rattle.http_message.proofs.Utf8Lemmas.{json_is}

-- the object of one member with a text
abbrev one : List ℕ → List ℕ → Data
one key text = object (member key (string text) no_members)

-- the value, where nothing is left behind it
abbrev whole : Option (Json × List Token) → Option Data
whole found = option_and_then of_json (option_and_then (λ p. if_last p.0 p.1) found)

-- its text is read as it
read_one : (key text : List ℕ) → read (compact_text (one key text)) ≡ Some (one key text)
read_one key text =
    let tree = outline (one key text) in
    let printed = ap tokens (sym (print-outline (one key text))) ∙ tokens-print (json_tokens tree) (ArePrintable-json_tokens tree (tt, tt)) in
    ap whole (ap (value 127) (printed ∙ sym (append-nil (json_tokens tree))) ∙ value-json_tokens tree 127 [] (omega arith))

-- bytes that stand for themselves, before a quote
pub quote_at : (text : List ℕ) (n : ℕ) → ((k : ℕ) → k < n → escape_byte (get_or text k 0) ≡ get_or text k 0 ∷ []) → n < length text
    → get_or text n 0 ≡ 34 → text ≡ escape (take n text) ++ 34 ∷ drop (suc n) text
quote_at [] n before less found = absurd (omega (arith, less))
quote_at (x ∷ xs) zero before less found = ap (λ b. b ∷ xs) found
quote_at (x ∷ xs) (suc n) before less found =
    let rest = quote_at xs n (λ k l. before (suc k) (omega arith)) (omega (arith, less)) found in
    rw (before 0 (omega arith)) (ap (λ l. x ∷ l) rest)

-- the operands of one member are that of it
operands_one : (o : Option (List ℕ)) → (if is_some o && true then Some (unwrap_or o [] ++ []) else None) ≡ o
operands_one None = refl
operands_one (Some l) = ap Some (append-nil l)

-- its operand is that of its member
pub one_operand : (body key text : List ℕ) → body ≡ compact_text (one key text) → IsUtf8 body → operand_of (key_of key) (string text) ≡ body_operands body
one_operand body key text is utf8 =
    sym (operands_one (operand_of (key_of key) (string text)))
    ∙ ap (λ o. (o ⊳ as_object) ⊳ operands_of) (json_is (compact_text (one key text)) (Some (one key text)) (subst IsUtf8 is utf8) (read_one key text))
    ∙ sym (ap body_operands is)
