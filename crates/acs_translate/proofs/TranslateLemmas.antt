-- Which answers of the translator are right.
use Rattle.std.proofs.Common.{◌≡◌, inl, inr, ◌<◌, ◌^◌, ℕ, List, length, refl, ap, sym, ◌∙◌, subst, arith}
use Rattle.std.specs.Prelude.{Some, Ok, Err}
use Rattle.acs_lex.specs.declared.token.Token.{Token}
use Rattle.acs_lex.specs.declared.fault.LexErr.{LexErr}
use Rattle.acs_lex.specs.declared.fault.LexErr.TheVariants as lex
use Rattle.acs_lex.specs.Tokens.{IsCut, InOrder}
use Rattle.desk_common.specs.Exact as answers
use Rattle.acs_lex.specs.LexFault.{IsFirstLexFault}
use Rattle.acs_lex.proofs.CutLemmas.{cut_once, fault_once, never_both}
use Rattle.acs_symbol.specs.declared.symbol.Symbol.{Symbol}
use Rattle.acs_lex.proofs.PlaceLemmas.{cut_in_order}
use Rattle.acs_symbol.specs.Symbols.{symbols_of, AreSymbolsOf}
use Rattle.acs_symbol.proofs.CountLemmas.{count_within}
use Rattle.acs_symbol.proofs.ScanLemmas.{as_many}
use Rattle.acs_parse.specs.declared.fault.ParseErr.{ParseErr}
use Rattle.acs_parse.specs.declared.fault.ParseErr.TheVariants as parse
use Rattle.acs_parse.specs.Grammar.{limited, IsRoutine}
use Rattle.acs_parse.specs.ParseFault.{IsParseFault}
use Rattle.acs_parse.proofs.OneTreeLemmas.{one_tree}
use Rattle.acs_parse.proofs.RoutineLemmas.{no_fault, one_fault}
use Rattle.acs_tree.specs.declared.kind.Kind.{Kind}
use Rattle.acs_tree.specs.declared.check_err.CheckErr.{CheckErr}
use Rattle.acs_tree.specs.declared.routine.Routine.{Routine}
use Rattle.acs_tree.specs.Sound.{IsSound, IsFirstFault}
use Rattle.acs_tree.specs.CheckedRoutine.{CheckedRoutine}
use Rattle.acs_check.proofs.FirstLemmas.{one_first}
use Rattle.acs_translate.specs.declared.fault.RoutineFault.{RoutineFault}
use Rattle.acs_translate.specs.declared.fault.TranslateErr.{TranslateErr}
use Rattle.acs_translate.specs.declared.fault.TranslateErr.TheVariants.{Fault, NoMemory}
use Rattle.acs_translate.specs.Translation.{IsTranslated, lex_err, parse_err, check_fault, IsRoutineFault}
use Rattle.acs_translate.specs.Translation.{in_text, in_tokens, in_tree, MayRefuse, IsExact}

few_tokens : (text : List ℕ) (tokens : List Token) → length text < 2 ^ 32 → InOrder 0 (length text) tokens → length tokens < 2 ^ 32
few_tokens text tokens h d = omega (arith, h, count_within 0 (length text) tokens d)

right : {text : List ℕ} {kind : Kind} {tokens : List Token} {tree : Routine} {checked : CheckedRoutine} {count : ℕ} → IsCut text tokens → IsRoutine limited (symbols_of text tokens) tree
    → IsSound tree kind × (checked ≡ record { tree = tree; kind = kind }) → count ≡ length tokens → IsTranslated text kind checked.tree count × (checked.kind ≡ kind)
right {text} {kind} {tokens} {tree} {checked} {count} c d e f =
    let t : IsTranslated text kind tree count = record { tokens = tokens; cut = c; routine = d; sound = e.0; counted = f } in
    (subst (λ x. IsTranslated text kind x.tree count) (sym e.1) t, ap (λ x. x.kind) e.1)

-- what the scanner may answer to a text, and the parser to tokens

abbrev pub LexMayRefuse : List ℕ → LexErr → Type 0
LexMayRefuse text err = answers.MayRefuse (IsFirstLexFault text) (Some lex.NoMemory) err

abbrev pub ParseMayRefuse : List Symbol → ParseErr → Type 0
ParseMayRefuse ts err = answers.MayRefuse (IsParseFault ts) (Some parse.NoMemory) err

told_lex : (text : List ℕ) (kind : Kind) (err : LexErr) → IsFirstLexFault text err → MayRefuse text kind (lex_err err)
told_lex text kind lex.NoMemory d = tt
told_lex text kind (lex.OpenComment at) d = in_text (lex.OpenComment at) d refl
told_lex text kind (lex.OpenLiteral at) d = in_text (lex.OpenLiteral at) d refl
told_lex text kind (lex.BadByte at) d = in_text (lex.BadByte at) d refl
told_lex text kind (lex.LongWord at) d = in_text (lex.LongWord at) d refl

pub right_lex : (text : List ℕ) (kind : Kind) (err : LexErr) → LexMayRefuse text err → MayRefuse text kind (lex_err err)
right_lex text kind err (inl d) = told_lex text kind err d
right_lex text kind err (inr e) = let same : lex.NoMemory ≡ err = cc in subst (λ x. MayRefuse text kind (lex_err x)) same tt

told_parse : (text : List ℕ) (kind : Kind) (tokens : List Token) (err : ParseErr) → IsCut text tokens → IsParseFault (symbols_of text tokens) err → MayRefuse text kind (parse_err (length tokens) err)
told_parse text kind tokens parse.NoMemory c d = tt
told_parse text kind tokens (parse.Unexpected at) c d = in_tokens tokens (parse.Unexpected at) c d refl
told_parse text kind tokens parse.Ended c d = in_tokens tokens parse.Ended c d refl
told_parse text kind tokens (parse.Deep at) c d = in_tokens tokens (parse.Deep at) c d refl

right_parse_at : (text : List ℕ) (kind : Kind) (tokens : List Token) (err : ParseErr) → IsCut text tokens → ParseMayRefuse (symbols_of text tokens) err → MayRefuse text kind (parse_err (length tokens) err)
right_parse_at text kind tokens err c (inl d) = told_parse text kind tokens err c d
right_parse_at text kind tokens err c (inr e) = let same : parse.NoMemory ≡ err = cc in subst (λ x. MayRefuse text kind (parse_err (length tokens) x)) same tt

right_parse : {text : List ℕ} (kind : Kind) {tokens : List Token} (err : ParseErr) {count : ℕ} → IsCut text tokens → ParseMayRefuse (symbols_of text tokens) err → count ≡ length tokens
    → MayRefuse text kind (parse_err count err)
right_parse {text} kind {tokens} err {count} c d e = subst (λ n. MayRefuse text kind (parse_err n err)) (sym e) (right_parse_at text kind tokens err c d)

right_check : {text : List ℕ} {kind : Kind} {tokens : List Token} {tree : Routine} {err : CheckErr} → IsCut text tokens → IsRoutine limited (symbols_of text tokens) tree → IsFirstFault tree kind err
    → IsRoutineFault text kind (check_fault err)
right_check {tokens = tokens} {tree = tree} {err = err} c d e = in_tree tokens tree err c d e refl

-- the trees and the counts of a text
one_translated : {text : List ℕ} {kind : Kind} {tokens : List Token} {tree other : Routine} {count : ℕ} → IsCut text tokens → IsRoutine limited (symbols_of text tokens) tree → IsTranslated text kind other count
    → (tree ≡ other) × (length tokens ≡ count)
one_translated {text} {kind} {tokens} {tree} {other} {count} c d t =
    let e : tokens ≡ t.tokens = cut_once c t.cut in
    (one_tree (subst (λ x. IsRoutine limited (symbols_of text x) tree) e d) t.routine, ap length e ∙ sym t.counted)

no_parse_fault : {text : List ℕ} {tokens others : List Token} {tree : Routine} {err : ParseErr} → IsCut text tokens → IsRoutine limited (symbols_of text tokens) tree → IsCut text others
    → IsParseFault (symbols_of text others) err → ⊥
no_parse_fault {text} {tokens} {others} {tree} {err} c d e f = no_fault (subst (λ x. IsRoutine limited (symbols_of text x) tree) (cut_once c e) d) f

same_tree : {text : List ℕ} {tokens others : List Token} {tree other : Routine} → IsCut text tokens → IsRoutine limited (symbols_of text tokens) tree → IsCut text others
    → IsRoutine limited (symbols_of text others) other → tree ≡ other
same_tree {text} {tree = tree} c d e f = one_tree (subst (λ x. IsRoutine limited (symbols_of text x) tree) (cut_once c e) d) f

no_both : {text : List ℕ} {kind : Kind} {tree : Routine} {count : ℕ} {fault : RoutineFault} → IsTranslated text kind tree count → IsRoutineFault text kind fault → ⊥
no_both t (in_text err d e) = never_both t.cut d
no_both t (in_tokens tokens err c d e) = no_parse_fault t.cut t.routine c d
no_both {kind = kind} t (in_tree tokens tree err c d f e) =
    let g : IsFirstFault _ kind err = subst (λ x. IsFirstFault x kind err) (sym (same_tree t.cut t.routine c d)) f in
    t.sound err g.met

abbrev inside : RoutineFault → TranslateErr → RoutineFault
inside other (Fault fault) = fault
inside other NoMemory = other

same : {one two : RoutineFault} {x y : TranslateErr} → x ≡ y → x ≡ Fault one → y ≡ Fault two → one ≡ two
same {one} {two} e f g = ap (λ z. inside one z) (sym f ∙ e ∙ g)

one_routine_fault : {text : List ℕ} {kind : Kind} {one two : RoutineFault} → IsRoutineFault text kind one → IsRoutineFault text kind two → one ≡ two
one_routine_fault (in_text err d e) (in_text other f g) = same (ap lex_err (fault_once d f)) e g
one_routine_fault (in_text err d e) (in_tokens tokens other c f g) = absurd (never_both c d)
one_routine_fault (in_text err d e) (in_tree tokens tree other c r f g) = absurd (never_both c d)
one_routine_fault (in_tokens tokens err c d e) (in_text other f g) = absurd (never_both c f)
one_routine_fault {text} (in_tokens tokens err c d e) (in_tokens others other b f g) =
    let q : tokens ≡ others = cut_once c b in
    let h : err ≡ other = one_fault (subst (λ x. IsParseFault (symbols_of text x) err) q d) f in
    same (ap (λ x. parse_err (length x) err) q ∙ ap (λ x. parse_err (length others) x) h) e g
one_routine_fault (in_tokens tokens err c d e) (in_tree others tree other b r f g) = absurd (no_parse_fault b r c d)
one_routine_fault (in_tree tokens tree err c r d e) (in_text other f g) = absurd (never_both c f)
one_routine_fault (in_tree tokens tree err c r d e) (in_tokens others other b f g) = absurd (no_parse_fault c r b f)
one_routine_fault {kind = kind} (in_tree tokens tree err c r d e) (in_tree others leaves other b s f g) =
    let q : tree ≡ leaves = same_tree c r b s in
    let h : err ≡ other = one_first leaves kind err other (subst (λ x. IsFirstFault x kind err) q d) f in
    sym e ∙ ap check_fault h ∙ g

pub exact : {text : List ℕ} {kind : Kind} {tokens : List Token} {tree : Routine} {checked : CheckedRoutine} {count : ℕ} → IsCut text tokens → IsRoutine limited (symbols_of text tokens) tree
    → IsSound tree kind × (checked ≡ record { tree = tree; kind = kind }) → count ≡ length tokens → IsExact text kind (Ok (checked, count))
exact {text} {kind} {tokens} {tree} {checked} {count} c d e f =
    let t : IsTranslated text kind tree count = record { tokens = tokens; cut = c; routine = d; sound = e.0; counted = f } in
    let x : IsExact text kind (Ok (record { tree = tree; kind = kind }, count)) = record {
      routine = λ other n s.
          let q = one_translated c d s in
          inl (ap (λ z. Ok (record { tree = z; kind = kind }, count)) q.0 ∙ ap (λ z. Ok (record { tree = other; kind = kind }, z)) (f ∙ q.1));
      fault = λ fault s. absurd (no_both t s);
    } in
    subst (λ z. IsExact text kind (Ok (z, count))) (sym e.1) x

pub exact_memory : (text : List ℕ) (kind : Kind) → IsExact text kind (Err NoMemory)
exact_memory text kind = record {
  routine = λ tree count s. inr refl;
  fault = λ fault s. inr refl;
}

exact_fault : {text : List ℕ} {kind : Kind} {fault : RoutineFault} → IsRoutineFault text kind fault → IsExact text kind (Err (Fault fault))
exact_fault d = record {
  routine = λ tree count s. absurd (no_both s d);
  fault = λ other s. inl (ap (λ x. Err (Fault x)) (one_routine_fault d s));
}

exact_err : (text : List ℕ) (kind : Kind) (err : TranslateErr) → MayRefuse text kind err → IsExact text kind (Err err)
exact_err text kind (Fault fault) d = exact_fault d
exact_err text kind NoMemory d = exact_memory text kind

pub exact_lex : (text : List ℕ) (kind : Kind) (err : LexErr) → LexMayRefuse text err → IsExact text kind (Err (lex_err err))
exact_lex text kind err d = exact_err text kind (lex_err err) (right_lex text kind err d)

pub exact_parse : {text : List ℕ} (kind : Kind) {tokens : List Token} (err : ParseErr) {count : ℕ} → IsCut text tokens → ParseMayRefuse (symbols_of text tokens) err → count ≡ length tokens
    → IsExact text kind (Err (parse_err count err))
exact_parse {text} kind err {count} c d e = exact_err text kind (parse_err count err) (right_parse kind err c d e)

pub exact_check : {text : List ℕ} {kind : Kind} {tokens : List Token} {tree : Routine} {err : CheckErr} → IsCut text tokens → IsRoutine limited (symbols_of text tokens) tree → IsFirstFault tree kind err
    → IsExact text kind (Err (Fault (check_fault err)))
exact_check c d e = exact_fault (right_check c d e)

-- the same of the tokens as they are read with their texts

few_at : (text : List ℕ) (symbols : List Symbol) → length text < 2 ^ 32 → (s : AreSymbolsOf text symbols) → length s.0 < 2 ^ 32
few_at text symbols h s = few_tokens text s.0 h (cut_in_order text s.0 s.1)

pub few_symbols : (text : List ℕ) (symbols : List Symbol) → length text < 2 ^ 32 → AreSymbolsOf text symbols → length symbols < 2 ^ 32
few_symbols text symbols h s = omega (arith, few_at text symbols h s, as_many s)

tree_of : {text : List ℕ} {symbols : List Symbol} {tree : Routine} (s : AreSymbolsOf text symbols) → IsRoutine limited symbols tree → IsRoutine limited (symbols_of text s.0) tree
tree_of {tree = tree} s d = subst (λ z. IsRoutine limited z tree) s.2 d

refusal_of : {text : List ℕ} {symbols : List Symbol} {err : ParseErr} (s : AreSymbolsOf text symbols) → ParseMayRefuse symbols err → ParseMayRefuse (symbols_of text s.0) err
refusal_of {err = err} s d = subst (λ z. ParseMayRefuse z err) s.2 d

pub read_right : {text : List ℕ} {kind : Kind} {symbols : List Symbol} {tree : Routine} {checked : CheckedRoutine} {count : ℕ} → AreSymbolsOf text symbols → IsRoutine limited symbols tree
    → IsSound tree kind × (checked ≡ record { tree = tree; kind = kind }) → count ≡ length symbols → IsTranslated text kind checked.tree count × (checked.kind ≡ kind)
read_right s d e f = right s.1 (tree_of s d) e (f ∙ as_many s)

pub read_parse : {text : List ℕ} (kind : Kind) {symbols : List Symbol} (err : ParseErr) {count : ℕ} → AreSymbolsOf text symbols → ParseMayRefuse symbols err → count ≡ length symbols
    → MayRefuse text kind (parse_err count err)
read_parse kind err s d e = right_parse kind err s.1 (refusal_of s d) (e ∙ as_many s)

pub read_check : {text : List ℕ} {kind : Kind} {symbols : List Symbol} {tree : Routine} {err : CheckErr} → AreSymbolsOf text symbols → IsRoutine limited symbols tree → IsFirstFault tree kind err
    → IsRoutineFault text kind (check_fault err)
read_check s d e = right_check s.1 (tree_of s d) e

pub exact_read : {text : List ℕ} {kind : Kind} {symbols : List Symbol} {tree : Routine} {checked : CheckedRoutine} {count : ℕ} → AreSymbolsOf text symbols → IsRoutine limited symbols tree
    → IsSound tree kind × (checked ≡ record { tree = tree; kind = kind }) → count ≡ length symbols → IsExact text kind (Ok (checked, count))
exact_read s d e f = exact s.1 (tree_of s d) e (f ∙ as_many s)

pub exact_read_parse : {text : List ℕ} (kind : Kind) {symbols : List Symbol} (err : ParseErr) {count : ℕ} → AreSymbolsOf text symbols → ParseMayRefuse symbols err → count ≡ length symbols
    → IsExact text kind (Err (parse_err count err))
exact_read_parse kind err s d e = exact_parse kind err s.1 (refusal_of s d) (e ∙ as_many s)

pub exact_read_check : {text : List ℕ} {kind : Kind} {symbols : List Symbol} {tree : Routine} {err : CheckErr} → AreSymbolsOf text symbols → IsRoutine limited symbols tree → IsFirstFault tree kind err
    → IsExact text kind (Err (Fault (check_fault err)))
exact_read_check s d e = exact_check s.1 (tree_of s d) e

-- what translating needs of these
pub ruleset translate_steps = (read_right, right_lex, read_parse, read_check, exact_read, exact_lex, exact_read_parse, exact_read_check)
