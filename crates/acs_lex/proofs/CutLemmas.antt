-- A text has a cut or a fault, never both, and at most one of each.
use Rattle.std.proofs.Common.{◌≡◌, ◌<◌, ℕ, zero, suc, true, List, [], ◌∷◌, ◌++◌, length, refl, sym, ◌∙◌, ap, subst, arith}
use Rattle.std.proofs.Common.{append_assoc, inl, inr, ◌⊎◌}
use Rattle.std.specs.Prelude.{Some, Result, Ok, Err}
use Rattle.acs_lex.specs.declared.token.Token.{Token}
use Rattle.acs_lex.specs.declared.fault.LexErr.{LexErr}
use Rattle.acs_lex.specs.declared.fault.LexErr.TheVariants.{NoMemory}
use Rattle.acs_lex.specs.declared.piece.Piece.{Piece}
use Rattle.acs_lex.specs.declared.piece.Piece.TheVariants as piece
use Rattle.acs_lex.specs.Pieces.{IsPiece}
use Rattle.acs_lex.specs.Lexical.{IsGap, blank, is_blank}
use Rattle.acs_lex.specs.Tokens.{IsToken, CutsInto, nothing_left, after_gap, after_token, IsCut}
use Rattle.desk_common.specs.Exact.{MayRefuse, IsExact}
use Rattle.desk_common.proofs.ExactLemmas.{exact_thing, exact_fault as exact_refusal, exact_want}
use Rattle.acs_lex.specs.LexFault.{StopsBy, FirstStopsBy, here, behind_gap, behind_token, IsFirstLexFault}
use Rattle.acs_lex.specs.Inner.Scanning.{Front, Ends, Skips, Takes, Fails, front, front_of}
use Rattle.acs_lex.proofs.FrontLemmas.{Stands, front_stands}
use Rattle.acs_lex.proofs.OneFrontLemmas.{stands_front, gap_shorter, token_shorter}

-- one thing stands at the front of a text

one_front : (total : ℕ) (text : List ℕ) (x y : Front) → Stands total text x → Stands total text y → x ≡ y
one_front total text x y d e = stands_front total text x d ∙ sym (stands_front total text y e)

one_gap : {text a b : List ℕ} → IsGap text a → IsGap text b → a ≡ b
one_gap {text} {a} {b} d e = let same : Skips a ≡ Skips b = one_front 0 text (Skips a) (Skips b) d e in cc

one_rest : {total : ℕ} {text a b : List ℕ} {one two : Token} → IsToken total text one a → IsToken total text two b → a ≡ b
one_rest {total} {text} {a} {b} {one} {two} d e = let same : Takes one a ≡ Takes two b = one_front total text (Takes one a) (Takes two b) d e in cc

one_token : {total : ℕ} {text a b : List ℕ} {one two : Token} → IsToken total text one a → IsToken total text two b → one ≡ two
one_token {total} {text} {a} {b} {one} {two} d e = let same : Takes one a ≡ Takes two b = one_front total text (Takes one a) (Takes two b) d e in cc

one_fault : {total : ℕ} {text : List ℕ} {one two : LexErr} → StopsBy total text one → StopsBy total text two → one ≡ two
one_fault {total} {text} {one} {two} d e = let same : Fails one ≡ Fails two = one_front total text (Fails one) (Fails two) d e in cc

end_gap : {A : Type 0} {a : List ℕ} → IsGap [] a → A
end_gap {A} {a} d = let same : Ends ≡ Skips a = one_front 0 [] Ends (Skips a) refl d in absurd (cc)

end_token : {A : Type 0} {total : ℕ} {a : List ℕ} {one : Token} → IsToken total [] one a → A
end_token {A} {total} {a} {one} d = let same : Ends ≡ Takes one a = one_front total [] Ends (Takes one a) refl d in absurd (cc)

end_fault : {A : Type 0} {total : ℕ} {err : LexErr} → StopsBy total [] err → A
end_fault {A} {total} {err} d = let same : Ends ≡ Fails err = one_front total [] Ends (Fails err) refl d in absurd (cc)

gap_token : {A : Type 0} {total : ℕ} {text a b : List ℕ} {one : Token} → IsGap text a → IsToken total text one b → A
gap_token {A} {total} {text} {a} {b} {one} d e = let same : Skips a ≡ Takes one b = one_front total text (Skips a) (Takes one b) d e in absurd (cc)

gap_fault : {A : Type 0} {total : ℕ} {text a : List ℕ} {err : LexErr} → IsGap text a → StopsBy total text err → A
gap_fault {A} {total} {text} {a} {err} d e = let same : Skips a ≡ Fails err = one_front total text (Skips a) (Fails err) d e in absurd (cc)

token_fault : {A : Type 0} {total : ℕ} {text a : List ℕ} {one : Token} {err : LexErr} → IsToken total text one a → StopsBy total text err → A
token_fault {A} {total} {text} {a} {one} {err} d e = let same : Takes one a ≡ Fails err = one_front total text (Takes one a) (Fails err) d e in absurd (cc)

-- along a text

cut_along : {total : ℕ} {a b : List ℕ} {tokens : List Token} → a ≡ b → CutsInto total b tokens → CutsInto total a tokens
cut_along {total} {a} {b} {tokens} e d = subst (λ z. CutsInto total z tokens) (sym e) d

fault_along : {total : ℕ} {a b : List ℕ} {err : LexErr} → a ≡ b → FirstStopsBy total b err → FirstStopsBy total a err
fault_along {total} {a} {b} {err} e d = subst (λ z. FirstStopsBy total z err) (sym e) d

pub cut_once : {total : ℕ} {text : List ℕ} {ones twos : List Token} → CutsInto total text ones → CutsInto total text twos → ones ≡ twos
cut_once nothing_left nothing_left = refl
cut_once nothing_left (after_gap e d) = end_gap e
cut_once nothing_left (after_token e d) = end_token e
cut_once (after_gap s c) nothing_left = end_gap s
cut_once (after_gap s c) (after_gap e d) = cut_once c (cut_along (one_gap s e) d)
cut_once (after_gap s c) (after_token e d) = gap_token s e
cut_once (after_token s c) nothing_left = end_token s
cut_once (after_token s c) (after_gap e d) = gap_token e s
cut_once (after_token s c) (after_token e d) =
    let first = one_token s e in
    let others = cut_once c (cut_along (one_rest s e) d) in
    cc

pub never_both : {total : ℕ} {text : List ℕ} {tokens : List Token} {err : LexErr} → CutsInto total text tokens → FirstStopsBy total text err → ⊥
never_both nothing_left (here e) = end_fault e
never_both nothing_left (behind_gap e d) = end_gap e
never_both nothing_left (behind_token e d) = end_token e
never_both (after_gap s c) (here e) = gap_fault s e
never_both (after_gap s c) (behind_gap e d) = never_both c (fault_along (one_gap s e) d)
never_both (after_gap s c) (behind_token e d) = gap_token s e
never_both (after_token s c) (here e) = token_fault s e
never_both (after_token s c) (behind_gap e d) = gap_token e s
never_both (after_token s c) (behind_token e d) = never_both c (fault_along (one_rest s e) d)

pub fault_once : {total : ℕ} {text : List ℕ} {one two : LexErr} → FirstStopsBy total text one → FirstStopsBy total text two → one ≡ two
fault_once (here s) (here e) = one_fault s e
fault_once (here s) (behind_gap e d) = gap_fault e s
fault_once (here s) (behind_token e d) = token_fault e s
fault_once (behind_gap s c) (here e) = gap_fault s e
fault_once (behind_gap s c) (behind_gap e d) = fault_once c (fault_along (one_gap s e) d)
fault_once (behind_gap s c) (behind_token e d) = gap_token s e
fault_once (behind_token s c) (here e) = token_fault s e
fault_once (behind_token s c) (behind_gap e d) = gap_token e s
fault_once (behind_token s c) (behind_token e d) = fault_once c (fault_along (one_rest s e) d)

-- each text has one of the two

abbrev pub CutOrFault : ℕ → List ℕ → Type 0
CutOrFault total text = ((tokens : List Token) × CutsInto total text tokens) ⊎ ((err : LexErr) × FirstStopsBy total text err)

either_gap : {total : ℕ} {text rest : List ℕ} → IsGap text rest → CutOrFault total rest → CutOrFault total text
either_gap s (inl d) = inl (d.0, after_gap s d.1)
either_gap s (inr d) = inr (d.0, behind_gap s d.1)

either_token : {total : ℕ} {text rest : List ℕ} {one : Token} → IsToken total text one rest → CutOrFault total rest → CutOrFault total text
either_token {one = one} s (inl d) = inl (one ∷ d.0, after_token s d.1)
either_token s (inr d) = inr (d.0, behind_token s d.1)

either_end : {total : ℕ} {text : List ℕ} → text ≡ [] → CutOrFault total text
either_end {total} {text} e = inl ([], cut_along e nothing_left)

either_within : (bound total : ℕ) (text : List ℕ) (x : Front) → length text < bound → Stands total text x → CutOrFault total text
either_within zero total text x h s = absurd (omega arith)
either_within (suc n) total text Ends h s = either_end s
either_within (suc n) total text (Skips rest) h s = either_gap s (either_within n total rest (front total rest) (omega (arith, gap_shorter s)) (front_stands total rest))
either_within (suc n) total text (Takes one rest) h s = either_token s (either_within n total rest (front total rest) (omega (arith, token_shorter s)) (front_stands total rest))
either_within (suc n) total text (Fails err) h s = inr (err, here s)

pub cut_or_fault : (total : ℕ) (text : List ℕ) → CutOrFault total text
cut_or_fault total text = either_within (suc (length text)) total text (front total text) (omega arith) (front_stands total text)

-- what holds of a text while its front is cut

pub record FrontCut (total : ℕ) (text rest : List ℕ) (tokens : List Token) : Type 0 where
  pub cut : (others : List Token) → CutsInto total rest others → CutsInto total text (tokens ++ others)
  pub fault : (err : LexErr) → FirstStopsBy total rest err → FirstStopsBy total text err

stands_as : (total : ℕ) (text : List ℕ) (x : Front) → x ≡ front total text → Stands total text x
stands_as total text x e = subst (λ z. Stands total text z) (sym e) (front_stands total text)

-- the value that the code hands on is what stands there
pub is_piece : (total : ℕ) (text : List ℕ) (found : Piece) → front_of found ≡ front total text → IsPiece total text found
is_piece total text (piece.Gap rest) e = stands_as total text (Skips rest.now) e
is_piece total text (piece.Token one rest) e = stands_as total text (Takes one rest.now) e
is_piece total text (piece.Fault err) e = stands_as total text (Fails err) e

-- a blank at the front is passed
pub cut_past_blank : {total a : ℕ} {text rest left : List ℕ} {tokens : List Token} → FrontCut total text rest tokens → rest ≡ a ∷ left → is_blank a ≡ true → FrontCut total text left tokens
cut_past_blank {total} {a} {text} {rest} {left} {tokens} t e h = record {
  cut = λ others d. t.cut others (after_gap (subst (λ z. IsGap z left) (sym e) (blank h)) d);
  fault = λ err d. t.fault err (behind_gap (subst (λ z. IsGap z left) (sym e) (blank h)) d);
}

pub cut_past_gap : {total : ℕ} {text rest left : List ℕ} {tokens : List Token} → FrontCut total text rest tokens → Skips left ≡ front total rest → FrontCut total text left tokens
cut_past_gap {total} {text} {rest} {left} t e = record {
  cut = λ others d. t.cut others (after_gap (stands_as total rest (Skips left) e) d);
  fault = λ err d. t.fault err (behind_gap (stands_as total rest (Skips left) e) d);
}

cut_past_one : {total : ℕ} {text rest left : List ℕ} {tokens : List Token} {one : Token} → FrontCut total text rest tokens → Takes one left ≡ front total rest → FrontCut total text left (tokens ++ one ∷ [])
cut_past_one {total} {text} {rest} {left} {tokens} {one} t e = record {
  cut = λ others d. subst (λ z. CutsInto total text z) (sym (append_assoc tokens (one ∷ []) others)) (t.cut (one ∷ others) (after_token (stands_as total rest (Takes one left) e) d));
  fault = λ err d. t.fault err (behind_token (stands_as total rest (Takes one left) e) d);
}

pub cut_past_token : {total : ℕ} {text rest left : List ℕ} {tokens more : List Token} {one : Token} → FrontCut total text rest tokens → Takes one left ≡ front total rest → more ≡ tokens ++ one ∷ [] → FrontCut total text left more
cut_past_token {total} {text} {left = left} t e h = subst (λ z. FrontCut total text left z) (sym h) (cut_past_one t e)

empty_right : (xs : List Token) → xs ++ [] ≡ xs
empty_right [] = refl
empty_right (x ∷ xs) = ap (λ z. x ∷ z) (empty_right xs)

pub cut_at_end : {total : ℕ} {text rest : List ℕ} {tokens : List Token} → FrontCut total text rest tokens → rest ≡ [] → CutsInto total text tokens
cut_at_end {total} {text} {rest} {tokens} t e = subst (λ z. CutsInto total text z) (empty_right tokens) (t.cut [] (cut_along e nothing_left))

pub fault_at : {total : ℕ} {text rest : List ℕ} {tokens : List Token} {err : LexErr} → FrontCut total text rest tokens → Fails err ≡ front total rest → FirstStopsBy total text err
fault_at {total} {text} {rest} {tokens} {err} t e = t.fault err (here (stands_as total rest (Fails err) e))

pub gap_less : (total : ℕ) (rest left : List ℕ) → Skips left ≡ front total rest → length left < length rest
gap_less total rest left e = gap_shorter (stands_as total rest (Skips left) e)

pub token_less : (total : ℕ) (rest left : List ℕ) (one : Token) → Takes one left ≡ front total rest → length left < length rest
token_less total rest left one e = token_shorter {text = rest} {rest = left} {one = one} (stands_as total rest (Takes one left) e)

pub may_refuse : (text : List ℕ) (err : LexErr) → IsFirstLexFault text err → MayRefuse (IsFirstLexFault text) (Some NoMemory) err
may_refuse text err d = inl d

-- the answer is exact
abbrev pub IsAnswer : List ℕ → Result (List Token) LexErr → Type 0
IsAnswer text result = IsExact (IsCut text) (IsFirstLexFault text) (Some NoMemory) result

pub exact_tokens : (text : List ℕ) (tokens : List Token) → IsCut text tokens → IsAnswer text (Ok tokens)
exact_tokens text tokens a = exact_thing (λ other d. cut_once a d) (λ err d. never_both a d)

pub exact_fault : (text : List ℕ) (err : LexErr) → IsFirstLexFault text err → IsAnswer text (Err err)
exact_fault text err a = exact_refusal (λ made d. never_both d a) (λ other d. fault_once a d)

pub want_is_exact : (text : List ℕ) → IsAnswer text (Err NoMemory)
want_is_exact text = exact_want
