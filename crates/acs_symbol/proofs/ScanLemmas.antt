-- What is read of a text's tokens while its front is cut.
use Rattle.std.proofs.Common.{◌≡◌, ℕ, suc, true, List, [], ◌∷◌, ◌++◌, length, refl, sym, ◌∙◌, ap, subst, inl}
use Rattle.std.specs.Prelude.{Some, Result, Ok, Err}
use Rattle.desk_common.specs.Exact.{MayRefuse, IsExact}
use Rattle.desk_common.proofs.ExactLemmas.{exact_thing, exact_fault as exact_refusal, exact_want}
use Rattle.acs_lex.specs.declared.token.Token.{Token}
use Rattle.acs_lex.specs.declared.fault.LexErr.{LexErr}
use Rattle.acs_lex.specs.declared.fault.LexErr.TheVariants.{NoMemory}
use Rattle.acs_lex.specs.Lexical.{Runs, stop, IsGap, blank, is_blank}
use Rattle.acs_lex.specs.Tokens.{IsToken, token, CutsInto, after_gap, after_token, IsTokenOf}
use Rattle.acs_lex.specs.LexFault.{StopsBy, here, behind_gap, behind_token, IsFirstLexFault}
use Rattle.acs_lex.proofs.CutLemmas.{FrontCut, cut_at_end, cut_once, fault_once, never_both}
use Rattle.acs_lex.proofs.PlaceLemmas.{any_byte, runs_join, form_runs, gap_runs, is_token_of}
use Rattle.acs_symbol.specs.declared.symbol.Symbol.{Symbol}
use Rattle.acs_symbol.specs.Symbols.{symbol_of, symbols_of, AreSymbolsOf}

-- the front of the text up to here is cut, and these are its tokens with their texts
pub record FrontRead (text rest : List ℕ) (symbols : List Symbol) : Type 0 where
  pub tokens : List Token
  pub cut : FrontCut (length text) text rest tokens
  pub behind : Runs any_byte text rest
  pub same : symbols ≡ symbols_of text tokens

pub none_read : (text : List ℕ) (symbols : List Symbol) → symbols ≡ [] → FrontRead text text symbols
none_read text symbols e = record {
  tokens = [];
  cut = record { cut = λ others d. d; fault = λ err d. d };
  behind = stop;
  same = e;
}

pub read_past_gap : {text rest left : List ℕ} {symbols : List Symbol} → FrontRead text rest symbols → IsGap rest left → FrontRead text left symbols
read_past_gap t g = record {
  tokens = t.tokens;
  cut = record { cut = λ others d. t.cut.cut others (after_gap g d); fault = λ err d. t.cut.fault err (behind_gap g d) };
  behind = runs_join t.behind (gap_runs g);
  same = t.same;
}

pub read_past_blank : {a : ℕ} {text rest left : List ℕ} {symbols : List Symbol} → FrontRead text rest symbols → rest ≡ a ∷ left → is_blank a ≡ true → FrontRead text left symbols
read_past_blank {left = left} t e h = read_past_gap t (subst (λ z. IsGap z left) (sym e) (blank h))

runs_past : {total : ℕ} {rest left : List ℕ} {one : Token} → IsToken total rest one left → Runs any_byte rest left
runs_past (token d e) = form_runs d.is

is_of : (text : List ℕ) {rest left : List ℕ} {one : Token} → Runs any_byte text rest → IsToken (length text) rest one left → IsTokenOf text one
is_of text {rest} r (token {form = form} {rest = left} d e) = is_token_of text rest left form r d e

pub token_read : {text rest left : List ℕ} {symbols : List Symbol} {one : Token} → FrontRead text rest symbols → IsToken (length text) rest one left → IsTokenOf text one
token_read {text} t d = is_of text t.behind d

one_more : (text : List ℕ) (tokens : List Token) (one : Token) → symbols_of text tokens ++ symbol_of text one ∷ [] ≡ symbols_of text (tokens ++ one ∷ [])
one_more text [] one = refl
one_more text (first ∷ tokens) one = ap (λ symbols. symbol_of text first ∷ symbols) (one_more text tokens one)

join_one : (tokens : List Token) (one : Token) (others : List Token) → (tokens ++ one ∷ []) ++ others ≡ tokens ++ one ∷ others
join_one [] one others = refl
join_one (first ∷ tokens) one others = ap (λ all. first ∷ all) (join_one tokens one others)

pub read_past_token : {text rest left : List ℕ} {symbols more : List Symbol} {symbol : Symbol} {one : Token} → FrontRead text rest symbols → IsToken (length text) rest one left
    → symbol ≡ symbol_of text one → more ≡ symbols ++ symbol ∷ [] → FrontRead text left more
read_past_token {text} {rest} {left} {symbols} {more} {symbol} {one} t d e h = record {
  tokens = t.tokens ++ one ∷ [];
  cut = record {
    cut = λ others c. subst (λ z. CutsInto (length text) text z) (sym (join_one t.tokens one others)) (t.cut.cut (one ∷ others) (after_token d c));
    fault = λ err c. t.cut.fault err (behind_token d c);
  };
  behind = runs_join t.behind (runs_past d);
  same = h ∙ ap (λ z. z ++ symbol ∷ []) t.same ∙ ap (λ z. symbols_of text t.tokens ++ z ∷ []) e ∙ one_more text t.tokens one;
}

pub all_read : {text rest : List ℕ} {symbols : List Symbol} → FrontRead text rest symbols → rest ≡ [] → AreSymbolsOf text symbols
all_read t e = (t.tokens, cut_at_end t.cut e, t.same)

pub stopped_at : {text rest : List ℕ} {symbols : List Symbol} {err : LexErr} → FrontRead text rest symbols → StopsBy (length text) rest err → IsFirstLexFault text err
stopped_at {err = err} t d = t.cut.fault err (here d)

pub may_stop : {text rest : List ℕ} {symbols : List Symbol} {err : LexErr} → FrontRead text rest symbols → StopsBy (length text) rest err → MayRefuse (IsFirstLexFault text) (Some NoMemory) err
may_stop t d = inl (stopped_at t d)

-- the answer is exact
abbrev pub IsAnswer : List ℕ → Result (List Symbol) LexErr → Type 0
IsAnswer text result = IsExact (AreSymbolsOf text) (IsFirstLexFault text) (Some NoMemory) result

one_list : {text : List ℕ} {ones twos : List Symbol} → AreSymbolsOf text ones → AreSymbolsOf text twos → ones ≡ twos
one_list {text} a b = a.2 ∙ ap (λ tokens. symbols_of text tokens) (cut_once a.1 b.1) ∙ sym b.2

pub exact_symbols : {text rest : List ℕ} {symbols : List Symbol} → FrontRead text rest symbols → rest ≡ [] → IsAnswer text (Ok symbols)
exact_symbols t e =
    let all = all_read t e in
    exact_thing (λ other d. one_list all d) (λ err d. never_both all.1 d)

pub exact_stop : {text rest : List ℕ} {symbols : List Symbol} {err : LexErr} → FrontRead text rest symbols → StopsBy (length text) rest err → IsAnswer text (Err err)
exact_stop t d =
    let a = stopped_at t d in
    exact_refusal (λ made m. never_both m.1 a) (λ other f. fault_once a f)

pub want_is_exact : (text : List ℕ) → IsAnswer text (Err NoMemory)
want_is_exact text = exact_want

-- as many symbols as tokens
length_of : (text : List ℕ) (tokens : List Token) → length (symbols_of text tokens) ≡ length tokens
length_of text [] = refl
length_of text (one ∷ tokens) = ap suc (length_of text tokens)

pub as_many : {text : List ℕ} {symbols : List Symbol} (s : AreSymbolsOf text symbols) → length symbols ≡ length s.0
as_many {text} s = ap length s.2 ∙ length_of text s.0

pub ruleset read_steps = (none_read, want_is_exact)
