-- The tokens of a text as the grammar reads them (docs/manual/acs-language.md, Grammar).
use Rattle.std.specs.Prelude.{◌≡◌, ◌-◌, ℕ, List, [], ◌∷◌, length, map, codes, slice_range, if◌then◌else◌}
use Rattle.std.specs.List.{list_all}
use Rattle.std.specs.Str.{bytes_eq}
use Rattle.dsn_mask.specs.Name.{is_digit}
use Rattle.acs_lex.specs.declared.token.TokenForm.{TokenForm}
use Rattle.acs_lex.specs.declared.token.TokenForm.TheVariants as token_form
use Rattle.acs_lex.specs.declared.token.Token.{Token}
use Rattle.acs_lex.specs.Tokens.{IsCut, token_text, upper_text}
use Rattle.acs_tree.specs.declared.routine.Compare.TheVariants.{Eq, Ne, Gt, Lt, Ge, Le, Ng, Nl}
use Rattle.acs_symbol.specs.declared.symbol.WordKind.{WordKind}
use Rattle.acs_symbol.specs.declared.symbol.WordKind.TheVariants as word
use Rattle.acs_symbol.specs.declared.symbol.Symbol.{Symbol}
use Rattle.acs_symbol.specs.declared.symbol.Symbol.TheVariants.{Word, Variable, Literal, AndSign, OrSign, Open, Close}
use Rattle.acs_symbol.specs.declared.symbol.Symbol.TheVariants.{Comma, Operator}

-- the words that begin a statement, and those of a routine's frame
abbrev pub outer_words : List (List ℕ × WordKind)
outer_words =
    (codes "PROC", word.Proc) ∷ (codes "END", word.End) ∷ (codes "FILTLIST", word.FiltList) ∷
    (codes "SET", word.Set) ∷ (codes "IF", word.If) ∷ (codes "SELECT", word.Select) ∷
    (codes "DO", word.Do) ∷ (codes "WRITE", word.Write) ∷ (codes "EXIT", word.Exit) ∷ []

-- the words that stand inside a statement
abbrev pub inner_words : List (List ℕ × WordKind)
inner_words =
    (codes "THEN", word.Then) ∷ (codes "ELSE", word.Else) ∷
    (codes "WHEN", word.When) ∷ (codes "OTHERWISE", word.Otherwise) ∷
    (codes "INCLUDE", word.Include) ∷ (codes "EXCLUDE", word.Exclude) ∷ (codes "CODE", word.Code) ∷
    (codes "AND", word.And) ∷ (codes "OR", word.Or) ∷ []

-- the words that compare
abbrev pub comparisons : List (List ℕ × WordKind)
comparisons =
    (codes "EQ", word.Compare Eq) ∷ (codes "NE", word.Compare Ne) ∷
    (codes "GT", word.Compare Gt) ∷ (codes "LT", word.Compare Lt) ∷
    (codes "GE", word.Compare Ge) ∷ (codes "LE", word.Compare Le) ∷
    (codes "NG", word.Compare Ng) ∷ (codes "NL", word.Compare Nl) ∷ []

-- the signs
abbrev pub signs : List (List ℕ × Symbol)
signs =
    (codes "&&", AndSign) ∷ (codes "|", OrSign) ∷ (codes "(", Open) ∷ (codes ")", Close) ∷ (codes ",", Comma) ∷
    (codes "=", Operator Eq) ∷ (codes "^=", Operator Ne) ∷
    (codes ">", Operator Gt) ∷ (codes "<", Operator Lt) ∷
    (codes ">=", Operator Ge) ∷ (codes "<=", Operator Le) ∷
    (codes "^>", Operator Ng) ∷ (codes "^<", Operator Nl) ∷ []

-- what a table has beside the text, and else the other
abbrev pub listed : {A : Type 0} → List (List ℕ × A) → List ℕ → A → A
listed [] text other = other
listed (row ∷ rows) text other = if bytes_eq text row.0 then row.1 else listed rows text other

-- a word that is no keyword
abbrev pub number_kind : List ℕ → WordKind
number_kind text = if list_all is_digit text then word.Number else word.Other

-- what the word can be besides a name
abbrev pub word_kind : List ℕ → WordKind
word_kind text = listed outer_words text (listed inner_words text (listed comparisons text (number_kind text)))

-- the sign with this text: one of the scanner's; what is none of the others is the comma
abbrev pub sign_of : List ℕ → Symbol
sign_of text = listed signs text Comma

-- the bytes between the quotes
abbrev pub unquoted : List ℕ → List ℕ
unquoted text = slice_range text 1 (length text - 1)

-- the token of this form with its text
abbrev pub form_symbol : TokenForm → List ℕ → Token → Symbol
form_symbol token_form.Word text one = Word (word_kind (upper_text text one)) (upper_text text one)
form_symbol token_form.Variable text one = Variable (slice_range (upper_text text one) 1 (length (upper_text text one)))
form_symbol token_form.Literal text one = Literal (unquoted (token_text text one))
form_symbol token_form.Sign text one = sign_of (token_text text one)

-- a token of a text, with its text
abbrev pub symbol_of : List ℕ → Token → Symbol
symbol_of text one = form_symbol one.form text one

-- the tokens of a text, with their texts
abbrev pub symbols_of : List ℕ → List Token → List Symbol
symbols_of text tokens = map (symbol_of text) tokens

-- these are the tokens of the text, with their texts
abbrev pub AreSymbolsOf : List ℕ → List Symbol → Type 0
AreSymbolsOf text symbols = (tokens : List Token) × IsCut text tokens × (symbols ≡ symbols_of text tokens)
