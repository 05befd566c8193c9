-- What translating a text says (docs/manual/acs-language.md).
use Rattle.std.specs.Prelude.{◌≡◌, ◌⊎◌, ℕ, List, length, Result, Ok, Err}
use Rattle.acs_lex.specs.declared.token.Token.{Token}
use Rattle.acs_lex.specs.declared.fault.LexErr.{LexErr}
use Rattle.acs_lex.specs.declared.fault.LexErr.TheVariants as lex
use Rattle.acs_lex.specs.Tokens.{IsCut}
use Rattle.acs_lex.specs.LexFault.{IsFirstLexFault}
use Rattle.acs_symbol.specs.Symbols.{symbols_of}
use Rattle.acs_parse.specs.declared.fault.ParseErr.{ParseErr}
use Rattle.acs_parse.specs.declared.fault.ParseErr.TheVariants as parse
use Rattle.acs_parse.specs.Grammar.{limited, IsRoutine}
use Rattle.acs_parse.specs.ParseFault.{IsParseFault}
use Rattle.acs_tree.specs.declared.kind.Kind.{Kind}
use Rattle.acs_tree.specs.declared.check_err.CheckErr.{CheckErr}
use Rattle.acs_tree.specs.declared.routine.Routine.{Routine}
use Rattle.acs_tree.specs.Sound.{IsSound, IsFirstFault}
use Rattle.acs_tree.specs.CheckedRoutine.{CheckedRoutine}
use Rattle.acs_translate.specs.declared.fault.Stage.{Stage}
use Rattle.acs_translate.specs.declared.fault.Stage.TheVariants.{Scanner, Parser, Checks}
use Rattle.acs_translate.specs.declared.fault.RoutineFault.{RoutineFault}
use Rattle.acs_translate.specs.declared.fault.TranslateErr.{TranslateErr}
use Rattle.acs_translate.specs.declared.fault.TranslateErr.TheVariants.{Fault, NoMemory}

-- the text is a routine of this kind that breaks no check; this is its tree, and it has so many tokens
pub record IsTranslated (text : List ℕ) (kind : Kind) (tree : Routine) (count : ℕ) : Type 0 where
  pub tokens : List Token
  pub cut : IsCut text tokens
  pub routine : IsRoutine limited (symbols_of text tokens) tree
  pub sound : IsSound tree kind
  pub counted : count ≡ length tokens

-- the fault of a stage, by its number, at a place
abbrev pub fault_of : Stage → ℕ → ℕ → RoutineFault
fault_of stage number at = record { stage = stage; number = number; at = at }

-- what the scanner's refusal is told as
abbrev pub lex_err : LexErr → TranslateErr
lex_err (lex.OpenComment at) = Fault (fault_of Scanner 1 at)
lex_err (lex.OpenLiteral at) = Fault (fault_of Scanner 2 at)
lex_err (lex.BadByte at) = Fault (fault_of Scanner 3 at)
lex_err (lex.LongWord at) = Fault (fault_of Scanner 4 at)
lex_err lex.NoMemory = NoMemory

-- what the parser's refusal of so many tokens is told as
abbrev pub parse_err : ℕ → ParseErr → TranslateErr
parse_err count (parse.Unexpected at) = Fault (fault_of Parser 1 at)
parse_err count parse.Ended = Fault (fault_of Parser 2 count)
parse_err count (parse.Deep at) = Fault (fault_of Parser 3 at)
parse_err count parse.NoMemory = NoMemory

-- a broken check
abbrev pub check_fault : CheckErr → RoutineFault
check_fault err = fault_of Checks err.number err.at

-- the fault of a text: of its bytes, or of its tokens, or of its tree
pub data IsRoutineFault (text : List ℕ) (kind : Kind) (fault : RoutineFault) : Type 0 where
  in_text : (err : LexErr) → IsFirstLexFault text err → lex_err err ≡ Fault fault → IsRoutineFault text kind fault
  in_tokens : (tokens : List Token) (err : ParseErr) → IsCut text tokens → IsParseFault (symbols_of text tokens) err
      → parse_err (length tokens) err ≡ Fault fault
      → IsRoutineFault text kind fault
  in_tree : (tokens : List Token) (tree : Routine) (err : CheckErr) → IsCut text tokens
      → IsRoutine limited (symbols_of text tokens) tree → IsFirstFault tree kind err
      → check_fault err ≡ fault → IsRoutineFault text kind fault

-- the error may be answered: want of memory to every text
abbrev pub MayRefuse : List ℕ → Kind → TranslateErr → Type 0
MayRefuse text kind (Fault fault) = IsRoutineFault text kind fault
MayRefuse text kind NoMemory = Unit {0}

-- the routine and the fault are answered wherever there is one, unless memory runs out
pub record IsExact (text : List ℕ) (kind : Kind) (result : Result (CheckedRoutine × ℕ) TranslateErr) : Type 0 where
  pub routine : (tree : Routine) (count : ℕ) → IsTranslated text kind tree count
      → (result ≡ Ok (record { tree = tree; kind = kind }, count)) ⊎ (result ≡ Err NoMemory)
  pub fault : (fault : RoutineFault) → IsRoutineFault text kind fault →
      (result ≡ Err (Fault fault)) ⊎ (result ≡ Err NoMemory)
