-- The tokens that the grammar names (docs/manual/acs-language.md, Grammar).
use Rattle.std.specs.Prelude.{Bool, true, false}
use Rattle.acs_tree.specs.declared.routine.Compare.TheVariants.{Eq}
use Rattle.acs_symbol.specs.declared.symbol.WordKind.TheVariants as word
use Rattle.acs_symbol.specs.declared.symbol.Symbol.{Symbol}
use Rattle.acs_symbol.specs.declared.symbol.Symbol.TheVariants.{Word, Variable, AndSign, OrSign, Open, Close, Comma}
use Rattle.acs_symbol.specs.declared.symbol.Symbol.TheVariants.{Operator}
use Rattle.acs_parse.specs.declared.want.Want.{Want}
use Rattle.acs_parse.specs.declared.want.Want.TheVariants as want

-- the token is the one that is wanted
abbrev pub fits : Want → Symbol → Bool
fits want.Proc (Word word.Proc text) = true
fits want.FiltList (Word word.FiltList text) = true
fits want.Exclude (Word word.Exclude text) = true
fits want.Then (Word word.Then text) = true
fits want.Else (Word word.Else text) = true
fits want.When (Word word.When text) = true
fits want.Otherwise (Word word.Otherwise text) = true
fits want.End (Word word.End text) = true
fits want.Code (Word word.Code text) = true
fits want.And AndSign = true
fits want.And (Word word.And text) = true
fits want.Or OrSign = true
fits want.Or (Word word.Or text) = true
fits want.Open Open = true
fits want.Close Close = true
fits want.Comma Comma = true
fits want.Equal (Operator Eq) = true
fits want.Equal (Word (word.Compare Eq) text) = true
fits want.Operator (Operator op) = true
fits want.Operator (Word (word.Compare op) text) = true
fits want.Variable (Variable name) = true
fits want.Word (Word kind text) = true
fits want.Number (Word word.Number text) = true
-- a word that is no number, or a variable
fits want.Head (Word word.Number text) = false
fits want.Head (Word kind text) = true
fits want.Head (Variable name) = true
fits want.Name (Word kind text) = true
fits want.Name (Variable name) = true
fits _ _ = false
