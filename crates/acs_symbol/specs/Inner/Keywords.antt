-- The keywords of one length. They are the means of a search: what a word can be stands in Symbols.
use Rattle.std.specs.Prelude.{◌==◌, ℕ, List, length, filter}
use Rattle.acs_symbol.specs.declared.symbol.WordKind.{WordKind}
use Rattle.acs_symbol.specs.Symbols.{outer_words, inner_words, comparisons, listed, number_kind}

-- the rows whose texts have so many bytes
abbrev pub sized : {A : Type 0} → ℕ → List (List ℕ × A) → List (List ℕ × A)
sized {A} count rows = filter (λ (row : List ℕ × A). length row.0 == count) rows

-- what a word can be besides a name, looked for among keywords of so many bytes
unfoldable pub kind_among : ℕ → List ℕ → WordKind
kind_among count text =
    listed (sized count outer_words) text
    (listed (sized count inner_words) text (listed (sized count comparisons) text (number_kind text)))
