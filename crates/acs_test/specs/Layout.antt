-- The layout of a comparison: two decks and a table of cases (docs/manual/tool.md, "Comparing two decks").
use Rattle.std.specs.Prelude.{ℕ, ◌+◌, List, [], ◌∷◌, ◌++◌, bytes_eq, codes, Result, Ok, Err, if◌then◌else◌}
use Rattle.sms_script.specs.Lines.{is_block_end, lines_of, text_of_line}
use Rattle.acs_test.specs.declared.layout.InputParts.{InputParts}

-- lines, and the number of the first of them
pub record Numbered : Type 0 where
  pub line : ℕ
  pub lines : List (List ℕ)

-- of lines from this number on, those behind the first, if it has this text; else its number
abbrev pub behind_word : List ℕ → ℕ → List (List ℕ) → Result Numbered ℕ
behind_word word line [] = Err line
behind_word word line (first ∷ lines) =
    if bytes_eq (text_of_line first) word then Ok (record { line = line + 1; lines = lines }) else Err line

-- a deck, and the lines behind its ./END
pub record Block : Type 0 where
  pub deck : List ℕ
  pub behind : Numbered

-- a line before those of a deck
abbrev pub with_line : List ℕ → Result Block ℕ → Result Block ℕ
with_line line (Ok block) = Ok (record { deck = line ++ block.deck; behind = block.behind })
with_line line (Err end) = Err end

-- of lines from this number on, all bytes up to the first ./END, and the lines behind that; without one, the number
-- behind the last line
abbrev pub block_of : ℕ → List (List ℕ) → Result Block ℕ
block_of line [] = Err line
block_of line (first ∷ lines) =
    if is_block_end first then Ok (record { deck = []; behind = record { line = line + 1; lines = lines } })
    else with_line first (block_of (line + 1) lines)

-- what goes on where the one before it was found
abbrev pub and_then : {A B : Type 0} → Result A ℕ → (A → Result B ℕ) → Result B ℕ
and_then (Err line) next = Err line
and_then (Ok found) next = next found

-- both decks, and the table of cases
pub record Parts : Type 0 where
  pub before : List ℕ
  pub after : List ℕ
  pub table : List ℕ

-- the decks and the table that the code holds
abbrev pub parts_seen : InputParts → Parts
parts_seen parts = record { before = parts.before.now; after = parts.after.now; table = parts.table.now }

-- the bytes of lines
abbrev pub bytes_of : List (List ℕ) → List ℕ
bytes_of [] = []
bytes_of (line ∷ lines) = line ++ bytes_of lines

-- OLD and a deck, NEW and a deck, CASES and a table; or the number of the first line that isn't so
abbrev pub parts_of : List ℕ → Result Parts ℕ
parts_of bytes =
    and_then (behind_word (codes "OLD") 1 (lines_of bytes)) (λ first.
    and_then (block_of first.line first.lines) (λ before.
    and_then (behind_word (codes "NEW") before.behind.line before.behind.lines) (λ second.
    and_then (block_of second.line second.lines) (λ after.
    and_then (behind_word (codes "CASES") after.behind.line after.behind.lines) (λ third.
    Ok (record { before = before.deck; after = after.deck; table = bytes_of third.lines }))))))
