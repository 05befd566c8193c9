-- Entries of filter lists that others cover (docs/manual/tool.md, "Linting a deck").
use Rattle.std.specs.Prelude.{◌&&◌, ◌||◌, ◌++◌, ℕ, Bool, false, not, List, [], ◌∷◌, Option, Some, None, if◌then◌else◌}
use Rattle.std.specs.Str.{bytes_eq}
use Rattle.acs_trace.specs.Lint.{mask_covers, piece_covers}
use Rattle.acs_tree.specs.declared.routine.Operand.{Operand}
use Rattle.acs_tree.specs.declared.routine.OperandForm.{OperandForm}
use Rattle.acs_tree.specs.declared.routine.OperandForm.TheVariants.{Literal, Word, Var}
use Rattle.acs_tree.specs.FilterLists.{is_mask, is_simple}
use Rattle.acs_lint.specs.declared.finding.Finding.{Finding}
use Rattle.acs_lint.specs.declared.finding.Finding.TheVariants.{Spare}

-- a mask covers a text as a mask of qualifiers and, where it is one, as a simple mask
abbrev pub covers_text : List ℕ → List ℕ → Bool
covers_text wide text = (mask_covers wide text && is_mask wide) && (not (is_simple wide) || piece_covers wide text)

-- a mask covers another as a mask of qualifiers and, where both are, as a simple mask
abbrev pub covers_mask : List ℕ → List ℕ → Bool
covers_mask wide word =
    (mask_covers wide word && is_mask wide) && (not (is_simple word) || (not (is_simple wide) || piece_covers wide word))

-- an entry covers another: it is the same, or a mask that covers it
abbrev pub covers_entry : OperandForm → OperandForm → Bool
covers_entry (Literal wide) (Literal text) = bytes_eq wide text
covers_entry (Word wide) (Literal text) = covers_text wide text
covers_entry (Word wide) (Word word) = bytes_eq wide word || covers_mask wide word
covers_entry _ _ = false

-- the first of the earlier entries that covers a later one
abbrev pub entry_coverer : OperandForm → List Operand → Option ℕ
entry_coverer later [] = None
entry_coverer later (earlier ∷ others) =
    if covers_entry earlier.form later then Some earlier.at else entry_coverer later others

-- the finding on an entry, where an earlier one covers it
abbrev pub spare_if : ℕ → Option ℕ → List Finding
spare_if entry None = []
spare_if entry (Some since) = Spare entry since ∷ []

-- the findings on entries that stand behind others
abbrev pub spare_behind : List Operand → List Operand → List Finding
spare_behind before [] = []
spare_behind before (entry ∷ entries) =
    spare_if entry.at (entry_coverer entry.form before) ++ spare_behind (before ++ entry ∷ []) entries

-- the findings on the entries of an INCLUDE or an EXCLUDE
abbrev pub spare_in : List Operand → List Finding
spare_in entries = spare_behind [] entries
