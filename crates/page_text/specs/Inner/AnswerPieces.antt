-- The parts of pages of answers as they are written.
use Rattle.std.specs.Prelude.{ℕ, List, [], ◌∷◌, ◌++◌, codes, decimal, false}
use Rattle.json.specs.Print.{quoted}
use Rattle.serde_json.specs.Written.{compact_text, items_text}
use Rattle.sms_construct.specs.declared.entry.Entry.{Entry}
use Rattle.sms_construct.specs.declared.reply.Reply.{Reply}
use Rattle.sms_construct.specs.declared.request.Op.{Op}
use Rattle.page_text.specs.PageBodies.{name_if}
use Rattle.page_text.specs.AnswerBodies.{code_of, entry_values, line_values, name_in, word_of}

-- the first line of some, or nothing
abbrev pub first_of : List (List ℕ) → List ℕ
first_of [] = []
first_of (line ∷ lines) = line

-- where an entry stands, and who asked
abbrev pub entry_front : Entry → List ℕ
entry_front entry =
    codes "{\"place\":" ++ (decimal entry.answer.place ++ (codes ",\"first\":" ++ (decimal entry.answer.first
    ++ (codes ",\"job\":" ++ (quoted entry.request.job ++ (codes ",\"number\":" ++ decimal entry.request.number))))))

-- the code of a reply
abbrev pub code_piece : Reply → List ℕ
code_piece reply = codes ",\"code\":" ++ quoted (code_of reply)

-- what was asked
abbrev pub asked_piece : Op → List ℕ
asked_piece op =
    codes ",\"asked\":" ++ (quoted (word_of op) ++ (codes ",\"name\":" ++ compact_text (name_if (name_in op))))

-- what was answered and asked
abbrev pub entry_rest : Entry → List ℕ
entry_rest entry = code_piece entry.answer.reply ++ (asked_piece entry.request.op ++ codes "}")

-- a page of entries
abbrev pub answers_text : List Entry → List ℕ
answers_text entries = codes "{\"answers\":[" ++ (items_text false (entry_values entries) ++ codes "}")

-- the check of a deck
abbrev pub check_text : List ℕ → List (List ℕ) → List ℕ
check_text code lines =
    codes "{\"code\":" ++ (quoted code ++ (codes ",\"lines\":[" ++ (items_text false (line_values lines) ++ codes "}")))

-- a classification
abbrev pub classified_text : List ℕ → List (List ℕ) → List ℕ
classified_text outcome lines =
    codes "{\"outcome\":" ++ (quoted outcome
    ++ (codes ",\"lines\":[" ++ (items_text false (line_values lines) ++ codes "}")))

-- what routines would do
abbrev pub explained_text : List ℕ → List ℕ
explained_text told = codes "{\"text\":" ++ (quoted told ++ codes "}")
