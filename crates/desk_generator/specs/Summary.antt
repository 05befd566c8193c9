-- The summary of a generated run (docs/manual/generator.md).
use Rattle.std.specs.Prelude.{ℕ, ◌-◌, ◌==◌, List, [], ◌∷◌, ◌++◌, bytes_eq, codes, count_by, decimal, flat_map, length}
use Rattle.std.specs.Prelude.{sum_by, take, if◌then◌else◌}
use Rattle.sms_construct.specs.declared.entry.Answer.{Answer}
use Rattle.sms_construct.specs.declared.reply.Reply.{Reply}
use Rattle.sms_construct.specs.declared.vol_row.VolRow.{VolRow}
use Rattle.sms_script.specs.AnswerText.{end_text, reply_text}
use Rattle.sms_script.specs.NameText.{spaced}

-- the code of a reply: the three bytes that its text begins with
abbrev pub code_of : Reply → List ℕ
code_of reply = take 3 (reply_text reply)

-- all codes, in byte order
abbrev pub all_codes : List (List ℕ)
all_codes =
    codes "A00" ∷ codes "A01" ∷ codes "A02" ∷ codes "A03" ∷ codes "A04" ∷ codes "A05" ∷ codes "A06" ∷ codes "A07"
    ∷ codes "A08" ∷ codes "A09" ∷ codes "F30" ∷ codes "M31" ∷ codes "R10" ∷ codes "R11" ∷ codes "R12" ∷ codes "R13"
    ∷ codes "R14" ∷ codes "R15" ∷ codes "R16" ∷ codes "R17" ∷ codes "R18" ∷ codes "R19" ∷ codes "R20" ∷ codes "R21"
    ∷ codes "R22" ∷ codes "R23" ∷ codes "R24" ∷ codes "R25" ∷ []

-- how many of the answers have the code
abbrev pub times_answered : List ℕ → List Answer → ℕ
times_answered code answers = count_by (λ answer. bytes_eq (code_of answer.reply) code) answers

-- words in a line of their own
abbrev pub line_of : List (List ℕ) → List ℕ
line_of words = spaced words ++ 10 ∷ []

-- a code and its number, where it isn't 0
abbrev pub count_line : List ℕ → ℕ → List ℕ
count_line code count = if count == 0 then [] else line_of (code ∷ decimal count ∷ [])

-- the tracks of the volumes that data sets hold
abbrev pub granted_in : List VolRow → ℕ
granted_in rows = sum_by (λ row. row.capacity - row.free) rows

-- the tracks that are free
abbrev pub free_in : List VolRow → ℕ
free_in rows = sum_by (λ row. row.free) rows

-- the granted and the free tracks in a line each
abbrev pub tracks_text : List VolRow → List ℕ
tracks_text rows = line_of (codes "GRANTED" ∷ decimal (granted_in rows) ∷ []) ++ line_of
    (codes "FREE" ∷ decimal (free_in rows) ∷ [])

-- a line for each code that was answered
unfoldable pub counts_text : List Answer → List ℕ
counts_text answers = flat_map (λ code. count_line code (times_answered code answers)) all_codes

-- the summary: what was generated, each code that was answered, the tracks that are granted and free then, and the
-- numbers of entries and items
abbrev pub summary_of : ℕ → ℕ → List Answer → List VolRow → ℕ → List ℕ
summary_of seed count answers rows entries =
    line_of (codes "GEN" ∷ decimal seed ∷ decimal count ∷ []) ++ (counts_text
    answers ++ (tracks_text rows ++ end_text entries (length answers)))
