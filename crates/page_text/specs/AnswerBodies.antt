-- The bodies of pages of answers (docs/manual/smsd.md, "What pages show").
use Rattle.std.specs.Prelude.{ℕ, List, [], ◌∷◌, Option, None, Some, codes, take}
use Rattle.serde_json.specs.Data.{Data, string, array, object, Items, no_items, item, Members, no_members, member}
use Rattle.serde_json.specs.Written.{compact_text}
use Rattle.sms_construct.specs.declared.entry.Entry.{Entry}
use Rattle.sms_construct.specs.declared.reply.Reply.{Reply}
use Rattle.sms_construct.specs.declared.request.Op.{Op}
use Rattle.sms_construct.specs.declared.request.Op.TheVariants as ops
use Rattle.sms_construct.specs.declared.target.Target.{Target}
use Rattle.sms_construct.specs.declared.target.Target.TheVariants as targets
use Rattle.sms_script.specs.AnswerText.{further_lines, reply_text}
use Rattle.page_text.specs.PageBodies.{count, name_if}

-- the code of a reply
abbrev pub code_of : Reply → List ℕ
code_of reply = take 3 (reply_text reply)

-- the word for what is asked
abbrev pub word_of : Op → List ℕ
word_of (ops.Alloc alloc) = codes "ALLOC"
word_of (ops.Activate deck) = codes "ACTIVATE"
word_of (ops.Extend dsn) = codes "EXTEND"
word_of (ops.Delete dsn) = codes "DELETE"
word_of (ops.Used dsn tracks) = codes "USED"
word_of (ops.Release dsn) = codes "RELEASE"
word_of (ops.Display target) = codes "DISPLAY"
word_of (ops.Vary target action) = codes "VARY"
word_of (ops.Purge job floor) = codes "PURGE"

-- the name of a target
abbrev pub target_name : Target → List ℕ
target_name (targets.Group name) = name
target_name (targets.Volume volser) = volser
target_name (targets.Set dsn) = dsn

-- of what it is asked: a data set, a storage group, a volume or a job; a deck has no name
abbrev pub name_in : Op → Option (List ℕ)
name_in (ops.Alloc alloc) = Some alloc.input.dsn
name_in (ops.Activate deck) = None
name_in (ops.Extend dsn) = Some dsn
name_in (ops.Delete dsn) = Some dsn
name_in (ops.Used dsn tracks) = Some dsn
name_in (ops.Release dsn) = Some dsn
name_in (ops.Display target) = Some (target_name target)
name_in (ops.Vary target action) = Some (target_name target)
name_in (ops.Purge job floor) = Some job

-- what was answered and asked: the code, the word and the name
abbrev pub asked_members : Entry → Members
asked_members entry =
    member (codes "code") (string (code_of entry.answer.reply))
    (member (codes "asked") (string (word_of entry.request.op))
    (member (codes "name") (name_if (name_in entry.request.op)) no_members))

-- an entry: its place, that of the first reply, the job, the number, and what was answered and asked
abbrev pub entry_value : Entry → Data
entry_value entry =
    object
    (member (codes "place") (count entry.answer.place)
    (member (codes "first") (count entry.answer.first)
    (member (codes "job") (string entry.request.job)
    (member (codes "number") (count entry.request.number) (asked_members entry)))))

-- entries, in their order
abbrev pub entry_values : List Entry → Items
entry_values [] = no_items
entry_values (entry ∷ entries) = item (entry_value entry) (entry_values entries)

-- an entry as its page has it
abbrev pub entry_body : Entry → List ℕ
entry_body entry = compact_text (entry_value entry)

-- a page of entries
abbrev pub answers_body : List Entry → List ℕ
answers_body entries = compact_text (object (member (codes "answers") (array (entry_values entries)) no_members))

-- lines, in their order
abbrev pub line_values : List (List ℕ) → Items
line_values [] = no_items
line_values (line ∷ lines) = item (string line) (line_values lines)

-- a code, and what stands in the way of a deck
abbrev pub check_value : List ℕ → List (List ℕ) → Data
check_value code lines =
    object (member (codes "code") (string code) (member (codes "lines") (array (line_values lines)) no_members))

-- the page of a classification: how it ends, and the lines that the routines wrote
abbrev pub classified_body : List ℕ → List (List ℕ) → List ℕ
classified_body outcome lines =
    compact_text
    (object (member (codes "outcome") (string outcome) (member (codes "lines") (array (line_values lines)) no_members)))

-- the page of what routines would do: the text that tells it
abbrev pub explained_body : List ℕ → List ℕ
explained_body told = compact_text (object (member (codes "text") (string told) no_members))

-- the page of the check of a deck that would be active
abbrev pub passed_body : List ℕ
passed_body = compact_text (check_value (codes "A04") [])

-- the page of the check of a deck that would get this reply instead
abbrev pub barred_body : Reply → List ℕ
barred_body reply = compact_text (check_value (code_of reply) (reply_text reply ∷ further_lines reply))
