-- The ops that words write (docs/manual/script.md, "Commands").
use Rattle.std.specs.Prelude.{ℕ, ◌≡◌, ◌+◌, ◌==◌, Bool, true, not, List, [], ◌∷◌, map, take, drop, position, Option}
use Rattle.std.specs.Prelude.{None, Some, bytes_eq, codes, option_map, unwrap_or, if◌then◌else◌}
use Rattle.std.specs.Map.{lookup}
use Rattle.std.specs.Option.{option_and_then, option_or}
use Rattle.std.specs.Char.{to_ascii_uppercase}
use Rattle.desk_common.specs.Words.{words_of}
use Rattle.desk_common.specs.Bytes.{closing, space_byte}
use Rattle.dsn_mask.specs.Name.{name_of, volser_of}
use Rattle.dsn_mask.specs.DataSetName.{dsn_of}
use Rattle.sms_construct.specs.Numbers.{small_number_of}
use Rattle.sms_construct.specs.Parts.{behind_front}
use Rattle.sms_construct.specs.Quantities.{request_number_of}
use Rattle.sms_construct.specs.declared.alloc.Alloc.{Alloc}
use Rattle.sms_construct.specs.declared.action.Action.{Action}
use Rattle.sms_construct.specs.declared.action.Action.TheVariants.{Enable, Disable, DisableNew, Quiesce, QuiesceNew}
use Rattle.sms_construct.specs.declared.request.Op.{Op}
use Rattle.sms_construct.specs.declared.request.Op.TheVariants as ops
use Rattle.sms_construct.specs.declared.target.Target.{Target}
use Rattle.sms_construct.specs.declared.target.Target.TheVariants.{Group, Volume, Set}
use Rattle.sms_script.specs.Found.{◌⊳◌}
use Rattle.sms_script.specs.Operands.{are_operands, request_in}
use Rattle.sms_script.specs.Parts.{in_call, before_end}
use Rattle.sms_script.specs.declared.verb.Verb.{Verb}
use Rattle.sms_script.specs.declared.verb.Verb.TheVariants as verbs

-- the words of the verbs
abbrev pub verb_words : List (List ℕ × Verb)
verb_words =
    (codes "ALLOC", verbs.Alloc) ∷ (codes "EXTEND", verbs.Extend) ∷ (codes "DELETE", verbs.Delete)
    ∷ (codes "RELEASE", verbs.Release) ∷ (codes "USED", verbs.Used) ∷ (codes "DISPLAY", verbs.Display)
    ∷ (codes "D", verbs.Display) ∷ (codes "VARY", verbs.Vary) ∷ (codes "V", verbs.Vary)
    ∷ (codes "PURGE", verbs.Purge) ∷ []

-- the verb that a word is, if any
abbrev pub verb_of : List ℕ → Option Verb
verb_of word = lookup (bytes_eq word) verb_words

-- the words begin with ALLOC
abbrev pub AskAlloc : List (List ℕ) → Type 0
AskAlloc [] = ⊥
AskAlloc (word ∷ operands) = verb_of word ≡ Some verbs.Alloc

-- who asks it: the administrator varies and purges, and the others ask the rest; both display
abbrev pub may_ask : Bool → Verb → Bool
may_ask admin verbs.Alloc = not admin
may_ask admin verbs.Extend = not admin
may_ask admin verbs.Delete = not admin
may_ask admin verbs.Release = not admin
may_ask admin verbs.Used = not admin
may_ask admin verbs.Display = true
may_ask admin verbs.Vary = admin
may_ask admin verbs.Purge = admin

-- the only word
abbrev pub only : List (List ℕ) → Option (List ℕ)
only [] = None
only (word ∷ []) = Some word
only (word ∷ other ∷ words) = None

-- the only two words
abbrev pub only_two : List (List ℕ) → Option (List ℕ × List ℕ)
only_two [] = None
only_two (word ∷ []) = None
only_two (word ∷ other ∷ []) = Some (word, other)
only_two (word ∷ other ∷ more ∷ words) = None

-- the request number that a word writes, if any
abbrev pub number_in : List ℕ → Option ℕ
number_in word = option_and_then request_number_of (small_number_of word)

-- the storage group of this name, if it is one
abbrev pub group_of : List ℕ → Option Target
group_of text = option_map (λ name. Group name) (name_of text)

-- the volume of this serial, if it is one
abbrev pub volume_of : List ℕ → Option Target
volume_of text = option_map (λ volser. Volume volser) (volser_of text)

-- the data set of this name, if it is one
abbrev pub set_of : List ℕ → Option Target
set_of text = option_map (λ dsn. Set dsn) (dsn_of text)

-- what a DISPLAY shows: SMS,STORGRP(g), SMS,VOLUME(v) or SET(dsn)
abbrev pub target_in : List ℕ → Option Target
target_in what =
    option_or (in_call (codes "SMS,STORGRP") what ⊳ group_of)
    (option_or (in_call (codes "SMS,VOLUME") what ⊳ volume_of) (in_call (codes "SET") what ⊳ set_of))

-- a place may say that it is for all systems
abbrev pub without_all : List ℕ → List ℕ
without_all text = unwrap_or (before_end (codes ",ALL") text) text

-- where a VARY is done: STORGRP(g), STORGRP(g,ALL), VOLUME(v) or VOLUME(v,ALL)
abbrev pub place_in : List ℕ → Option Target
place_in place =
    option_or (in_call (codes "STORGRP") place ⊳ λ inner. group_of (without_all inner))
    (in_call (codes "VOLUME") place ⊳ λ inner. volume_of (without_all inner))

-- the actions behind a place
abbrev pub actions : List (List ℕ × Action)
actions =
    (codes ",ENABLE", Enable) ∷ (codes ",DISABLE", Disable) ∷ (codes ",DISABLE,NEW", DisableNew)
    ∷ (codes ",QUIESCE", Quiesce) ∷ (codes ",QUIESCE,NEW", QuiesceNew) ∷ []

-- the action that a text is, if any
abbrev pub action_in : List ℕ → Option Action
action_in text = lookup (bytes_eq text) actions

-- the place ends at the first closing parenthesis, and the action stands behind it
abbrev pub vary_at : List ℕ → ℕ → Option Op
vary_at text at =
    place_in (take (at + 1) text) ⊳ λ target.
    action_in (drop (at + 1) text) ⊳ λ action.
    Some (ops.Vary target action)

-- SMS,place,action
abbrev pub vary_in : List ℕ → Option Op
vary_in what =
    behind_front (codes "SMS,") what ⊳ λ text.
    position (λ byte. byte == closing) text ⊳ λ at.
    vary_at text at

-- an ALLOC: the data set, and operands in any order, each at most once
abbrev pub alloc_in : List (List ℕ) → Option Alloc
alloc_in [] = None
alloc_in (word ∷ operands) = dsn_of word ⊳ λ dsn. if are_operands operands then request_in dsn operands else None

-- the data set that is the only word
abbrev pub dsn_in : List (List ℕ) → Option (List ℕ)
dsn_in operands = only operands ⊳ dsn_of

-- a USED: the data set, and its tracks
abbrev pub used_in : List (List ℕ) → Option Op
used_in operands =
    only_two operands ⊳ λ words.
    dsn_of words.0 ⊳ λ dsn.
    small_number_of words.1 ⊳ λ tracks.
    Some (ops.Used dsn tracks)

-- a PURGE: the job, and its floor
abbrev pub purge_in : List (List ℕ) → Option Op
purge_in operands =
    only_two operands ⊳ λ words.
    name_of words.0 ⊳ λ job.
    number_in words.1 ⊳ λ floor.
    Some (ops.Purge job floor)

-- the op of a verb with its operands, one line a form
abbrev pub op_with : Verb → List (List ℕ) → Option Op
op_with verbs.Alloc operands = option_map (λ alloc. ops.Alloc alloc) (alloc_in operands)
op_with verbs.Extend operands = option_map (λ dsn. ops.Extend dsn) (dsn_in operands)
op_with verbs.Delete operands = option_map (λ dsn. ops.Delete dsn) (dsn_in operands)
op_with verbs.Release operands = option_map (λ dsn. ops.Release dsn) (dsn_in operands)
op_with verbs.Used operands = used_in operands
op_with verbs.Display operands = option_map (λ target. ops.Display target) (only operands ⊳ target_in)
op_with verbs.Vary operands = only operands ⊳ vary_in
op_with verbs.Purge operands = purge_in operands

-- the op that the words behind a request number write, of the administrator or of another job
abbrev pub op_in : Bool → List (List ℕ) → Option Op
op_in admin [] = None
op_in admin (word ∷ operands) = verb_of word ⊳ λ verb. if may_ask admin verb then op_with verb operands else None

-- the words of a line, its letters read as upper case
abbrev pub upper_words : List ℕ → List (List ℕ)
upper_words line = words_of (space_byte ∷ []) (map to_ascii_uppercase line)

-- the op that the part of a line behind the request number writes
abbrev pub op_of : Bool → List ℕ → Option Op
op_of admin line = op_in admin (upper_words line)
