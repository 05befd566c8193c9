-- What single values of a deck mean (docs/manual/deck.md, "Keys").
use Rattle.std.specs.Prelude.{ℕ, ◌%◌, ◌==◌, ◌&&◌, ◌||◌, List, [], ◌∷◌, Bool, true, false, Option, None, Some, bytes_eq}
use Rattle.std.specs.Prelude.{codes, is_some, nat_le, pos, if◌then◌else◌}
use Rattle.std.specs.Option.{option_and_then}
use Rattle.toml.specs.Data.{Data, integer, as_bool, as_str}
use Rattle.dsn_mask.specs.Name.{name_of}
use Rattle.sms_construct.specs.Eattr.{eattrs}
use Rattle.sms_construct.specs.declared.status.Status.{Status}
use Rattle.sms_construct.specs.declared.status.Status.TheVariants.{Enable, NotCon, DisAll, DisNew, QuiAll, QuiNew}
use Rattle.sms_construct.specs.Quantities.{Quantities}
use Rattle.desk_common.specs.Limits.{most_track_managed}
use Rattle.deck_meaning.specs.Limits.{most_cylinders, cylinders_in_managed}
use Rattle.deck_meaning.specs.declared.value_form.ValueForm.{ValueForm}
use Rattle.deck_meaning.specs.declared.value_form.ValueForm.TheVariants.{Integer, Text, Flag, ConstructName, SpaceText}
use Rattle.deck_meaning.specs.declared.value_form.ValueForm.TheVariants.{Pool, GroupStatus, VolumeStatus, Device, Cylinders}
use Rattle.deck_meaning.specs.declared.value_form.ValueForm.TheVariants.{YesOrNo, OptOrNo}
use Rattle.sms_construct.specs.SpaceText.{space_text}

-- words, each with what it stands for
abbrev pub Words : Type 0 → Type 0
Words X = List (List ℕ × X)

-- what a text stands for, if it is one of the words
abbrev pub meaning_in : {X : Type 0} → Words X → List ℕ → Option X
meaning_in [] text = None
meaning_in (word ∷ words) text = if bytes_eq text word.0 then Some word.1 else meaning_in words text

-- the statuses of a volume
abbrev pub volume_statuses : Words Status
volume_statuses =
    (codes "ENABLE", Enable) ∷ (codes "DISALL", DisAll) ∷ (codes "DISNEW", DisNew) ∷ (codes "QUIALL", QuiAll)
    ∷ (codes "QUINEW", QuiNew) ∷ []

-- the statuses of a storage group
abbrev pub group_statuses : Words Status
group_statuses = (codes "NOTCON", NotCon) ∷ volume_statuses

-- the devices, with their tracks
abbrev pub devices : Words ℕ
devices = (codes "3390-3", 50085) ∷ (codes "3390-9", 150255) ∷ []

-- yes and no
abbrev pub yes_or_no : Words Bool
yes_or_no = (codes "YES", true) ∷ (codes "NO", false) ∷ []

-- the one type of a storage group
abbrev pub pool : Words Bool
pool = (codes "POOL", true) ∷ []

-- what a value stands for, if it is one of the words
abbrev pub word_in : {X : Type 0} → Words X → Data → Option X
word_in words value = option_and_then (meaning_in words) (as_str value)

-- the integer of the range, if the value is one
abbrev pub integer_in : ℕ → ℕ → Data → Option ℕ
integer_in least most (integer (pos number)) = if nat_le least number && nat_le number most then Some number else None
integer_in least most _ = None

-- so many cylinders are track-managed, or with what is past them whole units
abbrev pub are_whole : ℕ → Bool
are_whole cylinders = nat_le cylinders most_track_managed || (cylinders % cylinders_in_managed == 0)

-- the cylinders of a volume, if the value is a number that it may have
abbrev pub cylinders_in : Data → Option ℕ
cylinders_in value =
    option_and_then (λ cylinders. if are_whole cylinders then Some cylinders else None)
    (integer_in 1 most_cylinders value)

-- the construct name, if the value is one
abbrev pub name_in : Data → Option (List ℕ)
name_in value = option_and_then name_of (as_str value)

-- the space, if the value is the text of one
abbrev pub space_in : Data → Option Quantities
space_in value = option_and_then space_text (as_str value)

-- the value has the form
abbrev pub has_form : ValueForm → Data → Bool
has_form (Integer least most) value = is_some (integer_in least most value)
has_form Text value = is_some (as_str value)
has_form Flag value = is_some (as_bool value)
has_form ConstructName value = is_some (name_in value)
has_form SpaceText value = is_some (space_in value)
has_form Pool value = is_some (word_in pool value)
has_form GroupStatus value = is_some (word_in group_statuses value)
has_form VolumeStatus value = is_some (word_in volume_statuses value)
has_form Device value = is_some (word_in devices value)
has_form Cylinders value = is_some (cylinders_in value)
has_form YesOrNo value = is_some (word_in yes_or_no value)
has_form OptOrNo value = is_some (word_in eattrs value)
