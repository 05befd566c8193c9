-- The limits of names, of the language, of the volumes and of what is read.
use Rattle.std.specs.Prelude.{ℕ, nat_le, Option, None, Some, if◌then◌else◌}

-- the number, where it is this one at most
abbrev pub up_to : ℕ → ℕ → Option ℕ
up_to most number = if nat_le number most then Some number else None

-- the bytes of a name or a qualifier
abbrev pub most_name_bytes : ℕ
most_name_bytes = 8

-- the bytes of a volume serial
abbrev pub most_volser_bytes : ℕ
most_volser_bytes = 6

-- the bytes of a data set name, and of another value that a routine sees
abbrev pub most_value_bytes : ℕ
most_value_bytes = 44

-- the qualifiers of a data set name
abbrev pub most_qualifiers : ℕ
most_qualifiers = 22

-- the storage groups that one SET may name
abbrev pub most_groups_set : ℕ
most_groups_set = 15

-- the volumes of a data set, and the serials that a request names
abbrev pub most_volume_count : ℕ
most_volume_count = 59

-- the texts of accounting information
abbrev pub most_account_fields : ℕ
most_account_fields = 8

-- the bytes of a word, a variable's name or a mask
abbrev pub most_word_bytes : ℕ
most_word_bytes = 64

-- the bytes of a literal, and of a line that WRITE writes
abbrev pub most_literal_bytes : ℕ
most_literal_bytes = 110

-- the lines of one kind that are kept
abbrev pub most_lines : ℕ
most_lines = 64

-- the entries of an INCLUDE or an EXCLUDE
abbrev pub most_list_entries : ℕ
most_list_entries = 255

-- the greatest index; a word that is no number from 1 to it stands for the number behind it, which no variable takes
abbrev pub most_index : ℕ
most_index = 254

-- the greatest code of an EXIT
abbrev pub most_exit_code : ℕ
most_exit_code = 65535

-- the nestings that may be open at once
abbrev pub most_nestings : ℕ
most_nestings = 200

-- the digits of a number in a script, in the space of a deck or on a command line
abbrev pub most_digits : ℕ
most_digits = 10

-- the greatest such number
abbrev pub most_number : ℕ
most_number = 4294967295

-- the greatest quantity of a space, in its unit
abbrev pub most_quantity : ℕ
most_quantity = 16777215

-- the extents of a data set on one volume
abbrev pub most_extents : ℕ
most_extents = 16

-- the pieces of one grant
abbrev pub most_pieces : ℕ
most_pieces = 5

-- the tracks of a cylinder
abbrev pub tracks_in_cylinder : ℕ
tracks_in_cylinder = 15

-- the tracks of the track-managed part of a volume; from this track on it is cylinder-managed
abbrev pub border : ℕ
border = 982800

-- the cylinders of that part
abbrev pub most_track_managed : ℕ
most_track_managed = 65520

-- the tracks of a volume whose size a deck gives in tracks
abbrev pub most_tracks : ℕ
most_tracks = border

-- the bytes of a line of a script, and of an HTTP body that is no deck
abbrev pub most_line_bytes : ℕ
most_line_bytes = 4096

-- the bytes of a program's input, where it is no routine
abbrev pub most_input_bytes : ℕ
most_input_bytes = 16777216

-- the commands of a script
abbrev pub most_commands : ℕ
most_commands = 100000

-- the workers of a run or a desk
abbrev pub most_workers : ℕ
most_workers = 16

-- the items of a generated script
abbrev pub most_items : ℕ
most_items = 40000

-- the bytes of a deck
abbrev pub most_deck_bytes : ℕ
most_deck_bytes = 262144

-- the bytes of a path in a deck
abbrev pub most_path_bytes : ℕ
most_path_bytes = 80

-- the days of a retention period
abbrev pub most_days : ℕ
most_days = 9999

-- the last day that may be named
abbrev pub last_day : ℕ
last_day = 9999999
