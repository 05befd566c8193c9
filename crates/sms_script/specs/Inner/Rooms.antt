-- The rooms in which numbers and lines are written from their end to their front.
use Rattle.std.specs.Prelude.{ℕ}

-- the bytes of the longest number with a blank
abbrev pub number_room : ℕ
number_room = 21

-- the bytes of a room for a line
abbrev pub line_room : ℕ
line_room = 112

-- the most bytes of a line of classes
abbrev pub class_room : ℕ
class_room = 41

-- bytes that are enough for a line of an extent
abbrev pub extent_room : ℕ
extent_room = 55
