-- Records of comma-separated values as columns (docs/manual/smsd.md, "Lists").
use Rattle.std.specs.Prelude.{ℕ, ◌+◌, ◌-◌, ◌==◌, List, [], ◌∷◌, ◌++◌, codes, drop, if◌then◌else◌}
use Rattle.std.specs.List.{repeat}

-- the width of the first of these columns, 0 where there is none
abbrev pub first_width : List ℕ → ℕ
first_width [] = 0
first_width (width ∷ widths) = width

-- blanks behind a field of so many bytes: up to the width of its column, and two more
abbrev pub blanks_behind : List ℕ → ℕ → List ℕ
blanks_behind widths count = repeat (first_width widths - count + 2) (codes " ")

-- bytes of records whose columns have these widths, from a field on whose column and those behind it have these, and of
-- which so many bytes came: blanks stand in the place of each comma
abbrev pub columns_from : List ℕ → List ℕ → ℕ → List ℕ → List ℕ
columns_from all widths count [] = []
columns_from all widths count (byte ∷ bytes) =
    if byte == 44 then blanks_behind widths count ++ columns_from all (drop 1 widths) 0 bytes
    else (if byte == 10 then 10 ∷ columns_from all all 0 bytes
    else byte ∷ columns_from all widths (count + 1) bytes)

-- records, whose columns have these widths
abbrev pub columns_of : List ℕ → List ℕ → List ℕ
columns_of widths records = columns_from widths widths 0 records

-- the widths of the columns of each list: of a name of a data set 44, of another name 8, of a number 10

abbrev pub groups_widths : List ℕ
groups_widths = 8 ∷ 7 ∷ 10 ∷ 10 ∷ []

abbrev pub volumes_widths : List ℕ
volumes_widths = 6 ∷ 8 ∷ 6 ∷ 10 ∷ 10 ∷ 10 ∷ 4 ∷ 3 ∷ 11 ∷ []

abbrev pub classes_widths : List ℕ
classes_widths = 8 ∷ 8 ∷ 4 ∷ 8 ∷ 9 ∷ 8 ∷ 5 ∷ 10 ∷ 12 ∷ 7 ∷ []

abbrev pub sets_widths : List ℕ
sets_widths = 44 ∷ 8 ∷ 8 ∷ 8 ∷ 8 ∷ 7 ∷ 10 ∷ 7 ∷ []

abbrev pub extents_widths : List ℕ
extents_widths = 44 ∷ 6 ∷ 10 ∷ 10 ∷ []
