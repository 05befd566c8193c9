-- What was reached of a routine, as text (docs/manual/tool.md, "Coverage of a script").
use Rattle.std.specs.Prelude.{◌++◌, ◌&&◌, ℕ, Bool, List, [], codes, count_by, decimal, flat_map, nat_lt, if◌then◌else◌}
use Rattle.acs_telling.specs.Sources.{word_at}
use Rattle.acs_telling.specs.Telling.{comparison_text, front_at}
use Rattle.acs_telling.specs.declared.source.Source.{Source}
use Rattle.acs_coverage.specs.Points.{is_of, place_of}
use Rattle.acs_coverage.specs.declared.class.Class.{Class}
use Rattle.acs_coverage.specs.declared.class.Class.TheVariants as classes
use Rattle.acs_coverage.specs.declared.point.Point.{Point}
use Rattle.acs_coverage.specs.declared.point.Point.TheVariants.{Statement, When, Comparison}
use Rattle.acs_coverage.specs.declared.tally.Tally.{Tally}

-- the place of a point, and what stands there
abbrev pub point_front : Source → Point → List ℕ
point_front source (Statement at) = front_at source at ++ word_at source at
point_front source (When at) = front_at source at ++ word_at source at
point_front source (Comparison left op right) = front_at source right ++ comparison_text source left op right

-- a word, and a count behind it
abbrev pub counted : List ℕ → ℕ → List ℕ
counted word count = word ++ decimal count

-- how often what a point stands for happened
abbrev pub count_text : Point → Tally → List ℕ
count_text (Statement at) tally = counted (codes " RAN ") tally.ran
count_text (When at) tally = counted (codes " TAKEN ") tally.taken
count_text (Comparison left op right) tally =
    counted (codes " TRUE ") tally.held ++ counted (codes " FALSE ") tally.failed

-- the line of a point: where it is, and how often it was reached
abbrev pub point_text : Source → (ℕ → Tally) → Point → List ℕ
point_text source tallies point = point_front source point ++ count_text point (tallies (place_of point)) ++ codes "\n"

-- a statement ran, a WHEN was taken, a comparison held and didn't
abbrev pub is_covered : Point → Tally → Bool
is_covered (Statement at) tally = nat_lt 0 tally.ran
is_covered (When at) tally = nat_lt 0 tally.taken
is_covered (Comparison left op right) tally = nat_lt 0 tally.held && nat_lt 0 tally.failed

-- what never happened at a point that isn't covered
abbrev pub lack_text : Point → Tally → List ℕ
lack_text (Statement at) tally = codes " NEVER RAN"
lack_text (When at) tally = codes " NEVER TAKEN"
lack_text (Comparison left op right) tally =
    if nat_lt 0 tally.held then codes " NEVER FALSE"
    else (if nat_lt 0 tally.failed then codes " NEVER TRUE" else codes " NEVER COMPARED")

-- the line of a point that isn't covered; of another nothing
abbrev pub missed_with : Source → Point → Tally → List ℕ
missed_with source point tally =
    if is_covered point tally then [] else point_front source point ++ lack_text point tally ++ codes "\n"

-- the same, by the counts of all tokens
abbrev pub missed_text : Source → (ℕ → Tally) → Point → List ℕ
missed_text source tallies point = missed_with source point (tallies (place_of point))

-- the point is covered, by the counts of all tokens
abbrev pub is_covered_by : (ℕ → Tally) → Point → Bool
is_covered_by tallies point = is_covered point (tallies (place_of point))

-- the point is of this class, and covered
abbrev pub is_covered_of : Class → (ℕ → Tally) → Point → Bool
is_covered_of class tallies point = is_of class point && is_covered_by tallies point

-- a word, how many points of a class are covered, and how many there are
abbrev pub share_text : List ℕ → Class → List Point → (ℕ → Tally) → List ℕ
share_text word class points tallies =
    counted word (count_by (is_covered_of class tallies) points)
    ++ counted (codes " OF ") (count_by (is_of class) points)

-- how many points of each class are covered
abbrev pub totals_text : List ℕ → List Point → (ℕ → Tally) → List ℕ
totals_text name points tallies =
    name ++ share_text (codes " STATEMENTS ") classes.Statement points tallies
    ++ share_text (codes " WHENS ") classes.When points tallies
    ++ share_text (codes " COMPARISONS BOTH WAYS ") classes.Comparison points tallies ++ codes "\n"

-- what was reached of a routine: each point with its counts, the points that aren't covered, and how many are
abbrev pub coverage_text : List ℕ → Source → List Point → (ℕ → Tally) → List ℕ
coverage_text name source points tallies =
    name ++ codes "\n" ++ flat_map (point_text source tallies) points ++ flat_map (missed_text source tallies) points
    ++ totals_text name points tallies
