-- What happens in a run, as text (docs/manual/tool.md, "Explaining a script").
use Rattle.std.specs.Prelude.{◌+◌, ◌++◌, ℕ, Bool, true, false, List, [], bytes_eq, codes, decimal, flat_map}
use Rattle.std.specs.Prelude.{if◌then◌else◌}
use Rattle.acs_places.specs.declared.place.Place.{Place}
use Rattle.acs_trace.specs.declared.event.Event.{Event}
use Rattle.acs_trace.specs.declared.event.Event.TheVariants.{Ran, Compared, Taken, Set, Wrote, Exited}
use Rattle.acs_tree.specs.declared.routine.Compare.{Compare}
use Rattle.acs_tree.specs.declared.routine.Compare.TheVariants.{Eq, Ne, Gt, Lt, Ge, Le, Ng, Nl}
use Rattle.acs_telling.specs.Sources.{spot_at, word_at}
use Rattle.acs_telling.specs.declared.source.Source.{Source}

-- the word of a comparison
abbrev pub compare_word : Compare → List ℕ
compare_word Eq = codes "EQ"
compare_word Ne = codes "NE"
compare_word Gt = codes "GT"
compare_word Lt = codes "LT"
compare_word Ge = codes "GE"
compare_word Le = codes "LE"
compare_word Ng = codes "NG"
compare_word Nl = codes "NL"

-- the word of what held or didn't
abbrev pub truth_word : Bool → List ℕ
truth_word true = codes "TRUE"
truth_word false = codes "FALSE"

-- a text between quotes
abbrev pub quoted : List ℕ → List ℕ
quoted text = codes "'" ++ text ++ codes "'"

-- a line and a column
abbrev pub place_text : Place → List ℕ
place_text place = decimal place.line ++ codes ":" ++ decimal place.column

-- the front of a line about the token with this number
abbrev pub front_at : Source → ℕ → List ℕ
front_at source number = codes "  " ++ place_text (spot_at source number).place ++ codes " "

-- the index in parentheses that begins with the token of this number; another token begins none
abbrev pub index_at : Source → ℕ → List ℕ
index_at source number =
    if bytes_eq (word_at source number) (codes "(")
    then word_at source number ++ word_at source (number + 1) ++ word_at source (number + 2) else []

-- the operand that begins with the token of this number, and its index if it has one
abbrev pub operand_at : Source → ℕ → List ℕ
operand_at source number = word_at source number ++ index_at source (number + 1)

-- the comparison of what begins at two tokens
abbrev pub comparison_text : Source → ℕ → Compare → ℕ → List ℕ
comparison_text source left op right =
    operand_at source left ++ codes " " ++ compare_word op ++ codes " " ++ operand_at source right

-- whether a comparison held, and what the variable held
abbrev pub found_text : Bool → List ℕ → List ℕ
found_text holds value = codes " " ++ truth_word holds ++ codes " " ++ quoted value

-- what happens, without its line end
abbrev pub event_line : Source → Event → List ℕ
event_line source (Ran at) = front_at source at ++ word_at source at
event_line source (Compared left op right value holds) =
    front_at source right ++ comparison_text source left op right ++ found_text holds value
event_line source (Taken at) = front_at source at ++ word_at source at ++ codes " TAKEN"
event_line source (Set target value) = front_at source target ++ operand_at source target ++ codes " = " ++ quoted value
event_line source (Wrote line) = codes "  WROTE " ++ quoted line
event_line source (Exited code) = codes "  EXITED " ++ decimal code

-- a line of what happens
abbrev pub event_text : Source → Event → List ℕ
event_text source event = event_line source event ++ codes "\n"

-- what happens, a line each
abbrev pub events_text : Source → List Event → List ℕ
events_text source events = flat_map (event_text source) events
