-- What a script of one line tells of the line.
use Rattle.std.specs.Prelude.{Bool, List, Result, Ok, Err, if◌then◌else◌}
use Rattle.std.specs.List.{list_any}
use Rattle.sms_script.specs.declared.item.Item.{Item}
use Rattle.sms_script.specs.declared.script_err.ScriptErr.{ScriptErr}
use Rattle.sms_script.specs.declared.script_err.ScriptErr.TheVariants.{BadLine, OpenBlock, TooManyLines, NoMemory}
use Rattle.manage_calls.specs.declared.line_kind.LineKind.{LineKind}
use Rattle.manage_calls.specs.declared.line_kind.LineKind.TheVariants.{Reserved, Opening, Other}
use Rattle.manage_calls.specs.Reserved.{is_reserved}

-- a request of the phases is reserved
abbrev pub has_reserved : List (List Item) → Bool
has_reserved phases = list_any (λ phase. list_any (λ item. is_reserved item.request) phase) phases

-- without an end of its deck block the line opens one
abbrev pub kind_of_fault : ScriptErr → LineKind
kind_of_fault (BadLine line) = Other
kind_of_fault (OpenBlock line) = Opening
kind_of_fault (TooManyLines line) = Other
kind_of_fault NoMemory = Other

-- what the script of the line alone tells of it
abbrev pub kind_told : Result (List (List Item)) ScriptErr → LineKind
kind_told (Ok phases) = if has_reserved phases then Reserved else Other
kind_told (Err fault) = kind_of_fault fault
