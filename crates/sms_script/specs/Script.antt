-- A script: the requests that its lines write, phase by phase (docs/manual/script.md).
use Rattle.std.specs.Prelude.{ℕ, ◌+◌, ◌≡◌, List, [], ◌∷◌, ◌++◌, Bool, true, false, not, nat_lt, flat_map, Option, None}
use Rattle.std.specs.Prelude.{Some, Result, Ok, Err, option_map, if◌then◌else◌}
use Rattle.desk_common.specs.Limits.{most_commands}
use Rattle.sms_construct.specs.declared.request.Op.TheVariants.{Activate as ActivateOp}
use Rattle.sms_construct.specs.declared.request.Request.{Request}
use Rattle.sms_script.specs.Lines.{lines_of, text_of_line, is_skipped, is_block_end}
use Rattle.sms_script.specs.Commands.{admin, command_of}
use Rattle.sms_script.specs.declared.command.Command.{Command}
use Rattle.sms_script.specs.declared.command.Command.TheVariants.{Activate, Sync, Whole}
use Rattle.sms_script.specs.declared.item.Item.{Item}
use Rattle.sms_script.specs.declared.script_err.ScriptErr.{ScriptErr}
use Rattle.sms_script.specs.declared.script_err.ScriptErr.TheVariants.{BadLine, OpenBlock, TooManyLines, NoMemory}

-- the deck that stands at the front of these lines: all bytes before the first ./END line, if there is one
abbrev pub deck_of : List (List ℕ) → Option (List ℕ)
deck_of [] = None
deck_of (line ∷ lines) = if is_block_end line then Some [] else option_map (λ deck. line ++ deck) (deck_of lines)

-- the activation of a deck
abbrev pub activation : ℕ → List ℕ → Request
activation number deck = record { job = admin; number = number; op = ActivateOp deck }

-- an item before those of the first phase
abbrev pub onto_first : Item → List (List Item) → List (List Item)
onto_first item [] = (item ∷ []) ∷ []
onto_first item (phase ∷ phases) = (item ∷ phase) ∷ phases

-- a request of this line before the items of the other lines
abbrev pub with_first : ℕ → Request → Result (List (List Item)) ScriptErr → Result (List (List Item)) ScriptErr
with_first line request (Ok phases) = Ok (onto_first (record { line = line; request = request }) phases)
with_first line request (Err fault) = Err fault

-- an empty phase before those of the other lines
abbrev pub with_phase : Result (List (List Item)) ScriptErr → Result (List (List Item)) ScriptErr
with_phase (Ok phases) = Ok ([] ∷ phases)
with_phase (Err fault) = Err fault

-- no more commands than a script may have
abbrev pub if_few : ℕ → ℕ → Result (List (List Item)) ScriptErr → Result (List (List Item)) ScriptErr
if_few count line script = if nat_lt count most_commands then script else Err (TooManyLines line)

-- no command: a fault. A request: it, and then what the lines behind it give. SYNC: a phase ends. ACTIVATE: the
-- activation of its deck, and then what the lines behind the ./END give; without an ./END, a fault
abbrev pub with_command : ℕ → ℕ → Option Command → Option (List ℕ) → (Bool → Result (List (List Item)) ScriptErr) →
    Result (List (List Item)) ScriptErr
with_command count line None deck others = Err (BadLine line)
with_command count line (Some (Whole request)) deck others = if_few count line (with_first line request (others false))
with_command count line (Some Sync) deck others = if_few count line (with_phase (others false))
with_command count line (Some (Activate number)) None others = Err (OpenBlock line)
with_command count line (Some (Activate number)) (Some deck) others =
    if_few count line (with_first line (activation number deck) (others true))

-- the phases of the lines from this number on, behind so many commands, or the first fault; the first line may stand in
-- a deck block
abbrev pub script_from : Bool → ℕ → ℕ → List (List ℕ) → Result (List (List Item)) ScriptErr
script_from in_block count line [] = Ok ([] ∷ [])
script_from true count line (first ∷ lines) = script_from (not (is_block_end first)) count (line + 1) lines
script_from false count line (first ∷ lines) =
    if is_skipped (text_of_line first) then script_from false count (line + 1) lines
    else with_command count line (command_of (text_of_line first)) (deck_of lines)
    (λ in_block. script_from in_block (count + 1) (line + 1) lines)

-- the phases of a script, or its first fault
abbrev pub script_of : List ℕ → Result (List (List Item)) ScriptErr
script_of bytes = script_from false 0 1 (lines_of bytes)

-- the items of all phases, in their order
abbrev pub items_of : List (List Item) → List Item
items_of phases = flat_map (λ phase. phase) phases

-- a refusal says the fault of the script; want of memory says nothing of it
abbrev pub IsRefusal : Result (List (List Item)) ScriptErr → ScriptErr → Type 0
IsRefusal script (BadLine line) = script ≡ Err (BadLine line)
IsRefusal script (OpenBlock line) = script ≡ Err (OpenBlock line)
IsRefusal script (TooManyLines line) = script ≡ Err (TooManyLines line)
IsRefusal script NoMemory = Unit {0}
