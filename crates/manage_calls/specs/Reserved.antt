-- The lines that a run with a day of space management doesn't take (docs/manual/management.md).
use Rattle.std.specs.Prelude.{ℕ, ◌+◌, ◌||◌, Bool, true, false, not, List, [], ◌∷◌, nat_le, Option, None, Some, Result}
use Rattle.std.specs.Prelude.{Ok, Err, bytes_eq, if◌then◌else◌}
use Rattle.std.specs.List.{list_all}
use Rattle.sms_construct.specs.declared.request.Op.{Op}
use Rattle.sms_construct.specs.declared.request.Op.TheVariants.{Purge}
use Rattle.sms_construct.specs.declared.request.Request.{Request}
use Rattle.sms_script.specs.Commands.{command_of}
use Rattle.sms_script.specs.Lines.{is_block_end, is_skipped, lines_of, text_of_line}
use Rattle.sms_script.specs.Script.{items_of, script_of}
use Rattle.sms_script.specs.declared.command.Command.{Command}
use Rattle.sms_script.specs.declared.command.Command.TheVariants.{Activate, Sync, Whole}
use Rattle.sms_script.specs.declared.item.Item.{Item}
use Rattle.sms_script.specs.declared.script_err.ScriptErr.{ScriptErr}
use Rattle.sms_script.specs.declared.script_err.ScriptErr.TheVariants.{BadLine, OpenBlock, TooManyLines, NoMemory}
use Rattle.sms_manage.specs.Managed.{manager}
use Rattle.manage_calls.specs.declared.line_kind.LineKind.{LineKind}
use Rattle.manage_calls.specs.declared.line_kind.LineKind.TheVariants.{Reserved, Opening, Other}

-- the op purges the job of space management
abbrev pub purges_manager : Op → Bool
purges_manager (Purge job floor) = bytes_eq job manager
purges_manager op = false

-- that job asks, or is purged
abbrev pub is_reserved : Request → Bool
is_reserved request = bytes_eq request.job manager || purges_manager request.op

-- what the command of a line is
abbrev pub kind_of_command : Option Command → LineKind
kind_of_command None = Other
kind_of_command (Some Sync) = Other
kind_of_command (Some (Activate number)) = Opening
kind_of_command (Some (Whole request)) = if is_reserved request then Reserved else Other

-- what a line outside the deck blocks is
abbrev pub kind_of : List ℕ → LineKind
kind_of line = if is_skipped (text_of_line line) then Other else kind_of_command (command_of (text_of_line line))

-- a line that is reserved is the first; the line behind another may stand in a deck block
abbrev pub if_reserved : LineKind → ℕ → (Bool → Option ℕ) → Option ℕ
if_reserved Reserved line others = Some line
if_reserved Opening line others = others true
if_reserved Other line others = others false

-- the first reserved line of these, which are counted from this number on; the first of them may stand in a deck block
abbrev pub reserved_from : Bool → ℕ → List (List ℕ) → Option ℕ
reserved_from in_block line [] = None
reserved_from true line (first ∷ lines) = reserved_from (not (is_block_end first)) (line + 1) lines
reserved_from false line (first ∷ lines) =
    if_reserved (kind_of first) line (λ in_block. reserved_from in_block (line + 1) lines)

-- the first reserved line of a script
abbrev pub reserved_line : List ℕ → Option ℕ
reserved_line bytes = reserved_from false 1 (lines_of bytes)

-- of a reserved line and a fault the one that stands first; at one line the reserved one; want of memory stands nowhere
abbrev pub earlier : ℕ → ScriptErr → ScriptErr
earlier line (BadLine other) = if nat_le line other then BadLine line else BadLine other
earlier line (OpenBlock other) = if nat_le line other then BadLine line else OpenBlock other
earlier line (TooManyLines other) = if nat_le line other then BadLine line else TooManyLines other
earlier line NoMemory = NoMemory

-- a reserved line is a fault, unless another stands before it
abbrev pub refused_at : ℕ → Result (List (List Item)) ScriptErr → Result (List (List Item)) ScriptErr
refused_at line (Ok phases) = Err (BadLine line)
refused_at line (Err fault) = Err (earlier line fault)

-- a script without a reserved line is as it is
abbrev pub unless_reserved : Option ℕ → Result (List (List Item)) ScriptErr → Result (List (List Item)) ScriptErr
unless_reserved None script = script
unless_reserved (Some line) script = refused_at line script

-- the phases of a script that a day of space management may follow, or its first fault
abbrev pub managed_script_of : List ℕ → Result (List (List Item)) ScriptErr
managed_script_of bytes = unless_reserved (reserved_line bytes) (script_of bytes)

-- no request of these phases is reserved
abbrev pub are_free : List (List Item) → Bool
are_free phases = list_all (λ item. not (is_reserved item.request)) (items_of phases)
