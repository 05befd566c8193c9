-- A script in parts: what was read, and what is left.
use Rattle.std.specs.Prelude.{ℕ, ◌+◌, List, [], ◌∷◌, ◌++◌, false, Option, Result, Ok, Err}
use Rattle.sms_script.specs.Lines.{lines_of}
use Rattle.sms_script.specs.Script.{deck_of, onto_first, script_from, with_command, with_first, with_phase}
use Rattle.sms_script.specs.declared.command.Command.{Command}
use Rattle.sms_script.specs.declared.item.Item.{Item}
use Rattle.sms_script.specs.declared.next.Found.{Found}
use Rattle.sms_script.specs.declared.next.Found.TheVariants.{Nothing, Asked, PhaseEnd}
use Rattle.sms_script.specs.declared.next.Progress.{Progress}
use Rattle.sms_script.specs.declared.script_err.ScriptErr.{ScriptErr}

-- the script of a text behind so many commands and lines
abbrev pub script_behind : Progress → List ℕ → Result (List (List Item)) ScriptErr
script_behind passed text = script_from false passed.commands (passed.lines + 1) (lines_of text)

-- the script of a command line, behind so many commands, with the text behind it
abbrev pub script_at : ℕ → ℕ → Option Command → List ℕ → Result (List (List Item)) ScriptErr
script_at count line command text =
    with_command count line command (deck_of (lines_of text))
    (λ inside. script_from inside (count + 1) (line + 1) (lines_of text))

-- what a line gives before the phases of the others
abbrev pub found_before : Found → Result (List (List Item)) ScriptErr → Result (List (List Item)) ScriptErr
found_before Nothing script = script
found_before (Asked item) script = with_first item.line item.request script
found_before PhaseEnd script = with_phase script

-- items before those of the first phase
abbrev pub onto_phase : List Item → List (List Item) → List (List Item)
onto_phase [] phases = phases
onto_phase (item ∷ items) phases = onto_first item (onto_phase items phases)

-- phases and the items of one more before those of a script
abbrev pub after : List (List Item) → List Item → Result (List (List Item)) ScriptErr →
    Result (List (List Item)) ScriptErr
after phases items (Ok others) = Ok (phases ++ onto_phase items others)
after phases items (Err fault) = Err fault
