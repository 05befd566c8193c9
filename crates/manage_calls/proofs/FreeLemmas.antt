-- A script without a reserved line has no reserved request.
use Rattle.std.proofs.Common.{◌≡◌, ◌+◌, ℕ, not, Bool, true, false, List, [], ◌∷◌, refl, inl, inr}
use Rattle.std.specs.Prelude.{Option, None, Some, Result, Ok, Err, IfOk, nat_lt}
use Rattle.std.proofs.lemmas.Bool.{cases_Bool}
use Rattle.sms_construct.specs.declared.request.Request.{Request}
use Rattle.sms_script.specs.Commands.{command_of}
use Rattle.sms_script.specs.Lines.{is_block_end, is_skipped, lines_of, text_of_line}
use Rattle.sms_script.specs.Script.{activation, deck_of, if_few, onto_first, script_from, script_of, with_command}
use Rattle.sms_script.specs.Script.{with_first, with_phase}
use Rattle.sms_script.specs.declared.command.Command.{Command}
use Rattle.sms_script.specs.declared.command.Command.TheVariants.{Activate, Sync, Whole}
use Rattle.sms_script.specs.declared.item.Item.{Item}
use Rattle.sms_script.specs.declared.script_err.ScriptErr.{ScriptErr}
use Rattle.sms_script.specs.declared.script_err.ScriptErr.TheVariants.{TooManyLines}
use Rattle.manage_calls.specs.Reserved.{are_free, if_reserved, is_reserved, kind_of_command, reserved_from}
use Rattle.manage_calls.specs.Reserved.{reserved_line}

-- where it is a script its requests are free
abbrev AreFreeIn : Result (List (List Item)) ScriptErr → Type 0
AreFreeIn script = (phases : List (List Item)) → script ≡ Ok phases → are_free phases ≡ true

first-free : (item : Item) (phases : List (List Item)) → is_reserved item.request ≡ false → are_free phases ≡ true → are_free (onto_first item phases) ≡ true
first-free item [] free more = rw free refl
first-free item (phase ∷ phases) free more = rw free more

with-first-free : (line : ℕ) (request : Request) (script : Result (List (List Item)) ScriptErr) → is_reserved request ≡ false → AreFreeIn script → AreFreeIn (with_first line request script)
with-first-free line request (Ok others) free more phases is =
    let same : onto_first (record { line = line; request = request }) others ≡ phases = cc in
    rw (← same) (first-free (record { line = line; request = request }) others free (more others refl))
with-first-free line request (Err fault) free more phases is = absurd cc

with-phase-free : (script : Result (List (List Item)) ScriptErr) → AreFreeIn script → AreFreeIn (with_phase script)
with-phase-free (Ok others) more phases is =
    let same : [] ∷ others ≡ phases = cc in
    rw (← same) (more others refl)
with-phase-free (Err fault) more phases is = absurd cc

few-free : (count line : ℕ) (script : Result (List (List Item)) ScriptErr) → AreFreeIn script → AreFreeIn (if_few count line script)
few-free count line script more phases is = elim (cases_Bool (nat_lt count 100000)) [
  | inl few ↦ more phases (rw few at is)
  | inr many ↦ let bad : Err (TooManyLines line) ≡ Ok phases = rw many at is in absurd cc
]

command-free : (count line : ℕ) (command : Option Command) (deck : Option (List ℕ)) (others : Bool → Result (List (List Item)) ScriptErr) (reserved : Bool → Option ℕ)
    → ((in_block : Bool) → reserved in_block ≡ None → AreFreeIn (others in_block)) → if_reserved (kind_of_command command) line reserved ≡ None → AreFreeIn (with_command count line command deck others)
command-free count line None deck others reserved more none = λ phases is. absurd cc
command-free count line (Some Sync) deck others reserved more none = few-free count line _ (with-phase-free (others false) (more false none))
command-free count line (Some (Activate number)) None others reserved more none = λ phases is. absurd cc
command-free count line (Some (Activate number)) (Some deck) others reserved more none = few-free count line _ (with-first-free line (activation number deck) (others true) refl (more true none))
command-free count line (Some (Whole request)) deck others reserved more none = elim (cases_Bool (is_reserved request)) [
  | inl is ↦ let bad : Some line ≡ None = rw is at none in absurd cc
  | inr isnt ↦ few-free count line _ (with-first-free line request (others false) isnt (more false (rw isnt at none)))
]

lines-free : (in_block : Bool) (count line : ℕ) (lines : List (List ℕ)) → reserved_from in_block line lines ≡ None → AreFreeIn (script_from in_block count line lines)
lines-free in_block count line [] none = λ phases is. let same : [] ∷ [] ≡ phases = cc in rw (← same) refl
lines-free true count line (first ∷ lines) none = lines-free (not (is_block_end first)) count (line + 1) lines none
lines-free false count line (first ∷ lines) none = elim (cases_Bool (is_skipped (text_of_line first))) [
  | inl is ↦ λ phases script. lines-free false count (line + 1) lines (rw is at none) phases (rw is at script)
  | inr isnt ↦ λ phases script.
      command-free count line (command_of (text_of_line first)) (deck_of lines) (λ in_block. script_from in_block (count + 1) (line + 1) lines) (λ in_block. reserved_from in_block (line + 1) lines)
      (λ in_block rest. lines-free in_block (count + 1) (line + 1) lines rest) (rw isnt at none) phases (rw isnt at script)
]

-- a script that a day may follow is free
pub script-free : (bytes : List ℕ) (phases : List (List Item)) → reserved_line bytes ≡ None → script_of bytes ≡ Ok phases → are_free phases ≡ true
script-free bytes phases none script = lines-free false 0 1 (lines_of bytes) none phases script

-- what was read of it has no reserved request
pub managed-free : (bytes : List ℕ) (script : Result (List (List Item)) ScriptErr) → reserved_line bytes ≡ None → IfOk script (λ phases. script_of bytes ≡ Ok phases) → IfOk script (λ phases. are_free phases ≡ true)
managed-free bytes (Ok phases) none is = script-free bytes phases none is
managed-free bytes (Err fault) none is = tt
