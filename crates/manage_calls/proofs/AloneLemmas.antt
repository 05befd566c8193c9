-- A line as a script of its own.
use Rattle.std.proofs.Common.{◌≡◌, ◌==◌, ◌⊎◌, ℕ, List, [], ◌∷◌, refl, ◌∙◌, inl, inr}
use Rattle.std.specs.Prelude.{Option, None, Some, Result, Ok, Err, IfOk}
use Rattle.std.proofs.lemmas.Bool.{cases_Bool}
use Rattle.desk_common.specs.Words.{onto}
use Rattle.sms_script.specs.Commands.{command_of}
use Rattle.sms_script.specs.Lines.{is_skipped, lines_of, text_of_line}
use Rattle.sms_script.specs.Script.{IsRefusal, script_from, script_of, with_command}
use Rattle.sms_script.specs.declared.command.Command.{Command}
use Rattle.sms_script.specs.declared.command.Command.TheVariants.{Activate, Sync, Whole}
use Rattle.sms_script.specs.declared.item.Item.{Item}
use Rattle.sms_script.specs.declared.script_err.ScriptErr.{ScriptErr}
use Rattle.manage_calls.specs.Inner.LineAlone.{kind_told}
use Rattle.manage_calls.specs.declared.line_kind.LineKind.{LineKind}
use Rattle.manage_calls.specs.Reserved.{is_reserved, kind_of, kind_of_command}

-- The first line of a text has just itself as its lines.

onto-head : (byte : ℕ) (lines : List (List ℕ)) (line : List ℕ) (more : List (List ℕ)) → onto byte lines ≡ line ∷ more → (lines ≡ []) × (line ≡ byte ∷ []) ⊎ ((front : List ℕ) × (lines ≡ front ∷ more) × (line ≡ byte ∷ front))
onto-head byte [] line more is = inl (refl, cc)
onto-head byte (front ∷ lines) line more is = inr (front, cc, cc)

pub alone : (text line : List ℕ) (more : List (List ℕ)) → lines_of text ≡ line ∷ more → lines_of line ≡ line ∷ []
alone [] line more is = absurd cc
alone (byte ∷ text) line more is = elim (cases_Bool (byte == 10)) [
  | inl end ↦
      let here : (byte ∷ []) ∷ lines_of text ≡ line ∷ more = rw end at is in
      let same : byte ∷ [] ≡ line = cc in
      rw (← same) (rw end refl)
  | inr other ↦
      let here : onto byte (lines_of text) ≡ line ∷ more = rw other at is in
      elim (onto-head byte (lines_of text) line more here) [
        | inl last ↦ rw last.1 (rw other refl)
        | inr further ↦
            let rest : lines_of further.0 ≡ further.0 ∷ [] = alone text further.0 more further.1 in
            rw further.2 (rw (other, rest) refl)
      ]
]

-- What its script tells.

told-command : (command : Option Command) → kind_told (with_command 0 1 command None (λ in_block. script_from in_block 1 2 [])) ≡ kind_of_command command
told-command None = refl
told-command (Some Sync) = refl
told-command (Some (Activate number)) = refl
told-command (Some (Whole request)) = elim (cases_Bool (is_reserved request)) [
  | inl is ↦ rw is refl
  | inr isnt ↦ rw isnt refl
]

pub line-told : (line : List ℕ) → lines_of line ≡ line ∷ [] → kind_told (script_of line) ≡ kind_of line
line-told line one = rw one (elim (cases_Bool (is_skipped (text_of_line line))) [
  | inl is ↦ rw is refl
  | inr isnt ↦ rw isnt (told-command (command_of (text_of_line line)))
])

-- so does its fault
pub refused-told : {E : Type 0} (line : List ℕ) (told : Result LineKind E) (fault : ScriptErr) → lines_of line ≡ line ∷ [] → IsRefusal (script_of line) fault
    → IfOk told (λ kind. (read : Result (List (List Item)) ScriptErr) → IsRefusal read fault → kind ≡ kind_told read) → IfOk told (λ kind. kind ≡ kind_of line)
refused-told line (Ok kind) fault one refused tells = tells (script_of line) refused ∙ line-told line one
refused-told line (Err e) fault one refused tells = tt
