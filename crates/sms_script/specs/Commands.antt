-- The commands that the lines of a script write (docs/manual/script.md, "Commands").
use Rattle.std.specs.Prelude.{ℕ, ◌&&◌, Bool, false, List, [], ◌∷◌, length, nat_le, Option, None, Some, bytes_eq, codes}
use Rattle.std.specs.Prelude.{option_map, if◌then◌else◌}
use Rattle.desk_common.specs.Limits.{most_line_bytes}
use Rattle.dsn_mask.specs.Name.{name_of}
use Rattle.sms_script.specs.Found.{◌⊳◌}
use Rattle.sms_script.specs.Ops.{number_in, op_in, upper_words}
use Rattle.sms_script.specs.declared.command.Command.{Command}
use Rattle.sms_script.specs.declared.command.Command.TheVariants.{Activate, Sync, Whole}

-- the job of the administrator's commands
abbrev pub admin : List ℕ
admin = codes "SMSADMIN"

-- the job is the administrator's
abbrev pub is_admin : List ℕ → Bool
is_admin job = bytes_eq job admin

-- the word ACTIVATE alone
abbrev pub is_activate : List (List ℕ) → Bool
is_activate [] = false
is_activate (word ∷ []) = bytes_eq word (codes "ACTIVATE")
is_activate (word ∷ other ∷ words) = false

-- a job, a request number and an op
abbrev pub request_of : List ℕ → List ℕ → List (List ℕ) → Option Command
request_of job number words =
    name_of job ⊳ λ name.
    number_in number ⊳ λ n.
    op_in (is_admin job) words ⊳ λ op.
    Some (Whole (record { job = name; number = n; op = op }))

-- SYNC, SMSADMIN number ACTIVATE, or a request
abbrev pub command_in : List (List ℕ) → Option Command
command_in [] = None
command_in (word ∷ []) = if bytes_eq word (codes "SYNC") then Some Sync else None
command_in (job ∷ number ∷ words) =
    if is_admin job && is_activate words then option_map (λ n. Activate n) (number_in number)
    else request_of job number words

-- the command that a line of at most 4,096 bytes writes
abbrev pub command_of : List ℕ → Option Command
command_of text = if nat_le (length text) most_line_bytes then command_in (upper_words text) else None
