-- The lines of a trace: kind by kind, what its routine wrote, and then how much more it wrote.
use Rattle.std.specs.Prelude.{ℕ, ◌==◌, List, [], ◌∷◌, ◌++◌, decimal, codes, flat_map, if◌then◌else◌}
use Rattle.acs_tree.specs.declared.kind.Kind.{Kind}
use Rattle.acs_tree.specs.declared.kind.Kind.TheVariants.{DataClas, StorClas, MgmtClas, StorGrp}
use Rattle.acs_tree.specs.declared.line.Line.{Line}
use Rattle.acs_tree.specs.Slates.{more_of, same_kind}
use Rattle.acs_tree.specs.Variables.{name_of}
use Rattle.sms_construct.specs.declared.trace.Trace.{Trace}
use Rattle.sms_script.specs.NameText.{spaced}

-- a written line
abbrev pub write_text : Line → List ℕ
write_text line = spaced (codes "WRITE" ∷ name_of line.kind ∷ line.text ∷ [])

-- a written line, if a routine of this kind wrote it
abbrev pub written_by : Kind → Line → List (List ℕ)
written_by kind line = if same_kind line.kind kind then write_text line ∷ [] else []

-- how many further lines a routine of this kind wrote
abbrev pub more_text : Kind → ℕ → List ℕ
more_text kind count = spaced (codes "MORE" ∷ name_of kind ∷ decimal count ∷ [])

-- the same, if it wrote any
abbrev pub more_lines : Kind → ℕ → List (List ℕ)
more_lines kind count = if count == 0 then [] else more_text kind count ∷ []

-- the lines of one kind of routine
abbrev pub kind_lines : Kind → Trace → List (List ℕ)
kind_lines kind trace = flat_map (written_by kind) trace.lines ++ more_lines kind (more_of kind trace.more)

-- the lines of all kinds, in the order in which the routines run
abbrev pub trace_lines : Trace → List (List ℕ)
trace_lines trace =
    kind_lines DataClas trace ++ (kind_lines StorClas trace ++ (kind_lines MgmtClas trace ++ kind_lines StorGrp trace))
