-- What is written of the connections that were served (docs/manual/http.md, "The program").
use Rattle.std.specs.Prelude.{ℕ, ◌+◌, true, false, List, [], ◌∷◌, ◌++◌, length, flat_map, decimal, codes}
use Rattle.http_talk.specs.declared.end.End.{End}
use Rattle.http_talk.specs.declared.end.End.TheVariants as ends
use Rattle.sms_script.specs.AnswerText.{end_text}
use Rattle.sms_script.specs.NameText.{spaced}
use Rattle.serve_door.specs.declared.visit.Visit.{Visit}

-- how a connection ended, in words
abbrev pub end_words : End → List ℕ
end_words (ends.Closed false) = codes "CLOSED"
end_words (ends.Closed true) = codes "CUT"
end_words ends.ReadFault = codes "READ FAULT"
end_words ends.WriteFault = codes "WRITE FAULT"
end_words (ends.Refused status) = codes "REFUSED " ++ decimal status
end_words ends.Turns = codes "TURNS"
end_words ends.NoMemory = codes "MEMORY"

-- the line of a connection: its worker, its number there, and its end
abbrev pub conn_line : ℕ → ℕ → End → List ℕ
conn_line worker index end =
    spaced (codes "CONN" ∷ decimal worker ∷ decimal index ∷ end_words end ∷ []) ++ 10 ∷ []

-- the lines of a worker's connections, from this number on
abbrev pub visit_lines : ℕ → ℕ → List Visit → List ℕ
visit_lines worker index [] = []
visit_lines worker index (visit ∷ visits) =
    conn_line worker index visit.end ++ visit_lines worker (index + 1) visits

-- the lines of the workers from this one on
abbrev pub worker_lines : ℕ → List (List Visit) → List ℕ
worker_lines worker [] = []
worker_lines worker (visits ∷ others) = visit_lines worker 1 visits ++ worker_lines (worker + 1) others

-- a line for each connection, by worker and in their order, and the last line with the number of entries of the desk
-- and that of the connections
abbrev pub served_text : List (List Visit) → ℕ → List ℕ
served_text visits entries =
    worker_lines 1 visits ++ end_text entries (length (flat_map (λ of_door. of_door) visits))
