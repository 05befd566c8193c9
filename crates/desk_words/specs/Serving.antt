-- What the words of the desk's command line ask to be served (docs/manual/http.md, "The program").
use Rattle.std.specs.Prelude.{ℕ, ◌≤◌, ◌&&◌, List, [], ◌∷◌, Bool, nat_le, Option, None, Some, bytes_eq, codes}
use Rattle.std.specs.Prelude.{if◌then◌else◌}
use Rattle.sms_construct.specs.Numbers.{small_number_of}
use Rattle.sms_script.specs.Found.{◌⊳◌}
use Rattle.desk_common.specs.Limits.{most_workers}
use Rattle.desk_words.specs.declared.served.ServeWords.{ServeWords}

-- the greatest port
abbrev pub most_port : ℕ
most_port = 65535

-- the connections that a worker may serve
abbrev pub most_connections : ℕ
most_connections = 1000000

-- the port, the connections and the workers are within their limits
pub record IsWithinLimits (asked : ServeWords) : Type 0 where
  pub port : (1 ≤ asked.port) × (asked.port ≤ most_port)
  pub connections : (1 ≤ asked.connections) × (asked.connections ≤ most_connections)
  pub workers : (1 ≤ asked.workers) × (asked.workers ≤ most_workers)

-- from 1 to the greatest
abbrev pub is_up_to : ℕ → ℕ → Bool
is_up_to most n = nat_le 1 n && nat_le n most

-- a port, so many connections and so many workers within their limits
abbrev pub serving_of : ℕ → ℕ → ℕ → Option ServeWords
serving_of port connections workers =
    if is_up_to most_port port && (is_up_to most_connections connections && is_up_to most_workers workers)
    then Some (record { port = port; connections = connections; workers = workers })
    else None

-- what two numbers ask of so many workers
abbrev pub serving_by : List ℕ → List ℕ → ℕ → Option ServeWords
serving_by port connections workers =
    small_number_of port ⊳ λ at.
    small_number_of connections ⊳ λ most.
    serving_of at most workers

-- `serve`, a port and a number of connections, for one worker; or `--workers` and their number behind these
abbrev pub serving_in : List (List ℕ) → Option ServeWords
serving_in [] = None
serving_in (word ∷ []) = None
serving_in (word ∷ port ∷ []) = None
serving_in (word ∷ port ∷ connections ∷ []) =
    if bytes_eq word (codes "serve") then serving_by port connections 1 else None
serving_in (word ∷ port ∷ connections ∷ option ∷ []) = None
serving_in (word ∷ port ∷ connections ∷ option ∷ workers ∷ []) =
    if bytes_eq word (codes "serve") && bytes_eq option (codes "--workers")
    then (small_number_of workers ⊳ λ n. serving_by port connections n)
    else None
serving_in (word ∷ port ∷ connections ∷ option ∷ workers ∷ more ∷ words) = None
