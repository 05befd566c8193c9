-- What words ask for, by the command that reads them (docs/manual/smsd.md, "Words").
use Rattle.std.specs.Prelude.{◌≡◌, ◌⊎◌, ℕ, Bool, true, false, List, [], Option, None, Some, codes, bytes_eq, is_some}
use Rattle.std.specs.Prelude.{if◌then◌else◌, nat_le, option_and_then, option_map, unwrap_or}
use Rattle.std.specs.Option.{option_map_or}
use Rattle.acs_tree.specs.Numbers.{within}
use Rattle.clap.specs.Words.{IsAmong, Row, Text, fault_of, first_of, subcommand_of}
use Rattle.clap.specs.declared.error.kind.ErrorKind.{ErrorKind}
use Rattle.clap.specs.declared.error.kind.ErrorKind.TheVariants as kind
use Rattle.desk_common.specs.Limits.{last_day}
use Rattle.dsn_mask.specs.MaskText.{mask_of}
use Rattle.dsn_mask.specs.Name.{name_of, volser_of}
use Rattle.sms_construct.specs.Numbers.{small_number_of}
use Rattle.smsd_words.specs.Command.{smsd}
use Rattle.store_report.specs.declared.format.Format.{Format}
use Rattle.store_report.specs.declared.format.Format.TheVariants.{Csv, Json}
use Rattle.store_report.specs.declared.format.Format.TheVariants as formats
use Rattle.store_report.specs.declared.listing.Listing.{Listing}
use Rattle.store_report.specs.declared.listing.Listing.TheVariants.{Groups, Volumes, Classes, Sets, Extents}
use Rattle.store_report.specs.declared.query.Query.{Query}
use Rattle.store_report.specs.declared.selection.Selection.{Selection}
use Rattle.smsd_words.specs.declared.running.Running.{Running}
use Rattle.smsd_words.specs.declared.serving.Serving.{Serving}
use Rattle.smsd_words.specs.declared.task.Asked.{Asked}
use Rattle.smsd_words.specs.declared.task.Task.{Task}
use Rattle.smsd_words.specs.declared.task.Task.TheVariants as tasks
use Rattle.smsd_words.specs.declared.words_err.WordsErr.{WordsErr}
use Rattle.smsd_words.specs.declared.words_err.WordsErr.TheVariants as errs

-- the store that these rows name, and `desk.db` where they name none
abbrev pub store_of : List Row → Text
store_of rows = unwrap_or (first_of (codes "store") rows) (codes "desk.db")

-- the flag of this name is set among these rows
abbrev pub is_set : Text → List Row → Bool
is_set name rows = option_map_or (λ value. bytes_eq value (codes "true")) (first_of name rows) false

-- the listing that a word names
abbrev pub listing_named : Text → Option Listing
listing_named word =
    if bytes_eq word (codes "groups") then Some Groups
    else if bytes_eq word (codes "volumes") then Some Volumes
    else if bytes_eq word (codes "classes") then Some Classes
    else if bytes_eq word (codes "sets") then Some Sets
    else if bytes_eq word (codes "extents") then Some Extents else None

-- the listing that these rows name
abbrev pub listing_in : List Row → Option Listing
listing_in rows = option_and_then listing_named (first_of (codes "what") rows)

-- the form that a word names; comma-separated values where there is none
abbrev pub format_named : Option Text → Option Format
format_named None = Some Csv
format_named (Some word) =
    if bytes_eq word (codes "csv") then Some Csv
    else if bytes_eq word (codes "json") then Some Json
    else if bytes_eq word (codes "text") then Some formats.Text else None

-- the form that these rows name
abbrev pub format_in : List Row → Option Format
format_in rows = format_named (first_of (codes "format") rows)

-- what a word is by this reading, if it is anything; nothing is asked where there is no word
abbrev pub read_if : {A : Type 0} → (Text → Option A) → Option Text → Option (Option A)
read_if read None = Some None
read_if read (Some word) = option_map (λ value. Some value) (read word)

-- the mask, the storage group and the volume that these rows name

abbrev pub mask_in : List Row → Option (Option Text)
mask_in rows = read_if mask_of (first_of (codes "mask") rows)

abbrev pub group_in : List Row → Option (Option Text)
group_in rows = read_if name_of (first_of (codes "group") rows)

abbrev pub volume_in : List Row → Option (Option Text)
volume_in rows = read_if volser_of (first_of (codes "volume") rows)

-- which rows of a list these rows ask for
abbrev pub selection_in : List Row → Option Selection
selection_in rows =
    option_and_then (λ mask.
    option_and_then (λ group.
    option_and_then (λ volume.
    Some (record { mask = mask; group = group; volume = volume }))
    (volume_in rows))
    (group_in rows))
    (mask_in rows)

-- nothing is asked of the rows
abbrev pub is_all : Selection → Bool
is_all selection =
    if is_some selection.mask then false
    else (if is_some selection.group then false else (if is_some selection.volume then false else true))

-- each row of the listing has what is asked of it: data sets and extents a name, a storage group and a volume, volumes a
-- storage group and a serial, storage groups a name, classes nothing
abbrev pub suits : Listing → Selection → Bool
suits Groups selection = if is_some selection.mask then false else (if is_some selection.volume then false else true)
suits Volumes selection = if is_some selection.mask then false else true
suits Classes selection = is_all selection
suits Sets selection = true
suits Extents selection = true

-- this listing, this selection and this form, where the listing has what is asked of its rows
abbrev pub query_with : Listing → Selection → Format → Option Query
query_with listing selection format =
    if suits listing selection
    then Some (record { listing = listing; selection = selection; format = format }) else None

-- what these rows ask of this listing in this form
abbrev pub query_of : Listing → Format → List Row → Option Query
query_of listing format rows = option_and_then (λ selection. query_with listing selection format) (selection_in rows)

-- what these rows ask to be listed
abbrev pub query_in : List Row → Option Query
query_in rows =
    option_and_then (λ listing. option_and_then (λ format. query_of listing format rows) (format_in rows))
    (listing_in rows)

-- the number from 1 to the greatest that a word writes; the usual one where there is no word
abbrev pub number_or : ℕ → ℕ → Option Text → Option ℕ
number_or most usual None = Some usual
number_or most usual (Some word) = within 1 most (small_number_of word)

-- how these rows ask a store to be served
abbrev pub serving_in : List Row → Option Serving
serving_in rows =
    option_and_then (λ port.
    option_and_then (λ connections.
    option_and_then (λ idle.
    Some (record { port = port; connections = connections; idle = idle; log = is_set (codes "log") rows }))
    (number_or 86400 60 (first_of (codes "idle") rows)))
    (number_or 10000 1000 (first_of (codes "connections") rows)))
    (number_or 65535 8080 (first_of (codes "port") rows))

-- a day up to the last
abbrev pub day_of : ℕ → Option ℕ
day_of day = if nat_le day last_day then Some day else None

-- the day that a word names
abbrev pub day_named : Text → Option ℕ
day_named word = option_and_then day_of (small_number_of word)

-- the day that these rows name
abbrev pub day_in : List Row → Option ℕ
day_in rows = option_and_then day_named (first_of (codes "day") rows)

-- the day of space management behind a script that these rows name
abbrev pub managed_in : List Row → Option (Option ℕ)
managed_in rows = read_if day_named (first_of (codes "manage") rows)

-- how these rows ask a script to be answered
abbrev pub running_in : List Row → Option Running
running_in rows =
    option_and_then (λ managed.
    Some (record { volumes = is_set (codes "volumes") rows; strict = is_set (codes "strict") rows; managed = managed }))
    (managed_in rows)

-- the subcommand of this name with these rows asks for this task
abbrev pub AsksTask : Text → List Row → Task → Type 0
AsksTask name rows (tasks.Run script running) =
    (name ≡ codes "run") × (option_map (λ path. path.now) script ≡ first_of (codes "script") rows) ×
    (running_in rows ≡ Some running)
AsksTask name rows (tasks.List query) = (name ≡ codes "list") × (query_in rows ≡ Some query)
AsksTask name rows (tasks.Serve serving) = (name ≡ codes "serve") × (serving_in rows ≡ Some serving)
AsksTask name rows (tasks.Check deck) = (name ≡ codes "check") × (first_of (codes "deck") rows ≡ Some deck.now)
AsksTask name rows (tasks.Manage day dry) =
    (name ≡ codes "manage") × (day_in rows ≡ Some day) × (dry ≡ is_set (codes "dry-run") rows)

-- the subcommand that was found asks for this
pub record Finds (found : Option (Text × List Row)) (asked : Asked) : Type 0 where
  pub name : Text
  pub rows : List Row
  pub subcommand : found ≡ Some (name, rows)
  pub store : asked.store.now ≡ store_of rows
  pub task : AsksTask name rows asked.task

-- by the command the words are free of faults and ask for this
pub record AskFor (words : List Text) (asked : Asked) : Type 0 where
  pub free : fault_of smsd words ≡ []
  pub found : Finds (subcommand_of smsd words) asked

-- the words are answered with a text, of help or of the version
abbrev pub is_text : ErrorKind → Bool
is_text kind.DisplayHelp = true
is_text kind.DisplayVersion = true
is_text _ = false

-- the command finds a fault in the words that is answered with a text, or one that isn't
abbrev pub HasFault : List Text → Bool → Type 0
HasFault words text = (kind : ErrorKind) × IsAmong kind (fault_of smsd words) × (is_text kind ≡ text)

-- the words are free of faults, and ask for nothing
pub record AskNothing (words : List Text) : Type 0 where
  pub free : fault_of smsd words ≡ []
  pub none : (asked : Asked) → Finds (subcommand_of smsd words) asked → ⊥

-- why words ask for no task
abbrev pub Hinders : List Text → WordsErr → Type 0
Hinders words errs.Bad = HasFault words false ⊎ AskNothing words
Hinders words errs.Shown = HasFault words true
Hinders words errs.NoMemory = ⊥

-- why words with an error of this kind ask for no task
abbrev pub err_of : ErrorKind → WordsErr
err_of kind.OutOfMemory = errs.NoMemory
err_of kind.DisplayHelp = errs.Shown
err_of kind.DisplayVersion = errs.Shown
err_of _ = errs.Bad
