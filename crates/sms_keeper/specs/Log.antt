-- The log of the replies that are kept, and what it answers (docs/manual/records.md, "Kept replies").
use Rattle.std.specs.Prelude.{◌≡◌, ℕ, Bool, true, false, not, ◌&&◌, ◌==◌, nat_lt, max, List, bytes_eq, Option, Some}
use Rattle.std.specs.Prelude.{None, is_none, unwrap_or, if◌then◌else◌}
use Rattle.std.specs.Map.{lookup}
use Rattle.sms_construct.specs.declared.request.Op.{Op}
use Rattle.sms_construct.specs.declared.request.Request.{Request}
use Rattle.sms_construct.specs.declared.reply.Reply.{Reply}
use Rattle.sms_keeper.specs.declared.kept.Kept.{Kept}
use Rattle.sms_keeper.specs.declared.kept.Kept.TheVariants.{New, Same, Other, Below}
use Rattle.sms_keeper.specs.declared.kept.KeptReply.{KeptReply}
use Rattle.sms_keeper.specs.declared.request_key.RequestKey.{RequestKey}

-- what is kept under each key, the floors by job, and for how many more of each there is room
pub record LogView : Type 0 where
  pub kept : List (RequestKey × KeptReply)
  pub floors : List (List ℕ × ℕ)
  pub reply_room : ℕ
  pub floor_room : ℕ

-- the keys are equal
abbrev pub same_key : RequestKey → RequestKey → Bool
same_key key other = bytes_eq key.job other.job && (key.number == other.number)

-- what is kept under a key
abbrev pub kept_in : RequestKey → List (RequestKey × KeptReply) → Option KeptReply
kept_in key kept = lookup (same_key key) kept

-- the floor of a job, 0 where it has none
abbrev pub floor_in : List ℕ → List (List ℕ × ℕ) → ℕ
floor_in job floors = unwrap_or (lookup (bytes_eq job) floors) 0

-- the key of a request
abbrev pub key_of : Request → RequestKey
key_of request = record { job = request.job; number = request.number }

-- the number of the request is below the floor of its job
abbrev pub is_below : LogView → Request → Bool
is_below log request = nat_lt request.number (floor_in request.job log.floors)

-- an equal op was kept, at this place and with this reply
pub record IsSame (found : Option KeptReply) (op : Op) (first : ℕ) (reply : Reply) : Type 0 where
  pub kept : KeptReply
  pub found_is : found ≡ Some kept
  pub same : op ≡ kept.op
  pub first_is : first ≡ kept.place
  pub reply_is : reply ≡ kept.reply

-- another op was kept, at this place
pub record IsOther (found : Option KeptReply) (op : Op) (first : ℕ) : Type 0 where
  pub kept : KeptReply
  pub found_is : found ≡ Some kept
  pub other : op ≡ kept.op → ⊥
  pub first_is : first ≡ kept.place

-- what is kept for a request: below the floor comes first, then what stands under its key
abbrev pub IsKept : LogView → Request → Kept → Type 0
IsKept log request (Below floor) = (is_below log request ≡ true) × (floor ≡ floor_in request.job log.floors)
IsKept log request New = (is_below log request ≡ false) × (kept_in (key_of request) log.kept ≡ None)
IsKept log request (Same first reply) =
    (is_below log request ≡ false) × IsSame (kept_in (key_of request) log.kept) request.op first reply.now
IsKept log request (Other first) =
    (is_below log request ≡ false) × IsOther (kept_in (key_of request) log.kept) request.op first

-- a reply may be kept for the request: its number isn't below the floor, and none is kept there
abbrev pub is_open : LogView → Request → Bool
is_open log request = not (is_below log request) && is_none (kept_in (key_of request) log.kept)

-- the reply is kept under the key of its request where one may be kept there
abbrev pub kept_with : LogView → Request → ℕ → Reply → RequestKey → Option KeptReply
kept_with log request place reply key =
    if is_open log request && same_key (key_of request) key
    then Some (record { place = place; op = request.op; reply = reply })
    else kept_in key log.kept

-- the floor of the job is raised to this number; the others stay
abbrev pub floor_with : List (List ℕ × ℕ) → List ℕ → ℕ → List ℕ → ℕ
floor_with floors job floor other =
    if bytes_eq job other then max floor (floor_in job floors) else floor_in other floors
