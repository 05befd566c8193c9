-- The answer to a number that is below its floor, or that came before (docs/manual/records.md, "Kept replies").
use Rattle.std.specs.Prelude.{ℕ, ◌≡◌, ◌⊎◌, true, false, None}
use Rattle.sms_construct.specs.declared.entry.Answer.{Answer}
use Rattle.sms_construct.specs.declared.reply.Reply.TheVariants as replies
use Rattle.sms_construct.specs.declared.request.Request.{Request}
use Rattle.sms_keeper.specs.Log.{LogView, IsOther, IsSame, floor_in, is_below, kept_in, key_of}

-- the number is below the floor of its job, which is told
pub record RecallsFloor (log : LogView) (request : Request) (answer : Answer) : Type 0 where
  pub below : is_below log request ≡ true
  pub reply_is : answer.reply ≡ replies.Below (floor_in request.job log.floors)
  pub first_is : answer.first ≡ answer.place

-- an equal op was kept: the answer is its reply, and the place at which it was given
pub record RecallsReply (log : LogView) (request : Request) (answer : Answer) : Type 0 where
  pub above : is_below log request ≡ false
  pub same : IsSame (kept_in (key_of request) log.kept) request.op answer.first answer.reply

-- another op was kept: its place is told
pub record RecallsOther (log : LogView) (request : Request) (answer : Answer) : Type 0 where
  pub above : is_below log request ≡ false
  pub place : ℕ
  pub other : IsOther (kept_in (key_of request) log.kept) request.op place
  pub reply_is : answer.reply ≡ replies.Reused place
  pub first_is : answer.first ≡ answer.place

-- the answer is what the log has for the request
abbrev pub Recalls : LogView → Request → Answer → Type 0
Recalls log request answer =
    RecallsFloor log request answer ⊎ (RecallsReply log request answer ⊎ RecallsOther log request answer)

-- the number is fresh
pub record IsUnknown (log : LogView) (request : Request) : Type 0 where
  pub above : is_below log request ≡ false
  pub none : kept_in (key_of request) log.kept ≡ None
