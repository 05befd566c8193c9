-- What a step adds to the signed list (docs/manual/workers.md, "The desk").
use Rattle.std.specs.Prelude.{ℕ, ◌≡◌, ◌⊎◌, true, false, List, ◌++◌}
use Rattle.sms_construct.specs.declared.entry.Answer.{Answer}
use Rattle.sms_construct.specs.declared.reply.Reply.TheVariants as replies
use Rattle.sms_construct.specs.declared.request.Request.{Request}
use Rattle.turn_lock.specs.declared.signed.Signed.{Signed}
use Rattle.desk_law.specs.Kept.{is_entered}
use Rattle.desk_records.specs.Full.{is_full_for}
use Rattle.sms_core.specs.Core.{IsNext, entry_of}
use Rattle.sms_keeper.specs.declared.keeper.Keeper.{Ghosts}
use Rattle.desk_signing.specs.declared.event.Event.{Event}
use Rattle.desk_signing.specs.Signing.{by_seat, entries_in, opening_in, signed}
use Rattle.sms_desk.specs.declared.signed_core.SignedCore.{SignedCore}

-- the answer's entry, which is lawful there, joins the list with the number of its seat; an answer without an entry has
-- no place
pub record Adds (old new : List (Signed Event)) (number : ℕ) (request : Request) (answer : Answer) : Type 0 where
  pub list_is : new ≡ old ++ by_seat number (entry_of request answer)
  pub lawful : is_entered answer.reply ≡ true →
      IsNext (opening_in old) (entries_in old) (record { request = request; answer = answer })
  pub no_place : is_entered answer.reply ≡ false → (answer.place ≡ 0) × (answer.first ≡ 0)
  -- that the journal is full is told only where it has no place for the op, and there nothing else is told but want of
  -- memory
  pub full : answer.reply ≡ replies.JournalFull → is_full_for (entries_in old) request.op ≡ true
  pub told : is_full_for (entries_in old) request.op ≡ true →
      (answer.reply ≡ replies.JournalFull) ⊎ (answer.reply ≡ replies.Memory)

module _ {P : Type 0} {keeper : Ghosts P} where
  -- the signed list of a core in a lock
  abbrev pub list_of : SignedCore P keeper → List (Signed Event)
  list_of c = signed c.core.opening c.core.mark c.before c.core.journal c.numbers.items
