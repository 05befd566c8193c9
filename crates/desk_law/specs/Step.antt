-- One event of the desk: what an entry may be after the entries before it, and what it does (docs/manual/rules.md,
-- "Order of answers").
use Rattle.std.specs.Prelude.{ℕ, Bool, true, false, ◌≡◌, ◌+◌, ◌<◌, ◌⊎◌, nat_lt, List, length, count_by, MatchOption}
use Rattle.std.specs.Prelude.{MatchBool}
use Rattle.sms_construct.specs.Quantities.{IsRequestNumber}
use Rattle.sms_construct.specs.declared.entry.Entry.{Entry}
use Rattle.sms_construct.specs.declared.reply.Reply.TheVariants as replies
use Rattle.sms_construct.specs.declared.request.Op.{Op}
use Rattle.sms_construct.specs.declared.request.Op.TheVariants as ops
use Rattle.sms_keeper.specs.declared.kept_row.KeptRow.{KeptRow}
use Rattle.desk_law.specs.State.{DeskState, Opening}
use Rattle.desk_law.specs.Limits.{most_activations, most_entries}
use Rattle.desk_law.specs.Kept.{floor_of, is_entered, kept_for}
use Rattle.desk_law.specs.Rule.{IsSound, Rule}

-- the number is below the floor of its job, which is told
pub record IsBelow (floor : ℕ) (s : DeskState) (e : Entry) (after : DeskState) : Type 0 where
  pub reply_is : e.answer.reply ≡ replies.Below floor
  pub first_is : e.answer.first ≡ e.answer.place
  pub after_is : after ≡ s

-- the keeper failed, and nothing changes
pub record IsFault (s : DeskState) (e : Entry) (after : DeskState) : Type 0 where
  pub reply_is : e.answer.reply ≡ replies.KeeperFault
  pub after_is : after ≡ s

-- the number is fresh: the keeper failed, or the rule of the op gives the reply
pub record IsFresh (old_floor : List ℕ → ℕ) (s : DeskState) (e : Entry) (after : DeskState) : Type 0 where
  pub first_is : e.answer.first ≡ e.answer.place
  pub answer : IsFault s e after ⊎ Rule old_floor s e.request.job e.request.op e.answer.reply after

-- the op is equal: the answer is the kept reply, and the place at which it was given
pub record RepeatsReply (kept : KeptRow) (e : Entry) : Type 0 where
  pub same : e.request.op ≡ kept.request.op
  pub reply_is : e.answer.reply ≡ kept.reply
  pub first_is : e.answer.first ≡ kept.place

-- the op is another: the number is refused, and the place of the kept reply told
pub record ReusesNumber (kept : KeptRow) (e : Entry) : Type 0 where
  pub other : e.request.op ≡ kept.request.op → ⊥
  pub reply_is : e.answer.reply ≡ replies.Reused kept.place
  pub first_is : e.answer.first ≡ e.answer.place

-- the number has a kept reply, and nothing changes
pub record IsRepeat (kept : KeptRow) (s : DeskState) (e : Entry) (after : DeskState) : Type 0 where
  pub answer : RepeatsReply kept e ⊎ ReusesNumber kept e
  pub after_is : after ≡ s

-- the op activates a deck
abbrev pub is_activation : Op → Bool
is_activation (ops.Alloc alloc) = false
is_activation (ops.Activate deck) = true
is_activation (ops.Extend dsn) = false
is_activation (ops.Delete dsn) = false
is_activation (ops.Used dsn tracks) = false
is_activation (ops.Release dsn) = false
is_activation (ops.Display target) = false
is_activation (ops.Vary target action) = false
is_activation (ops.Purge job floor) = false

-- an entry of such an op
abbrev pub activates : Entry → Bool
activates e = is_activation e.request.op

-- the entry is lawful after the opening and these entries, which left the desk in the state s, and leaves it in the
-- state after
pub record IsStep (o : Opening) (before : List Entry) (s : DeskState) (e : Entry) (after : DeskState) : Type 0 where
  -- the journal has room for it
  pub few : length before < most_entries
  pub few_activations : activates e ≡ true → count_by activates before < most_activations
  -- its request is one, and its place the next
  pub number : IsRequestNumber e.request.number
  pub sound : IsSound e.request.op
  pub place : e.answer.place ≡ o.base + length before + 1
  pub entered : is_entered e.answer.reply ≡ true
  -- below the floor; fresh; or kept
  pub answer : MatchBool (nat_lt e.request.number (floor_of o before e.request.job))
      (IsBelow (floor_of o before e.request.job) s e after)
      (MatchOption (kept_for o before e.request.job e.request.number) (IsFresh (floor_of o before) s e after)
      (λ kept. IsRepeat kept s e after))
