-- For which requests no commit is made, at worked examples.
use Rattle.std.proofs.Common.{◌≡◌, ℕ, Bool, true, false, List, [], ◌∷◌, refl}
use Rattle.std.specs.Prelude.{codes}
use Rattle.sms_construct.specs.declared.entry.Entry.{Entry}
use Rattle.sms_construct.specs.declared.reply.Reply.TheVariants as replies
use Rattle.sms_construct.specs.declared.request.Op.TheVariants as ops
use Rattle.desk_law.specs.Records.{empty_opening}
use Rattle.sms_core.specs.Core.{needs_no_commit}

-- a PURGE of JOB1 to its own number, 2
abbrev purged : List Entry
purged = record {
  request = record { job = codes "JOB1"; number = 2; op = ops.Purge (codes "JOB1") 2 };
  answer = record { place = 1; first = 1; reply = replies.Purged (codes "JOB1") 2 };
} ∷ []

-- whether the request of JOB1 with this number is answered without a commit behind it
abbrev idle : ℕ → Bool
idle number = needs_no_commit empty_opening purged (record { job = codes "JOB1"; number = number; op = ops.Delete (codes "A.B") })

-- below the floor, and not kept
below : idle 1 ≡ true
below = refl

-- kept, and not below the floor
kept : idle 2 ≡ true
kept = refl

-- neither
fresh : idle 3 ≡ false
fresh = refl
