-- Histories of PURGE and ACTIVATE, at worked examples.
use Rattle.std.proofs.Common.{◌≡◌, List, [], ◌∷◌, refl, arith, inl, inr}
use Rattle.std.specs.Prelude.{codes, count_by}
use Rattle.sms_construct.specs.declared.entry.Entry.{Entry}
use Rattle.sms_construct.specs.declared.fault.Fault.TheVariants.{Missing}
use Rattle.sms_construct.specs.declared.reply.Reply.TheVariants as replies
use Rattle.sms_construct.specs.declared.request.Op.TheVariants as ops
use Rattle.desk_law.specs.Records.{empty_opening}
use Rattle.desk_law.specs.Step.{activates}
use Rattle.desk_law.specs.History.{Reaches}
use Rattle.desk_law.proofs.ExampleDecks.{new_desk}
use Rattle.desk_law.proofs.StepExamples.{entry}

-- a PURGE that raises the floor of its own job past its own number, and its repeat, which is below the floor now
abbrev own_floor : List Entry
own_floor =
    entry (codes "JOB1") 2 (ops.Purge (codes "JOB1") 5) 1 1 (replies.Purged (codes "JOB1") 5)
    ∷ entry (codes "JOB1") 2 (ops.Purge (codes "JOB1") 5) 2 2 (replies.Below 5)
    ∷ []

own-floor-reaches : Reaches empty_opening own_floor new_desk
own-floor-reaches = (
  new_desk,
  record {
    few = omega arith;
    few_activations = λ e. absurd cc;
    number = (omega arith, omega arith);
    sound = (omega arith, omega arith);
    place = refl;
    entered = refl;
    answer = record { first_is = refl; answer = inr (record { reply_is = refl; after_is = refl }) };
  },
  (
    new_desk,
    record {
      few = omega arith;
      few_activations = λ e. absurd cc;
      number = (omega arith, omega arith);
      sound = (omega arith, omega arith);
      place = refl;
      entered = refl;
      answer = record { reply_is = refl; first_is = refl; after_is = refl };
    },
    refl,
  ),
)

-- a PURGE to its own number: that isn't below the floor, and the repeat gets the kept reply
abbrev own_number : List Entry
own_number =
    entry (codes "JOB1") 2 (ops.Purge (codes "JOB1") 2) 1 1 (replies.Purged (codes "JOB1") 2)
    ∷ entry (codes "JOB1") 2 (ops.Purge (codes "JOB1") 2) 2 1 (replies.Purged (codes "JOB1") 2)
    ∷ []

own-number-reaches : Reaches empty_opening own_number new_desk
own-number-reaches = (
  new_desk,
  record {
    few = omega arith;
    few_activations = λ e. absurd cc;
    number = (omega arith, omega arith);
    sound = (omega arith, omega arith);
    place = refl;
    entered = refl;
    answer = record { first_is = refl; answer = inr (record { reply_is = refl; after_is = refl }) };
  },
  (
    new_desk,
    record {
      few = omega arith;
      few_activations = λ e. absurd cc;
      number = (omega arith, omega arith);
      sound = (omega arith, omega arith);
      place = refl;
      entered = refl;
      answer = record { answer = inl (record { same = refl; reply_is = refl; first_is = refl }); after_is = refl };
    },
    refl,
  ),
)

-- an activation, its repeat, and four that are refused: for the deck, for a volume in use, for the number, for the
-- floor; and another op
abbrev asked : List Entry
asked =
    entry (codes "SMSADMIN") 1 (ops.Activate (codes "D")) 1 1 (replies.Activated 1)
    ∷ entry (codes "SMSADMIN") 1 (ops.Activate (codes "D")) 2 1 (replies.Activated 1)
    ∷ entry (codes "SMSADMIN") 2 (ops.Activate []) 3 3 (replies.Deck (Missing (codes "version")))
    ∷ entry (codes "SMSADMIN") 3 (ops.Activate (codes "E")) 4 4 (replies.VolumeInUse (codes "VOL001"))
    ∷ entry (codes "SMSADMIN") 1 (ops.Activate (codes "E")) 5 5 (replies.Reused 1)
    ∷ entry (codes "SMSADMIN") 4 (ops.Purge (codes "SMSADMIN") 9) 6 6 (replies.Purged (codes "SMSADMIN") 9)
    ∷ entry (codes "SMSADMIN") 5 (ops.Activate (codes "E")) 7 7 (replies.Below 9)
    ∷ []

-- all six count against the most activations of a journal
counted : count_by activates asked ≡ 6
counted = refl
