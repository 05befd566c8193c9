-- Whole histories at worked examples.
use Rattle.std.proofs.Common.{◌≡◌, ℕ, true, false, List, [], ◌∷◌, refl, ap, arith, inl, inr}
use Rattle.std.specs.Prelude.{bytes_eq, codes, None}
use Rattle.sms_construct.specs.Quantities.{IsSpace}
use Rattle.sms_construct.specs.declared.entry.Entry.{Entry}
use Rattle.sms_construct.specs.declared.reply.Reply.{Reply}
use Rattle.sms_construct.specs.declared.reply.Reply.TheVariants as replies
use Rattle.sms_construct.specs.declared.request.Op.{Op}
use Rattle.sms_construct.specs.declared.request.Op.TheVariants as ops
use Rattle.sms_construct.specs.declared.unit.Unit.TheVariants.{Trk}
use Rattle.desk_law.specs.State.{Opening}
use Rattle.desk_law.specs.Kept.{floor_of, kept_for}
use Rattle.desk_law.specs.Records.{decks_of, empty_opening}
use Rattle.desk_law.specs.Rule.{IsSoundAlloc}
use Rattle.desk_law.specs.History.{Reaches}
use Rattle.desk_law.proofs.ExampleDecks.{asks, new_desk}

abbrev asks_for : List ℕ → Op
asks_for dsn = ops.Alloc (record (asks Trk 1 0) { input = record (asks Trk 1 0).input { dsn = dsn } })

abbrev pub entry : List ℕ → ℕ → Op → ℕ → ℕ → Reply → Entry
entry job number op place first reply = record { request = record { job = job; number = number; op = op }; answer = record { place = place; first = first; reply = reply } }

-- no configuration is active: a number is used, used for another op, purged, refused below the floor; a lower purge
-- leaves the floor
abbrev numbers : List Entry
numbers =
    entry (codes "JOB1") 5 (asks_for (codes "A.B")) 1 1 replies.NoConfig
    ∷ entry (codes "JOB1") 5 (asks_for (codes "A.C")) 2 2 (replies.Reused 1)
    ∷ entry (codes "SMSADMIN") 1 (ops.Purge (codes "JOB1") 6) 3 3 (replies.Purged (codes "JOB1") 6)
    ∷ entry (codes "JOB1") 5 (asks_for (codes "A.B")) 4 4 (replies.Below 6)
    ∷ entry (codes "SMSADMIN") 2 (ops.Purge (codes "JOB1") 3) 5 5 (replies.Purged (codes "JOB1") 6)
    ∷ []

space : IsSpace (record { unit = Trk; primary = 1; secondary = 0 })
space = record { some = omega arith; primary = omega arith; secondary = omega arith }

sound : (dsn : List ℕ) → IsSoundAlloc (record (asks Trk 1 0) { input = record (asks Trk 1 0).input { dsn = dsn } })
sound dsn = record { space = space; volumes = tt }

abbrev asked : Op → List ℕ
asked (ops.Alloc alloc) = alloc.input.dsn
asked _ = []

other-name : asks_for (codes "A.C") ≡ asks_for (codes "A.B") → ⊥
other-name e =
    let bad : true ≡ false = ap (λ (op : Op). bytes_eq (codes "A.C") (asked op)) e in absurd cc

numbers-reach : Reaches empty_opening numbers new_desk
numbers-reach = (
  new_desk,
  record {
    few = omega arith;
    few_activations = λ e. absurd cc;
    number = (omega arith, omega arith);
    sound = sound (codes "A.B");
    place = refl;
    entered = refl;
    answer = record { first_is = refl; answer = inr (record { reply_is = refl; after_is = refl }) };
  },
  (
    new_desk,
    record {
      few = omega arith;
      few_activations = λ e. absurd cc;
      number = (omega arith, omega arith);
      sound = sound (codes "A.C");
      place = refl;
      entered = refl;
      answer = record { answer = inr (record { other = other-name; reply_is = refl; first_is = refl }); after_is = refl };
    },
    (
      new_desk,
      record {
        few = omega arith;
        few_activations = λ e. absurd cc;
        number = (omega arith, omega arith);
        sound = (omega arith, omega arith);
        place = refl;
        entered = refl;
        answer = record { first_is = refl; answer = inr (record { reply_is = refl; after_is = refl }) };
      },
      (
        new_desk,
        record {
          few = omega arith;
          few_activations = λ e. absurd cc;
          number = (omega arith, omega arith);
          sound = sound (codes "A.B");
          place = refl;
          entered = refl;
          answer = record { reply_is = refl; first_is = refl; after_is = refl };
        },
        (
          new_desk,
          record {
            few = omega arith;
            few_activations = λ e. absurd cc;
            number = (omega arith, omega arith);
            sound = (omega arith, omega arith);
            place = refl;
            entered = refl;
            answer = record { first_is = refl; answer = inr (record { reply_is = refl; after_is = refl }) };
          },
          refl,
        ),
      ),
    ),
  ),
)

-- a refusal is kept: the repeat has the place of the first
abbrev refused_twice : List Entry
refused_twice =
    entry (codes "JOB1") 1 (asks_for (codes "A.B")) 1 1 replies.NoConfig
    ∷ entry (codes "JOB1") 1 (asks_for (codes "A.B")) 2 1 replies.NoConfig
    ∷ []

refused-twice-reaches : Reaches empty_opening refused_twice new_desk
refused-twice-reaches = (
  new_desk,
  record {
    few = omega arith;
    few_activations = λ e. absurd cc;
    number = (omega arith, omega arith);
    sound = sound (codes "A.B");
    place = refl;
    entered = refl;
    answer = record { first_is = refl; answer = inr (record { reply_is = refl; after_is = refl }) };
  },
  (
    new_desk,
    record {
      few = omega arith;
      few_activations = λ e. absurd cc;
      number = (omega arith, omega arith);
      sound = sound (codes "A.B");
      place = refl;
      entered = refl;
      answer = record { answer = inl (record { same = refl; reply_is = refl; first_is = refl }); after_is = refl };
    },
    refl,
  ),
)

-- a fault of the keeper isn't kept, and the number is still fresh
abbrev faulty : List Entry
faulty = entry (codes "JOB1") 1 (asks_for (codes "A.B")) 1 1 replies.KeeperFault ∷ []

still_fresh : kept_for empty_opening faulty (codes "JOB1") 1 ≡ None
still_fresh = refl

-- floors are a job's own
floor_of_job : floor_of empty_opening numbers (codes "JOB1") ≡ 6
floor_of_job = refl

no_floor : floor_of empty_opening numbers (codes "JOB2") ≡ 0
no_floor = refl

-- an activation gives its deck, and a repeat of it none
abbrev activated_twice : List Entry
activated_twice = entry (codes "SMSADMIN") 1 (ops.Activate (codes "D")) 1 1 (replies.Activated 1) ∷ entry (codes "SMSADMIN") 1 (ops.Activate (codes "D")) 2 1 (replies.Activated 1) ∷ []

one_deck : decks_of activated_twice ≡ record { count = 1; bytes = codes "D" } ∷ []
one_deck = refl

-- an opening with a floor and a kept reply, whose places end at 7
abbrev opened : Opening
opened = record {
  rows = record {
    sets = [];
    replies = record { job = codes "JOB1"; number = 9; place = 7; request = record { job = codes "JOB1"; number = 9; op = asks_for (codes "A.B") }; reply = replies.NoConfig } ∷ [];
    decks = [];
    statuses = [];
    floors = record { job = codes "JOB1"; floor = 4 } ∷ [];
  };
  config = None;
  base = 7;
}

-- its floor stands, and a greater one that was answered since
opened_floor : floor_of opened [] (codes "JOB1") ≡ 4
opened_floor = refl

later_floor : floor_of opened numbers (codes "JOB1") ≡ 6
later_floor = refl

-- its reply is kept, and repeated with its place
opened-reaches : Reaches opened (entry (codes "JOB1") 9 (asks_for (codes "A.B")) 8 7 replies.NoConfig ∷ []) new_desk
opened-reaches = (
  new_desk,
  record {
    few = omega arith;
    few_activations = λ e. absurd cc;
    number = (omega arith, omega arith);
    sound = sound (codes "A.B");
    place = refl;
    entered = refl;
    answer = record { answer = inl (record { same = refl; reply_is = refl; first_is = refl }); after_is = refl };
  },
  refl,
)

-- a fault of the keeper is an entry, and the same request is fresh behind it
abbrev fault_and_retry : List Entry
fault_and_retry =
    entry (codes "JOB1") 1 (asks_for (codes "A.B")) 1 1 replies.KeeperFault
    ∷ entry (codes "JOB1") 1 (asks_for (codes "A.B")) 2 2 replies.NoConfig
    ∷ []

fault-and-retry-reaches : Reaches empty_opening fault_and_retry new_desk
fault-and-retry-reaches = (
  new_desk,
  record {
    few = omega arith;
    few_activations = λ e. absurd cc;
    number = (omega arith, omega arith);
    sound = sound (codes "A.B");
    place = refl;
    entered = refl;
    answer = record { first_is = refl; answer = inl (record { reply_is = refl; after_is = refl }) };
  },
  (
    new_desk,
    record {
      few = omega arith;
      few_activations = λ e. absurd cc;
      number = (omega arith, omega arith);
      sound = sound (codes "A.B");
      place = refl;
      entered = refl;
      answer = record { first_is = refl; answer = inr (record { reply_is = refl; after_is = refl }) };
    },
    refl,
  ),
)
