-- The generated script (docs/manual/generator.md).
use Rattle.std.specs.Prelude.{ℕ, zero, suc, ◌+◌, ◌*◌, ◌/◌, ◌%◌, ◌==◌, ◌&&◌, not, Bool, List, [], ◌∷◌, ◌++◌, codes}
use Rattle.std.specs.Prelude.{decimal, flat_map, if◌then◌else◌}
use Rattle.sms_construct.specs.Quantities.{Quantities}
use Rattle.sms_construct.specs.Requests.{plain_alloc}
use Rattle.sms_construct.specs.declared.request.Op.{Op}
use Rattle.sms_construct.specs.declared.request.Op.TheVariants as ops
use Rattle.sms_construct.specs.declared.request.Request.{Request}
use Rattle.sms_construct.specs.declared.unit.Unit.TheVariants.{Trk}
use Rattle.sms_script.specs.Commands.{admin}
use Rattle.sms_script.specs.declared.item.Item.{Item}

-- the lines of the deck
abbrev pub deck_lines : List (List ℕ)
deck_lines =
    codes "version = 1"
    ∷ codes "[storclass.SCGEN]"
    ∷ codes "[storgroup.SGA.volume.GEN001]"
    ∷ codes "device = \"3390-9\""
    ∷ codes "[storgroup.SGB.volume.GEN002]"
    ∷ codes "device = \"3390-9\""
    ∷ codes "[routine]"
    ∷ codes "storclass = \"PROC STORCLAS SET &STORCLAS = 'SCGEN' END\""
    ∷ codes "storgroup = \"PROC STORGRP IF &HLQ = 'GA' THEN SET &STORGRP = 'SGA' ELSE SET &STORGRP = 'SGB' END\""
    ∷ []

-- the deck: its lines, each ended by LF
abbrev pub generated_deck : List ℕ
generated_deck = flat_map (λ line. line ++ 10 ∷ []) deck_lines

-- the first item: the activation of the deck
abbrev pub first_request : Request
first_request = record { job = admin; number = 1; op = ops.Activate generated_deck }

-- the number behind another in the chain
abbrev pub next_number : ℕ → ℕ
next_number number = (number * 1103515245 + 12345) % 2147483648

-- the chain of numbers that a seed begins
abbrev pub number_at : ℕ → ℕ → ℕ
number_at seed zero = seed % 2147483648
number_at seed (suc i) = next_number (number_at seed i)

-- what is drawn for the item at a place
abbrev pub drawn_at : ℕ → ℕ → ℕ
drawn_at seed i = number_at seed i / 65536

-- the data set of a number: one under GA where it is even, and under GB where it is odd
abbrev pub numbered_name : ℕ → List ℕ
numbered_name j = (if j % 2 == 0 then codes "GA.D" else codes "GB.D") ++ decimal j

-- one of ten jobs
abbrev pub job_at : ℕ → List ℕ
job_at i = codes "G" ++ decimal (i % 10)

-- 1 to 50 tracks, and 1 to 7 in each extension
abbrev pub drawn_space : ℕ → Quantities
drawn_space drawn = record { unit = Trk; primary = 1 + drawn % 50; secondary = 1 + drawn % 7 }

-- an ALLOC of the data set of its own number; or an EXTEND or a DELETE of one up to it
abbrev pub drawn_op : ℕ → ℕ → Op
drawn_op i drawn =
    if drawn % 8 == 5 then ops.Extend (numbered_name (1 + drawn % i))
    else (if drawn % 8 == 6 then ops.Delete (numbered_name (1 + drawn % i))
    else ops.Alloc (plain_alloc (numbered_name i) (drawn_space drawn)))

-- a request of its own
abbrev pub drawn_request : ℕ → ℕ → Request
drawn_request i drawn = record { job = job_at i; number = i; op = drawn_op i drawn }

-- the item repeats the one before it; the first drawn one has none before it
abbrev pub repeats : ℕ → ℕ → Bool
repeats i drawn = (drawn % 8 == 7) && not (i == 1)

-- the request behind another
abbrev pub request_behind : Request → ℕ → ℕ → Request
request_behind before i drawn = if repeats i drawn then before else drawn_request i drawn

-- the request at a place of the script
abbrev pub request_at : ℕ → ℕ → Request
request_at seed zero = first_request
request_at seed (suc i) = request_behind (request_at seed i) (suc i) (drawn_at seed (suc i))

-- the item at a place; lines are counted by items, from 1
abbrev pub item_at : ℕ → ℕ → Item
item_at seed i = record { line = i + 1; request = request_at seed i }

-- the items up to a place
abbrev pub items_up_to : ℕ → ℕ → List Item
items_up_to seed zero = item_at seed 0 ∷ []
items_up_to seed (suc i) = items_up_to seed i ++ item_at seed (suc i) ∷ []

-- the generated script: one phase, in which so many items stand behind the activation
abbrev pub generated : ℕ → ℕ → List (List Item)
generated seed count = items_up_to seed count ∷ []
