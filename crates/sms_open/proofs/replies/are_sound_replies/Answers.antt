use Rattle.std.proofs.Common.{◌≡◌, ◌≤◌, ℕ, List, ap, ◌∙◌}
use Rattle.std.specs.List.{AllByRecursion}
use Rattle.std.specs.Prelude.{IfOk}
use Rattle.sms_keeper.specs.declared.floor.Floor.{Floor}
use Rattle.sms_keeper.specs.Log.{floor_in}
use Rattle.desk_law.specs.Kept.{greatest_floor}
use Rattle.desk_law.specs.KeptRows.{times_placed}
use Rattle.sms_open.specs.Tests.{IsSoundReply}
use Rattle.sms_open.specs.Verdicts.{Tells}
use Rattle.sms_open.proofs.NameLemmas.{told-alike}
use Rattle.sms_open.proofs.replies.are_sound_replies.Goals as goal

pub returns-then-not-each_is_sound : goal.returns-then-not-each_is_sound
returns-then-not-each_is_sound c = λ sound.
    let known : (job : List ℕ) → floor_in job c.in_ok-log.log.floors ≡ greatest_floor job c.args.rows.now.floors = λ job. c.in_ok-log.ensures job ∙ ap (greatest_floor job) c.as_slice-floors.ensures in
    (rw (c.if-not-each_is_sound.true, c.as_slice.ensures) at (c.each_is_sound.ensures c.args.rows.now.floors known)) sound.each

pub returns : goal.returns
returns c =
    let replies = c.args.rows.now.replies in
    let floors = c.args.rows.now.floors in
    let known : (job : List ℕ) → floor_in job c.in_ok-log.log.floors ≡ greatest_floor job floors = λ job. c.in_ok-log.ensures job ∙ ap (greatest_floor job) c.as_slice-floors.ensures in
    let each : AllByRecursion (IsSoundReply floors) replies = rw (c.if-not-each_is_sound.false, c.as_slice.ensures) at (c.each_is_sound.ensures floors known) in
    let stand : AllByRecursion (λ (floor : Floor). 1 ≤ floor.floor) floors = rw (c.if-not-floors_stand.false, c.as_slice-floors.ensures) at c.floors_stand.ensures in
    let apart : IfOk c.places_apart.result (Tells ((place : ℕ) → times_placed place replies ≤ 1)) = rw c.as_slice-2.ensures at c.places_apart.ensures in
    told-alike _ _ c.places_apart.result (λ one. record { each = each; apart = one; floors_stand = stand }) (λ sound. sound.apart) apart
