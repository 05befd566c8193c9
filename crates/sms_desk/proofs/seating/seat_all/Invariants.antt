use Rattle.std.proofs.Common.{◌≡◌, ◌+◌, ◌≤◌, ◌<◌, List, All, length, vec_len, vec_capacity}
use Rattle.atomic_table.specs.Seated.{TableId}
use Rattle.turn_lock.specs.declared.signed.Signed.{Signed}
use Rattle.turn_lock.specs.Contract.{AreNumbered, IsNew}
use Rattle.desk_signing.specs.declared.event.Event.{Event}
use Rattle.desk_signing.specs.Signing.{IsLegalList, entries_in, opening_in}
use Rattle.sms_desk.specs.Seats.{AreNumberedDown, HasNoAnswers, IsNewJob, IsOutfit}
use Rattle.sms_desk.proofs.seating.seat_all.Given as goal

abbrev pub invariant-loop-seat : goal.invariant-loop-seat
invariant-loop-seat g l =
    (length l.seats.items + length l.jobs.items ≡ length l.fn.seats.items)
    × (vec_len l.seats + vec_len l.jobs ≤ vec_capacity l.jobs)
    × (vec_capacity l.seats ≡ vec_capacity l.fn.seats)
    × (vec_len l.outfits ≡ vec_len l.seats)
    × All HasNoAnswers l.jobs.items
    × ((lock : TableId) (list : List (Signed Event)) → 0 < length list → IsLegalList list → All (IsNew lock list) l.fn.seats.items → All (IsOutfit (opening_in list) (entries_in list)) l.fn.outfits.items
    → All (IsNew lock list) l.seats.items × All (IsOutfit (opening_in list) (entries_in list)) l.outfits.items × All (IsNewJob lock list) l.jobs.items)
    × (AreNumbered l.fn.seats.items → AreNumbered l.seats.items × AreNumberedDown (length l.fn.seats.items) l.jobs.items)

abbrev pub decreases-loop-seat : goal.decreases-loop-seat
decreases-loop-seat g l = vec_len l.seats
