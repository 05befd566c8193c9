use Rattle.std.proofs.Common.{◌≡◌, ℕ, ◌+◌, ◌≤◌, ◌⊎◌, List, All, Contains, length, vec_len, vec_capacity}
use Rattle.atomic_table.specs.Seated.{TableId}
use Rattle.turn_lock.specs.declared.signed.Signed.{Signed}
use Rattle.turn_lock.specs.Contract.{IsOf, Stands, numbers}
use Rattle.desk_signing.specs.declared.event.Event.{Event}
use Rattle.sms_desk.specs.Seats.{IsJobOf, StandsJob, job_numbers}
use Rattle.sms_desk.proofs.closing.unseat_all.Given as goal

abbrev pub invariant-loop-job : goal.invariant-loop-job
invariant-loop-job g l =
    (length l.jobs.items + length l.room.items ≡ length l.fn.jobs.items)
    × (vec_len l.jobs + vec_len l.room ≤ vec_capacity l.room)
    × ((lock : TableId) → All (IsJobOf lock) l.fn.jobs.items → All (IsJobOf lock) l.jobs.items × All (IsOf lock) l.room.items)
    × ((list : List (Signed Event)) → All (StandsJob list) l.jobs.items → All (Stands list) l.room.items → All (StandsJob list) l.fn.jobs.items)
    × ((k : ℕ) → Contains (job_numbers l.jobs.items) k ⊎ Contains (numbers l.room.items) k → Contains (job_numbers l.fn.jobs.items) k)

abbrev pub decreases-loop-job : goal.decreases-loop-job
decreases-loop-job g l = goal.left-loop-job g l
