-- How serving a store ends: its exit status and the cause (docs/manual/smsd.md, "Exit statuses").
use Rattle.std.specs.Prelude.{◌≡◌, ◌⊎◌, ℕ}
use Rattle.serve_poll.specs.declared.serving.LoopEnd.{LoopEnd}
use Rattle.serve_poll.specs.declared.serving.LoopEnd.TheVariants.{Turns, Ended, Failed, Numbers}
use Rattle.smsd_serving.specs.declared.serving_end.ServingEnd.{ServingEnd}
use Rattle.smsd_serving.specs.declared.serving_end.ServingEnd.TheVariants as ends
use Rattle.store_calls.specs.Statuses.{store_status_of}
use Rattle.store_calls.specs.declared.status.StoreStatus.TheVariants.{Unopened}

-- the exit status where no further event is awaited: 8 where waiting failed, else 0
abbrev pub loop_status_of : LoopEnd → ℕ
loop_status_of Failed = 8
loop_status_of Turns = 0
loop_status_of Ended = 0
loop_status_of Numbers = 0

-- the exit status of serving
abbrev pub serving_status_of : ServingEnd → ℕ
serving_status_of (ends.Loop why) = loop_status_of why
serving_status_of (ends.Unopened err) = store_status_of (Unopened err)

-- memory for the port was wanting, or it can't be had
abbrev pub IsUnbound : ℕ → Type 0
IsUnbound code = (code ≡ 9) ⊎ (code ≡ 7)

-- the number is that of why serving ended
abbrev pub IsOfServing : ℕ → Type 0
IsOfServing code = (end : ServingEnd) × (code ≡ serving_status_of end)

-- the port wasn't had, or it is that of serving there
abbrev pub IsPortEnd : ℕ → Type 0
IsPortEnd code = IsUnbound code ⊎ IsOfServing code
