use Rattle.std.proofs.Common.{◌≡◌, ◌≤◌, All, vec_len, vec_capacity}
use Rattle.sms_desk.specs.Seats.{IsOutfit}
use Rattle.sms_desk.proofs.opening.room.Given as goal

abbrev pub invariant-loop : goal.invariant-loop
invariant-loop g l = (vec_len l.outfits ≡ l.counter) × (l.count ≤ vec_capacity l.outfits) × All (IsOutfit l.core.opening l.core.journal) l.outfits.items
