-- What the volumes of the next configuration take over from the running ones.
use Rattle.std.specs.Prelude.{ℕ, ◌≡◌, ◌≤◌, List, Option, None, Some, map, nat_lt, if◌then◌else◌}
use Rattle.track_ledger.specs.declared.piece.Piece.{Piece}
use Rattle.track_ledger.specs.Ledger.{IsLedgerOf, LedgerView}
use Rattle.desk_law.specs.Volumes.{times_volume}
use Rattle.sms_volumes.specs.declared.active_volume.ActiveVolume.{ActiveVolume}

-- the ledger of the running volume, where there is one and it has no more tracks; else its own
abbrev pub ledger_taken : Option ActiveVolume → ActiveVolume → LedgerView
ledger_taken None volume = volume.ledger
ledger_taken (Some running) volume =
    if nat_lt volume.volume.tracks running.ledger.capacity then volume.ledger else running.ledger

-- the volume is the same, and its ledger stands for whatever the one that it takes over stands for
pub record HasTaken (running : Option ActiveVolume) (before after : ActiveVolume) : Type 0 where
  pub volume : after.volume ≡ before.volume
  pub status : after.status ≡ before.status
  pub group : after.group ≡ before.group
  pub capacity : before.ledger.capacity ≡ before.volume.tracks → after.ledger.capacity ≡ before.volume.tracks
  pub ledger : (held : List Piece) → IsLedgerOf held (ledger_taken running before) → IsLedgerOf held after.ledger

-- no serial stands twice
abbrev pub AreApart : List ActiveVolume → Type 0
AreApart volumes = (volser : List ℕ) → times_volume volser (map (λ volume. volume.volume) volumes) ≤ 1
