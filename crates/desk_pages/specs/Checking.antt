-- What an activation of a deck would be answered (docs/manual/smsd.md, "What pages show").
use Rattle.std.specs.Prelude.{ℕ, ◌≡◌, ◌&&◌, Bool, true, false, List, Option, None, Some, nat_lt}
use Rattle.sms_construct.specs.declared.reply.Reply.{Reply}
use Rattle.sms_construct.specs.declared.reply.Reply.TheVariants.{Activated}
use Rattle.sms_construct.specs.declared.vol_row.VolRow.{VolRow}
use Rattle.sms_construct.specs.declared.volume.VolumeDef.{VolumeDef}
use Rattle.desk_law.specs.State.{DeskState}
use Rattle.desk_law.specs.Volumes.{tracks_of}

-- a volume as it is shown holds an extent, and has more tracks than among these
abbrev pub bars : List VolumeDef → VolRow → Bool
bars volumes row = nat_lt 0 row.extents && nat_lt (tracks_of row.volser volumes) row.capacity

-- the reply says that a deck became active
abbrev pub is_activated : Reply → Bool
is_activated (Activated count) = true
is_activated _ = false

module _ (rule : Reply → DeskState → Type 0) where
  -- by the rule the deck becomes active
  pub record IsPassed : Type 0 where
    pub count : ℕ
    pub after : DeskState
    pub by_rule : rule (Activated count) after

  -- by the rule it gets this reply instead
  pub record IsBarred (reply : Reply) : Type 0 where
    pub after : DeskState
    pub by_rule : rule reply after
    pub other : is_activated reply ≡ false

  -- what comes of it by the rule: a reply that says what stands in its way, or none
  abbrev pub Comes : Option Reply → Type 0
  Comes None = IsPassed
  Comes (Some reply) = IsBarred reply
