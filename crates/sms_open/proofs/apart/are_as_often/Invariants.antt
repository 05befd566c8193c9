use Rattle.std.proofs.Common.{◌≡◌, ◌+◌, take}
use Rattle.std.specs.BTreeMap.{is_at}
use Rattle.std.specs.Map.{lookup}
use Rattle.sms_open.specs.Inner.Keys.{times_found, times_key}
use Rattle.sms_open.proofs.apart.are_as_often.Given as goal

-- each wanted key is left, or stands among those that were gone over
abbrev pub invariant-loop-key : goal.invariant-loop-key
invariant-loop-key g l = (key : g.row.K.Denot) → times_found (lookup (is_at (g.K.Ord.cmp key)) l.left.rows) + times_key g.K.Ord.cmp key (take l.key-index l.found) ≡ times_key g.K.Ord.cmp key l.wanted
