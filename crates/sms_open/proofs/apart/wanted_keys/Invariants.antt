use Rattle.std.proofs.Common.{◌≡◌, take}
use Rattle.std.specs.BTreeMap.{is_at}
use Rattle.std.specs.Map.{lookup}
use Rattle.sms_open.specs.Inner.Keys.{times_found, times_key}
use Rattle.sms_open.proofs.apart.wanted_keys.Given as goal

-- each key is found as often as it stands among those that were gone over
abbrev pub invariant-loop-key : goal.invariant-loop-key
invariant-loop-key g l = (key : g.row.K.Denot) → times_found (lookup (is_at (g.K.Ord.cmp key)) l.index.rows) ≡ times_key g.K.Ord.cmp key (take l.key-index l.keys)
