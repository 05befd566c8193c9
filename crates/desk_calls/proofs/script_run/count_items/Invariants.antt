use Rattle.std.specs.Prelude.{◌≡◌, length, take}
use Rattle.sms_script.specs.Script.{items_of}
use Rattle.desk_calls.proofs.script_run.count_items.Given as goal

-- the items of the phases so far are counted
abbrev pub invariant-loop-phase : goal.invariant-loop-phase
invariant-loop-phase l = l.count ≡ length (items_of (take l.phase-index l.phases))
