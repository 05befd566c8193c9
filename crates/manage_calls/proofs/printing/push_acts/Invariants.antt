use Rattle.std.proofs.Common.{◌≡◌, ◌++◌, take}
use Rattle.std.specs.Prelude.{flat_map}
use Rattle.sms_manage.specs.ManageText.{act_text}
use Rattle.manage_calls.proofs.printing.push_acts.Given as goal

-- the lines so far
abbrev pub invariant-loop-act : goal.invariant-loop-act
invariant-loop-act l = l.text.items ≡ l.initial.text.items ++ flat_map act_text (take l.act-index l.acts)
