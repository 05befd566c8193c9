use Rattle.std.proofs.Common.{◌≡◌, ◌≤◌, take, count_by}
use Rattle.sms_manage.specs.ManageText.{is_released}
use Rattle.manage_calls.proofs.printing.count_released.Given as goal

-- the acts so far
abbrev pub invariant-loop-act : goal.invariant-loop-act
invariant-loop-act l = (l.count ≡ count_by (λ act. is_released act.answer.reply) (take l.act-index l.acts)) × (l.count ≤ l.act-index)
