use Rattle.sms_core.proofs.CoreLemmas.{core-opened}
use Rattle.sms_core.proofs.core_state.Core.over.Goals as goal

pub invariant_of-result : goal.invariant_of-result
invariant_of-result g c =
    core-opened c.args.opening.value c.args.base _ c.args.running c.args.log (g.P.Keeper.told c.args.keeper) c.faults-mark.result (g.P.Keeper.count c.args.keeper) c.new.ensures.items c.faults-mark.ensures c.requires.base
    c.requires.sound c.requires.log c.requires.tables c.requires.running
