use Rattle.std.proofs.lemmas.Result.{on_ok_weaker}
use Rattle.acs_code.proofs.ConditionLemmas.{nothing_turn}
use Rattle.acs_code.proofs.conditions.comparison.Goals as goal

pub returns-in-None : goal.returns-in-None
returns-in-None c =
    on_ok_weaker _ (nothing_turn c.args.kind c.args.lists.now c.args.left.now c.args.op c.args.operand.now c.in-None.ensures c.beside_nothing.ensures c.requires.holds c.requires.fails) c.put-in-None.ensures
