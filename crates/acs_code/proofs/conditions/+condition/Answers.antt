use Rattle.std.proofs.lemmas.Result.{on_ok_weaker}
use Rattle.acs_code.proofs.ConditionLemmas.{both_turn, either_turn}
use Rattle.acs_code.proofs.conditions.+condition.Goals as goal

pub returns-in_ok-condition-in-And : goal.returns-in_ok-condition-in-And
returns-in_ok-condition-in-And t c =
    on_ok_weaker _ (both_turn c.args.kind c.args.lists.now c.in-And.is c.get.ensures c.get-in-And.ensures c.place.ensures c.requires.fails c.in_ok-condition-in-And.ensures) c.condition-in-And.ensures

pub returns-in_ok-condition-in-Or : goal.returns-in_ok-condition-in-Or
returns-in_ok-condition-in-Or t c =
    on_ok_weaker _ (either_turn c.args.kind c.args.lists.now c.in-Or.is c.get-in-Or.ensures c.get-in-Or-2.ensures c.place-in-Or.ensures c.requires.holds c.in_ok-condition-in-Or.ensures) c.condition-in-Or-2.ensures
