use Rattle.std.proofs.Common.{◌<◌, length, add-one, arith}
use Rattle.std.proofs.lemmas.Bool.Decides.{nat_tests}
use Rattle.std.proofs.lemmas.List.{take_rest}
use Rattle.dsn_mask.proofs.InForm.{front_is, front_parts, whole_is, whole_part}
use Rattle.dsn_mask.proofs.name_fault.good_qualifier.Goals as goal

pub returns-then-count-text-clause-split : goal.returns-then-count-text-clause-split
returns-then-count-text-clause-split c = whole_part _ _ c.if-count-text.true c.good_front-count.ensures.before

pub returns-then-count-text-clause-good : goal.returns-then-count-text-clause-good
returns-then-count-text-clause-good c =
    let some : 0 < length c.args.text.now = grind (arith, nat_tests) in
    whole_is _ _ some c.if-count-text.true c.good_front-count.ensures.short (cc) c.good_front-count.ensures.before

pub returns-clause-split : goal.returns-clause-split
returns-clause-split c =
    let less : c.good_front-count.result < length c.args.text.now = grind arith in
    rw (take_rest, add-one) (front_parts c.args.text.now c.good_front-count.result less c.good_front-count.ensures.before (cc))

pub returns-clause-good : goal.returns-clause-good
returns-clause-good c =
    let less : c.good_front-count.result < length c.args.text.now = grind arith in
    front_is c.args.text.now c.good_front-count.result less c.good_front-count.ensures.short (cc) c.good_front-count.ensures.before (c.good_front-count.ensures.bad less)
