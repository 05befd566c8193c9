use Rattle.std.proofs.Common.{◌≤◌, length, ap, Err, arith}
use Rattle.std.proofs.lemmas.Bool.Decides.{nat_tests}
use Rattle.dsn_mask.proofs.Parsing.{data_set_name_is, not_a_name, first_fault_is, only_first, no_first}
use Rattle.dsn_mask.proofs.dsn.Dsn.parse.Goals as goal

pub returns-in-Some-clause-exact : goal.returns-in-Some-clause-exact
returns-in-Some-clause-exact c =
    let some : 1 ≤ length c.args.bytes.now = grind (arith, nat_tests) in
    let found = c.in-Some.ensures in
    (not_a_name _ found.0, first_fault_is _ _ some c.if-bytes-gt-MAX_VALUE.false found.1)

pub returns-in-Some-clause-refused : goal.returns-in-Some-clause-refused
returns-in-Some-clause-refused c err other =
    let some : 1 ≤ length c.args.bytes.now = grind (arith, nat_tests) in
    let found = c.in-Some.ensures in
    ap Err (only_first _ _ _ some c.if-bytes-gt-MAX_VALUE.false found.1 other)

pub returns-in-None-clause-exact : goal.returns-in-None-clause-exact
returns-in-None-clause-exact c = (data_set_name_is c.args.bytes.now c.if-bytes-gt-MAX_VALUE.false c.in-None.ensures, c.new.ensures)

pub returns-in-None-clause-refused : goal.returns-in-None-clause-refused
returns-in-None-clause-refused c err other =
    let some : 1 ≤ length c.args.bytes.now = grind (arith, nat_tests) in
    absurd (no_first c.args.bytes.now _ some c.if-bytes-gt-MAX_VALUE.false c.in-None.ensures other)
