use Rattle.std.proofs.Common.{◌<◌, ◌^◌, length, arith}
use Rattle.sms_open.proofs.OpeningLemmas.{decked, sound}
use Rattle.sms_open.proofs.VerdictLemmas.{exactly}
use Rattle.sms_open.proofs.testing.test_rows.Goals as goal

pub returns-clause-exactly : goal.returns-clause-exactly
returns-clause-exactly c = λ verdict is. exactly c.args.rows.now c.judge.result verdict c.judge.ensures is

pub returns-clause-opening : goal.returns-clause-opening
returns-clause-opening c =
    let few : length c.args.rows.now.decks < 2 ^ 63 = omega arith in
    sound c.args.rows.now c.judge.result few c.judge.ensures

pub returns-clause-decked : goal.returns-clause-decked
returns-clause-decked c = decked c.args.rows.now c.judge.result c.judge.ensures
