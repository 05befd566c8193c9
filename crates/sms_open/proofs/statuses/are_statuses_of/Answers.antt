use Rattle.std.proofs.Common.{◌≡◌, true, sym}
use Rattle.std.specs.List.{AllByRecursion}
use Rattle.desk_law.specs.Statuses.{may_have}
use Rattle.sms_open.proofs.StatusLemmas.{bare-told, statuses-told}
use Rattle.sms_open.proofs.statuses.are_statuses_of.Goals as goal

pub returns-in-None : goal.returns-in-None
returns-in-None c =
    let connected : AllByRecursion (λ row. may_have row.target row.status ≡ true) c.args.rows.now = rw c.if-not-are_connected.false at c.are_connected.ensures in
    rw c.in-None.is (bare-told c.args.rows.now c.is_empty.result connected c.is_empty.ensures)

pub returns-in-Some : goal.returns-in-Some
returns-in-Some c =
    let connected : AllByRecursion (λ row. may_have row.target row.status ≡ true) c.args.rows.now = rw c.if-not-are_connected.false at c.are_connected.ensures in
    statuses-told c.all_stand.result c.args.active.now c.args.rows.now connected (rw (sym c.in-Some.is) at c.all_stand.ensures)
