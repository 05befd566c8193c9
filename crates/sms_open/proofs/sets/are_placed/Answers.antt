use Rattle.std.specs.List.{AllByRecursion}
use Rattle.desk_law.specs.Lawful.{IsLawfulSet}
use Rattle.desk_law.specs.Volumes.{volumes_in}
use Rattle.sms_open.proofs.NameLemmas.{told-alike}
use Rattle.sms_open.proofs.SetLemmas.{lawful-tracks}
use Rattle.sms_open.proofs.sets.are_placed.Goals as goal

pub are_once-requires : goal.are_once-requires
are_once-requires c =
    let volumes = volumes_in c.args.active.now in
    let lawful : AllByRecursion (IsLawfulSet volumes) c.args.sets.now = rw c.if-not-branch.false at (c.in_ok-are_lawful.ensures volumes c.in_ok-tracks.ensures) in
    lawful-tracks volumes c.args.sets.now lawful

pub returns-then-not-branch : goal.returns-then-not-branch
returns-then-not-branch c = λ placed.
    (rw c.if-not-branch.true at (c.in_ok-are_lawful.ensures (volumes_in c.args.active.now) c.in_ok-tracks.ensures)) placed.each

pub returns : goal.returns
returns c =
    let volumes = volumes_in c.args.active.now in
    let lawful : AllByRecursion (IsLawfulSet volumes) c.args.sets.now = rw c.if-not-branch.false at (c.in_ok-are_lawful.ensures volumes c.in_ok-tracks.ensures) in
    told-alike _ _ c.are_once.result (λ once. record { each = lawful; once = once }) (λ placed. placed.once) c.are_once.ensures
