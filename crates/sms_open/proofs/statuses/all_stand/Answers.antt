use Rattle.std.proofs.Common.{◌≡◌, ℕ, List, sym, ◌∙◌}
use Rattle.std.specs.Prelude.{IfOk}
use Rattle.acs_tree.specs.declared.kind.Kind.TheVariants.{StorGrp}
use Rattle.sms_construct.specs.declared.target.Target.TheVariants as targets
use Rattle.desk_law.specs.Statuses.{times_status}
use Rattle.desk_law.specs.Volumes.{times_group, times_volume}
use Rattle.sms_open.specs.Verdicts.{Tells}
use Rattle.sms_open.proofs.StatusLemmas.{some-of-set, targets-told}
use Rattle.sms_open.proofs.statuses.all_stand.Goals as goal

pub groups_stand-requires : goal.groups_stand-requires
groups_stand-requires c = rw c.groups.ensures (c.deck.ensures.form.names StorGrp)

pub volumes_stand-requires : goal.volumes_stand-requires
volumes_stand-requires c = rw c.volumes.ensures c.deck.ensures.form.volsers

pub returns-then-not-none_of_sets : goal.returns-then-not-none_of_sets
returns-then-not-none_of_sets c = λ each. some-of-set c.args.rows.now (sym c.none_of_sets.ensures ∙ c.if-not-none_of_sets.true) (λ dsn. each (targets.Set dsn))

pub returns-then-not-branch : goal.returns-then-not-branch
returns-then-not-branch c = λ each. (rw (c.if-not-branch.true, c.groups.ensures) at c.in_ok-groups_stand.ensures) (λ name. each (targets.Group name))

pub returns : goal.returns
returns c =
    let config = c.args.config.now in
    let rows = c.args.rows.now in
    let groups : (name : List ℕ) → times_status (targets.Group name) rows ≡ times_group name config.groups = rw (c.if-not-branch.false, c.groups.ensures) at c.in_ok-groups_stand.ensures in
    let volumes : IfOk c.volumes_stand.result (Tells ((volser : List ℕ) → times_status (targets.Volume volser) rows ≡ times_volume volser config.volumes)) = rw c.volumes.ensures at c.volumes_stand.ensures in
    targets-told c.volumes_stand.result config rows (sym c.none_of_sets.ensures ∙ c.if-not-none_of_sets.false) groups volumes
