use Rattle.std.proofs.Common.{◌<◌, ◌∙◌, ap, sym, subst, refl, Contains, length, arith}
use Rattle.dsn_mask.specs.Name.{name_of}
use Rattle.acs_code.proofs.GroupLemmas.{held, added, not_false}
use Rattle.acs_code.proofs.sets.new_group.Goals as goal

pub returns-then-contains : goal.returns-then-contains
returns-then-contains c =
    held c.args.groups.now c.args.text.now (subst (Contains c.args.groups.now) (c.in_ok-name.ensures.exact.1 ∙ c.bytes.ensures.bytes) (c.if-contains.ensures.0 refl))

pub returns : goal.returns
returns c =
    let same = c.in_ok-name.ensures.exact.1 ∙ c.bytes.ensures.bytes in
    let less : length c.args.groups.now < 15 = omega (arith, c.if-as_slice-ge-MAX_GROUPS_SET.false, ap length c.as_slice.ensures.names) in
    let value = ap name_of (sym c.bytes.ensures.bytes) ∙ sym c.in_ok-name.ensures.value in
    let absent : Contains c.args.groups.now c.args.text.now → ⊥ = λ h. not_false (c.if-contains.ensures.1 (subst (Contains c.args.groups.now) (sym same) h)) in
    (same, added c.args.groups.now c.args.text.now c.in_ok-name.name value less absent, less, absent)
