use Rattle.std.proofs.Common.{◌∙◌, sym, rules}
use Rattle.std.specs.Prelude.{bytes_eq}
use Rattle.sms_construct.specs.declared.storage_group.StorGroup.{StorGroup}
use Rattle.sms_volumes.proofs.NextLemmas.{found-past, found-there}
use Rattle.sms_volumes.proofs.next.place_in.Goals as goal

pub returns-then-eq : goal.returns-then-eq
returns-then-eq c =
    sym (found-there (λ (g : StorGroup). bytes_eq g.name c.args.name.now) c.args.groups.now c.loop-place.place c.index-groups-place.result c.loop-place-test.true (search rules) (search rules)) ∙ c.loop-place.invariant

pub returns : goal.returns
returns c = found-past (λ (g : StorGroup). bytes_eq g.name c.args.name.now) c.args.groups.now c.loop-place.place c.loop-place-test.false ∙ c.loop-place.invariant
