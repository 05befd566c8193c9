use Rattle.std.proofs.Common.{◌≡◌, ◌∙◌, ap, refl, sym}
use Rattle.std.specs.Option.{option_copied}
use Rattle.acs_tree.specs.declared.values.Values.{Values}
use Rattle.desk_law.specs.Allocation.{data_class_of, eattr_of, tiers_of, volume_count_of, wish_with}
use Rattle.volume_reasons.proofs.asking.asked_for.Goals as goal

pub returns-clause-value : goal.returns-clause-value
returns-clause-value c = λ classes same.
    let config = c.args.config.now in
    let alloc = c.args.allocation.now in
    let class : option_copied c.data_class_of-class.result ≡ data_class_of config classes.values.dataclas =
    c.data_class_of-class.ensures ∙ ap (λ (v : Values). data_class_of config v.dataclas) (sym same) in
    let volumes : c.get.result ≡ volume_count_of alloc (data_class_of config classes.values.dataclas) = c.get.ensures.value ∙ c.volume_count_of.ensures ∙ ap (volume_count_of alloc) class in
    let eattr : c.eattr_of.result ≡ eattr_of alloc (data_class_of config classes.values.dataclas) = c.eattr_of.ensures ∙ ap (eattr_of alloc) class in
    let tiers : c.tiers_of.result.now ≡ tiers_of (wish_with alloc config classes c.args.space) = c.tiers_of.ensures.value alloc classes c.args.space same in
    rw (c.unit.ensures, c.primary_tracks.ensures.value, volumes, eattr, tiers) refl
