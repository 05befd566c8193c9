use Rattle.std.proofs.Common.{◌∙◌, ap, sym, drop, take, ◌-◌}
use Rattle.acs_places.specs.Places.{behind_all}
use Rattle.acs_places.specs.declared.place.Place.{Place}
use Rattle.acs_places.proofs.PlaceLemmas.{columns_fit, further, lines_fit}
use Rattle.acs_places.proofs.spots.further.Goals as goal

pub behind-requires-clause-lines : goal.behind-requires-clause-lines
behind-requires-clause-lines c = lines_fit c.args.text.now c.args.place c.args.from c.args.to c.requires.place c.requires.order.0 c.requires.order.1 c.requires.short

pub behind-requires-clause-columns : goal.behind-requires-clause-columns
behind-requires-clause-columns c = columns_fit c.args.text.now c.args.place c.args.from c.args.to c.requires.place c.requires.order.0 c.requires.order.1 c.requires.short

pub returns : goal.returns
returns c =
    c.behind.ensures
    ∙ ap (λ (p : Place). behind_all p (take (c.args.to - c.args.from) (drop c.args.from c.args.text.now))) c.requires.place
    ∙ sym (further c.args.text.now c.args.from c.args.to c.requires.order.0)
