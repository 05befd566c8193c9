use Rattle.std.proofs.Common.{◌≡◌, map, rules, sym, ap, ◌∙◌, subst}
use Rattle.std.specs.Prelude.{IsPermutation}
use Rattle.std.proofs.lemmas.List.{take_all}
use Rattle.dsn_mask.specs.Quoted.{AreSortedPlaces, text_at, texts_of}
use Rattle.dsn_mask.proofs.Halving.{places_of}
use Rattle.dsn_mask.proofs.quoted.sorted_places.Goals as goal

pub returns : goal.returns
returns c =
    let all : map (text_at c.args.entries.now) c.loop-place.places.items ≡ texts_of c.args.entries.now = c.loop-place.invariant ∙ ap texts_of (take_all c.loop-place.place c.args.entries.now (search rules)) in
    let held : c.from_vec.result ≡ c.sort_places.new.places.items = search rules in
    let same : IsPermutation c.loop-place.places.items c.sort_places.new.places.items = search rules in
    subst (AreSortedPlaces c.args.entries.now) (sym held) (places_of c.args.entries.now all same c.sort_places.ensures.sorted)
