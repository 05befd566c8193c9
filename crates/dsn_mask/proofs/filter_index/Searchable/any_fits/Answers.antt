use Rattle.dsn_mask.proofs.Halving.{held_rise, held_few, held_found, held_masks, held_texts, places_few}
use Rattle.dsn_mask.proofs.filter_index.Searchable.any_fits.Goals as goal

pub find-requires : goal.find-requires
find-requires g c = record { rises = held_rise c.args.value.now c.self.view_is (held_texts c.as_slice-entries.ensures c.as_slice.ensures) c.self.invariant }

pub returns-then-find-clause-fits : goal.returns-then-find-clause-fits
returns-then-find-clause-fits g c = held_found c.args.value.now c.self.view_is (held_texts c.as_slice-entries.ensures c.as_slice.ensures) c.self.invariant c.find.result c.find.ensures.found c.if-find.true

pub returns-then-find-clause-counted : goal.returns-then-find-clause-counted
returns-then-find-clause-counted g c =
    held_few c.args.value.now c.self.view_is (held_texts c.as_slice-entries.ensures c.as_slice.ensures) c.self.invariant _ (places_few c.as_slice-entries.result.now c.as_slice.result.now _ c.find.ensures.counted)

pub returns-else-find-clause-fits : goal.returns-else-find-clause-fits
returns-else-find-clause-fits g c =
    held_masks c.args.value.now c.self.view_is (held_texts c.as_slice-entries.ensures c.as_slice.ensures) c.self.invariant c.find.result c.any_mask_fits.result c.as_slice-entries.result.now c.find.ensures.found c.if-find.false c.as_slice-entries.ensures
    c.any_mask_fits.ensures

pub returns-else-find-clause-counted : goal.returns-else-find-clause-counted
returns-else-find-clause-counted g c =
    held_few c.args.value.now c.self.view_is (held_texts c.as_slice-entries.ensures c.as_slice.ensures) c.self.invariant _ (places_few c.as_slice-entries.result.now c.as_slice.result.now _ c.find.ensures.counted)
