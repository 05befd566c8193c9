-- A sort only moves them.
use Rattle.std.proofs.Common.{rules}
use Rattle.std.proofs.lemmas.List.Sorted.{IsNonDecreasingBy-from_sort_by_key}
use Rattle.page_text.specs.declared.set_extent.SetExtent.{SetExtent}
use Rattle.desk_pages.proofs.lying.extents_on.Goals as goal

pub returns : goal.returns
returns g c = λ s stands. record {
  found = c.in_ok-extents.extents.items;
  are_found = c.in_ok-extents.ensures s stands;
  same = c.sort_unstable_by_key.ensures.permutation;
  order = IsNonDecreasingBy-from_sort_by_key (λ (extent : SetExtent). extent.start) _ c.sort_unstable_by_key.ensures.sorted (λ a r q k. search rules);
}
