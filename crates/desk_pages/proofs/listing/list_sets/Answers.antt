-- One data set more.
use Rattle.std.proofs.Common.{◌∙◌, ◌∷◌, [], ap, sym, arith, length, length-append}
use Rattle.std.proofs.lemmas.List.{length-map}
use Rattle.desk_pages.proofs.ListingLaws.{so_far_push, so_far_not, ends_full, ends_looked}
use Rattle.desk_pages.proofs.listing.list_sets.Goals as goal

pub returns-then-len-eq-MOST_SHOWN : goal.returns-then-len-eq-MOST_SHOWN
returns-then-len-eq-MOST_SHOWN g c = λ s stands.
    ends_full s.sets c.args.mask.now c.args.from _ c.loop-looked.looked c.loop-looked.at (c.loop-looked.invariant.so_far s stands) c.loop-looked.invariant.within (length-map c.loop-looked.sets.items _ ∙ sym c.loop-looked.invariant.len ∙ sym c.len.ensures ∙ c.if-len-eq-MOST_SHOWN.true)

pub loop-looked-preserved-in-Continue-1 : goal.loop-looked-preserved-in-Continue-1
loop-looked-preserved-in-Continue-1 g c = record {
  so_far = λ s stands. so_far_push _ s.sets c.args.mask.now c.args.from c.loop-looked.at c.loop-looked.sets.items _ c.in-Some.set c.loop-looked.looked c.in_ok-push.ensures.items (c.loop-looked.invariant.so_far s stands)
      (rw c.as_ref.ensures.value at (c.in-Some.ensures s stands)) (sym c.fits.ensures ∙ c.if-fits.true) (λ e. c.if-len-eq-MOST_SHOWN.false (c.len.ensures ∙ c.loop-looked.invariant.len ∙ e));
  within = omega arith;
  len = omega (arith, c.in_ok-push.ensures.len, c.loop-looked.invariant.len, ap (λ l. length l) c.in_ok-push.ensures.items, length-append c.loop-looked.sets.items (c.in-Some.set ∷ []));
}

pub loop-looked-preserved : goal.loop-looked-preserved
loop-looked-preserved g c = record {
  so_far = λ s stands. so_far_not s.sets c.args.mask.now c.args.from c.loop-looked.at _ c.loop-looked.looked (c.loop-looked.invariant.so_far s stands) c.in-Some.set.now
      (rw c.as_ref.ensures.value at (c.in-Some.ensures s stands)) (sym c.fits.ensures ∙ c.if-fits.false);
  within = omega arith;
  len = c.loop-looked.invariant.len;
}

pub returns : goal.returns
returns g c = λ s stands.
    ends_looked s.sets c.args.mask.now c.args.from _ c.loop-looked.looked c.loop-looked.at (c.loop-looked.invariant.so_far s stands) (omega arith)
