use Rattle.std.proofs.Common.{◌≤◌, drop}
use Rattle.acs_test.proofs.ListingLemmas.{IsListedSo}
use Rattle.acs_test.proofs.listing.list_cases.Given as goal

-- the listing so far, before that of the cases that are left
abbrev pub invariant-loop-case : goal.invariant-loop-case
invariant-loop-case l = record {
  listed : IsListedSo l.fn.cases.before l.fn.cases.after l.fn.form l.fn.changed l.list (drop l.case-index l.list) l.differing l.text.items;
  few : l.differing ≤ l.case-index;
}
