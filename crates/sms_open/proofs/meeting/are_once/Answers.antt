use Rattle.std.proofs.Common.{◌≡◌, List, rules, subst}
use Rattle.std.specs.List.Sorted.{IsPermutation}
use Rattle.sms_construct.specs.declared.extent.Extent.{Extent}
use Rattle.desk_law.specs.Extents.{extents_of}
use Rattle.sms_open.proofs.MeetingLemmas.{chained-from, chained-is}
use Rattle.sms_open.proofs.NameLemmas.{tells-alike}
use Rattle.sms_open.proofs.meeting.are_once.Goals as goal

pub returns : goal.returns
returns c =
    let sets = c.args.sets.now in
    let es = c.sort_extents.new.extents.items in
    let seen : c.deref.result.now ≡ es = search rules in
    let moved : IsPermutation (extents_of sets) es = subst (λ (l : List Extent). IsPermutation l es) c.in_ok-extents.ensures c.sort_extents.ensures.permutation in
    tells-alike _ _ c.are_chained.result (chained-is sets es moved) (chained-from sets es moved c.sort_extents.ensures.sorted c.requires) (rw seen at c.are_chained.ensures)
