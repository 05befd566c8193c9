use Rattle.std.proofs.Common.{◌<◌, ◌≤◌, ℕ, List, length}
use Rattle.std.specs.Prelude.{IfOk}
use Rattle.std.specs.List.{AllByRecursion}
use Rattle.desk_common.specs.Limits.{most_extents}
use Rattle.desk_law.specs.Extents.{pieces_on}
use Rattle.desk_law.specs.Lawful.{IsWhole, LiesInPart}
use Rattle.sms_open.specs.Verdicts.{Tells}
use Rattle.sms_open.proofs.SetLemmas.{AreIn, lawful-told, some-length}
use Rattle.sms_open.proofs.sets.is_lawful.Goals as goal

pub returns : goal.returns
returns c = λ volumes known.
    let set = c.args.set.now in
    let some : 0 < length set.extents = some-length set.extents c.is_empty.result c.is_empty.ensures.1 c.if-is_empty.false in
    let inside : AreIn c.args.tracks.now set.extents = rw (c.if-not-are_inside.false, c.as_slice.ensures) at c.are_inside.ensures in
    let parted : AllByRecursion LiesInPart set.extents = rw (c.if-not-are_in_part.false, c.as_slice-2.ensures) at c.are_in_part.ensures in
    let whole : IsWhole set = rw c.if-not-is_whole.false at c.is_whole.ensures in
    let few : IfOk c.are_few.result (Tells ((volser : List ℕ) → length (pieces_on volser set.extents) ≤ most_extents)) = rw c.as_slice-3.ensures at c.are_few.ensures in
    lawful-told c.are_few.result volumes c.args.tracks.now set known some inside parted whole few
