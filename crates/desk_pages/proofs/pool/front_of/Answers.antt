-- Fewer extents than a page shows are all shown.
use Rattle.std.proofs.Common.{arith, sym}
use Rattle.std.proofs.lemmas.List.{take_all}
use Rattle.desk_pages.specs.Listing.{most_shown}
use Rattle.desk_pages.proofs.pool.front_of.Goals as goal

pub returns-then-extents-lt-MOST_SHOWN : goal.returns-then-extents-lt-MOST_SHOWN
returns-then-extents-lt-MOST_SHOWN c = sym (take_all most_shown c.args.extents.now (omega arith))
