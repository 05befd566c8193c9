use Rattle.std.proofs.Common.{sym, ◌∙◌}
use Rattle.dsn_mask.proofs.Halving.{place_kept, place_passed}
use Rattle.dsn_mask.proofs.quoted.push_place.Goals as goal

pub returns-in_ok-push : goal.returns-in_ok-push
returns-in_ok-push c =
    place_kept c.args.entries.now c.args.place c.index-entries-place.result c.requires.inside c.index-entries-place.is c.args.places.now.items c.requires.before (sym c.is_quoted.ensures ∙ c.if-is_quoted.true) c.in_ok-push.ensures.items

pub returns-else-is_quoted : goal.returns-else-is_quoted
returns-else-is_quoted c =
    place_passed c.args.entries.now c.args.place c.index-entries-place.result c.requires.inside c.index-entries-place.is c.args.places.now.items c.requires.before (sym c.is_quoted.ensures ∙ c.if-is_quoted.false)
