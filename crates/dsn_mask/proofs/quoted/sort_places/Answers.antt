use Rattle.std.proofs.Common.{is_lt, nat_cmp, rules}
use Rattle.std.specs.Cmp.Lexicographic.{slice_cmp}
use Rattle.std.proofs.lemmas.Fn.{always_returns_same}
use Rattle.dsn_mask.specs.Quoted.{text_at}
use Rattle.dsn_mask.proofs.Halving.{sorted_texts_of, sorted_by_texts}
use Rattle.dsn_mask.proofs.quoted.sort_places.Goals as goal

pub returns-clause-sorted : goal.returns-clause-sorted
returns-clause-sorted c =
    sorted_texts_of c.args.entries.now _
    (c.sort_unstable_by.ensures.sorted (λ one other. is_lt (slice_cmp nat_cmp (text_at c.args.entries.now one) (text_at c.args.entries.now other))) (sorted_by_texts c.args.entries.now) (always_returns_same _ _ _ (λ a r q k. search rules)))
