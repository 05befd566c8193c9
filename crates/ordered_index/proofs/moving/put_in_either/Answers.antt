use Rattle.std.proofs.Common.{◌≡◌, ◌+◌, ◌++◌, ◌∙◌, length, true, false, sym, ap, subst, rules, arith}
use Rattle.ordered_index.specs.Chunks.{starts_by}
use Rattle.ordered_index.specs.Rows.{AreRows}
use Rattle.ordered_index.proofs.ChunkLemmas.{put-past, put-short, sorted-left, sorted-right, value-past, value-short}
use Rattle.ordered_index.proofs.EitherLemmas.{front-before, back-behind}
use Rattle.ordered_index.proofs.SortedLemmas.{put-more, put-one-more}
use Rattle.ordered_index.proofs.moving.put_in_either.Goals as goal

pub place_of-place-requires : goal.place_of-place-requires
place_of-place-requires g c =
    let items : c.args.behind.now.items ≡ c.deref-then-starts.result.now = search rules in
    subst (λ l. AreRows g.K.Ord.cmp l) items (sorted-right g.K.Ord.cmp c.args.front.now.items c.args.behind.now.items c.requires.sorted)

pub place_of-place-requires-else-starts : goal.place_of-place-requires-else-starts
place_of-place-requires-else-starts g c =
    let items : c.args.front.now.items ≡ c.deref-else-starts.result.now = search rules in
    subst (λ l. AreRows g.K.Ord.cmp l) items (sorted-left g.K.Ord.cmp c.args.front.now.items c.args.behind.now.items c.requires.sorted)

pub put_in-requires-clause-sorted : goal.put_in-requires-clause-sorted
put_in-requires-clause-sorted g c = sorted-right g.K.Ord.cmp c.args.front.now.items c.args.behind.now.items c.requires.sorted

pub put_in-requires-else-starts-clause-sorted : goal.put_in-requires-else-starts-clause-sorted
put_in-requires-else-starts-clause-sorted g c = sorted-left g.K.Ord.cmp c.args.front.now.items c.args.behind.now.items c.requires.sorted

pub returns-then-starts-clause-rows : goal.returns-then-starts-clause-rows
returns-then-starts-clause-rows g c =
    let starts : starts_by g.K.Ord.cmp c.args.key c.args.behind.now.items ≡ true = search rules in
    let before = front-before g.met.K.Ord.total c.args.key c.args.front.now.items c.args.behind.now.items c.requires.sorted starts in
    ap (λ l. c.args.front.now.items ++ l) c.put_in.ensures.items ∙ sym (put-past g.K.Ord.cmp c.args.key c.args.value c.args.front.now.items c.args.behind.now.items before)

pub returns-then-starts-clause-value : goal.returns-then-starts-clause-value
returns-then-starts-clause-value g c =
    let starts : starts_by g.K.Ord.cmp c.args.key c.args.behind.now.items ≡ true = search rules in
    let before = front-before g.met.K.Ord.total c.args.key c.args.front.now.items c.args.behind.now.items c.requires.sorted starts in
    c.put_in.ensures.value ∙ sym (value-past g.K.Ord.cmp c.args.key c.args.front.now.items c.args.behind.now.items before)

pub returns-then-starts-clause-behind : goal.returns-then-starts-clause-behind
returns-then-starts-clause-behind g c =
    let is = ap length c.put_in.ensures.items in
    let more = put-more g.K.Ord.cmp c.args.key c.args.value c.args.behind.now.items in
    let most = put-one-more g.K.Ord.cmp c.args.key c.args.value c.args.behind.now.items in
    (omega (arith, is, more), omega (arith, is, most), c.put_in.ensures.room)

pub returns-else-starts-clause-rows : goal.returns-else-starts-clause-rows
returns-else-starts-clause-rows g c =
    let starts : starts_by g.K.Ord.cmp c.args.key c.args.behind.now.items ≡ false = search rules in
    let behind = back-behind g.met.K.Ord.total c.args.key c.args.front.now.items c.args.behind.now.items c.requires.sorted c.requires.some starts in
    ap (λ l. l ++ c.args.behind.now.items) c.put_in-else-starts.ensures.items ∙ sym (put-short g.K.Ord.cmp c.args.key c.args.value c.args.front.now.items c.args.behind.now.items behind)

pub returns-else-starts-clause-value : goal.returns-else-starts-clause-value
returns-else-starts-clause-value g c =
    let starts : starts_by g.K.Ord.cmp c.args.key c.args.behind.now.items ≡ false = search rules in
    let behind = back-behind g.met.K.Ord.total c.args.key c.args.front.now.items c.args.behind.now.items c.requires.sorted c.requires.some starts in
    c.put_in-else-starts.ensures.value ∙ sym (value-short g.K.Ord.cmp c.args.key c.args.front.now.items c.args.behind.now.items behind)

pub returns-else-starts-clause-front : goal.returns-else-starts-clause-front
returns-else-starts-clause-front g c =
    let is = ap length c.put_in-else-starts.ensures.items in
    let more = put-more g.K.Ord.cmp c.args.key c.args.value c.args.front.now.items in
    let most = put-one-more g.K.Ord.cmp c.args.key c.args.value c.args.front.now.items in
    (omega (arith, is, more), omega (arith, is, most), c.put_in-else-starts.ensures.room)
