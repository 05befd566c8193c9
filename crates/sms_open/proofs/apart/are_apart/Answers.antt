use Rattle.std.proofs.Common.{Bool, true, List, sym, ap, ◌∙◌}
use Rattle.std.specs.BTreeMap.{is_at}
use Rattle.std.specs.Map.{lookup}
use Rattle.sms_open.specs.Inner.Keys.{times_found}
use Rattle.sms_open.proofs.KeyLemmas.{apart-end, counted-put, none-is, some-is, stands-twice}
use Rattle.sms_open.proofs.apart.are_apart.Goals as goal

pub loop-key-preserved : goal.loop-key-preserved
loop-key-preserved g c = λ key.
    let R = g.K.Ord.cmp in
    counted-put g.met.K.Ord.total c.args.keys.now c.loop-key.key-index c.key-item.result key true c.reserve.new.self.rows c.put.new.self.rows
    c.loop-key-test.true c.key-item.is (c.put.ensures.found key)
    (sym c.put.ensures.value ∙ none-is c.put.result c.is_some.result c.is_some.ensures c.if-is_some.false)
    (ap (λ (es : List (g.row.K.Denot × Bool)). times_found (lookup (is_at (R key)) es)) c.reserve.ensures.rows ∙ c.loop-key.invariant key)

pub returns-then-is_some : goal.returns-then-is_some
returns-then-is_some g c =
    let R = g.K.Ord.cmp in
    let k = c.key-item.result in
    let found = some-is c.put.result c.is_some.result c.is_some.ensures c.if-is_some.true in
    stands-twice g.met.K.Ord.total c.args.keys.now c.loop-key.key-index k found.0 c.reserve.new.self.rows
    c.loop-key-test.true c.key-item.is (sym c.put.ensures.value ∙ found.1)
    (ap (λ (es : List (g.row.K.Denot × Bool)). times_found (lookup (is_at (R k)) es)) c.reserve.ensures.rows ∙ c.loop-key.invariant k)

pub returns : goal.returns
returns g c = apart-end g.met.K.Ord.total c.args.keys.now c.loop-key.key-index c.loop-key.seen.rows c.loop-key-test.false c.loop-key.invariant
