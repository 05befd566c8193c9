use Rattle.std.proofs.Common.{sym, ◌∙◌}
use Rattle.sms_open.proofs.KeyLemmas.{counted-take, left-told, none-told, some-told, too-often}
use Rattle.sms_open.proofs.apart.are_as_often.Goals as goal

pub returns : goal.returns
returns g c =
    left-told g.met.K.Ord.total c.args.wanted.now c.args.found.now c.loop-key.key-index c.loop-key.left.rows c.first.result c.is_none-2.result
    c.loop-key-test.false c.first.ensures c.is_none-2.ensures c.loop-key.invariant

pub loop-key-preserved : goal.loop-key-preserved
loop-key-preserved g c = λ key.
    let found = some-told c.remove.result c.is_none.result c.is_none.ensures c.if-is_none.false in
    counted-take g.met.K.Ord.total c.args.wanted.now c.args.found.now c.loop-key.key-index c.key-item.result key found.0 c.loop-key.left.rows c.remove.new.self.rows
    c.loop-key-test.true c.key-item.is (c.remove.ensures.found key) (sym c.remove.ensures.value ∙ found.1) (c.loop-key.invariant key)

pub returns-then-is_none : goal.returns-then-is_none
returns-then-is_none g c =
    too-often g.met.K.Ord.total c.args.wanted.now c.args.found.now c.loop-key.key-index c.key-item.result c.loop-key.left.rows
    c.loop-key-test.true c.key-item.is (sym c.remove.ensures.value ∙ none-told c.remove.result c.is_none.result c.is_none.ensures c.if-is_none.true) (c.loop-key.invariant c.key-item.result)
