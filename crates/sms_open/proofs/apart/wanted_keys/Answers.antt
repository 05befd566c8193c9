use Rattle.std.proofs.Common.{◌≡◌, Bool, true, List, refl, ap, ◌∙◌, take}
use Rattle.std.specs.BTreeMap.{is_at}
use Rattle.std.specs.Map.{lookup}
use Rattle.sms_open.specs.Inner.Keys.{times_found, times_key}
use Rattle.sms_open.proofs.KeyLemmas.{counted-put, not-yet, times-end}
use Rattle.sms_open.proofs.apart.wanted_keys.Goals as goal

pub loop-key-preserved : goal.loop-key-preserved
loop-key-preserved g c = λ key.
    let R = g.K.Ord.cmp in
    let k = c.key-item.result in
    let old = c.reserve.new.self.rows in
    let counted : (other : g.row.K.Denot) → times_found (lookup (is_at (R other)) old) ≡ times_key R other (take c.loop-key.key-index c.args.keys.now) =
    λ other. ap (λ (es : List (g.row.K.Denot × Bool)). times_found (lookup (is_at (R other)) es)) c.reserve.ensures.rows ∙ c.loop-key.invariant other in
    counted-put g.met.K.Ord.total c.args.keys.now c.loop-key.key-index k key true old c.put.new.self.rows
    c.loop-key-test.true c.key-item.is (c.put.ensures.found key)
    (not-yet g.met.K.Ord.total c.args.keys.now c.loop-key.key-index k old _ refl c.loop-key-test.true c.key-item.is c.requires (counted k))
    (counted key)

pub returns : goal.returns
returns g c = λ key. c.loop-key.invariant key ∙ times-end g.K.Ord.cmp key c.args.keys.now c.loop-key.key-index c.loop-key-test.false
