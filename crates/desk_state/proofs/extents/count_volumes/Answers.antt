use Rattle.std.proofs.Common.{arith, cond, true, false, zero, suc, ◌≡◌, ◌∙◌, refl, ap, sym, rules, take}
use Rattle.sms_construct.specs.declared.extent.Extent.{Extent}
use Rattle.desk_law.specs.Extents.{is_used}
use Rattle.desk_state.proofs.SpreadLemmas.{counted-more}
use Rattle.desk_state.proofs.extents.count_volumes.Goals.{then-not-lies_on, else-not-lies_on}
use Rattle.desk_state.proofs.extents.count_volumes.Goals as goal

pub loop-place-preserved : goal.loop-place-preserved
loop-place-preserved c =
    let e = c.index-extents-place.result in
    let es = c.args.extents.now in
    let i = c.loop-place.place in
    let more = counted-more es i e c.lies_on.result (omega (arith, c.loop-place-test.true)) c.index-extents-place.is (ap (λ (x : Extent). is_used x.volser (take i es)) c.index-extents-place.is ∙ sym c.lies_on.ensures) in
    elim c.if-not-lies_on.branch [
      | then-not-lies_on w ↦
          let off : c.lies_on.result ≡ false = search rules in
          let one : cond c.lies_on.result zero (suc zero) ≡ suc zero = rw off refl in
          (omega (arith, more, one, w.count-is, c.loop-place.invariant.0), omega (arith, w.count-is, c.loop-place.invariant.1))
      | else-not-lies_on w ↦
          let on : c.lies_on.result ≡ true = search rules in
          let none : cond c.lies_on.result zero (suc zero) ≡ zero = rw on refl in
          (omega (arith, more, none, w.count-is, c.loop-place.invariant.0), omega (arith, w.count-is, c.loop-place.invariant.1))
    ]
