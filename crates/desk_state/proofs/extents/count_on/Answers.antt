use Rattle.std.proofs.Common.{arith, cond, true, false, zero, suc, ◌≡◌, ◌∙◌, refl, sym}
use Rattle.std.specs.Prelude.{bytes_eq}
use Rattle.desk_state.proofs.ExtentLemmas.{count-more}
use Rattle.desk_state.proofs.extents.count_on.Goals.{then-eq, else-eq}
use Rattle.desk_state.proofs.extents.count_on.Goals as goal

pub loop-extent-preserved : goal.loop-extent-preserved
loop-extent-preserved c =
    let e = c.extent-item.result in
    let more = count-more c.args.volser.now c.args.extents.now c.loop-extent.extent-index e c.loop-extent-test.true c.extent-item.is in
    elim c.if-eq.branch [
      | then-eq w ↦
          let on : bytes_eq e.volser c.args.volser.now ≡ true = sym c.eq.ensures ∙ w.if-eq.true in
          let here : cond (bytes_eq e.volser c.args.volser.now) (suc zero) zero ≡ suc zero = rw on refl in
          (omega (arith, more, here, w.count-is, c.loop-extent.invariant.0), omega (arith, w.count-is, c.loop-extent.invariant.1))
      | else-eq w ↦
          let off : bytes_eq e.volser c.args.volser.now ≡ false = sym c.eq.ensures ∙ w.if-eq.false in
          let here : cond (bytes_eq e.volser c.args.volser.now) (suc zero) zero ≡ zero = rw off refl in
          (omega (arith, more, here, w.count-is, c.loop-extent.invariant.0), omega (arith, w.count-is, c.loop-extent.invariant.1))
    ]
