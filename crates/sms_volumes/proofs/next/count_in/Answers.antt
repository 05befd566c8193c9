use Rattle.std.proofs.Common.{arith, cond, zero, suc, true, false, ◌≡◌, ◌∙◌, refl, sym}
use Rattle.std.specs.Prelude.{bytes_eq}
use Rattle.sms_construct.specs.declared.volume.VolumeDef.{VolumeDef}
use Rattle.sms_volumes.proofs.NextLemmas.{count-more}
use Rattle.sms_volumes.proofs.next.count_in.Goals.{then-eq, else-eq}
use Rattle.sms_volumes.proofs.next.count_in.Goals as goal

pub loop-volume-preserved : goal.loop-volume-preserved
loop-volume-preserved c =
    let v = c.volume-item.result in
    let more = count-more (λ (d : VolumeDef). bytes_eq d.group c.args.name.now) c.args.volumes.now c.loop-volume.volume-index v c.loop-volume-test.true c.volume-item.is in
    elim c.if-eq.branch [
      | then-eq w ↦
          let on : bytes_eq v.group c.args.name.now ≡ true = sym c.eq.ensures ∙ w.if-eq.true in
          let here : cond (bytes_eq v.group c.args.name.now) 1 zero ≡ suc zero = rw on refl in
          (omega (arith, more, here, w.count-is, c.loop-volume.invariant.0), omega (arith, w.count-is, c.loop-volume.invariant.1))
      | else-eq w ↦
          let off : bytes_eq v.group c.args.name.now ≡ false = sym c.eq.ensures ∙ w.if-eq.false in
          let here : cond (bytes_eq v.group c.args.name.now) 1 zero ≡ zero = rw off refl in
          (omega (arith, more, here, w.count-is, c.loop-volume.invariant.0), omega (arith, w.count-is, c.loop-volume.invariant.1))
    ]
