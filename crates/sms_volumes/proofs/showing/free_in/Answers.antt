use Rattle.std.proofs.Common.{arith, cond, true, false, ◌≡◌, ◌∙◌, refl, sym}
use Rattle.std.specs.Prelude.{bytes_eq}
use Rattle.sms_volumes.specs.Inner.Showing.{running_free}
use Rattle.sms_volumes.proofs.ShowLemmas.{in-more}
use Rattle.sms_volumes.proofs.showing.free_in.Goals.{then-eq, else-eq}
use Rattle.sms_volumes.proofs.showing.free_in.Goals as goal

pub loop-volume-preserved : goal.loop-volume-preserved
loop-volume-preserved c =
    let f = running_free in
    let v = c.volume-item.result in
    let more = in-more c.args.name.now f c.args.volumes.now c.loop-volume.volume-index v c.loop-volume-test.true c.volume-item.is in
    elim c.if-eq.branch [
      | then-eq w ↦
          let on : bytes_eq v.volume.group c.args.name.now ≡ true = sym c.eq.ensures ∙ w.if-eq.true in
          let here : cond (bytes_eq v.volume.group c.args.name.now) (f v) 0 ≡ f v = rw on refl in
          (omega (arith, more, here, w.tracks-is, w.free-tracks.ensures.value, c.loop-volume.invariant.0), omega (arith, w.tracks-is, w.free-tracks.ensures.small, c.loop-volume.invariant.1))
      | else-eq w ↦
          let off : bytes_eq v.volume.group c.args.name.now ≡ false = sym c.eq.ensures ∙ w.if-eq.false in
          let here : cond (bytes_eq v.volume.group c.args.name.now) (f v) 0 ≡ 0 = rw off refl in
          (omega (arith, more, here, w.tracks-is, c.loop-volume.invariant.0), omega (arith, w.tracks-is, c.loop-volume.invariant.1))
    ]
