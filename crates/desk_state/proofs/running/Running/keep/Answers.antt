use Rattle.std.proofs.Common.{◌∙◌, refl, sym, subst}
use Rattle.sms_construct.specs.declared.data_set.DataSet.{DataSet}
use Rattle.desk_law.specs.State.{with_set}
use Rattle.sms_volumes.specs.Holding.{AreVolumesOf}
use Rattle.desk_state.specs.Deeds.{HasFront}
use Rattle.desk_state.proofs.ApplyLemmas.{put-running}
use Rattle.desk_state.proofs.StandLemmas.{found-lies}
use Rattle.desk_state.proofs.running.Running.keep.Goals as goal

pub trim-requires-clause-lies : goal.trim-requires-clause-lies
trim-requires-clause-lies c = found-lies c.args.self.now c.requires.stands c.get-kept.result.now.dsn _ c.get.ensures

pub returns : goal.returns
returns c = λ s lawful is front.
    let same = c.get-kept.ensures in
    let cut = c.trim.ensures s lawful is.volumes (c.get.ensures ∙ is.sets c.get-kept.result.now.dsn) (subst (HasFront s.sets) (sym same) front) in
    put-running s c.args.set c.args.self.now _ refl refl c.put.ensures (subst (λ (d : DataSet). AreVolumesOf (with_set s d) c.trim.new.volumes) same cut) is
