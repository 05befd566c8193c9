use Rattle.std.proofs.lemmas.Result.{on_ok_weaker}
use Rattle.acs_tree.specs.declared.kind.Kind.TheVariants.{DataClas, StorClas, MgmtClas, StorGrp}
use Rattle.sms_coverage.proofs.CoverageLemmas.{others_dataclas, others_mgmtclas, others_storclas, others_storgrp, run_counted}
use Rattle.sms_coverage.proofs.kind_tallies.KindTallies.count_run.Goals as goal

pub returns-in-DataClas : goal.returns-in-DataClas
returns-in-DataClas c =
    on_ok_weaker _ (λ counts. run_counted c.args.run.now DataClas c.args.self.now (record c.args.self.now { dataclas = c.count_events.new.self }) c.as_slice-events.result.now c.in-DataClas.is c.as_slice-events.ensures counts (others_dataclas c.args.self.now c.count_events.new.self)) c.count_events.ensures

pub returns-in-StorClas : goal.returns-in-StorClas
returns-in-StorClas c =
    on_ok_weaker _ (λ counts. run_counted c.args.run.now StorClas c.args.self.now (record c.args.self.now { storclas = c.count_events-in-StorClas.new.self }) c.as_slice-events.result.now c.in-StorClas.is c.as_slice-events.ensures counts (others_storclas c.args.self.now c.count_events-in-StorClas.new.self)) c.count_events-in-StorClas.ensures

pub returns-in-MgmtClas : goal.returns-in-MgmtClas
returns-in-MgmtClas c =
    on_ok_weaker _ (λ counts. run_counted c.args.run.now MgmtClas c.args.self.now (record c.args.self.now { mgmtclas = c.count_events-in-MgmtClas.new.self }) c.as_slice-events.result.now c.in-MgmtClas.is c.as_slice-events.ensures counts (others_mgmtclas c.args.self.now c.count_events-in-MgmtClas.new.self)) c.count_events-in-MgmtClas.ensures

pub returns-in-StorGrp : goal.returns-in-StorGrp
returns-in-StorGrp c =
    on_ok_weaker _ (λ counts. run_counted c.args.run.now StorGrp c.args.self.now (record c.args.self.now { storgrp = c.count_events-in-StorGrp.new.self }) c.as_slice-events.result.now c.in-StorGrp.is c.as_slice-events.ensures counts (others_storgrp c.args.self.now c.count_events-in-StorGrp.new.self)) c.count_events-in-StorGrp.ensures
