use Rattle.std.proofs.lemmas.Result.{err_from_is_err_and}
use Rattle.toml.specs.View.{table_view}
use Rattle.deck_meaning.proofs.OutcomeLemmas.{tells_dataclas, tells_storclas, tells_mgmtclas, tells_storgrp}
use Rattle.sms_deck.proofs.sources.read_sources.Goals as goal

pub returns-in_err-dataclas-clause-err : goal.returns-in_err-dataclas-clause-err
returns-in_err-dataclas-clause-err c =
    let p = err_from_is_err_and c.from_residual.result c.from_residual.ensures.1 in
    rw (p.1, p.2) (tells_dataclas (table_view c.args.top.now) _ c.in_err-dataclas.ensures.err)

pub returns-in_err-storclas-clause-err : goal.returns-in_err-storclas-clause-err
returns-in_err-storclas-clause-err c =
    let p = err_from_is_err_and c.from_residual-in_err-storclas.result c.from_residual-in_err-storclas.ensures.1 in
    rw (p.1, p.2) (tells_storclas (table_view c.args.top.now) c.in_ok-dataclas.dataclas _ c.in_ok-dataclas.ensures.ok c.in_err-storclas.ensures.err)

pub returns-in_err-mgmtclas-clause-err : goal.returns-in_err-mgmtclas-clause-err
returns-in_err-mgmtclas-clause-err c =
    let p = err_from_is_err_and c.from_residual-in_err-mgmtclas.result c.from_residual-in_err-mgmtclas.ensures.1 in
    rw (p.1, p.2) (tells_mgmtclas (table_view c.args.top.now) c.in_ok-dataclas.dataclas c.in_ok-storclas.storclas _ c.in_ok-dataclas.ensures.ok c.in_ok-storclas.ensures.ok c.in_err-mgmtclas.ensures.err)

pub returns-in_err-storgrp-clause-err : goal.returns-in_err-storgrp-clause-err
returns-in_err-storgrp-clause-err c =
    let p = err_from_is_err_and c.from_residual-in_err-storgrp.result c.from_residual-in_err-storgrp.ensures.1 in
    rw (p.1, p.2)
    (tells_storgrp (table_view c.args.top.now) c.in_ok-dataclas.dataclas c.in_ok-storclas.storclas c.in_ok-mgmtclas.mgmtclas _ c.in_ok-dataclas.ensures.ok c.in_ok-storclas.ensures.ok c.in_ok-mgmtclas.ensures.ok c.in_err-storgrp.ensures.err)
