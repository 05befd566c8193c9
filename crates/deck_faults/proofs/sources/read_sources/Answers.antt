-- What comes of the four texts.
use Rattle.deck_faults.proofs.ReadLemmas.{are_read}
use Rattle.deck_faults.proofs.sources.read_sources.Goals as goal

pub returns : goal.returns
returns c = are_read c.in_ok-dataclas.ensures c.in_ok-storclas.ensures c.in_ok-mgmtclas.ensures c.in_ok-storgrp.ensures
