use Rattle.smsd.proofs.checking.check_deck.Goals as goal

pub returns : goal.returns
returns g c =
    record {
      status = c.store_check-status.result.0;
      good = c.store_check-status.result.1;
      ends = c.store_check-status.ensures.ends;
      code_is = c.end_check.ensures;
    }
