use Rattle.std.proofs.Common.{inl, inr, refl}
use Rattle.smsd_serving.specs.declared.serving_end.ServingEnd.TheVariants.{Unopened}
use Rattle.smsd.proofs.serving.keep.Goals as goal

pub returns-in-Ok : goal.returns-in-Ok
returns-in-Ok g c = record {
  end = c.in-Ok.kept.end;
  cause = inl (record { hall = c.in-Ok.kept.hall; kept = c.in-Ok.ensures.served; asked = c.in-Ok.ensures.asked });
  code_is = c.end_serving-code.ensures;
}

pub returns-in-Err : goal.returns-in-Err
returns-in-Err g c = record {
  end = Unopened c.in-Err.err;
  cause = inr (record { err = c.in-Err.err; end_is = refl; unopened = c.in-Err.ensures.unopened });
  code_is = c.end_unserved.ensures;
}
