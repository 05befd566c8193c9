use Rattle.std.proofs.Common.{inl}
use Rattle.std.proofs.lemmas.Result.{IfErr-weaker, IfOk-weaker}
use Rattle.acs_test.specs.Layout.{parts_seen}
use Rattle.acs_test.proofs.ReadingLemmas.{laid_exactly, laid_may_refuse, unlaid_exactly}
use Rattle.acs_test.proofs.reading.read_cases.Goals as goal

pub returns-in-Ok-clause-ok : goal.returns-in-Ok-clause-ok
returns-in-Ok-clause-ok c =
    IfOk-weaker c.read_parts.result _ _ (λ cases gives. record { parts = parts_seen c.in-Ok.parts; laid = c.in-Ok.ensures.parts; gives = gives }) c.read_parts.ensures.ok

pub returns-in-Ok-clause-err : goal.returns-in-Ok-clause-err
returns-in-Ok-clause-err c =
    IfErr-weaker c.read_parts.result _ _ (λ err may. laid_may_refuse c.args.bytes.now (parts_seen c.in-Ok.parts) err c.in-Ok.ensures.parts may) c.read_parts.ensures.err

pub returns-in-Ok-clause-exactly : goal.returns-in-Ok-clause-exactly
returns-in-Ok-clause-exactly c = laid_exactly c.args.bytes.now (parts_seen c.in-Ok.parts) c.read_parts.result c.in-Ok.ensures.parts c.read_parts.ensures.exactly

pub returns-in-Err-clause-err : goal.returns-in-Err-clause-err
returns-in-Err-clause-err c = inl c.in-Err.ensures.parts

pub returns-in-Err-clause-exactly : goal.returns-in-Err-clause-exactly
returns-in-Err-clause-exactly c = unlaid_exactly c.args.bytes.now c.in-Err.line c.in-Err.ensures.parts
