use Rattle.std.proofs.Common.{ap, map, sym, subst, ◌∙◌}
use Rattle.std.specs.Prelude.{string_bytes}
use Rattle.clap.specs.Words.{kind_of}
use Rattle.clap.specs.declared.error.kind.ErrorKind.{ErrorKind}
use Rattle.smsd_words.specs.Asking.{err_of}
use Rattle.smsd_words.proofs.AskedLemmas.{MayHinder, answered, answered_case, asked_case, hindered, hindered_case}
use Rattle.smsd_words.proofs.reading.task_asked.Goals as goal

pub returns-in-Ok-clause-asked : goal.returns-in-Ok-clause-asked
returns-in-Ok-clause-asked c = asked_case _ _ c.in-Ok.ensures.free c.in-Ok.ensures.found c.asked_or_bad.result c.asked_or_bad.ensures.asked

pub returns-in-Ok-clause-hindered : goal.returns-in-Ok-clause-hindered
returns-in-Ok-clause-hindered c = hindered_case _ _ c.in-Ok.ensures.free c.in-Ok.ensures.found c.asked_or_bad.result c.asked_or_bad.ensures.bad c.asked_or_bad.ensures.none

pub returns-in-Ok-clause-answered : goal.returns-in-Ok-clause-answered
returns-in-Ok-clause-answered c asked asks = answered_case _ _ c.in-Ok.ensures.free c.in-Ok.ensures.found c.asked_or_bad.result c.asked_or_bad.ensures.none asked asks

pub returns-in-Err-clause-hindered : goal.returns-in-Err-clause-hindered
returns-in-Err-clause-hindered c =
    let words = map string_bytes c.args.words.now in
    subst (MayHinder words) (sym c.words_err.ensures)
    (subst (λ (k : ErrorKind). MayHinder words (err_of k)) (sym c.kind.ensures) (hindered words (kind_of c.in-Err.error) c.in-Err.ensures.err))

pub returns-in-Err-clause-answered : goal.returns-in-Err-clause-answered
returns-in-Err-clause-answered c asked asks =
    c.words_err.ensures ∙ ap err_of c.kind.ensures ∙ answered _ (kind_of c.in-Err.error) asked asks c.in-Err.ensures.err
