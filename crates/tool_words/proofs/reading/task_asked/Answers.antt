use Rattle.std.proofs.Common.{map, sym, subst}
use Rattle.std.specs.Prelude.{string_bytes, Err}
use Rattle.clap.specs.Words.{kind_of}
use Rattle.clap.specs.declared.error.kind.ErrorKind.{ErrorKind}
use Rattle.tool_words.specs.Asking.{err_of}
use Rattle.tool_words.proofs.AskingLemmas.{MayHinder, asked, exact_task, hindered, matched, tool_sorted, unasked}
use Rattle.tool_words.proofs.reading.task_asked.Goals as goal

pub returns-in-Ok-clause-asked : goal.returns-in-Ok-clause-asked
returns-in-Ok-clause-asked c = asked _ _ c.task_in.result c.in-Ok.ensures.free c.in-Ok.ensures.found c.task_in.ensures

pub returns-in-Ok-clause-hindered : goal.returns-in-Ok-clause-hindered
returns-in-Ok-clause-hindered c = unasked _ _ c.task_in.result c.in-Ok.ensures.free c.in-Ok.ensures.found c.task_in.ensures

pub returns-in-Ok-clause-exactly : goal.returns-in-Ok-clause-exactly
returns-in-Ok-clause-exactly c =
    exact_task (map string_bytes c.args.words.now) c.task_in.result
    (asked _ _ c.task_in.result c.in-Ok.ensures.free c.in-Ok.ensures.found c.task_in.ensures)
    (unasked _ _ c.task_in.result c.in-Ok.ensures.free c.in-Ok.ensures.found c.task_in.ensures)

pub returns-in-Ok-clause-sorted : goal.returns-in-Ok-clause-sorted
returns-in-Ok-clause-sorted c = tool_sorted (map string_bytes c.args.words.now)

pub returns-in-Err-clause-sorted : goal.returns-in-Err-clause-sorted
returns-in-Err-clause-sorted c = tool_sorted (map string_bytes c.args.words.now)

pub returns-in-Err-clause-hindered : goal.returns-in-Err-clause-hindered
returns-in-Err-clause-hindered c =
    let words = map string_bytes c.args.words.now in
    subst (MayHinder words) (sym c.words_err.ensures)
    (subst (λ (k : ErrorKind). MayHinder words (err_of k)) (sym c.kind.ensures) (hindered words (kind_of c.in-Err.error) c.in-Err.ensures.err))

pub returns-in-Err-clause-exactly : goal.returns-in-Err-clause-exactly
returns-in-Err-clause-exactly c =
    let words = map string_bytes c.args.words.now in
    exact_task words (Err c.words_err.result) tt
    (subst (MayHinder words) (sym c.words_err.ensures)
    (subst (λ (k : ErrorKind). MayHinder words (err_of k)) (sym c.kind.ensures) (hindered words (kind_of c.in-Err.error) c.in-Err.ensures.err)))

pub returns-in-Ok-clause-known : goal.returns-in-Ok-clause-known
returns-in-Ok-clause-known c task w =
    matched (map string_bytes c.args.words.now) task c.task_in.result w
    (asked _ _ c.task_in.result c.in-Ok.ensures.free c.in-Ok.ensures.found c.task_in.ensures)
    (unasked _ _ c.task_in.result c.in-Ok.ensures.free c.in-Ok.ensures.found c.task_in.ensures)

pub returns-in-Err-clause-known : goal.returns-in-Err-clause-known
returns-in-Err-clause-known c task w =
    let words = map string_bytes c.args.words.now in
    matched words task (Err c.words_err.result) w tt
    (subst (MayHinder words) (sym c.words_err.ensures)
    (subst (λ (k : ErrorKind). MayHinder words (err_of k)) (sym c.kind.ensures) (hindered words (kind_of c.in-Err.error) c.in-Err.ensures.err)))
