use Rattle.std.proofs.Common.{map, sym, subst}
use Rattle.std.specs.Prelude.{string_bytes}
use Rattle.std.proofs.lemmas.Result.{IfErr-weaker}
use Rattle.clap.specs.Words.{kind_of}
use Rattle.clap.specs.declared.error.kind.ErrorKind.{ErrorKind}
use Rattle.tool_words.specs.Asking.{err_of}
use Rattle.tool_words.proofs.AskingLemmas.{MayHinder, hindered, unnamed}
use Rattle.tool_words.proofs.reading.paths_asked.Goals as goal

pub returns-in-Ok-clause-hindered : goal.returns-in-Ok-clause-hindered
returns-in-Ok-clause-hindered c =
    IfErr-weaker c.paths_in.result _ _ (λ e why. unnamed _ _ e c.in-Ok.ensures.free c.in-Ok.ensures.found why) c.paths_in.ensures.err

pub returns-in-Err-clause-hindered : goal.returns-in-Err-clause-hindered
returns-in-Err-clause-hindered c =
    let words = map string_bytes c.args.words.now in
    subst (MayHinder words) (sym c.words_err.ensures)
    (subst (λ (k : ErrorKind). MayHinder words (err_of k)) (sym c.kind.ensures) (hindered words (kind_of c.in-Err.error) c.in-Err.ensures.err))
