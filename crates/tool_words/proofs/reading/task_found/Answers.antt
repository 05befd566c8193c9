use Rattle.std.proofs.Common.{ap, sym, ◌∙◌}
use Rattle.clap.specs.Words.{found_of, rows_of}
use Rattle.tool_words.specs.Asking.{task_found}
use Rattle.tool_words.proofs.ToolLemmas.{found_rows}
use Rattle.tool_words.proofs.reading.task_found.Goals as goal

pub returns : goal.returns
returns c =
    let name = c.in_ok-name.name.now in
    let rows = rows_of (found_of c.in_ok-name.inner.now) in
    c.task_of.ensures ∙ sym (ap task_found (found_rows c.args.matches.now name rows c.in_ok-name.ensures.name c.in_ok-name.ensures.rows))
