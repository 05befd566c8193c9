use Rattle.std.proofs.Common.{sym, ap, ◌∙◌}
use Rattle.manage_calls.specs.Inner.LineAlone.{kind_told}
use Rattle.manage_calls.proofs.AloneLemmas.{line-told, refused-told}
use Rattle.manage_calls.proofs.reserved.kind_of_line.Goals as goal

pub returns-in-Ok : goal.returns-in-Ok
returns-in-Ok c = c.kind_of_script.ensures ∙ ap kind_told (sym c.in-Ok.ensures.script) ∙ line-told c.args.line.now c.requires.one

pub returns-in-Err : goal.returns-in-Err
returns-in-Err c = refused-told c.args.line.now c.kind_of_fault.result c.in-Err.fault c.requires.one c.in-Err.ensures.refused c.kind_of_fault.ensures
