use Rattle.std.proofs.Common.{sym, ◌∙◌}
use Rattle.manage_calls.proofs.FreeLemmas.{managed-free}
use Rattle.manage_calls.proofs.reading.read_managed.Goals as goal

-- without a reserved line no request is reserved
pub returns-in_default-None-clause-free : goal.returns-in_default-None-clause-free
returns-in_default-None-clause-free c = managed-free c.args.bytes.now c.read_script-script.result (sym c.in-Ok.ensures ∙ c.in_default-None.is-1) c.read_script-script.ensures.script
