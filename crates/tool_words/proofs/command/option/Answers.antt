use Rattle.std.proofs.Common.{ap, Some}
use Rattle.clap.specs.Walk.{Rule}
use Rattle.tool_words.proofs.command.option.Goals as goal

pub returns-clause-rule : goal.returns-clause-rule
returns-clause-rule c = rw c.long.ensures (ap (λ (r : Rule). record r { long = Some c.args.name.now }) c.new.ensures.rule)

pub returns-clause-local : goal.returns-clause-local
returns-clause-local c = rw c.long.ensures c.new.ensures.optional.1
