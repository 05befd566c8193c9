use Rattle.std.proofs.Common.{◌∙◌, ap}
use Rattle.acs_tree.specs.Variables.{variable_of}
use Rattle.acs_tree.proofs.TableLemmas.{by_length}
use Rattle.acs_tree.proofs.variable.Variable.named.Goals as goal

pub returns : goal.returns
returns c = c.look_up.ensures ∙ by_length c.bytes-bytes.result.now _ c.with_length.ensures ∙ ap variable_of c.bytes-bytes.ensures.bytes
