use Rattle.std.proofs.Common.{◌∙◌, Some, ap, bytes_eq, cond}
use Rattle.ordered_index.proofs.LookupLemmas.{found-text}
use Rattle.sms_open.specs.Inner.Targets.{number_on}
use Rattle.sms_open.proofs.KeyLemmas.{number-put}
use Rattle.sms_open.proofs.numbers.Numbers.put.Goals as goal

pub returns : goal.returns
returns c = λ other.
    number-put c.args.volser other c.args.number c.reserve.new.self.rows c.put.new.self.rows
    (found-text c.args.volser other (Some c.args.number) c.reserve.new.self.rows c.put.new.self.rows (c.put.ensures.found other))
    ∙ ap (λ v. cond (bytes_eq c.args.volser other) c.args.number (number_on other v)) (c.in_ok-reserve.ensures.rows ∙ c.self.view_is)
