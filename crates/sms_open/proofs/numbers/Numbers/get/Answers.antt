use Rattle.std.proofs.Common.{◌∙◌, ap}
use Rattle.std.specs.Prelude.{unwrap_or}
use Rattle.ordered_index.proofs.LookupLemmas.{lookup-text}
use Rattle.sms_open.specs.Inner.Targets.{number_on}
use Rattle.sms_open.proofs.numbers.Numbers.get.Goals as goal

pub returns : goal.returns
returns c =
    c.unwrap_or.ensures ∙ ap (λ o. unwrap_or o 0) (c.copied.ensures ∙ c.get.ensures ∙ lookup-text c.args.volser.now c.self.inside.numbers.rows)
    ∙ ap (number_on c.args.volser.now) c.self.view_is
