use Rattle.std.proofs.Common.{ap₂, ◌∙◌, refl}
use Rattle.std.proofs.lemmas.Result.{IfOk-weaker}
use Rattle.clap.specs.Words.{with_rule}
use Rattle.smsd_words.proofs.command.run_command.Goals as goal

pub returns-clause-app : goal.returns-clause-app
returns-clause-app c =
    let one = c.in_ok-arg.ensures.shape c.word.ensures.local ∙ ap₂ with_rule c.new.ensures.app c.word.ensures.rule in
    let two = c.in_ok-arg-2.ensures.shape c.flag.ensures.local ∙ ap₂ with_rule one c.flag.ensures.rule in
    let three = c.in_ok-arg-3.ensures.shape c.flag-2.ensures.local ∙ ap₂ with_rule two c.flag-2.ensures.rule in
    let four = c.in_ok-arg-4.ensures.shape c.option.ensures.local ∙ ap₂ with_rule three c.option.ensures.rule in
    IfOk-weaker c.arg-5.result _ _ (λ r h. h.shape c.option-2.ensures.local ∙ ap₂ with_rule four c.option-2.ensures.rule) c.arg-5.ensures

pub returns-clause-own : goal.returns-clause-own
returns-clause-own c =
    IfOk-weaker c.arg-5.result _ _
    (λ r h. h.globals
    ∙ rw (c.in_ok-arg-4.ensures.globals, c.in_ok-arg-3.ensures.globals, c.in_ok-arg-2.ensures.globals, c.in_ok-arg.ensures.globals, c.new.ensures.local, c.word.ensures.local, c.flag.ensures.local, c.flag-2.ensures.local, c.option.ensures.local, c.option-2.ensures.local) refl)
    c.arg-5.ensures
