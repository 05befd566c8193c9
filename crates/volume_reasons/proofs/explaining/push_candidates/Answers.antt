use Rattle.std.proofs.Common.{◌++◌, ◌∙◌, ℕ, List, ap, sym}
use Rattle.std.proofs.lemmas.List.{append-nil}
use Rattle.desk_law.specs.Classification.{classes_of}
use Rattle.volume_reasons.proofs.EmptyLemmas.{done-text, stopped-text}
use Rattle.volume_reasons.proofs.explaining.push_candidates.Goals as goal

pub returns-then-not-is_done : goal.returns-then-not-is_done
returns-then-not-is_done c =
    let text = c.args.text.now.items in
    let none = stopped-text c.args.config.now c.args.job.now c.args.allocation.now c.classify-classified.result.stop c.classify-classified.ensures.stop (sym c.if-not-is_done.ensures) in
    sym (append-nil text) ∙ ap (λ (l : List ℕ). text ++ l) (sym none)

pub returns : goal.returns
returns c =
    let config = c.args.config.now in
    let job = c.args.job.now in
    let alloc = c.args.allocation.now in
    let same = done-text config job alloc c.classify-classified.result.stop c.classify-classified.ensures.stop (sym c.if-not-is_done.ensures) in
    c.in_ok-push_done.ensures (classes_of config job alloc) (sym c.classify-classified.ensures.values) ∙ ap (λ (l : List ℕ). c.args.text.now.items ++ l) (sym same)
