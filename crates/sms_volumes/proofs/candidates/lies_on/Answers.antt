use Rattle.std.proofs.Common.{◌∙◌, rules, tests}
use Rattle.std.specs.Prelude.{bytes_eq}
use Rattle.std.proofs.lemmas.Iterator.Search.{any_from_yields_List}
use Rattle.std.proofs.lemmas.Iterator.Adapters.{YieldsList-from_rev_slice}
use Rattle.sms_construct.specs.declared.extent.Extent.{Extent}
use Rattle.sms_volumes.proofs.UsedLemmas.{any-reversed}
use Rattle.sms_volumes.proofs.candidates.lies_on.Goals as goal

pub returns : goal.returns
returns c =
    any_from_yields_List (λ (e : Extent). bytes_eq e.volser c.args.volser.now) _ _ _ c.any.ensures.ran (YieldsList-from_rev_slice c.args.extents.now cc) (λ x b q k. search (rules, tests))
    ∙ any-reversed c.args.volser.now c.args.extents.now
