use Rattle.std.proofs.Common.{◌∙◌, ap}
use Rattle.acs_code.specs.Compiled.{compiled_in}
use Rattle.acs_code.proofs.ListLemmas.{filter_of_list, no_list}
use Rattle.acs_code.proofs.lists.Lists.filter_place.Goals as goal

pub returns-in-None : goal.returns-in-None
returns-in-None c =
    no_list c.args.self.now c.as_slice.result.now (c.as_slice.ensures.value ∙ c.self.invariant ∙ ap compiled_in c.self.view_is) c.args.name.now c.args.whole c.in-None.ensures

pub returns-in-Some : goal.returns-in-Some
returns-in-Some c =
    rw c.filter_place.ensures (filter_of_list c.args.self.now c.as_slice.result.now (c.as_slice.ensures.value ∙ c.self.invariant ∙ ap compiled_in c.self.view_is) c.args.name.now c.args.whole c.in-Some.place c.in-Some.ensures)
