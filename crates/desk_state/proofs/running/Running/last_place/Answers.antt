use Rattle.std.proofs.Common.{◌∙◌, ap, sym}
use Rattle.std.specs.Option.{option_copied}
use Rattle.desk_state.proofs.ExtensionLemmas.{last-at}
use Rattle.desk_state.proofs.running.Running.last_place.Goals as goal

pub returns-clause-found : goal.returns-clause-found
returns-clause-found c = λ s is.
    last-at s c.args.self.now.volumes c.args.extents.now c.in_ok-last.last.now c.place_of.result is.volumes (sym c.last.ensures.value ∙ ap option_copied c.in_ok-last.was) c.place_of.ensures.found
