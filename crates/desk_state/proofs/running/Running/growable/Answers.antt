use Rattle.std.proofs.Common.{◌∙◌, ap, sym, subst}
use Rattle.std.specs.Option.{option_copied}
use Rattle.desk_state.specs.Inner.Growing.{IsGrowable}
use Rattle.desk_state.proofs.ExtensionLemmas.{found-growable}
use Rattle.desk_state.proofs.running.Running.growable.Goals as goal

pub returns-in_ok-share-in-Some-clause-growable : goal.returns-in_ok-share-in-Some-clause-growable
returns-in_ok-share-in-Some-clause-growable c =
    subst IsGrowable (sym c.in_ok-share-in-Some.ensures)
    (found-growable c.args.self.now c.requires c.args.dsn.now c.in-Some.set.now (sym c.get.ensures ∙ ap option_copied c.in-Some.is))
