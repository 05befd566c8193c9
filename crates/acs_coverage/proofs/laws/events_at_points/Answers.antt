use Rattle.acs_coverage.proofs.StandingLemmas.{story_stands}
use Rattle.acs_coverage.proofs.laws.events_at_points.Goals as goal

pub returns : goal.returns
returns c = story_stands
