-- The thresholds are those of the group that was found.
use Rattle.std.proofs.Common.{ap}
use Rattle.desk_law.specs.Candidates.{high_of}
use Rattle.volume_gaps.specs.ListedVolumes.{low_of}
use Rattle.volume_gaps.proofs.measuring.thresholds_of.Goals as goal

pub returns-in-Some-clause-high : goal.returns-in-Some-clause-high
returns-in-Some-clause-high c = ap high_of c.in-Some.ensures

pub returns-in-Some-clause-low : goal.returns-in-Some-clause-low
returns-in-Some-clause-low c = ap low_of c.in-Some.ensures

pub returns-in-None-clause-high : goal.returns-in-None-clause-high
returns-in-None-clause-high c = ap high_of c.in-None.ensures

pub returns-in-None-clause-low : goal.returns-in-None-clause-low
returns-in-None-clause-low c = ap low_of c.in-None.ensures
