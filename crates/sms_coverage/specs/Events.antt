-- What happens in the routines of a deck, and how often (docs/manual/tool.md, "Coverage of a script").
use Rattle.std.specs.Prelude.{ℕ, List, [], Option, None, Some, flat_map, if◌then◌else◌}
use Rattle.acs_coverage.specs.Counts.{AreCounts, tally_of}
use Rattle.acs_coverage.specs.declared.tally.Tally.{Tally}
use Rattle.acs_trace.specs.declared.event.Event.{Event}
use Rattle.acs_tree.specs.Slates.{same_kind}
use Rattle.acs_tree.specs.declared.kind.Kind.{Kind}
use Rattle.acs_tree.specs.declared.kind.Kind.TheVariants.{DataClas, StorClas, MgmtClas, StorGrp}
use Rattle.sms_construct.specs.Configuration.{Configuration}
use Rattle.sms_construct.specs.declared.alloc.Alloc.{Alloc}
use Rattle.sms_script.specs.declared.item.Item.{Item}
use Rattle.sms_simulation.specs.Simulation.{alloc_of}
use Rattle.sms_story.specs.Runs.{runs_of}
use Rattle.sms_story.specs.declared.run.Run.{Run}
use Rattle.sms_coverage.specs.declared.kind_tallies.KindTallies.{KindTallies}

-- the runs in the classification of the ALLOC of an item, if there is one
abbrev pub runs_if : Configuration → Item → Option Alloc → List Run
runs_if config item None = []
runs_if config item (Some alloc) = runs_of config item.request.job alloc

-- the runs in the classification of an item; none but of an ALLOC
abbrev pub runs_of_item : Configuration → Item → List Run
runs_of_item config item = runs_if config item (alloc_of item.request.op)

-- what happens in a run, if it is one of the routine of that kind
abbrev pub events_of_run : Kind → Run → List Event
events_of_run kind run = if same_kind run.kind kind then run.events else []

-- what happens in the routine of a kind in these runs
abbrev pub events_in : Kind → List Run → List Event
events_in kind runs = flat_map (events_of_run kind) runs

-- how often something happens at each token of the routine of each kind in these runs
abbrev pub counts_of : List Run → Kind → ℕ → Tally
counts_of runs kind = tally_of (events_in kind runs)

-- the counts of the routine of a kind
abbrev pub tallies_in : KindTallies → Kind → List Tally
tallies_in tallies DataClas = tallies.dataclas
tallies_in tallies StorClas = tallies.storclas
tallies_in tallies MgmtClas = tallies.mgmtclas
tallies_in tallies StorGrp = tallies.storgrp

-- these are the counts of what happens in these runs, routine by routine
abbrev pub AreCounted : List Run → KindTallies → Type 0
AreCounted runs tallies = (kind : Kind) → AreCounts (events_in kind runs) (tallies_in tallies kind)
