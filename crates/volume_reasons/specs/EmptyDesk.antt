-- The volumes of a desk that has just activated a deck.
use Rattle.std.specs.Prelude.{List, map}
use Rattle.desk_law.specs.Activation.{activated}
use Rattle.desk_law.specs.Allocation.{Wish, ask_of, candidates_of}
use Rattle.desk_law.specs.Candidates.{view_of, want_of}
use Rattle.desk_law.specs.Records.{empty_opening}
use Rattle.desk_law.specs.State.{DeskState, start_of}
use Rattle.sms_construct.specs.Configuration.{Configuration}
use Rattle.volume_lists.specs.declared.view.VolView.{VolView}
use Rattle.volume_lists.specs.declared.view.Want.{Want}

-- the state in which the configuration has become active on a desk without data sets: its volumes are empty, and its
-- statuses those of the deck
abbrev pub empty_under : Configuration → DeskState
empty_under config = activated (start_of empty_opening) config

-- the candidates of a new data set as they stand when one is to be chosen
abbrev pub views_of : DeskState → Wish → List VolView
views_of s wish = map (view_of s (ask_of wish)) (candidates_of wish)

-- what the lists look at for it
abbrev pub wanted_by : Wish → Want
wanted_by wish = want_of (ask_of wish)
