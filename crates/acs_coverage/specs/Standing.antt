-- Where events stand in a routine (docs/manual/tool.md, "Coverage of a script").
use Rattle.std.specs.Prelude.{◌≡◌, ◌⊎◌, List, [], ◌∷◌}
use Rattle.acs_coverage.specs.declared.point.Point.{Point}
use Rattle.acs_coverage.specs.declared.point.Point.TheVariants.{Statement, When, Comparison}
use Rattle.acs_trace.specs.declared.event.Event.{Event}
use Rattle.acs_trace.specs.declared.event.Event.TheVariants as events

-- the point is one of these
abbrev pub IsAmong : Point → List Point → Type 0
IsAmong point [] = ⊥
IsAmong point (other ∷ others) = (point ≡ other) ⊎ IsAmong point others

-- what begins, is compared or is taken does so at one of these points; of what a SET, a WRITE or an EXIT does nothing is
-- said
abbrev pub StandsAt : List Point → Event → Type 0
StandsAt points (events.Ran at) = IsAmong (Statement at) points
StandsAt points (events.Compared left op right value holds) = IsAmong (Comparison left op right) points
StandsAt points (events.Taken at) = IsAmong (When at) points
StandsAt points (events.Set target value) = Unit {0}
StandsAt points (events.Wrote line) = Unit {0}
StandsAt points (events.Exited code) = Unit {0}

-- each of these events does
abbrev pub AllStand : List Point → List Event → Type 0
AllStand points [] = Unit {0}
AllStand points (event ∷ events) = StandsAt points event × AllStand points events
