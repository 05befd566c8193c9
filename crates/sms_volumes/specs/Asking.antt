-- What the desk asks of the running volumes.
use Rattle.std.specs.Prelude.{ℕ, ◌≡◌, ◌<◌, ◌≤◌, ◌%◌, length}
use Rattle.desk_common.specs.Limits.{most_groups_set}
use Rattle.sms_construct.specs.Quantities.{tracks_in}
use Rattle.track_ledger.specs.declared.need.Need.{Need}
use Rattle.desk_law.specs.Candidates.{Ask}
use Rattle.sms_volumes.specs.declared.active_group.ActiveGroup.{ActiveGroup}
use Rattle.sms_volumes.specs.declared.asked.Asked.{Asked}

-- what the law knows of it
abbrev pub ask_of : Asked → Ask
ask_of asked = record {
  unit = asked.unit;
  tracks = asked.tracks;
  volumes = asked.volumes;
  eattr = asked.eattr;
  tiers = asked.tiers.now;
}

-- some tracks in whole units are asked for, and a SET lists at most 15 storage groups
pub record IsAsked (asked : Asked) : Type 0 where
  pub some : 0 < asked.tracks
  pub whole : asked.tracks % tracks_in asked.unit ≡ 0
  pub few : length asked.tiers.now ≤ most_groups_set

-- what the data set needs of a volume of this storage group, on which it holds so many extents
abbrev pub need_in : Asked → ActiveGroup → ℕ → Need
need_in asked group held = record {
  unit = asked.unit;
  tracks = asked.tracks;
  held = held;
  eattr = asked.eattr;
  breakpoint = group.group.breakpoint;
}
