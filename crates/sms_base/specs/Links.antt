-- Links and doors in memory as contracts see them.
use Rattle.std.specs.Prelude.{ℕ, ◌≡◌, ◌≤◌, ◌+◌, List, [], Bool, true, length, Vec, vec_capacity}
use Rattle.std.specs.declared.alloc.Global.{Global}
use Rattle.std.specs.List.{AllByRecursion}
use Rattle.sms_base.specs.Source.{SourceInMemory}
use Rattle.sms_base.specs.Sink.{SinkInMemory}

-- a source and a sink
pub record LinkInMemory : Type 0 where
  pub source : SourceInMemory
  pub sink : SinkInMemory

-- no call of the link has failed
pub record IsUntouched (link : LinkInMemory) : Type 0 where
  pub reads : link.source.faults ≡ 0
  pub writes : link.sink.faults ≡ 0

-- the links that are left and those that came back, how often one was asked for, how many were given, whether
-- no further one comes, and how many of those that came back had failed
pub record DoorInMemory : Type 0 where
  pub waiting : List LinkInMemory
  pub back : List LinkInMemory
  pub asked : ℕ
  pub given : ℕ
  pub ended : Bool
  pub link_faults : ℕ

-- what is seen of these links, counts and the end
abbrev pub door_of : List LinkInMemory → Vec LinkInMemory Global → ℕ → ℕ → Bool → ℕ → DoorInMemory
door_of waiting back asked given ended link_faults = record {
  waiting = waiting;
  back = back.items;
  asked = asked;
  given = given;
  ended = ended;
  link_faults = link_faults;
}

-- the links that wait are untouched, none waits where the door has ended, no more came back than were given, and for
-- each link there is room
pub record IsDoor (waiting : List LinkInMemory) (back : Vec LinkInMemory Global) (given : ℕ) (ended : Bool)
    : Type 0 where
  pub untouched : AllByRecursion IsUntouched waiting
  pub none_left : ended ≡ true → waiting ≡ []
  pub few : length back.items ≤ given
  pub room : given + length waiting ≤ vec_capacity back
