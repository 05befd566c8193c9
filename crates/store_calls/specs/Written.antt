-- What becomes of a text that a call over a store writes.
use Rattle.std.specs.Prelude.{◌≡◌, ℕ, List}
use Rattle.std.specs.Io.KnownBytes.{Appends}
use Rattle.desk_common.specs.Causes.{Rose}
use Rattle.desk_common.specs.Fronts.{IsProperPrefix}
use Rattle.desk_calls.specs.declared.status.RunStatus.{RunStatus}
use Rattle.desk_calls.specs.declared.status.RunStatus.TheVariants.{Done, BadWords, ReadFault, WriteFault, Script}
use Rattle.desk_calls.specs.declared.status.RunStatus.TheVariants.{TooLong, NoMemory}
use Rattle.store_calls.specs.StoreLists.{Seen}

-- the sink took the whole text
pub record IsWritten (text : List ℕ) (old new : Seen) : Type 0 where
  pub written : Appends old.taken new.taken text
  pub faults : new.faults ≡ old.faults

-- the sink took a proper front of the text before its count of faults rose
pub record IsCut (text : List ℕ) (old new : Seen) : Type 0 where
  pub front : List ℕ
  pub proper : IsProperPrefix front text
  pub written : Appends old.taken new.taken front
  pub rose : Rose old.faults new.faults

-- what each status says of a text that was to be written
abbrev pub TextEnds : List ℕ → Seen → Seen → RunStatus → Type 0
TextEnds text old new Done = IsWritten text old new
TextEnds text old new BadWords = ⊥
TextEnds text old new ReadFault = ⊥
TextEnds text old new WriteFault = IsCut text old new
TextEnds text old new (Script err) = ⊥
TextEnds text old new TooLong = ⊥
TextEnds text old new NoMemory = new ≡ old
