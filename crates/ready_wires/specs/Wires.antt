-- What contracts see of a connection whose calls never wait.
use Rattle.std.specs.Prelude.{ℕ, Bool, true, false, ◌<◌, ◌||◌, ◌&&◌, zero, suc, not, ◌≡◌, ◌≤◌, List, [], ◌++◌, take}
use Rattle.std.specs.Prelude.{length, Option, None, Some, is_some, Result, Ok, Err, ⊤, MatchOption, if◌then◌else◌}
use Rattle.ready_wires.specs.declared.marks.Marks.{Marks}
use Rattle.ready_wires.specs.declared.watch.Watch.{Watch}

-- all bytes that were read of it and all that it took, where they are told; what its calls came to; and how it is
-- watched
pub record WireSeen : Type 0 where
  pub came : Option (List ℕ)
  pub taken : Option (List ℕ)
  pub marks : Marks
  pub watch : Watch

-- no call was made of it
abbrev pub no_marks : Marks
no_marks =
    record { ended = false; failed = false; read_waits = false; write_waits = false; moved = false; tried = false }

-- it was never watched
abbrev pub no_watch : Watch
no_watch = record { key = None; since = None; rests = false; vain = false; failed = false }

-- where bytes are told, they are these
abbrev pub IsTold : Option (List ℕ) → List ℕ → Type 0
IsTold told bytes = MatchOption told ⊤ (λ those. those ≡ bytes)

-- where a list is told, it has these behind it
abbrev pub Grows : {A : Type 0} → Option (List A) → Option (List A) → List A → Type 0
Grows told told' more = MatchOption told (told' ≡ None) (λ before. told' ≡ Some (before ++ more))

-- the front of the piece of which a call tells the length; it may tell none, where it would wait
abbrev pub front_of : {E : Type 0} → Result (Option ℕ) E → List ℕ → List ℕ
front_of (Ok (Some count)) piece = take count piece
front_of (Ok None) piece = []
front_of (Err e) piece = []

-- a call tells no more than the piece has
abbrev pub IsWithin : {E : Type 0} → Result (Option ℕ) E → List ℕ → Type 0
IsWithin (Ok (Some count)) piece = count ≤ length piece
IsWithin (Ok None) piece = ⊤
IsWithin (Err e) piece = ⊤

-- of a piece that has some bytes at least one is taken
abbrev pub TakesSome : {E : Type 0} → Result (Option ℕ) E → List ℕ → Type 0
TakesSome (Ok (Some count)) piece = 0 < length piece → 0 < count
TakesSome (Ok None) piece = ⊤
TakesSome (Err e) piece = ⊤

-- a read gave nothing: into a buffer of so many bytes, of which there are some, that is the end of the input
abbrev pub ends_at : Bool → ℕ → Bool
ends_at ended zero = ended
ends_at ended (suc room) = true

-- what a read into so many bytes makes of the marks
abbrev pub after_read : {E : Type 0} → Marks → ℕ → Result (Option ℕ) E → Marks
after_read marks room (Ok (Some zero)) = record marks { ended = ends_at marks.ended room; read_waits = false }
after_read marks room (Ok (Some (suc count))) =
    record marks { ended = false; read_waits = false; moved = true; tried = true }
after_read marks room (Ok None) = record marks { read_waits = true; tried = true }
after_read marks room (Err e) = record marks { failed = true; read_waits = false }

-- what a write makes of them
abbrev pub after_write : {E : Type 0} → Marks → Result (Option ℕ) E → Marks
after_write marks (Ok (Some zero)) = record marks { write_waits = false }
after_write marks (Ok (Some (suc count))) = record marks { write_waits = false; moved = true; tried = true }
after_write marks (Ok None) = record marks { write_waits = true; tried = true }
after_write marks (Err e) = record marks { failed = true; write_waits = false }

-- how many keys had been told of as idle when it was watched first
abbrev pub since_first : Watch → Option ℕ → Option ℕ
since_first watch told = if is_some watch.key then watch.since else told

-- watching it again, or laying it to rest, is vain where nothing came of it since
abbrev pub vain_again : Watch → Bool → Bool
vain_again watch some = watch.vain || (is_some watch.key && not some)

-- the marks of one that was watched or laid to rest just now
abbrev pub untried : Marks → Marks
untried marks = record marks { moved = false; tried = false }

-- a connection that is watched under this key, when so many keys had been told of as idle; where it was before, that is
-- vain unless a call gave or took bytes since
abbrev pub watched_under : ℕ → Option ℕ → WireSeen → WireSeen
watched_under key told wire =
    record wire {
      marks = untried wire.marks;
      watch = record {
        key = Some key;
        since = since_first wire.watch told;
        rests = false;
        vain = vain_again wire.watch wire.marks.moved;
        failed = false;
      };
    }

-- a connection that couldn't be watched
abbrev pub not_watched : WireSeen → WireSeen
not_watched wire = record wire { watch = record wire.watch { failed = true } }

-- what watching it makes of a connection
abbrev pub after_watch : {T E : Type 0} → ℕ → Option ℕ → WireSeen → Result T E → WireSeen
after_watch key told wire (Ok unit) = watched_under key told wire
after_watch key told wire (Err e) = not_watched wire

-- what laying it to rest makes of it, which is vain unless a call gave or took bytes or would have waited since
abbrev pub after_rest : WireSeen → WireSeen
after_rest wire =
    record wire {
      marks = untried wire.marks;
      watch = record wire.watch { rests = true; vain = vain_again wire.watch wire.marks.tried };
    }
