-- The signed list of a desk (docs/manual/workers.md, "The desk").
use Rattle.std.specs.Prelude.{ℕ, zero, suc, ◌-◌, List, [], ◌∷◌, ◌++◌, Option, Some, None, length}
use Rattle.sms_construct.specs.declared.entry.Entry.{Entry}
use Rattle.turn_lock.specs.declared.signed.Signed.{Signed}
use Rattle.desk_law.specs.State.{Opening}
use Rattle.desk_law.specs.History.{IsLegal}
use Rattle.desk_law.specs.Records.{empty_opening}
use Rattle.desk_signing.specs.declared.event.Event.{Event}
use Rattle.desk_signing.specs.declared.event.Event.TheVariants.{Began, Made}

-- an entry with the number of its seat, or with none
abbrev pub made : Option ℕ → Entry → Signed Event
made by e = record { by = by; entry = Made e }

-- the entries with the seats that made them; so many from before the desk have none
abbrev pub sign : ℕ → List Entry → List ℕ → List (Signed Event)
sign before [] numbers = []
sign zero (e ∷ es) [] = made None e ∷ sign zero es []
sign zero (e ∷ es) (n ∷ ns) = made (Some n) e ∷ sign zero es ns
sign (suc before) (e ∷ es) numbers = made None e ∷ sign before es numbers

-- what the desk began with, and the entries with their seats
abbrev pub signed : Opening → ℕ → ℕ → List Entry → List ℕ → List (Signed Event)
signed o mark before journal numbers = record { by = None; entry = Began o mark before } ∷ sign before journal numbers

-- the list where these are the seats of the last entries
abbrev pub signed_last : Opening → ℕ → List Entry → List ℕ → List (Signed Event)
signed_last o mark journal numbers = signed o mark (length journal - length numbers) journal numbers

-- entries that the seat of this number made
abbrev pub by_seat : ℕ → List Entry → List (Signed Event)
by_seat number [] = []
by_seat number (e ∷ es) = made (Some number) e ∷ by_seat number es

-- entries as events
abbrev pub events : List Entry → List Event
events [] = []
events (e ∷ es) = Made e ∷ events es

-- the entry of an event, if it is one
abbrev pub entry_in : Event → List Entry
entry_in (Began o mark before) = []
entry_in (Made e) = e ∷ []

-- the entries of a list
abbrev pub entries_in : List (Signed Event) → List Entry
entries_in [] = []
entries_in (e ∷ es) = entry_in e.entry ++ entries_in es

-- the opening that an event tells
abbrev pub opening_told : Event → Opening
opening_told (Began o mark before) = o
opening_told (Made e) = empty_opening

-- the opening that a list tells at its front
abbrev pub opening_in : List (Signed Event) → Opening
opening_in [] = empty_opening
opening_in (e ∷ es) = opening_told e.entry

-- the entries of the list are a legal history behind its opening
abbrev pub IsLegalList : List (Signed Event) → Type 0
IsLegalList list = IsLegal (opening_in list) (entries_in list)
