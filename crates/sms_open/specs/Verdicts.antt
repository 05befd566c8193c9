-- What the tests of rows come to: the first that they don't pass, or the configuration of the last deck.
use Rattle.std.specs.Prelude.{ℕ, Bool, true, false, ◌≡◌, ◌⊎◌, List, Option, Result, Ok, Err}
use Rattle.sms_construct.specs.Configuration.{Configuration}
use Rattle.sms_keeper.specs.declared.deck_row.DeckRow.{DeckRow}
use Rattle.sms_keeper.specs.declared.rows.Rows.{Rows}
use Rattle.desk_law.specs.Decked.{IsLastActive}
use Rattle.sms_open.specs.declared.rows_err.RowsErr.{RowsErr}
use Rattle.sms_open.specs.declared.rows_err.RowsErr.TheVariants.{Unsound, NoMemory}
use Rattle.sms_open.specs.Tests.{AreCounted, ArePlaced, AreSingle, AreSoundReplies, AreStatusesOf, HasLastFault}

-- the rows don't pass the test of this number, and that is the verdict; or they pass it, and the verdict is what comes
-- next
abbrev pub Tested : ℕ → Type 0 → (Result (Option Configuration) RowsErr → Type 0) →
    Result (Option Configuration) RowsErr → Type 0
Tested number passed next verdict = ((passed → ⊥) × (verdict ≡ Err (Unsound number))) ⊎ (passed × next verdict)

-- the last deck has a fault, and that is the verdict; or this is what it configures, and the verdict is what comes next
abbrev pub Configured : ℕ → List DeckRow → (Option Configuration → Result (Option Configuration) RowsErr → Type 0) →
    Result (Option Configuration) RowsErr → Type 0
Configured number decks next verdict =
    (HasLastFault decks × (verdict ≡ Err (Unsound number))) ⊎
    ((active : Option Configuration) × IsLastActive decks active × next active verdict)

-- the verdict on rows whose last deck configures this: the last three tests
abbrev pub IsVerdictUnder : Rows → Option Configuration → Result (Option Configuration) RowsErr → Type 0
IsVerdictUnder rows active =
    Tested 4 (AreStatusesOf active rows.statuses)
    (Tested 5 (ArePlaced active rows.sets)
    (Tested 6 (AreSoundReplies rows.replies rows.floors)
    (λ verdict. verdict ≡ Ok active)))

-- the verdict on rows: the number of the first of the six tests that they don't pass, or the configuration of their
-- last deck
abbrev pub IsVerdict : Rows → Result (Option Configuration) RowsErr → Type 0
IsVerdict rows =
    Tested 1 (AreSingle rows)
    (Tested 2 (AreCounted rows)
    (Configured 3 rows.decks (IsVerdictUnder rows)))

-- how one test is told

-- the test passes or not, as the truth value says
abbrev pub Tells : Type 0 → Bool → Type 0
Tells passed true = passed
Tells passed false = passed → ⊥

-- the answer of a test of this number
abbrev pub answer_of : {E : Type 0} → ℕ → Result Bool E → Result (Unit {0}) RowsErr
answer_of number (Ok true) = Ok tt
answer_of number (Ok false) = Err (Unsound number)
answer_of number (Err err) = Err NoMemory

-- the answer of tests, with the configuration under which they were made
abbrev pub answer_with : Option Configuration → Result (Unit {0}) RowsErr → Result (Option Configuration) RowsErr
answer_with active (Ok done) = Ok active
answer_with active (Err err) = Err err

-- the refusal of the last deck: it has a fault, or memory is wanting
abbrev pub RefusesDeck : List DeckRow → RowsErr → Type 0
RefusesDeck decks (Unsound number) = (number ≡ 3) × HasLastFault decks
RefusesDeck decks NoMemory = Unit {0}
