-- What stays of a transaction after a statement, whatever it answers.
use Rattle.std.proofs.Common.{ℕ, List, Ok, Err, Result, Some, None, Option, IsTrue, inl, inr, subst, ◌∙◌, cond, ◌⊎◌}
use Rattle.std.specs.Prelude.{IfOk, IfErr}
use Rattle.std.specs.Result.{IsErr}
use Rattle.sqlite.specs.declared.error.Error.{Error}
use Rattle.sqlite_resolve.specs.declared.compiled.Compiled.{Compiled}
use Rattle.sqlite_schema.specs.declared.command.Returning.{Returning}
use Rattle.sqlite.specs.Order.{Row}
use Rattle.sqlite.specs.State.{State, ExecutesInside, IsUnchanged, IsRolledBack, Shows, FailsToQuery, FailsToShow}
use Rattle.sqlite.specs.State.{IsTooLate, Shown, ShowsRows, IsNotRun, RunsCommand, Fails}
use Rattle.keeper_statements.specs.Steps.{StaysInside}

-- nothing changed
unchanged_stays : {X : Type 0} (old new : State) (e : Error) → IsUnchanged old new → StaysInside {X = X} old new (Err e)
unchanged_stays old new e same = record { inside = tt; was_open = λ _. same.0.was_open; committed = λ _. same.0.committed_is }

rolled_stays : {X : Type 0} (old new : State) (e : Error) → IsRolledBack old new → StaysInside {X = X} old new (Err e)
rolled_stays old new e back = record { inside = tt; was_open = back.was_open; committed = λ open_now. (back.undone open_now).1 }

shown_stays : {X : Type 0} (old new : State) (x : X) → IsTrue old.in_transaction → Shows old new new.now old.committed old.in_transaction → StaysInside old new (Ok x)
shown_stays old new x inside shows = record { inside = shows.mode ∙ inside; was_open = λ _. shows.was_open; committed = λ _. shows.committed_is }

-- a statement inside a transaction
pub executes_stays : (sql : List ℕ) (params : Row) (old new : State) (r : Result ℕ Error) → ExecutesInside 0 sql params old new r → StaysInside old new r
executes_stays sql params old new (Ok count) h = record { inside = h.1.mode; was_open = λ _. h.1.was_open; committed = λ _. h.1.committed_is }
executes_stays sql params old new (Err e) (inl h) = elim h.1 [ inl same ↦ unchanged_stays old new e same | inr back ↦ rolled_stays old new e back ]
executes_stays sql params old new (Err e) (inr h) = unchanged_stays old new e h.2

failed_stays : {X : Type 0} (old new : State) (e : Error) (too_big : Type 0) → Fails old new too_big e → StaysInside {X = X} old new (Err e)
failed_stays old new e too_big fails = rolled_stays old new e fails.3

not_run_stays : {X : Type 0} (sql : List ℕ) (params : Row) (old new : State) (e : Error) → IsNotRun old new sql params e → StaysInside {X = X} old new (Err e)
unfolding IsNotRun
not_run_stays sql params old new e (inl h) = unchanged_stays old new e h.1
not_run_stays sql params old new e (inr h) = failed_stays old new e ⊥ h

command_stays : {X : Type 0} (sql : List ℕ) (c : Compiled) (params : Row) (old new : State) (e : Error) → RunsCommand old new sql c params (Err e) → StaysInside {X = X} old new (Err e)
command_stays sql c params old new e (inl h) = unchanged_stays old new e h.1
command_stays sql c params old new e (inr h) = failed_stays old new e _ h

not_shown_stays : {X : Type 0} (sql : List ℕ) (c : Compiled) (params : Row) (old new : State) (e : Error) (returning : Option Returning) → FailsToShow old new sql c params e returning
    → StaysInside {X = X} old new (Err e)
not_shown_stays sql c params old new e None h = unchanged_stays old new e h.3
not_shown_stays sql c params old new e (Some what) h = command_stays sql c params old new e h

pub query_err_stays : {X : Type 0} (sql : List ℕ) (params : Row) (old new : State) (e : Error) → FailsToQuery sql params old new e ⊎ IsTooLate sql params old new e → StaysInside {X = X} old new (Err e)
unfolding FailsToQuery
query_err_stays sql params old new e (inl (inl h)) = not_run_stays sql params old new e h
query_err_stays sql params old new e (inl (inr h)) = not_shown_stays sql h.0 _ old new e h.0.returning h.2
query_err_stays sql params old new e (inr h) = unchanged_stays old new e h.5

shows_stays : {X : Type 0} (sql : List ℕ) (c : Compiled) (params : Row) (old new : State) (x : X) (rows : List Row) (returning : Option Returning) → IsTrue old.in_transaction
    → ShowsRows old new sql c params rows returning → StaysInside old new (Ok x)
shows_stays sql c params old new x rows None inside h = record { inside = h.3.0.mode ∙ inside; was_open = λ _. h.3.0.was_open; committed = λ _. h.3.0.committed_is }
shows_stays sql c params old new x rows (Some what) inside h =
    shown_stays old new x inside (subst (λ b. Shows old new new.now (cond b old.committed new.now) old.in_transaction) inside h.1.shown)

pub query_ok_stays : {X : Type 0} (sql : List ℕ) (params : Row) (old new : State) (x : X) (rows : List Row) → IsTrue old.in_transaction → Shown sql params old new rows → StaysInside old new (Ok x)
unfolding Shown
query_ok_stays sql params old new x rows inside h = shows_stays sql h.0 _ old new x rows h.0.returning inside h.2

-- one error stays inside as another does
pub err_stays : {X Y : Type 0} (old new : State) (r : Result X Error) (e : Error) → IsErr r → StaysInside {X = Y} old new (Err e) → StaysInside old new r
err_stays old new (Ok x) e is h = absurd cc
err_stays old new (Err f) e is h = record { inside = tt; was_open = h.was_open; committed = h.committed }

-- a query inside a transaction, whatever it answers
pub query_stays : {X : Type 0} (sql : List ℕ) (params : Row) (old new : State) (r : Result X Error) (rows : X → List Row) → IsTrue old.in_transaction → IfOk r (λ x. Shown sql params old new (rows x))
    → IfErr r (λ e. FailsToQuery sql params old new e ⊎ IsTooLate sql params old new e) → StaysInside old new r
query_stays sql params old new (Ok x) rows inside ok err = query_ok_stays sql params old new x (rows x) inside ok
query_stays sql params old new (Err e) rows inside ok err = query_err_stays sql params old new e err
