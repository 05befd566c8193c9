-- The visits of one worker as one history.
use Rattle.std.proofs.Common.{◌≡◌, ◌≤◌, ◌<◌, ◌+◌, ◌-◌, ◌^◌, ℕ, zero, suc, List, [], ◌∷◌, length, replicate, get_or, min}
use Rattle.std.proofs.Common.{refl, ap, ◌∙◌, arith}
use Rattle.std.proofs.lemmas.List.{length-replicate}
use Rattle.std.specs.Prelude.{All, Option}
use Rattle.std.proofs.lemmas.List.Elements.{All-cons, All-nil, All-replicate}
use Rattle.sms_construct.specs.declared.entry.Entry.{Entry}
use Rattle.sms_keeper.specs.declared.rows.Rows.{Rows}
use Rattle.desk_law.specs.History.{IsLegal}
use Rattle.desk_law.specs.Records.{empty_opening}
use Rattle.desk_records.specs.Tied.{faults_in}
use Rattle.sms_core.specs.Core.{CoreView, HasTables}
use Rattle.http_talk.specs.declared.talk.Talk.{Talk}
use Rattle.desk_http.specs.Entered.{IsPlaced, IsPlacedAlone, entries_of}
use Rattle.serve_door.specs.declared.visit.Visit.{Visit}
use Rattle.serve_door.specs.Visits.{talks_of}
use Rattle.desk_calls.specs.Headline.{IsLawfulHistory, Keeping}
use Rattle.serve_calls.specs.OneHistory.{IsOneHistory, WasHeard, made_by}

-- one worker made all
made_by-all : (history : List Entry) → made_by 0 (replicate (length history) 0) history ≡ history
made_by-all [] = refl
made_by-all (entry ∷ history) = ap (λ l. entry ∷ l) (made_by-all history)

made_by-one : (worker : ℕ) (visits : List Visit) (history : List Entry) → history ≡ entries_of (talks_of visits) → worker < 1
    → made_by worker (replicate (length history) 0) history ≡ entries_of (talks_of (get_or (visits ∷ []) worker []))
made_by-one zero visits history same less = made_by-all history ∙ same
made_by-one (suc worker) visits history same less = absurd (omega (arith, less))

pub one_worker : (visits : List Visit) (history : List Entry) → history ≡ entries_of (talks_of visits) → All (λ (talk : Talk). IsPlacedAlone history talk) (talks_of visits)
    → IsOneHistory (visits ∷ []) history
one_worker visits history same placed = record {
  makers = replicate (length history) 0;
  each = length-replicate (length history) 0;
  known = All-replicate (λ (maker : ℕ). maker < 1) (length history) 0 (omega arith);
  made = λ worker less. made_by-one worker visits history same less;
  placed = All-cons (λ (of_worker : List Visit). All (λ (talk : Talk). IsPlaced history talk) (talks_of of_worker)) visits [] (λ k d less. (placed k d less).placed) (All-nil (λ (of_worker : List Visit). All (λ (talk : Talk). IsPlaced history talk) (talks_of of_worker)));
  alone = λ single. All-cons (λ (of_worker : List Visit). All (λ (talk : Talk). IsPlacedAlone history talk) (talks_of of_worker)) visits [] placed (All-nil (λ (of_worker : List Visit). All (λ (talk : Talk). IsPlacedAlone history talk) (talks_of of_worker)));
}

no_worker : (history : List Entry) → history ≡ [] → IsOneHistory [] history
no_worker history none = record {
  makers = [];
  each = rw none refl;
  known = All-nil (λ (maker : ℕ). maker < 0);
  made = λ worker less. absurd (omega (arith, less));
  placed = All-nil (λ (of_worker : List Visit). All (λ (talk : Talk). IsPlaced history talk) (talks_of of_worker));
  alone = λ single. All-nil (λ (of_worker : List Visit). All (λ (talk : Talk). IsPlacedAlone history talk) (talks_of of_worker));
}

-- nothing was heard
pub WasHeard-none : {P : Type 0} (before : Keeping) (core : CoreView P) (told : Option Rows) (count : ℕ)
    → core.opening ≡ empty_opening → core.journal ≡ [] → core.mark ≡ before.count
    → IsLegal core.opening core.journal → min (core.mark + faults_in core.journal) (2 ^ 64 - 1) ≤ count → HasTables core.opening core.journal told
    → ((history : List Entry) → IsLegal empty_opening history → IsLawfulHistory empty_opening history)
    → WasHeard before (record { told = told; count = count }) [] core.journal
WasHeard-none before core told count opening journal mark legal counted tables lawful = record {
  once = no_worker core.journal journal;
  lawful = lawful core.journal (rw opening at legal);
  faults = rw mark at counted;
  tables = rw opening at tables;
}
