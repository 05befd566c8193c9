-- Journals that are nearly full (docs/manual/smsd.md, "A full journal").
use Rattle.std.specs.Prelude.{ℕ, Bool, ◌≢◌, ◌||◌, not, nat_le, List, ◌++◌, length, All, count_by}
use Rattle.sms_construct.specs.declared.entry.Entry.{Entry}
use Rattle.sms_construct.specs.declared.reply.Reply.TheVariants as replies
use Rattle.desk_law.specs.Step.{is_activation}
use Rattle.desk_http.specs.Entered.{entries_of}
use Rattle.http_talk.specs.declared.talk.Talk.{Talk}

-- none of the requests was answered that the journal is full
abbrev pub AreUnfilled : List Talk → Type 0
AreUnfilled talks = All (λ talk. talk.answer.reply ≢ replies.JournalFull) talks

-- so many entries are many for a journal
abbrev pub many_entries : ℕ
many_entries = 49000

-- so many activations that were asked for are many
abbrev pub many_activations : ℕ
many_activations = 100

-- how many of the requests asked for an activation
abbrev pub activations_in : List Talk → ℕ
activations_in talks = count_by (λ talk. is_activation talk.request.op) talks

-- the journal is nearly full: it has many entries, or many of the requests asked for an activation
abbrev pub is_nearly_full : List Entry → List Talk → Bool
is_nearly_full journal talks =
    nat_le many_entries (length journal) || nat_le many_activations (activations_in talks)

-- a clerk whose core began with this journal has room for one more question behind these talks
abbrev pub has_room_behind : List Entry → List Talk → Bool
has_room_behind journal talks = not (is_nearly_full (journal ++ entries_of talks) talks)
