-- Grants that were first answered behind the opening.
use Rattle.std.proofs.Common.{◌≡◌, ◌<◌, Bool, List, [], ◌∷◌, Some, find, arith, inl}
use Rattle.std.proofs.Common.{inr, subst}
use Rattle.std.specs.List.{AllByRecursion}
use Rattle.std.proofs.lemmas.Bool.{cases_Bool}
use Rattle.sms_construct.specs.declared.data_set.DataSet.{DataSet}
use Rattle.sms_construct.specs.declared.entry.Entry.{Entry}
use Rattle.sms_construct.specs.declared.trace.Trace.{Trace}
use Rattle.sms_keeper.specs.declared.kept_row.KeptRow.{KeptRow}
use Rattle.sms_keeper.specs.Tables.{is_reply_of}
use Rattle.desk_law.specs.State.{Opening}
use Rattle.desk_law.specs.Grants.{WasEntered, WasGranted}
use Rattle.desk_records.specs.Tied.{IsSoundOpening}

-- what holds of each row holds of the one that is found
found-each : (P : KeptRow → Type 0) (p : KeptRow → Bool) (rows : List KeptRow) (row : KeptRow) → AllByRecursion P rows → find p rows ≡ Some row → P row
found-each P p [] row each is = absurd cc
found-each P p (first ∷ rows) row each is = elim (cases_Bool (p first)) [
  | inl here ↦
      let found : Some first ≡ Some row = rw here at is in
      let same : first ≡ row = cc in
      subst P same each.0
  | inr other ↦
      let rest : find p rows ≡ Some row = rw other at is in
      found-each P p rows row each.1 rest
]

-- a reply of a sound opening has no place behind the opening's
pub entered-grant : (o : Opening) (front : List Entry) (entry : Entry) (set : DataSet) (trace : Trace) → IsSoundOpening o → o.base < entry.answer.first → WasGranted o front entry set trace
    → WasEntered o front entry set trace
entered-grant o front entry set trace sound behind (inl opened) =
    let good = found-each _ (is_reply_of entry.request.job entry.request.number) o.rows.replies opened.row sound.good opened.kept in
    absurd (omega (arith, good.place, opened.first_is, behind))
entered-grant o front entry set trace sound behind (inr entered) = entered
