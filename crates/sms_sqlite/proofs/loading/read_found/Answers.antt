use Rattle.std.proofs.Common.{◌∙◌, Err, Ok}
use Rattle.std.proofs.lemmas.Result.{err_from_is_err_and}
use Rattle.sms_keeper.specs.declared.table.Table.TheVariants.{Sets, Replies, Decks, Statuses, Floors}
use Rattle.keeper_statements.specs.Order.{deck_columns, five_columns, three_columns, two_columns}
use Rattle.sms_sqlite.specs.Values.{deck_in, floor_in, reply_in, set_in, shown_deck_in, status_in}
use Rattle.sms_sqlite.proofs.TablesLemmas.{reads_as}
use Rattle.sms_sqlite.proofs.TableLemmas.{deck_shown, decks_fail, floor_shown, floors_fail, replies_fail, reply_shown}
use Rattle.sms_sqlite.proofs.TableLemmas.{reads_shown, set_shown, sets_fail, status_shown, statuses_fail}
use Rattle.sms_sqlite.proofs.loading.read_found.Goals as goal

pub returns-in_err-sets : goal.returns-in_err-sets
returns-in_err-sets c t h =
    let p = err_from_is_err_and c.from_residual.result c.from_residual.ensures.1 in
    rw (p.1, p.2) (sets_fail t c.in_err-sets.field-0.0 (reads_shown set_in set_in two_columns set_shown Sets t.sets _ (Err c.in_err-sets.field-0.0) (c.as_slice.ensures.value ∙ h.sets) c.in_err-sets.ensures))

pub returns-in_err-replies : goal.returns-in_err-replies
returns-in_err-replies c t h =
    let sets = reads_shown set_in set_in two_columns set_shown Sets t.sets _ (Ok c.in_ok-sets.sets) (c.as_slice.ensures.value ∙ h.sets) c.in_ok-sets.ensures in
    let p = err_from_is_err_and c.from_residual-in_err-replies.result c.from_residual-in_err-replies.ensures.1 in
    rw (p.1, p.2) (replies_fail t c.in_err-replies.field-0.0 c.in_ok-sets.sets sets (reads_shown reply_in reply_in five_columns reply_shown Replies t.replies _ (Err c.in_err-replies.field-0.0) (c.as_slice-2.ensures.value ∙ h.replies) c.in_err-replies.ensures))

pub returns-in_err-decks : goal.returns-in_err-decks
returns-in_err-decks c t h =
    let sets = reads_shown set_in set_in two_columns set_shown Sets t.sets _ (Ok c.in_ok-sets.sets) (c.as_slice.ensures.value ∙ h.sets) c.in_ok-sets.ensures in
    let replies = reads_shown reply_in reply_in five_columns reply_shown Replies t.replies _ (Ok c.in_ok-replies.replies) (c.as_slice-2.ensures.value ∙ h.replies) c.in_ok-replies.ensures in
    let p = err_from_is_err_and c.from_residual-in_err-decks.result c.from_residual-in_err-decks.ensures.1 in
    rw (p.1, p.2) (decks_fail t c.in_err-decks.field-0.0 c.in_ok-sets.sets c.in_ok-replies.replies sets replies (reads_shown deck_in shown_deck_in deck_columns deck_shown Decks t.decks _ (Err c.in_err-decks.field-0.0) (c.as_slice-3.ensures.value ∙ h.decks) c.in_err-decks.ensures))

pub returns-in_err-statuses : goal.returns-in_err-statuses
returns-in_err-statuses c t h =
    let sets = reads_shown set_in set_in two_columns set_shown Sets t.sets _ (Ok c.in_ok-sets.sets) (c.as_slice.ensures.value ∙ h.sets) c.in_ok-sets.ensures in
    let replies = reads_shown reply_in reply_in five_columns reply_shown Replies t.replies _ (Ok c.in_ok-replies.replies) (c.as_slice-2.ensures.value ∙ h.replies) c.in_ok-replies.ensures in
    let decks = reads_shown deck_in shown_deck_in deck_columns deck_shown Decks t.decks _ (Ok c.in_ok-decks.decks) (c.as_slice-3.ensures.value ∙ h.decks) c.in_ok-decks.ensures in
    let p = err_from_is_err_and c.from_residual-in_err-statuses.result c.from_residual-in_err-statuses.ensures.1 in
    rw (p.1, p.2) (statuses_fail t c.in_err-statuses.field-0.0 c.in_ok-sets.sets c.in_ok-replies.replies c.in_ok-decks.decks sets replies decks (reads_shown status_in status_in three_columns status_shown Statuses t.statuses _ (Err c.in_err-statuses.field-0.0) (c.as_slice-4.ensures.value ∙ h.statuses) c.in_err-statuses.ensures))

pub returns-in_err-floors : goal.returns-in_err-floors
returns-in_err-floors c t h =
    let sets = reads_shown set_in set_in two_columns set_shown Sets t.sets _ (Ok c.in_ok-sets.sets) (c.as_slice.ensures.value ∙ h.sets) c.in_ok-sets.ensures in
    let replies = reads_shown reply_in reply_in five_columns reply_shown Replies t.replies _ (Ok c.in_ok-replies.replies) (c.as_slice-2.ensures.value ∙ h.replies) c.in_ok-replies.ensures in
    let decks = reads_shown deck_in shown_deck_in deck_columns deck_shown Decks t.decks _ (Ok c.in_ok-decks.decks) (c.as_slice-3.ensures.value ∙ h.decks) c.in_ok-decks.ensures in
    let statuses = reads_shown status_in status_in three_columns status_shown Statuses t.statuses _ (Ok c.in_ok-statuses.statuses) (c.as_slice-4.ensures.value ∙ h.statuses) c.in_ok-statuses.ensures in
    let p = err_from_is_err_and c.from_residual-in_err-floors.result c.from_residual-in_err-floors.ensures.1 in
    rw (p.1, p.2) (floors_fail t c.in_err-floors.field-0.0 c.in_ok-sets.sets c.in_ok-replies.replies c.in_ok-decks.decks c.in_ok-statuses.statuses sets replies decks statuses (reads_shown floor_in floor_in two_columns floor_shown Floors t.floors _ (Err c.in_err-floors.field-0.0) (c.as_slice-5.ensures.value ∙ h.floors) c.in_err-floors.ensures))

pub returns : goal.returns
returns c t h =
    let sets = reads_shown set_in set_in two_columns set_shown Sets t.sets _ (Ok c.in_ok-sets.sets) (c.as_slice.ensures.value ∙ h.sets) c.in_ok-sets.ensures in
    let replies = reads_shown reply_in reply_in five_columns reply_shown Replies t.replies _ (Ok c.in_ok-replies.replies) (c.as_slice-2.ensures.value ∙ h.replies) c.in_ok-replies.ensures in
    let decks = reads_shown deck_in shown_deck_in deck_columns deck_shown Decks t.decks _ (Ok c.in_ok-decks.decks) (c.as_slice-3.ensures.value ∙ h.decks) c.in_ok-decks.ensures in
    let statuses = reads_shown status_in status_in three_columns status_shown Statuses t.statuses _ (Ok c.in_ok-statuses.statuses) (c.as_slice-4.ensures.value ∙ h.statuses) c.in_ok-statuses.ensures in
    let floors = reads_shown floor_in floor_in two_columns floor_shown Floors t.floors _ (Ok c.in_ok-floors.floors) (c.as_slice-5.ensures.value ∙ h.floors) c.in_ok-floors.ensures in
    reads_as t _ (record { sets = sets; replies = replies; decks = decks; statuses = statuses; floors = floors })
