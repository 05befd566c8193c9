-- Tables that stay, call by call.
use Rattle.std.proofs.Common.{◌≡◌, ◌∙◌, refl, None, Some}
use Rattle.std.specs.Prelude.{Option}
use Rattle.sms_keeper.specs.Tables.{AreSame}
use Rattle.sms_keeper.specs.Told.{Stays}
use Rattle.sms_keeper.specs.declared.rows.Rows.{Rows}

-- the same tables, one after the other
same_on : (a b c : Rows) → AreSame a b → AreSame b c → AreSame a c
same_on a b c first second = record {
  sets = λ dsn. first.sets dsn ∙ second.sets dsn;
  replies = λ job number. first.replies job number ∙ second.replies job number;
  decks = λ count. first.decks count ∙ second.decks count;
  statuses = λ target. first.statuses target ∙ second.statuses target;
  floors = λ job. first.floors job ∙ second.floors job;
}

-- what stays twice stays
pub stays_on : (a b c : Option Rows) → Stays a b → Stays b c → Stays a c
stays_on a b None first second = tt
stays_on a b (Some rows) first second =
    let at : Stays a (Some second.0) = rw second.1 at first in
    (at.0, at.1, same_on rows second.0 at.0 second.2 at.2)

-- tables stay where nothing happened
same_self : (a : Rows) → AreSame a a
same_self a = record { sets = λ dsn. refl; replies = λ job number. refl; decks = λ count. refl; statuses = λ target. refl; floors = λ job. refl }

pub stays_self : (a : Option Rows) → Stays a a
stays_self None = tt
stays_self (Some rows) = (rows, refl, same_self rows)
