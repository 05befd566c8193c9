use Rattle.std.proofs.Common.{◌≡◌, ◌++◌, ◌∷◌, List, subst}
use Rattle.sms_construct.specs.declared.entry.Entry.{Entry}
use Rattle.desk_law.specs.History.{IsLegal}
use Rattle.desk_calls.proofs.GrantLemmas.{entered-grant}
use Rattle.desk_calls.proofs.lawful_history.legal_is_lawful.Goals as goal

pub returns : goal.returns
returns c = λ o history sound legal.
    let at : (parts : List Entry) → history ≡ parts → IsLegal o parts = λ parts is. subst (λ (l : List Entry). IsLegal o l) is legal in
    record {
      places = λ front rest entry is. c.places_in_order.ensures o front rest entry (at (front ++ entry ∷ rest) is);
      legal = legal;
      grants = λ front rest entry set trace is granted. c.lawful_grants.ensures.kept o front rest entry set trace (at (front ++ entry ∷ rest) is) granted;
      entered = λ front rest entry set trace is granted behind.
          entered-grant o front entry set trace sound behind (c.lawful_grants.ensures.kept o front rest entry set trace (at (front ++ entry ∷ rest) is) granted);
      lawful = λ front rest s is reaches. c.lawful_always.ensures o front s sound.lawful reaches;
      tracks = λ front rest s is reaches first middle last set other volser track sets.
          c.to_no_other.ensures s first middle last set other volser track (c.lawful_always.ensures o front s sound.lawful reaches) sets;
      kept = record {
        below = λ front rest entry is. c.kept_replies.ensures.below o front rest entry (at (front ++ entry ∷ rest) is);
        kept = λ front rest entry row is. c.kept_replies.ensures.kept o front rest entry row (at (front ++ entry ∷ rest) is);
        fresh = λ front rest entry is. c.kept_replies.ensures.fresh o front rest entry (at (front ++ entry ∷ rest) is);
        floors = λ front more rest job is. c.floors_never_fall.ensures o front more job;
      };
    }
