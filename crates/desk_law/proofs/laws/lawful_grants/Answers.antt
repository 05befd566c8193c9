use Rattle.desk_law.proofs.GrantedLemmas.{stands-granted, was-granted}
use Rattle.desk_law.proofs.HistoryLemmas.{legal-stands}
use Rattle.desk_law.proofs.laws.lawful_grants.Goals as goal

pub returns : goal.returns
returns c = record {
  kept = was-granted;
  fresh = λ o front rest entry set trace legal is missing. (stands-granted o front entry set trace (legal-stands o front rest entry legal) is missing).1;
}
