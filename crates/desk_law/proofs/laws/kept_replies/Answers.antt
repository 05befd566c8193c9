use Rattle.desk_law.proofs.AnswerLemmas.{step-below, step-fresh, step-kept}
use Rattle.desk_law.proofs.HistoryLemmas.{legal-stands}
use Rattle.desk_law.proofs.laws.kept_replies.Goals as goal

pub returns : goal.returns
returns c = record {
  below = λ o front rest entry legal is.
      let there = legal-stands o front rest entry legal in
      let below = step-below o front there.state entry there.after there.step is in below.reply_is;
  kept = λ o front rest entry row legal is found.
      let there = legal-stands o front rest entry legal in
      let repeat = step-kept o front there.state entry there.after row there.step is found in repeat.answer;
  fresh = λ o front rest entry legal is missing.
      let there = legal-stands o front rest entry legal in
      (there.state, there.after, there.leads, step-fresh o front there.state entry there.after there.step is missing);
}
