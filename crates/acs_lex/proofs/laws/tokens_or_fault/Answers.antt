use Rattle.std.specs.Prelude.{length}
use Rattle.acs_lex.proofs.CutLemmas.{cut_or_fault, cut_once, fault_once, never_both}
use Rattle.acs_lex.proofs.laws.tokens_or_fault.Goals as goal

pub returns-clause-one_cut : goal.returns-clause-one_cut
returns-clause-one_cut c = λ text one two d e. cut_once d e

pub returns-clause-one_fault : goal.returns-clause-one_fault
returns-clause-one_fault c = λ text one two d e. fault_once d e

pub returns-clause-never_both : goal.returns-clause-never_both
returns-clause-never_both c = λ text tokens err d e. never_both d e

pub returns-clause-either : goal.returns-clause-either
returns-clause-either c = λ text. cut_or_fault (length text) text
