use Rattle.std.proofs.Common.{sym}
use Rattle.acs_symbol.proofs.KeywordLemmas.{keyword_stays}
use Rattle.acs_symbol.proofs.keyword.kind_in_any_case.Goals as goal

pub returns-in_default : goal.returns-in_default
returns-in_default c = keyword_stays c.args.text.now c.word_kind.result (sym c.word_kind.ensures) c.in_default.not-Other
