use Rattle.std.proofs.Common.{◌∙◌, arith}
use Rattle.dsn_mask.proofs.WordLemmas.{eight-are}
use Rattle.dsn_mask.proofs.byte_words.word_at.Goals as goal

pub returns-clause-value : goal.returns-clause-value
returns-clause-value c = c.from_be_bytes.ensures ∙ eight-are c.args.bytes.now c.args.place c.requires

pub returns-clause-bytes : goal.returns-clause-bytes
returns-clause-bytes c = λ i. let fits = c.type_inv.bytes i in omega arith
