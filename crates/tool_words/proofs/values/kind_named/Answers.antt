use Rattle.std.proofs.Common.{◌≡◌, List, ℕ, subst}
use Rattle.tool_words.specs.Asking.{kind_named}
use Rattle.tool_words.proofs.AskingLemmas.{named_as}
use Rattle.tool_words.proofs.values.kind_named.Goals as goal

pub returns : goal.returns
returns c = subst (λ (word : List ℕ). c.named.result ≡ kind_named word) c.as_bytes.ensures.value (named_as _ c.named.result c.named.ensures)
