use Rattle.acs_parse.proofs.RoutineLemmas.{tokens_in_text}
use Rattle.acs_parse.proofs.parser.parse.Goals as goal

pub symbols-requires : goal.symbols-requires
symbols-requires c = tokens_in_text c.requires
