use Rattle.std.proofs.Common.{◌∙◌, sym, subst}
use Rattle.std.specs.List.{AllPass}
use Rattle.dsn_mask.specs.Name.{is_literal_byte}
use Rattle.acs_run.proofs.LineLemmas.{decimal_is_literal}
use Rattle.acs_run.proofs.line.put_number.Goals as goal

pub put-requires : goal.put-requires
put-requires c = subst (AllPass is_literal_byte) (sym (c.as_bytes.ensures.value ∙ c.format.ensures.text)) (decimal_is_literal c.args.number c.ranges.number.fits)
