use Rattle.std.proofs.Common.{◌<◌, ◌^◌, ◌∙◌, ℕ, List, length, ap, subst}
use Rattle.acs_tree.specs.Value.{text_at}
use Rattle.dsn_mask.specs.Qualifiers.{qualifiers_of}
use Rattle.sms_records.specs.Inner.FormLaws.{on_ok}
use Rattle.sms_records.specs.Inner.InputLaws.{seen_name_readable}
use Rattle.sms_records.proofs.name_parts.write_seen_name.Goals as goal

pub returns-clause-readable : goal.returns-clause-readable
returns-clause-readable c =
    let last = c.qualifier-2.ensures ∙ ap (λ (n : ℕ). text_at (qualifiers_of c.args.dsn.now) n) c.count.ensures in
    on_ok c.write_number.result
    (λ _. seen_name_readable c.args.dsn.now c.in_ok-write_to.ensures.readable
    (subst (λ (text : List ℕ). length text < 2 ^ 64) c.qualifier.ensures c.write_text.ensures.fits)
    (subst (λ (text : List ℕ). length text < 2 ^ 64) last c.write_text-2.ensures.fits)
    (subst (λ (n : ℕ). n < 2 ^ 64) c.count-2.ensures c.write_number.ensures.fits))
    c.write_number.ensures.written
