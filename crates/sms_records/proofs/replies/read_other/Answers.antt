use Rattle.std.proofs.Common.{◌∷◌, arith, refl}
use Rattle.sms_records.specs.Replies.{reply_readers}
use Rattle.sms_records.specs.Inner.VariantLaws.{variant_past}
use Rattle.sms_records.proofs.replies.read_other.Goals as goal

pub returns-in_default : goal.returns-in_default
returns-in_default c =
    variant_past reply_readers (c.args.tag ∷ c.args.bytes.now) c.args.tag c.args.bytes.now refl
    (omega (arith, c.in_default, c.requires))
