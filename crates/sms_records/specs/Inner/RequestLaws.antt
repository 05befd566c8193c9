-- What these record forms promise: what is read is written so, and what is written is read again.
use Rattle.std.proofs.Common.{refl}
use Rattle.sms_construct.specs.declared.request.Request.{Request}
use Rattle.sms_records.specs.Form.{IsExact, IsReadable}
use Rattle.sms_records.specs.Inner.FormLaws.{◌&-exact◌, text_exact, number_32_exact, made_exact, made_again}
use Rattle.sms_records.specs.Inner.VariantLaws.{◌also◌, variants_exact, variant_exact}
use Rattle.sms_records.specs.Inner.EnumLaws.{action_exact}
use Rattle.sms_records.specs.Inner.TextLaws.{dsn_exact, name_exact, request_number_exact}
use Rattle.sms_records.specs.Inner.ViewLaws.{target_exact}
use Rattle.sms_records.specs.Inner.AllocLaws.{alloc_exact}
use Rattle.sms_records.specs.Requests.{op_form, op_readers, op_write, request_fields, request_form}

pub op_exact : IsExact op_form
op_exact = variants_exact op_write op_readers
    (variant_exact _ 0 _ _ alloc_exact (λ q. refl)
    also variant_exact _ 1 _ _ dsn_exact (λ q. refl)
    also variant_exact _ 2 _ _ dsn_exact (λ q. refl)
    also variant_exact _ 3 _ _ (dsn_exact &-exact number_32_exact) (λ q. refl)
    also variant_exact _ 4 _ _ dsn_exact (λ q. refl)
    also variant_exact _ 5 _ _ target_exact (λ q. refl)
    also variant_exact _ 6 _ _ text_exact (λ q. refl)
    also variant_exact _ 7 _ _ (target_exact &-exact action_exact) (λ q. refl)
    also variant_exact _ 8 _ _ (name_exact &-exact request_number_exact) (λ q. refl) also tt)

pub request_exact : IsExact request_form
request_exact = made_exact _ _ _ ((name_exact &-exact request_number_exact) &-exact op_exact) (λ a. refl)

pub request_readable : (x : Request) → IsReadable request_fields ((x.job, x.number), x.op)
    → IsReadable request_form x
request_readable = made_again _ _ _ (λ x. refl)
