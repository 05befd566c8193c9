-- The record forms of requests (docs/manual/records.md, "The record form").
use Rattle.std.specs.Prelude.{◌++◌, ◌∷◌, [], ℕ, List, Option}
use Rattle.sms_construct.specs.declared.request.Op.TheVariants as ops
use Rattle.sms_construct.specs.declared.request.Op.{Op}
use Rattle.sms_construct.specs.declared.request.Request.{Request}
use Rattle.sms_records.specs.Form.{◌&◌, Form, made, made_at, variants, text_form, number_32_form}
use Rattle.sms_records.specs.Enums.{action_form}
use Rattle.sms_records.specs.Texts.{dsn_form, name_form, request_number_form}
use Rattle.sms_records.specs.Views.{target_form}
use Rattle.sms_records.specs.Allocs.{alloc_form}

-- what a request asks of the desk
abbrev pub op_write : Op → List ℕ
op_write (ops.Alloc allocation) = 0 ∷ alloc_form.write allocation
op_write (ops.Extend dsn) = 1 ∷ dsn_form.write dsn
op_write (ops.Delete dsn) = 2 ∷ dsn_form.write dsn
op_write (ops.Used dsn tracks) = 3 ∷ (dsn_form.write dsn ++ number_32_form.write tracks)
op_write (ops.Release dsn) = 4 ∷ dsn_form.write dsn
op_write (ops.Display target) = 5 ∷ target_form.write target
op_write (ops.Activate deck) = 6 ∷ text_form.write deck
op_write (ops.Vary target action) = 7 ∷ (target_form.write target ++ action_form.write action)
op_write (ops.Purge job floor) = 8 ∷ (name_form.write job ++ request_number_form.write floor)

-- the readers of its variants
abbrev pub op_readers : List (List ℕ → Option (Op × List ℕ))
op_readers =
    made_at alloc_form ops.Alloc ∷
    made_at dsn_form ops.Extend ∷
    made_at dsn_form ops.Delete ∷
    made_at (dsn_form & number_32_form) (λ x. ops.Used x.0 x.1) ∷
    made_at dsn_form ops.Release ∷
    made_at target_form ops.Display ∷
    made_at text_form ops.Activate ∷
    made_at (target_form & action_form) (λ x. ops.Vary x.0 x.1) ∷
    made_at (name_form & request_number_form) (λ x. ops.Purge x.0 x.1) ∷ []

-- its form
abbrev pub op_form : Form Op
op_form = variants op_write op_readers

-- a numbered request of a job
abbrev pub request_fields : Form ((List ℕ × ℕ) × Op)
request_fields = (name_form & request_number_form) & op_form

-- the form of requests
abbrev pub request_form : Form Request
request_form = made request_fields
    (λ x. record { job = x.0.0; number = x.0.1; op = x.1 })
    (λ x. ((x.job, x.number), x.op))
