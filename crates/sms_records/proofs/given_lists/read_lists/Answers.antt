use Rattle.std.proofs.Common.{refl}
use Rattle.acs_tree.specs.Inputs.{no_lists}
use Rattle.sms_records.specs.Inner.GivenLaws.{no_lists_again, read_at_front}
use Rattle.sms_records.specs.Inner.Givens.{fields_of_lists, lists_form}
use Rattle.sms_records.proofs.given_lists.read_lists.Goals as goal

pub returns-in-Some : goal.returns-in-Some
returns-in-Some c =
    read_at_front lists_form (fields_of_lists no_lists) _ c.args.bytes.now c.in-Some.rest.now no_lists_again refl
    c.in-Some.ensures.cases.0 c.in-Some.ensures.cases.1
