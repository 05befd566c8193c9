use Rattle.std.proofs.Common.{refl}
use Rattle.acs_tree.specs.Inputs.{no_texts}
use Rattle.sms_records.specs.Inner.GivenLaws.{no_texts_again, read_at_front}
use Rattle.sms_records.specs.Inner.Givens.{fields_of_texts, texts_form}
use Rattle.sms_records.proofs.given_texts.read_texts.Goals as goal

pub returns-in-Some : goal.returns-in-Some
returns-in-Some c =
    read_at_front texts_form (fields_of_texts no_texts) _ c.args.bytes.now c.in-Some.rest.now no_texts_again refl
    c.in-Some.ensures.cases.0 c.in-Some.ensures.cases.1
