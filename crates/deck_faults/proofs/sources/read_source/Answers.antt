-- What comes of a text.
use Rattle.std.proofs.Common.{subst, ap, ◌∙◌}
use Rattle.acs_translate.specs.declared.fault.TranslateErr.TheVariants as told
use Rattle.acs_translate.specs.Translation.{IsTranslated, MayRefuse}
use Rattle.sms_construct.specs.declared.fault.Fault.TheVariants.{Routine}
use Rattle.deck_faults.specs.Inner.Telling.{put}
use Rattle.deck_faults.proofs.ReadLemmas.{read_faulty, read_sound}
use Rattle.deck_faults.proofs.sources.read_source.Goals as goal

pub returns-in-Ok : goal.returns-in-Ok
returns-in-Ok c =
    read_sound c.args.kind c.args.told.now.items c.in-Some.ensures c.if-text-gt-MAX_ROUTINE.false
    (subst (λ t. IsTranslated t c.args.kind c.in-Ok.routine.tree c.in-Ok.field-0-1) c.as_bytes.ensures.value c.in-Ok.ensures.ok.0) c.in-Ok.ensures.ok.1

pub returns-in_ok-tell-in-Err-Fault : goal.returns-in_ok-tell-in-Err-Fault
returns-in_ok-tell-in-Err-Fault c =
    read_faulty c.args.kind c.args.told.now.items c.tell-in-Err-Fault.new.told.items c.in-Some.ensures c.if-text-gt-MAX_ROUTINE.false
    (subst (λ t. MayRefuse t c.args.kind (told.Fault c.in-Err-Fault.fault)) c.as_bytes.ensures.value
    (subst (λ err. MayRefuse c.as_bytes.result.now c.args.kind err) c.in-Err-Fault.field-0-is c.in-Err-Fault.ensures.err))
    (c.in_ok-tell-in-Err-Fault.ensures ∙ ap (λ fault. put c.args.told.now.items (Routine c.args.kind fault)) c.text_fault.ensures)
