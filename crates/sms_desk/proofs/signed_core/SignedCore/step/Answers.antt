use Rattle.std.proofs.Common.{◌≡◌, ◌++◌, ◌∷◌, [], true, false, List, rules, subst}
use Rattle.sms_construct.specs.declared.entry.Entry.{Entry}
use Rattle.desk_law.specs.Kept.{is_entered}
use Rattle.desk_state.specs.Working.{IsWork}
use Rattle.desk_signing.proofs.SignLemmas.{signed_entries}
use Rattle.sms_desk.proofs.AddLemmas.{adds-made, adds-none}
use Rattle.sms_desk.proofs.signed_core.SignedCore.step.Goals as goal

pub step-answer-requires : goal.step-answer-requires
step-answer-requires g c =
    let v = c.args.self.now in
    record { work = subst (λ (h : List Entry). IsWork v.core.opening h c.args.request.now c.args.slate.now c.args.work) (signed_entries v.core.opening v.core.mark v.before v.core.journal v.numbers.items) c.requires }

pub returns-then-has_entry : goal.returns-then-has_entry
returns-then-has_entry g c =
    let v = c.args.self.now in
    let is : is_entered c.step-answer.result.reply ≡ true = search rules in
    let grown : c.push_reserved.new.self.items ≡ v.numbers.items ++ c.args.number ∷ [] = search rules in
    adds-made v.core.opening c.step-answer.new.self.opening v.core.mark c.step-answer.new.self.mark v.before v.core.journal c.step-answer.new.self.journal v.numbers.items c.push_reserved.new.self.items _ _ _ _ c.args.number
    c.args.request.now c.step-answer.result c.step-answer.ensures.enters is c.step-answer.ensures.opening c.step-answer.ensures.mark grown v.counted

pub returns : goal.returns
returns g c =
    let v = c.args.self.now in
    let is : is_entered c.step-answer.result.reply ≡ false = search rules in
    adds-none v.core.opening c.step-answer.new.self.opening v.core.mark c.step-answer.new.self.mark v.before v.core.journal c.step-answer.new.self.journal v.numbers.items c.reserve.new.self.items _ _ _ _ c.args.number
    c.args.request.now c.step-answer.result c.step-answer.ensures.enters is c.step-answer.ensures.opening c.step-answer.ensures.mark c.reserve.ensures.items
