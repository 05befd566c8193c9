use Rattle.std.proofs.Common.{◌≡◌, ◌+◌, ◌++◌, ◌∷◌, [], false, length, cond, sym, ◌∙◌, arith}
use Rattle.std.specs.Prelude.{count_by}
use Rattle.desk_law.specs.Step.{activates, is_activation}
use Rattle.desk_records.specs.Full.{is_full_for}
use Rattle.desk_records.specs.Tied.{IsReady}
use Rattle.desk_state.specs.Working.{IsWork}
use Rattle.sms_core.specs.Inner.Standing.{IsHeld}
use Rattle.sms_core.proofs.CoreLemmas.{core-entered, enters-made, held-counted, held-room, held-some, held-untouched}
use Rattle.sms_core.proofs.CoreLemmas.{idle-known}
use Rattle.sms_core.proofs.WorkLemmas.{held-work}
use Rattle.sms_core.proofs.ToldLemmas.{told_self}
use Rattle.sms_core.proofs.core_state.Core.step.Goals as goal

pub invariant_of-self : goal.invariant_of-self
invariant_of-self g c =
    let keeper = c.take_room.ensures.keeper in
    let held : IsHeld c.self.inside.opening.value c.take_room.new.journal.items c.self.inside.running c.take_room.new.records.log (g.P.Keeper.told c.take_room.new.records.keeper) c.self.inside.mark (g.P.Keeper.count c.take_room.new.records.keeper)
    = rw (c.take_room.ensures.entries, keeper) (held-room _ _ c.self.inside.running c.self.inside.running c.self.inside.records.log c.take_room.new.records.log _ _ _ c.self.invariant.held (λ s stands. stands) c.take_room.ensures.log) in
    record { held = held; base_is = c.self.invariant.base_is; asked_is = rw c.take_room.ensures.entries c.self.invariant.asked_is }

pub prepare-made-requires-clause-state : goal.prepare-made-requires-clause-state
prepare-made-requires-clause-state g c = held-some _ _ _ _ _ _ _ c.self.invariant.held

pub prepare-made-requires-clause-counted : goal.prepare-made-requires-clause-counted
prepare-made-requires-clause-counted g c =
    let not_full : is_full_for c.self.inside.journal.items c.args.request.now.op ≡ false = rw (← c.deref.ensures.value) (sym c.is_full.ensures ∙ c.if-is_full.false) in
    held-counted _ _ _ _ _ _ _ c.args.request.now.op c.self.invariant.held not_full

pub prepare-made-requires-clause-work : goal.prepare-made-requires-clause-work
prepare-made-requires-clause-work g c =
    let is_work : IsWork c.self.inside.opening.value c.self.inside.journal.items c.args.request.now c.args.slate.now c.args.work = rw (← c.self.view_is) at c.requires.work in
    held-work _ _ c.self.inside.running _ _ _ _ c.args.request.now c.args.slate.now c.args.work c.self.invariant.held is_work

pub invariant_of-self-in_default : goal.invariant_of-self-in_default
invariant_of-self-in_default g c =
    let keeper = c.take_room.ensures.keeper in
    let held : IsHeld c.self.inside.opening.value c.take_room.new.journal.items c.self.inside.running c.take_room.new.records.log (g.P.Keeper.told c.take_room.new.records.keeper) c.self.inside.mark (g.P.Keeper.count c.take_room.new.records.keeper)
    = rw (c.take_room.ensures.entries, keeper) (held-room _ _ c.self.inside.running c.self.inside.running c.self.inside.records.log c.take_room.new.records.log _ _ _ c.self.invariant.held (λ s stands. stands) c.take_room.ensures.log) in
    record {
      held = held-untouched _ _ c.self.inside.running c.prepare-made.new.running c.take_room.new.records.log c.prepare-made.new.records.log _ _ _ _ _ held c.in_default.ensures.unmade.running_is c.in_default.ensures.unmade.records_are c.prepare-made.ensures.rises;
      base_is = c.self.invariant.base_is;
      asked_is = rw c.take_room.ensures.entries c.self.invariant.asked_is;
    }

pub invariant_of-self-2 : goal.invariant_of-self-2
invariant_of-self-2 g c =
    let keeper = c.take_room.ensures.keeper in
    let held : IsHeld c.self.inside.opening.value c.take_room.new.journal.items c.self.inside.running c.take_room.new.records.log (g.P.Keeper.told c.take_room.new.records.keeper) c.self.inside.mark (g.P.Keeper.count c.take_room.new.records.keeper)
    = rw (c.take_room.ensures.entries, keeper) (held-room _ _ c.self.inside.running c.self.inside.running c.self.inside.records.log c.take_room.new.records.log _ _ _ c.self.invariant.held (λ s stands. stands) c.take_room.ensures.log) in
    let not_full : is_full_for c.self.inside.journal.items c.args.request.now.op ≡ false = rw (← c.deref.ensures.value) (sym c.is_full.ensures ∙ c.if-is_full.false) in
    let still : is_full_for c.take_room.new.journal.items c.args.request.now.op ≡ false = rw c.take_room.ensures.entries not_full in
    let length_is : c.len.result ≡ length c.take_room.new.journal.items = c.len.ensures ∙ c.take_room.new.journal.ok.0 in
    let ready : IsReady c.self.inside.opening.value c.take_room.new.journal.items held.state c.take_room.new.records.log (g.P.Keeper.told c.take_room.new.records.keeper) c.self.inside.mark (g.P.Keeper.count c.take_room.new.records.keeper)
    (c.self.inside.base + c.len.result + 1) c.args.request.now
    = record { tied = held.tied; place_is = omega (arith, c.self.invariant.base_is, length_is); not_full = still; number = c.request_is_sound.ensures.number; sound = c.request_is_sound.ensures.sound } in
    let has = c.in-Ok.ensures.enters c.self.inside.opening.value c.take_room.new.journal.items held.state c.self.inside.mark ready held.stands in
    let asked_is : c.self.inside.asked ≡ count_by activates c.take_room.new.journal.items = rw c.take_room.ensures.entries c.self.invariant.asked_is in
    let more : c.activations_of.result ≡ cond (is_activation c.in-Ok.field-0.entry.request.op) 1 0 = rw c.in-Ok.ensures.made.request_is c.activations_of.ensures in
    core-entered c.self.inside.opening.value c.self.inside.base c.self.inside.asked c.activations_of.result c.take_room.new.journal.items c.push_reserved.new.self.items held.state c.in-Ok.field-0.entry c.prepare-made.new.running
    c.prepare-made.new.records.log (g.P.Keeper.told c.prepare-made.new.records.keeper) c.self.inside.mark (g.P.Keeper.count c.prepare-made.new.records.keeper) c.self.invariant.base_is asked_is more has c.push_reserved.ensures.items

pub returns-clause-enters : goal.returns-clause-enters
returns-clause-enters g c =
    let keeper = c.take_room.ensures.keeper in
    let held : IsHeld c.self.inside.opening.value c.take_room.new.journal.items c.self.inside.running c.take_room.new.records.log (g.P.Keeper.told c.take_room.new.records.keeper) c.self.inside.mark (g.P.Keeper.count c.take_room.new.records.keeper)
    = rw (c.take_room.ensures.entries, keeper) (held-room _ _ c.self.inside.running c.self.inside.running c.self.inside.records.log c.take_room.new.records.log _ _ _ c.self.invariant.held (λ s stands. stands) c.take_room.ensures.log) in
    let not_full : is_full_for c.self.inside.journal.items c.args.request.now.op ≡ false = rw (← c.deref.ensures.value) (sym c.is_full.ensures ∙ c.if-is_full.false) in
    let still : is_full_for c.take_room.new.journal.items c.args.request.now.op ≡ false = rw c.take_room.ensures.entries not_full in
    let length_is : c.len.result ≡ length c.take_room.new.journal.items = c.len.ensures ∙ c.take_room.new.journal.ok.0 in
    let ready : IsReady c.self.inside.opening.value c.take_room.new.journal.items held.state c.take_room.new.records.log (g.P.Keeper.told c.take_room.new.records.keeper) c.self.inside.mark (g.P.Keeper.count c.take_room.new.records.keeper)
    (c.self.inside.base + c.len.result + 1) c.args.request.now
    = record { tied = held.tied; place_is = omega (arith, c.self.invariant.base_is, length_is); not_full = still; number = c.request_is_sound.ensures.number; sound = c.request_is_sound.ensures.sound } in
    let has = c.in-Ok.ensures.enters c.self.inside.opening.value c.take_room.new.journal.items held.state c.self.inside.mark ready held.stands in
    let grown : c.push_reserved.new.self.items ≡ c.self.inside.journal.items ++ c.in-Ok.field-0.entry ∷ [] = rw (← c.take_room.ensures.entries) c.push_reserved.ensures.items in
    rw (← c.self.view_is, ← keeper, ← c.take_room.ensures.entries)
    (enters-made c.self.inside.opening.value c.take_room.new.journal.items c.push_reserved.new.self.items (g.P.Keeper.told c.take_room.new.records.keeper) (g.P.Keeper.told c.prepare-made.new.records.keeper)
    (g.P.Keeper.count c.take_room.new.records.keeper) (g.P.Keeper.count c.prepare-made.new.records.keeper) c.self.inside.mark c.args.request.now c.in-Ok.field-0.answer held.state c.in-Ok.field-0.entry c.prepare-made.new.running c.prepare-made.new.records.log
    has held.tied.reaches c.in-Ok.ensures.made.request_is c.in-Ok.ensures.made.answer_is still c.push_reserved.ensures.items
    (c.in-Ok.ensures.cause c.self.inside.opening.value c.take_room.new.journal.items held.state c.self.inside.mark ready) c.in-Ok.ensures.made.stands c.prepare-made.ensures.rises)

pub returns-clause-idle : goal.returns-clause-idle
returns-clause-idle g c =
    let keeper = c.take_room.ensures.keeper in
    let held : IsHeld c.self.inside.opening.value c.take_room.new.journal.items c.self.inside.running c.take_room.new.records.log (g.P.Keeper.told c.take_room.new.records.keeper) c.self.inside.mark (g.P.Keeper.count c.take_room.new.records.keeper)
    = rw (c.take_room.ensures.entries, keeper) (held-room _ _ c.self.inside.running c.self.inside.running c.self.inside.records.log c.take_room.new.records.log _ _ _ c.self.invariant.held (λ s stands. stands) c.take_room.ensures.log) in
    let not_full : is_full_for c.self.inside.journal.items c.args.request.now.op ≡ false = rw (← c.deref.ensures.value) (sym c.is_full.ensures ∙ c.if-is_full.false) in
    let still : is_full_for c.take_room.new.journal.items c.args.request.now.op ≡ false = rw c.take_room.ensures.entries not_full in
    rw (← c.self.view_is, ← keeper, ← c.take_room.ensures.entries) (λ idle. c.prepare-made.ensures.idle (idle-known _ _ _ _ _ _ _ c.args.request.now held still idle))

pub returns-in_default-clause-idle : goal.returns-in_default-clause-idle
returns-in_default-clause-idle g c =
    let keeper = c.take_room.ensures.keeper in
    let held : IsHeld c.self.inside.opening.value c.take_room.new.journal.items c.self.inside.running c.take_room.new.records.log (g.P.Keeper.told c.take_room.new.records.keeper) c.self.inside.mark (g.P.Keeper.count c.take_room.new.records.keeper)
    = rw (c.take_room.ensures.entries, keeper) (held-room _ _ c.self.inside.running c.self.inside.running c.self.inside.records.log c.take_room.new.records.log _ _ _ c.self.invariant.held (λ s stands. stands) c.take_room.ensures.log) in
    let not_full : is_full_for c.self.inside.journal.items c.args.request.now.op ≡ false = rw (← c.deref.ensures.value) (sym c.is_full.ensures ∙ c.if-is_full.false) in
    let still : is_full_for c.take_room.new.journal.items c.args.request.now.op ≡ false = rw c.take_room.ensures.entries not_full in
    rw (← c.self.view_is, ← keeper, ← c.take_room.ensures.entries) (λ idle. c.prepare-made.ensures.idle (idle-known _ _ _ _ _ _ _ c.args.request.now held still idle))

pub returns-then-is_full-clause-told : goal.returns-then-is_full-clause-told
returns-then-is_full-clause-told g c = rw (← c.self.view_is) (told_self (g.P.Keeper.told c.self.inside.records.keeper))

pub returns-then-is_err-clause-told : goal.returns-then-is_err-clause-told
returns-then-is_err-clause-told g c = rw (← c.self.view_is, c.take_room.ensures.keeper) (told_self (g.P.Keeper.told c.self.inside.records.keeper))

pub returns-clause-told : goal.returns-clause-told
returns-clause-told g c = let keeper = c.take_room.ensures.keeper in rw (← c.self.view_is, ← keeper) c.prepare-made.ensures.told

pub returns-in_default-clause-told : goal.returns-in_default-clause-told
returns-in_default-clause-told g c = let keeper = c.take_room.ensures.keeper in rw (← c.self.view_is, ← keeper) c.prepare-made.ensures.told
