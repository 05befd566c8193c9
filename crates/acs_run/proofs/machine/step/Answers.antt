use Rattle.std.proofs.Common.{◌∙◌, true, false, List, get_or, subst, sym, ap}
use Rattle.dsn_mask.specs.Filter.{FilterLists}
use Rattle.acs_tree.specs.Setting.{with_class}
use Rattle.acs_tree.specs.Slates.{with_line}
use Rattle.acs_code.specs.Fields.{left_of}
use Rattle.acs_code.specs.Machine.{part_class, parts_line, probe_holds}
use Rattle.acs_run.specs.Inner.Memos.{Knows}
use Rattle.acs_run.proofs.StepLemmas.{leads_exit, leads_groups, leads_jump, leads_set, leads_test, leads_write, left_at}
use Rattle.acs_run.proofs.machine.step.Goals as goal

pub holds-requires-clause-left : goal.holds-requires-clause-left
holds-requires-clause-left c =
    left_at c.args.code.now.instrs c.lefts.result.now c.args.place c.index-instrs-place.result _ c.requires.within (c.index-instrs-place.is ∙ ap (λ l. get_or l c.args.place c.index-instrs-place.result) c.instrs.ensures.instrs) c.lefts.ensures
    ∙ ap left_of c.in-Test.is

pub holds-requires-clause-knows : goal.holds-requires-clause-knows
holds-requires-clause-knows c = subst (λ (filters : List FilterLists). Knows filters c.args.input.now.dsn c.args.memo.now) (sym c.filters.ensures) c.requires.knows

pub returns-then-holds-clause-leads : goal.returns-then-holds-clause-leads
returns-then-holds-clause-leads c =
    leads_test c.args.code.now c.args.input.now c.args.place c.index-instrs-place.result c.args.values.now c.args.slate.now c.requires.within (c.index-instrs-place.is ∙ ap (λ l. get_or l c.args.place c.index-instrs-place.result) c.instrs.ensures.instrs) c.instrs.ensures.forward
    c.in-Test.probe c.in-Test.yes c.in-Test.no true c.in-Test.is (sym c.if-holds.true ∙ c.holds.ensures.holds ∙ ap (λ (filters : List FilterLists). probe_holds filters c.in-Test.probe c.args.input.now c.args.values.now) c.filters.ensures)

pub returns-then-holds-clause-knows : goal.returns-then-holds-clause-knows
returns-then-holds-clause-knows c = subst (λ (filters : List FilterLists). Knows filters c.args.input.now.dsn c.holds.new.memo) c.filters.ensures c.holds.ensures.knows

pub returns-else-holds-clause-leads : goal.returns-else-holds-clause-leads
returns-else-holds-clause-leads c =
    leads_test c.args.code.now c.args.input.now c.args.place c.index-instrs-place.result c.args.values.now c.args.slate.now c.requires.within (c.index-instrs-place.is ∙ ap (λ l. get_or l c.args.place c.index-instrs-place.result) c.instrs.ensures.instrs) c.instrs.ensures.forward
    c.in-Test.probe c.in-Test.yes c.in-Test.no false c.in-Test.is (sym c.if-holds.false ∙ c.holds.ensures.holds ∙ ap (λ (filters : List FilterLists). probe_holds filters c.in-Test.probe c.args.input.now c.args.values.now) c.filters.ensures)

pub returns-else-holds-clause-knows : goal.returns-else-holds-clause-knows
returns-else-holds-clause-knows c = subst (λ (filters : List FilterLists). Knows filters c.args.input.now.dsn c.holds.new.memo) c.filters.ensures c.holds.ensures.knows

pub returns-in-Jump-clause-leads : goal.returns-in-Jump-clause-leads
returns-in-Jump-clause-leads c =
    leads_jump c.args.code.now c.args.input.now c.args.place c.index-instrs-place.result c.args.values.now c.args.slate.now c.requires.within (c.index-instrs-place.is ∙ ap (λ l. get_or l c.args.place c.index-instrs-place.result) c.instrs.ensures.instrs) c.instrs.ensures.forward
    c.in-Jump.to c.in-Jump.is

pub returns-in-SetClass-clause-leads : goal.returns-in-SetClass-clause-leads
returns-in-SetClass-clause-leads c =
    leads_set c.args.code.now c.args.input.now c.args.place c.index-instrs-place.result c.args.values.now c.args.slate.now c.requires.within (c.index-instrs-place.is ∙ ap (λ l. get_or l c.args.place c.index-instrs-place.result) c.instrs.ensures.instrs) c.instrs.ensures.forward
    c.in-SetClass.part c.assign.new.values c.in-SetClass.is
    (c.assign.ensures ∙ ap (λ kind. with_class kind (part_class c.in-SetClass.part c.args.input.now c.args.values.now) c.args.values.now) c.kind.ensures)

pub returns-in-SetGroups-clause-leads : goal.returns-in-SetGroups-clause-leads
returns-in-SetGroups-clause-leads c =
    leads_groups c.args.code.now c.args.input.now c.args.place c.index-instrs-place.result c.args.values.now c.args.slate.now c.requires.within (c.index-instrs-place.is ∙ ap (λ l. get_or l c.args.place c.index-instrs-place.result) c.instrs.ensures.instrs) c.instrs.ensures.forward
    c.in-SetGroups.groups c.in-SetGroups.is

pub returns-in-Write-clause-leads : goal.returns-in-Write-clause-leads
returns-in-Write-clause-leads c =
    leads_write c.args.code.now c.args.input.now c.args.place c.index-instrs-place.result c.args.values.now c.args.slate.now c.requires.within (c.index-instrs-place.is ∙ ap (λ l. get_or l c.args.place c.index-instrs-place.result) c.instrs.ensures.instrs) c.instrs.ensures.forward
    c.in-Write.parts c.write.new.slate c.in-Write.is
    (c.write.ensures ∙ ap (λ kind. with_line kind (parts_line c.as_slice.result.now c.args.input.now c.args.values.now) c.args.slate.now) c.kind-in-Write.ensures
    ∙ ap (λ parts. with_line c.args.code.now.kind (parts_line parts c.args.input.now c.args.values.now) c.args.slate.now) c.as_slice.ensures)

pub returns-in-Exit-clause-leads : goal.returns-in-Exit-clause-leads
returns-in-Exit-clause-leads c =
    leads_exit c.args.code.now c.args.input.now c.args.place c.index-instrs-place.result c.args.values.now c.args.slate.now c.requires.within (c.index-instrs-place.is ∙ ap (λ l. get_or l c.args.place c.index-instrs-place.result) c.instrs.ensures.instrs) c.instrs.ensures.forward
    c.in-Exit.number c.in-Exit.is
