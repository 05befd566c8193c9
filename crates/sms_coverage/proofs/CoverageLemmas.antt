-- What a coverage comes to, from its parts.
use Rattle.std.proofs.Common.{◌≡◌, ◌<◌, ◌+◌, ◌++◌, ℕ, List, [], ◌∷◌, Bool, true, false, refl, sym, ap, subst, ◌∙◌, inr, length}
use Rattle.std.proofs.Common.{append_assoc, append-nil, get_or, map, take}
use Rattle.std.proofs.lemmas.List.{map-append, take_more}
use Rattle.std.specs.Prelude.{Option, None, Some, flat_map, if◌then◌else◌}
use Rattle.std.proofs.lemmas.Grind.{flat_map-append}
use std.Path.{fun_ext}
use Rattle.acs_coverage.specs.Counts.{AreCounts, tally_at}
use Rattle.acs_coverage.specs.declared.tally.Tally.{Tally}
use Rattle.acs_trace.specs.declared.event.Event.{Event}
use Rattle.acs_tree.specs.Slates.{same_kind}
use Rattle.acs_tree.specs.declared.kind.Kind.{Kind}
use Rattle.acs_tree.specs.declared.kind.Kind.TheVariants.{DataClas, StorClas, MgmtClas, StorGrp}
use Rattle.sms_construct.specs.Configuration.{Configuration}
use Rattle.sms_explain.specs.declared.deck_sources.DeckSources.{DeckSources}
use Rattle.sms_keeper.specs.Suits.{deck_of}
use Rattle.sms_script.specs.declared.item.Item.{Item}
use Rattle.sms_simulation.specs.Simulation.{AreAsked, first_misplaced, first_other, misplaced_from}
use Rattle.sms_story.specs.declared.run.Run.{Run}
use Rattle.sms_coverage.specs.Coverage.{IsCoverage, IsCoveredUnder, deck_text}
use Rattle.sms_coverage.specs.Shortfall.{deck_short}
use Rattle.sms_coverage.specs.declared.coverage.Covered.{Covered}
use Rattle.sms_coverage.specs.declared.coverage.Covered.TheVariants as coverages
use Rattle.sms_coverage.specs.Events.{AreCounted, counts_of, events_in, events_of_run, runs_of_item, tallies_in}
use Rattle.sms_coverage.specs.declared.kind_tallies.KindTallies.{KindTallies}

asked : (first : Item) (others : List Item) (deck : List ℕ) → deck_of first.request.op ≡ Some deck → first_other others ≡ None → AreAsked (first ∷ others) deck others
asked first others deck activates allocates = record { first = first; items_are = refl; activates = activates; allocates = allocates }

pub covered_under : (least : ℕ) (first : Item) (others : List Item) (deck : List ℕ) (made : Covered) → deck_of first.request.op ≡ Some deck → first_other others ≡ None
    → IsCoveredUnder least deck others made → IsCoverage least (first ∷ others) made
covered_under least first others deck (coverages.Shown coverage) activates allocates covers =
    inr (record { deck = deck; others = others; asked = asked first others deck activates allocates; covers = covers })
covered_under least first others deck (coverages.Refused fault) activates allocates found =
    record { deck = deck; others = others; asked = asked first others deck activates allocates; found = found }
covered_under least first others deck (coverages.Misplaced line) activates allocates never = absurd never

pub misplaced_behind : (first : Item) (others : List Item) (deck : List ℕ) (line : ℕ) → deck_of first.request.op ≡ Some deck → first_other others ≡ Some line → first_misplaced (first ∷ others) ≡ Some line
misplaced_behind first others deck line activates other = ap (λ (d : Option (List ℕ)). misplaced_from d first others) activates ∙ other

-- the counts that are held are those of the runs, so the texts of both are one
pub same_text : (config : Configuration) (sources : DeckSources) (runs : List Run) (tallies : KindTallies) → AreCounted runs tallies
    → deck_text config sources (λ kind. tally_at (tallies_in tallies kind)) ≡ deck_text config sources (counts_of runs)
same_text config sources runs tallies counts =
    ap (λ (c : Kind → ℕ → Tally). deck_text config sources c) (fun_ext (λ kind. fun_ext (λ at. counts kind at)))

pub same_shortfall : (least : ℕ) (config : Configuration) (runs : List Run) (tallies : KindTallies) → AreCounted runs tallies
    → deck_short least config (λ kind. tally_at (tallies_in tallies kind)) ≡ deck_short least config (counts_of runs)
same_shortfall least config runs tallies counts = ap (λ (c : Kind → ℕ → Tally). deck_short least config c) (fun_ext (λ kind. fun_ext (λ at. counts kind at)))

-- the counts of one kind are those of this run too, the others are as they were
of_same : (of kind : Kind) → same_kind of kind ≡ true → of ≡ kind
of_same DataClas DataClas e = refl
of_same DataClas StorClas e = absurd (cc e)
of_same DataClas MgmtClas e = absurd (cc e)
of_same DataClas StorGrp e = absurd (cc e)
of_same StorClas DataClas e = absurd (cc e)
of_same StorClas StorClas e = refl
of_same StorClas MgmtClas e = absurd (cc e)
of_same StorClas StorGrp e = absurd (cc e)
of_same MgmtClas DataClas e = absurd (cc e)
of_same MgmtClas StorClas e = absurd (cc e)
of_same MgmtClas MgmtClas e = refl
of_same MgmtClas StorGrp e = absurd (cc e)
of_same StorGrp DataClas e = absurd (cc e)
of_same StorGrp StorClas e = absurd (cc e)
of_same StorGrp MgmtClas e = absurd (cc e)
of_same StorGrp StorGrp e = refl

pub run_counted : (run : Run) (of : Kind) (old new : KindTallies) (events : List Event) → run.kind ≡ of → events ≡ run.events
    → ((before : List Event) → AreCounts before (tallies_in old of) → AreCounts (before ++ events) (tallies_in new of))
    → ((kind : Kind) → same_kind of kind ≡ false → tallies_in new kind ≡ tallies_in old kind)
    → (kind : Kind) (before : List Event) → AreCounts before (tallies_in old kind) → AreCounts (before ++ events_of_run kind run) (tallies_in new kind)
run_counted run of old new told is same there others kind before counts = by (same_kind of kind) refl
  where
    events_if : Bool → List Event
    events_if here = if here then run.events else []

    found : (here : Bool) → same_kind of kind ≡ here → events_of_run kind run ≡ events_if here
    found here e = ap (λ (k : Kind). events_if (same_kind k kind)) is ∙ ap events_if e

    by : (here : Bool) → same_kind of kind ≡ here → AreCounts (before ++ events_of_run kind run) (tallies_in new kind)
    by true e =
        subst (λ (events : List Event). AreCounts (before ++ events) (tallies_in new kind)) (sym (found true e))
        (subst (λ (events : List Event). AreCounts (before ++ events) (tallies_in new kind)) same
        (subst (λ (k : Kind). AreCounts before (tallies_in old k) → AreCounts (before ++ told) (tallies_in new k)) (of_same of kind e) (there before) counts))
    by false e =
        subst (λ (events : List Event). AreCounts (before ++ events) (tallies_in new kind)) (sym (found false e))
        (subst (λ (events : List Event). AreCounts events (tallies_in new kind)) (sym (append-nil before))
        (subst (λ (t : List Tally). AreCounts before t) (sym (others kind e)) counts))

pub others_dataclas : (old : KindTallies) (t : List Tally) (kind : Kind) → same_kind DataClas kind ≡ false → tallies_in (record old { dataclas = t }) kind ≡ tallies_in old kind
others_dataclas old t DataClas e = absurd (cc e)
others_dataclas old t StorClas e = refl
others_dataclas old t MgmtClas e = refl
others_dataclas old t StorGrp e = refl

pub others_storclas : (old : KindTallies) (t : List Tally) (kind : Kind) → same_kind StorClas kind ≡ false → tallies_in (record old { storclas = t }) kind ≡ tallies_in old kind
others_storclas old t DataClas e = refl
others_storclas old t StorClas e = absurd (cc e)
others_storclas old t MgmtClas e = refl
others_storclas old t StorGrp e = refl

pub others_mgmtclas : (old : KindTallies) (t : List Tally) (kind : Kind) → same_kind MgmtClas kind ≡ false → tallies_in (record old { mgmtclas = t }) kind ≡ tallies_in old kind
others_mgmtclas old t DataClas e = refl
others_mgmtclas old t StorClas e = refl
others_mgmtclas old t MgmtClas e = absurd (cc e)
others_mgmtclas old t StorGrp e = refl

pub others_storgrp : (old : KindTallies) (t : List Tally) (kind : Kind) → same_kind StorGrp kind ≡ false → tallies_in (record old { storgrp = t }) kind ≡ tallies_in old kind
others_storgrp old t DataClas e = refl
others_storgrp old t StorClas e = refl
others_storgrp old t MgmtClas e = refl
others_storgrp old t StorGrp e = absurd (cc e)

-- runs behind runs
pub run_behind : (before : List Run) (run : Run) (old new : KindTallies)
    → ((kind : Kind) (events : List Event) → AreCounts events (tallies_in old kind) → AreCounts (events ++ events_of_run kind run) (tallies_in new kind))
    → AreCounted before old → AreCounted (before ++ run ∷ []) new
run_behind before run old new adds counts = λ kind.
    subst (λ (events : List Event). AreCounts events (tallies_in new kind))
    (sym (flat_map-append (events_of_run kind) before (run ∷ []) ∙ ap (λ (events : List Event). events_in kind before ++ events) (append-nil (events_of_run kind run))))
    (adds kind (events_in kind before) (counts kind))

-- runs that were gone over, and the next one
pub next_run : (before runs : List Run) (run : Run) (i : ℕ) (old new : KindTallies) → i < length runs → run ≡ get_or runs i run
    → ((kind : Kind) (events : List Event) → AreCounts events (tallies_in old kind) → AreCounts (events ++ events_of_run kind run) (tallies_in new kind))
    → AreCounted (before ++ take i runs) old → AreCounted (before ++ take (i + 1) runs) new
next_run before runs run i old new within read adds counts =
    subst (λ (all : List Run). AreCounted all new)
    (append_assoc before (take i runs) (run ∷ []) ∙ ap (λ (next : List Run). before ++ next) (ap (λ (x : Run). take i runs ++ x ∷ []) read ∙ sym (take_more runs i run within)))
    (run_behind (before ++ take i runs) run old new adds counts)

-- items that were gone over, and the next one
pub next_item : {A : Type 0} (config : Configuration) (v : A → Item) (items : List A) (item : A) (i : ℕ) (old new : KindTallies) → i < length items → item ≡ get_or items i item
    → ((before : List Run) → AreCounted before old → AreCounted (before ++ runs_of_item config (v item)) new)
    → AreCounted (flat_map (runs_of_item config) (map v (take i items))) old → AreCounted (flat_map (runs_of_item config) (map v (take (i + 1) items))) new
next_item {A} config v items item i old new within read adds counts =
    subst (λ (all : List Run). AreCounted all new)
    (ap (λ (last : List Run). flat_map (runs_of_item config) (map v (take i items)) ++ last) (sym (append-nil (runs_of_item config (v item))))
    ∙ sym (flat_map-append (runs_of_item config) (map v (take i items)) (v item ∷ []))
    ∙ ap (λ (all : List Item). flat_map (runs_of_item config) all) (sym (map-append v (take i items) (item ∷ [])))
    ∙ ap (λ (all : List A). flat_map (runs_of_item config) (map v all)) (ap (λ (x : A). take i items ++ x ∷ []) read ∙ sym (take_more items i item within)))
    (adds (flat_map (runs_of_item config) (map v (take i items))) counts)

-- nothing was counted yet
pub nothing_counted : (tallies : KindTallies) → ((kind : Kind) → tallies_in tallies kind ≡ []) → AreCounted [] tallies
nothing_counted tallies none = λ kind. subst (λ (t : List Tally). AreCounts [] t) (sym (none kind)) (λ at. refl)
