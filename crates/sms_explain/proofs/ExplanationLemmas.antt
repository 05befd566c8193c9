-- What an explanation comes to, from its parts.
use Rattle.std.proofs.Common.{◌≡◌, ◌++◌, ℕ, List, [], ◌∷◌, codes, decimal, refl, ap, ◌∙◌, inr, append_assoc}
use Rattle.std.specs.Prelude.{Option, None, Some, filter, flat_map}
use Rattle.acs_tree.specs.declared.values.Values.{Values}
use Rattle.desk_law.specs.Classification.{Classes, classes_of, trace_of}
use Rattle.sms_construct.specs.Configuration.{Configuration}
use Rattle.sms_construct.specs.declared.alloc.Alloc.{Alloc}
use Rattle.sms_construct.specs.declared.stop.Stop.{Stop}
use Rattle.sms_construct.specs.declared.trace.Trace.{Trace}
use Rattle.sms_keeper.specs.Suits.{deck_of}
use Rattle.sms_script.specs.TraceText.{trace_lines}
use Rattle.sms_script.specs.declared.item.Item.{Item}
use Rattle.sms_script.specs.NameText.{spaced}
use Rattle.sms_simulation.specs.OutcomeText.{behind, outcome_text}
use Rattle.sms_simulation.specs.Simulation.{AreAsked, first_misplaced, first_other, misplaced_from}
use Rattle.sms_simulation.specs.declared.simulated.Simulated.{Simulated}
use Rattle.sms_simulation.specs.declared.simulated.Simulated.TheVariants as simulations
use Rattle.sms_story.specs.Runs.{runs_of}
use Rattle.sms_story.specs.declared.run.Run.{Run}
use Rattle.sms_explain.specs.Explanation.{IsExplainedUnder, IsExplanation, end_text, head_text, told_text}
use Rattle.sms_explain.specs.Picking.{is_picked}
use Rattle.sms_explain.specs.RunText.{run_text}
use Rattle.sms_explain.specs.declared.deck_sources.DeckSources.{DeckSources}

asked : (first : Item) (others : List Item) (deck : List ℕ) → deck_of first.request.op ≡ Some deck → first_other others ≡ None → AreAsked (first ∷ others) deck others
asked first others deck activates allocates = record { first = first; items_are = refl; activates = activates; allocates = allocates }

pub explained_under : (job : Option (List ℕ)) (number : Option ℕ) (first : Item) (others : List Item) (deck : List ℕ) (made : Simulated) → deck_of first.request.op ≡ Some deck → first_other others ≡ None
    → IsExplainedUnder deck (filter (is_picked job number) others) made → IsExplanation job number (first ∷ others) made
explained_under job number first others deck (simulations.Shown text) activates allocates tells =
    inr (record { deck = deck; others = others; asked = asked first others deck activates allocates; tells = tells })
explained_under job number first others deck (simulations.Refused fault) activates allocates found =
    record { deck = deck; others = others; asked = asked first others deck activates allocates; found = found }
explained_under job number first others deck (simulations.Misplaced line) activates allocates never = absurd never

pub misplaced_behind : (first : Item) (others : List Item) (deck : List ℕ) (line : ℕ) → deck_of first.request.op ≡ Some deck → first_other others ≡ Some line → first_misplaced (first ∷ others) ≡ Some line
misplaced_behind first others deck line activates other = ap (λ (d : Option (List ℕ)). misplaced_from d first others) activates ∙ other

-- parts of a text, one behind the other
pub in_three : (before one two three first second now : List ℕ) → first ≡ before ++ one → second ≡ first ++ two → now ≡ second ++ three → now ≡ before ++ (one ++ two ++ three)
in_three before one two three first second now e f g =
    g ∙ ap (λ (x : List ℕ). x ++ three) (f ∙ ap (λ (x : List ℕ). x ++ two) e) ∙ simp append_assoc

pub in_four : (before one two three four first second third now : List ℕ) → first ≡ before ++ one → second ≡ first ++ two → third ≡ second ++ three → now ≡ third ++ four
    → now ≡ before ++ (one ++ two ++ three ++ four)
in_four before one two three four first second third now e f g h =
    h ∙ ap (λ (x : List ℕ). x ++ four) (in_three before one two three first second third e f g) ∙ simp append_assoc

joined : (line job number before head runs end lines : List ℕ)
    → (((before ++ head) ++ runs) ++ ((line ++ codes " " ++ job ++ codes " " ++ number ++ codes " ") ++ end ++ codes "\n")) ++ lines
    ≡ before ++ (head ++ runs ++ (spaced (line ∷ job ∷ number ∷ end ∷ []) ++ 10 ∷ [] ++ lines))
joined line job number before head runs end lines = simp append_assoc

-- the parts of what is told of an ALLOC, one behind the other
pub told_parts : (config : Configuration) (sources : DeckSources) (item : Item) (alloc : Alloc) (before one two three now : List ℕ) (runs : List Run) (values : Values) (stop : Stop) (trace : Trace)
    → one ≡ before ++ head_text item alloc → two ≡ one ++ flat_map (run_text sources) runs → three ≡ two ++ end_text item stop values
    → now ≡ three ++ flat_map (behind (codes "  ")) (trace_lines trace)
    → runs ≡ runs_of config item.request.job alloc → values ≡ (classes_of config item.request.job alloc).values → stop ≡ (classes_of config item.request.job alloc).stop
    → trace ≡ trace_of (classes_of config item.request.job alloc)
    → now ≡ before ++ told_text config sources item alloc
told_parts config sources item alloc before one two three now runs values stop trace head told ends written runs_are values_are stop_is trace_is =
    let classes : Classes = classes_of config item.request.job alloc in
    let all_runs : List Run = runs_of config item.request.job alloc in
    let lines : Trace → List ℕ = λ (t : Trace). flat_map (behind (codes "  ")) (trace_lines t) in
    let text : List Run → Stop → Values → Trace → List ℕ =
    λ (r : List Run) (s : Stop) (v : Values) (t : Trace). (((before ++ head_text item alloc) ++ flat_map (run_text sources) r) ++ end_text item s v) ++ lines t in
    written
    ∙ ap (λ (x : List ℕ). x ++ lines trace) (ends ∙ ap (λ (x : List ℕ). x ++ end_text item stop values) (told ∙ ap (λ (x : List ℕ). x ++ flat_map (run_text sources) runs) head))
    ∙ ap (λ (r : List Run). text r stop values trace) runs_are
    ∙ ap (λ (s : Stop). text all_runs s values trace) stop_is
    ∙ ap (λ (v : Values). text all_runs classes.stop v trace) values_are
    ∙ ap (λ (t : Trace). text all_runs classes.stop classes.values t) trace_is
    ∙ joined (decimal item.line) item.request.job (decimal item.request.number) before (head_text item alloc) (flat_map (run_text sources) all_runs) (outcome_text classes.stop classes.values) (lines (trace_of classes))
