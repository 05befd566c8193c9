-- Decisions that are by the rule of ALLOC.
use Rattle.std.proofs.Common.{◌≡◌, ℕ, true, List, [], ◌++◌, refl, sym, ap, ◌∙◌, subst, inl, inr}
use Rattle.std.specs.Prelude.{Option, None, Some, Result, Ok, Err, MatchResult, bytes_eq, filter, option_map}
use Rattle.std.specs.List.{list_any}
use Rattle.desk_common.specs.Steps.{◌⊳◌}
use Rattle.sms_construct.specs.Configuration.{Configuration}
use Rattle.sms_construct.specs.Quantities.{Quantities}
use Rattle.sms_construct.specs.declared.alloc.Alloc.{Alloc}
use Rattle.sms_construct.specs.declared.data_set.DataSet.{DataSet}
use Rattle.sms_construct.specs.declared.extent.Extent.{Extent}
use Rattle.sms_construct.specs.declared.reply.Reply.{Reply}
use Rattle.sms_construct.specs.declared.reply.Reply.TheVariants as replies
use Rattle.sms_construct.specs.declared.trace.Trace.{Trace}
use Rattle.sms_construct.specs.declared.volume.VolumeDef.{VolumeDef}
use Rattle.acs_tree.specs.declared.values.Values.{Values}
use Rattle.desk_law.specs.State.{DeskState, set_named, with_set}
use Rattle.desk_law.specs.Allocation.{AllocRule, GrantRule, Wish, alloc_case, ask_of, candidates_of, data_class_of}
use Rattle.desk_law.specs.Allocation.{new_set, space_case, space_of, wish_with}
use Rattle.desk_law.specs.Candidates.{Ask}
use Rattle.desk_law.specs.Classification.{Classes, answer_of, classes_of, trace_of, went_through}
use Rattle.desk_law.specs.Extents.{extents_at, extents_if, extents_named}
use Rattle.desk_law.specs.Replies.{Leaves}
use Rattle.desk_law.specs.Volumes.{volumes_in}
use Rattle.sms_construct.specs.declared.stop.Stop.{Stop}
use Rattle.sms_construct.specs.declared.stop.Stop.TheVariants as stops
use Rattle.desk_records.specs.Effects.{state_with, tells_nothing}
use Rattle.sms_volumes.specs.declared.active_volume.ActiveVolume.{ActiveVolume}
use Rattle.desk_state.specs.Answering.{Answers}
use Rattle.desk_state.specs.Catalog.{set_in}
use Rattle.desk_state.specs.Deeds.{HasMore, config_of, effect_of}
use Rattle.desk_state.specs.Inner.Granting.{IsGrantAmong, IsGranted}
use Rattle.desk_state.specs.Standing.{IsRunning}
use Rattle.desk_state.specs.Inner.Wishing.{ClassifiedRule, classes_with, set_granted}
use Rattle.desk_state.specs.declared.decision.Decision.{Decision}
use Rattle.desk_state.specs.declared.deed.Deed.TheVariants as deeds
use Rattle.desk_state.specs.declared.grant.Grant.{Grant}
use Rattle.desk_state.specs.declared.running.Running.{Running}
use Rattle.desk_state.proofs.AnswerLemmas.{quiet-answers}

-- What is granted.

-- the volumes of the listed storage groups
listed-are : (s : DeskState) (wish : Wish) (groups : List (List ℕ)) → s.active ≡ Some wish.config → groups ≡ wish.classes.values.groups
    → filter (λ (v : VolumeDef). list_any (bytes_eq v.group) groups) (volumes_in s.active) ≡ candidates_of wish
listed-are s wish groups active same =
    ap (λ (g : List (List ℕ)). filter (λ (v : VolumeDef). list_any (bytes_eq v.group) g) (volumes_in s.active)) same
    ∙ ap (λ (o : Option Configuration). filter (λ (v : VolumeDef). list_any (bytes_eq v.group) wish.classes.values.groups) (volumes_in o)) active

-- what is granted among them is by the law
pub listed-among : (s : DeskState) (wish : Wish) (groups : List (List ℕ)) (ask : Ask) {given : Option Grant} (found : Option Grant) → s.active ≡ Some wish.config → groups ≡ wish.classes.values.groups → ask ≡ ask_of wish → given ≡ found
    → IsGrantAmong s (filter (λ (v : VolumeDef). list_any (bytes_eq v.group) groups) (volumes_in s.active)) ask given → IsGrantAmong s (candidates_of wish) (ask_of wish) found
listed-among s wish groups ask {given} found active same asks is among =
    subst (IsGrantAmong s (candidates_of wish) (ask_of wish)) is
    (subst (λ (a : Ask). IsGrantAmong s (candidates_of wish) a given) asks
    (subst (λ (l : List VolumeDef). IsGrantAmong s l ask given) (listed-are s wish groups active same) among))

-- a data set of a new name has what is granted
has-granted : (s : DeskState) (running : Running) (set : DataSet) (grant : Grant) → set_named set.dsn s.sets ≡ None → set.extents ≡ extents_at grant.volume.volser grant.pieces.items → IsGranted running grant
    → HasMore s.sets running set grant.place grant.pieces.items
has-granted s running set grant none extents granted =
    let there = granted.ready.at in
    let two : Some granted.ready.volume.volume ≡ Some grant.volume = sym (ap (option_map (λ (v : ActiveVolume). v.volume)) there) ∙ granted.named in
    let same : grant.volume ≡ granted.ready.volume.volume = cc in
    let empty : extents_named set.dsn s.sets ≡ [] = ap extents_if none in
    record {
      volume = granted.ready.volume;
      at = there;
      extents = extents ∙ (ap (λ (v : VolumeDef). extents_at v.volser grant.pieces.items) same ∙ sym (ap (λ (l : List Extent). l ++ extents_at granted.ready.volume.volume.volser grant.pieces.items) empty));
    }

pub granted-answers : (s : DeskState) (running : Running) (alloc : Alloc) (wish : Wish) (grant : Grant) → set_named alloc.input.dsn s.sets ≡ None → IsGranted running grant
    → IsGrantAmong s (candidates_of wish) (ask_of wish) (Some grant)
    → Answers s running (GrantRule s alloc wish) (record { reply = replies.Granted (set_granted alloc wish grant) (trace_of wish.classes); deed = deeds.Get (set_granted alloc wish grant) grant.place grant.pieces })
granted-answers s running alloc wish grant none granted chosen =
    let of : VolumeDef → DataSet = λ (v : VolumeDef). new_set alloc wish v grant.pieces.items in
    record {
      rule = inr (record {
        position = chosen.position;
        may = chosen.may;
        volume = chosen.volume;
        there = chosen.there;
        does = record {
          pieces = grant.pieces.items;
          granted = chosen.does.rule;
          makes = record {
            reply_is = ap (λ (v : VolumeDef). replies.Granted (of v) (trace_of wish.classes)) chosen.does.same;
            after_is = ap (λ (v : VolumeDef). with_set s (of v)) chosen.does.same;
          };
        };
      });
      tells = refl;
      fits = has-granted s running (set_granted alloc wish grant) grant none refl granted;
    }

-- no volume grants
pub ungranted-answers : (s : DeskState) (running : Running) (alloc : Alloc) (wish : Wish) → IsGrantAmong s (candidates_of wish) (ask_of wish) None
    → Answers s running (GrantRule s alloc wish) (record { reply = replies.NoVolume (trace_of wish.classes); deed = deeds.Nothing })
ungranted-answers s running alloc wish rejected =
    quiet-answers s running (GrantRule s alloc wish) (replies.NoVolume (trace_of wish.classes)) (inl (rejected, record { reply_is = refl; after_is = refl })) refl

-- The lines from the classification on.

-- an answer of these lines
classified-err : (s : DeskState) (running : Running) (config : Configuration) (alloc : Alloc) (classes : Classes) (reply answer : Reply) → (went_through classes ⊳ space_case alloc config) ≡ Err answer → reply ≡ answer → tells_nothing reply ≡ true
    → Answers s running (ClassifiedRule s config alloc classes) (record { reply = reply; deed = deeds.Nothing })
classified-err s running config alloc classes reply answer case same tells =
    quiet-answers s running (ClassifiedRule s config alloc classes) reply
    (subst (λ (r : Result Wish Reply). MatchResult r (λ wish. GrantRule s alloc wish reply s) (λ a. Leaves s a reply s)) (sym case) (record { reply_is = same; after_is = refl })) tells

-- the classification stops
stopped-at : (s : DeskState) (running : Running) (config : Configuration) (alloc : Alloc) (values : Values) (stop : Stop) (trace : Trace) (reply : Reply)
    → MatchResult (answer_of stop (classes_with values stop trace)) (λ done. ◌≡◌ {A = Result Trace Reply} (Err reply) (Ok trace)) (λ answer. ◌≡◌ {A = Result Trace Reply} (Err reply) (Err answer))
    → Answers s running (ClassifiedRule s config alloc (classes_with values stop trace)) (record { reply = reply; deed = deeds.Nothing })
stopped-at s running config alloc values stops.Done trace reply is = absurd cc
stopped-at s running config alloc values stops.Unmanaged trace reply is =
    let same : reply ≡ replies.NotManaged trace = cc in
    classified-err s running config alloc (classes_with values stops.Unmanaged trace) reply (replies.NotManaged trace) refl same (rw same refl)
stopped-at s running config alloc values (stops.Exit kind code) trace reply is =
    let same : reply ≡ replies.Exit kind code trace = cc in
    classified-err s running config alloc (classes_with values (stops.Exit kind code) trace) reply (replies.Exit kind code trace) refl same (rw same refl)
stopped-at s running config alloc values (stops.Unknown kind name) trace reply is =
    let same : reply ≡ replies.UnknownClass kind name trace = cc in
    classified-err s running config alloc (classes_with values (stops.Unknown kind name) trace) reply (replies.UnknownClass kind name trace) refl same (rw same refl)
stopped-at s running config alloc values stops.NoGroup trace reply is =
    let same : reply ≡ replies.NoGroup trace = cc in
    classified-err s running config alloc (classes_with values stops.NoGroup trace) reply (replies.NoGroup trace) refl same (rw same refl)

pub stopped-answers : (s : DeskState) (running : Running) (config : Configuration) (alloc : Alloc) (values : Values) (stop : Stop) (trace : Trace) (reply : Reply) (result : Result Trace Reply) → result ≡ Err reply
    → MatchResult (answer_of stop (classes_with values stop trace)) (λ done. result ≡ Ok trace) (λ answer. result ≡ Err answer)
    → Answers s running (ClassifiedRule s config alloc (classes_with values stop trace)) (record { reply = reply; deed = deeds.Nothing })
stopped-answers s running config alloc values stop trace reply result err is =
    stopped-at s running config alloc values stop trace reply
    (subst (λ (r : Result Trace Reply). MatchResult (answer_of stop (classes_with values stop trace)) (λ done. r ≡ Ok trace) (λ answer. r ≡ Err answer)) err is)

-- it is done, and the trace is handed back
pub record IsDone (stop : Stop) (given trace : Trace) : Type 0 where
  pub done : stop ≡ stops.Done
  pub same : given ≡ trace

done-at : (classes : Classes) (stop : Stop) (trace given : Trace)
    → MatchResult (answer_of stop classes) (λ done. ◌≡◌ {A = Result Trace Reply} (Ok given) (Ok trace)) (λ answer. ◌≡◌ {A = Result Trace Reply} (Ok given) (Err answer)) → IsDone stop given trace
done-at classes stops.Done trace given is = record { done = refl; same = cc }
done-at classes stops.Unmanaged trace given is = absurd cc
done-at classes (stops.Exit kind code) trace given is = absurd cc
done-at classes (stops.Unknown kind name) trace given is = absurd cc
done-at classes stops.NoGroup trace given is = absurd cc

pub is-done : (values : Values) (stop : Stop) (trace given : Trace) (result : Result Trace Reply) → result ≡ Ok given
    → MatchResult (answer_of stop (classes_with values stop trace)) (λ done. result ≡ Ok trace) (λ answer. result ≡ Err answer) → IsDone stop given trace
is-done values stop trace given result ok is =
    done-at (classes_with values stop trace) stop trace given
    (subst (λ (r : Result Trace Reply). MatchResult (answer_of stop (classes_with values stop trace)) (λ done. r ≡ Ok trace) (λ answer. r ≡ Err answer)) ok is)

-- it is done, and there is no space
pub spaceless-answers : (s : DeskState) (running : Running) (config : Configuration) (alloc : Alloc) (values : Values) (stop : Stop) (trace given : Trace) → IsDone stop given trace
    → space_of alloc (data_class_of config values.dataclas) ≡ None
    → Answers s running (ClassifiedRule s config alloc (classes_with values stop trace)) (record { reply = replies.NoQuantity given; deed = deeds.Nothing })
spaceless-answers s running config alloc values stop trace given is none =
    subst (λ (t : Trace). Answers s running (ClassifiedRule s config alloc (classes_with values stop t)) (record { reply = replies.NoQuantity given; deed = deeds.Nothing })) is.same
    (subst (λ (p : Stop). Answers s running (ClassifiedRule s config alloc (classes_with values p given)) (record { reply = replies.NoQuantity given; deed = deeds.Nothing })) (sym is.done)
    (classified-err s running config alloc (classes_with values stops.Done given) (replies.NoQuantity given) (replies.NoQuantity given) (rw none refl) refl refl))

-- it is done, and there is a space
pub spaced-answers : (s : DeskState) (running : Running) (config : Configuration) (alloc : Alloc) (values : Values) (stop : Stop) (trace given : Trace) (space : Quantities) (made : Decision) → IsDone stop given trace
    → space_of alloc (data_class_of config values.dataclas) ≡ Some space → Answers s running (GrantRule s alloc (wish_with alloc config (classes_with values stops.Done given) space)) made
    → Answers s running (ClassifiedRule s config alloc (classes_with values stop trace)) made
spaced-answers s running config alloc values stop trace given space made is there answers =
    let case : (went_through (classes_with values stops.Done given) ⊳ space_case alloc config) ≡ Ok (wish_with alloc config (classes_with values stops.Done given) space) = rw there refl in
    let done : Answers s running (ClassifiedRule s config alloc (classes_with values stops.Done given)) made = record { rule = rw case answers.rule; tells = answers.tells; fits = answers.fits } in
    subst (λ (t : Trace). Answers s running (ClassifiedRule s config alloc (classes_with values stop t)) made) is.same
    (subst (λ (p : Stop). Answers s running (ClassifiedRule s config alloc (classes_with values p given)) made) (sym is.done) done)

-- All lines.

pub alloc-classified : (s : DeskState) (running after : Running) (job : List ℕ) (alloc : Alloc) (config : Configuration) (made : Decision) → IsRunning s running → running.config ≡ Some config → set_in alloc.input.dsn running.catalog.sets ≡ None
    → Answers s after (ClassifiedRule s config alloc (classes_of config job alloc)) made → Answers s after (AllocRule s job alloc) made
alloc-classified s running after job alloc config made is configured none answers =
    let active : s.active ≡ Some config = sym is.active ∙ configured in
    let unused : set_named alloc.input.dsn s.sets ≡ None = sym (is.sets alloc.input.dsn) ∙ none in
    let case : alloc_case s job alloc ≡ (went_through (classes_of config job alloc) ⊳ space_case alloc config) = rw (active, unused) refl in
    record {
      rule = subst (λ (r : Result Wish Reply). MatchResult r (λ wish. GrantRule s alloc wish made.reply (state_with s (effect_of made.deed) (config_of made.deed))) (λ answer. Leaves s answer made.reply (state_with s (effect_of made.deed) (config_of made.deed)))) (sym case) answers.rule;
      tells = answers.tells;
      fits = answers.fits;
    }

-- the classes of a classification, from its parts
parts-are : (classes : Classes) (values : Values) (stop : Stop) (trace : Trace) → values ≡ classes.values → stop ≡ classes.stop → trace ≡ trace_of classes → classes_with values stop trace ≡ classes
parts-are classes values stop trace same stops_so written =
    ap (λ (v : Values). classes_with v stop trace) same ∙ (ap (λ (p : Stop). classes_with classes.values p trace) stops_so ∙ ap (classes_with classes.values classes.stop) written)

pub alloc-made : (s : DeskState) (running after : Running) (job : List ℕ) (alloc : Alloc) (config classified_with decided_with : Configuration) (values : Values) (stop : Stop) (trace : Trace) (made : Decision) → IsRunning s running
    → running.config ≡ Some config → set_in alloc.input.dsn running.catalog.sets ≡ None → classified_with ≡ config → decided_with ≡ config
    → values ≡ (classes_of classified_with job alloc).values → stop ≡ (classes_of classified_with job alloc).stop → trace ≡ trace_of (classes_of classified_with job alloc)
    → Answers s after (ClassifiedRule s decided_with alloc (classes_with values stop trace)) made → Answers s after (AllocRule s job alloc) made
alloc-made s running after job alloc config classified_with decided_with values stop trace made is configured none first second same stops_so written answers =
    alloc-classified s running after job alloc config made is configured none
    (subst (λ (k : Configuration). Answers s after (ClassifiedRule s config alloc (classes_of k job alloc)) made) first
    (subst (λ (k : Configuration). Answers s after (ClassifiedRule s k alloc (classes_of classified_with job alloc)) made) second
    (subst (λ (c : Classes). Answers s after (ClassifiedRule s decided_with alloc c) made) (parts-are (classes_of classified_with job alloc) values stop trace same stops_so written) answers)))
