-- What statements tell, from what those in them tell.
use Rattle.std.proofs.Common.{◌≡◌, ◌<◌, ◌+◌, ℕ, suc, Bool, true, false, List, [], ◌∷◌, ◌++◌, length, map, drop, get_or, Option, Some}
use Rattle.std.proofs.Common.{None, refl, sym, ap, ◌∙◌, ◌≤◌, subst, append_assoc, append-nil, arith}
use Rattle.std.specs.Prelude.{option_map, if◌then◌else◌}
use Rattle.std.proofs.Math.Seq.{drop-cons}
use Rattle.std.proofs.Math.ListN.{drop_of_length-le}
use Rattle.std.proofs.lemmas.Option.{get_or_from_slice_get, slice_get-get_or}
use Rattle.std.specs.List.{slice_get}
use Rattle.acs_tree.specs.declared.ending.Ending.{Ending}
use Rattle.acs_tree.specs.declared.ending.Ending.TheVariants as ending
use Rattle.acs_tree.specs.declared.input.Input.{Input}
use Rattle.acs_tree.specs.declared.kind.Kind.{Kind}
use Rattle.acs_tree.specs.declared.routine.Cond.{Cond}
use Rattle.acs_tree.specs.declared.routine.Form.{Form, roll-Form, map-Form}
use Rattle.acs_tree.specs.declared.routine.Form.TheOpen.{Form-F}
use Rattle.acs_tree.specs.declared.routine.Form.TheFolds.{fold-roll-Form, fold_out-Stmt, fold_out-When}
use Rattle.acs_tree.specs.declared.routine.Form.TheVariants.{Put, If, Pick, Do, Write, Exit, rolls-Put, rolls-If}
use Rattle.acs_tree.specs.declared.routine.Form.TheVariants.{rolls-Pick, rolls-Do, rolls-Write, rolls-Exit}
use Rattle.acs_tree.specs.declared.routine.Operand.{Operand}
use Rattle.acs_tree.specs.declared.routine.Ref.{Ref}
use Rattle.acs_tree.specs.declared.routine.Stmt.{Stmt}
use Rattle.acs_tree.specs.declared.routine.When.{When, out-When}
use Rattle.acs_tree.specs.declared.values.Values.{Values}
use Rattle.acs_tree.specs.Conditions.{holds, when_holds}
use Rattle.acs_tree.specs.Meaning.{Arm, choice, code_of, first_of, form_step, in_turn, meaning, perhaps, stmt_step}
use Rattle.acs_tree.specs.Meaning.{when_step, writes}
use Rattle.acs_tree.specs.Outcome.{Action, Outcome, behind, exits, then_do, after}
use Rattle.acs_tree.specs.Setting.{sets}
use Rattle.acs_trace.specs.declared.event.Event.{Event}
use Rattle.acs_trace.specs.declared.event.Event.TheVariants.{Ran, Taken}
use Rattle.acs_trace.specs.Sights.{Sight, look, look_when}
use Rattle.acs_trace.specs.Story.{Chapter, Story, Told, first_told, lines_in, perhaps_told, story, tell_choice, tell_exit}
use Rattle.acs_trace.specs.Story.{tell_form, tell_in_turn, tell_set, tell_stmt, tell_when, tell_write, then_tell, told_after, told_behind}
use Rattle.acs_trace.specs.Inner.Follows.{Follows, IsMet, Sees, Turns, arm_of, chapter_of, form_meaning, story_of_form}
use Rattle.acs_trace.proofs.SightLemmas.{lines_append, lines_behind}

-- behind events that wrote nothing
pub follows_behind : {told : Told} {means : Outcome} {before mid now : List Event} {ends : Ending} {leaves : Values} (seen : List Event) → mid ≡ before ++ seen → lines_in seen ≡ []
    → Follows told means mid now ends leaves → Follows (told_behind seen told) means before now ends leaves
follows_behind {told} {means} {before} {mid} {now} seen e n f = record {
  outcome = f.outcome;
  ends = f.ends;
  leaves = f.leaves;
  events = f.events ∙ ap (λ es. es ++ told.events) e ∙ append_assoc before seen told.events;
  lines = lines_behind seen told.events n ∙ f.lines;
}

told_twice : (one two : List Event) (told : Told) → told_behind one (told_behind two told) ≡ told_behind (one ++ two) told
told_twice one two told = ap (with_events told.outcome) (sym (append_assoc one two told.events))
  where
    with_events : Outcome → List Event → Told
    with_events outcome events = record { outcome = outcome; events = events }

-- one after the other
pub then_goes : (first : Told) (means : Outcome) (next : Values → Told) (does : Values → Outcome) {before mid now : List Event} {one ends : Ending} {between leaves : Values}
    → Follows first means before mid one between → one ≡ ending.Falls → Follows (next between) (does between) mid now ends leaves
    → Follows (then_tell first next) (then_do means does) before now ends leaves
then_goes first means next does {before} {mid} {now} {one} {ends} {between} {leaves} f e g' =
    let g : Follows (next means.values) (does means.values) mid now ends leaves = subst (λ v. Follows (next v) (does v) mid now ends leaves) f.leaves g' in
    let falls : means.ending ≡ ending.Falls = sym f.ends ∙ e in
    let told : Told = record { outcome = behind means.lines (next means.values).outcome; events = first.events ++ (next means.values).events } in
    let tells : then_tell first next ≡ told =
    ap (λ (o : Ending). told_after o first next) (ap (λ (o : Outcome). o.ending) f.outcome ∙ falls)
    ∙ ap (λ (o : Outcome). record { outcome = behind o.lines (next o.values).outcome; events = first.events ++ (next o.values).events }) f.outcome in
    let does' : then_do means does ≡ behind means.lines (does means.values) = ap (λ (o : Ending). after o means does) falls in
    rw (tells, does') (record {
      outcome = ap (behind means.lines) g.outcome;
      ends = g.ends;
      leaves = g.leaves;
      events = g.events ∙ ap (λ es. es ++ (next means.values).events) f.events ∙ append_assoc before first.events (next means.values).events;
      lines = lines_append first.events (next means.values).events ∙ ap (λ ls. ls ++ lines_in (next means.values).events) f.lines ∙ ap (λ ls. means.lines ++ ls) g.lines;
    })

pub then_ends : (first : Told) (means : Outcome) (next : Values → Told) (does : Values → Outcome) {before now : List Event} {ends : Ending} {leaves : Values} (code : ℕ)
    → Follows first means before now ends leaves → ends ≡ ending.Exit code → Follows (then_tell first next) (then_do means does) before now ends leaves
then_ends first means next does {before} {now} {ends} {leaves} code f e =
    let out : means.ending ≡ ending.Exit code = sym f.ends ∙ e in
    let tells : then_tell first next ≡ first = ap (λ (o : Ending). told_after o first next) (ap (λ (o : Outcome). o.ending) f.outcome ∙ out) in
    let does' : then_do means does ≡ means = ap (λ (o : Ending). after o means does) out in
    rw (tells, does') f

-- IF
pub choice_yes : {sight : Sight} {m : Bool} {first : Told} {does : Outcome} (other : Told) (others : Outcome) {before mid now : List Event} {a : Bool} {ends : Ending} {leaves : Values}
    → Sees sight m before mid a → a ≡ true → Follows first does mid now ends leaves → Follows (tell_choice sight first other) (if m then does else others) before now ends leaves
choice_yes {sight} {m} {first} {does} other others s e f =
    let on : m ≡ true = sym s.answer ∙ e in
    let tells : tell_choice sight first other ≡ told_behind sight.events first = ap (λ (t : Bool). told_behind sight.events (if t then first else other)) (s.meant ∙ on) in
    let does' : (if m then does else others) ≡ does = ap (λ (t : Bool). if t then does else others) on in
    rw (tells, does') (follows_behind sight.events s.events s.no_lines f)

pub choice_no : {sight : Sight} {m : Bool} (first : Told) (does : Outcome) {other : Told} {others : Outcome} {before mid now : List Event} {a : Bool} {ends : Ending} {leaves : Values}
    → Sees sight m before mid a → a ≡ false → Follows other others mid now ends leaves → Follows (tell_choice sight first other) (if m then does else others) before now ends leaves
choice_no {sight} {m} first does {other} {others} s e f =
    let off : m ≡ false = sym s.answer ∙ e in
    let tells : tell_choice sight first other ≡ told_behind sight.events other = ap (λ (t : Bool). told_behind sight.events (if t then first else other)) (s.meant ∙ off) in
    let does' : (if m then does else others) ≡ others = ap (λ (t : Bool). if t then does else others) off in
    rw (tells, does') (follows_behind sight.events s.events s.no_lines f)

module _ (kind : Kind) (body : List Stmt) where
  means_form : (s : Stmt) → meaning kind body s ≡ form_meaning kind body s.form
  means_form s = fold_out-Stmt Action Action Arm (form_step kind body) stmt_step (when_step body) s

  tells_form : (s : Stmt) → story kind body s ≡ (λ input values. told_behind (Ran s.at ∷ []) (story_of_form kind body s.form input values))
  tells_form s = fold_out-Stmt Story Story Chapter (tell_form kind body) tell_stmt (tell_when body) s

  means_layer : (form : Form) (parts : Form-F Form Stmt When) → roll-Form parts ≡ form → form_meaning kind body form ≡ form_step kind body (map-Form Form Stmt When Action Action Arm (form_meaning kind body) (meaning kind body) (arm_of kind body) parts)
  means_layer form parts e = ap (form_meaning kind body) (sym e) ∙ fold-roll-Form Action Action Arm (form_step kind body) stmt_step (when_step body) parts

  tells_layer : (form : Form) (parts : Form-F Form Stmt When) → roll-Form parts ≡ form → story_of_form kind body form ≡ tell_form kind body (map-Form Form Stmt When Story Story Chapter (story_of_form kind body) (story kind body) (chapter_of kind body) parts)
  tells_layer form parts e = ap (story_of_form kind body) (sym e) ∙ fold-roll-Form Story Story Chapter (tell_form kind body) tell_stmt (tell_when body) parts

  tells_when : (arm : When) → chapter_of kind body arm ≡ record { look = λ subject. look_when body subject (out-When arm).test; body = λ input values. told_behind (Taken (out-When arm).at ∷ []) (story kind body (out-When arm).body input values) }
  tells_when arm = fold_out-When Story Story Chapter (tell_form kind body) tell_stmt (tell_when body) arm

  means_when : (arm : When) → arm_of kind body arm ≡ record { test = λ subject. when_holds body subject (out-When arm).test; body = meaning kind body (out-When arm).body }
  means_when arm = fold_out-When Action Action Arm (form_step kind body) stmt_step (when_step body) arm

  module _ (input : Input) (values : Values) where
    -- a statement, from its form
    from_form : (s : Stmt) (form : Form) {tells : Story} {does : Action} {before mid now : List Event} {ends : Ending} {leaves : Values} → s.form ≡ form → story_of_form kind body form ≡ tells → form_meaning kind body form ≡ does
        → mid ≡ before ++ Ran s.at ∷ [] → Follows (tells input values) (does input values) mid now ends leaves → Follows (story kind body s input values) (meaning kind body s input values) before now ends leaves
    from_form s form e t d m f = rw (tells_form s, means_form s, e, t, d) (follows_behind (Ran s.at ∷ []) m refl f)

    pub put_follows : (s : Stmt) (target : Ref) (operands given : List Operand) {before mid now : List Event} {ends : Ending} {leaves : Values} → s.form ≡ Put target operands → given ≡ operands → mid ≡ before ++ Ran s.at ∷ []
        → Follows (tell_set kind target given input values) (sets kind target given input values) mid now ends leaves → Follows (story kind body s input values) (meaning kind body s input values) before now ends leaves
    put_follows s target operands given {before} {mid} {now} {ends} {leaves} e p m f =
        let f' : Follows (tell_set kind target operands input values) (sets kind target operands input values) mid now ends leaves = subst (λ os. Follows (tell_set kind target os input values) (sets kind target os input values) mid now ends leaves) p f in
        from_form s (Put target operands) e (tells_layer (Put target operands) (Form-F.Put target operands) (rolls-Put target operands)) (means_layer (Put target operands) (Form-F.Put target operands) (rolls-Put target operands)) m f'

    pub write_follows : (s : Stmt) (parts given : List Operand) {before mid now : List Event} {ends : Ending} {leaves : Values} → s.form ≡ Write parts → given ≡ parts → mid ≡ before ++ Ran s.at ∷ []
        → Follows (tell_write given input values) (writes given input values) mid now ends leaves → Follows (story kind body s input values) (meaning kind body s input values) before now ends leaves
    write_follows s parts given {before} {mid} {now} {ends} {leaves} e p m f =
        let f' : Follows (tell_write parts input values) (writes parts input values) mid now ends leaves = subst (λ os. Follows (tell_write os input values) (writes os input values) mid now ends leaves) p f in
        from_form s (Write parts) e (tells_layer (Write parts) (Form-F.Write parts) (rolls-Write parts)) (means_layer (Write parts) (Form-F.Write parts) (rolls-Write parts)) m f'

    pub exit_follows : (s : Stmt) (code : Option Operand) (number : ℕ) {before mid now : List Event} {ends : Ending} {leaves : Values} → s.form ≡ Exit code → number ≡ code_of code → mid ≡ before ++ Ran s.at ∷ []
        → Follows (tell_exit number input values) (exits number values) mid now ends leaves → Follows (story kind body s input values) (meaning kind body s input values) before now ends leaves
    exit_follows s code number {before} {mid} {now} {ends} {leaves} e p m f =
        let f' : Follows (tell_exit (code_of code) input values) (exits (code_of code) values) mid now ends leaves = subst (λ n. Follows (tell_exit n input values) (exits n values) mid now ends leaves) p f in
        from_form s (Exit code) e (tells_layer (Exit code) (Form-F.Exit code) (rolls-Exit code)) (means_layer (Exit code) (Form-F.Exit code) (rolls-Exit code)) m f'

    pub do_follows : (s : Stmt) (block given : List Stmt) {before mid now : List Event} {ends : Ending} {leaves : Values} → s.form ≡ Do block → given ≡ block → mid ≡ before ++ Ran s.at ∷ []
        → Follows (tell_in_turn (map (story kind body) given) input values) (in_turn (map (meaning kind body) given) input values) mid now ends leaves → Follows (story kind body s input values) (meaning kind body s input values) before now ends leaves
    do_follows s block given {before} {mid} {now} {ends} {leaves} e p m f =
        let f' : Follows (tell_in_turn (map (story kind body) block) input values) (in_turn (map (meaning kind body) block) input values) mid now ends leaves = subst (λ os. Follows (tell_in_turn (map (story kind body) os) input values) (in_turn (map (meaning kind body) os) input values) mid now ends leaves) p f in
        from_form s (Do block) e (tells_layer (Do block) (Form-F.Do block) (rolls-Do block)) (means_layer (Do block) (Form-F.Do block) (rolls-Do block)) m f'

    if_tells : (cond : Cond) (first : Stmt) (other : Option Stmt) → story_of_form kind body (If cond first other) ≡ (λ i v. tell_choice (look body cond i v) (story kind body first i v) (perhaps_told (option_map (story kind body) other) i v))
    if_tells cond first None = tells_layer (If cond first None) (Form-F.If cond first None) (rolls-If cond first None)
    if_tells cond first (Some other) = tells_layer (If cond first (Some other)) (Form-F.If cond first (Some other)) (rolls-If cond first (Some other))

    if_means : (cond : Cond) (first : Stmt) (other : Option Stmt) → form_meaning kind body (If cond first other) ≡ choice (holds body cond) (meaning kind body first) (perhaps (option_map (meaning kind body) other))
    if_means cond first None = means_layer (If cond first None) (Form-F.If cond first None) (rolls-If cond first None)
    if_means cond first (Some other) = means_layer (If cond first (Some other)) (Form-F.If cond first (Some other)) (rolls-If cond first (Some other))

    pub yes_follows : (s : Stmt) (cond given : Cond) (first done : Stmt) (other : Option Stmt) {before mid seen now : List Event} {a : Bool} {ends : Ending} {leaves : Values} → s.form ≡ If cond first other → given ≡ cond → done ≡ first → mid ≡ before ++ Ran s.at ∷ []
        → Sees (look body given input values) (holds body given input values) mid seen a → a ≡ true → Follows (story kind body done input values) (meaning kind body done input values) seen now ends leaves
        → Follows (story kind body s input values) (meaning kind body s input values) before now ends leaves
    yes_follows s cond given first done other {before} {mid} {seen} {now} {a} {ends} {leaves} e p q m c t f =
        let c' : Sees (look body cond input values) (holds body cond input values) mid seen a = subst (λ x. Sees (look body x input values) (holds body x input values) mid seen a) p c in
        let f' : Follows (story kind body first input values) (meaning kind body first input values) seen now ends leaves = subst (λ x. Follows (story kind body x input values) (meaning kind body x input values) seen now ends leaves) q f in
        from_form s (If cond first other) e (if_tells cond first other) (if_means cond first other) m (choice_yes _ _ c' t f')

    pub no_follows : (s : Stmt) (cond given : Cond) (first : Stmt) (other : Option Stmt) {before mid seen now : List Event} {a : Bool} {ends : Ending} {leaves : Values} → s.form ≡ If cond first other → given ≡ cond → mid ≡ before ++ Ran s.at ∷ []
        → Sees (look body given input values) (holds body given input values) mid seen a → a ≡ false
        → Follows (perhaps_told (option_map (story kind body) other) input values) (perhaps (option_map (meaning kind body) other) input values) seen now ends leaves
        → Follows (story kind body s input values) (meaning kind body s input values) before now ends leaves
    no_follows s cond given first other {before} {mid} {seen} {now} {a} {ends} {leaves} e p m c t f =
        let c' : Sees (look body cond input values) (holds body cond input values) mid seen a = subst (λ x. Sees (look body x input values) (holds body x input values) mid seen a) p c in
        from_form s (If cond first other) e (if_tells cond first other) (if_means cond first other) m (choice_no _ _ c' t f)

    pick_tells : (subject : Option Ref) (whens : List When) (other : Option Stmt) → story_of_form kind body (Pick subject whens other) ≡ first_told subject (map (chapter_of kind body) whens) (perhaps_told (option_map (story kind body) other))
    pick_tells subject whens None = tells_layer (Pick subject whens None) (Form-F.Pick subject whens None) (rolls-Pick subject whens None)
    pick_tells subject whens (Some other) = tells_layer (Pick subject whens (Some other)) (Form-F.Pick subject whens (Some other)) (rolls-Pick subject whens (Some other))

    pick_means : (subject : Option Ref) (whens : List When) (other : Option Stmt) → form_meaning kind body (Pick subject whens other) ≡ first_of subject (map (arm_of kind body) whens) (perhaps (option_map (meaning kind body) other))
    pick_means subject whens None = means_layer (Pick subject whens None) (Form-F.Pick subject whens None) (rolls-Pick subject whens None)
    pick_means subject whens (Some other) = means_layer (Pick subject whens (Some other)) (Form-F.Pick subject whens (Some other)) (rolls-Pick subject whens (Some other))

    -- what the WHENs lead to
    turned : (subject : Option Ref) (whens : List When) (other : Story) (others : Action) {tells : Story → Told} {does : Action → Outcome} {mid seen now : List Event} {ends : Ending} {leaves : Values}
        → Turns kind body subject whens input values mid seen tells does → Follows (tells other) (does others) seen now ends leaves
        → Follows (first_told subject (map (chapter_of kind body) whens) other input values) (first_of subject (map (arm_of kind body) whens) others input values) mid now ends leaves
    turned subject whens other others t f = rw (t.tells other, t.means others) (follows_behind t.seen t.events t.no_lines f)

    pub otherwise_follows : (s : Stmt) (subject : Option Ref) (whens given : List When) (other : Option Stmt) {found : Option ℕ} {before mid seen now : List Event} {ends : Ending} {leaves : Values} → s.form ≡ Pick subject whens other → given ≡ whens → mid ≡ before ++ Ran s.at ∷ []
        → IsMet kind body subject given input values mid seen found → found ≡ None
        → Follows (perhaps_told (option_map (story kind body) other) input values) (perhaps (option_map (meaning kind body) other) input values) seen now ends leaves
        → Follows (story kind body s input values) (meaning kind body s input values) before now ends leaves
    otherwise_follows s subject whens given other {found} {before} {mid} {seen} {now} {ends} {leaves} e p m i n f =
        let i' : IsMet kind body subject whens input values mid seen None = subst (λ ws. IsMet kind body subject ws input values mid seen None) p (subst (λ at. IsMet kind body subject given input values mid seen at) n i) in
        from_form s (Pick subject whens other) e (pick_tells subject whens other) (pick_means subject whens other) m (turned subject whens _ _ i' f)

    -- one WHEN more is passed by
    module _ (subject : Option Ref) (whens : List When) (k : ℕ) (arm : When) (h : k < length whens) (is : arm ≡ get_or whens k arm) where
      abbrev sight : Sight
      sight = look_when body subject (out-When arm).test input values

      abbrev taken : Told
      taken = told_behind (Taken (out-When arm).at ∷ []) (story kind body (out-When arm).body input values)

      tells_first : (other : Story) → first_told subject (map (chapter_of kind body) (drop k whens)) other input values ≡ tell_choice sight taken (first_told subject (map (chapter_of kind body) (drop (suc k) whens)) other input values)
      tells_first other =
          ap (λ ws. first_told subject (map (chapter_of kind body) ws) other input values) (drop-cons whens k arm h)
          ∙ ap (λ w. first_told subject (chapter_of kind body w ∷ map (chapter_of kind body) (drop (suc k) whens)) other input values) (sym is)
          ∙ ap (λ c. first_told subject (c ∷ map (chapter_of kind body) (drop (suc k) whens)) other input values) (tells_when arm)

      means_first : (other : Action) → first_of subject (map (arm_of kind body) (drop k whens)) other input values
          ≡ (if when_holds body subject (out-When arm).test input values then meaning kind body (out-When arm).body input values else first_of subject (map (arm_of kind body) (drop (suc k) whens)) other input values)
      means_first other =
          ap (λ ws. first_of subject (map (arm_of kind body) ws) other input values) (drop-cons whens k arm h)
          ∙ ap (λ w. first_of subject (arm_of kind body w ∷ map (arm_of kind body) (drop (suc k) whens)) other input values) (sym is)
          ∙ ap (λ c. first_of subject (c ∷ map (arm_of kind body) (drop (suc k) whens)) other input values) (means_when arm)

      pub met_no : {before seen now : List Event} {a : Bool}
          → Turns kind body subject whens input values before seen (λ other. first_told subject (map (chapter_of kind body) (drop k whens)) other input values) (λ other. first_of subject (map (arm_of kind body) (drop k whens)) other input values)
          → Sees (look_when body subject (out-When arm).test input values) (when_holds body subject (out-When arm).test input values) seen now a → a ≡ false
          → Turns kind body subject whens input values before now (λ other. first_told subject (map (chapter_of kind body) (drop (k + 1) whens)) other input values) (λ other. first_of subject (map (arm_of kind body) (drop (k + 1) whens)) other input values)
      met_no {before} {seen} {now} t s e =
          let off : when_holds body subject (out-When arm).test input values ≡ false = sym s.answer ∙ e in
          let one : suc k ≡ k + 1 = omega arith in
          record {
            seen = t.seen ++ sight.events;
            events = s.events ∙ ap (λ es. es ++ sight.events) t.events ∙ append_assoc before t.seen sight.events;
            no_lines = lines_behind t.seen sight.events t.no_lines ∙ s.no_lines;
            tells = λ other. t.tells other ∙ ap (told_behind t.seen) (tells_first other ∙ ap (λ (b : Bool). told_behind sight.events (if b then taken else first_told subject (map (chapter_of kind body) (drop (suc k) whens)) other input values)) (s.meant ∙ off))
                ∙ told_twice t.seen sight.events (first_told subject (map (chapter_of kind body) (drop (suc k) whens)) other input values)
                ∙ ap (λ n. told_behind (t.seen ++ sight.events) (first_told subject (map (chapter_of kind body) (drop n whens)) other input values)) one;
            means = λ other. t.means other ∙ means_first other ∙ ap (λ (b : Bool). if b then meaning kind body (out-When arm).body input values else first_of subject (map (arm_of kind body) (drop (suc k) whens)) other input values) off
                ∙ ap (λ n. first_of subject (map (arm_of kind body) (drop n whens)) other input values) one;
          }

      met_turn : {before mid seen now : List Event} {a : Bool}
          → Turns kind body subject whens input values before mid (λ other. first_told subject (map (chapter_of kind body) (drop k whens)) other input values) (λ other. first_of subject (map (arm_of kind body) (drop k whens)) other input values)
          → Sees (look_when body subject (out-When arm).test input values) (when_holds body subject (out-When arm).test input values) mid seen a → a ≡ true → now ≡ seen ++ Taken (out-When arm).at ∷ []
          → Turns kind body subject whens input values before now (λ other. story kind body (out-When arm).body input values) (λ other. meaning kind body (out-When arm).body input values)
      met_turn {before} {mid} {seen} {now} t s e n =
          let on : when_holds body subject (out-When arm).test input values ≡ true = sym s.answer ∙ e in
          let last : List Event = Taken (out-When arm).at ∷ [] in
          let all : List Event = sight.events ++ last in
          record {
            seen = t.seen ++ all;
            events = n ∙ ap (λ es. es ++ last) (s.events ∙ ap (λ es. es ++ sight.events) t.events ∙ append_assoc before t.seen sight.events) ∙ append_assoc before (t.seen ++ sight.events) last ∙ ap (λ es. before ++ es) (append_assoc t.seen sight.events last);
            no_lines = lines_behind t.seen all t.no_lines ∙ lines_behind sight.events last s.no_lines;
            tells = λ other. t.tells other ∙ ap (told_behind t.seen) (tells_first other ∙ ap (λ (b : Bool). told_behind sight.events (if b then taken else first_told subject (map (chapter_of kind body) (drop (suc k) whens)) other input values)) (s.meant ∙ on)
                ∙ told_twice sight.events last (story kind body (out-When arm).body input values))
                ∙ told_twice t.seen all (story kind body (out-When arm).body input values);
            means = λ other. t.means other ∙ means_first other ∙ ap (λ (b : Bool). if b then meaning kind body (out-When arm).body input values else first_of subject (map (arm_of kind body) (drop (suc k) whens)) other input values) on;
          }

      pub met_yes : {before mid seen now : List Event} {a : Bool}
          → Turns kind body subject whens input values before mid (λ other. first_told subject (map (chapter_of kind body) (drop k whens)) other input values) (λ other. first_of subject (map (arm_of kind body) (drop k whens)) other input values)
          → Sees (look_when body subject (out-When arm).test input values) (when_holds body subject (out-When arm).test input values) mid seen a → a ≡ true → now ≡ seen ++ Taken (out-When arm).at ∷ []
          → IsMet kind body subject whens input values before now (Some k)
      met_yes {before} {mid} {seen} {now} t s e n = (
        h,
        λ other f.
            subst (λ (w : When). Turns kind body subject whens input values before now (λ _. story kind body (out-When w).body input values) (λ _. meaning kind body (out-When w).body input values))
            (is ∙ get_or_from_slice_get whens k other arm f) (met_turn t s e n),
      )

    pub met_none : (subject : Option Ref) (whens : List When) (k : ℕ) {before now : List Event} → length whens ≤ k
        → Turns kind body subject whens input values before now (λ other. first_told subject (map (chapter_of kind body) (drop k whens)) other input values) (λ other. first_of subject (map (arm_of kind body) (drop k whens)) other input values)
        → IsMet kind body subject whens input values before now None
    met_none subject whens k {before} {now} h t =
        subst (λ ws. Turns kind body subject whens input values before now (λ other. first_told subject (map (chapter_of kind body) ws) other input values) (λ other. first_of subject (map (arm_of kind body) ws) other input values)) (drop_of_length-le whens h) t

    pub taken_follows : (s : Stmt) (subject : Option Ref) (whens given again : List When) (other : Option Stmt) (place : ℕ) (arm : When) (done : Stmt) {found : Option ℕ} {before mid seen now : List Event} {ends : Ending} {leaves : Values}
        → s.form ≡ Pick subject whens other → given ≡ whens → again ≡ whens → mid ≡ before ++ Ran s.at ∷ [] → IsMet kind body subject given input values mid seen found → found ≡ Some place → arm ≡ get_or again place arm → done ≡ (out-When arm).body
        → Follows (story kind body done input values) (meaning kind body done input values) seen now ends leaves → Follows (story kind body s input values) (meaning kind body s input values) before now ends leaves
    taken_follows s subject whens given again other place arm done {found} {before} {mid} {seen} {now} {ends} {leaves} e p q m i n is d f =
        let i' : IsMet kind body subject whens input values mid seen (Some place) = subst (λ ws. IsMet kind body subject ws input values mid seen (Some place)) p (subst (λ at. IsMet kind body subject given input values mid seen at) n i) in
        let h : place < length again = subst (λ (ws : List When). place < length ws) (sym q) i'.0 in
        let there : slice_get again place ≡ Some arm = slice_get-get_or again place arm h ∙ ap Some (sym is) in
        let there' : slice_get whens place ≡ Some arm = subst (λ ws. slice_get ws place ≡ Some arm) q there in
        let f' : Follows (story kind body (out-When arm).body input values) (meaning kind body (out-When arm).body input values) seen now ends leaves = subst (λ x. Follows (story kind body x input values) (meaning kind body x input values) seen now ends leaves) d f in
        from_form s (Pick subject whens other) e (pick_tells subject whens other) (pick_means subject whens other) m (turned subject whens _ _ (i'.1 arm there') f')

    -- statements, one after another
    module _ (block : List Stmt) (k : ℕ) where
      pub block_goes : (s : Stmt) {before mid now : List Event} {one ends : Ending} {between leaves : Values} → k < length block → s ≡ get_or block k s
          → Follows (story kind body s input values) (meaning kind body s input values) before mid one between → one ≡ ending.Falls
          → Follows (tell_in_turn (map (story kind body) (drop (k + 1) block)) input between) (in_turn (map (meaning kind body) (drop (k + 1) block)) input between) mid now ends leaves
          → Follows (tell_in_turn (map (story kind body) (drop k block)) input values) (in_turn (map (meaning kind body) (drop k block)) input values) before now ends leaves
      block_goes s {before} {mid} {now} {one} {ends} {between} {leaves} h is f e g =
          let next : k + 1 ≡ suc k = omega arith in
          let g' = subst (λ n. Follows (tell_in_turn (map (story kind body) (drop n block)) input between) (in_turn (map (meaning kind body) (drop n block)) input between) mid now ends leaves) next g in
          rw (drop-cons block k s h, sym is) (then_goes (story kind body s input values) (meaning kind body s input values) (tell_in_turn (map (story kind body) (drop (suc k) block)) input) (in_turn (map (meaning kind body) (drop (suc k) block)) input) f e g')

      pub block_ends : (s : Stmt) (code : ℕ) {before now : List Event} {ends : Ending} {leaves : Values} → k < length block → s ≡ get_or block k s
          → Follows (story kind body s input values) (meaning kind body s input values) before now ends leaves → ends ≡ ending.Exit code
          → Follows (tell_in_turn (map (story kind body) (drop k block)) input values) (in_turn (map (meaning kind body) (drop k block)) input values) before now (ending.Exit code) leaves
      block_ends s code {before} {now} {ends} {leaves} h is f e =
          let f' : Follows (story kind body s input values) (meaning kind body s input values) before now (ending.Exit code) leaves = subst (λ x. Follows (story kind body s input values) (meaning kind body s input values) before now x leaves) e f in
          rw (drop-cons block k s h, sym is) (then_ends (story kind body s input values) (meaning kind body s input values) (tell_in_turn (map (story kind body) (drop (suc k) block)) input) (in_turn (map (meaning kind body) (drop (suc k) block)) input) code f' refl)

      pub block_over : {now : List Event} → length block ≤ k → Follows (tell_in_turn (map (story kind body) (drop k block)) input values) (in_turn (map (meaning kind body) (drop k block)) input values) now now ending.Falls values
      block_over {now} h = rw (drop_of_length-le block h) (record { outcome = refl; ends = refl; leaves = refl; events = sym (append-nil now); lines = refl })
