-- The tool never has a kind of refusal beside a kind that shows a text.
use Rattle.std.proofs.Common.{◌≡◌, refl, ℕ, List, [], ◌∷◌, Bool, true, false, not, ◌&&◌, ◌||◌, Option, Some, None, find}
use Rattle.std.proofs.Common.{zero, suc, codes, is_some, length, drop, encode_utf8, nat_lt, ◌==◌, inl, inr}
use Rattle.std.proofs.Common.{if◌then◌else◌}
use Rattle.std.specs.List.{list_all, list_any}
use Rattle.std.specs.Option.{option_map_or}
use Rattle.std.specs.Str.{bytes_eq}
use Rattle.std.proofs.lemmas.Bool.{cases_Bool, and_parts}
use Rattle.clap.specs.Walk.{Held, Names, Row, Rule, Step, Text, Walk, value, arg_by_id, arg_by_index, arg_by_short}
use Rattle.clap.specs.Walk.{nothing_held, arg_by_long, word_met, subcommand_met, walk, walk_from, walked, settled}
use Rattle.clap.specs.Walk.{finished, answers_to, most_values, action_of, values_or_missing}
use Rattle.clap.specs.Facts.{unwrap_or_range, explicit_source}
use Rattle.clap.specs.Lexer.{long_of, short_of}
use Rattle.clap.specs.declared.builder.action.ArgAction.{ArgAction}
use Rattle.clap.specs.declared.builder.action.ArgAction.TheVariants.{Set, Append, SetTrue, SetFalse, Count, Help}
use Rattle.clap.specs.declared.builder.action.ArgAction.TheVariants.{HelpShort, HelpLong, Version}
use Rattle.tool_words.specs.Asking.{is_text}
use Rattle.tool_words.specs.Tool.{tool}
use Rattle.clap.specs.Simple.{App, Shape, built, names_of, argument_words, entered, label_of}
use Rattle.clap.specs.Takes.{is_given}
use Rattle.clap.specs.Kinds.{Kinds, or_else, values_kinds, range_kinds, request_kinds, check_kinds}
use Rattle.clap.specs.Faults.{set_fault, action_fault, count_fault, use_fault, settle_fault, react_fault, option_fault}
use Rattle.clap.specs.Faults.{long_fault, short_fault, bundle_step_fault, flags_fault, bundle_fault, flag_word_fault}
use Rattle.clap.specs.Faults.{other_fault, word_fault, step_fault, turn_fault, walk_fault, default_fault}
use Rattle.clap.specs.Faults.{defaults_fault, check_fault, level_fault, entered_fault, fault_of}
use Rattle.clap.specs.declared.error.kind.ErrorKind.{ErrorKind}
use Rattle.clap.specs.declared.error.kind.ErrorKind.TheVariants as kind

unfoldable pub is_alike : Kinds → Bool
is_alike ks = list_all is_text ks || list_all (λ k. not (is_text k)) ks

or_alike : (a b : Kinds) → is_alike a ≡ true → is_alike b ≡ true → is_alike (or_else a b) ≡ true
or_alike [] b x y = y
or_alike (k ∷ ks) b x y = x

if_alike : (b : Bool) (x y : Kinds) → is_alike x ≡ true → is_alike y ≡ true → is_alike (if b then x else y) ≡ true
if_alike true x y p q = p
if_alike false x y p q = q

none : is_alike [] ≡ true
unfolding is_alike
none = refl

both : is_alike (kind.UnknownArgument ∷ kind.InvalidSubcommand ∷ []) ≡ true
unfolding is_alike
both = refl

single : (k : ErrorKind) → is_alike (k ∷ []) ≡ true
unfolding is_alike
single k = elim (cases_Bool (is_text k)) [
  | inl a ↦ rw a refl
  | inr b ↦ rw b refl
]

opt_alike : {A : Type 0} (f : A → Kinds) (o : Option A) (d : Kinds) → ((x : A) → is_alike (f x) ≡ true) → is_alike d ≡ true → is_alike (option_map_or f o d) ≡ true
opt_alike f None d h e = e
opt_alike f (Some x) d h e = h x

values_alike : (i : Bool) (p : _) (vs : List Text) → is_alike (values_kinds i p vs) ≡ true
values_alike i p [] = none
values_alike i p (v ∷ vs) = or_alike _ _ (if_alike _ _ _ none (single _)) (values_alike i p vs)

range_alike : (l m n : ℕ) → is_alike (range_kinds l m n) ≡ true
range_alike l m n = if_alike (nat_lt 0 l && n == 0) _ _ (single kind.InvalidValue) (if_alike (l == m) _ _ (if_alike (l == n) _ _ none (single kind.WrongNumberOfValues)) (if_alike (nat_lt n l) _ _ (single kind.TooFewValues) (if_alike (nat_lt m n) _ _ (single kind.TooManyValues) none)))

request_alike : (x : ArgAction) → is_alike (request_kinds x) ≡ true
request_alike Set = none
request_alike Append = none
request_alike SetTrue = none
request_alike SetFalse = none
request_alike Count = none
request_alike Help = single _
request_alike HelpShort = single _
request_alike HelpLong = single _
request_alike Version = single _

set_alike : (again : Bool) (a : Rule) (vs : List Text) (rows : List Row) → is_alike (set_fault again a vs rows) ≡ true
set_alike again a vs rows = or_alike _ _ (if_alike _ _ _ (single _) none) (values_alike _ _ vs)

count_alike : (a : Rule) (vs : List Text) (rows : List Row) → is_alike (count_fault a vs rows) ≡ true
count_alike a [] rows = if_alike _ _ _ none (single _)
count_alike a (v ∷ vs) rows = values_alike _ _ (v ∷ vs)

action_alike : (x : ArgAction) (again : Bool) (a : Rule) (vs : List Text) (rows : List Row) → is_alike (action_fault x again a vs rows) ≡ true
action_alike Set again a vs rows = set_alike again a vs rows
action_alike SetTrue again a vs rows = set_alike again a vs rows
action_alike SetFalse again a vs rows = set_alike again a vs rows
action_alike Append again a vs rows = values_alike _ _ vs
action_alike Count again a vs rows = count_alike a vs rows
action_alike Help again a vs rows = single _
action_alike HelpShort again a vs rows = single _
action_alike HelpLong again a vs rows = single _
action_alike Version again a vs rows = single _

use_alike : (again : Bool) (a : Rule) (vs : List Text) (rows : List Row) → is_alike (use_fault again a vs rows) ≡ true
use_alike again a vs rows = or_alike (range_kinds (unwrap_or_range a.range).start_inclusive (most_values a) (length vs)) (action_fault (action_of a) again a (values_or_missing a vs) rows) (range_alike (unwrap_or_range a.range).start_inclusive (most_values a) (length vs)) (action_alike (action_of a) again a (values_or_missing a vs) rows)

settle_alike : (c : List Rule) (again : Bool) (h : Held) → is_alike (settle_fault c again h) ≡ true
settle_alike c again h = opt_alike _ h.pending [] (λ p. opt_alike _ (arg_by_id c p.0) [] (λ a. use_alike again a p.1 h.rows) none) none

react_alike : (c : List Rule) (again : Bool) (a : Rule) (vs : List Text) (h : Held) → is_alike (react_fault c again a vs h) ≡ true
react_alike c again a vs h = or_alike _ _ (settle_alike c again h) (use_alike again a vs _)

option_alike : (c : List Rule) (again : Bool) (a : Rule) (v : Option Text) (h : Held) → is_alike (option_fault c again a v h) ≡ true
option_alike c again a (Some v) h = react_alike c again a (v ∷ []) h
option_alike c again a None h = settle_alike c again h

long_alike : (c : List Rule) (again : Bool) (o : Option Rule) (v : Option Text) (h : Held) → is_alike (long_fault c again o v h) ≡ true
long_alike c again None v h = single _
long_alike c again (Some a) v h = if_alike _ _ _ (option_alike c again a v h) (if_alike _ _ _ (single _) (react_alike c again a [] h))

short_alike : (c : List Rule) (again : Bool) (o : Option Rule) (rest : Text) (h : Held) (next : Held → Kinds) → ((k : Held) → is_alike (next k) ≡ true) → is_alike (short_fault c again o rest h next) ≡ true
short_alike c again None rest h next n = single _
short_alike c again (Some a) rest h next n = if_alike _ _ _ (option_alike c again a _ h) (or_alike _ _ (react_alike c again a [] h) (n _))

step_of_bundle : (c : List Rule) (again : Bool) (o : Option ℕ) (flags : Text) (skip : ℕ) (h : Held) (next : Text → ℕ → Held → Kinds) → ((t : Text) (n : ℕ) (k : Held) → is_alike (next t n k) ≡ true) → is_alike (bundle_step_fault c again o flags skip h next) ≡ true
step_of_bundle c again None flags skip h next n = none
step_of_bundle c again (Some x) flags zero h next n =
    let rest = drop (length (encode_utf8 x)) flags in
    short_alike c again (arg_by_short c x) rest h (next rest 0) (λ k. n rest 0 k)
step_of_bundle c again (Some x) flags (suc skip) h next n = n (drop (length (encode_utf8 x)) flags) skip h

flags_alike : (c : List Rule) (again : Bool) (k : ℕ) (flags : Text) (skip : ℕ) (h : Held) → is_alike (flags_fault c again k flags skip h) ≡ true
unfolding flags_fault
flags_alike c again zero flags skip h = none
flags_alike c again (suc k) flags skip h = step_of_bundle c again _ flags skip h _ (flags_alike c again k)

word_alike_flag : (c : List Rule) (again : Bool) (o : Option (Text × Option Text)) (word : Text) (h : Held) → is_alike (flag_word_fault c again o word h) ≡ true
word_alike_flag c again (Some p) word h = long_alike c again (arg_by_long c p.0) p.1 h
word_alike_flag c again None word h = opt_alike (λ flags. bundle_fault c again flags h) (short_of word) [] (λ flags. flags_alike c again (length flags) flags h.skip (record h { skip = 0 })) none

and_not : (b d : Bool) → d ≡ true → (b && not d) ≡ false
and_not true d e = rw e refl
and_not false d e = refl

other_alike : (s : Shape) (o : Option Text) (word : Text) (h : Held) → s.disable_help_subcommand ≡ true → is_alike (other_fault s o word h) ≡ true
other_alike s (Some name) word h d = rw (and_not (bytes_eq name (codes "help")) s.disable_help_subcommand d) none
other_alike s None word h d = if_alike _ _ _ none (word_alike_flag s.rules s.args_override_self (long_of word) word h)

step_alike : (s : Shape) (position : ℕ) (h : Held) (t : Step) → is_alike (step_fault s position h t) ≡ true
step_alike s position h value = opt_alike _ (arg_by_index s.rules position) _ (λ a. if_alike _ _ _ none (settle_alike s.rules s.args_override_self h)) (if_alike _ _ _ (single _) both)
step_alike s position h _ = none

turn_alike : (s : Shape) (names : Names) (w : Walk) (word : Text) → s.disable_help_subcommand ≡ true → is_alike (turn_fault s names w word) ≡ true
turn_alike s names w word d =
    let met = word_met s.rules names w.is_trailing w.waiting w.position word w.held in
    if_alike (is_some w.stopped) [] (or_else (word_fault s names w.is_trailing w.waiting word w.held) (step_fault s w.position met.0 met.1)) none
    (or_alike (word_fault s names w.is_trailing w.waiting word w.held) (step_fault s w.position met.0 met.1)
    (if_alike w.is_trailing [] (other_fault s (subcommand_met names w.waiting word) word w.held) none (other_alike s (subcommand_met names w.waiting word) word w.held d))
    (step_alike s w.position met.0 met.1))

walk_alike : (s : Shape) (names : Names) (words : List Text) (w : Walk) → s.disable_help_subcommand ≡ true → is_alike (walk_fault s names w words) ≡ true
unfolding walk_fault
walk_alike s names [] w d = none
walk_alike s names (word ∷ rest) w d =
    or_alike (turn_fault s names w word) (walk_fault s names (walked s.rules names w word) rest) (turn_alike s names w word d) (walk_alike s names rest (walked s.rules names w word) d)

default_alike : (rows : List Row) (a : Rule) → is_alike (default_fault rows a) ≡ true
default_alike rows a = if_alike _ _ _ none (or_alike _ _ (request_alike _) (values_alike _ _ a.defaults))

defaults_alike : (rules : List Rule) (rows : List Row) → is_alike (defaults_fault rows rules) ≡ true
unfolding defaults_fault
defaults_alike [] rows = none
defaults_alike (a ∷ rest) rows = or_alike _ _ (default_alike rows a) (defaults_alike rest _)

check_alike : (a b c : Bool) → is_alike (check_kinds a b c) ≡ true
check_alike a b c = if_alike a _ _ (single kind.DisplayHelpOnMissingArgumentOrSubcommand) (if_alike b _ _ (single kind.MissingSubcommand) (if_alike c _ _ (single kind.MissingRequiredArgument) none))

checked_alike : (s : Shape) (rows : List Row) (has : Bool) → is_alike (check_fault s rows has) ≡ true
checked_alike s rows has = check_alike
    (not has && (s.arg_required_else_help && not (list_any (λ (r : Row). explicit_source r.source) rows)))
    (not has && s.subcommand_required)
    (not (s.subcommand_negates_reqs && has) && list_any (λ (a : Rule). a.required && not (is_given a.id rows)) s.rules)

level_alike : (s : Shape) (names : Names) (h : Held) (words : List Text) (has : Bool) (below : Kinds) → s.disable_help_subcommand ≡ true → is_alike below ≡ true → is_alike (level_fault s names h words has below) ≡ true
level_alike s names h words has below d b =
    let end = (walk s.rules names h words).held in
    or_alike (walk_fault s names (walk_from h) words) (or_else below (or_else (settle_fault s.rules s.args_override_self end) (or_else (defaults_fault (settled s.rules end).rows s.rules) (check_fault s (finished s.rules end) has))))
    (walk_alike s names words (walk_from h) d)
    (or_alike below (or_else (settle_fault s.rules s.args_override_self end) (or_else (defaults_fault (settled s.rules end).rows s.rules) (check_fault s (finished s.rules end) has))) b
    (or_alike (settle_fault s.rules s.args_override_self end) (or_else (defaults_fault (settled s.rules end).rows s.rules) (check_fault s (finished s.rules end) has))
    (settle_alike s.rules s.args_override_self end)
    (or_alike (defaults_fault (settled s.rules end).rows s.rules) (check_fault s (finished s.rules end) has)
    (defaults_alike s.rules (settled s.rules end).rows) (checked_alike s (finished s.rules end) has))))

find_alike : (p : Shape → Bool) (subs : List Shape) (f : Shape → Kinds) → list_all (λ x. x.disable_help_subcommand) subs ≡ true → ((s : Shape) → s.disable_help_subcommand ≡ true → is_alike (f s) ≡ true) → is_alike (option_map_or f (find p subs) []) ≡ true
find_alike p [] f all h = none
find_alike p (x ∷ subs) f all h =
    let (here, more) = and_parts x.disable_help_subcommand (list_all (λ (y : Shape). y.disable_help_subcommand) subs) all in
    elim (cases_Bool (p x)) [
      | inl a ↦ rw a (h x here)
      | inr b ↦ rw b (find_alike p subs f more h)
    ]

entered_alike : (a : App) (stop : Option (Text × List Text)) → list_all (λ x. x.disable_help_subcommand) a.subs ≡ true → is_alike (entered_fault a stop) ≡ true
entered_alike a stop all = opt_alike (λ p. option_map_or (λ s. level_fault s [] nothing_held p.1 false []) (find (λ s. answers_to p.0 (label_of s)) a.subs) []) stop [] (λ p. find_alike (λ s. answers_to p.0 (label_of s)) a.subs (λ s. level_fault s [] nothing_held p.1 false []) all (λ s d. level_alike s [] nothing_held p.1 false [] d none)) none

-- the kinds of the tool are alike at any words
pub tool_alike : (words : List Text) → is_alike (fault_of tool words) ≡ true
tool_alike words =
    let app = built tool in
    let given = argument_words tool words in
    let stop = (walk app.top.rules (names_of app) nothing_held given).stopped in
    level_alike app.top (names_of app) nothing_held given (is_some (entered app stop)) (entered_fault app stop) refl (entered_alike app stop refl)
