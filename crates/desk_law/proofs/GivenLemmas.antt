-- What a reply says of the state after it: it determines that state.
use Rattle.std.proofs.Common.{◌≡◌, ℕ, ◌+◌, false, List, [], refl, sym, ap, ◌∙◌, subst, inl, inr}
use Rattle.std.specs.Prelude.{◌⊎◌, Option, Some}
use Rattle.sms_construct.specs.Configuration.{Configuration}
use Rattle.sms_construct.specs.declared.data_set.DataSet.{DataSet}
use Rattle.sms_construct.specs.declared.reply.Reply.{Reply}
use Rattle.sms_construct.specs.declared.reply.Reply.TheVariants as replies
use Rattle.sms_construct.specs.declared.request.Op.{Op}
use Rattle.sms_construct.specs.declared.request.Op.TheVariants as ops
use Rattle.deck_meaning.specs.Reading.{Configures}
use Rattle.desk_law.specs.State.{DeskState, set_named, with_set, with_status, without_name}
use Rattle.desk_law.specs.Extents.{with_extents}
use Rattle.desk_law.specs.Extension.{extended}
use Rattle.desk_law.specs.Releasing.{kept_of}
use Rattle.desk_law.specs.Activation.{activated}
use Rattle.desk_law.specs.Changes.{may_change}
use Rattle.desk_law.specs.Records.{decks_told}
use Rattle.desk_law.specs.Replies.{Makes}
use Rattle.desk_law.specs.Rule.{Rule}
use Rattle.desk_law.proofs.CaseLemmas.{on-rule}
use Rattle.desk_law.proofs.DeckLemmas.{one-configuration}

-- the data set that the op names
abbrev pub name_of : Op → List ℕ
name_of (ops.Alloc alloc) = alloc.input.dsn
name_of (ops.Activate deck) = []
name_of (ops.Extend dsn) = dsn
name_of (ops.Delete dsn) = dsn
name_of (ops.Used dsn tracks) = dsn
name_of (ops.Release dsn) = dsn
name_of (ops.Display target) = []
name_of (ops.Vary target action) = []
name_of (ops.Purge job floor) = []

-- the tracks that it says are used
abbrev pub tracks_said : Op → ℕ
tracks_said (ops.Used dsn tracks) = tracks
tracks_said op = 0

-- the catalogued data set that the op names becomes another
pub record Becomes (s : DeskState) (op : Op) (changed : DataSet → DataSet) (after : DeskState) : Type 0 where
  pub set : DataSet
  pub found : set_named (name_of op) s.sets ≡ Some set
  pub after_is : after ≡ with_set s (changed set)

-- what the deck of the op configures becomes active
pub record BecomesActive (s : DeskState) (op : Op) (count : ℕ) (after : DeskState) : Type 0 where
  pub deck : List ℕ
  pub op_is : op ≡ ops.Activate deck
  pub config : Configuration
  pub configures : Configures deck config
  pub counted : count ≡ s.activations + 1
  pub after_is : after ≡ activated s config

-- what the reply says of the state after it
abbrev pub Gives : DeskState → Op → Reply → DeskState → Type 0
Gives s op (replies.Granted set trace) after = after ≡ with_set s set
Gives s op (replies.Extended added) after = Becomes s op (λ set. extended set added) after
Gives s op (replies.Deleted tracks) after = after ≡ without_name s (name_of op)
Gives s op (replies.Activated count) after = BecomesActive s op count after
Gives s op (replies.Varied target status) after = after ≡ with_status s target status
Gives s op replies.Noted after = Becomes s op (λ set. with_extents set (tracks_said op) set.extents) after
Gives s op (replies.Released tracks) after = Becomes s op kept_of after
Gives s op reply after = after ≡ s

quiet-gives : (s : DeskState) (op : Op) (reply : Reply) (after : DeskState) → may_change reply ≡ false → after ≡ s → Gives s op reply after
quiet-gives s op (replies.Granted set trace) after quiet is = absurd cc
quiet-gives s op (replies.Extended added) after quiet is = absurd cc
quiet-gives s op (replies.Deleted tracks) after quiet is = absurd cc
quiet-gives s op (replies.Activated count) after quiet is = absurd cc
quiet-gives s op (replies.Varied target status) after quiet is = absurd cc
quiet-gives s op replies.Noted after quiet is = absurd cc
quiet-gives s op (replies.Released tracks) after quiet is = absurd cc
quiet-gives s op reply after quiet is = is

made-gives : (s next : DeskState) (op : Op) (answer reply : Reply) (after : DeskState) → Gives s op answer next → Makes next answer reply after → Gives s op reply after
made-gives s next op answer reply after gives makes =
    subst (λ (r : Reply). Gives s op r after) (sym makes.reply_is) (subst (λ (t : DeskState). Gives s op answer t) (sym makes.after_is) gives)

-- the catalogued data set of this name, where the op names it
named : (s : DeskState) (op : Op) (dsn : List ℕ) (set : DataSet) → name_of op ≡ dsn → set_named dsn s.sets ≡ Some set → set_named (name_of op) s.sets ≡ Some set
named s op dsn set is found = subst (λ n. set_named n s.sets ≡ Some set) (sym is) found

pub rule-gives : (old_floor : List ℕ → ℕ) (s : DeskState) (job : List ℕ) (op : Op) (reply : Reply) (after : DeskState) → Rule old_floor s job op reply after → Gives s op reply after
rule-gives old_floor s job op reply after rule = on-rule old_floor s job op reply after (Gives s op reply after) rule (record {
  leaves = λ answer quiet leaves. subst (λ (r : Reply). Gives s op r after) (sym leaves.reply_is) (quiet-gives s op answer after quiet.0 leaves.after_is);
  grants = λ alloc wish is case one. made-gives s _ op _ reply after refl one.does.makes;
  grows = λ dsn set added is may granted extends. made-gives s _ op _ reply after (record { set = set; found = named s op dsn set (ap name_of is) may.found; after_is = refl }) extends;
  spreads = λ dsn set is may fewer one. made-gives s _ op _ reply after (record { set = set; found = named s op dsn set (ap name_of is) may.found; after_is = refl }) one.does.extends;
  deletes = λ dsn set is found makes. made-gives s _ op _ reply after (ap (without_name s) (sym (ap name_of is))) makes;
  notes = λ dsn tracks set is found makes.
      made-gives s _ op _ reply after (record { set = set; found = named s op dsn set (ap name_of is) found; after_is = ap (λ n. with_set s (with_extents set n set.extents)) (sym (ap tracks_said is)) }) makes;
  releases = λ dsn set tracks is found makes. made-gives s _ op _ reply after (record { set = set; found = named s op dsn set (ap name_of is) found; after_is = refl }) makes;
  varies = λ target action makes. made-gives s _ op _ reply after refl makes;
  activates = λ deck config is configures free makes.
      made-gives s _ op _ reply after (record { deck = deck; op_is = is; config = config; configures = configures; counted = refl; after_is = refl }) makes;
})

-- One state.

becomes-one : (s : DeskState) (op : Op) (changed : DataSet → DataSet) (after other : DeskState) → Becomes s op changed after → Becomes s op changed other → after ≡ other
becomes-one s op changed after other one two =
    let both : Some one.set ≡ Some two.set = sym one.found ∙ two.found in
    let same : one.set ≡ two.set = cc in
    one.after_is ∙ (ap (λ (d : DataSet). with_set s (changed d)) same ∙ sym two.after_is)

active-one : (s : DeskState) (op : Op) (count : ℕ) (after other : DeskState) → BecomesActive s op count after → BecomesActive s op count other → after ≡ other
active-one s op count after other one two =
    let both : ops.Activate one.deck ≡ ops.Activate two.deck = sym one.op_is ∙ two.op_is in
    let same : one.deck ≡ two.deck = cc in
    let config = one-configuration two.deck one.config two.config (subst (λ d. Configures d one.config) same one.configures) two.configures in
    one.after_is ∙ (ap (activated s) config ∙ sym two.after_is)

-- the reply determines the state
pub gives-one : (s : DeskState) (op : Op) (reply : Reply) (after other : DeskState) → Gives s op reply after → Gives s op reply other → after ≡ other
gives-one s op (replies.Extended added) after other one two = becomes-one s op _ after other one two
gives-one s op (replies.Activated count) after other one two = active-one s op count after other one two
gives-one s op replies.Noted after other one two = becomes-one s op _ after other one two
gives-one s op (replies.Released tracks) after other one two = becomes-one s op _ after other one two
gives-one s op reply after other one two = one ∙ sym two

-- a reply that changes nothing leaves the state
pub gives-still : (s : DeskState) (op : Op) (reply : Reply) (after : DeskState) → may_change reply ≡ false → Gives s op reply after → after ≡ s
gives-still s op reply after quiet gives = gives-one s op reply after s gives (quiet-gives s op reply s quiet refl)

-- Activations.

-- the same configuration is active, after as many activations, and the reply tells no deck
pub record KeepsActive (s : DeskState) (reply : Reply) (after : DeskState) : Type 0 where
  pub active : after.active ≡ s.active
  pub counted : after.activations ≡ s.activations
  pub no_deck : (deck : Option (List ℕ)) → decks_told reply deck ≡ []

-- the reply tells of an activation
pub record TellsActive (s : DeskState) (op : Op) (reply : Reply) (after : DeskState) : Type 0 where
  pub count : ℕ
  pub reply_is : reply ≡ replies.Activated count
  pub becomes : BecomesActive s op count after

becomes-keeps : (s : DeskState) (op : Op) (changed : DataSet → DataSet) (reply : Reply) (after : DeskState) → ((deck : Option (List ℕ)) → decks_told reply deck ≡ []) → Becomes s op changed after
    → KeepsActive s reply after ⊎ TellsActive s op reply after
becomes-keeps s op changed reply after told becomes =
    inl (record { active = ap (λ (t : DeskState). t.active) becomes.after_is; counted = ap (λ (t : DeskState). t.activations) becomes.after_is; no_deck = told })

-- an activation, or none
pub gives-active : (s : DeskState) (op : Op) (reply : Reply) (after : DeskState) → Gives s op reply after → KeepsActive s reply after ⊎ TellsActive s op reply after
gives-active s op (replies.Extended added) after gives = becomes-keeps s op _ (replies.Extended added) after (λ deck. refl) gives
gives-active s op (replies.Activated count) after gives = inr (record { count = count; reply_is = refl; becomes = gives })
gives-active s op replies.Noted after gives = becomes-keeps s op _ replies.Noted after (λ deck. refl) gives
gives-active s op (replies.Released tracks) after gives = becomes-keeps s op _ (replies.Released tracks) after (λ deck. refl) gives
gives-active s op reply after gives = inl (record { active = ap (λ (t : DeskState). t.active) gives; counted = ap (λ (t : DeskState). t.activations) gives; no_deck = λ deck. refl })
