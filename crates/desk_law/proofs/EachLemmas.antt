-- What holds of each data set of a lawful opening, and stays so, holds of each behind every legal history.
use Rattle.std.proofs.Common.{◌≡◌, ◌<◌, ℕ, List, [], ◌∷◌, ◌++◌, refl, sym, subst, arith, inl, inr}
use Rattle.std.specs.Prelude.{◌⊎◌, Option, None, Some, length}
use Rattle.std.specs.List.{AllByRecursion}
use Rattle.std.proofs.lemmas.Bool.Decides.{nat_tests}
use Rattle.sms_construct.specs.declared.alloc.Alloc.{Alloc}
use Rattle.sms_construct.specs.declared.data_set.DataSet.{DataSet}
use Rattle.sms_construct.specs.declared.entry.Entry.{Entry}
use Rattle.sms_construct.specs.declared.extent.Extent.{Extent}
use Rattle.sms_construct.specs.declared.reply.Reply.{Reply}
use Rattle.sms_construct.specs.declared.request.Op.{Op}
use Rattle.sms_construct.specs.declared.volume.VolumeDef.{VolumeDef}
use Rattle.sms_keeper.specs.Tables.{without_set}
use Rattle.track_ledger.specs.declared.piece.Piece.{Piece}
use Rattle.desk_law.specs.State.{DeskState, Opening, with_set}
use Rattle.desk_law.specs.Extents.{extents_at, volumes_of, with_extents}
use Rattle.desk_law.specs.Replies.{Makes}
use Rattle.desk_law.specs.Allocation.{Wish, ask_of, new_set}
use Rattle.desk_law.specs.Candidates.{grant_on}
use Rattle.desk_law.specs.Extension.{extended, growth_on, last_volume, Extends}
use Rattle.desk_law.specs.Releasing.{kept_of}
use Rattle.desk_law.specs.Kept.{floor_of}
use Rattle.desk_law.specs.Rule.{IsSound, Rule}
use Rattle.desk_law.specs.Step.{IsFault, IsStep}
use Rattle.desk_law.specs.History.{Leads}
use Rattle.desk_law.specs.Lawful.{IsLawful}
use Rattle.desk_law.proofs.AllocationLemmas.{IsWish, wish-is}
use Rattle.desk_law.proofs.CaseLemmas.{on-rule}
use Rattle.desk_law.proofs.ExtensionLemmas.{growth-at}
use Rattle.desk_law.proofs.HistoryLemmas.{step-keeps}
use Rattle.desk_law.proofs.RuleLemmas.{sound-alloc}
use Rattle.desk_law.proofs.SetLemmas.{each-named, each-push, each-without}
use Rattle.desk_law.proofs.StepLemmas.{on-step}

-- it holds of each new data set, and of what becomes of one
pub record StaysWith (P : DataSet → Type 0) : Type 0 where
  pub new : (s : DeskState) (alloc : Alloc) (wish : Wish) (volume : VolumeDef) (pieces : List Piece) → IsLawful s → IsWish s wish → grant_on s volume (ask_of wish) 0 ≡ Some pieces → P (new_set alloc wish volume pieces)
  pub used : (set : DataSet) (tracks : ℕ) → P set → P (with_extents set tracks set.extents)
  pub kept : (set : DataSet) → P set → P (kept_of set)
  -- tracks of the volume of its last extent
  pub last : (s : DeskState) (set : DataSet) (volume : VolumeDef) (pieces : List Piece) → last_volume s set.extents ≡ Some volume → P set → P (extended set (extents_at volume.volser pieces))
  -- tracks of a further volume
  pub further : (s : DeskState) (set : DataSet) (volume : VolumeDef) (pieces : List Piece) → length (volumes_of set.extents) < set.volumes → P set → P (extended set (extents_at volume.volser pieces))

-- it holds of each data set
abbrev Each : (DataSet → Type 0) → DeskState → Type 0
Each P s = AllByRecursion P s.sets

made-each : (P : DataSet → Type 0) (s : DeskState) (set : DataSet) (answer reply : Reply) (after : DeskState) → Each P s → P set → Makes (with_set s set) answer reply after → Each P after
made-each P s set answer reply after all here makes =
    subst (Each P) (sym makes.after_is) (each-push P (without_set set.dsn s.sets) set (each-without P set.dsn s.sets all) here)

grown-each : (P : DataSet → Type 0) (s : DeskState) (set : DataSet) (o : Option VolumeDef) (added : List Extent) (reply : Reply) (after : DeskState) → StaysWith P → Each P s → P set → last_volume s set.extents ≡ o
    → growth_on s set o ≡ Some added → Extends s set added reply after → Each P after
grown-each P s set None added reply after stays all here last is extends = absurd cc
grown-each P s set (Some volume) added reply after stays all here last is extends =
    growth-at s set volume added (Each P after) _ refl is (λ pieces granted there_is.
    made-each P s (extended set added) _ reply after all (subst (λ (es : List Extent). P (extended set es)) there_is (stays.last s set volume pieces last here)) extends)

rule-each : (P : DataSet → Type 0) → StaysWith P → (old_floor : List ℕ → ℕ) (s : DeskState) (job : List ℕ) (op : Op) (reply : Reply) (after : DeskState) → IsLawful s → IsSound op → Each P s
    → Rule old_floor s job op reply after → Each P after
rule-each P stays old_floor s job op reply after lawful sound all rule = on-rule old_floor s job op reply after (Each P after) rule (record {
  leaves = λ answer quiet leaves. subst (Each P) (sym leaves.after_is) all;
  grants = λ alloc wish is case one.
      made-each P s _ _ reply after all (stays.new s alloc wish one.volume one.does.pieces lawful (wish-is s job alloc wish lawful (sound-alloc op alloc is sound) case) one.does.granted) one.does.makes;
  grows = λ dsn set added is may granted extends. grown-each P s set (last_volume s set.extents) added reply after stays all (each-named P dsn s.sets set all may.found) refl granted extends;
  spreads = λ dsn set is may fewer one.
      made-each P s _ _ reply after all (stays.further s set one.volume one.does.pieces (grind (arith, nat_tests)) (each-named P dsn s.sets set all may.found)) one.does.extends;
  deletes = λ dsn set is found makes. subst (Each P) (sym makes.after_is) (each-without P dsn s.sets all);
  notes = λ dsn tracks set is found makes. made-each P s _ _ reply after all (stays.used set tracks (each-named P dsn s.sets set all found)) makes;
  releases = λ dsn set tracks is found makes. made-each P s _ _ reply after all (stays.kept set (each-named P dsn s.sets set all found)) makes;
  varies = λ target action makes. subst (Each P) (sym makes.after_is) all;
  activates = λ deck config is configures free makes. subst (Each P) (sym makes.after_is) all;
})

fresh-each : (P : DataSet → Type 0) → StaysWith P → (old_floor : List ℕ → ℕ) (s : DeskState) (e : Entry) (after : DeskState) → IsLawful s → IsSound e.request.op → Each P s
    → IsFault s e after ⊎ Rule old_floor s e.request.job e.request.op e.answer.reply after → Each P after
fresh-each P stays old_floor s e after lawful sound all (inl fault) = subst (Each P) (sym fault.after_is) all
fresh-each P stays old_floor s e after lawful sound all (inr rule) = rule-each P stays old_floor s e.request.job e.request.op e.answer.reply after lawful sound all rule

step-each : (P : DataSet → Type 0) → StaysWith P → (o : Opening) (before : List Entry) (s : DeskState) (e : Entry) (after : DeskState) → IsLawful s → Each P s → IsStep o before s e after → Each P after
step-each P stays o before s e after lawful all step =
    on-step o before s e after (Each P after) step
    (λ below. subst (Each P) (sym below.after_is) all)
    (λ fresh. fresh-each P stays (floor_of o before) s e after lawful step.sound all fresh.answer)
    (λ row found repeat. subst (Each P) (sym repeat.after_is) all)

pub leads-each : (P : DataSet → Type 0) → StaysWith P → (o : Opening) (before : List Entry) (s : DeskState) (es : List Entry) (after : DeskState) → IsLawful s → AllByRecursion P s.sets → Leads o before s es after
    → AllByRecursion P after.sets
leads-each P stays o before s [] after lawful all same = subst (Each P) (sym same) all
leads-each P stays o before s (e ∷ es) after lawful all leads =
    leads-each P stays o (before ++ e ∷ []) leads.0 es after (step-keeps o before s e leads.0 lawful leads.1) (step-each P stays o before s e leads.0 lawful all leads.1) leads.2
