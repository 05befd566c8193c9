-- What words ask for, and why they ask for nothing.
use Rattle.std.proofs.Common.{◌≡◌, ap, refl, subst, sym, List, [], Option, Some, inl, inr, ◌⊎◌, Result, Ok, Err, IfOk, IfErr}
use Rattle.std.specs.Prelude.{OnErr}
use Rattle.clap.specs.Walk.{Row, Text}
use Rattle.clap.specs.Words.{IsAmong, Kinds, fault_of, subcommand_of}
use Rattle.clap.specs.declared.error.kind.ErrorKind.{ErrorKind}
use Rattle.clap.specs.declared.error.kind.ErrorKind.TheVariants as kind
use Rattle.desk_common.specs.Exact.{MayRefuse}
use Rattle.smsd_words.specs.Asking.{AskFor, Finds, Hinders, err_of}
use Rattle.smsd_words.specs.Command.{smsd}
use Rattle.smsd_words.specs.declared.task.Asked.{Asked}
use Rattle.smsd_words.specs.declared.words_err.WordsErr.{WordsErr}
use Rattle.smsd_words.specs.declared.words_err.WordsErr.TheVariants as errs

-- words may be hindered for this cause, or memory is wanting
abbrev pub MayHinder : List Text → WordsErr → Type 0
MayHinder words = MayRefuse (Hinders words) (Some errs.NoMemory)

-- an error of this kind says why words ask for no task
by_kind : (words : List Text) (k : ErrorKind) → IsAmong k (fault_of smsd words) → MayHinder words (err_of k)
by_kind words kind.InvalidValue among = inl (inl (kind.InvalidValue, among, refl))
by_kind words kind.UnknownArgument among = inl (inl (kind.UnknownArgument, among, refl))
by_kind words kind.InvalidSubcommand among = inl (inl (kind.InvalidSubcommand, among, refl))
by_kind words kind.NoEquals among = inl (inl (kind.NoEquals, among, refl))
by_kind words kind.ValueValidation among = inl (inl (kind.ValueValidation, among, refl))
by_kind words kind.TooManyValues among = inl (inl (kind.TooManyValues, among, refl))
by_kind words kind.TooFewValues among = inl (inl (kind.TooFewValues, among, refl))
by_kind words kind.WrongNumberOfValues among = inl (inl (kind.WrongNumberOfValues, among, refl))
by_kind words kind.ArgumentConflict among = inl (inl (kind.ArgumentConflict, among, refl))
by_kind words kind.MissingRequiredArgument among = inl (inl (kind.MissingRequiredArgument, among, refl))
by_kind words kind.MissingSubcommand among = inl (inl (kind.MissingSubcommand, among, refl))
by_kind words kind.DisplayHelp among = inl (kind.DisplayHelp, among, refl)
by_kind words kind.DisplayHelpOnMissingArgumentOrSubcommand among = inl (inl (kind.DisplayHelpOnMissingArgumentOrSubcommand, among, refl))
by_kind words kind.DisplayVersion among = inl (kind.DisplayVersion, among, refl)
by_kind words kind.Io among = inl (inl (kind.Io, among, refl))
by_kind words kind.Format among = inl (inl (kind.Format, among, refl))
by_kind words kind.OutOfMemory among = inr refl

wanted : (words : List Text) (e : WordsErr) → e ≡ errs.NoMemory → MayHinder words e
wanted words e is = inr (ap Some (sym is))

pub hindered : (words : List Text) (k : ErrorKind) → ((k ≡ kind.OutOfMemory) ⊎ IsAmong k (fault_of smsd words)) → MayHinder words (err_of k)
hindered words k why = elim why [
  | inl memory ↦ wanted words (err_of k) (ap err_of memory)
  | inr among ↦ by_kind words k among
]

-- where words ask for a task, only want of memory comes in its place
pub answered : (words : List Text) (k : ErrorKind) (asked : Asked) → AskFor words asked → ((k ≡ kind.OutOfMemory) ⊎ IsAmong k (fault_of smsd words)) → err_of k ≡ errs.NoMemory
answered words k asked asks why = elim why [
  | inl memory ↦ ap err_of memory
  | inr among ↦ absurd (subst (λ (kinds : Kinds). IsAmong k kinds) asks.free among)
]

-- What a reading without faults comes to.

module _ (words : List Text) (found : Option (Text × List Row)) (free : fault_of smsd words ≡ []) (same : found ≡ subcommand_of smsd words) where
  finds-in : (asked : Asked) → Finds (subcommand_of smsd words) asked → Finds found asked
  finds-in asked finds = subst (λ (x : Option (Text × List Row)). Finds x asked) (sym same) finds

  pub asked_case : (r : Result Asked WordsErr) → IfOk r (Finds found) → IfOk r (AskFor words)
  asked_case (Ok asked) finds = record { free = free; found = subst (λ (x : Option (Text × List Row)). Finds x asked) same finds }
  asked_case (Err e) finds = tt

  pub hindered_case : (r : Result Asked WordsErr) → IfErr r (λ err. err ≡ errs.Bad) → OnErr r ((asked : Asked) → Finds found asked → ⊥) → IfErr r (MayHinder words)
  hindered_case (Ok asked) bad none = tt
  hindered_case (Err e) bad none = subst (MayHinder words) (sym bad) (inl (inr (record { free = free; none = λ asked finds. none asked (finds-in asked finds) })))

  pub answered_case : (r : Result Asked WordsErr) → OnErr r ((asked : Asked) → Finds found asked → ⊥) → (asked : Asked) → AskFor words asked → IfErr r (λ err. err ≡ errs.NoMemory)
  answered_case (Ok other) none asked asks = tt
  answered_case (Err e) none asked asks = absurd (none asked (finds-in asked asks.found))
