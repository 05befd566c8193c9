-- The tool's command on its words.
use Rattle.std.proofs.Common.{◌≡◌, refl, ap, sym, subst, ◌∙◌, List, [], true, inl, inr, Result, Ok, Err, IfOk, IfErr, ◌⊎◌, Option, Some, None, option_map, Box}
use Rattle.std.specs.Box.{box_value}
use Rattle.std.proofs.lemmas.Option.{same_Some}
use Rattle.clap.specs.Matches.{subcommand_name_of}
use Rattle.clap.specs.Simple.{subcommand_rows}
use Rattle.clap.specs.Walk.{Row, Text}
use Rattle.clap.specs.Words.{App, Kinds, is_simple, is_simple_and_free, FailsBy, IsAmong, fault_of, HasMatchesOf}
use Rattle.clap.specs.Words.{subcommand_of, subcommand_rows_of, kind_of}
use Rattle.clap.specs.declared.error.Error.{Error}
use Rattle.clap.specs.declared.error.kind.ErrorKind.TheVariants.{OutOfMemory}
use Rattle.clap.specs.declared.parser.matches.ArgMatches.{ArgMatches}
use Rattle.clap.specs.declared.parser.matches.ArgMatches.TheViews.{out-ArgMatches, out-SubCommand}
use Rattle.clap.specs.declared.parser.matches.SubCommand.{SubCommand}
use Rattle.clap.proofs.OnLiterals.{clap_on_literals}
use Rattle.tool_words.specs.Tool.{tool}

is_simple-tool : is_simple tool ≡ true
unfolding clap_on_literals
is_simple-tool = refl

is_free-tool : is_simple_and_free tool ≡ true
unfolding clap_on_literals
is_free-tool = refl

pub free_case : (r : Result ArgMatches Error) (a : App) (words : List Text) → a ≡ tool → (is_simple_and_free a ≡ true → FailsBy (fault_of a words) r) → IfOk r (λ m. fault_of tool words ≡ [])
free_case (Ok m) a words is fails = ap (λ (x : App). fault_of x words) (sym is) ∙ fails (ap is_simple_and_free is ∙ is_free-tool)
free_case (Err e) a words is fails = tt

pub found_case : (r : Result ArgMatches Error) (a : App) (words : List Text) → a ≡ tool → IfOk r (HasMatchesOf a words) → IfOk r (λ m. subcommand_rows_of m ≡ subcommand_of tool words)
found_case (Ok m) a words is h = (h (ap is_simple is ∙ is_simple-tool)).1 ∙ ap (λ (x : App). subcommand_of x words) is
found_case (Err e) a words is h = tt

pub err_case : (r : Result ArgMatches Error) (a : App) (words : List Text) → a ≡ tool → (is_simple_and_free a ≡ true → FailsBy (fault_of a words) r)
    → IfErr r (λ e. (kind_of e ≡ OutOfMemory) ⊎ IsAmong (kind_of e) (fault_of tool words))
err_case (Ok m) a words is fails = tt
err_case (Err e) a words is fails = elim (fails (ap is_simple_and_free is ∙ is_free-tool)) [
  | inl memory ↦ inl memory
  | inr other ↦ inr (subst (λ (kinds : Kinds). IsAmong (kind_of e) kinds) (ap (λ (x : App). fault_of x words) is) other)
]

pair_from : {A B : Type 0} (o : Option (A × B)) (a : A) (b : B) → Some a ≡ option_map (λ p. p.0) o → Some b ≡ option_map (λ p. p.1) o → o ≡ Some (a, b)
pair_from None a b x y = absurd (cc x)
pair_from (Some p) a b x y = rw (same_Some _ _ x, same_Some _ _ y)

module _ {Z : Type 0} where
  name_go : (o : Option (Box SubCommand Z)) → option_map (λ b. (out-SubCommand (box_value b)).name.now) o ≡ option_map (λ p. p.0) (subcommand_rows o)
  name_go None = refl
  name_go (Some b) = refl

pub found_rows : (m : ArgMatches) (name : Text) (rows : List Row) → Some name ≡ subcommand_name_of m → Some rows ≡ option_map (λ p. p.1) (subcommand_rows_of m) → subcommand_rows_of m ≡ Some (name, rows)
found_rows m name rows x y = pair_from (subcommand_rows_of m) name rows (x ∙ name_go (out-ArgMatches m).subcommand) y

none_from : {A B : Type 0} (f : A → B) (o : Option A) → None ≡ option_map f o → o ≡ None
none_from f None e = refl
none_from f (Some x) e = absurd (cc e)

pub none_found : (m : ArgMatches) → None ≡ subcommand_name_of m → subcommand_rows_of m ≡ None
none_found m e = none_from (λ (p : Text × List Row). p.0) (subcommand_rows_of m) (e ∙ name_go (out-ArgMatches m).subcommand)
