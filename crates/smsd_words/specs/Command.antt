-- The command line of the lasting desk: the command that its words are read by (docs/manual/smsd.md, "Words").
use Rattle.std.specs.Prelude.{◌≡◌, Some, true, false, codes}
use Rattle.clap.specs.Simple.{App, new_app, new_rule, new_shape, with_rule, with_subcommand}
use Rattle.clap.specs.Walk.{Rule, Text}
use Rattle.clap.specs.declared.builder.action.ArgAction.TheVariants.{SetTrue}
use Rattle.clap.specs.declared.builder.command.Command.{Command}
use Rattle.clap.specs.declared.builder.command.Command.TheViews.{out-Command}

-- a word that may be missing
abbrev pub word_rule : Text → Rule
word_rule name = new_rule name

-- a word that is wanted
abbrev pub wanted_rule : Text → Rule
wanted_rule name = record (new_rule name) { required = true }

-- two hyphens with this name, and a value
abbrev pub option_rule : Text → Rule
option_rule name = record (new_rule name) { long = Some name }

-- two hyphens with this name, and no value
abbrev pub flag_rule : Text → Rule
flag_rule name = record (new_rule name) { long = Some name; action = Some SetTrue }

-- no argument of the command is one of its subcommands too
abbrev pub KeepsItsOwn : Command → Type 0
KeepsItsOwn command = (out-Command command).has_globals ≡ false

-- the subcommands with their words

abbrev pub run_app : App
run_app =
    with_rule (with_rule (with_rule (with_rule (with_rule
    (new_app (codes "run"))
    (word_rule (codes "script")))
    (flag_rule (codes "volumes")))
    (flag_rule (codes "strict")))
    (option_rule (codes "manage")))
    (option_rule (codes "store"))

abbrev pub list_app : App
list_app =
    with_rule (with_rule (with_rule (with_rule (with_rule (with_rule
    (new_app (codes "list"))
    (wanted_rule (codes "what")))
    (option_rule (codes "mask")))
    (option_rule (codes "group")))
    (option_rule (codes "volume")))
    (option_rule (codes "format")))
    (option_rule (codes "store"))

abbrev pub serve_app : App
serve_app =
    with_rule (with_rule (with_rule (with_rule (with_rule
    (new_app (codes "serve"))
    (option_rule (codes "port")))
    (option_rule (codes "connections")))
    (option_rule (codes "idle")))
    (flag_rule (codes "log")))
    (option_rule (codes "store"))

abbrev pub check_app : App
check_app = with_rule (with_rule (new_app (codes "check")) (wanted_rule (codes "deck"))) (option_rule (codes "store"))

abbrev pub manage_app : App
manage_app =
    with_rule (with_rule (with_rule
    (new_app (codes "manage"))
    (wanted_rule (codes "day")))
    (flag_rule (codes "dry-run")))
    (option_rule (codes "store"))

-- the command without its subcommands: one is wanted, there is no `help` among them, and there is a version
abbrev pub bare_app : App
bare_app = record (new_app (codes "smsd")) {
  top = record (new_shape (codes "smsd")) {
    no_binary_name = true;
    disable_help_subcommand = true;
    subcommand_required = true;
    has_version = true;
  };
}

-- the command
abbrev pub smsd : App
smsd =
    with_subcommand (with_subcommand (with_subcommand (with_subcommand (with_subcommand
    bare_app
    run_app.top)
    list_app.top)
    serve_app.top)
    check_app.top)
    manage_app.top
