-- What runs begin with.
use Rattle.std.specs.Prelude.{ℕ, ◌*◌, List, [], Option, codes}
use Rattle.std.specs.Int.{div_ceil}
use Rattle.acs_tree.specs.declared.amounts.Amounts.{Amounts}
use Rattle.acs_tree.specs.declared.given_lists.GivenLists.{GivenLists}
use Rattle.acs_tree.specs.declared.given_texts.GivenTexts.{GivenTexts}
use Rattle.acs_tree.specs.declared.input.Input.{Input}
use Rattle.acs_tree.specs.declared.values.Values.{Values}
use Rattle.acs_tree.specs.Value.{or_null}

-- an input in its parts: a name, amounts, texts and lists
abbrev pub input_with : List ℕ → Amounts → GivenTexts → GivenLists → Input
input_with dsn amounts texts lists = record {
  dsn = dsn;
  origin = texts.origin;
  accounting = lists.accounting;
  attributes = texts.attributes;
  environment = texts.environment;
  defaults = texts.defaults;
  amounts = amounts;
  volumes = lists.volumes;
}

-- the texts where none is given
abbrev pub no_texts : GivenTexts
no_texts = record {
  origin = record { job = []; user = []; group = []; pgm = []; dd = []; applic = [] };
  attributes = record {
    unit = [];
    dsorg = [];
    recorg = [];
    dsntype = [];
    dstype = codes "PERM";
    dsowner = [];
    expdt = [];
  };
  environment = record { acsenvir = codes "ALLOC"; xmode = codes "BATCH"; sysname = []; sysplex = [] };
  defaults = record { dataclas = []; storclas = []; mgmtclas = [] };
}

-- the lists where none is given
abbrev pub no_lists : GivenLists
no_lists = record { accounting = record { acct_job = []; acct_step = [] }; volumes = [] }

-- a request that names a data set and gives nothing else
abbrev pub bare_input : List ℕ → Input
bare_input dsn = input_with dsn (record { retpd = 0; blksize = 0; size = 0; maxsize = 0 }) no_texts no_lists

-- so many tracks in KB, rounded up: a track holds 56,664 bytes
abbrev pub kilobytes_of : ℕ → ℕ
kilobytes_of tracks = div_ceil (tracks * 56664) 1024

-- a request that names a data set and a space of these sizes in KB and gives nothing else
abbrev pub sized_input : List ℕ → ℕ → ℕ → Input
sized_input dsn size maxsize =
    record (bare_input dsn) { amounts = record { retpd = 0; blksize = 0; size = size; maxsize = maxsize } }

-- the input of a request as its routines see it: with its job, and with the system and the sysplex of the configuration
abbrev pub input_under : Input → List ℕ → Option (List ℕ) → Option (List ℕ) → Input
input_under input job system sysplex = record input {
  origin = record input.origin { job = job };
  environment = record input.environment { sysname = or_null system; sysplex = or_null sysplex };
}

-- no class and no group
abbrev pub no_values : Values
no_values = record { dataclas = []; storclas = []; mgmtclas = []; groups = [] }
