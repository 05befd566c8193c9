-- What a new data set is to get.
use Rattle.std.specs.Prelude.{MatchResult}
use Rattle.desk_common.specs.Steps.{◌⊳◌}
use Rattle.acs_tree.specs.declared.values.Values.{Values}
use Rattle.sms_construct.specs.Configuration.{Configuration}
use Rattle.sms_construct.specs.declared.alloc.Alloc.{Alloc}
use Rattle.sms_construct.specs.declared.data_set.DataSet.{DataSet}
use Rattle.sms_construct.specs.declared.reply.Reply.{Reply}
use Rattle.sms_construct.specs.declared.trace.Trace.{Trace}
use Rattle.desk_law.specs.State.{DeskState}
use Rattle.desk_law.specs.Allocation.{GrantRule, Wish, new_set, space_case}
use Rattle.desk_law.specs.Classification.{Classes, went_through}
use Rattle.desk_law.specs.Replies.{Leaves}
use Rattle.sms_construct.specs.declared.stop.Stop.{Stop}
use Rattle.desk_state.specs.declared.grant.Grant.{Grant}

-- the classification came to these values, its routines wrote this, and so it ends
abbrev pub classes_with : Values → Stop → Trace → Classes
classes_with values stop trace = record {
  values = values;
  written = record { lines = trace.lines; more = trace.more };
  stop = stop;
}

-- the new data set with what is granted
abbrev pub set_granted : Alloc → Wish → Grant → DataSet
set_granted alloc wish grant = new_set alloc wish grant.volume grant.pieces.items

-- the lines of ALLOC from the classification on, which came to these classes
abbrev pub ClassifiedRule : DeskState → Configuration → Alloc → Classes → Reply → DeskState → Type 0
ClassifiedRule s config alloc classes reply after =
    MatchResult (went_through classes ⊳ λ done. space_case alloc config done)
    (λ wish. GrantRule s alloc wish reply after)
    (λ answer. Leaves s answer reply after)
