-- The exit status behind the serving of a store: that of why it ended.
use Rattle.std.specs.Prelude.{◌≡◌, ◌⊎◌, ◌-◌, ◌^◌, ℕ, List, Option}
use Rattle.ready_wires.specs.Events.{ReadySeen}
use Rattle.ready_wires.specs.Wires.{WireSeen}
use Rattle.sms_keeper.specs.declared.rows.Rows.{Rows}
use Rattle.sms_keeper.specs.declared.table.Table.{Table}
use Rattle.sms_open.specs.declared.open_err.OpenErr.{OpenErr}
use Rattle.serve_poll.specs.declared.hall.Hall.{Hall}
use Rattle.smsd_serving.specs.Epochs.{IsUnopened, WasKept, WereAsked}
use Rattle.smsd_serving.specs.declared.serving_end.ServingEnd.{ServingEnd}
use Rattle.smsd_serving.specs.declared.serving_end.ServingEnd.TheVariants as ends
use Rattle.smsd.specs.Served.{serving_status_of}

module _ {P C : Type 0} (told : P → Option Rows) (count : P → ℕ) (damage : P → Option (Table × ℕ))
    (seen : C → WireSeen) where
  -- the store was served until this happened
  pub record WasServedTo (port : ℕ) (before after : P) (ready ready' : ReadySeen) (back back' : Option (List C))
      (end : ServingEnd) : Type 0 where
    pub hall : Hall C
    pub kept : WasKept told count damage seen port before after ready ready' back back' hall end
    pub asked : WereAsked (2 ^ 64 - 1) ready ready' hall.count end

  -- no desk goes on from the store, for this cause, and nobody was served
  pub record WasUnserved (before after : P) (end : ServingEnd) : Type 0 where
    pub err : OpenErr
    pub end_is : end ≡ ends.Unopened err
    pub unopened : IsUnopened told count damage before after err

  -- the number is that of why the store was served no further, or not at all
  pub record EndsServe (port : ℕ) (before after : P) (ready ready' : ReadySeen) (back back' : Option (List C))
      (code : ℕ) : Type 0 where
    pub end : ServingEnd
    pub cause : WasServedTo port before after ready ready' back back' end ⊎ WasUnserved before after end
    pub code_is : code ≡ serving_status_of end
