-- Whether a classification is done.
use Rattle.std.specs.Prelude.{Bool, true, false}
use Rattle.sms_construct.specs.declared.stop.Stop.{Stop}
use Rattle.sms_construct.specs.declared.stop.Stop.TheVariants as stops

-- nothing stopped it
abbrev pub is_done : Stop → Bool
is_done stops.Done = true
is_done stops.Unmanaged = false
is_done (stops.Exit kind code) = false
is_done (stops.Unknown kind name) = false
is_done stops.NoGroup = false
