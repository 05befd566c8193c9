-- A trace without lines.
use Rattle.std.proofs.Common.{◌≡◌, [], refl}
use Rattle.sms_construct.specs.declared.trace.Trace.{Trace}
use Rattle.sms_script.specs.TraceText.{trace_lines}

pub silent : (trace : Trace) → trace.lines ≡ [] → trace.more ≡ record { dataclas = 0; storclas = 0; mgmtclas = 0; storgrp = 0 } → trace_lines trace ≡ []
silent trace lines more = rw (lines, more) refl
