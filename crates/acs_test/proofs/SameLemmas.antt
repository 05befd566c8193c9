-- Two classifications that come to the same, and two that don't.
use Rattle.std.proofs.Common.{◌≡◌, Bool, true, false, Decides, ap, ap₂}
use Rattle.acs_tree.specs.Slates.{SlateLines}
use Rattle.desk_law.specs.Classification.{Classes}
use Rattle.sms_classes.specs.declared.classified.Classified.{Classified}
use Rattle.sms_outcomes.specs.Outcomes.{classes_made}

-- where values and end are equal, the lines decide
pub lines_decide : (one other : Classified) (written others : SlateLines) (result : Bool) → one ≡ other → Decides result (written ≡ others) → Decides result (classes_made one written ≡ classes_made other others)
lines_decide one other written others result same lines = (λ t. ap₂ classes_made same (lines.0 t), λ e. lines.1 (ap (λ (classes : Classes). classes.written) e))

same_end : (one other : Classified) (written others : SlateLines) → classes_made one written ≡ classes_made other others → one ≡ other
same_end one other written others e = λ i. record { values = (e i).values; stop = (e i).stop }

-- where they aren't, nothing is the same
pub ends_differ : (one other : Classified) (written others : SlateLines) (result : Bool) → Decides result (one ≡ other) → result ≡ false → classes_made one written ≡ classes_made other others → ⊥
ends_differ one other written others result ends differ e =
    let same : result ≡ true = ends.1 (same_end one other written others e) in
    cc

-- where the values are equal, the ends decide
pub ends_decide : (one other : Classified) (result : Bool) → one.values ≡ other.values → Decides result (one.stop ≡ other.stop) → Decides result (one ≡ other)
ends_decide one other result same stops =
    (λ t. let stop : one.stop ≡ other.stop = stops.0 t in λ i. record { values = same i; stop = stop i }, λ e. stops.1 (ap (λ (classified : Classified). classified.stop) e))

-- where they aren't, nothing is equal
pub values_differ : (one other : Classified) (result : Bool) → Decides result (one.values ≡ other.values) → result ≡ false → one ≡ other → ⊥
values_differ one other result values differ e =
    let same : result ≡ true = values.1 (ap (λ (classified : Classified). classified.values) e) in
    cc
