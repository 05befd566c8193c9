use Rattle.std.proofs.Common.{◌≡◌, ◌++◌, ◌∷◌, [], ◌∙◌, List, ℕ, Bor, Some, ap, map, sym, arith}
use Rattle.std.proofs.lemmas.List.{map-append}
use Rattle.csv.specs.Records.{field_at, fields_of}
use Rattle.acs_test.proofs.FieldLemmas.{field_there, next_field}
use Rattle.acs_test.proofs.fields.fields_in.Goals as goal
use Rattle.acs_test.proofs.fields.fields_in.Goals.{in-Some+in_ok-push, in_default}

pub loop-at-preserved : goal.loop-at-preserved
loop-at-preserved c =
    let fields = fields_of c.args.record.now in
    elim c.match-get.branch [
      | in-Some+in_ok-push w ↦
          let found : field_at fields c.loop-at.at ≡ Some w.in-Some.field.now = sym (rw w.in-Some.is at c.get.ensures.value) in
          ap (λ (fields : List (Bor (List ℕ))). map (λ (field : Bor (List ℕ)). field.now) fields) (ap (λ v. v.items) w.fields-is ∙ w.in_ok-push.ensures.items)
          ∙ map-append (λ (field : Bor (List ℕ)). field.now) c.loop-at.fields.items (w.in-Some.field ∷ [])
          ∙ ap (λ (front : List (List ℕ)). front ++ w.in-Some.field.now ∷ []) c.loop-at.invariant
          ∙ sym (next_field fields c.loop-at.at w.in-Some.field.now found)
      | in_default w ↦ absurd (field_there fields c.loop-at.at (omega (arith, c.len-at-end.ensures)) (sym (rw w.in_default.is at c.get.ensures.value)))
    ]
