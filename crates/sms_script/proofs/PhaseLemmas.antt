-- One more item, and one more phase.
use Rattle.std.proofs.Common.{◌≡◌, ℕ, length, arith, List, [], ◌∷◌, ◌++◌, Ok, Err, refl, sym, ap, ◌∙◌, append_assoc}
use Rattle.std.specs.Prelude.{Result}
use Rattle.sms_script.specs.declared.item.Item.{Item}
use Rattle.sms_script.specs.declared.script_err.ScriptErr.{ScriptErr}
use Rattle.sms_script.specs.Inner.Reading.{after, onto_phase}
use Rattle.sms_script.specs.Script.{onto_first, with_first, with_phase}

pub after_none : (script : Result (List (List Item)) ScriptErr) → after [] [] script ≡ script
after_none (Ok phases) = refl
after_none (Err fault) = refl

onto_item : (items : List Item) (item : Item) (phases : List (List Item)) → onto_phase items (onto_first item phases) ≡ onto_phase (items ++ item ∷ []) phases
onto_item [] item phases = refl
onto_item (x ∷ items) item phases = ap (onto_first x) (onto_item items item phases)

pub after_item : (done : List (List Item)) (items : List Item) (item : Item) (script : Result (List (List Item)) ScriptErr)
    → after done items (with_first item.line item.request script) ≡ after done (items ++ item ∷ []) script
after_item done items item (Ok phases) = ap (λ (ps : List (List Item)). Ok (done ++ ps)) (onto_item items item phases)
after_item done items item (Err fault) = refl

onto_empty : (items : List Item) (phases : List (List Item)) → onto_phase items ([] ∷ phases) ≡ items ∷ phases
onto_empty [] phases = refl
onto_empty (x ∷ items) phases = ap (onto_first x) (onto_empty items phases)

pub after_phase : (done : List (List Item)) (items : List Item) (script : Result (List (List Item)) ScriptErr)
    → after done items (with_phase script) ≡ after (done ++ items ∷ []) [] script
after_phase done items (Ok phases) = ap (λ (ps : List (List Item)). Ok (done ++ ps)) (onto_empty items phases) ∙ ap (λ (ps : List (List Item)). Ok ps) (sym (append_assoc done (items ∷ []) phases))
after_phase done items (Err fault) = refl

pub after_last : (done : List (List Item)) (items : List Item) → after done items (Ok ([] ∷ [])) ≡ Ok (done ++ items ∷ [])
after_last done items = ap (λ (ps : List (List Item)). Ok (done ++ ps)) (onto_empty items [])

pub no_bytes : (bytes : List ℕ) → length bytes ≡ 0 → bytes ≡ []
no_bytes [] none = refl
no_bytes (x ∷ bytes) none = absurd (omega arith)
