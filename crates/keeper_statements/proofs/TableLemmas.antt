-- A change of one table is a change of the tables.
use Rattle.std.proofs.Common.{◌≡◌, ◌∙◌, List, codes, inl, inr, refl, sym, ap, subst}
use Rattle.sqlite.specs.Effect.{Database}
use Rattle.sqlite.specs.Order.{Row}
use Rattle.keeper_statements.specs.Found.{CanServe}
use Rattle.keeper_statements.specs.Schema.{sets_table, replies_table, decks_table, statuses_table, floors_table}
use Rattle.keeper_statements.specs.Steps.{Makes}
use Rattle.keeper_statements.specs.Tables.{Tables, IsKeyed, IsReady, bodies, rows_named}
use Rattle.keeper_statements.proofs.EditLemmas.{Edits, leaves_rest, rows_edited, rows_of_form, rows_stay, table_edited}
use Rattle.keeper_statements.proofs.EditLemmas.{table_stays}
use Rattle.keeper_statements.proofs.PlaceLemmas.{other_tree}

abbrev tables_of : List Row → List Row → List Row → List Row → List Row → Tables
tables_of a b c d e = record { sets = a; replies = b; decks = c; statuses = d; floors = e }

same_tables : (a b c d e a′ b′ c′ d′ e′ : List Row) → a ≡ a′ → b ≡ b′ → c ≡ c′ → d ≡ d′ → e ≡ e′ → tables_of a b c d e ≡ tables_of a′ b′ c′ d′ e′
same_tables a b c d e a′ b′ c′ d′ e′ p q r s t = λ i. tables_of (p i) (q i) (r i) (s i) (t i)

pub makes_sets : (edit f : List Row → List Row) (old new : Database) (ready : IsReady old) → Edits ready.sets.there.tree edit old new → IsKeyed (edit (old.trees ready.sets.there.tree))
    → bodies (edit (old.trees ready.sets.there.tree)) ≡ f (bodies (old.trees ready.sets.there.tree)) → Makes (λ t. record t { sets = f t.sets }) old new
makes_sets edit f old new ready edits keyed shown =
    let here = rows_of_form sets_table old ready.sets.there in
    record {
      ready = record {
        sets = table_edited ready.sets.there.tree edit old new edits sets_table ready.sets refl keyed;
        replies = table_stays ready.sets.there.tree edit old new edits replies_table ready.replies (other_tree replies_table sets_table old.schema ready.serves ready.replies.there ready.sets.there refl);
        decks = table_stays ready.sets.there.tree edit old new edits decks_table ready.decks (other_tree decks_table sets_table old.schema ready.serves ready.decks.there ready.sets.there refl);
        statuses = table_stays ready.sets.there.tree edit old new edits statuses_table ready.statuses (other_tree statuses_table sets_table old.schema ready.serves ready.statuses.there ready.sets.there refl);
        floors = table_stays ready.sets.there.tree edit old new edits floors_table ready.floors (other_tree floors_table sets_table old.schema ready.serves ready.floors.there ready.sets.there refl);
        serves = subst CanServe (sym edits.schema) ready.serves;
      };
      rest = leaves_rest sets_table edit old new (inl refl) ready.serves ready.sets.there edits;
      tables = same_tables (bodies (rows_named new (codes "sets"))) (bodies (rows_named new (codes "replies"))) (rows_named new (codes "decks")) (bodies (rows_named new (codes "statuses"))) (bodies (rows_named new (codes "floors")))
          (f (bodies (rows_named old (codes "sets")))) (bodies (rows_named old (codes "replies"))) (rows_named old (codes "decks")) (bodies (rows_named old (codes "statuses"))) (bodies (rows_named old (codes "floors")))
          (ap bodies (rows_edited ready.sets.there.tree edit old new edits sets_table ready.sets refl) ∙ ap (λ (l : List Row). bodies (edit l)) here ∙ shown ∙ ap (λ (l : List Row). f (bodies l)) (sym here))
          (ap bodies (rows_stay ready.sets.there.tree edit old new edits replies_table ready.replies (other_tree replies_table sets_table old.schema ready.serves ready.replies.there ready.sets.there refl)))
          (rows_stay ready.sets.there.tree edit old new edits decks_table ready.decks (other_tree decks_table sets_table old.schema ready.serves ready.decks.there ready.sets.there refl))
          (ap bodies (rows_stay ready.sets.there.tree edit old new edits statuses_table ready.statuses (other_tree statuses_table sets_table old.schema ready.serves ready.statuses.there ready.sets.there refl)))
          (ap bodies (rows_stay ready.sets.there.tree edit old new edits floors_table ready.floors (other_tree floors_table sets_table old.schema ready.serves ready.floors.there ready.sets.there refl)));
    }

pub makes_replies : (edit f : List Row → List Row) (old new : Database) (ready : IsReady old) → Edits ready.replies.there.tree edit old new → IsKeyed (edit (old.trees ready.replies.there.tree))
    → bodies (edit (old.trees ready.replies.there.tree)) ≡ f (bodies (old.trees ready.replies.there.tree)) → Makes (λ t. record t { replies = f t.replies }) old new
makes_replies edit f old new ready edits keyed shown =
    let here = rows_of_form replies_table old ready.replies.there in
    record {
      ready = record {
        sets = table_stays ready.replies.there.tree edit old new edits sets_table ready.sets (other_tree sets_table replies_table old.schema ready.serves ready.sets.there ready.replies.there refl);
        replies = table_edited ready.replies.there.tree edit old new edits replies_table ready.replies refl keyed;
        decks = table_stays ready.replies.there.tree edit old new edits decks_table ready.decks (other_tree decks_table replies_table old.schema ready.serves ready.decks.there ready.replies.there refl);
        statuses = table_stays ready.replies.there.tree edit old new edits statuses_table ready.statuses (other_tree statuses_table replies_table old.schema ready.serves ready.statuses.there ready.replies.there refl);
        floors = table_stays ready.replies.there.tree edit old new edits floors_table ready.floors (other_tree floors_table replies_table old.schema ready.serves ready.floors.there ready.replies.there refl);
        serves = subst CanServe (sym edits.schema) ready.serves;
      };
      rest = leaves_rest replies_table edit old new (inr (inl refl)) ready.serves ready.replies.there edits;
      tables = same_tables (bodies (rows_named new (codes "sets"))) (bodies (rows_named new (codes "replies"))) (rows_named new (codes "decks")) (bodies (rows_named new (codes "statuses"))) (bodies (rows_named new (codes "floors")))
          (bodies (rows_named old (codes "sets"))) (f (bodies (rows_named old (codes "replies")))) (rows_named old (codes "decks")) (bodies (rows_named old (codes "statuses"))) (bodies (rows_named old (codes "floors")))
          (ap bodies (rows_stay ready.replies.there.tree edit old new edits sets_table ready.sets (other_tree sets_table replies_table old.schema ready.serves ready.sets.there ready.replies.there refl)))
          (ap bodies (rows_edited ready.replies.there.tree edit old new edits replies_table ready.replies refl) ∙ ap (λ (l : List Row). bodies (edit l)) here ∙ shown ∙ ap (λ (l : List Row). f (bodies l)) (sym here))
          (rows_stay ready.replies.there.tree edit old new edits decks_table ready.decks (other_tree decks_table replies_table old.schema ready.serves ready.decks.there ready.replies.there refl))
          (ap bodies (rows_stay ready.replies.there.tree edit old new edits statuses_table ready.statuses (other_tree statuses_table replies_table old.schema ready.serves ready.statuses.there ready.replies.there refl)))
          (ap bodies (rows_stay ready.replies.there.tree edit old new edits floors_table ready.floors (other_tree floors_table replies_table old.schema ready.serves ready.floors.there ready.replies.there refl)));
    }

pub makes_decks : (edit f : List Row → List Row) (old new : Database) (ready : IsReady old) → Edits ready.decks.there.tree edit old new → IsKeyed (edit (old.trees ready.decks.there.tree))
    → (edit (old.trees ready.decks.there.tree)) ≡ f (old.trees ready.decks.there.tree) → Makes (λ t. record t { decks = f t.decks }) old new
makes_decks edit f old new ready edits keyed shown =
    let here = rows_of_form decks_table old ready.decks.there in
    record {
      ready = record {
        sets = table_stays ready.decks.there.tree edit old new edits sets_table ready.sets (other_tree sets_table decks_table old.schema ready.serves ready.sets.there ready.decks.there refl);
        replies = table_stays ready.decks.there.tree edit old new edits replies_table ready.replies (other_tree replies_table decks_table old.schema ready.serves ready.replies.there ready.decks.there refl);
        decks = table_edited ready.decks.there.tree edit old new edits decks_table ready.decks refl keyed;
        statuses = table_stays ready.decks.there.tree edit old new edits statuses_table ready.statuses (other_tree statuses_table decks_table old.schema ready.serves ready.statuses.there ready.decks.there refl);
        floors = table_stays ready.decks.there.tree edit old new edits floors_table ready.floors (other_tree floors_table decks_table old.schema ready.serves ready.floors.there ready.decks.there refl);
        serves = subst CanServe (sym edits.schema) ready.serves;
      };
      rest = leaves_rest decks_table edit old new (inr (inr (inl refl))) ready.serves ready.decks.there edits;
      tables = same_tables (bodies (rows_named new (codes "sets"))) (bodies (rows_named new (codes "replies"))) (rows_named new (codes "decks")) (bodies (rows_named new (codes "statuses"))) (bodies (rows_named new (codes "floors")))
          (bodies (rows_named old (codes "sets"))) (bodies (rows_named old (codes "replies"))) (f (rows_named old (codes "decks"))) (bodies (rows_named old (codes "statuses"))) (bodies (rows_named old (codes "floors")))
          (ap bodies (rows_stay ready.decks.there.tree edit old new edits sets_table ready.sets (other_tree sets_table decks_table old.schema ready.serves ready.sets.there ready.decks.there refl)))
          (ap bodies (rows_stay ready.decks.there.tree edit old new edits replies_table ready.replies (other_tree replies_table decks_table old.schema ready.serves ready.replies.there ready.decks.there refl)))
          ((rows_edited ready.decks.there.tree edit old new edits decks_table ready.decks refl) ∙ ap edit here ∙ shown ∙ ap f (sym here))
          (ap bodies (rows_stay ready.decks.there.tree edit old new edits statuses_table ready.statuses (other_tree statuses_table decks_table old.schema ready.serves ready.statuses.there ready.decks.there refl)))
          (ap bodies (rows_stay ready.decks.there.tree edit old new edits floors_table ready.floors (other_tree floors_table decks_table old.schema ready.serves ready.floors.there ready.decks.there refl)));
    }

pub makes_statuses : (edit f : List Row → List Row) (old new : Database) (ready : IsReady old) → Edits ready.statuses.there.tree edit old new → IsKeyed (edit (old.trees ready.statuses.there.tree))
    → bodies (edit (old.trees ready.statuses.there.tree)) ≡ f (bodies (old.trees ready.statuses.there.tree)) → Makes (λ t. record t { statuses = f t.statuses }) old new
makes_statuses edit f old new ready edits keyed shown =
    let here = rows_of_form statuses_table old ready.statuses.there in
    record {
      ready = record {
        sets = table_stays ready.statuses.there.tree edit old new edits sets_table ready.sets (other_tree sets_table statuses_table old.schema ready.serves ready.sets.there ready.statuses.there refl);
        replies = table_stays ready.statuses.there.tree edit old new edits replies_table ready.replies (other_tree replies_table statuses_table old.schema ready.serves ready.replies.there ready.statuses.there refl);
        decks = table_stays ready.statuses.there.tree edit old new edits decks_table ready.decks (other_tree decks_table statuses_table old.schema ready.serves ready.decks.there ready.statuses.there refl);
        statuses = table_edited ready.statuses.there.tree edit old new edits statuses_table ready.statuses refl keyed;
        floors = table_stays ready.statuses.there.tree edit old new edits floors_table ready.floors (other_tree floors_table statuses_table old.schema ready.serves ready.floors.there ready.statuses.there refl);
        serves = subst CanServe (sym edits.schema) ready.serves;
      };
      rest = leaves_rest statuses_table edit old new (inr (inr (inr (inl refl)))) ready.serves ready.statuses.there edits;
      tables = same_tables (bodies (rows_named new (codes "sets"))) (bodies (rows_named new (codes "replies"))) (rows_named new (codes "decks")) (bodies (rows_named new (codes "statuses"))) (bodies (rows_named new (codes "floors")))
          (bodies (rows_named old (codes "sets"))) (bodies (rows_named old (codes "replies"))) (rows_named old (codes "decks")) (f (bodies (rows_named old (codes "statuses")))) (bodies (rows_named old (codes "floors")))
          (ap bodies (rows_stay ready.statuses.there.tree edit old new edits sets_table ready.sets (other_tree sets_table statuses_table old.schema ready.serves ready.sets.there ready.statuses.there refl)))
          (ap bodies (rows_stay ready.statuses.there.tree edit old new edits replies_table ready.replies (other_tree replies_table statuses_table old.schema ready.serves ready.replies.there ready.statuses.there refl)))
          (rows_stay ready.statuses.there.tree edit old new edits decks_table ready.decks (other_tree decks_table statuses_table old.schema ready.serves ready.decks.there ready.statuses.there refl))
          (ap bodies (rows_edited ready.statuses.there.tree edit old new edits statuses_table ready.statuses refl) ∙ ap (λ (l : List Row). bodies (edit l)) here ∙ shown ∙ ap (λ (l : List Row). f (bodies l)) (sym here))
          (ap bodies (rows_stay ready.statuses.there.tree edit old new edits floors_table ready.floors (other_tree floors_table statuses_table old.schema ready.serves ready.floors.there ready.statuses.there refl)));
    }

pub makes_floors : (edit f : List Row → List Row) (old new : Database) (ready : IsReady old) → Edits ready.floors.there.tree edit old new → IsKeyed (edit (old.trees ready.floors.there.tree))
    → bodies (edit (old.trees ready.floors.there.tree)) ≡ f (bodies (old.trees ready.floors.there.tree)) → Makes (λ t. record t { floors = f t.floors }) old new
makes_floors edit f old new ready edits keyed shown =
    let here = rows_of_form floors_table old ready.floors.there in
    record {
      ready = record {
        sets = table_stays ready.floors.there.tree edit old new edits sets_table ready.sets (other_tree sets_table floors_table old.schema ready.serves ready.sets.there ready.floors.there refl);
        replies = table_stays ready.floors.there.tree edit old new edits replies_table ready.replies (other_tree replies_table floors_table old.schema ready.serves ready.replies.there ready.floors.there refl);
        decks = table_stays ready.floors.there.tree edit old new edits decks_table ready.decks (other_tree decks_table floors_table old.schema ready.serves ready.decks.there ready.floors.there refl);
        statuses = table_stays ready.floors.there.tree edit old new edits statuses_table ready.statuses (other_tree statuses_table floors_table old.schema ready.serves ready.statuses.there ready.floors.there refl);
        floors = table_edited ready.floors.there.tree edit old new edits floors_table ready.floors refl keyed;
        serves = subst CanServe (sym edits.schema) ready.serves;
      };
      rest = leaves_rest floors_table edit old new (inr (inr (inr (inr (inl refl))))) ready.serves ready.floors.there edits;
      tables = same_tables (bodies (rows_named new (codes "sets"))) (bodies (rows_named new (codes "replies"))) (rows_named new (codes "decks")) (bodies (rows_named new (codes "statuses"))) (bodies (rows_named new (codes "floors")))
          (bodies (rows_named old (codes "sets"))) (bodies (rows_named old (codes "replies"))) (rows_named old (codes "decks")) (bodies (rows_named old (codes "statuses"))) (f (bodies (rows_named old (codes "floors"))))
          (ap bodies (rows_stay ready.floors.there.tree edit old new edits sets_table ready.sets (other_tree sets_table floors_table old.schema ready.serves ready.sets.there ready.floors.there refl)))
          (ap bodies (rows_stay ready.floors.there.tree edit old new edits replies_table ready.replies (other_tree replies_table floors_table old.schema ready.serves ready.replies.there ready.floors.there refl)))
          (rows_stay ready.floors.there.tree edit old new edits decks_table ready.decks (other_tree decks_table floors_table old.schema ready.serves ready.decks.there ready.floors.there refl))
          (ap bodies (rows_stay ready.floors.there.tree edit old new edits statuses_table ready.statuses (other_tree statuses_table floors_table old.schema ready.serves ready.statuses.there ready.floors.there refl)))
          (ap bodies (rows_edited ready.floors.there.tree edit old new edits floors_table ready.floors refl) ∙ ap (λ (l : List Row). bodies (edit l)) here ∙ shown ∙ ap (λ (l : List Row). f (bodies l)) (sym here));
    }
