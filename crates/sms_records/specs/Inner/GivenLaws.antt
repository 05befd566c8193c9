-- What routines see is read and written in parts as it is as a whole, and where no text and no list is given.
use Rattle.std.proofs.Common.{arith, ◌≡◌, ◌<◌, ◌^◌, ◌∙◌, ℕ, true, List, [], ◌++◌, length, take, drop, Option, Some}
use Rattle.std.proofs.Common.{None, refl, sym, ap, ap₂, append_assoc}
use Rattle.std.specs.Prelude.{codes}
use Rattle.std.specs.Str.{bytes_eq}
use Rattle.std.proofs.lemmas.List.{take-append-drop}
use Rattle.std.proofs.lemmas.Slice.Eq.{bytes_eq-Decides}
use Rattle.acs_tree.specs.declared.input.Input.{Input}
use Rattle.acs_tree.specs.Inputs.{no_lists, no_texts}
use Rattle.dsn_mask.specs.Name.{is_short}
use Rattle.sms_records.specs.Form.{◌>>=◌, ◌&◌, Form, IsReadable, both_at, list, made, made_at, number_form}
use Rattle.sms_records.specs.Form.{number_32_form, seen_at}
use Rattle.sms_records.specs.Inner.FormLaws.{both_readable}
use Rattle.sms_records.specs.Inner.ListLaws.{list_readable}
use Rattle.sms_records.specs.Texts.{short_form, volser_form}
use Rattle.sms_records.specs.Inner.TextLaws.{text_type_readable}
use Rattle.sms_records.specs.Parts.{account_form, volumes_form}
use Rattle.sms_records.specs.Inner.PartLaws.{account_readable, volumes_readable}
use Rattle.sms_records.specs.Inputs.{asking_form, default_form, fields_of_input, input_form, input_of, seen_name_form}
use Rattle.sms_records.specs.Inputs.{setting_form, wanted_form}
use Rattle.sms_records.specs.Inner.VariantLaws.{◌also◌}
use Rattle.sms_records.specs.Inner.Givens.{fields_of_lists, fields_of_texts, input_of_parts, lists_form, parted_form}
use Rattle.sms_records.specs.Inner.Givens.{parts_of_input, texts_form}

-- fields one behind the other: a name, five, one that joins the fifth, two, and the last
abbrev WholeFields : Type 0 → Type 0 → Type 0 → Type 0 → Type 0 → Type 0 → Type 0 → Type 0 → Type 0 → Type 0 → Type 0
WholeFields N A B C D E F V W S = N × (A × (B × (C × (D × ((E × F) × (V × (W × S)))))))

-- the same in parts: the name, the five, the one, the two, and the last
abbrev PartFields : Type 0 → Type 0 → Type 0 → Type 0 → Type 0 → Type 0 → Type 0 → Type 0 → Type 0 → Type 0 → Type 0
PartFields N A B C D E F V W S = N × ((A × (B × (C × (D × E)))) × (F × ((V × W) × S)))

-- the fields of the parts
abbrev fields_of : {N A B C D E F V W S : Type 0} → PartFields N A B C D E F V W S → WholeFields N A B C D E F V W S
fields_of x =
    x.0 also x.1.0.0 also x.1.0.1.0 also x.1.0.1.1.0 also x.1.0.1.1.1.0
    also (x.1.0.1.1.1.1, x.1.1.0) also x.1.1.1.0.0 also x.1.1.1.0.1 also x.1.1.1.1

then_then : {A B C : Type 0} (r : Option A) (f : A → Option B) (g : B → Option C)
    → ((r >>= f) >>= g) ≡ (r >>= λ x. f x >>= g)
then_then (Some x) f g = refl
then_then None f g = refl

regrouped_read : {N A B C D E F V W S T : Type 0} (name : Form N) (a : Form A) (b : Form B) (c : Form C) (d : Form D)
    (e : Form E) (f : Form F) (v : Form V) (w : Form W) (s : Form S) (make : WholeFields N A B C D E F V W S → T)
    (back : T → WholeFields N A B C D E F V W S) (bytes : List ℕ)
    → (made (name & (a & b & c & d & (e & f) & v & w & s)) make back).read bytes
    ≡ made_at (name & (a & b & c & d & e) & f & (v & w) & s) (λ x. make (fields_of x)) bytes
unfolding both_at seen_at made_at
regrouped_read name a b c d e f v w s make back bytes = simp then_then

regrouped_write : {N A B C D E F V W S : Type 0} (name : Form N) (a : Form A) (b : Form B) (c : Form C) (d : Form D)
    (e : Form E) (f : Form F) (v : Form V) (w : Form W) (s : Form S) (x : PartFields N A B C D E F V W S)
    → (name & (a & b & c & d & (e & f) & v & w & s)).write (fields_of x)
    ≡ (name & (a & b & c & d & e) & f & (v & w) & s).write x
regrouped_write name a b c d e f v w s x = simp append_assoc

-- what is read as a whole is made of what is read in parts
pub read_in_parts : (bytes : List ℕ) → input_form.read bytes ≡ made_at parted_form input_of_parts bytes
read_in_parts bytes =
    regrouped_read seen_name_form asking_form wanted_form setting_form default_form (short_form & short_form)
    (number_32_form & number_32_form) volumes_form (account_form & account_form) (number_form & number_form)
    (λ x. input_of x.0 x.1) (λ x. (x.dsn, fields_of_input x)) bytes

-- what is written as a whole is written in parts
pub written_in_parts : (x : Input) → input_form.write x ≡ parted_form.write (parts_of_input x)
written_in_parts x =
    regrouped_write seen_name_form asking_form wanted_form setting_form default_form (short_form & short_form)
    (number_32_form & number_32_form) volumes_form (account_form & account_form) (number_form & number_form)
    (parts_of_input x)

made_again_at : {P T : Type 0} (parts : Form P) (make : P → T) (p : P) (rest : List ℕ) → IsReadable parts p
    → made_at parts make (parts.write p ++ rest) ≡ Some (make p, rest)
unfolding made_at
made_again_at parts make p rest again = rw (again rest) refl

-- where the parts are read again, so is the whole
pub readable_in_parts : (x : Input) → IsReadable parted_form (parts_of_input x) → IsReadable input_form x
readable_in_parts x again rest =
    read_in_parts (input_form.write x ++ rest)
    ∙ ap (λ (bytes : List ℕ). made_at parted_form input_of_parts (bytes ++ rest)) (written_in_parts x)
    ∙ made_again_at parted_form input_of_parts (parts_of_input x) rest again

short_again : (a : List ℕ) → length a < 2 ^ 64 → is_short a ≡ true → IsReadable short_form a
short_again = text_type_readable is_short

empty_again : IsReadable short_form []
empty_again = short_again [] (omega arith) refl

two_empty_again : IsReadable (short_form & short_form) ([], [])
two_empty_again = both_readable short_form short_form [] [] empty_again empty_again

three_empty_again : IsReadable (short_form & short_form & short_form) ([], ([], []))
three_empty_again = both_readable short_form (short_form & short_form) [] ([], []) empty_again two_empty_again

wanted_again : IsReadable wanted_form ([], ([], ([], [])))
wanted_again = both_readable short_form (short_form & short_form & short_form) [] ([], ([], [])) empty_again
    three_empty_again

asking_again : IsReadable asking_form ([], ([], ([], ([], []))))
asking_again = both_readable short_form wanted_form [] ([], ([], ([], []))) empty_again wanted_again

abbrev plain_modes : List ℕ × (List ℕ × (List ℕ × List ℕ))
plain_modes = (codes "PERM", (codes "ALLOC", (codes "BATCH", [])))

modes_again : IsReadable wanted_form plain_modes
modes_again = both_readable short_form (short_form & short_form & short_form) _ _
    (short_again (codes "PERM") (omega arith) refl)
    (both_readable short_form (short_form & short_form) _ _ (short_again (codes "ALLOC") (omega arith) refl)
    (both_readable short_form short_form _ _ (short_again (codes "BATCH") (omega arith) refl) empty_again))

setting_again : IsReadable setting_form ([], ([], plain_modes))
setting_again = both_readable short_form (short_form & wanted_form) _ _ empty_again
    (both_readable short_form wanted_form _ _ empty_again modes_again)

-- the texts where none is given are read again
pub no_texts_again : IsReadable texts_form (fields_of_texts no_texts)
no_texts_again =
    both_readable asking_form (wanted_form & setting_form & default_form & (short_form & short_form)) _ _ asking_again
    (both_readable wanted_form (setting_form & default_form & (short_form & short_form)) _ _ wanted_again
    (both_readable setting_form (default_form & (short_form & short_form)) _ _ setting_again
    (both_readable default_form (short_form & short_form) _ _ three_empty_again two_empty_again)))

none_again : (form : Form (List ℕ)) → IsReadable (list form) []
none_again form = list_readable form [] (omega arith) tt

-- the lists where none is given are read again
pub no_lists_again : IsReadable lists_form (fields_of_lists no_lists)
no_lists_again =
    let account = account_readable [] (omega arith) (none_again short_form) in
    both_readable volumes_form (account_form & account_form) [] ([], [])
    (volumes_readable [] (omega arith) (omega arith) (none_again volser_form))
    (both_readable account_form account_form [] [] account account)

-- a value that is read again is read where its bytes stand at the front
pub read_at_front : {T : Type 0} (form : Form T) (x : T) (front bytes rest : List ℕ) → IsReadable form x
    → front ≡ form.write x → bytes_eq (take (length front) bytes) front ≡ true → rest ≡ drop (length front) bytes
    → form.read bytes ≡ Some (x, rest)
read_at_front form x front bytes rest again is same behind =
    let parts : bytes ≡ form.write x ++ rest =
    sym (take-append-drop (length front) bytes)
    ∙ ap₂ ◌++◌ ((bytes_eq-Decides (take (length front) bytes) front).0 same ∙ is) (sym behind) in
    ap form.read parts ∙ again rest
