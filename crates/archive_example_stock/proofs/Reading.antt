-- What is read back of the fields of an archived stock.
use Rattle.std.specs.Global.{Global}
use Rattle.std.specs.List.{AllZip, find}
use Rattle.std.specs.Option.{option_map}
use Rattle.std.specs.Ordering.{is_eq, nat_cmp}
use Rattle.std.specs.Prelude.{String}
use Rattle.std.specs.Rc.{rc_str_bytes}
use Rattle.std.specs.String.{string_bytes}
use Rattle.std.specs.declared.rc.RcStr.{RcStr}
use Rattle.std.proofs.Common.{◌≡◌, ◌∙◌, ℕ, cond, List, [], ◌∷◌, Option, Some, None, inl, inr, refl, ap, sym, subst}
use Rattle.std.proofs.lemmas.Bool.{cases_Bool}
use Rattle.archive_shape_layout.specs.Value.{Value, Values}
use Rattle.archive_shape_layout.specs.Value.Value.{counted, group, string}
use Rattle.archive_shape_layout.specs.Value.Values.{no_values, more_values}
use Rattle.archive_forms_laws.specs.Regions.{plain_values}
use Rattle.archive_forms_laws.specs.Spelling.{Spelling}
use Rattle.archive_forms_rc.specs.Counted.{shared_str_rc_spelling}
use Rattle.archive_forms_rc.specs.declared.sharing.keyed.Shared.{Shared}
use Rattle.archive_forms_writing.specs.Owned.{string_spelling}
use Rattle.archive_forms.specs.Alike.{AlikeAreOne, AreAlikeEntries}
use Rattle.archive_forms.specs.Reading.{reads_tuple4}
use Rattle.archive_hash.specs.Calls.Laws.{AnswerAlike}
use Rattle.archive_example_stock.specs.Answers.{shelf_with}
use Rattle.archive_example_stock.specs.ReadBack.{texts_of}
use Rattle.archive_example_stock.specs.Stock.{number_spelling}

-- the values of a group of four
pub record AreRead {A B C D : Type 0} (a : Value → A → Type 0) (b : Value → B → Type 0) (c : Value → C → Type 0) (d : Value → D → Type 0) (p q r s : Value) (x : A × B × C × D) : Type 0 where
  pub first : a p x.0
  pub second : b q x.1
  pub third : c r x.2
  pub fourth : d s x.3

four_are : (p q r s x y z w : Value) (fs gs hs is js : Values) → group fs ≡ group (more_values p (more_values q (more_values r (more_values s no_values))))
    → more_values x gs ≡ fs → more_values y hs ≡ gs → more_values z is ≡ hs → more_values w js ≡ is
    → (x ≡ p) × (y ≡ q) × (z ≡ r) × (w ≡ s)
four_are p q r s x y z w fs gs hs is js e f g h i = (cc, cc, cc, cc)

pub fields_read : {A B C D : Type 0} (x : A × B × C × D) (a : Value → A → Type 0) (b : Value → B → Type 0) (c : Value → C → Type 0) (d : Value → D → Type 0) (p q r s : Value)
    → reads_tuple4 a b c d (group (more_values p (more_values q (more_values r (more_values s no_values))))) x → AreRead a b c d p q r s x
fields_read x a b c d p q r s h =
    let one = h.2 in
    let two = one.4 in
    let three = two.4 in
    let four = three.4 in
    let are = four_are p q r s one.0 two.0 three.0 four.0 h.0 one.1 two.1 three.1 four.1 h.1 one.2 two.2 three.2 four.2 in
    record {
      first = subst (λ v. a v x.0) are.0 one.3;
      second = subst (λ v. b v x.1) are.1 two.3;
      third = subst (λ v. c v x.2) are.2 three.3;
      fourth = subst (λ v. d v x.3) are.3 four.3;
    }

-- look-ups that answer alike find one value, where values that are archived alike are one
pub one_answer : {B Q : Type 0} (vals : Spelling B Q) → AlikeAreOne vals → (o p : Option B) → AnswerAlike vals o p → p ≡ o
one_answer vals one None None h = refl
one_answer vals one None (Some y) h = absurd h
one_answer vals one (Some x) None h = absurd h
one_answer vals one (Some x) (Some y) h = ap Some (sym (one x y h))

-- the names of shelves
pub same_shelves : AlikeAreOne number_spelling → (es fs : List (ℕ × String Global)) → AllZip (AreAlikeEntries number_spelling string_spelling) es fs
    → (shelf : ℕ) → shelf_with shelf fs ≡ shelf_with shelf es
same_shelves one [] [] h shelf = refl
same_shelves one [] (f ∷ fs) h shelf = absurd h
same_shelves one (e ∷ es) [] h shelf = absurd h
same_shelves one (e ∷ es) (f ∷ fs) h shelf =
    let key : f.0 ≡ e.0 = sym (one e.0 f.0 h.0.0) in
    let spelled : string (string_bytes e.1) ≡ string (string_bytes f.1) = h.0.1 in
    let name : string_bytes f.1 ≡ string_bytes e.1 = cc in
    let test : is_eq (nat_cmp f.0 shelf) ≡ is_eq (nat_cmp e.0 shelf) = ap (λ s. is_eq (nat_cmp s shelf)) key in
    let rest = same_shelves one es fs h.1 shelf in
    elim (cases_Bool (is_eq (nat_cmp e.0 shelf))) [
      | inl y ↦
          ap (λ b. option_map (λ x. string_bytes x.1) (cond b (Some f) (find (λ x. is_eq (nat_cmp x.0 shelf)) fs))) (test ∙ y) ∙ ap Some name
          ∙ sym (ap (λ b. option_map (λ x. string_bytes x.1) (cond b (Some e) (find (λ x. is_eq (nat_cmp x.0 shelf)) es))) y)
      | inr n ↦
          ap (λ b. option_map (λ x. string_bytes x.1) (cond b (Some f) (find (λ x. is_eq (nat_cmp x.0 shelf)) fs))) (test ∙ n) ∙ rest
          ∙ sym (ap (λ b. option_map (λ x. string_bytes x.1) (cond b (Some e) (find (λ x. is_eq (nat_cmp x.0 shelf)) es))) n)
    ]

-- the texts of labels
same_values : (xs ys : List (Shared (RcStr Global))) → plain_values shared_str_rc_spelling xs ≡ plain_values shared_str_rc_spelling ys → texts_of xs ≡ texts_of ys
same_values [] [] e = refl
same_values [] (y ∷ ys) e = absurd (let no : no_values ≡ more_values (counted 0 (string (rc_str_bytes y.value))) (plain_values shared_str_rc_spelling ys) = e in cc)
same_values (x ∷ xs) [] e = absurd (let no : more_values (counted 0 (string (rc_str_bytes x.value))) (plain_values shared_str_rc_spelling xs) ≡ no_values = e in cc)
same_values (x ∷ xs) (y ∷ ys) e =
    let both : more_values (counted 0 (string (rc_str_bytes x.value))) (plain_values shared_str_rc_spelling xs) ≡ more_values (counted 0 (string (rc_str_bytes y.value))) (plain_values shared_str_rc_spelling ys) = e in
    let text : rc_str_bytes x.value ≡ rc_str_bytes y.value = cc in
    let others : plain_values shared_str_rc_spelling xs ≡ plain_values shared_str_rc_spelling ys = cc in
    let rest = same_values xs ys others in
    ap (λ t. t ∷ texts_of xs) text ∙ ap (λ ts. rc_str_bytes y.value ∷ ts) rest

pub same_labels : (xs ys : List (Shared (RcStr Global))) → group (plain_values shared_str_rc_spelling xs) ≡ group (plain_values shared_str_rc_spelling ys) → texts_of xs ≡ texts_of ys
same_labels xs ys e = same_values xs ys cc
