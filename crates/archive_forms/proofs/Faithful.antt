-- Forms are read back as what was archived, where their parts are.
use Rattle.std.proofs.Common.{◌≡◌, ℕ, false, List, [], ◌∷◌, Some, None, Ok, Err, refl, ap, ap₂, ◌∙◌}
use Rattle.std.specs.Prelude.{Box, Vec}
use Rattle.std.specs.Rc.{rc_slice_items}
use Rattle.std.specs.Global.{Global}
use Rattle.std.specs.declared.rc.Rc.{Rc}
use Rattle.std.specs.declared.rc.RcSlice.{RcSlice}
use Rattle.archive_shape_layout.specs.Shape.{Shape, Pointee}
use Rattle.archive_shape_layout.specs.Shape.Shape.{shared}
use Rattle.archive_shape_layout.specs.Value.{Value, Values}
use Rattle.archive_shape_layout.specs.Value.Value.{chosen, counted, group}
use Rattle.archive_shape_layout.specs.Value.Values.{no_values, more_values}
use Rattle.archive_forms_laws.specs.Spelling.{Spelling}
use Rattle.archive_forms_laws.specs.Forms.{seen_as}
use Rattle.archive_forms_laws.specs.Arrays.{array_spelling}
use Rattle.archive_forms_laws.specs.Fields.{tuple1_spelling, tuple2_spelling, tuple3_spelling, tuple4_spelling}
use Rattle.archive_forms_laws.specs.Options.{option_spelling}
use Rattle.archive_forms_laws.specs.Results.{result_spelling}
use Rattle.archive_forms_laws.specs.Regions.{plain_values}
use Rattle.archive_forms_writing.specs.Owned.{boxed_spelling, boxed_slice_spelling, vec_spelling}
use Rattle.archive_forms_rc.specs.Counted.{shared_rc_spelling, shared_slice_rc_spelling, weak_of}
use Rattle.archive_forms_rc.specs.declared.resolving.RcResolver.{RcResolver}
use Rattle.archive_forms_rc.specs.declared.sharing.keyed.Shared.{Shared}
use Rattle.archive_forms_rc.specs.declared.sharing.weak.SharedWeak.{SharedWeak}
use Rattle.archive_forms.specs.Reading.{reads_in, reads_option, reads_result, reads_each, reads_all, reads_counted, reads_field, reads_group, reads_tuple1, reads_tuple2, reads_tuple3, reads_tuple4}
use Rattle.archive_forms.specs.Weak.{reads_weak}
use Rattle.archive_forms.specs.Faithful.{IsFaithful}

module _ {A R : Type 0} (w : Spelling A R) (reads : Value → A → Type 0) (same : IsFaithful w reads) where
  pub option_faithful : (s : Shape) → IsFaithful (option_spelling s w) (reads_option reads)
  option_faithful s v None h = h
  option_faithful s v (Some x) h = ap (λ u. chosen 1 (more_values u no_values)) (same h.0 x h.2) ∙ h.1

  each_faithful : (vs : Values) (xs : List A) → reads_each reads vs xs → plain_values w xs ≡ vs
  each_faithful no_values [] h = refl
  each_faithful no_values (x ∷ xs) h = absurd h
  each_faithful (more_values v vs) [] h = absurd h
  each_faithful (more_values v vs) (x ∷ xs) h = ap₂ more_values (same v x h.0) (each_faithful vs xs h.1)

  pub all_faithful : (v : Value) (xs : List A) → reads_all reads v xs → group (plain_values w xs) ≡ v
  all_faithful v xs h = ap group (each_faithful h.0 xs h.2) ∙ h.1

  pub boxed_faithful : (s : Shape) → IsFaithful (boxed_spelling s w) (reads_in (λ (x : Box A Global). x.value) reads)
  boxed_faithful s v x h = same v x.value h

  pub vector_faithful : (s : Shape) → IsFaithful (vec_spelling s w) (reads_in (λ (xs : Vec A Global). xs.items) (reads_all reads))
  vector_faithful s v xs h = all_faithful v xs.items h

  pub boxed_slice_faithful : {B : Type 0} (items : B → List A) (s : Shape) → IsFaithful (seen_as items (boxed_slice_spelling s w)) (reads_in items (reads_all reads))
  boxed_slice_faithful items s v xs h = all_faithful v (items xs) h

  pub array_faithful : (n : ℕ) (s : Shape) → IsFaithful (array_spelling n s w) (reads_all reads)
  array_faithful n s v xs h = all_faithful v xs h

  -- what is counted is archived as it, regardless of its position
  counted_faithful : (v : Value) (x : A) → reads_counted reads v x → counted 0 (w.plain x) ≡ v
  counted_faithful v x h = ap (counted 0) (same h.0 x h.2) ∙ h.1

  pub shared_faithful : (s : Shape) → IsFaithful (shared_rc_spelling s w) (reads_in (λ (x : Shared (Rc A Global)). x.value.value) (reads_counted reads))
  shared_faithful s v x h = counted_faithful v x.value.value h

  pub shared_slice_faithful : (s : Shape)
      → IsFaithful (shared_slice_rc_spelling s w) (reads_in (λ (x : Shared (RcSlice A Global)). rc_slice_items x.value) (reads_counted (reads_all reads)))
  shared_slice_faithful s v xs h = ap (counted 0) (all_faithful h.0 (rc_slice_items xs.value) h.2) ∙ h.1

  field_faithful : (x : A) (Others : Values → Type 0) (plain : Values) → ((us : Values) → Others us → plain ≡ us)
      → (vs : Values) → reads_field reads x Others vs → more_values (w.plain x) plain ≡ vs
  field_faithful x Others plain rest vs h = ap₂ more_values (same h.0 x h.3) (rest h.1 h.4) ∙ h.2

-- a weak pointer is an option of a counted one
pub weak_faithful : {P : Type 0} (q : Pointee) (w : Spelling (Shared P) RcResolver) (reads : Value → Shared P → Type 0) → IsFaithful w reads
    → IsFaithful (seen_as (λ (x : SharedWeak P). x.shared) (weak_of q w)) (reads_weak reads)
weak_faithful q w reads same v x h = option_faithful w reads same (shared false q) v x.shared h

group_faithful : (Fields : Values → Type 0) (plain : Values) → ((vs : Values) → Fields vs → plain ≡ vs) → (v : Value) → reads_group Fields v → group plain ≡ v
group_faithful Fields plain each v h = ap group (each h.0 h.2) ∙ h.1

no_field : (vs : Values) → no_values ≡ vs → no_values ≡ vs
no_field vs e = e

module _ {A B R Q : Type 0} (s t : Shape) (a : Spelling A R) (b : Spelling B Q) (read_a : Value → A → Type 0) (read_b : Value → B → Type 0)
    (same_a : IsFaithful a read_a) (same_b : IsFaithful b read_b) where
  pub result_faithful : IsFaithful (result_spelling s t a b) (reads_result read_a read_b)
  result_faithful v (Ok x) h = ap (λ z. chosen 0 (more_values z no_values)) (same_a h.0 x h.2) ∙ h.1
  result_faithful v (Err e) h = ap (λ z. chosen 1 (more_values z no_values)) (same_b h.0 e h.2) ∙ h.1

  pub tuple1_faithful : IsFaithful (tuple1_spelling s a) (reads_tuple1 read_a)
  tuple1_faithful v x h = group_faithful _ _ (field_faithful a read_a same_a x.0 _ no_values no_field) v h

  pub tuple2_faithful : IsFaithful (tuple2_spelling s a t b) (reads_tuple2 read_a read_b)
  tuple2_faithful v x h = group_faithful _ _ (field_faithful a read_a same_a x.0 _ _ (field_faithful b read_b same_b x.1 _ no_values no_field)) v h

  module _ {C P : Type 0} (u : Shape) (c : Spelling C P) (read_c : Value → C → Type 0) (same_c : IsFaithful c read_c) where
    pub tuple3_faithful : IsFaithful (tuple3_spelling s a t b u c) (reads_tuple3 read_a read_b read_c)
    tuple3_faithful v x h =
        group_faithful _ _ (field_faithful a read_a same_a x.0 _ _ (field_faithful b read_b same_b x.1 _ _ (field_faithful c read_c same_c x.2 _ no_values no_field))) v h

    pub tuple4_faithful : {D O : Type 0} (z : Shape) (d : Spelling D O) (read_d : Value → D → Type 0) → IsFaithful d read_d
        → IsFaithful (tuple4_spelling s a t b u c z d) (reads_tuple4 read_a read_b read_c read_d)
    tuple4_faithful z d read_d same_d v x h =
        group_faithful _ _ (field_faithful a read_a same_a x.0 _ _ (field_faithful b read_b same_b x.1 _ _ (field_faithful c read_c same_c x.2 _ _ (field_faithful d read_d same_d x.3 _ no_values no_field)))) v h
