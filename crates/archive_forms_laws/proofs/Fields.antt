-- Tuples and structs are read as they are written.
use Rattle.std.proofs.Common.{◌≡◌, ℕ, false, ◌+◌, ◌-◌, ◌≤◌, ◌<◌, List, [], ◌∷◌, ◌++◌, refl, length, slice_index, sym, ap, ap₂, subst, arith, add-zero, length-append, ◌⊎◌, inl, inr, ⊎_elim}
use Rattle.std.proofs.lemmas.Bool.{cases_lt, or_parts}
use Rattle.std.proofs.lemmas.List.{length-replicate}
use Rattle.archive_shape_layout.specs.Bytes.{align_up}
use Rattle.archive_shape_layout.specs.Shape.{Shape, Shapes, size_of, align_of, fields_end}
use Rattle.archive_shape_layout.specs.Shape.Shape.{tuple}
use Rattle.archive_shape_layout.specs.Shape.Shapes.{no_shapes, more_shapes}
use Rattle.archive_shape_layout.specs.Value.{Values}
use Rattle.archive_shape_layout.specs.Value.Value.{group}
use Rattle.archive_shape_layout.specs.Value.Values.{no_values, more_values}
use Rattle.archive_shape_layout.specs.Content.{Names, fields, made, shape_content, content_of}
use Rattle.archive_shape_layout.specs.Content.Part.{at}
use Rattle.archive_shape_layout.specs.Content.Label.{whole}
use Rattle.archive_shape_layout.specs.Content.Content.{plain}
use Rattle.archive_shape_layout.specs.Holds.{OpenShared}
use Rattle.archive_shape_layout.specs.Holds.Holds.{holds_plain}
use Rattle.archive_shape_layout.proofs.Framed.{le_align_up}
use Rattle.archive_shape_canonical.specs.Settled.{Fit, LeadsSettled, free}
use Rattle.archive_shape_canonical.specs.Sharing.{all_erased}
use Rattle.archive_shape_canonical.specs.Clean.{InParts, IsIn, FieldPartOrZero}
use Rattle.archive_shape_canonical.proofs.Cleanness.{clean_by}
use Rattle.archive_shape.specs.Bytes.{HasBytes, zeros}
use Rattle.archive_shape.proofs.Pieces.{stands_left, stands_right, zero_stands}
use Rattle.archive_shape_layout.specs.declared.error.Error.{Error}
use Rattle.archive_forms_laws.specs.State.{State, Keys, IsConsistent, AllFrom, AreKeyedBy, visits_of, advanced}
use Rattle.archive_forms_laws.specs.Spelling.{Spelling, state_after}
use Rattle.archive_forms_laws.specs.Spells.{CanonicalPart, SpellsAt, Spells}
use Rattle.archive_shape_canonical.specs.Canonical.{AreBytes}
use Rattle.archive_forms_laws.specs.Forms.{seen_as, kept_as}
use Rattle.archive_forms_laws.specs.Unshared.{holds_shared, any_holds_shared}
use Rattle.archive_forms_laws.specs.Fields.{FieldsSpelling, no_fields, more_fields, struct_spelling, unit_spelling, tuple1_spelling, tuple2_spelling, tuple3_spelling, tuple4_spelling}
use Rattle.archive_forms_laws.proofs.States.{consistent_advanced, consistent_further, from_earlier}
use Rattle.archive_forms_laws.proofs.Gaps.{bytes_none, bytes_append, bytes_zeros}
use Rattle.archive_forms_laws.proofs.Regions.{CanonicalParts, no_parts, more_parts}
use Rattle.archive_forms_laws.proofs.Views.{seen_spells_at, kept_spells_at}

-- what `SpellsAt` says of one value, said of the fields of one struct; each of their own bytes is one of a field, or
-- zero
pub record FieldsSpellAt {A R : Type 0} (fit : Fit) (knows : Names → Type 0) (fs : FieldsSpelling A R) (x : A) : Type 0 where
  pub sized : (r : R) (pos offset : ℕ) → fs.own_fits x r pos offset → offset + length (fs.own x r pos offset) ≡ fields_end fs.shapes offset
  pub canonical :
      (st : State) (pos offset : ℕ) (names : Names) (keys : Keys) (bytes : List ℕ) (level : ℕ) (inside : List OpenShared)
      → knows names
      → fs.suits fit keys x
      → AreKeyedBy keys st.met
      → IsConsistent st
      → AllFrom (st.pos + length (fs.piece x st)) inside
      → fs.piece_fits x st
      → fs.own_fits x (fs.resolver x st) pos offset
      → HasBytes bytes st.pos (fs.piece x st)
      → HasBytes bytes (pos + offset) (fs.own x (fs.resolver x st) pos offset)
      → CanonicalParts fit names bytes level inside (visits_of st.met) (visits_of (fs.met x st)) (fields pos offset fs.shapes) (fs.values x st) st.pos (st.pos + length (fs.piece x st))
  pub covered :
      (bytes : List ℕ) (r : R) (pos offset : ℕ)
      → fs.own_fits x r pos offset
      → HasBytes bytes (pos + offset) (fs.own x r pos offset)
      → (i : ℕ) → pos + offset ≤ i → i < pos + fields_end fs.shapes offset → InParts (fields pos offset fs.shapes) i ⊎ (slice_index bytes i ≡ 0)
  pub consistent : (st : State) → IsConsistent st → fs.piece_fits x st → IsConsistent (advanced (length (fs.piece x st)) (fs.met x st) st)
  pub keyed :
      (keys : Keys) (st : State) → fs.suits fit keys x → AreKeyedBy keys st.met → fs.piece_fits x st
      → (all_erased (fs.values x st) ≡ fs.plain x) × AreKeyedBy keys (fs.met x st)
  pub piece_bytes : (st : State) → fs.piece_fits x st → AreBytes (fs.piece x st)
  pub own_bytes : (r : R) (pos offset : ℕ) → fs.own_fits x r pos offset → AreBytes (fs.own x r pos offset)
  pub piece_exact : (st : State) (e : Error) → fs.piece_fits x st → fs.piece_refused x st e → ⊥
  pub own_exact : (r : R) (pos offset : ℕ) (e : Error) → fs.own_fits x r pos offset → fs.own_refused x r pos offset e → ⊥
  pub unshared : any_holds_shared fs.shapes ≡ false → (keys : Keys) → fs.suits free keys x

-- fields end within the struct
pub struct_room : (ss : Shapes) → fields_end ss 0 ≤ size_of (tuple ss)
struct_room ss = le_align_up (fields_end ss 0) (align_of (tuple ss))

-- a value of a type that has no other has no own byte
pub unit_has_no_bytes : {A : Type 0} (x : A) (pos : ℕ) → unit_spelling.own x tt pos ≡ []
unfolding align_up
unit_has_no_bytes x pos = refl

module _ (fit : Fit) (knows : Names → Type 0) where
  -- no fields are read from no bytes
  pub no_fields_spell : {A : Type 0} (x : A) → FieldsSpellAt fit knows no_fields x
  unfolding fields
  no_fields_spell x = record {
    sized = λ r pos offset f. add-zero offset;
    canonical = λ st pos offset names keys bytes level inside k n known state over f o p q.
        let P : ℕ → Type 0 = λ z. CanonicalParts fit names bytes level inside (visits_of st.met) (visits_of st.met) [] no_values st.pos z in
        subst P (sym (add-zero st.pos)) (no_parts (visits_of st.met) st.pos);
    covered = λ bytes r pos offset f q i low high. absurd (omega (arith, low, high));
    consistent = λ st h f. consistent_advanced st 0 h;
    keyed = λ keys st n known f. (refl, known);
    piece_bytes = λ st f. bytes_none;
    own_bytes = λ r pos offset f. bytes_none;
    piece_exact = λ st e f r. r;
    own_exact = λ r pos offset e f k. k;
    unshared = λ none keys. tt;
  }

  module _ {A B R Q : Type 0} (s : Shape) (w : Spelling A R) (others : FieldsSpelling B Q) where
    module _ (x : A) (y : B) (one : SpellsAt fit s knows w x) (rest : FieldsSpellAt fit knows others y) where
      -- the field and the others end where the fields of the struct do
      field_sized : (r : R × Q) (pos offset : ℕ) → (more_fields s w others).own_fits (x, y) r pos offset
          → offset + length ((more_fields s w others).own (x, y) r pos offset) ≡ fields_end (more_shapes s others.shapes) offset
      field_sized r pos offset f =
          let from = align_up offset (align_of s) in
          let gap = zeros (from - offset) in
          let own = w.own x r.0 (pos + from) in
          let behind = others.own y r.1 pos (from + size_of s) in
          let up = le_align_up offset (align_of s) in
          let filled : length gap ≡ from - offset = length-replicate _ _ in
          let size = one.sized r.0 (pos + from) f.0 in
          let end = rest.sized r.1 pos (from + size_of s) f.1 in
          omega (arith, length-append gap (own ++ behind), length-append own behind)

      -- where the gap, the field and the others lie
      field_stands : (bytes : List ℕ) (r : R × Q) (pos offset : ℕ) → w.own_fits x r.0 (pos + align_up offset (align_of s))
          → HasBytes bytes (pos + offset) ((more_fields s w others).own (x, y) r pos offset)
          → HasBytes bytes (pos + offset) (zeros (align_up offset (align_of s) - offset))
          × HasBytes bytes (pos + align_up offset (align_of s)) (w.own x r.0 (pos + align_up offset (align_of s)))
          × HasBytes bytes (pos + (align_up offset (align_of s) + size_of s)) (others.own y r.1 pos (align_up offset (align_of s) + size_of s))
      field_stands bytes r pos offset f q =
          let from = align_up offset (align_of s) in
          let gap = zeros (from - offset) in
          let own = w.own x r.0 (pos + from) in
          let behind = others.own y r.1 pos (from + size_of s) in
          let up = le_align_up offset (align_of s) in
          let filled : length gap ≡ from - offset = length-replicate _ _ in
          let size = one.sized r.0 (pos + from) f in
          let both = stands_right bytes (pos + offset) gap (own ++ behind) (pos + from) (omega arith) q in
          (stands_left bytes (pos + offset) gap (own ++ behind) q, stands_left bytes (pos + from) own behind both, stands_right bytes (pos + from) own behind (pos + (from + size_of s)) (omega arith) both)

      -- each byte up to that end is one of the field or of the others, or zero
      field_covered :
          (bytes : List ℕ) (r : R × Q) (pos offset : ℕ)
          → (more_fields s w others).own_fits (x, y) r pos offset
          → HasBytes bytes (pos + offset) ((more_fields s w others).own (x, y) r pos offset)
          → (i : ℕ) → pos + offset ≤ i → i < pos + fields_end (more_shapes s others.shapes) offset → InParts (fields pos offset (more_shapes s others.shapes)) i ⊎ (slice_index bytes i ≡ 0)
      unfolding fields
      field_covered bytes r pos offset f q i low high =
          let from = align_up offset (align_of s) in
          let up = le_align_up offset (align_of s) in
          let stand = field_stands bytes r pos offset f.0 q in
          ⊎_elim
          (λ l. inr (zero_stands bytes (pos + offset) (from - offset) i stand.0 low (omega arith)))
          (λ g. ⊎_elim
          (λ l. inl (inl (g, omega arith)))
          (λ h. ⊎_elim (λ p. inl (inr p)) (λ z. inr z) (rest.covered bytes r.1 pos (from + size_of s) f.1 stand.2 i (omega arith) high))
          (cases_lt i (pos + from + size_of s)))
          (cases_lt i (pos + from))

      -- the field and the others are read as they are written
      field_canonical :
          (st : State) (pos offset : ℕ) (names : Names) (keys : Keys) (bytes : List ℕ) (level : ℕ) (inside : List OpenShared)
          → knows names
          → (more_fields s w others).suits fit keys (x, y)
          → AreKeyedBy keys st.met
          → IsConsistent st
          → AllFrom (st.pos + length ((more_fields s w others).piece (x, y) st)) inside
          → (more_fields s w others).piece_fits (x, y) st
          → (more_fields s w others).own_fits (x, y) ((more_fields s w others).resolver (x, y) st) pos offset
          → HasBytes bytes st.pos ((more_fields s w others).piece (x, y) st)
          → HasBytes bytes (pos + offset) ((more_fields s w others).own (x, y) ((more_fields s w others).resolver (x, y) st) pos offset)
          → CanonicalParts fit names bytes level inside (visits_of st.met) (visits_of ((more_fields s w others).met (x, y) st)) (fields pos offset (more_shapes s others.shapes)) ((more_fields s w others).values (x, y) st) st.pos (st.pos + length ((more_fields s w others).piece (x, y) st))
      unfolding fields
      field_canonical st pos offset names keys bytes level inside k n known state over f o p q =
          let from = align_up offset (align_of s) in
          let then = state_after w x st in
          let piece = w.piece x st in
          let behind = others.piece y then in
          let stand = field_stands bytes ((more_fields s w others).resolver (x, y) st) pos offset o.0 q in
          let end : then.pos + length behind ≡ st.pos + length (piece ++ behind) = omega (arith, length-append piece behind) in
          let over_rest : AllFrom (then.pos + length behind) inside = subst (λ z. AllFrom z inside) (sym end) over in
          let first = one.canonical st (pos + from) names keys bytes level inside k n.0 known state (from_earlier inside then.pos (then.pos + length behind) (omega arith) over_rest) f.0 o.0
          (stands_left bytes st.pos piece behind p) stand.1 in
          let later = rest.canonical then pos (from + size_of s) names keys bytes level inside k n.1 (one.keyed keys st n.0 known f.0).1 (one.consistent st state f.0) over_rest f.1 o.1
          (stands_right bytes st.pos piece behind then.pos refl p) stand.2 in
          let P : ℕ → Type 0 = λ z. CanonicalParts fit names bytes level inside (visits_of st.met) (visits_of (others.met y then)) (at (pos + from) s ∷ fields pos (from + size_of s) others.shapes) (more_values (w.value x st) (others.values y then)) st.pos z in
          subst P end (more_parts (visits_of st.met) (visits_of then.met) (visits_of (others.met y then)) (at (pos + from) s) (fields pos (from + size_of s) others.shapes) (w.value x st) (others.values y then) st.pos then.pos (then.pos + length behind) (omega arith) (omega arith) first later)

      -- the state when the data of all is written is consistent
      field_consistent : (st : State) → IsConsistent st → (more_fields s w others).piece_fits (x, y) st
          → IsConsistent (advanced (length ((more_fields s w others).piece (x, y) st)) ((more_fields s w others).met (x, y) st) st)
      field_consistent st h f =
          let then = state_after w x st in
          let later = rest.consistent then (one.consistent st h f.0) f.1 in
          consistent_further (advanced (length (others.piece y then)) (others.met y then) then) (st.pos + length (w.piece x st ++ others.piece y then)) st.begun
          (omega (arith, length-append (w.piece x st) (others.piece y then))) refl later

      -- the law of a field and those of the others are that of all
      pub more_fields_spell : FieldsSpellAt fit knows (more_fields s w others) (x, y)
      more_fields_spell = record {
        sized = field_sized;
        canonical = field_canonical;
        covered = field_covered;
        consistent = field_consistent;
        keyed = λ keys st n known f.
            let first = one.keyed keys st n.0 known f.0 in
            let later = rest.keyed keys (state_after w x st) n.1 first.1 f.1 in
            (ap₂ more_values first.0 later.0, later.1);
        piece_bytes = λ st f. bytes_append (w.piece x st) _ (one.piece_bytes st f.0) (rest.piece_bytes (state_after w x st) f.1);
        own_bytes = λ r pos offset f.
            let from = align_up offset (align_of s) in
            bytes_append (zeros (from - offset)) _ (bytes_zeros _) (bytes_append (w.own x r.0 (pos + from)) _ (one.own_bytes r.0 (pos + from) f.0) (rest.own_bytes r.1 pos (from + size_of s) f.1));
        piece_exact = λ st e f r. ⊎_elim (one.piece_exact st e f.0) (rest.piece_exact (state_after w x st) e f.1) r;
        own_exact = λ r pos offset e f k.
            let from = align_up offset (align_of s) in
            ⊎_elim (one.own_exact r.0 (pos + from) e f.0) (rest.own_exact r.1 pos (from + size_of s) e f.1) k;
        unshared = λ none keys.
            let parts = or_parts (holds_shared s) (any_holds_shared others.shapes) none in
            (one.unshared parts.0 keys, rest.unshared parts.1 keys);
      }

  -- ---- structs

  -- the layout leaves no choice at a struct
  fields_settled : (seen : List ℕ) (ss : Shapes) (pos offset : ℕ) (vs : Values) → LeadsSettled fit seen (fields pos offset ss) vs
  unfolding fields
  fields_settled seen no_shapes pos offset vs = tt
  fields_settled seen (more_shapes s ss) pos offset vs = tt

  module _ {A R : Type 0} (fs : FieldsSpelling A R) (x : A) (all : FieldsSpellAt fit knows fs x) where
    -- a struct takes its size
    struct_sized : (r : R) (pos : ℕ) → fs.own_fits x r pos 0 → length ((struct_spelling fs).own x r pos) ≡ size_of (tuple fs.shapes)
    struct_sized r pos f =
        let own = fs.own x r pos 0 in
        let pad = zeros (size_of (tuple fs.shapes) - fields_end fs.shapes 0) in
        let end = all.sized r pos 0 f in
        let room = struct_room fs.shapes in
        let filled : length pad ≡ size_of (tuple fs.shapes) - fields_end fs.shapes 0 = length-replicate _ _ in
        omega (arith, length-append own pad)

    -- each byte of a struct is one of a field, or zero
    struct_clean : (bytes : List ℕ) (r : R) (pos : ℕ) → fs.own_fits x r pos 0 → HasBytes bytes pos ((struct_spelling fs).own x r pos)
        → (i : ℕ) → IsIn pos (size_of (tuple fs.shapes)) i → FieldPartOrZero bytes (at pos (tuple fs.shapes)) (fields pos 0 fs.shapes) i
    struct_clean bytes r pos f q i o =
        let low = o.0 in
        let high = o.1 in
        let own = fs.own x r pos 0 in
        let size = size_of (tuple fs.shapes) in
        let end = fields_end fs.shapes 0 in
        let pad = zeros (size - end) in
        let room = struct_room fs.shapes in
        let own_end = all.sized r pos 0 f in
        let front : HasBytes bytes (pos + 0) own = subst (λ z. HasBytes bytes z own) (sym (add-zero pos)) (stands_left bytes pos own pad q) in
        let back = stands_right bytes pos own pad (pos + end) (omega arith) q in
        ⊎_elim
        (λ l. inr (all.covered bytes r pos 0 f front i (omega arith) l))
        (λ g. inr (inr (zero_stands bytes (pos + end) (size - end) i back g (omega arith))))
        (cases_lt i (pos + end))

    -- a struct is read as it is written
    struct_canonical :
        (st : State) (pos : ℕ) (names : Names) (keys : Keys) (bytes : List ℕ) (level : ℕ) (inside : List OpenShared)
        → knows names
        → fs.suits fit keys x
        → AreKeyedBy keys st.met
        → IsConsistent st
        → AllFrom (st.pos + length (fs.piece x st)) inside
        → fs.piece_fits x st
        → fs.own_fits x (fs.resolver x st) pos 0
        → HasBytes bytes st.pos (fs.piece x st)
        → HasBytes bytes pos ((struct_spelling fs).own x (fs.resolver x st) pos)
        → CanonicalPart fit names bytes level inside (visits_of st.met) (visits_of (fs.met x st)) (at pos (tuple fs.shapes)) (group (fs.values x st)) st.pos (st.pos + length (fs.piece x st))
    unfolding made shape_content
    struct_canonical st pos names keys bytes level inside k n known state over f o p q =
        let own = fs.own x (fs.resolver x st) pos 0 in
        let pad = zeros (size_of (tuple fs.shapes) - fields_end fs.shapes 0) in
        let front : HasBytes bytes (pos + 0) own = subst (λ z. HasBytes bytes z own) (sym (add-zero pos)) (stands_left bytes pos own pad q) in
        let h = all.canonical st pos 0 names keys bytes level inside k n known state over f o p front in
        let e : content_of names bytes (at pos (tuple fs.shapes)) ≡ plain whole (fields pos 0 fs.shapes) = refl in
        record {
          regions = h.regions;
          reads = record {
            holds = holds_plain e tt h.hold refl;
            canonical = (
              clean_by names bytes (at pos (tuple fs.shapes)) (plain whole (fields pos 0 fs.shapes)) e (struct_clean bytes (fs.resolver x st) pos o q) tt,
              fields_settled _ fs.shapes pos 0 _,
              h.canonical,
            );
            ends = h.ends;
          };
          ascends = h.ascends;
          gaps = h.gaps;
        }

    -- the law of a struct is that of its fields
    pub struct_spells_at : SpellsAt fit (tuple fs.shapes) knows (struct_spelling fs) x
    struct_spells_at = record {
      sized = struct_sized;
      canonical = struct_canonical;
      consistent = all.consistent;
      keyed = λ keys st n known f. let both = all.keyed keys st n known f in (ap group both.0, both.1);
      piece_bytes = all.piece_bytes;
      own_bytes = λ r pos f. bytes_append (fs.own x r pos 0) _ (all.own_bytes r pos 0 f) (bytes_zeros _);
      piece_exact = all.piece_exact;
      own_exact = λ r pos e f k. all.own_exact r pos 0 e f k;
      unshared = all.unshared;
    }

  -- so of every struct
  pub struct_spells : {A R : Type 0} (fs : FieldsSpelling A R) → ((x : A) → FieldsSpellAt fit knows fs x) → Spells fit (tuple fs.shapes) knows (struct_spelling fs)
  struct_spells fs all x = struct_spells_at fs x (all x)

  -- the law of types of one value
  pub unit_spells : {A : Type 0} → Spells fit (tuple no_shapes) knows (unit_spelling {A = A})
  unit_spells x = struct_spells_at no_fields x (no_fields_spell x)

  -- ---- tuples

  -- the law of a value that is seen as a struct is that of the fields, regardless of what their resolvers are kept as
  pub tuple_spells_at : {T A R Q : Type 0} (view : T → A) (make : R → Q) (get : Q → R) (back : (r : R) → get (make r) ≡ r) (fs : FieldsSpelling A R) (x : T)
      → FieldsSpellAt fit knows fs (view x) → SpellsAt fit (tuple fs.shapes) knows (kept_as make get (seen_as view (struct_spelling fs))) x
  tuple_spells_at view make get back fs x h =
      kept_spells_at fit (tuple fs.shapes) knows make get back (seen_as view (struct_spelling fs)) x
      (seen_spells_at fit (tuple fs.shapes) knows view (struct_spelling fs) x (struct_spells_at fs (view x) h))

  -- the law of a field after which there is none
  last_field : {A R : Type 0} (s : Shape) (w : Spelling A R) (x : A) → SpellsAt fit s knows w x → FieldsSpellAt fit knows (more_fields s w (no_fields {A = Unit {0}})) (x, tt)
  last_field s w x one = more_fields_spell s w no_fields x tt one (no_fields_spell tt)

  -- the law of a tuple is that of each of its members
  module _ {A R : Type 0} (s₁ : Shape) (w₁ : Spelling A R) where
    pub tuple1_spells_at : (x : record { 0 : A }) → SpellsAt fit s₁ knows w₁ x.0 → SpellsAt fit (tuple (more_shapes s₁ no_shapes)) knows (tuple1_spelling s₁ w₁) x
    tuple1_spells_at x a = tuple_spells_at _ _ _ (λ r. refl) (more_fields s₁ w₁ (no_fields {A = Unit {0}})) x (last_field s₁ w₁ x.0 a)

    pub tuple1_spells : Spells fit s₁ knows w₁ → Spells fit (tuple (more_shapes s₁ no_shapes)) knows (tuple1_spelling s₁ w₁)
    tuple1_spells f x = tuple1_spells_at x (f x.0)

    module _ {B Q : Type 0} (s₂ : Shape) (w₂ : Spelling B Q) where
      pub tuple2_spells_at : (x : A × B) → SpellsAt fit s₁ knows w₁ x.0 → SpellsAt fit s₂ knows w₂ x.1 → SpellsAt fit (tuple (more_shapes s₁ (more_shapes s₂ no_shapes))) knows (tuple2_spelling s₁ w₁ s₂ w₂) x
      tuple2_spells_at x a b =
          let ones : FieldsSpelling (B × Unit {0}) (Q × Unit {0}) = more_fields s₂ w₂ no_fields in
          tuple_spells_at _ _ _ (λ r. refl) (more_fields s₁ w₁ ones) x (more_fields_spell s₁ w₁ ones x.0 (x.1, tt) a (last_field s₂ w₂ x.1 b))

      pub tuple2_spells : Spells fit s₁ knows w₁ → Spells fit s₂ knows w₂ → Spells fit (tuple (more_shapes s₁ (more_shapes s₂ no_shapes))) knows (tuple2_spelling s₁ w₁ s₂ w₂)
      tuple2_spells f g x = tuple2_spells_at x (f x.0) (g x.1)

      module _ {C P : Type 0} (s₃ : Shape) (w₃ : Spelling C P) where
        pub tuple3_spells_at : (x : A × B × C) → SpellsAt fit s₁ knows w₁ x.0 → SpellsAt fit s₂ knows w₂ x.1 → SpellsAt fit s₃ knows w₃ x.2
            → SpellsAt fit (tuple (more_shapes s₁ (more_shapes s₂ (more_shapes s₃ no_shapes)))) knows (tuple3_spelling s₁ w₁ s₂ w₂ s₃ w₃) x
        tuple3_spells_at x a b c =
            let ones : FieldsSpelling (C × Unit {0}) (P × Unit {0}) = more_fields s₃ w₃ no_fields in
            let twos : FieldsSpelling (B × (C × Unit {0})) (Q × (P × Unit {0})) = more_fields s₂ w₂ ones in
            tuple_spells_at _ _ _ (λ r. refl) (more_fields s₁ w₁ twos) x
            (more_fields_spell s₁ w₁ twos x.0 (x.1, (x.2, tt)) a (more_fields_spell s₂ w₂ ones x.1 (x.2, tt) b (last_field s₃ w₃ x.2 c)))

        pub tuple3_spells : Spells fit s₁ knows w₁ → Spells fit s₂ knows w₂ → Spells fit s₃ knows w₃ → Spells fit (tuple (more_shapes s₁ (more_shapes s₂ (more_shapes s₃ no_shapes)))) knows (tuple3_spelling s₁ w₁ s₂ w₂ s₃ w₃)
        tuple3_spells f g h x = tuple3_spells_at x (f x.0) (g x.1) (h x.2)

        module _ {D O : Type 0} (s₄ : Shape) (w₄ : Spelling D O) where
          pub tuple4_spells_at : (x : A × B × C × D) → SpellsAt fit s₁ knows w₁ x.0 → SpellsAt fit s₂ knows w₂ x.1 → SpellsAt fit s₃ knows w₃ x.2 → SpellsAt fit s₄ knows w₄ x.3
              → SpellsAt fit (tuple (more_shapes s₁ (more_shapes s₂ (more_shapes s₃ (more_shapes s₄ no_shapes))))) knows (tuple4_spelling s₁ w₁ s₂ w₂ s₃ w₃ s₄ w₄) x
          tuple4_spells_at x a b c d =
              let ones : FieldsSpelling (D × Unit {0}) (O × Unit {0}) = more_fields s₄ w₄ no_fields in
              let twos : FieldsSpelling (C × (D × Unit {0})) (P × (O × Unit {0})) = more_fields s₃ w₃ ones in
              let threes : FieldsSpelling (B × (C × (D × Unit {0}))) (Q × (P × (O × Unit {0}))) = more_fields s₂ w₂ twos in
              tuple_spells_at _ _ _ (λ r. refl) (more_fields s₁ w₁ threes) x
              (more_fields_spell s₁ w₁ threes x.0 (x.1, (x.2, (x.3, tt))) a
              (more_fields_spell s₂ w₂ twos x.1 (x.2, (x.3, tt)) b (more_fields_spell s₃ w₃ ones x.2 (x.3, tt) c (last_field s₄ w₄ x.3 d))))

          pub tuple4_spells : Spells fit s₁ knows w₁ → Spells fit s₂ knows w₂ → Spells fit s₃ knows w₃ → Spells fit s₄ knows w₄
              → Spells fit (tuple (more_shapes s₁ (more_shapes s₂ (more_shapes s₃ (more_shapes s₄ no_shapes))))) knows (tuple4_spelling s₁ w₁ s₂ w₂ s₃ w₃ s₄ w₄)
          tuple4_spells f g h k x = tuple4_spells_at x (f x.0) (g x.1) (h x.2) (k x.3)
