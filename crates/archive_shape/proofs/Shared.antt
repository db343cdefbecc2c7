-- Shared positions: what an accepted part says of what was seen there, and that one entry clashes in one way.
use Rattle.std.proofs.Common.{◌≡◌, ℕ, List, ◌∷◌, Bool, true, false, Option, Some, None, refl, sym, ap, ◌∙◌}
use Rattle.archive_shape_layout.specs.Shape.{Pointee}
use Rattle.archive_shape_layout.specs.Value.{Value}
use Rattle.archive_shape_layout.specs.Content.{Names, Part, content_of}
use Rattle.archive_shape_layout.specs.Content.Part.{behind}
use Rattle.archive_shape_layout.specs.Content.Content.{counting}
use Rattle.archive_shape_layout.specs.Holds.{Region, Visit, OpenShared}
use Rattle.archive_shape_layout.proofs.Unique.{by_counting, CountedHolds}
use Rattle.archive_shape_layout.proofs.Unique.CountedHolds.{is_first, is_later, is_back}
use Rattle.archive_shape.specs.Range.{Range}
use Rattle.archive_shape.specs.Accepts.{Passes}
use Rattle.archive_shape.specs.PartFault.{Entry, entry_at, Differs, Clash}
use Rattle.archive_shape.specs.PartFault.Differs.{other_shape, other_length}
use Rattle.archive_shape.specs.PartFault.Clash.{differs, inside_itself}
use Rattle.archive_shape_layout.specs.declared.error.Error.{Error}

pub one_entry : (o : Option Entry) (x y : Entry) → o ≡ Some x → o ≡ Some y → x ≡ y
one_entry o x y e f = cc

-- ---- clashes

-- an entry of the same shape and length, whose check has ended where its flavor forbids cycles, does not clash
pub no_clash : (cyclic : Bool) (q : Pointee) (len : ℕ) (x : Entry) (e : Error) → x.pointee ≡ q → x.len ≡ len → (cyclic ≡ false → x.done ≡ true) → Clash cyclic q len x e → ⊥
no_clash cyclic q len x e p l d (differs (other_shape n f)) = n p
no_clash cyclic q len x e p l d (differs (other_length s n f)) = n l
no_clash cyclic q len x e p l d (inside_itself c s m n f) = let b : true ≡ false = sym (d c) ∙ n in cc

one_difference : (q : Pointee) (len : ℕ) (x : Entry) (e d : Error) → Differs q len x e → Differs q len x d → e ≡ d
one_difference q len x e d (other_shape n f) (other_shape m g) = f ∙ sym g
one_difference q len x e d (other_shape n f) (other_length s m g) = absurd (n s)
one_difference q len x e d (other_length s n f) (other_shape m g) = absurd (m s)
one_difference q len x e d (other_length s n f) (other_length t m g) = f ∙ sym g

same_does_not_differ : (q : Pointee) (len : ℕ) (x : Entry) (e : Error) → x.pointee ≡ q → x.len ≡ len → Differs q len x e → ⊥
same_does_not_differ q len x e p l (other_shape n f) = n p
same_does_not_differ q len x e p l (other_length s n f) = n l

pub one_clash : (cyclic : Bool) (q : Pointee) (len : ℕ) (x : Entry) (e d : Error) → Clash cyclic q len x e → Clash cyclic q len x d → e ≡ d
one_clash cyclic q len x e d (differs f) (differs g) = one_difference q len x e d f g
one_clash cyclic q len x e d (differs f) (inside_itself c s m n g) = absurd (same_does_not_differ q len x e s m f)
one_clash cyclic q len x e d (inside_itself c s m n f) (differs g) = absurd (same_does_not_differ q len x d s m g)
one_clash cyclic q len x e d (inside_itself c s m n f) (inside_itself b t l o g) = f ∙ sym g

-- ---- accepted pointers

module _ (names : Names) (bytes : List ℕ) (inside : List OpenShared) (before : List Visit) where
  -- what was seen is of the same shape and length, and its check has ended, or its flavor allows cycles
  counted_entry :
      (level : ℕ) (cyclic : Bool) (t : ℕ) (q : Pointee) (len : ℕ) (v : Value) (rs : List Region) (after : List Visit) (x : Entry)
      → CountedHolds names bytes level inside cyclic t q len v rs before after
      → entry_at inside before t ≡ Some x
      → (x.pointee ≡ q) × ((x.len ≡ len) × (cyclic ≡ false → x.done ≡ true))
  counted_entry level cyclic t q len v rs after x (is_first a b h d g) e =
      let none : ◌≡◌ {A = Option Entry} None (Some x) = rw (a, b) at e in absurd (cc)
  counted_entry level cyclic t q len v rs after x (is_later a b d g h) e =
      let same = one_entry (entry_at inside before t) x (record { pointee = q; len = len; done = true }) e (rw (a, b) refl) in
      (ap (λ (y : Entry). y.pointee) same, (ap (λ (y : Entry). y.len) same, λ c. ap (λ (y : Entry). y.done) same))
  counted_entry level cyclic t q len v rs after x (is_back c a d g h) e =
      let same = one_entry (entry_at inside before t) x (record { pointee = q; len = len; done = false }) e (rw a refl) in
      (ap (λ (y : Entry). y.pointee) same, (ap (λ (y : Entry). y.len) same, λ f. let b : true ≡ false = sym c ∙ f in cc))

  pub again_refused : (p : Part) (k : Range) (cyclic : Bool) (t : ℕ) (q : Pointee) (len : ℕ) (x : Entry) (e : Error) → content_of names bytes p ≡ counting cyclic t q len → entry_at inside before t ≡ Some x → Clash cyclic q len x e → Passes names bytes inside before p k → ⊥
  again_refused p k cyclic t q len x e c met clash h =
      let same = counted_entry k.level cyclic t q len h.value h.regions h.after x (by_counting names bytes c h.accepts.holds) met in
      no_clash cyclic q len x e same.0 same.1.0 same.1.1 clash

  first_counted :
      (k : Range) (cyclic : Bool) (t : ℕ) (q : Pointee) (len : ℕ) (p : Part) (h : Passes names bytes inside before p k)
      → CountedHolds names bytes k.level inside cyclic t q len h.value h.regions before h.after
      → entry_at inside before t ≡ None
      → Passes names bytes (record { pos = t; pointee = q; len = len } ∷ inside) before (behind t q len) k
  first_counted k cyclic t q len p h (is_first {w = w} {between = between} a b i d g) e =
      record { value = w; regions = h.regions; after = between; accepts = record { holds = i; ascends = h.accepts.ascends; nests = h.accepts.nests } }
  first_counted k cyclic t q len p h (is_later {w = w} a b d g i) e =
      let some : ◌≡◌ {A = Option Entry} (Some (record { pointee = q; len = len; done = true })) None = rw (a, b) at e in absurd (cc)
  first_counted k cyclic t q len p h (is_back c a d g i) e =
      let some : ◌≡◌ {A = Option Entry} (Some (record { pointee = q; len = len; done = false })) None = rw a at e in absurd (cc)

  -- at the first visit, what the pointer leads to is accepted
  pub first_visited : (p : Part) (k : Range) (cyclic : Bool) (t : ℕ) (q : Pointee) (len : ℕ) → content_of names bytes p ≡ counting cyclic t q len → entry_at inside before t ≡ None → Passes names bytes inside before p k → Passes names bytes (record { pos = t; pointee = q; len = len } ∷ inside) before (behind t q len) k
  first_visited p k cyclic t q len c none h = first_counted k cyclic t q len p h (by_counting names bytes c h.accepts.holds) none
