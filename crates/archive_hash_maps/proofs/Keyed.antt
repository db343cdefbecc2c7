-- What look-ups of entries of maps to `()` state about the keys of sets.
use denote.Ref.{Bor}
use Rattle.std.proofs.Common.{◌≡◌, ℕ, Bool, true, false, List, [], ◌∷◌, map, Option, Some, None, MatchOption, All, Contains, refl, subst, arith}
use Rattle.std.specs.Prelude.{⊤}
use Rattle.std.specs.Option.{option_map}
use Rattle.std.proofs.lemmas.List.Elements.{All-nil, All-cons, All-map, All-contains, Contains-append_right}
use Rattle.archive_shape_layout.specs.Shape.{Shape}
use Rattle.archive_shape_layout.specs.Shape.Shape.{tuple}
use Rattle.archive_shape_layout.specs.Shape.Shapes.{no_shapes}
use Rattle.archive_shape_layout.specs.Content.{Names}
use Rattle.archive_shape.specs.declared.references.refs.Ref.{Ref}
use Rattle.archive_forms_laws.specs.Orders.{Equality, unit_equality}
use Rattle.archive_forms_comparing.specs.Compared.{OfBoth}
use Rattle.archive_forms_values.specs.Parts.{HasValue}
use Rattle.archive_forms_values.specs.Fields.{field_position}
use Rattle.archive_hash_maps.specs.Tables.{Buckets, item_positions}
use Rattle.archive_hash_maps.specs.Places.{FindsAccepted}
use Rattle.archive_hash_maps.specs.Maps.{LooksUpKey, key_at, entry_at}
use Rattle.archive_hash_maps.specs.Equal.{EqualSays, HasEqual}
use Rattle.archive_hash_maps.proofs.Entries.{HasParts, entries_there}
use Rattle.archive_hash_maps.proofs.Paired.{mapped}
use Rattle.archive_hash_maps.specs.Sets.{HasSet, IsSetAt, kept_key}
use Rattle.archive_hash_maps.specs.EqualKeys.{HasEqualKey}

-- what is read of each of some values is among what is read of them
among_read : {A B : Type 0} (f : A → B) (xs : List A) → All (λ x. Contains (map f xs) (f x)) xs
among_read f [] = All-nil (λ x. Contains (map f []) (f x))
among_read f (x ∷ xs) =
    All-cons (λ y. Contains (map f (x ∷ xs)) (f y)) x xs (0, omega arith, refl) (λ i d less. Contains-append_right (f x ∷ []) (map f xs) _ (among_read f xs i d less))

-- what is found is one of the table's items
found_item : (says : ℕ → Bool → Type 0) (s : Shape) (b : Buckets) (o : Option ℕ) (at : ℕ) → Some at ≡ option_map (λ p. p) o → FindsAccepted says s b o → Contains (item_positions s b) at
found_item says s b None at e h = absurd cc
found_item says s b (Some q) at e h = let same : q ≡ at = cc in subst (Contains (item_positions s b)) same h.0

abbrev pub unit_shape : Shape
unit_shape = tuple no_shapes

abbrev pub HasUnit : List ℕ → ℕ → Type 0
HasUnit bytes pos = HasValue unit_shape (λ _. ⊤) bytes pos

module _ {K : Type 0} (hashes : Ref K → ℕ → Type 0) (k : Shape) (knows : Names → Type 0) (equal : Equality) (bytes : List ℕ) (pos : ℕ) (b : Buckets)
    (has : HasSet k knows bytes pos) (is : IsSetAt bytes k pos b) where
  by_found : (entry : Ref K × Ref (Unit {0})) (x : Bool) (found : Option ℕ) → HasUnit entry.1.bytes.now entry.1.pos
      → LooksUpKey (hashes entry.0) (EqualSays k knows equal bytes entry.0) (λ at. at) k unit_shape b found
      → MatchOption found (x ≡ false) (λ at. OfBoth unit_shape (λ _. ⊤) entry.1.bytes.now entry.1.pos bytes (field_position k no_shapes unit_shape at) unit_equality x)
      → HasEqualKey hashes k knows equal bytes b entry.0 x
  by_found entry x None there looks says = record { found = None; looks_up = looks; says = says }
  by_found entry x (Some at) there looks says =
      let a = looks.answers in
      let among = found_item (EqualSays k knows equal bytes entry.0) (kept_key k) b a.position at a.is a.accepted in
      let unit = (All-contains (HasParts k unit_shape knows (λ _. ⊤) bytes) (item_positions (kept_key k) b) at (entries_there k unit_shape knows (λ _. ⊤) bytes pos has b is) among).value in
      record { found = Some at; looks_up = looks; says = says there.value unit.value there.held unit.held }

  -- all units are equal, so that what decides is whether the key is found
  keyed : (entry : Ref K × Ref (Unit {0})) (x : Bool) → HasUnit entry.1.bytes.now entry.1.pos
      → HasEqual hashes k unit_shape knows (λ _. ⊤) equal unit_equality bytes b entry x → HasEqualKey hashes k knows equal bytes b entry.0 x
  keyed entry x there h = by_found entry x h.found there h.looks_up h.says

  -- the entries of another map to `()` in the bytes of a set
  module _ (own : Bor (List ℕ)) (ps : List ℕ) (units : All (λ (e : Ref K × Ref (Unit {0})). HasValue k knows e.0.bytes.now e.0.pos × HasUnit e.1.bytes.now e.1.pos) (map (entry_at own k unit_shape) ps)) where
    abbrev entries : List (Ref K × Ref (Unit {0}))
    entries = map (entry_at own k unit_shape) ps

    keys_are : map (λ e. e.0) entries ≡ map (key_at own) ps
    keys_are = mapped (entry_at {K = K} {V = Unit {0}} own k unit_shape) (λ e. e.0) ps

    pub all_keyed : All (λ (e : Ref K × Ref (Unit {0})). HasEqual hashes k unit_shape knows (λ _. ⊤) equal unit_equality bytes b e true) entries
        → All (λ (key : Ref K). HasEqualKey hashes k knows equal bytes b key true) (map (key_at own) ps)
    all_keyed all =
        subst (All (λ (key : Ref K). HasEqualKey hashes k knows equal bytes b key true)) keys_are
        (All-map (λ (key : Ref K). HasEqualKey hashes k knows equal bytes b key true) (λ e. e.0) entries (λ i d less. keyed _ true (units i d less).1 (all i d less)))

    pub one_unkeyed : (e : Ref K × Ref (Unit {0})) → Contains entries e → HasEqual hashes k unit_shape knows (λ _. ⊤) equal unit_equality bytes b e false
        → (key : Ref K) × Contains (map (key_at own) ps) key × HasEqualKey hashes k knows equal bytes b key false
    one_unkeyed e among h =
        let unit = All-contains (λ (e : Ref K × Ref (Unit {0})). HasValue k knows e.0.bytes.now e.0.pos × HasUnit e.1.bytes.now e.1.pos) entries e units among in
        let key = All-contains (λ x. Contains (map (λ e. e.0) entries) x.0) entries e (among_read (λ e. e.0) entries) among in
        (e.0, subst (λ l. Contains l e.0) keys_are key, keyed e false unit.1 h)
