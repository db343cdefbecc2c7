-- When the pairs of a map are the same as those of a map of std.
use denote.Ref.{Bor}
use Rattle.std.specs.Prelude.{◌≡◌, ℕ, Bool, true, false, List, [], ◌∷◌, length, ◌⊎◌, All}
use Rattle.std.specs.List.{AllZip}
use Rattle.std.specs.declared.cmp.Ordering.{Ordering}
use Rattle.archive_shape.specs.declared.references.refs.Ref.{Ref}
use Rattle.archive_btree_layout.specs.Reading.{Place}
use Rattle.archive_btree_maps.specs.Lookups.{IsSameAs}

-- the key at a place is the same as that of a pair, and the value as its value
abbrev pub IsSameEntry : {Q W : Type 0} → (List ℕ → ℕ → Q → Type 0) → (Q → Q → Ordering) → (List ℕ → ℕ → W → Type 0) → (W → W → Ordering) → List ℕ → Place → Q × W → Type 0
IsSameEntry key_of key_order value_of value_order bytes e pair = IsSameAs key_of key_order bytes e.key pair.0 × IsSameAs value_of value_order bytes e.value pair.1

-- the same of the key and the value that two references lead to
abbrev pub IsSamePair : {K V Q W : Type 0} → (List ℕ → ℕ → Q → Type 0) → (Q → Q → Ordering) → (List ℕ → ℕ → W → Type 0) → (W → W → Ordering) → Ref K × Ref V → Q × W → Type 0
IsSamePair key_of key_order value_of value_order entry pair = IsSameAs key_of key_order entry.0.bytes.now entry.0.pos pair.0 × IsSameAs value_of value_order entry.1.bytes.now entry.1.pos pair.1

-- a call with a value and one of std, wherever that one is lent, returns this
abbrev pub CallsValue : {V W : Type 0} → (Ref V → Bor W → Bool → Type 0) → Ref V → W → Bool → Type 0
CallsValue {W} post value other answer = (lent : Bor W) × (lent.now ≡ other) × post value lent answer

-- whether the key at a position and a value are the same as a pair: the keys are, and the call with the values returns
-- true; or the keys are not, or the call returns false
abbrev pub IsPairSameAt : {V Q W : Type 0} → (List ℕ → ℕ → Q → Type 0) → (Q → Q → Ordering) → (Ref V → Bor W → Bool → Type 0) → List ℕ → ℕ → Ref V → Q × W → Bool → Type 0
IsPairSameAt key_of key_order post bytes pos value pair true = IsSameAs key_of key_order bytes pos pair.0 × CallsValue post value pair.1 true
IsPairSameAt key_of key_order post bytes pos value pair false = (IsSameAs key_of key_order bytes pos pair.0 → ⊥) ⊎ CallsValue post value pair.1 false

-- the same of the key and the value that two references lead to
abbrev pub IsPairSame : {K V Q W : Type 0} → (List ℕ → ℕ → Q → Type 0) → (Q → Q → Ordering) → (Ref V → Bor W → Bool → Type 0) → Ref K × Ref V → Q × W → Bool → Type 0
IsPairSame key_of key_order post entry pair answer = IsPairSameAt key_of key_order post entry.0.bytes.now entry.0.pos entry.1 pair answer

-- a relation holds of the items of two lists at some place
abbrev pub AnyZip : {A B : Type 0} → (A → B → Type 0) → List A → List B → Type 0
AnyZip R [] ys = ⊥
AnyZip R (x ∷ xs) [] = ⊥
AnyZip R (x ∷ xs) (y ∷ ys) = R x y ⊎ AnyZip R xs ys

-- whether two lists are the same: they are as long, and their items are the same one by one; or they are not as long,
-- or some items at one place are not the same
abbrev pub AreSame : {A B : Type 0} → (A → B → Bool → Type 0) → List A → List B → Bool → Type 0
AreSame is_same xs ys true = AllZip (λ x y. is_same x y true) xs ys
AreSame is_same xs ys false = (length xs ≡ length ys → ⊥) ⊎ AnyZip (λ x y. is_same x y false) xs ys

-- the closure may be called with a value and the values of all these pairs
abbrev pub MayCallValue : {V Q W : Type 0} → (Ref V → Bor W → Type 0) → List (Q × W) → Ref V → Type 0
MayCallValue {W} pre pairs value = All (λ pair. (lent : Bor W) → lent.now ≡ pair.1 → pre value lent) pairs
