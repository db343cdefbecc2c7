-- The results of look-ups of items by hashes.
use denote.Ref.{Bor}
use Rattle.std.proofs.Common.{◌≡◌, ◌∙◌, ℕ, ◌≤◌, Bool, List, Option, Some, None, refl, ap, sym}
use Rattle.std.specs.Option.{option_map}
use Rattle.archive_shape_layout.specs.Shape.{Shape}
use Rattle.archive_hash_maps.specs.Tables.{Buckets}
use Rattle.archive_shape.specs.declared.references.refs.Ref.{Ref}
use Rattle.archive_shape_canonical.specs.Strides.{sixteens}
use Rattle.archive_hash_maps.specs.Places.{item_at, LooksUp, FindsAccepted, FindsTheOnly}
use Rattle.archive_hash_maps.specs.Maps.{LooksUpHash}
use Rattle.archive_hash_maps.proofs.Lookups.{item_is}

pub same_position : (o : Option ℕ) → o ≡ option_map (λ at. at) o
same_position None = refl
same_position (Some at) = refl

-- a look-up of a position is a look-up of the value there
pub looks_up_of :
    {A : Type 0} (hashes : ℕ → Type 0) (says : ℕ → Bool → Type 0) (item : ℕ → A) (s : Shape) (b : Buckets) (o : Option ℕ) (found : Option A)
    → found ≡ option_map item o → LooksUpHash hashes says (λ at. at) s b o → LooksUpHash hashes says item s b found
looks_up_of hashes says item s b o found is h =
    let a = h.answers in
    record {
      hash = h.hash;
      strides = h.strides;
      is_hash = h.is_hash;
      answers =
          record {
            position = a.position;
            is = is ∙ ap (option_map item) (a.is ∙ sym (same_position a.position));
            looks_up = a.looks_up;
            accepted = a.accepted;
            only = a.only;
            few = a.few;
          };
    }

pub pair_is :
    {K V : Type 0} (bytes : Bor (List ℕ)) (p q : ℕ) (key : Ref K) (value : Ref V)
    → key.bytes ≡ bytes → key.pos ≡ p → value.bytes ≡ bytes → value.pos ≡ q
    → let made : Ref K × Ref V = (key, value) in
    let there : Ref K × Ref V = (item_at bytes p, item_at bytes q) in
    Some made ≡ Some there
pair_is bytes p q key value a b c d = let e = item_is bytes p key a b in let f = item_is bytes q value c d in cc

-- the result of a search of a table is a look-up of a position
pub position_of : (hashes : ℕ → Type 0) (says : ℕ → Bool → Type 0) (s : Shape) (b : Buckets) (hash strides : ℕ) (o : Option ℕ) → hashes hash
    → LooksUp says s b hash o strides → FindsAccepted says s b o → FindsTheOnly says s b hash o → strides ≤ sixteens b.cap
    → LooksUpHash hashes says (λ at. at) s b o
position_of hashes says s b hash strides o is looks_up accepted only few =
    record {
      hash = hash;
      strides = strides;
      is_hash = is;
      answers = record { position = o; is = same_position o; looks_up = looks_up; accepted = accepted; only = only; few = few };
    }

mapped_twice : {A B : Type 0} (item : ℕ → A) (g : A → B) (o : Option ℕ) → option_map g (option_map item o) ≡ option_map (λ at. g (item at)) o
mapped_twice item g None = refl
mapped_twice item g (Some at) = refl

-- what is read of the result of a look-up is itself a look-up
pub looks_up_as :
    {A B : Type 0} (hashes : ℕ → Type 0) (says : ℕ → Bool → Type 0) (item : ℕ → A) (g : A → B) (s : Shape) (b : Buckets) (found : Option A) (other : Option B)
    → other ≡ option_map g found → LooksUpHash hashes says item s b found → LooksUpHash hashes says (λ at. g (item at)) s b other
looks_up_as hashes says item g s b found other is h =
    let a = h.answers in
    record {
      hash = h.hash;
      strides = h.strides;
      is_hash = h.is_hash;
      answers =
          record {
            position = a.position;
            is = is ∙ ap (option_map g) a.is ∙ mapped_twice item g a.position;
            looks_up = a.looks_up;
            accepted = a.accepted;
            only = a.only;
            few = a.few;
          };
    }
