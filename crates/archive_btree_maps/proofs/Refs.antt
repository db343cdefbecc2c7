-- Values in a buffer, and what a search finds.
use denote.Ref.{Bor}
use Rattle.std.proofs.Common.{◌≡◌, ◌∙◌, ℕ, List, [], ◌∷◌, map, Option, Some, None, IsSome, IsTrue, IfSome, Contains, refl, ap, sym, subst}
use Rattle.std.specs.Option.{option_map, is_some}
use Rattle.std.specs.Ordering.{ordering_reverse}
use Rattle.std.specs.declared.cmp.Ordering.{Ordering}
use Rattle.std.specs.declared.cmp.Ordering.TheVariants.{Less, Equal, Greater}
use Rattle.archive_shape.specs.declared.references.refs.Ref.{Ref}
use Rattle.archive_btree_layout.specs.Reading.{Place}
use Rattle.archive_btree_maps.specs.SearchingNodes.{place_of}
use Rattle.archive_btree_maps.specs.declared.nodes.searching.node.EntryAt.{EntryAt}
use Rattle.archive_btree_maps.specs.Refs.{ref_at}
use Rattle.archive_btree_maps.specs.Lookups.{Finds}

-- a value in a buffer is determined by the buffer and its position
pub ref_is : {T : Type 0} (bytes : Bor (List ℕ)) (p : ℕ) (r : Ref T) → r.bytes ≡ bytes → r.pos ≡ p → r ≡ ref_at bytes p
ref_is {T} bytes p r e f =
    let first : r ≡ ref_at bytes r.pos = ap (λ b. ref_at b {T = T} r.pos) e in
    first ∙ ap (λ n. ref_at bytes {T = T} n) f

pub pair_is :
    {K V : Type 0} (bytes : Bor (List ℕ)) (p q : ℕ) (key : Ref K) (value : Ref V)
    → key.bytes ≡ bytes → key.pos ≡ p → value.bytes ≡ bytes → value.pos ≡ q
    → let made : Ref K × Ref V = (key, value) in
    let there : Ref K × Ref V = (ref_at bytes p, ref_at bytes q) in
    made ≡ there
pair_is bytes p q key value a b c d = let e = ref_is bytes p key a b in let f = ref_is bytes q value c d in cc

-- where a search finds an entry, what lies at the entry's place is found
pub found_at : {B : Type 0} (f : Place → B) (o : Option EntryAt) (d : Option Place) (e : EntryAt) → option_map place_of o ≡ d → o ≡ Some e → Some (f (place_of e)) ≡ option_map f d
found_at f o d e h is = ap (λ x. option_map f (option_map place_of x)) (sym is) ∙ ap (option_map f) h

pub none_found : {B : Type 0} (f : Place → B) (o : Option EntryAt) (d : Option Place) → option_map place_of o ≡ d → o ≡ None → None ≡ option_map f d
none_found f o d h is = ap (λ x. option_map f (option_map place_of x)) (sym is) ∙ ap (option_map f) h

pub same_some : (o : Option EntryAt) (d : Option Place) → option_map place_of o ≡ d → is_some o ≡ is_some d
same_some None d h = ap is_some h
same_some (Some e) d h = ap is_some h

pub some_mapped : {B : Type 0} (f : Place → B) (o : Option B) (d : Option Place) (e : Place) → o ≡ option_map f d → d ≡ Some e → IsSome o
some_mapped f o d e h is = ap is_some (h ∙ ap (option_map f) is)

-- ---- what is found of an entry

pub finds_some :
    {A : Type 0} (of : Place → A) (holds : Place → Type 0) (places : List Place) (o : Option EntryAt) (e : EntryAt) (a : A)
    → Finds (λ e. e) holds places (option_map place_of o) → o ≡ Some e → a ≡ of (place_of e) → Finds of holds places (Some a)
finds_some of holds places None e a h is same = absurd cc
finds_some of holds places (Some d) e a h is same = let f : d ≡ e = cc in (h.0, h.1, h.2, same ∙ ap (λ x. of (place_of x)) (sym f) ∙ ap of h.3)

-- what a search finds among places
pub finds_called : (holds : Place → Type 0) (places : List Place) (o : Option EntryAt) → IfSome o (λ e. Contains places (place_of e) × holds (place_of e)) → Finds (λ e. e) holds places (option_map place_of o)
finds_called holds places None h = tt
finds_called holds places (Some e) h = (place_of e, h.0, h.1, refl)

pub reversed_equal : (o : Ordering) → Equal ≡ ordering_reverse o → o ≡ Equal
reversed_equal Less h = cc
reversed_equal Equal h = refl
reversed_equal Greater h = cc

pub found_some : (o : Option EntryAt) (holds : Place → Type 0) (places : List Place) → IsTrue (is_some o) → Finds (λ e. e) holds places (option_map place_of o) → (e : Place) × Contains places e × holds e
found_some None holds places y h = absurd cc
found_some (Some e) holds places y h = (h.0, h.1, h.2)

-- one map after another
pub mapped : {A B C : Type 0} (f : A → B) (h : B → C) (xs : List A) → map h (map f xs) ≡ map (λ x. h (f x)) xs
mapped f h [] = refl
mapped f h (x ∷ xs) = ap (λ s. h (f x) ∷ s) (mapped f h xs)

-- what holds of what lies at places holds of values that lie there, and the other way round
module _ {K V : Type 0} (P : Ref K → Ref V → Type 0) (bytes : Bor (List ℕ)) (p q : ℕ) (key : Ref K) (value : Ref V) (a : key.bytes ≡ bytes) (b : key.pos ≡ p) (c : value.bytes ≡ bytes) (d : value.pos ≡ q) where
  pub at_values : P (ref_at bytes p) (ref_at bytes q) → P key value
  at_values h = subst (λ k. P k value) (sym (ref_is bytes p key a b)) (subst (λ v. P (ref_at bytes p) v) (sym (ref_is bytes q value c d)) h)

  pub at_places : P key value → P (ref_at bytes p) (ref_at bytes q)
  at_places h = subst (λ v. P (ref_at bytes p) v) (ref_is bytes q value c d) (subst (λ k. P k value) (ref_is bytes p key a b) h)
