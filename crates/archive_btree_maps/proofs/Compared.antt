-- Entries of two maps are compared one by one.
use denote.Ref.{Bor}
use Rattle.std.proofs.Common.{◌≡◌, ◌∙◌, ℕ, suc, ◌&&◌, Bool, true, false, List, [], ◌∷◌, length, map, ◌⊎◌, inl, inr, refl, sym, ap, subst}
use Rattle.std.specs.Cmp.Lexicographic.{pointwise}
use Rattle.archive_shape_layout.specs.Shape.{Shape}
use Rattle.archive_shape_layout.specs.Shape.Shape.{tree}
use Rattle.archive_shape_layout.specs.Value.{Value, Values}
use Rattle.archive_shape_layout.specs.Value.Value.{group}
use Rattle.archive_shape_layout.specs.Value.Values.{no_values, more_values}
use Rattle.archive_shape_layout.specs.Content.{Names, members}
use Rattle.archive_shape.specs.declared.references.refs.Ref.{Ref}
use Rattle.archive_btree_layout.specs.Reading.{Place}
use Rattle.archive_btree_layout.specs.Tree.{Tree, items}
use Rattle.archive_shape.specs.Key.{HeldAt}
use Rattle.archive_forms_laws.specs.Views.{listed, elements_of}
use Rattle.archive_forms_laws.specs.Orders.{Equality}
use Rattle.archive_forms_values.specs.Parts.{both}
use Rattle.archive_forms_comparing.proofs.Ordered.{equal_end}
use Rattle.archive_forms_comparing.proofs.Elements.{equal_ends}
use Rattle.archive_btree_maps.specs.Maps.{IsMapAt, AreEntriesAt}
use Rattle.archive_btree_maps.specs.Refs.{entry_at}
use Rattle.archive_btree_maps.specs.MapComparing.{pair_equality, IsPairAt, HasPairs, ArePairsAt}
use Rattle.archive_btree_maps.proofs.ReadTree.{map_is_read}

-- one of two lists that are as long has ended, and so the first has
pub first_ended : (A B : Type 0) (xs : List A) (ys : List B) → ((u : List A) × ((xs ≡ []) × (u ≡ []))) ⊎ ((u : List B) × ((ys ≡ []) × (u ≡ []))) → length xs ≡ length ys → length xs ≡ 0
first_ended A B xs ys (inl h) e = ap length h.1.0
first_ended A B xs ys (inr h) e = e ∙ ap length h.1.0

module _ {K V : Type 0} (k v : Shape) (knows others : Names → Type 0) where
  pub pairs_counted : (es : List (Ref K × Ref V)) (ps : List Value) → ArePairsAt k v knows others es ps → length es ≡ length ps
  pairs_counted [] [] h = refl
  pairs_counted [] (p ∷ ps) h = absurd h
  pairs_counted (e ∷ es) [] h = absurd h
  pairs_counted (e ∷ es) (p ∷ ps) h = ap suc (pairs_counted es ps h.1)

  -- pairs are equal where their keys and their values are
  pub pair_decided : (E F : Equality) (x y : Ref K × Ref V) (p q : Value) (h : IsPairAt k v knows others x p) (i : IsPairAt k v knows others y q) (b c : Bool) → b ≡ E h.key i.key → c ≡ F h.value i.value
      → (b && c) ≡ pair_equality E F p q
  pair_decided E F x y p q h i b c e f =
      let whole : pair_equality E F p q ≡ (E h.key i.key && (F h.value i.value && true)) = λ j. pair_equality E F (h.is j) (i.is j) in
      let both : (b && c) ≡ (E h.key i.key && F h.value i.value) = λ j. e j && f j in
      both ∙ ap (λ r. E h.key i.key && r) (equal_end (F h.value i.value)) ∙ sym whole

  -- the first of some pairs, and the others
  pub record Parted (e : Ref K × Ref V) (es : List (Ref K × Ref V)) (ps : List Value) : Type 0 where
    pub first : Value
    pub rest : List Value
    pub is : ps ≡ first ∷ rest
    pub pair : IsPairAt k v knows others e first
    pub pairs : ArePairsAt k v knows others es rest

  pub parted : (e : Ref K × Ref V) (es : List (Ref K × Ref V)) (ps : List Value) → ArePairsAt k v knows others (e ∷ es) ps → Parted e es ps
  parted e es [] h = absurd h
  parted e es (p ∷ ps) h = record { first = p; rest = ps; is = refl; pair = h.0; pairs = h.1 }

  module _ (E F : Equality) where
    -- of all pairs, those decide that lie at the entries that are left
    pub record Left (xs ys : List (Ref K × Ref V)) (ps qs : List Value) : Type 0 where
      pub rest : List Value
      pub others_rest : List Value
      pub stand : ArePairsAt k v knows others xs rest
      pub others_stand : ArePairsAt k v knows others ys others_rest
      pub decide : pointwise (pair_equality E F) ps qs ≡ pointwise (pair_equality E F) rest others_rest

    abbrev pub AreLeft : List (Ref K × Ref V) → List (Ref K × Ref V) → List (Ref K × Ref V) → List (Ref K × Ref V) → Type 0
    AreLeft these those xs ys = (ps qs : List Value) → ArePairsAt k v knows others these ps → ArePairsAt k v knows others those qs → Left xs ys ps qs

    pub at_start : (these those xs ys : List (Ref K × Ref V)) → xs ≡ these → ys ≡ those → AreLeft these those xs ys
    at_start these those xs ys e f ps qs h i =
        record {
          rest = ps;
          others_rest = qs;
          stand = subst (λ zs. ArePairsAt k v knows others zs ps) (sym e) h;
          others_stand = subst (λ zs. ArePairsAt k v knows others zs qs) (sym f) i;
          decide = refl;
        }

    pub stepped : (these those xs ys : List (Ref K × Ref V)) (x y : Ref K × Ref V) (more others_more : List (Ref K × Ref V)) → xs ≡ x ∷ more → ys ≡ y ∷ others_more → AreLeft these those xs ys
        → AreLeft these those (x ∷ more) (y ∷ others_more)
    stepped these those xs ys x y more others_more e f left =
        subst (λ zs. AreLeft these those (x ∷ more) zs) f (subst (λ zs. AreLeft these those zs ys) e left)

    module _ (these those : List (Ref K × Ref V)) (has : HasPairs k v knows others these) (have : HasPairs k v knows others those)
        (x y : Ref K × Ref V) (more others_more : List (Ref K × Ref V)) (left : AreLeft these those (x ∷ more) (y ∷ others_more)) where
      pub this_stands : (p : Value) × IsPairAt k v knows others x p
      this_stands =
          let one = left has.pairs have.pairs has.stand have.stand in
          let p = parted x more one.rest one.stand in
          (p.first, p.pair)

      pub other_stands : (p : Value) × IsPairAt k v knows others y p
      other_stands =
          let one = left has.pairs have.pairs has.stand have.stand in
          let p = parted y others_more one.others_rest one.others_stand in
          (p.first, p.pair)

    module _ (x y : Ref K × Ref V) (xs ys : List (Ref K × Ref V)) (ps qs : List Value) (b : Bool)
        (is : (p q : Value) → IsPairAt k v knows others x p → IsPairAt k v knows others y q → b ≡ pair_equality E F p q)
        (left : Left (x ∷ xs) (y ∷ ys) ps qs) where
      first_decides : pointwise (pair_equality E F) ps qs ≡ (b && pointwise (pair_equality E F) (parted x xs left.rest left.stand).rest (parted y ys left.others_rest left.others_stand).rest)
      first_decides =
          let p = parted x xs left.rest left.stand in
          let q = parted y ys left.others_rest left.others_stand in
          let one : pair_equality E F p.first q.first ≡ b = sym (is p.first q.first p.pair q.pair) in
          let spelled : pointwise (pair_equality E F) left.rest left.others_rest ≡ pointwise (pair_equality E F) (p.first ∷ p.rest) (q.first ∷ q.rest) = λ i. pointwise (pair_equality E F) (p.is i) (q.is i) in
          left.decide ∙ spelled ∙ ap (λ c. c && pointwise (pair_equality E F) p.rest q.rest) one

      pub unequal_first : b ≡ false → false ≡ pointwise (pair_equality E F) ps qs
      unequal_first e =
          sym (first_decides ∙ ap (λ c. c && pointwise (pair_equality E F) (parted x xs left.rest left.stand).rest (parted y ys left.others_rest left.others_stand).rest) e)

      pub equal_first : b ≡ true → Left xs ys ps qs
      equal_first e =
          let p = parted x xs left.rest left.stand in
          let q = parted y ys left.others_rest left.others_stand in
          record {
            rest = p.rest;
            others_rest = q.rest;
            stand = p.pairs;
            others_stand = q.pairs;
            decide = first_decides ∙ ap (λ c. c && pointwise (pair_equality E F) p.rest q.rest) e;
          }

    pub all_equal : (xs ys : List (Ref K × Ref V)) (ps qs : List Value) → length xs ≡ 0 → length ys ≡ 0 → Left xs ys ps qs → true ≡ pointwise (pair_equality E F) ps qs
    all_equal xs ys ps qs d e left =
        sym (left.decide ∙ equal_ends (pair_equality E F) left.rest left.others_rest 0 (sym (pairs_counted xs left.rest left.stand) ∙ d) (sym (pairs_counted ys left.others_rest left.others_stand) ∙ e))

-- ---- the pairs of a map's value lie at its entries

listed_members : (value : Value) → listed (members value) ≡ elements_of value
listed_members (group vs) = refl
listed_members _ = refl

module _ (K V : Type 0) (k v : Shape) (knows others : Names → Type 0) (bytes : Bor (List ℕ)) where
  entries_stand : (ps : List Place) (ws : Values) → AreEntriesAt k v knows others bytes.now ps ws → ArePairsAt k v knows others (map (entry_at bytes {K = K} {V = V}) ps) (listed ws)
  entries_stand [] no_values h = tt
  entries_stand [] (more_values w ws) h = absurd h
  entries_stand (p ∷ ps) no_values h = absurd h
  entries_stand (p ∷ ps) (more_values w ws) h =
      let one : IsPairAt k v knows others (entry_at bytes {K = K} {V = V} p) w =
      record { key = h.0.key; value = h.0.value; is = h.0.is; key_held = h.0.key_held; value_held = h.0.value_held } in
      (one, entries_stand ps ws h.1)

  pub value_stands : (most pos : ℕ) (value : Value) (entries : List (Ref K × Ref V)) → ((t : Tree Place) → IsMapAt bytes.now most k v pos t → entries ≡ map (entry_at bytes) (items t))
      → HeldAt (tree most k v) (both knows others) bytes.now pos value → ArePairsAt k v knows others entries (elements_of value)
  value_stands most pos value entries are h =
      let m = map_is_read k v knows others bytes.now most pos value h in
      let stand = entries_stand (items m.search_tree) (members value) m.entries in
      subst (λ es. ArePairsAt {K = K} {V = V} k v knows others es (elements_of value)) (sym (are m.search_tree m.map))
      (subst (λ ws. ArePairsAt {K = K} {V = V} k v knows others (map (entry_at bytes) (items m.search_tree)) ws) (listed_members value) stand)
