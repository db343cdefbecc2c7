-- Entries of a map are hashed one by one.
use Rattle.std.proofs.Common.{◌≡◌, ◌∙◌, ℕ, List, [], ◌∷◌, ◌++◌, refl, sym, ap, subst}
use Rattle.std.specs.List.{fold, flat_map}
use Rattle.std.specs.Hash.{fed_then, fed_along}
use Rattle.archive_shape_layout.specs.Shape.{Shape}
use Rattle.archive_shape_layout.specs.Value.{Value}
use Rattle.archive_shape_layout.specs.Content.{Names}
use Rattle.archive_shape.specs.declared.references.refs.Ref.{Ref}
use Rattle.archive_shape.specs.Key.{HeldAt}
use Rattle.archive_forms_laws.specs.Orders.{Hashed}
use Rattle.archive_forms_values.specs.Parts.{HasValue}
use Rattle.archive_btree_maps.specs.MapComparing.{HasPairs, ArePairsAt}
use Rattle.archive_btree_maps.specs.Hashing.{pair_hashed}
use Rattle.archive_btree_maps.proofs.Compared.{parted}

module _ {K V : Type 0} (k v : Shape) (knows others : Names → Type 0) where
  no_pairs : (es : List (Ref K × Ref V)) (ps : List Value) → es ≡ [] → ArePairsAt k v knows others es ps → ps ≡ []
  no_pairs [] [] e h = refl
  no_pairs [] (p ∷ ps) e h = absurd h
  no_pairs (x ∷ es) ps e h = absurd cc

  module _ {S : Type 0} (write : S → List ℕ → S) (G H : Hashed) where
    -- of some pairs, those are left to be hashed that lie at the entries that are left
    pub record ToHash (start now : S) (es : List (Ref K × Ref V)) (ps : List Value) : Type 0 where
      pub rest : List Value
      pub stand : ArePairsAt k v knows others es rest
      pub writes : fold write now (flat_map (pair_hashed G H) rest) ≡ fold write start (flat_map (pair_hashed G H) ps)

    abbrev pub AreToHash : S → S → List (Ref K × Ref V) → List (Ref K × Ref V) → Type 0
    AreToHash start now these es = (ps : List Value) → ArePairsAt k v knows others these ps → ToHash start now es ps

    pub hashed_none : (start : S) (these es : List (Ref K × Ref V)) → es ≡ these → AreToHash start start these es
    hashed_none start these es e ps h = record { rest = ps; stand = subst (λ zs. ArePairsAt k v knows others zs ps) (sym e) h; writes = refl }

    module _ (start now : S) (x : Ref K × Ref V) (es : List (Ref K × Ref V)) where
      pub first_held : (these : List (Ref K × Ref V)) → HasPairs k v knows others these → AreToHash start now these (x ∷ es)
          → HasValue k knows x.0.bytes.now x.0.pos × HasValue v others x.1.bytes.now x.1.pos
      first_held these has to =
          let left = to has.pairs has.stand in
          let pair = (parted k v knows others x es left.rest left.stand).pair in
          (record { value = pair.key; held = pair.key_held }, record { value = pair.value; held = pair.value_held })

      pub hashed_first : (between next : S)
          → ((u : Value) → HeldAt k knows x.0.bytes.now x.0.pos u → between ≡ fold write now (G u))
          → ((u : Value) → HeldAt v others x.1.bytes.now x.1.pos u → next ≡ fold write between (H u))
          → (ps : List Value) → ToHash start now (x ∷ es) ps → ToHash start next es ps
      hashed_first between next key value ps left =
          let p = parted k v knows others x es left.rest left.stand in
          let F = pair_hashed G H in
          let both : next ≡ fold write now (G p.pair.key ++ (H p.pair.value ++ [])) =
          fed_then write now between next (G p.pair.key) (H p.pair.value ++ []) (key p.pair.key p.pair.key_held)
          (fed_then write between next next (H p.pair.value) [] (value p.pair.value p.pair.value_held) refl) in
          let one : next ≡ fold write now (F p.first) = fed_along write now next (λ i. F (sym p.pair.is i)) both in
          record {
            rest = p.rest;
            stand = p.pairs;
            writes = fed_then write now next (fold write next (flat_map F p.rest)) (F p.first) (flat_map F p.rest) one refl
                ∙ ap (λ l. fold write now (flat_map F l)) (sym p.is) ∙ left.writes;
          }

    pub all_hashed : (start now : S) (es : List (Ref K × Ref V)) (ps : List Value) → es ≡ [] → ToHash start now es ps → now ≡ fold write start (flat_map (pair_hashed G H) ps)
    all_hashed start now es ps e left =
        sym (ap (λ l. fold write now (flat_map (pair_hashed G H) l)) (no_pairs es left.rest e left.stand)) ∙ left.writes
