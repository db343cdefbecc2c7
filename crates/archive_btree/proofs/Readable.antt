-- Where a written map can be read, so can the value that a look-up in it returns.
use Rattle.std.proofs.Common.{◌≡◌, ◌∙◌, ℕ, ◌+◌, ◌<◌, ◌≤◌, List, [], ◌∷◌, length, Option, Some, None, MatchOption, AllPairs, refl, ap, sym, subst}
use Rattle.std.specs.Option.{IsSomeAnd, option_map}
use Rattle.std.specs.List.{AllZip, find}
use Rattle.std.specs.Cmp.{IsTotalOrder}
use Rattle.std.specs.Ordering.{is_eq}
use Rattle.std.specs.declared.cmp.Ordering.{Ordering}
use Rattle.std.specs.declared.cmp.Ordering.TheVariants.{Less}
use Rattle.archive_shape_layout.specs.Shape.{Shape}
use Rattle.archive_shape_layout.specs.Shape.Shape.{tree}
use Rattle.archive_shape_layout.specs.Content.{Names, members}
use Rattle.archive_shape_layout.specs.Visited.{AllStand}
use Rattle.archive_shape_canonical.specs.Settled.{Fit}
use Rattle.archive_shape.specs.Key.{HeldAt}
use Rattle.archive_shape.specs.declared.references.refs.Ref.{Ref}
use Rattle.archive_forms_laws.specs.State.{State, Keys, visits_of}
use Rattle.archive_forms_laws.specs.Spelling.{Spelling}
use Rattle.archive_forms_laws.specs.Spells.{Spells}
use Rattle.archive_forms_laws.specs.Forms.{seen_as}
use Rattle.archive_forms_laws.specs.WrittenAt.{IsWrittenAt, IsReadableAt}
use Rattle.archive_forms_laws.proofs.Views.{known_spells}
use Rattle.archive_forms_values.specs.Parts.{both}
use Rattle.archive_forms_writing.specs.Readable.{FindsReadable}
use Rattle.archive_btree_layout.specs.Tree.{Tree, items}
use Rattle.archive_btree_layout.specs.Reading.{Place}
use Rattle.archive_btree_spelling.specs.Maps.{btree_spelling}
use Rattle.archive_btree_spelling.proofs.Readable.{length_written, map_placed}
use Rattle.archive_btree_spelling.proofs.Spelled.{entries_spelled}
use Rattle.archive_btree_maps.specs.Calls.Lookups.{LooksUpValue}
use Rattle.archive_btree_maps.specs.Maps.{IsMapAt}
use Rattle.archive_btree_maps.specs.Maps.IsMapAt.{has_none, has_root}
use Rattle.archive_btree_maps.specs.Refs.{value_at}
use Rattle.archive_btree.specs.Answering.{HasEntry}
use Rattle.archive_btree.specs.Owned.{entries_spelling}
use Rattle.archive_btree.proofs.Answering.{entries_held}
use Rattle.archive_btree.proofs.Finding.{FindsAt, search_found}
use Rattle.archive_btree.proofs.Zipped.{both_zip}
use Rattle.archive_btree.proofs.WrittenAt.{entries_written, standing_map}

no_items : {X : Type 0} (xs : List X) → length xs ≡ 0 → xs ≡ []
no_items [] e = refl
no_items (x ∷ xs) e = absurd (cc)

module _ {A B D R P M : Type 0} (view : M → List (A × B)) (most : ℕ) (k v : Shape) (knows others : Names → Type 0) (keys : Spelling A R) (vals : Spelling B P) (spell_keys : (fit : Fit) → Spells fit k knows keys)
    (spell_vals : (fit : Fit) → Spells fit v others vals) (this : Ref D) (names : Names) (known : both knows others names) (some : 0 < most) (given : Keys) (m : M) (fit : Fit) (suits : (btree_spelling most k v keys vals).suits fit given (view m))
    (readable : IsReadableAt names given (tree most k v) (seen_as view (entries_spelling most k v keys vals)) this.bytes.now this.pos m) where
  -- an entry's value suits the fit, and can be read at a place
  abbrev IsPlaced : Place → A × B → Type 0
  IsPlaced p e = vals.suits fit given e.1 × IsReadableAt names given v vals this.bytes.now p.value e.1

  abbrev IsEntry : Place → A × B → Type 0
  IsEntry p e = HasEntry most k v knows others keys vals this.bytes.now p e

  values_placed : (t : Tree Place) → IsMapAt this.bytes.now most k v this.pos t → AllZip IsPlaced (items t) (view m)
  values_placed t at = by_root (entries_written view most k v knows others keys vals spell_keys spell_vals this.bytes.now this.pos names known some given m readable.written) readable.stand at
    where
      f : Spells fit k (both knows others) keys
      f = known_spells fit k knows (both knows others) (λ _ h. h.0) keys (spell_keys fit)

      g : Spells fit v (both knows others) vals
      g = known_spells fit v others (both knows others) (λ _ h. h.1) vals (spell_vals fit)

      by_root : (written : IsWrittenAt given (btree_spelling most k v keys vals) this.bytes.now this.pos (view m)) → AllStand names this.bytes.now written.state.pos (visits_of written.state.met) → IsMapAt this.bytes.now most k v this.pos t
          → AllZip IsPlaced (items t) (view m)
      by_root written stand (has_none empty is) =
          let len = length_written fit most k v (both knows others) keys vals f g some names known given this.bytes.now (view m) written.state this.pos written.own_fits written.own in
          subst (λ u. AllZip IsPlaced (items u) (view m)) (sym is) (subst (AllZip IsPlaced []) (sym (no_items (view m) (sym len ∙ empty))) tt)
      by_root written stand (has_root {root = root} not_empty leads node count) =
          map_placed fit most k v (both knows others) keys vals f g some names known given this.bytes.now (view m) written.state this.pos written.own_fits written.own
          (record { consistent = written.consistent; keyed = written.keyed; stand = stand }) suits written.piece_fits written.piece root t not_empty leads node

  -- the value at the place that is found is what is returned
  returned : {C : Type 0} (first : Option (A × B)) (at : Option Place) → FindsAt (λ p e. IsEntry p e × IsPlaced p e) first at → (found : Option (Ref C)) → found ≡ option_map (value_at this.bytes) at
      → FindsReadable fit names given v vals first found
  returned None at h found is = is ∙ ap (option_map (value_at this.bytes)) h
  returned (Some e) None h found is = absurd h
  returned (Some e) (Some p) h found is = (h.1.0, subst (λ o. IsSomeAnd o (λ r. IsReadableAt names given v vals r.bytes.now r.pos e.1)) (sym is) h.1.1)

  pub found_readable : {C Q : Type 0} (key : A → Q) (order : Q → Q → Ordering) (total : IsTotalOrder order) (key_of : List ℕ → ℕ → Q → Type 0)
      (represents : (x : A) (st : State) (pos : ℕ) → HeldAt k knows this.bytes.now pos (keys.value x st) → key_of this.bytes.now pos (key x))
      (one_key : (pos : ℕ) (a b : Q) → key_of this.bytes.now pos a → key_of this.bytes.now pos b → (query : Q) → order a query ≡ order b query)
      → AllPairs (λ a b. order (key a.0) (key b.0) ≡ Less) (view m)
      → (query : Q) (found : Option (Ref C)) → LooksUpValue most k v key_of order this query found → FindsReadable fit names given v vals (find (λ e. is_eq (order (key e.0) query)) (view m)) found
  found_readable key order total key_of represents one_key ascending query found looks =
      let es = view m in
      let st = readable.written.state in
      let map = standing_map view most k v knows others keys vals spell_keys spell_vals this.bytes.now this.pos names known some given m readable.written fit suits readable.stand in
      let t = map.search_tree in
      let held = entries_held most k v knows others keys vals this.bytes.now (items t) (members ((btree_spelling most k v keys vals).value es st)) es map.entries (entries_spelled most k v keys vals es st some) in
      let there = both_zip IsEntry IsPlaced (items t) es held (values_placed t map.map) in
      let look = looks t map.map in
      let ends = search_found this.bytes.now key order total key_of one_key (λ p e. IsEntry p e × IsPlaced p e) (λ p e h. represents e.0 h.0.state p.key h.0.key_held) t es there ascending query look.0 look.1 in
      returned (find (λ e. is_eq (order (key e.0) query)) es) look.0 ends found look.2
