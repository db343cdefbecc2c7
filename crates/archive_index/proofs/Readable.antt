-- Each entry of an index map that was written can be read where it lies, and so can the value that a look-up returns.
use Rattle.std.proofs.Common.{◌≡◌, ◌∙◌, ℕ, zero, suc, ◌+◌, ◌*◌, ◌^◌, ◌<◌, ◌≤◌, List, [], ◌∷◌, length, map, get_or, slice_get, Option, Some, None, MatchOption, refl, sym, subst, arith, length-append}
use Rattle.std.specs.List.{All, AllZip}
use Rattle.std.specs.Option.{IsSomeAnd, option_map}
use Rattle.std.specs.declared.cmp.Ordering.{Ordering}
use Rattle.std.proofs.lemmas.List.{length-map}
use Rattle.std.proofs.lemmas.List.Elements.{All-map}
use Rattle.std.proofs.lemmas.Option.{slice_get_read}
use Rattle.archive_shape_layout.specs.Bytes.{word_at}
use Rattle.archive_shape_layout.specs.Shape.{Shape, size_of}
use Rattle.archive_shape_layout.specs.Shape.Shape.{index_map, table}
use Rattle.archive_shape_layout.specs.Content.{Names}
use Rattle.archive_shape_canonical.specs.Settled.{Fit, free}
use Rattle.archive_shape.specs.declared.references.refs.Ref.{Ref}
use Rattle.archive_shape.proofs.Pieces.{stands_left, stands_right}
use Rattle.archive_forms_laws.specs.Fields.{tuple2_spelling}
use Rattle.archive_forms_laws.specs.Links.{link_bytes}
use Rattle.archive_forms_laws.specs.Regions.{all_suit, pieces, region_at, region_piece}
use Rattle.archive_forms_laws.specs.Sample.{number_shape}
use Rattle.archive_forms_laws.specs.Spelling.{Spelling}
use Rattle.archive_forms_laws.specs.Spells.{Spells}
use Rattle.archive_forms_laws.specs.State.{AreKeyedBy, Keys, State}
use Rattle.archive_forms_laws.specs.WrittenAt.{IsReadableAt}
use Rattle.archive_forms_laws.proofs.Pointers.{leads_to}
use Rattle.archive_forms_laws.proofs.Regions.{owns_pass, region_end, region_up}
use Rattle.archive_forms_laws.proofs.Views.{each_spells}
use Rattle.archive_forms_values.specs.Parts.{both, PointsTo}
use Rattle.archive_forms_values.specs.Tuples.{tuple2}
use Rattle.archive_forms_writing.specs.Readable.{FindsReadable}
use Rattle.archive_forms_writing.proofs.Reached.{each, owns_stand}
use Rattle.archive_forms_writing.proofs.Readable.{Standing, fields2_readable_law, readable, stand_after}
use Rattle.archive_hash_probing.specs.Inputs.{input_hash}
use Rattle.archive_hash_probing.proofs.Small.{input_hash_small}
use Rattle.archive_hash_maps.specs.Maps.{KeySays}
use Rattle.archive_hash_writing.specs.Fitted.{by_place}
use Rattle.archive_hash_writing.specs.IndexMaps.{map_spelling, numbers, numbers_spelling, state_behind}
use Rattle.archive_hash_writing.specs.IndexResolvers.{pairs_spelling}
use Rattle.archive_hash_writing.specs.declared.index.resolver.IndexMapResolver.{IndexMapResolver}
use Rattle.archive_hash_writing.proofs.IndexMaps.{numbers_met}
use Rattle.archive_hash.specs.Answering.{first_with}
use Rattle.archive_index.specs.Answering.{AnswersInOrder}
use Rattle.archive_index.specs.Lookups.{LooksUpEntry, value_of, value_position_of}
use Rattle.archive_index.specs.Maps.{IndexMap, IsMapAt, adjacent, count_of}
use Rattle.archive_index.proofs.Numbered.{numbers_law, numbers_written}
use Rattle.archive_index.proofs.WrittenPairs.{as_hashed, pair_spells}

-- ---- entries

module _ {A R : Type 0} (most places : ℕ) (k v : Shape) (knows : Names → Type 0) (w : Spelling A R) (hashes : List ℕ) (fit : Fit) (spells : Spells fit (tuple2 k v) knows w) where
  abbrev pair : Shape
  pair = tuple2 k v

  abbrev spelled : Spelling (List A) (Option ℕ × Option ℕ)
  spelled = map_spelling most places pair w hashes

  abbrev table_spelled : Spelling (List ℕ) (Option ℕ)
  table_spelled = numbers_spelling most places pair w hashes

  module _ (names : Names) (given : Keys) (bytes : List ℕ) (pos to : ℕ) (known : knows names) where
    -- the entries lie side by side, from where the map's second pointer leads on
    pub entries_readable : (xs : List A) → all_suit w fit given xs → length hashes ≡ length xs → All (λ h. h < 2 ^ 64) hashes
        → IsReadableAt names given (index_map k v) spelled bytes pos xs
        → (0 < length xs → PointsTo bytes (pos + 12) to)
        → (i : ℕ) (y : A) → slice_get xs i ≡ Some y → IsReadableAt names given pair w bytes (to + i * size_of pair) y
    unfolding numbers_written
    entries_readable [] suits even tags r points i y is = absurd (cc)
    entries_readable (x ∷ xs) suits even tags r points i y is =
        let all : List A = x ∷ xs in
        let h = r.written in
        let st = h.state in
        let ns = numbers all in
        let law = numbers_law most places k v w hashes x xs even tags knows in
        let each_entry = each_spells fit pair knows w spells all in
        let behind : State = state_behind most places pair w hashes all st in
        let t = region_at w pair all behind in
        let front = table_spelled.piece ns st in
        let region = region_piece w pair all behind in
        let region_stands = stands_right bytes st.pos front region behind.pos refl h.piece in
        let keyed : AreKeyedBy given behind.met = subst (AreKeyedBy given) (sym (numbers_met (by_place most places hashes ns) st)) h.keyed in
        let stand = stand_after (table number_shape) knows table_spelled free ns law names known given (law.unshared refl given) bytes pos (numbers_written most places k v w hashes given bytes pos x xs h) r.stand in
        let both = length-append front region in
        let end = region_end fit pair knows w all each_entry behind h.piece_fits.1 in
        let up = region_up fit pair knows w all behind in
        let below = r.behind in
        let within = r.within in
        let reached =
        each (Standing names bytes) given bytes t (length bytes) fit pair knows w all each_entry behind t suits (law.consistent st h.consistent h.piece_fits.0) keyed h.piece_fits.1.0
        (owns_pass fit pair knows w all behind t h.piece_fits.1.2) (stands_left bytes behind.pos (pieces w all behind) _ region_stands) (owns_stand fit pair knows w given bytes all behind region_stands)
        (λ z suits. stand_after pair knows w fit z (spells z) names known given suits bytes) stand up (omega (arith, both, end, below, within)) i y is in
        let own = table_spelled.own ns (table_spelled.resolver ns st) pos in
        let size = law.sized (table_spelled.resolver ns st) pos h.own_fits.0 in
        let link_stands = stands_right bytes pos own (link_bytes (Some t) (pos + 12)) (pos + 12) (omega (arith, size)) h.own in
        subst (λ n. IsReadableAt names given pair w bytes (n + i * size_of pair) y) (leads_to bytes (pos + 12) to t h.own_fits.1 link_stands (points (omega arith)))
        (readable names given bytes t (t + i * size_of pair) pair w y (omega arith) reached)

-- positions side by side at which entries lie are as many as these
some_beside : {X : Type 0} (P : ℕ → X → Type 0) (size at n : ℕ) (xs : List X) → AllZip P (adjacent size at n) xs → 0 < length xs → n ≡ 0 → ⊥
some_beside P size at zero [] h some none = omega (arith, some)
some_beside P size at zero (x ∷ xs) h some none = h
some_beside P size at (suc n) xs h some none = omega (arith, none)

-- ---- values

-- what suits all suits each
each_suits : {A R : Type 0} (w : Spelling A R) (fit : Fit) (given : Keys) (xs : List A) (i : ℕ) (x : A) → all_suit w fit given xs → slice_get xs i ≡ Some x → w.suits fit given x
each_suits w fit given [] i x suits is = absurd (cc)
each_suits w fit given (y ∷ ys) zero x suits is = let same : y ≡ x = cc in subst (w.suits fit given) same suits.0
each_suits w fit given (y ∷ ys) (suc i) x suits is = each_suits w fit given ys i x suits.1 is

module _ {A B R P : Type 0} (k v : Shape) (knows others : Names → Type 0) (keys : Spelling A R) (vals : Spelling B P) (fed : A → List (List ℕ))
    (key_spells : (fit : Fit) → Spells fit k knows keys) (value_spells : (fit : Fit) → Spells fit v others vals)
    (fit : Fit) (names : Names) (given : Keys) (known : both knows others names) where
  abbrev pairs : Spelling (A × B) (R × P)
  pairs = tuple2_spelling k keys v vals

  abbrev hash_of : A × B → ℕ
  hash_of e = input_hash (fed e.0)

  abbrev listed : Spelling (List (A × B)) IndexMapResolver
  listed = pairs_spelling (λ x. input_hash (fed x)) k v keys vals

  -- the value of each entry
  value_readable : (bytes : List ℕ) (pos : ℕ) (es : List (A × B)) (m : IndexMap) → all_suit pairs fit given es → IsReadableAt names given (index_map k v) listed bytes pos es
      → IsMapAt bytes k v pos m → (0 < length es → count_of m ≡ 0 → ⊥)
      → (i : ℕ) (e : A × B) → slice_get es i ≡ Some e → IsReadableAt names given v vals bytes (value_position_of k v m i) e.1
  value_readable bytes pos es m suits r stands some i e is =
      let small = All-map (λ h. h < 2 ^ 64) hash_of es (λ j d l. input_hash_small (fed (get_or es j d).0)) in
      let entry =
      entries_readable 7 8 k v (both knows others) pairs (map hash_of es) fit (pair_spells k v knows others keys vals fed key_spells value_spells fit) names given bytes pos m.start known es suits (length-map es hash_of) small
      (as_hashed k v knows others keys vals fed key_spells value_spells names given bytes pos es r) (λ more. stands.leads (some more)) i e is in
      (fields2_readable_law k keys v vals knows others key_spells value_spells e bytes _ fit names given known (each_suits pairs fit given es i e suits is) entry).1

  -- what a look-up returns
  module _ {C D Q : Type 0} (key : A → Q) (order : Q → Q → Ordering) (key_of : List ℕ → ℕ → Q → Type 0) (hashes : Q → ℕ → Type 0)
      (this : Ref D) (es : List (A × B)) (suits : all_suit pairs fit given es) (r : IsReadableAt names given (index_map k v) listed this.bytes.now this.pos es)
      (answers : AnswersInOrder k v knows others keys vals this.bytes.now key order hashes key_of this.pos es) (query : Q) (found : Option (Ref C)) where
    abbrev Item : ℕ → Ref C
    Item i = value_of this.bytes k v answers.map i

    there : (i : ℕ) (e : A × B) → i < length es → get_or es i e ≡ e → vals.suits fit given e.1 × IsReadableAt names given v vals this.bytes.now (value_position_of k v answers.map i) e.1
    there i e within is =
        let gets : slice_get es i ≡ Some e = slice_get_read es (length es) i e refl within (sym is) in (
          (each_suits pairs fit given es i e suits gets).1.0,
          value_readable this.bytes.now this.pos es answers.map suits r answers.stands (λ some. some_beside _ (size_of (tuple2 k v)) answers.map.start (count_of answers.map) es answers.walks some) i e gets,
        )

    by_position : (Entry : ℕ → A × B → Type 0) (number o : Option ℕ) (first : Option (A × B)) → found ≡ option_map (λ at. Item (word_at this.bytes.now at)) o
        → MatchOption first (option_map (word_at this.bytes.now) o ≡ None)
        (λ e. (option_map (word_at this.bytes.now) o ≡ number) × IsSomeAnd (option_map (word_at this.bytes.now) o) (λ i. (i < length es) × (get_or es i e ≡ e) × Entry i e))
        → FindsReadable fit names given v vals first found
    by_position Entry number None None is h = is
    by_position Entry number (Some at) None is h = absurd (cc)
    by_position Entry number None (Some e) is h = absurd h.1
    by_position Entry number (Some at) (Some e) is h =
        let value = there (word_at this.bytes.now at) e h.1.0 h.1.1 in
        (value.0, subst (λ o. IsSomeAnd o (λ x. IsReadableAt names given v vals x.bytes.now x.pos e.1)) (sym is) value.1)

    pub found_readable : LooksUpEntry this.bytes.now k v answers.map (hashes query) (KeySays key_of order this.bytes.now query) Item found
        → FindsReadable fit names given v vals (first_with k v knows others keys vals this.bytes.now key order query es) found
    found_readable looks =
        let a = looks.answers in
        by_position _ _ a.position _ a.is (answers.finds query looks.hash looks.strides a.position looks.is_hash a.looks_up)
