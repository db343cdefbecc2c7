-- The pairs of a hashed or a kept map, whose lines are written one after the other.
use Rattle.std.proofs.Common.{◌≡◌, ◌∙◌, ℕ, suc, ◌+◌, List, [], ◌∷◌, Bor, map, Result, Ok, Err, refl, sym, ap, subst}
use Rattle.std.specs.Prelude.{All}
use Rattle.std.proofs.lemmas.List.Elements.{All-head, All-tail}
use Rattle.archive_shape_layout.specs.Bytes.{align_up}
use Rattle.archive_shape_layout.specs.Shape.Shape.{text}
use Rattle.archive_shape_layout.specs.Shape.Shapes.{no_shapes}
use Rattle.archive_shape_layout.specs.Content.{Part}
use Rattle.archive_shape_layout.specs.Content.Part.{at, entry}
use Rattle.archive_shape_layout.specs.Writing.{WriterMembers}
use Rattle.archive_shape_layout.specs.declared.error.Error.{Error}
use Rattle.archive_shape.specs.declared.references.refs.Ref.{Ref}
use Rattle.archive_forms_values.specs.Fields.{field_position}
use Rattle.archive_forms_values.specs.declared.text.string.ArchivedString.{ArchivedString}
use Rattle.archive_hash_maps.specs.Maps.{entry_at}
use Rattle.cabinet_archived.specs.declared.node.ArchivedNode.{ArchivedNode}
use Rattle.cabinet_text_grammar.specs.Path.{Step}
use Rattle.cabinet_documents.specs.Node.{node_names, node_shape, pair_shape}
use Rattle.cabinet_archives.specs.Loading.{IsEntry}
use Rattle.cabinet_archives.specs.Mapping.{Listed, name_in, Maps, MapsAll}
use Rattle.cabinet_archives.specs.Mapped.{WritesListed, Mapped}
use Rattle.cabinet_archives.specs.declared.mapping.region.RegionKind.{RegionKind}
use Rattle.cabinet_archives.specs.declared.mapping.tally.Tally.{Tally}
use Rattle.cabinet_archives.proofs.LoadedEntries.{LoadedPair, positions}
use Rattle.cabinet_archives.proofs.LoadedMaps.{pairs_at}
use Rattle.cabinet_archives.proofs.MapListings.{pair_listed, entry_of_pair}
use Rattle.cabinet_archives.proofs.NodeListings.{named}
use Rattle.cabinet_archives.proofs.PartsLeft.{PartsLeft, all_left, next_part, none_left}

-- the node of a pair lies behind the key
node_behind_key : (q : ℕ) → field_position text no_shapes node_shape q ≡ q + 8
unfolding align_up
node_behind_key q = refl

abbrev pub pair_parts : List ℕ → List Part
pair_parts ps = map (λ q. at q pair_shape) ps

module _ {W : Type 0} (w : WriterMembers W) (bytes : List ℕ) (k : RegionKind) (path : List Step) where
  -- the regions of the pairs of a part have the part's own name
  abbrev pub KeepsName : Part → Type 0
  KeepsName p = (i : ℕ) → name_in bytes p i (named k path) ≡ named k path

  -- a call writes the pairs of a part, or fails in one
  abbrev pub PairsWritten : List ℕ → Tally → Tally → W → W → Result (Unit {0}) Error → Type 0
  PairsWritten all old new from last result =
      (p : Part) → KeepsName p → (listed : List Listed) → MapsAll node_names bytes (named k path) p 0 (pair_parts all) old.end listed → WritesListed w listed old new from last result

module _ {W : Type 0} (w : WriterMembers W) (bytes : Bor (List ℕ)) (outer : ℕ) (k : RegionKind) (path : List Step) where
  abbrev Left : Part → ℕ → List Part → Tally → Tally → W → W → List Listed → Type 0
  Left p i ps old now from via listed = PartsLeft w bytes.now (named k path) p i ps old now from via listed

  -- of all pairs, those are left that these references lead to
  pub record PairsToMap (all : List ℕ) (left : List LoadedPair) (old now : Tally) (from via : W) : Type 0 where
    pub places : List ℕ
    pub left_are : left ≡ pairs_at bytes places
    pub there : All (IsEntry bytes.now outer) (map positions left)
    pub parts : (p : Part) → KeepsName w bytes.now k path p → (listed : List Listed) → MapsAll node_names bytes.now (named k path) p 0 (pair_parts all) old.end listed
        → (i : ℕ) × Left p i (pair_parts places) old now from via listed
    pub quiet : w.failures via ≡ w.failures from

  pub pairs_begin : (all : List ℕ) {left : List LoadedPair} (old : Tally) (from : W) → left ≡ pairs_at bytes all → All (IsEntry bytes.now outer) (map positions left) → PairsToMap all left old old from from
  pairs_begin all old from are there = record { places = all; left_are = are; there = there; parts = λ p keeps listed m. (0, all_left w bytes.now old from m); quiet = refl }

  module _ {all : List ℕ} {left others : List LoadedPair} {key : Ref ArchivedString} {node : Ref ArchivedNode} {old now : Tally} {from via : W}
      (e : left ≡ (key, node) ∷ others) (h : PairsToMap all left old now from via)
    where
      record FirstPair (places : List ℕ) : Type 0 where
        pos : ℕ
        later : List ℕ
        places_are : places ≡ pos ∷ later
        pair_is : (λ (x : LoadedPair). x) (key, node) ≡ entry_at bytes text node_shape pos
        others_are : others ≡ pairs_at bytes later

      first_pair : (places : List ℕ) → left ≡ pairs_at bytes places → FirstPair places
      first_pair [] are = let none = sym e ∙ are in absurd (cc)
      first_pair (q ∷ qs) are = let same = sym e ∙ are in record { pos = q; later = qs; places_are = refl; pair_is = cc; others_are = cc }

      abbrev first : FirstPair h.places
      first = first_pair h.places h.left_are

      pub key_bytes : key.bytes ≡ bytes
      key_bytes = ap (λ (x : LoadedPair). x.0.bytes) first.pair_is

      pub node_bytes : node.bytes ≡ bytes
      node_bytes = ap (λ (x : LoadedPair). x.1.bytes) first.pair_is

      entries_there : All (IsEntry bytes.now outer) ((key.pos, node.pos) ∷ map positions others)
      entries_there = subst (λ es. All (IsEntry bytes.now outer) (map positions es)) e h.there

      -- the first is there
      pub first_there : IsEntry bytes.now outer (key.pos, node.pos)
      first_there = All-head (IsEntry bytes.now outer) (key.pos, node.pos) (map positions others) entries_there

      -- what the parts list that are left
      rest_of : (p : Part) → KeepsName w bytes.now k path p → (listed : List Listed) → MapsAll node_names bytes.now (named k path) p 0 (pair_parts all) old.end listed
          → (i : ℕ) × Left p i (at first.pos pair_shape ∷ pair_parts first.later) old now from via listed
      rest_of p keeps listed m =
          let rest = h.parts p keeps listed m in
          (rest.0, subst (λ ps. Left p rest.0 (pair_parts ps) old now from via listed) first.places_are rest.1)

      -- what a pair lists is what its entry does
      pair_maps : (p : Part) (i : ℕ) {low : ℕ} {listed : List Listed} → KeepsName w bytes.now k path p → Maps node_names bytes.now (name_in bytes.now p i (named k path)) (at first.pos pair_shape) low listed
          → Maps node_names bytes.now (named k path) (entry text first.pos node_shape (first.pos + 8)) low listed
      pair_maps p i {low = low} {listed = listed} keeps m =
          entry_of_pair bytes.now {n = named k path}
          (pair_listed bytes.now {n = named k path} (subst (λ n. Maps node_names bytes.now n (at first.pos pair_shape) low listed) (keeps i) m))

      module _ (new : Tally) (last : W) where
        abbrev EntryMapped : Result (Unit {0}) Error → Type 0
        EntryMapped result = (j : RegionKind) → Mapped w node.bytes.now (named j path) (entry text key.pos node_shape node.pos) now new via last result

        own_entry : (result : Result (Unit {0}) Error) → EntryMapped result → Mapped w bytes.now (named k path) (entry text first.pos node_shape (first.pos + 8)) now new via last result
        own_entry result mapped =
            let key_is : key.pos ≡ first.pos = ap (λ (x : LoadedPair). x.0.pos) first.pair_is in
            let node_is : node.pos ≡ first.pos + 8 = ap (λ (x : LoadedPair). x.1.pos) first.pair_is ∙ node_behind_key first.pos in
            subst (λ n. Mapped w bytes.now (named k path) (entry text n node_shape (first.pos + 8)) now new via last result) key_is
            (subst (λ n. Mapped w bytes.now (named k path) (entry text key.pos node_shape n) now new via last result) node_is
            (subst (λ (b : Bor (List ℕ)). Mapped w b.now (named k path) (entry text key.pos node_shape node.pos) now new via last result) node_bytes (mapped k)))

        -- one more is written
        pub pair_mapped : EntryMapped (Ok tt) → w.failures last ≡ w.failures via → PairsToMap all others old new from last
        pair_mapped mapped same = record {
          places = first.later;
          left_are = first.others_are;
          there = All-tail (IsEntry bytes.now outer) (key.pos, node.pos) (map positions others) entries_there;
          parts = λ p keeps listed m.
              let rest = rest_of p keeps listed m in
              let next = next_part w bytes.now rest.1 in
              (suc rest.0, next.on new last (own_entry (Ok (tt {0})) mapped next.here (pair_maps p rest.0 keeps next.first)));
          quiet = same ∙ h.quiet;
        }

        -- or fails
        pub pair_failed : (why : Error) → EntryMapped (Err why) → PairsWritten w bytes.now k path all old new from last (Err why)
        pair_failed why mapped p keeps listed m =
            let rest = rest_of p keeps listed m in
            let next = next_part w bytes.now rest.1 in
            next.fails new last why (own_entry (Err why) mapped next.here (pair_maps p rest.0 keeps next.first))

  -- all are written
  pub pairs_mapped : {all : List ℕ} {left : List LoadedPair} {old now : Tally} {from via : W} → left ≡ [] → PairsToMap all left old now from via → PairsWritten w bytes.now k path all old now from via (Ok tt)
  pairs_mapped {old = old} {now = now} {from = from} {via = via} none h p keeps listed m =
      let rest = h.parts p keeps listed m in
      none_left w bytes.now (subst (λ ps. Left p rest.0 (pair_parts ps) old now from via listed) (no_places h.places (sym none ∙ h.left_are)) rest.1)
    where
      no_places : (places : List ℕ) → [] ≡ pairs_at bytes places → places ≡ []
      no_places [] are = refl
      no_places (q ∷ qs) are = absurd (cc)
