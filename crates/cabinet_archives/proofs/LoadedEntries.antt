-- The entries of a map that is loaded, by the positions of their keys and nodes.
use Rattle.std.proofs.Common.{◌≡◌, ℕ, ◌+◌, ◌<◌, ◌≤◌, Bor, List, [], ◌∷◌, ◌++◌, map, append_assoc, refl, sym, ap, ap₂, subst, ◌∙◌, arith}
use Rattle.std.specs.Prelude.{⊤, All}
use Rattle.std.specs.BTreeMap.{insert_entry}
use Rattle.std.specs.Cmp.Lexicographic.{slice_cmp}
use Rattle.std.specs.Ordering.{nat_cmp, match_ordering}
use Rattle.std.specs.declared.cmp.Ordering.{Ordering}
use Rattle.std.specs.declared.cmp.Ordering.TheVariants.{Less, Equal, Greater}
use Rattle.std.proofs.lemmas.List.Elements.{All-nil, All-cons, All-head, All-tail}
use Rattle.std.proofs.lemmas.Map.Lookups.{exact_bytes}
use Rattle.archive_shape_layout.specs.Shape.{Shape}
use Rattle.archive_shape_layout.specs.Shape.Shape.{text}
use Rattle.archive_shape_layout.specs.Value.{Value, Values}
use Rattle.archive_shape_layout.specs.Value.Value.{string}
use Rattle.archive_shape_layout.specs.Value.Values.{no_values, more_values}
use Rattle.archive_shape_layout.specs.Content.{members}
use Rattle.archive_shape.specs.Key.{HeldAt}
use Rattle.archive_shape.specs.declared.references.refs.Ref.{Ref}
use Rattle.archive_forms_values.specs.declared.text.string.ArchivedString.{ArchivedString}
use Rattle.archive_btree_layout.specs.Reading.{Place}
use Rattle.archive_btree_maps.specs.Maps.{AreEntriesAt}
use Rattle.archive_btree_maps.specs.Refs.{entry_at}
use Rattle.cabinet_text_grammar.specs.Keys.{MapKind, ordered, hashed, kept}
use Rattle.cabinet_text_grammar.specs.Tree as tree
use Rattle.cabinet_text_grammar.specs.Tree.{Tree, Pairs, no_pairs, more_pairs, IsLegal, pairs_depth, depth as height}
use Rattle.cabinet_documents.specs.Denotes.{Denotes, DenotePairs, pair_value, tagged_value}
use Rattle.cabinet_documents.specs.Denotes.DenotePairs.{denote_no_pairs, denote_pair}
use Rattle.cabinet_documents.specs.Node.{node_shape, KnowsNode}
use Rattle.cabinet_documents.specs.Order.{arranged}
use Rattle.cabinet_archived.specs.declared.node.ArchivedNode.{ArchivedNode}
use Rattle.cabinet_documents.proofs.Arranged.{arranged_depth}
use Rattle.cabinet_documents.proofs.ByKey.{AreDistinct, AreKeysDistinct, in_order, pair_keys, keys_distinct, distinct, distinct_in_order}
use Rattle.cabinet_documents.proofs.Keyed.{keys_denoted}
use Rattle.cabinet_archives.specs.Keyed.{knows_pairs}
use Rattle.cabinet_archives.specs.Loading.{HasTree, OfTree, IsEntry, LeadTo, added, all_added}
use Rattle.cabinet_archives.proofs.Added.{added_arranged}
use Rattle.cabinet_archives.proofs.Stepping.{kind_of, map_by}
use Rattle.cabinet_archives.proofs.Texts.{held_keys}

abbrev pub LoadedPair : Type 0
LoadedPair = Ref ArchivedString × Ref ArchivedNode

-- the positions of references to a key and to a node
abbrev pub positions : LoadedPair → ℕ × ℕ
positions e = (e.0.pos, e.1.pos)

abbrev pub position_of : Place → ℕ × ℕ
position_of p = (p.key, p.value)

pub same_string : {k l : List ℕ} → string k ≡ string l → k ≡ l
same_string e = cc

-- the positions of an entry are pushed
pub pushed : (es : List (ℕ × ℕ)) (key node : ℕ) (e : LoadedPair) (later : List LoadedPair) → key ≡ e.0.pos → node ≡ e.1.pos → (es ++ (key, node) ∷ []) ++ map positions later ≡ es ++ map positions (e ∷ later)
pushed es key node e later k n = append_assoc es ((key, node) ∷ []) (map positions later) ∙ ap₂ (λ x y. es ++ (x, y) ∷ map positions later) k n

depth_in_order : (kind : MapKind) (ps : Pairs) → pairs_depth (in_order kind ps) ≡ pairs_depth ps
depth_in_order ordered ps = refl
depth_in_order hashed ps = arranged_depth ps
depth_in_order kept ps = refl

pub positions_are : (bytes : Bor (List ℕ)) (places : List Place) → map positions (map (entry_at bytes) places) ≡ map position_of places
positions_are bytes [] = refl
positions_are bytes (p ∷ places) = ap (λ es. position_of p ∷ es) (positions_are bytes places)

module _ (bytes : List ℕ) where
  abbrev Entries : List Place → Values → Type 0
  Entries places vs = AreEntriesAt text node_shape (λ _. ⊤) KnowsNode bytes places vs

  entries_there : (outer : ℕ) (places : List Place) (ws : Values) {qs : Pairs} → Entries places ws → DenotePairs ws qs → AreDistinct qs → outer + pairs_depth qs ≤ 64 → All (IsEntry bytes outer) (map position_of places)
  entries_there outer [] ws entries ds distinct low = All-nil (IsEntry bytes outer)
  entries_there outer (p ∷ places) no_values entries ds distinct low = absurd entries
  entries_there outer (p ∷ places) (more_values w ws) entries (denote_no_pairs e f) distinct low = absurd (cc)
  entries_there outer (p ∷ places) (more_values w ws) entries (denote_pair {k = k} {v = v} {vs = vs} {t = t} e f d ds) distinct low =
      let first = entries.0 in
      let is = first.is in
      let one : w ≡ pair_value k v = cc in
      let value_is : v ≡ first.value = cc in
      let others : ws ≡ vs = cc in
      let each = subst AreDistinct f distinct in
      let deep = ap pairs_depth f in
      All-cons (IsEntry bytes outer) (position_of p) (map position_of places) (
        record { value = first.key; held = first.key_held },
        record { value = first.value; held = first.value_held; tree = t; denotes = subst (λ x. Denotes x t) value_is d; legal = each.1; low = omega (arith, deep, low) },
      )
      (entries_there outer places vs (subst (Entries places) others entries.1) ds each.2 (omega (arith, deep, low)))

  -- entries lead to the pairs that their values denote
  leads : (places : List Place) (ws : Values) {ps : Pairs} → Entries places ws → DenotePairs ws ps → LeadTo bytes (map position_of places) ps
  leads [] no_values entries (denote_no_pairs e f) = subst (LeadTo bytes []) (sym f) tt
  leads [] no_values entries (denote_pair e f d ds) = absurd (cc)
  leads [] (more_values w ws) entries ds = absurd entries
  leads (p ∷ places) no_values entries ds = absurd entries
  leads (p ∷ places) (more_values w ws) entries (denote_no_pairs e f) = absurd (cc)
  leads (p ∷ places) (more_values w ws) entries (denote_pair {k = k} {v = v} {vs = vs} {t = t} {ps = ps} e f d ds) =
      let first = entries.0 in
      let is = first.is in
      let one : w ≡ pair_value k v = cc in
      let value_is : v ≡ first.value = cc in
      let key_is : first.key ≡ string k = cc in
      let others : ws ≡ vs = cc in
      subst (LeadTo bytes (position_of p ∷ map position_of places)) (sym f) (
        subst (HeldAt text (λ _. ⊤) bytes p.key) key_is first.key_held,
        (first.value, first.value_held, subst (λ x. Denotes x t) value_is d),
        leads places vs (subst (Entries places) others entries.1) ds,
      )

  -- ---- of a map

  module _ {tag pos outer : ℕ} {s : Shape} (high : 5 < tag) (flat : tag < 9) (has : HasTree (tagged_value tag) s knows_pairs bytes pos outer)
      (places : List Place) (entries : (v : Value) → HeldAt s knows_pairs bytes pos v → Entries places (members v))
    where
      pub all_there : All (IsEntry bytes (outer + 1)) (map position_of places)
      all_there =
          let o = map_by refl high flat has.denotes in
          let legal = subst IsLegal o.is has.legal in
          let each = distinct_in_order (kind_of tag) o.pairs (distinct (kind_of tag) [] (in_order (kind_of tag) o.pairs) legal.0) in
          let deep = ap height o.is in
          let same = depth_in_order (kind_of tag) o.pairs in
          let low = has.low in
          entries_there (outer + 1) places (members has.value) (entries has.value has.held) o.denotes each (omega (arith, deep, same, low))

      pub all_lead : OfTree (tagged_value tag) s knows_pairs bytes pos (λ t. (ps : Pairs) × (t ≡ tree.map (kind_of tag) (in_order (kind_of tag) ps)) × LeadTo bytes (map position_of places) ps)
      all_lead = λ v t h d. let o = map_by refl high flat d in (o.pairs, o.is, leads places (members v) (entries v h) o.denotes)

      -- the keys are the same whatever the value is
      same_keys : {vs ws : Values} {ps qs : Pairs} → DenotePairs vs ps → Entries places vs → DenotePairs ws qs → Entries places ws → pair_keys ps ≡ pair_keys qs
      same_keys {vs = vs} {ws = ws} ds there es here =
          sym (keys_denoted ds) ∙ (held_keys node_shape bytes KnowsNode places vs there ∙ sym (held_keys node_shape bytes KnowsNode places ws here)) ∙ keys_denoted es

      -- and distinct, so that in any order they come into their own
      pub comes_in_order : OfTree (tagged_value tag) s knows_pairs bytes pos (λ t. (ps : Pairs) × (t ≡ tree.map (kind_of tag) (in_order (kind_of tag) ps)) × (all_added ps no_pairs ≡ arranged ps) × LeadTo bytes (map position_of places) ps)
      comes_in_order = λ v t h d.
          let m = map_by refl high flat has.denotes in
          let legal = subst IsLegal m.is has.legal in
          let each = distinct_in_order (kind_of tag) m.pairs (distinct (kind_of tag) [] (in_order (kind_of tag) m.pairs) legal.0) in
          let o = map_by refl high flat d in
          let keys = same_keys o.denotes (entries v h) m.denotes (entries has.value has.held) in
          (o.pairs, o.is, added_arranged o.pairs (subst AreKeysDistinct (sym keys) (keys_distinct m.pairs each)), leads places (members v) (entries v h) o.denotes)

-- ---- entries by their keys

-- an entry of a map from keys to entries
abbrev pub Keyed : Type 0
Keyed = Bor (List ℕ) × (ℕ × ℕ)

abbrev pub keyed_cmp : Bor (List ℕ) → Bor (List ℕ) → Ordering
keyed_cmp a b = slice_cmp nat_cmp a.now b.now

module _ (bytes : List ℕ) where
  abbrev Leads : ℕ × ℕ → List ℕ → Tree → Type 0
  Leads entry k t = HeldAt text (λ _. ⊤) bytes entry.0 (string k) × ((v : Value) × HeldAt node_shape KnowsNode bytes entry.1 v × Denotes v t)

  -- the keys and the entries lead to these pairs
  abbrev pub KeysLeadTo : List Keyed → Pairs → Type 0
  KeysLeadTo [] no_pairs = ⊤
  KeysLeadTo (e ∷ es) (more_pairs k t ps) = (e.0.now ≡ k) × Leads e.1 k t × KeysLeadTo es ps
  KeysLeadTo _ _ = ⊥

  pub keys_lead : (es : List Keyed) (ps : Pairs) → KeysLeadTo es ps → LeadTo bytes (map (λ (e : Keyed). e.1) es) ps
  keys_lead [] no_pairs h = tt
  keys_lead [] (more_pairs k t ps) h = absurd h
  keys_lead (e ∷ es) no_pairs h = absurd h
  keys_lead (e ∷ es) (more_pairs k t ps) h = (h.1.0, h.1.1, keys_lead es ps h.2)

  -- an entry more under its key
  pub one_keyed : (es : List Keyed) (ps : Pairs) (key : Bor (List ℕ)) (entry : ℕ × ℕ) (k : List ℕ) (t : Tree) → key.now ≡ k → Leads entry k t → KeysLeadTo es ps → KeysLeadTo (insert_entry keyed_cmp es key entry) (added k t ps)
  one_keyed [] no_pairs key entry k t is lead h = (is, lead, tt)
  one_keyed [] (more_pairs l u ps) key entry k t is lead h = absurd h
  one_keyed (e ∷ es) no_pairs key entry k t is lead h = absurd h
  one_keyed (e ∷ es) (more_pairs l u ps) key entry k t is lead h =
      by (slice_cmp nat_cmp k l) (keyed_cmp key e.0) (ap₂ (λ x y. slice_cmp nat_cmp x y) is h.0) refl (one_keyed es ps key entry k t is lead h.2)
    where
      by : (o r : Ordering) → r ≡ o → slice_cmp nat_cmp k l ≡ o → KeysLeadTo (insert_entry keyed_cmp es key entry) (added k t ps)
          → KeysLeadTo (match_ordering r ((key, entry) ∷ e ∷ es) ((e.0, entry) ∷ es) (e ∷ insert_entry keyed_cmp es key entry)) (match_ordering o (more_pairs k t (more_pairs l u ps)) (more_pairs l t ps) (more_pairs l u (added k t ps)))
      by Less Less q p on = (is, lead, h)
      by Less Equal q p on = absurd (cc)
      by Less Greater q p on = absurd (cc)
      by Equal Less q p on = absurd (cc)
      by Equal Equal q p on = (h.0, subst (λ x. Leads entry x t) (exact_bytes k l p) lead, h.2)
      by Equal Greater q p on = absurd (cc)
      by Greater Less q p on = absurd (cc)
      by Greater Equal q p on = absurd (cc)
      by Greater Greater q p on = (h.0, h.1, on)

  -- all entries are there
  pub one_there : (outer : ℕ) (es : List Keyed) (key : Bor (List ℕ)) (entry : ℕ × ℕ) → IsEntry bytes outer entry → All (IsEntry bytes outer) (map (λ (e : Keyed). e.1) es) → All (IsEntry bytes outer) (map (λ (e : Keyed). e.1) (insert_entry keyed_cmp es key entry))
  one_there outer [] key entry is all = All-cons (IsEntry bytes outer) entry [] is (All-nil (IsEntry bytes outer))
  one_there outer (e ∷ es) key entry is all = by (keyed_cmp key e.0) (one_there outer es key entry is (All-tail (IsEntry bytes outer) e.1 (map (λ (e : Keyed). e.1) es) all))
    where
      by : (r : Ordering) → All (IsEntry bytes outer) (map (λ (e : Keyed). e.1) (insert_entry keyed_cmp es key entry)) → All (IsEntry bytes outer) (map (λ (e : Keyed). e.1) (match_ordering r ((key, entry) ∷ e ∷ es) ((e.0, entry) ∷ es) (e ∷ insert_entry keyed_cmp es key entry)))
      by Less on = All-cons (IsEntry bytes outer) entry (e.1 ∷ map (λ (e : Keyed). e.1) es) is all
      by Equal on = All-cons (IsEntry bytes outer) entry (map (λ (e : Keyed). e.1) es) is (All-tail (IsEntry bytes outer) e.1 (map (λ (e : Keyed). e.1) es) all)
      by Greater on = All-cons (IsEntry bytes outer) e.1 (map (λ (e : Keyed). e.1) (insert_entry keyed_cmp es key entry)) (All-head (IsEntry bytes outer) e.1 (map (λ (e : Keyed). e.1) es) all) on

  -- ---- entries that are left, while the others stand under their keys

  abbrev pub AreSorting : List (ℕ × ℕ) → List Keyed → Tree → Type 0
  AreSorting left sorted t = (rest : Pairs) × (others : Pairs) × (t ≡ tree.map hashed (all_added rest others)) × LeadTo bytes left rest × KeysLeadTo sorted others

  pub sorting_on : (entry : ℕ × ℕ) (later : List (ℕ × ℕ)) (sorted : List Keyed) {t : Tree} (key : Bor (List ℕ)) → ((k : List ℕ) → HeldAt text (λ _. ⊤) bytes entry.0 (string k) → key.now ≡ k) → AreSorting (entry ∷ later) sorted t → AreSorting later (insert_entry keyed_cmp sorted key entry) t
  sorting_on entry later sorted {t = t} key says a = by a.0 a.2 a.3
    where
      by : (rest : Pairs) → t ≡ tree.map hashed (all_added rest a.1) → LeadTo bytes (entry ∷ later) rest → AreSorting later (insert_entry keyed_cmp sorted key entry) t
      by no_pairs is lead = absurd lead
      by (more_pairs k u ps) is lead = (ps, added k u a.1, is, lead.2, one_keyed sorted a.1 key entry k u (says k lead.0) (lead.0, lead.1) a.4)

  pub sorting_done : (sorted : List Keyed) {t : Tree} → AreSorting [] sorted t → (ps : Pairs) × (t ≡ tree.map hashed ps) × LeadTo bytes (map (λ (e : Keyed). e.1) sorted) ps
  sorting_done sorted {t = t} a = by a.0 a.2 a.3
    where
      by : (rest : Pairs) → t ≡ tree.map hashed (all_added rest a.1) → LeadTo bytes [] rest → (ps : Pairs) × (t ≡ tree.map hashed ps) × LeadTo bytes (map (λ (e : Keyed). e.1) sorted) ps
      by no_pairs is lead = (a.1, is, keys_lead sorted a.1 a.4)
      by (more_pairs k u ps) is lead = absurd lead
