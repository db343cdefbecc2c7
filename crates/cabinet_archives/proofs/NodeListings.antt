-- What a map lists of a node and of what it leads to, by what the bytes there say.
use Rattle.std.proofs.Common.{◌≡◌, ◌∙◌, ℕ, suc, ◌+◌, ◌*◌, ◌<◌, ◌≤◌, ◌==◌, Bool, true, false, List, [], ◌∷◌, ◌++◌, slice_index, Some, refl, sym, ap, subst, arith, append-nil, ne_eqb, lt-ltb, nat_lt, inl, inr, ◌⊎◌, ◌≢◌}
use Rattle.std.specs.Int.{w64}
use Rattle.std.proofs.lemmas.Bool.Decides.{eqb_tells}
use Rattle.archive_shape_layout.specs.Bytes.{window, align_up, word_at, target_from}
use Rattle.archive_shape_layout.specs.Shape.{Shape, align_of}
use Rattle.archive_shape_layout.specs.Shape.Shape.{number, truth, text, option, box, choice, vector, shared}
use Rattle.archive_shape_layout.specs.Shape.Pointee.{sized, slice, str}
use Rattle.archive_shape_layout.specs.Content.{Part, Label, content_of, choose, shape_tagged, shape_content, shared_content, text_content, text_length, begins_inline, before_ff, pointee_content, elements}
use Rattle.archive_shape_layout.specs.Content.Part.{at, behind}
use Rattle.archive_shape_layout.specs.Content.Label.{same, whole, written}
use Rattle.archive_shape_layout.specs.Content.Content.{plain, counting}
use Rattle.archive_shape_layout.proofs.Windows.{word_within}
use Rattle.archive_forms_laws.proofs.TextContent.{followed}
use Rattle.archive_forms_values.proofs.Chosen.{chosen, not_chosen}
use Rattle.archive_forms_values.proofs.Tagged.{choice_is, none_is, own_tag, some_is}
use Rattle.archive_forms_values.proofs.Targets.{first_word}
use Rattle.archive_forms_values.specs.Parts.{PointsTo}
use Rattle.cabinet_text_grammar.specs.Path.{Step, place, inside}
use Rattle.cabinet_documents.specs.Node.{node_shape, node_names, payloads, whole_shape}
use Rattle.cabinet_archives.specs.Mapping.{Name, Listed, node, listed_region, listed_tag, node_tag, name_in, end_after, Maps, MapsAll}
use Rattle.cabinet_archives.specs.declared.mapping.region.RegionKind.{RegionKind}
use Rattle.cabinet_archives.specs.declared.mapping.region.RegionKind.TheVariants as kind
use Rattle.cabinet_archives.proofs.Listings.{plain_maps, claimed_maps, CountedMaps, counted_first, counted_later, counting_maps, no_maps, not_mapped, first_maps}

-- a region of this kind, to whose node a path leads
abbrev pub named : RegionKind → List Step → Name
named k path = record { kind = k; path = path }

module _ (bytes : List ℕ) where
  -- ---- one part and none

  pub none_listed : {n : Name} {p : Part} {l : Label} {low : ℕ} {listed : List Listed} → content_of node_names bytes p ≡ plain l [] → Maps node_names bytes n p low listed → listed ≡ listed_tag (node_tag bytes p)
  none_listed {p = p} e m =
      let o = plain_maps node_names bytes e m in
      o.is ∙ ap (λ x. listed_tag (node_tag bytes p) ++ x) (no_maps node_names bytes o.all) ∙ append-nil (listed_tag (node_tag bytes p))

  pub only_maps : {n : Name} {p q : Part} {i low : ℕ} {listed : List Listed} → MapsAll node_names bytes n p i (q ∷ []) low listed → Maps node_names bytes (name_in bytes p i n) q low listed
  only_maps {n = n} {p = p} {q = q} {i = i} {low = low} all =
      let o = first_maps node_names bytes all in
      subst (Maps node_names bytes (name_in bytes p i n) q low) (sym (o.is ∙ ap (λ x. o.here ++ x) (no_maps node_names bytes o.rest) ∙ append-nil o.here)) o.first

  pub record OneListed (n m : Name) (p q : Part) (low : ℕ) (listed : List Listed) : Type 0 where
    pub inner : List Listed
    pub maps : Maps node_names bytes m q low inner
    pub is : listed ≡ listed_tag (node_tag bytes p) ++ inner

  pub one_listed : {n : Name} {p q : Part} {l : Label} {low : ℕ} {listed : List Listed} → content_of node_names bytes p ≡ plain l (q ∷ []) → Maps node_names bytes n p low listed → OneListed n (name_in bytes p 0 n) p q low listed
  one_listed e m = let o = plain_maps node_names bytes e m in record { inner = o.inner; maps = only_maps o.all; is = o.is }

  -- ---- nodes

  pub record NodeListed (path : List Step) (pos : ℕ) (q : Part) (low : ℕ) (listed : List Listed) : Type 0 where
    pub inner : List Listed
    pub maps : Maps node_names bytes (named kind.Text path) q low inner
    pub is : listed ≡ node (slice_index bytes pos) ∷ inner

  module _ {k : RegionKind} {path : List Step} {pos low : ℕ} {listed : List Listed} where
    pub node_listed : {tag : ℕ} {s : Shape} → slice_index bytes pos ≡ tag → shape_tagged tag payloads ≡ Some s
        → Maps node_names bytes (named k path) (at pos node_shape) low listed → NodeListed path pos (at (pos + align_up 1 (align_of s)) s) low listed
    unfolding shape_content choose listed_tag align_up
    node_listed {tag = tag} {s = s} is payload m =
        let o = one_listed {q = at pos (choice payloads)} {l = same} refl m in
        let says = choice_is node_names bytes pos payloads tag s (align_up 1 (align_of s)) is payload refl in
        let i = one_listed says o.maps in
        record { inner = i.inner; maps = i.maps; is = o.is ∙ ap (λ x. node (slice_index bytes pos) ∷ x) i.is }

    -- of a payload that is aligned to four bytes
    pub payload_listed : {tag to : ℕ} (s : Shape) → slice_index bytes pos ≡ tag → shape_tagged tag payloads ≡ Some s → align_of s ≡ 4 → to ≡ pos + 4
        → Maps node_names bytes (named k path) (at pos node_shape) low listed → NodeListed path pos (at to s) low listed
    unfolding align_up
    payload_listed {to = to} s is payload four there m =
        let o = node_listed is payload m in
        let same : pos + align_up 1 (align_of s) ≡ to = ap (λ n. pos + align_up 1 n) four ∙ sym there in
        record { inner = o.inner; maps = subst (λ n. Maps node_names bytes (named kind.Text path) (at n s) low o.inner) same o.maps; is = o.is }

  -- ---- what a pointer to a node leads to

  pub record BehindListed (k : RegionKind) (path : List Step) (to low : ℕ) (listed : List Listed) : Type 0 where
    pub inner : List Listed
    pub maps : Maps node_names bytes (named k (path ++ inside ∷ [])) (at to node_shape) low inner
    pub is : listed ≡ inner ++ listed_region to 24 (named k path)

  node_behind : {path : List Step} {to low : ℕ} {listed : List Listed} → Maps node_names bytes (named kind.Node path) (behind to (sized node_shape) 1) low listed → BehindListed kind.Node path to low listed
  unfolding pointee_content
  node_behind {to = to} m =
      let o = claimed_maps node_names bytes {s = record { start = to; size = 24; align = 8 }} {l = same} {ps = at to node_shape ∷ []} refl m in
      record { inner = o.inner; maps = only_maps o.all; is = o.is }

  whole_behind : {path : List Step} {to low : ℕ} {listed : List Listed} → Maps node_names bytes (named kind.Whole path) (behind to (sized node_shape) 1) low listed → BehindListed kind.Whole path to low listed
  unfolding pointee_content
  whole_behind {to = to} m =
      let o = claimed_maps node_names bytes {s = record { start = to; size = 24; align = 8 }} {l = same} {ps = at to node_shape ∷ []} refl m in
      record { inner = o.inner; maps = only_maps o.all; is = o.is }

  -- ---- truth values and numbers

  pub truth_listed : (n : Name) (pos low : ℕ) (listed : List Listed) → Maps node_names bytes n (at pos truth) low listed → listed ≡ []
  unfolding shape_content listed_tag
  truth_listed n pos low listed m = by (nat_lt (slice_index (window bytes pos 1) 0) 2) refl
    where
      by : (b : Bool) → nat_lt (slice_index (window bytes pos 1) 0) 2 ≡ b → listed ≡ []
      by true e = none_listed (chosen _ _ _ e) m
      by false e = absurd (not_mapped node_names bytes (not_chosen _ _ _ e) m)

  pub integer_listed : (n : Name) (pos low : ℕ) (listed : List Listed) → Maps node_names bytes n (at pos (number w64 true)) low listed → listed ≡ []
  unfolding shape_content listed_tag
  integer_listed n pos low listed m = none_listed refl m

  -- ---- options

  module _ {n : Name} {pos low : ℕ} {listed : List Listed} (m : Maps node_names bytes n (at pos (option (box (sized node_shape)))) low listed) where
    -- what is not none is some
    pub some_tagged : (slice_index bytes pos ≡ 0 → ⊥) → slice_index bytes pos ≡ 1
    unfolding shape_content align_up
    some_tagged other = by (slice_index bytes pos == 1) (eqb_tells (slice_index bytes pos) 1)
      where
        own : slice_index (window bytes pos 8) 0 ≡ slice_index bytes pos
        own = own_tag bytes pos 8 (omega arith)

        by : (b : Bool) → ((b ≡ true) × (slice_index bytes pos ≡ 1)) ⊎ ((b ≡ false) × (slice_index bytes pos ≢ 1)) → slice_index bytes pos ≡ 1
        by true (inl e) = e.1
        by true (inr e) = absurd (cc)
        by false (inl e) = e.1
        by false (inr e) = absurd (not_mapped node_names bytes
            (not_chosen _ _ _ (ne_eqb _ 0 (λ f. other (sym own ∙ f))) ∙ not_chosen _ _ _ (ne_eqb _ 1 (λ f. e.1 (sym own ∙ f)))) m)

    pub nothing_listed : slice_index bytes pos ≡ 0 → listed ≡ []
    unfolding listed_tag
    nothing_listed e = none_listed (none_is node_names bytes pos (box (sized node_shape)) 4 refl (omega arith) e) m

    pub some_listed : {to : ℕ} → slice_index bytes pos ≡ 1 → PointsTo bytes (pos + 4) to → BehindListed kind.Node n.path to low listed
    unfolding listed_tag shape_content
    some_listed {to = to} e leads =
        let o = one_listed (some_is node_names bytes pos (box (sized node_shape)) 4 refl (omega arith) e) m in
        let says : content_of node_names bytes (at (pos + 4) (box (sized node_shape))) ≡ plain same (behind to (sized node_shape) 1 ∷ []) =
        followed (target_from (pos + 4) (word_at (window bytes (pos + 4) 4) 0)) to (λ t. plain same (behind t (sized node_shape) 1 ∷ [])) (ap (target_from (pos + 4)) (first_word bytes (pos + 4) 4 (omega arith)) ∙ leads) in
        let b = one_listed says o.maps in
        let r = node_behind b.maps in
        record { inner = r.inner; maps = r.maps; is = o.is ∙ b.is ∙ r.is }

  -- ---- wholes

  pub data WholeListed (path : List Step) (to low : ℕ) (listed : List Listed) : Type 0 where
    whole_first : low ≤ to → BehindListed kind.Whole path to low listed → WholeListed path to low listed
    whole_later : to < low → listed ≡ [] → WholeListed path to low listed

  pub whole_listed : {n : Name} {pos to low : ℕ} {listed : List Listed} → PointsTo bytes pos to → Maps node_names bytes n (at pos whole_shape) low listed → WholeListed n.path to low listed
  unfolding shape_content shared_content
  whole_listed {n = n} {pos = pos} {to = to} {low = low} {listed = listed} leads m = by (counting_maps node_names bytes says m)
    where
      says : content_of node_names bytes (at pos whole_shape) ≡ counting false to (sized node_shape) 1
      says = followed (target_from pos (word_at (window bytes pos 4) 0)) to (λ t. counting false t (sized node_shape) 1) (ap (target_from pos) (first_word bytes pos 4 (omega arith)) ∙ leads)

      by : CountedMaps node_names bytes n (at pos whole_shape) (behind to (sized node_shape) 1) to low listed → WholeListed n.path to low listed
      by (counted_first high h) = whole_first high (whole_behind h)
      by (counted_later less none) = whole_later less none

  -- ---- lists

  pub record ListListed (path : List Step) (to len low : ℕ) (listed : List Listed) : Type 0 where
    pub inner : List Listed
    pub all : MapsAll node_names bytes (named kind.Elements path) (behind to (slice node_shape) len) 0 (elements to len node_shape) low inner
    pub is : listed ≡ inner ++ listed_region to (len * 24) (named kind.Elements path)

  pub list_listed : {n : Name} {pos to low : ℕ} {listed : List Listed} → PointsTo bytes pos to → Maps node_names bytes n (at pos (vector node_shape)) low listed → ListListed n.path to (word_at bytes (pos + 4)) low listed
  unfolding shape_content pointee_content listed_tag
  list_listed {n = n} {pos = pos} {to = to} leads m =
      let len = word_at bytes (pos + 4) in
      let says : content_of node_names bytes (at pos (vector node_shape)) ≡ plain same (behind to (slice node_shape) len ∷ []) =
      followed (target_from pos (word_at (window bytes pos 8) 0)) to (λ t. plain same (behind t (slice node_shape) (word_at (window bytes pos 8) 4) ∷ [])) (ap (target_from pos) (first_word bytes pos 8 (omega arith)) ∙ leads)
      ∙ ap (λ x. plain same (behind to (slice node_shape) x ∷ [])) (word_within bytes pos 8 4 (omega arith)) in
      let o = one_listed says m in
      let c = claimed_maps node_names bytes {s = record { start = to; size = len * 24; align = 8 }} {l = whole} {ps = elements to len node_shape} refl o.maps in
      record { inner = c.inner; all = c.all; is = o.is ∙ c.is }

  -- the first of the elements that are left, the one at place i
  pub record ElementListed (path : List Step) (to len i at_pos rest low : ℕ) (listed : List Listed) : Type 0 where
    pub here : List Listed
    pub later : List Listed
    pub first : Maps node_names bytes (named kind.Elements (path ++ place i ∷ [])) (at at_pos node_shape) low here
    pub others : MapsAll node_names bytes (named kind.Elements path) (behind to (slice node_shape) len) (suc i) (elements (at_pos + 24) rest node_shape) (end_after low here) later
    pub is : listed ≡ here ++ later

  pub element_listed : {path : List Step} {to len i at_pos low : ℕ} {listed : List Listed} (rest : ℕ) → MapsAll node_names bytes (named kind.Elements path) (behind to (slice node_shape) len) i (elements at_pos (suc rest) node_shape) low listed → ElementListed path to len i at_pos rest low listed
  unfolding elements
  element_listed rest all = let o = first_maps node_names bytes all in record { here = o.here; later = o.later; first = o.first; others = o.rest; is = o.is }

  -- ---- texts

  module _ {n : Name} {pos low : ℕ} {listed : List Listed} where
    pub text_inline : begins_inline (slice_index (window bytes pos 8) 0) ≡ true → Maps node_names bytes n (at pos text) low listed → listed ≡ []
    unfolding shape_content text_content listed_tag
    text_inline near m = none_listed {l = written (before_ff (window bytes pos 8))} (chosen (begins_inline (slice_index (window bytes pos 8) 0)) _ _ near) m

    pub text_away : {to len : ℕ} → begins_inline (slice_index (window bytes pos 8) 0) ≡ false → len ≡ text_length (word_at (window bytes pos 8) 0) → 8 < len → target_from pos (word_at (window bytes pos 8) 4) ≡ Some to
        → Maps node_names bytes n (at pos text) low listed → listed ≡ listed_region to len n
    unfolding shape_content text_content listed_tag pointee_content
    text_away {to = to} {len = len} away is long leads m =
        let own = window bytes pos 8 in
        let says : content_of node_names bytes (at pos text) ≡ plain same (behind to str len ∷ []) =
        not_chosen (begins_inline (slice_index own 0)) _ _ away
        ∙ chosen _ _ _ (lt-ltb 8 (text_length (word_at own 0)) (omega (arith, is, long)))
        ∙ followed (target_from pos (word_at own 4)) to (λ t. plain same (behind t str (text_length (word_at own 0)) ∷ [])) leads
        ∙ ap (λ x. plain same (behind to str x ∷ [])) (sym is) in
        let o = one_listed says m in
        let c = claimed_maps node_names bytes {s = record { start = to; size = len; align = 1 }} {l = written (window bytes to len)} {ps = []} refl o.maps in
        o.is ∙ c.is ∙ ap (λ x. x ++ listed_region to len n) (no_maps node_names bytes c.all)

  -- ---- shared texts

  pub data SharedListed (path : List Step) (to len low : ℕ) (listed : List Listed) : Type 0 where
    shared_first : low ≤ to → listed ≡ listed_region to len (named kind.Shared path) → SharedListed path to len low listed
    shared_later : to < low → listed ≡ [] → SharedListed path to len low listed

  pub shared_listed : {n : Name} {pos to low : ℕ} {listed : List Listed} → PointsTo bytes pos to → Maps node_names bytes n (at pos (shared false str)) low listed → SharedListed n.path to (word_at bytes (pos + 4)) low listed
  unfolding shape_content shared_content pointee_content
  shared_listed {n = n} {pos = pos} {to = to} {low = low} {listed = listed} leads m = by (counting_maps node_names bytes says m)
    where
      says : content_of node_names bytes (at pos (shared false str)) ≡ counting false to str (word_at bytes (pos + 4))
      says =
          followed (target_from pos (word_at (window bytes pos 8) 0)) to (λ t. counting false t str (word_at (window bytes pos 8) 4)) (ap (target_from pos) (first_word bytes pos 8 (omega arith)) ∙ leads)
          ∙ ap (counting false to str) (word_within bytes pos 8 4 (omega arith))

      by : CountedMaps node_names bytes n (at pos (shared false str)) (behind to str (word_at bytes (pos + 4))) to low listed → SharedListed n.path to (word_at bytes (pos + 4)) low listed
      by (counted_first high h) =
          let len = word_at bytes (pos + 4) in
          let c = claimed_maps node_names bytes {s = record { start = to; size = len; align = 1 }} {l = written (window bytes to len)} {ps = []} refl h in
          shared_first high (c.is ∙ ap (λ x. x ++ listed_region to len (named kind.Shared n.path)) (no_maps node_names bytes c.all))
      by (counted_later less none) = shared_later less none
