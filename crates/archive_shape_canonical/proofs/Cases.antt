-- One step of two canonical archives of one value: a part with no region claimed around it, one that claims, and a
-- counted pointer.
use Rattle.std.proofs.Common.{zero, ◌&&◌, nat_le, ◌≡◌, ℕ, ◌+◌, ◌-◌, suc, Bool, List, [], ◌∷◌, ◌++◌, drop, length, get_or, slice_index, Some, refl, ap, ap₂, sym, subst, ◌∙◌, arith, ◌⊎◌, inl, inr, ⊎_elim, get_or-drop}
use Rattle.std.specs.Prelude.{⊤}
use Rattle.archive_shape_layout.specs.Content.{Names, Part, Span, Label, Content, content_of, made, entries, pointee_content, keys_offset, values_offset, links_offset, link_node_size, words_of, node_content, control_count}
use Rattle.archive_shape_layout.specs.Content.Part.{at, behind, node, child, entry, buckets, place_at}
use Rattle.archive_shape_layout.specs.Content.Label.{written}
use Rattle.archive_shape_layout.specs.Content.Content.{plain, claimed, counting}
use Rattle.archive_shape_layout.specs.Shape.{Shape, Pointee, size_of}
use Rattle.archive_shape_layout.specs.Shape.Pointee.{sized, slice, str}
use Rattle.archive_shape_layout.specs.Value.{Value, Values}
use Rattle.archive_shape_layout.specs.Bytes.{window, align_up, word_at}
use Rattle.archive_shape_layout.specs.Holds.{Region, region_of, Visit, OpenShared, Holds, HoldAll, Ascends}
use Rattle.archive_shape_layout.proofs.Ascent.{Ascends-append}
use Rattle.archive_shape_canonical.specs.Clean.{IsIn, Owns, InParts, InField, InFieldOfNode, FieldPartOrZero, PaddingIsZero, IsFilled, IsClean}
use Rattle.archive_shape_canonical.specs.Sharing.{erased, all_erased}
use Rattle.archive_shape_canonical.specs.Settled.{Fit}
use Rattle.archive_shape_canonical.specs.Canonical.{InRegions}
use Rattle.archive_shape_canonical.proofs.Choosing.{choices, LeadsChosen, IsChosen}
use Rattle.archive_shape_canonical.proofs.Kept.{node_kind, field_claimed}
use Rattle.archive_shape_canonical.proofs.Nodes.{SameClaim, step_node, step_buckets, chosen_claim, length-entries}
use Rattle.archive_shape_layout.proofs.Framed.{links_fit}
use Rattle.archive_shape_canonical.proofs.Numbers.{SameFirst}
use Rattle.archive_shape_canonical.specs.Canonical.{AreBytes}
use Rattle.archive_shape_canonical.proofs.Akin.{Akin, AllAkin, akin_none, akin_more, akin_at, akin_behind, akin_node, akin_child, akin_entry, akin_buckets, akin_place, SameCount, Match, no_left, no_right, leaves, texts, wholes, ones, tags, short_long, long_short, totals, empty_total, total_empty, tables, empty_table, table_empty, maps, empty_map, map_empty, no_child, child_no, counts, shape_match, child_match, place_match}
use Rattle.archive_shape_canonical.proofs.Fields.{IsContent, shape_field, child_field, place_field, word_field}
use Rattle.archive_shape_canonical.proofs.Steps.{is_counted, step, step_behind}
use Rattle.archive_shape_canonical.proofs.Windows.{window_bytes, window_length, at_window, kind, match_kind, not_two, IsPlace, behind_claims, node_two, buckets_two, InRegions-append, spans, place_parts}

module _ (fit : Fit) (names : Names) (bytes others : List ℕ) (small : AreBytes bytes) (tiny : AreBytes others) where
  abbrev pub Agree : ℕ → Type 0
  Agree i = slice_index bytes i ≡ slice_index others i

  -- ---- places

  content_match : {P : Type 0} {p p' : Part} → Akin bytes others P p p' → IsPlace p → Match bytes others P (content_of names bytes p) (content_of names others p')
  content_match {P = P} (akin_at {pos = pos} {pos' = pos'} {s = s} f) h =
      shape_match bytes others names P pos pos' f (window bytes pos (size_of s)) (window others pos' (size_of s)) s (window_length bytes pos (size_of s)) (window_length others pos' (size_of s))
  content_match {P = P} (akin_child {level = level} {most = most} {k = k} {v = v} {pos = pos} {pos' = pos'} f) h = child_match bytes others names P pos pos' f level most k v (window bytes pos 4) (window others pos' 4)
  content_match (akin_entry f g) h = wholes (akin_more (akin_at f) (akin_more (akin_at g) akin_none))
  content_match {P = P} (akin_place {pos = pos} {pos' = pos'} {limit = limit} f) h = place_match bytes others names P pos pos' f limit (window bytes pos 4) (window others pos' 4)
  content_match (akin_behind g) h = absurd h
  content_match akin_node h = absurd h
  content_match (akin_buckets g) h = absurd h

  place_moves : {P : Type 0} {p p' : Part} → Akin bytes others P p p' → IsPlace p → P → p ≡ p'
  place_moves (akin_at {s = s} f) h x = ap (λ n. at n s) (f x)
  place_moves (akin_child {level = level} {most = most} {k = k} {v = v} f) h x = ap (child level most k v) (f x)
  place_moves (akin_entry {k = k} {v = v} f g) h x = ap₂ (λ y z. entry k y v z) (f x) (g x)
  place_moves (akin_place {limit = limit} f) h x = ap (λ n. place_at n limit) (f x)
  place_moves (akin_behind g) h x = absurd h
  place_moves akin_node h x = absurd h
  place_moves (akin_buckets g) h x = absurd h

  -- a part whose content is not claimed is a spot, and so is its like
  is_place : (p : Part) (c : Content) → content_of names bytes p ≡ c → IsContent c → (kind c ≡ 2 → ⊥) → IsPlace p
  is_place (at pos s) c e h k = tt
  is_place (child level most x v pos) c e h k = tt
  is_place (entry x a v b) c e h k = tt
  is_place (place_at pos limit) c e h k = tt
  is_place (behind t q len) c e h k = absurd (k (ap kind (sym e) ∙ behind_claims bytes t q len))
  is_place (node level most x v pos) c e h k = absurd (k (node_two level most x v pos _ _ c e h))
  is_place (buckets target len cap it) c e h k = absurd (k (buckets_two target len cap it _ c e h))

  claims_both : {P : Type 0} {p p' : Part} {c c' : Content} → Akin bytes others P p p' → (IsPlace p → ⊥) → content_of names bytes p ≡ c → content_of names others p' ≡ c' → IsContent c → IsContent c' → (kind c ≡ 2) × (kind c' ≡ 2)
  claims_both (akin_at f) never e e' h h' = absurd (never tt)
  claims_both (akin_child f) never e e' h h' = absurd (never tt)
  claims_both (akin_entry f g) never e e' h h' = absurd (never tt)
  claims_both (akin_place f) never e e' h h' = absurd (never tt)
  claims_both (akin_behind {t = t} {t' = t'} {len = len} {len' = len'} {q = q} g) never e e' h h' = (ap kind (sym e) ∙ behind_claims bytes t q len, ap kind (sym e') ∙ behind_claims others t' q len')
  claims_both {c = c} {c' = c'} (akin_node {level = level} {most = most} {k = k} {v = v}) never e e' h h' = (node_two level most k v _ _ _ c e h, node_two level most k v _ _ _ c' e' h')
  claims_both {c = c} {c' = c'} (akin_buckets {len = len} {cap = cap} {it = it} g) never e e' h h' = (buckets_two _ len cap it _ c e h, buckets_two _ len cap it _ c' e' h')

  place_or_claim : (p : Part) → IsPlace p ⊎ (IsPlace p → ⊥)
  place_or_claim (at pos s) = inl tt
  place_or_claim (child level most x v pos) = inl tt
  place_or_claim (entry x a v b) = inl tt
  place_or_claim (place_at pos limit) = inl tt
  place_or_claim (behind t q len) = inr (λ h. h)
  place_or_claim (node level most x v pos) = inr (λ h. h)
  place_or_claim (buckets target len cap it) = inr (λ h. h)

  pub kinds : {P : Type 0} {p p' : Part} {c c' : Content} → Akin bytes others P p p' → content_of names bytes p ≡ c → content_of names others p' ≡ c' → IsContent c → IsContent c' → kind c ≡ kind c'
  kinds {p = p} k e e' h h' =
      ⊎_elim
      (λ spot. ap kind (sym e) ∙ match_kind (content_match k spot) (subst IsContent (sym e) h) (subst IsContent (sym e') h') ∙ ap kind e')
      (λ never. let both = claims_both k never e e' h h' in both.0 ∙ sym both.1)
      (place_or_claim p)

  four_field : (pos : ℕ) → SameFirst 4 (window bytes pos 4) (window others pos 4) → (i : ℕ) → IsIn pos 4 i → Agree i
  four_field pos first i own =
      let low = own.0 in
      let high = own.1 in
      at_window bytes pos 4 i own.0 own.1 ∙ first (i - pos) (omega arith) ∙ sym (at_window others pos 4 i own.0 own.1)

  place_field_same : (p : Part) (c : Content) → IsPlace p → content_of names bytes p ≡ c → content_of names others p ≡ c → IsContent c
      → IsFilled bytes p c → IsFilled others p c → (i : ℕ) → Owns p i → InField bytes p i → Agree i
  place_field_same (at pos s) c k e e' h t t' i own in_field =
      let w = window bytes pos (size_of s) in
      let w' = window others pos (size_of s) in
      let first = shape_field w w' (window_bytes bytes pos (size_of s) small) (window_bytes others pos (size_of s) tiny) names pos s c e e' h t t' in
      let low = own.0 in
      let high = in_field.1 in
      at_window bytes pos (size_of s) i own.0 own.1 ∙ first (i - pos) (omega arith) ∙ sym (at_window others pos (size_of s) i own.0 own.1)
  place_field_same (child level most x v pos) c k e e' h t t' i own in_field =
      four_field pos (child_field (window bytes pos 4) (window others pos 4) (window_bytes bytes pos 4 small) (window_bytes others pos 4 tiny) level most x v pos c e e' h) i own
  place_field_same (entry x a v b) c k e e' h t t' i own in_field = absurd in_field
  place_field_same (place_at pos limit) c k e e' h t t' i own in_field =
      four_field pos (place_field (window bytes pos 4) (window others pos 4) (window_bytes bytes pos 4 small) (window_bytes others pos 4 tiny) limit c e e' h) i own
  place_field_same (behind pos q len) c k e e' h t t' i own in_field = absurd k
  place_field_same (node level most x v pos) c k e e' h t t' i own in_field = absurd k
  place_field_same (buckets target len cap it) c k e e' h t t' i own in_field = absurd k

  place_field_back : (p : Part) → IsPlace p → (i : ℕ) → InField others p i → InField bytes p i
  place_field_back (at pos s) k i h = h
  place_field_back (child level most x v pos) k i h = h
  place_field_back (entry x a v b) k i h = h
  place_field_back (place_at pos limit) k i h = h
  place_field_back (behind pos q len) k i h = absurd k
  place_field_back (node level most x v pos) k i h = absurd k
  place_field_back (buckets target len cap it) k i h = absurd k

  -- what is settled where a spot leads
  led_bytes : (bs : List ℕ) (p : Part) (l : Label) (ps : List Part) (vs : Values) → IsPlace p → content_of names bs p ≡ plain l ps → IsChosen (choices fit) bs p ps vs → LeadsChosen (choices fit) bs ps vs
  led_bytes bs (at pos s) l ps vs k e h = h
  led_bytes bs (child level most x v pos) l ps vs k e h = h
  led_bytes bs (entry x a v b) l ps vs k e h = let here : at a x ∷ (at b v ∷ []) ≡ ps = cc in subst (λ y. LeadsChosen (choices fit) bs y vs) here tt
  led_bytes bs (place_at pos limit) l ps vs k e h = subst (λ y. LeadsChosen (choices fit) bs y vs) (place_parts limit (window bs pos 4) e) tt
  led_bytes bs (behind pos q len) l ps vs k e h = absurd k
  led_bytes bs (node level most x v pos) l ps vs k e h = absurd k
  led_bytes bs (buckets target len cap it) l ps vs k e h = absurd k

  akin_place_too : {P : Type 0} {p p' : Part} → Akin bytes others P p p' → IsPlace p → IsPlace p'
  akin_place_too (akin_at f) h = tt
  akin_place_too (akin_child f) h = tt
  akin_place_too (akin_entry f g) h = tt
  akin_place_too (akin_place f) h = tt
  akin_place_too (akin_behind g) h = absurd h
  akin_place_too akin_node h = absurd h
  akin_place_too (akin_buckets g) h = absurd h

  -- a byte that is a field's, or a part's, or zero, in both
  accounted : (p : Part) (ps : List Part) (i : ℕ) → (InField bytes p i → Agree i) → (InField others p i → Agree i) → (InParts ps i → Agree i)
      → FieldPartOrZero bytes p ps i → FieldPartOrZero others p ps i → Agree i
  accounted p ps i f g h a b =
      ⊎_elim f (λ x. ⊎_elim h (λ y. ⊎_elim g (λ z. ⊎_elim h (λ w. y ∙ sym w) z) b) x) a

  -- ---- what two readings have in common

  pub record Same (P : Type 0) (p p' : Part) (v v' : Value) (rs rs' : List Region) (after after' : List Visit) (end end' : ℕ) : Type 0 where
    pub value : v ≡ v'
    pub regions : rs ≡ rs'
    pub visits : after ≡ after'
    pub ends : end ≡ end'
    pub inside : (i : ℕ) → InRegions rs i → Agree i
    pub part : P → p ≡ p'
    pub own : P → (i : ℕ) → Owns p i → Agree i

  pub record SameAll (P : Type 0) (ps ps' : List Part) (vs vs' : Values) (rs rs' : List Region) (after after' : List Visit) (end end' : ℕ) : Type 0 where
    pub values : vs ≡ vs'
    pub regions : rs ≡ rs'
    pub visits : after ≡ after'
    pub ends : end ≡ end'
    pub inside : (i : ℕ) → InRegions rs i → Agree i
    pub parts : P → ps ≡ ps'
    pub own : P → (i : ℕ) → InParts ps i → Agree i

  made_one : (l l' : Label) (vs vs' : Values) (v v' : Value) → l ≡ l' → vs ≡ vs' → made l vs ≡ Some v → made l' vs' ≡ Some v' → v ≡ v'
  made_one l l' vs vs' v v' el ev m m' = let both : made l vs ≡ made l' vs' = ap₂ (λ x y. made x y) el ev in cc

  -- the own bytes of a spot, where the contents are one
  place_owns : {P : Type 0} {p p' : Part} (c c' : Content) (ps : List Part) → Akin bytes others P p p' → IsPlace p
      → content_of names bytes p ≡ c → content_of names others p' ≡ c' → IsContent c
      → IsClean names bytes p → IsClean names others p'
      → (x : P) → c' ≡ c
      → (PaddingIsZero bytes p c → (i : ℕ) → Owns p i → FieldPartOrZero bytes p ps i) → (PaddingIsZero others p c → (i : ℕ) → Owns p i → FieldPartOrZero others p ps i)
      → ((i : ℕ) → InParts ps i → Agree i) → (i : ℕ) → Owns p i → Agree i
  place_owns {p = p} c c' ps k spot e e' h clean clean' x one g g' own i o =
      let here = sym (place_moves k spot x) in
      let there = subst (λ y. content_of names others y ≡ c') here e' ∙ one in
      let cleaned = subst (λ y. IsClean names others y) here clean' in
      let f1 = subst (λ y. PaddingIsZero bytes p y) e clean.padding in
      let f2 = subst (λ y. PaddingIsZero others p y) there cleaned.padding in
      let t1 = subst (λ y. IsFilled bytes p y) e clean.filled in
      let t2 = subst (λ y. IsFilled others p y) there cleaned.filled in
      let in_field = place_field_same p c spot e there h t1 t2 i o in
      accounted p ps i in_field (λ z. in_field (place_field_back p spot i z)) (own i) (g f1 i o) (g' f2 i o)

  pub plain_case : {P : Type 0} {p p' : Part} {v v' : Value} {rs rs' : List Region} {after after' : List Visit} {end end' : ℕ} {l l' : Label} {ps ps' : List Part} {vs vs' : Values}
      {level level' : ℕ} {inside inside' : List OpenShared} {before before' : List Visit} (low low' : ℕ)
      → IsChosen (choices fit) bytes p ps vs → IsChosen (choices fit) others p' ps' vs'
      → Akin bytes others P p p' → content_of names bytes p ≡ plain l ps → content_of names others p' ≡ plain l' ps'
      → HoldAll names bytes level inside ps vs rs before after → HoldAll names others level' inside' ps' vs' rs' before' after'
      → Ascends low (length bytes) rs → Ascends low' (length others) rs'
      → made l vs ≡ Some v → made l' vs' ≡ Some v' → erased v ≡ erased v'
      → IsClean names bytes p → IsClean names others p'
      → (AllAkin bytes others P ps ps' → all_erased vs ≡ all_erased vs' → SameAll P ps ps' vs vs' rs rs' after after' end end')
      → Same P p p' v v' rs rs' after after' end end'
  plain_case {P = P} {p = p} {p' = p'} {v = v} {v' = v'} {l = l} {l' = l'} {ps = ps} {ps' = ps'} {vs = vs} {vs' = vs'} low low' settled settled' k e e' all all' asc asc' m m' alike clean clean' on =
      let spot = is_place p (plain l ps) e tt (λ x. omega (arith, x)) in
      let led = led_bytes bytes p l ps vs spot e settled in
      let led' = led_bytes others p' l' ps' vs' (akin_place_too k spot) e' settled' in
      let st = step (choices fit) names bytes others P low low' all all' asc asc' v v' m m' alike led led' (content_match k spot) e e' in
      let d = on st.parts st.values in
      record {
        value = made_one l l' vs vs' v v' st.label d.values m m';
        regions = d.regions;
        visits = d.visits;
        ends = d.ends;
        inside = d.inside;
        part = place_moves k spot;
        own = λ x. place_owns (plain l ps) (plain l' ps') ps k spot e e' tt clean clean' x (ap₂ (λ y z. plain y z) (sym st.label) (sym (d.parts x))) (λ y. y) (λ y. y) (d.own x);
      }

  -- ---- what is claimed

  behind_field : (t : ℕ) (q : Pointee) (len : ℕ) (s s' : Span) (l l' : Label) (ps ps' : List Part) → pointee_content bytes t q len ≡ claimed s l ps → pointee_content others t q len ≡ claimed s' l' ps' → l ≡ l'
      → (i : ℕ) → InField bytes (behind t q len) i → Agree i
  unfolding pointee_content
  behind_field t (sized r) len s s' l l' ps ps' e e' el i in_field = absurd in_field
  behind_field t (slice r) len s s' l l' ps ps' e e' el i in_field = absurd in_field
  behind_field t str len s s' l l' ps ps' e e' el i in_field =
      let l1 : written (window bytes t len) ≡ l = cc in
      let l2 : written (window others t len) ≡ l' = cc in
      let both : written (window bytes t len) ≡ written (window others t len) = l1 ∙ el ∙ sym l2 in
      let one : window bytes t len ≡ window others t len = cc in
      at_window bytes t len i in_field.0 in_field.1 ∙ ap (λ w. get_or w (i - t) 0) one ∙ sym (at_window others t len i in_field.0 in_field.1)

  leaf_length : (level most : ℕ) (k v : Shape) (pos : ℕ) (own : List ℕ) (s : Span) (l : Label) (ps : List Part) → node_content level most k v pos zero own ≡ claimed s l ps → word_at own (links_offset most k v) ≡ length ps
  unfolding node_content
  leaf_length level most k v pos own s l ps e =
      let c = (chosen_claim (nat_le level 32 && nat_le (word_at own (links_offset most k v)) most) e).1 in
      let here : entries (word_at own (links_offset most k v)) k (pos + keys_offset k) v (pos + values_offset most k v) ≡ ps = cc in
      sym (length-entries (word_at own (links_offset most k v)) k (pos + keys_offset k) v (pos + values_offset most k v)) ∙ ap length here

  node_field_kind : (level most : ℕ) (k v : Shape) (pos m m' : ℕ) (own own' : List ℕ) (s : Span) (l : Label) (ps : List Part) → m ≡ m'
      → own ≡ window bytes pos (link_node_size (words_of m most) most k v) → own' ≡ window others pos (link_node_size (words_of m' most) most k v)
      → node_content level most k v pos m own ≡ claimed s l ps → node_content level most k v pos m' own' ≡ claimed s l ps
      → slice_index bytes pos ≡ slice_index others pos → (i : ℕ) → InFieldOfNode m most k v pos i → Agree i
  node_field_kind level most k v pos zero zero own own' s l ps em eo eo' e e' first i in_field =
      ⊎_elim
      (λ z. ap (λ n. get_or bytes n 0) z ∙ first ∙ ap (λ n. get_or others n 0) (sym z))
      (λ z.
      let size = link_node_size 1 most k v in
      let word : word_at (window bytes pos size) (links_offset most k v) ≡ word_at (window others pos size) (links_offset most k v) =
      ap (λ w. word_at w (links_offset most k v)) (sym eo) ∙ leaf_length level most k v pos own s l ps e ∙ sym (leaf_length level most k v pos own' s l ps e') ∙ ap (λ w. word_at w (links_offset most k v)) eo' in
      let low = z.0 in
      let high = z.1 in
      let room = links_fit 1 most k v in
      let j : links_offset most k v + (i - (pos + links_offset most k v)) ≡ i - pos = omega (arith, low, high) in
      let there = word_field (window bytes pos size) (window others pos size) (window_bytes bytes pos size small) (window_bytes others pos size tiny) (links_offset most k v) word (i - (pos + links_offset most k v)) (omega (arith, low, high)) in
      at_window bytes pos size i (omega (arith, low)) (omega (arith, high, room))
      ∙ subst (λ n. get_or (window bytes pos size) n 0 ≡ get_or (window others pos size) n 0) j there
      ∙ sym (at_window others pos size i (omega (arith, low)) (omega (arith, high, room))))
      in_field
  node_field_kind level most k v pos (suc m) m' own own' s l ps em eo eo' e e' first i in_field = ap (λ n. get_or bytes n 0) in_field ∙ first ∙ ap (λ n. get_or others n 0) (sym in_field)
  node_field_kind level most k v pos zero (suc m') own own' s l ps em eo eo' e e' first i in_field = absurd (omega (arith, em))

  node_field : (level most : ℕ) (k v : Shape) (pos : ℕ) (s : Span) (l : Label) (ps : List Part)
      → content_of names bytes (node level most k v pos) ≡ claimed s l ps → content_of names others (node level most k v pos) ≡ claimed s l ps
      → (i : ℕ) → InField bytes (node level most k v pos) i → Agree i
  node_field level most k v pos s l ps e e' i in_field =
      let m = slice_index (drop pos bytes) 0 in
      let m' = slice_index (drop pos others) 0 in
      let a = node_kind bytes others level most k v pos m _ (claimed s l ps) e tt in
      let b = node_kind bytes others level most k v pos m' _ (claimed s l ps) e' tt in
      let zero_more : pos + 0 ≡ pos = omega arith in
      let first : slice_index bytes pos ≡ slice_index others pos =
      ap (λ n. get_or bytes n 0) (sym zero_more) ∙ sym (get_or-drop pos bytes 0 0) ∙ a ∙ sym b ∙ get_or-drop pos others 0 0 ∙ ap (λ n. get_or others n 0) zero_more in
      node_field_kind level most k v pos m m' _ _ s l ps (a ∙ sym b) refl refl e e' first i in_field

  record Claims (p p' : Part) (l l' : Label) (ps ps' : List Part) (vs vs' : Values) (s s' : Span) : Type 0 where
    from : ℕ
    to : ℕ
    claim : SameClaim bytes others from to l l' ps ps' vs vs' s s'
    whole : from ≡ to → p ≡ p'
    in_field : content_of names bytes p ≡ claimed s l ps → content_of names others p ≡ claimed s l ps → p ≡ p' → (i : ℕ) → InField bytes p i → Agree i

  no_own : (p : Part) → (IsPlace p → ⊥) → (i : ℕ) → Owns p i → ⊥
  no_own (at pos s) never i o = never tt
  no_own (child level most x v pos) never i o = never tt
  no_own (entry x a v b) never i o = never tt
  no_own (place_at pos limit) never i o = never tt
  no_own (behind t q len) never i o = o
  no_own (node level most x v pos) never i o = o
  no_own (buckets target len cap it) never i o = o

  not_place : (p : Part) {P : Type 0} {p' : Part} {s s' : Span} {l l' : Label} {ps ps' : List Part} → Akin bytes others P p p' → content_of names bytes p ≡ claimed s l ps → content_of names others p' ≡ claimed s' l' ps' → IsPlace p → ⊥
  not_place p k e e' spot = not_two (content_match k spot) (ap kind e) (ap kind e')

  claims_of : {P : Type 0} {p p' : Part} {v v' : Value} {rs rs' within within' : List Region} {after after' : List Visit} {s s' : Span} {l l' : Label} {ps ps' : List Part} {vs vs' : Values}
      {level : ℕ} {inside inside' : List OpenShared} {before before' : List Visit} (low low' : ℕ)
      → IsChosen (choices fit) bytes p ps vs → IsChosen (choices fit) others p' ps' vs'
      → Akin bytes others P p p' → Holds names bytes level inside p v rs before after → Holds names others level inside' p' v' rs' before' after'
      → content_of names bytes p ≡ claimed s l ps → content_of names others p' ≡ claimed s' l' ps'
      → HoldAll names bytes (suc level) inside ps vs within before after → HoldAll names others (suc level) inside' ps' vs' within' before' after'
      → Ascends low (length bytes) rs → Ascends low' (length others) rs'
      → Ascends low (length bytes) within → Ascends low' (length others) within'
      → made l vs ≡ Some v → made l' vs' ≡ Some v' → erased v ≡ erased v'
      → Claims p p' l l' ps ps' vs vs' s s'
  claims_of low low' ch ch' (akin_at {pos = pos} {pos' = pos'} {s = s} f) h h' e e' all all' asc asc' below below' m m' alike = absurd (not_two (content_match (akin_at {s = s} f) tt) (ap kind e) (ap kind e'))
  claims_of low low' ch ch' (akin_child f) h h' e e' all all' asc asc' below below' m m' alike = absurd (not_two (content_match (akin_child f) tt) (ap kind e) (ap kind e'))
  claims_of low low' ch ch' (akin_entry f g) h h' e e' all all' asc asc' below below' m m' alike = absurd (let x = ap kind e in omega (arith, x))
  claims_of low low' ch ch' (akin_place f) h h' e e' all all' asc asc' below below' m m' alike = absurd (not_two (content_match (akin_place f) tt) (ap kind e) (ap kind e'))
  claims_of {v = v} {v' = v'} {s = s} {s' = s'} {l = l} {l' = l'} {ps = ps} {ps' = ps'} low low' ch ch' (akin_behind {t = t} {t' = t'} {len = len} {len' = len'} {q = q} g) h h' e e' all all' asc asc' below below' m m' alike =
      let n = is_counted names bytes low t q len h asc in
      let n' = is_counted names others low' t' q len' h' asc' in
      let b = step_behind (choices fit) names bytes others (t ≡ t') low low' all all' below below' v v' m m' alike t t' q len len' s s' g n n' e e' in
      record {
        from = t;
        to = t';
        claim = record { steps = b.steps; here = λ z. sym b.starts ∙ z ∙ b.starts'; size = b.size; align = b.align };
        whole = λ z. ap₂ (λ x y. behind x q y) z b.len;
        in_field = λ c c' same_part. behind_field t q len s s l l ps ps c c' refl;
      }
  claims_of {v = v} {v' = v'} {s = s} {s' = s'} {l = l} {l' = l'} {ps = ps} {ps' = ps'} low low' ch ch' (akin_node {level = level} {most = most} {k = k} {v = x} {pos = pos} {pos' = pos'}) h h' e e' all all' asc asc' below below' m m' alike =
      record {
        from = pos;
        to = pos';
        claim = step_node names bytes others all all' v v' m m' alike level most k x pos pos' _ _ _ _ s s' ch ch' e e';
        whole = λ z. ap (node level most k x) z;
        in_field = λ c c' same_part. node_field level most k x pos s l ps c c';
      }
  claims_of {v = v} {v' = v'} {s = s} {s' = s'} {l = l} {l' = l'} {ps = ps} {ps' = ps'} low low' ch ch' (akin_buckets {t = t} {t' = t'} {len = len} {cap = cap} {it = it} g) h h' e e' all all' asc asc' below below' m m' alike =
      record {
        from = t;
        to = t';
        claim = step_buckets names bytes others all all' v v' m m' alike t t' len cap it _ _ s s' g e e';
        whole = λ z. ap (λ y. buckets y len cap it) z;
        in_field = λ c c' same_part i in_field.
            let here : t' ≡ t = cc in
            at_window bytes t (control_count cap) i in_field.0 in_field.1 ∙ ap (λ w. get_or w (i - t) 0) (g ∙ ap (λ y. window others y (control_count cap)) here) ∙ sym (at_window others t (control_count cap) i in_field.0 in_field.1);
      }

  pub claimed_case : {P : Type 0} {p p' : Part} {v v' : Value} {rs rs' within within' : List Region} {after after' : List Visit} {s s' : Span} {l l' : Label} {ps ps' : List Part} {vs vs' : Values}
      {level : ℕ} {inside inside' : List OpenShared} {before before' : List Visit} (low low' mid mid' : ℕ)
      → IsChosen (choices fit) bytes p ps vs → IsChosen (choices fit) others p' ps' vs'
      → Akin bytes others P p p' → Holds names bytes level inside p v rs before after → Holds names others level inside' p' v' rs' before' after'
      → content_of names bytes p ≡ claimed s l ps → content_of names others p' ≡ claimed s' l' ps'
      → HoldAll names bytes (suc level) inside ps vs within before after → HoldAll names others (suc level) inside' ps' vs' within' before' after'
      → rs ≡ within ++ region_of s level ∷ [] → rs' ≡ within' ++ region_of s' level ∷ []
      → Ascends low (length bytes) rs → Ascends low' (length others) rs'
      → made l vs ≡ Some v → made l' vs' ≡ Some v' → erased v ≡ erased v'
      → IsClean names bytes p → IsClean names others p'
      → s.start ≡ align_up mid s.align → s'.start ≡ align_up mid' s'.align
      → ((Q : Type 0) → AllAkin bytes others Q ps ps' → all_erased vs ≡ all_erased vs' → SameAll Q ps ps' vs vs' within within' after after' mid mid')
      → Same P p p' v v' rs rs' after after' (s.start + s.size) (s'.start + s'.size)
  claimed_case {p = p} {p' = p'} {v = v} {v' = v'} {rs = rs} {within = within} {within' = within'} {s = s} {s' = s'} {l = l} {l' = l'} {ps = ps} {ps' = ps'} {vs = vs} {vs' = vs'} {level = level} low low' mid mid' ch ch' k h h' e e' all all' r r' asc asc' m m' alike clean clean' st st' on =
      let below = ((Ascends-append low (length bytes) within (region_of s level ∷ [])).0 (subst (Ascends low (length bytes)) r asc)).0 in
      let below' = ((Ascends-append low' (length others) within' (region_of s' level ∷ [])).0 (subst (Ascends low' (length others)) r' asc')).0 in
      let a = claims_of low low' ch ch' k h h' e e' all all' asc asc' below below' m m' alike in
      let b = a.claim in
      let x = b.steps in
      let d = on (a.from ≡ a.to) x.parts x.values in
      let start : s.start ≡ s'.start = st ∙ ap₂ align_up d.ends b.align ∙ sym st' in
      let here = b.here start in
      let same_part : p ≡ p' = a.whole here in
      let one_span : region_of s level ≡ region_of s' level = one_region s s' level start b.size b.align in
      let e2 : content_of names others p ≡ claimed s' l' ps' = ap (content_of names others) same_part ∙ e' in
      let e3 : claimed s' l' ps' ≡ claimed s l ps = claimed_is s s' l l' ps ps' start b.size b.align x.label (d.parts here) in
      let there = e2 ∙ e3 in
      let cleaned = subst (λ y. IsClean names others y) (sym same_part) clean' in
      let f1 = subst (λ c. PaddingIsZero bytes p c) e clean.padding in
      let f2 = subst (λ c. PaddingIsZero others p c) there cleaned.padding in
      let in_field = a.in_field e there same_part in
      record {
        value = made_one l l' vs vs' v v' x.label d.values m m';
        regions = r ∙ ap₂ (λ y z. y ++ z ∷ []) d.regions one_span ∙ sym r';
        visits = d.visits;
        ends = ap₂ (λ y z. y + z) start b.size;
        inside = λ i o.
            ⊎_elim (d.inside i)
            (λ z. ⊎_elim (λ y. accounted p ps i (in_field i) (λ w. in_field i (field_claimed others bytes names p s l ps there e i w)) (d.own here i) (f1 i y) (f2 i y)) (λ y. absurd y) z)
            (InRegions-append within (region_of s level ∷ []) i (subst (λ y. InRegions y i) r o));
        part = λ y. same_part;
        own = λ y i o. absurd (no_own p (not_place p k e e') i o);
      }
    where
      one_region : (s s' : Span) (level : ℕ) → s.start ≡ s'.start → s.size ≡ s'.size → s.align ≡ s'.align → region_of s level ≡ region_of s' level
      one_region s s' level a b c = cc

      claimed_is : (s s' : Span) (l l' : Label) (ps ps' : List Part) → s.start ≡ s'.start → s.size ≡ s'.size → s.align ≡ s'.align → l ≡ l' → ps ≡ ps' → claimed s' l' ps' ≡ claimed s l ps
      claimed_is s s' l l' ps ps' a b c f g =
          let one : s ≡ s' = spans s.start s'.start s.size s'.size s.align s'.align a b c in cc

  -- ---- shared positions

  pub record Counts (P : Type 0) (p p' : Part) (t t' : ℕ) (q q' : Pointee) (len len' : ℕ) : Type 0 where
    pub pointee : q ≡ q'
    pub akin : Akin bytes others ⊤ (behind t q len) (behind t' q' len')
    pub then : t ≡ t' → len ≡ len' → (P → p ≡ p') × (P → (i : ℕ) → Owns p i → Agree i)

  pub counted_case : {P : Type 0} {p p' : Part} {cyclic cyclic' : Bool} {t t' : ℕ} {q q' : Pointee} {len len' : ℕ}
      → Akin bytes others P p p' → content_of names bytes p ≡ counting cyclic t q len → content_of names others p' ≡ counting cyclic' t' q' len'
      → IsClean names bytes p → IsClean names others p' → Counts P p p' t t' q q' len len'
  counted_case {P = P} {p = p} {cyclic = cyclic} {cyclic' = cyclic'} {t = t} {t' = t'} {q = q} {q' = q'} {len = len} {len' = len'} k e e' clean clean' =
      let spot = is_place p (counting cyclic t q len) e tt (λ x. omega (arith, x)) in
      let both = of_match (content_match k spot) e e' in
      record {
        pointee = both.0.1;
        akin = subst (λ z. Akin bytes others ⊤ (behind t q len) (behind t' z len')) both.0.1 both.1;
        then = λ et en. (
          place_moves k spot,
          λ x. place_owns (counting cyclic t q len) (counting cyclic' t' q' len') [] k spot e e' tt clean clean' x (counts_are both.0.0 et both.0.1 en) (λ y. y) (λ y. y) (λ i z. absurd z),
        );
      }
    where
      counts_are : cyclic ≡ cyclic' → t ≡ t' → q ≡ q' → len ≡ len' → counting cyclic' t' q' len' ≡ counting cyclic t q len
      counts_are a b c d = cc

      of_match : {c c' : Content} → Match bytes others P c c' → c ≡ counting cyclic t q len → c' ≡ counting cyclic' t' q' len' → ((cyclic ≡ cyclic') × (q ≡ q')) × Akin bytes others ⊤ (behind t q len) (behind t' q len')
      of_match no_left x y = absurd (cc)
      of_match no_right x y = absurd (cc)
      of_match (leaves a b) x y = absurd (cc)
      of_match texts x y = absurd (cc)
      of_match (wholes a) x y = absurd (cc)
      of_match (ones a) x y = absurd (cc)
      of_match (tags a) x y = absurd (cc)
      of_match (short_long a) x y = absurd (cc)
      of_match (long_short a) x y = absurd (cc)
      of_match (totals a) x y = absurd (cc)
      of_match (empty_total a) x y = absurd (cc)
      of_match (total_empty a) x y = absurd (cc)
      of_match tables x y = absurd (cc)
      of_match (empty_table a) x y = absurd (cc)
      of_match (table_empty a) x y = absurd (cc)
      of_match maps x y = absurd (cc)
      of_match (empty_map a) x y = absurd (cc)
      of_match (map_empty a) x y = absurd (cc)
      of_match no_child x y = absurd (cc)
      of_match child_no x y = absurd (cc)
      of_match (counts {t = u} {t' = u'} {len = n} {len' = n'} {q = r} b) x y =
          let q1 : r ≡ q = cc in
          let n1 : n ≡ len = cc in
          let n2 : n' ≡ len' = cc in
          ((cc, cc), akin_behind (subst (λ z. SameCount z len len') q1 (subst (λ z. SameCount r z len') n1 (subst (λ z. SameCount r n z) n2 b))))
