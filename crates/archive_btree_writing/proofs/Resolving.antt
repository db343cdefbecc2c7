-- The parts of a node, which are written one after the other over zeros.
use Rattle.std.proofs.Common.{◌≡◌, ℕ, ◌+◌, ◌-◌, ◌*◌, ◌^◌, ◌≤◌, ◌<◌, set, List, [], ◌∷◌, ◌++◌, length, refl, arith, length-append, ap, ap₂, sym, subst, ◌∙◌, inl, inr, Some, None, Option, Ok, Err}
use Rattle.std.specs.Prelude.{Result, MatchResult}
use Rattle.archive_shape_layout.specs.Shape.{Shape, size_of}
use Rattle.archive_shape_layout.specs.Content.{keys_offset, values_offset, links_offset, link_node_size, words_of}
use Rattle.archive_shape.specs.Bytes.{zeros, overwrite}
use Rattle.archive_shape_layout.specs.declared.error.Error.{Error}
use Rattle.archive_forms_laws.specs.State.{State}
use Rattle.archive_forms_laws.specs.Spelling.{Spelling, state_after}
use Rattle.archive_btree_spelling.specs.Written.{slots, AllSlots, AnySlot, filled, entry_spelling, key_own, value_own, own_bytes, words, slots_fit, slots_refused, LinksFit, LinksRefused}
use Rattle.archive_btree_maps.specs.declared.nodes.layout.NodeLayout.{NodeLayout}
use Rattle.archive_btree_maps.specs.Layout.{IsNodeLayout}
use Rattle.archive_btree_writing.specs.declared.children.Children.{Children}
use Rattle.archive_btree_writing.specs.Nodes.{children_of, kind_of, roots_of, node_of, AreChildren, words_behind, words_size}
use Rattle.archive_btree_writing.proofs.Slots.{length-slots}
use Rattle.archive_btree_writing.proofs.Pointers.{length-links}
use Rattle.archive_btree_writing.proofs.Filling.{Parts, parts, words_counted, length-filled, Filled, size_is, filled_first, filled_next, four_filled}

some_words : (most : ℕ) (children : Option Children) → 0 < words_of (kind_of children) most
some_words most None = omega arith
some_words most (Some children) = omega arith

length-words : (children : Option Children) (len pos : ℕ) → length (words_behind children len pos) ≡ words_size children
length-words None len pos = refl
length-words (Some children) len pos = length-links (children_of children) pos ∙ omega (arith, length-append children.lesser.now (children.greater ∷ []))

module _ {A B R Q : Type 0} (most : ℕ) (k v : Shape) (keys : Spelling A R) (vals : Spelling B Q) where
  words_are : (children : Option Children) (es : List (A × B)) (pos : ℕ) → words most k v keys vals (kind_of children) (node_of children es) pos ≡ words_behind children (length es) pos
  words_are None es pos = refl
  words_are (Some children) es pos = refl

  -- a node is to be written over zeros, which will lie at a position
  pub record Given (layout : NodeLayout) (children : Option Children) (es : List (A × B)) (pos : ℕ) (bytes : List ℕ) : Type 0 where
    pub sized_key : (x : A) (r : R) (at : ℕ) → keys.own_fits x r at → length (keys.own x r at) ≡ size_of k
    pub sized_value : (x : B) (r : Q) (at : ℕ) → vals.own_fits x r at → length (vals.own x r at) ≡ size_of v
    pub is : IsNodeLayout most k v layout
    pub whole : AreChildren most children
    pub few : length es ≤ most
    pub blank : bytes ≡ zeros (link_node_size (words_of (kind_of children) most) most k v)
    pub stands : pos + link_node_size (words_of (kind_of children) most) most k v < 2 ^ 64

  module _ {layout : NodeLayout} {children : Option Children} {es : List (A × B)} {pos : ℕ} {bytes : List ℕ} (given : Given layout children es pos bytes) where
    abbrev size : ℕ
    size = link_node_size (words_of (kind_of children) most) most k v

    abbrev after : A × B → State → State
    after = state_after (entry_spelling most k v keys vals)

    abbrev keys_fit : State → ℕ → Type 0
    keys_fit st at = AllSlots after (size_of k) (λ x then here. keys.own_fits x.0 (keys.resolver x.0 then) here) es st at

    abbrev values_fit : State → ℕ → Type 0
    values_fit st at = AllSlots after (size_of v) (λ x then here. vals.own_fits x.1 (vals.resolver x.1 (state_after keys x.0 then)) here) es st at

    abbrev key_bytes : State → ℕ → List ℕ
    key_bytes st at = slots after (size_of k) (key_own most k v keys vals) es st at

    abbrev value_bytes : State → ℕ → List ℕ
    value_bytes st at = slots after (size_of v) (value_own most k v keys vals) es st at

    -- where its parts lie
    pub standing : Parts most k v (words_of (kind_of children) most) (length es) layout
    standing =
        let stands = given.stands in
        parts most k v (words_of (kind_of children) most) (length es) layout given.is given.few (omega arith) (some_words most children)

    pub words_end : links_offset most k v + words_size children ≤ size
    words_end = let p = standing in let e = words_counted most children given.whole in omega (arith, p.links_end, e)

    pub some_bytes : 0 < length bytes
    some_bytes =
        let p = standing in
        let e = words_end in
        let n = size_is size bytes given.blank in
        omega (arith, n, e, p.values_end, p.keys_end, p.begins)

    length-keys : (st : State) (at : ℕ) → keys_fit st at → length (key_bytes st at) ≡ length es * size_of k
    length-keys st at f = length-slots after (size_of k) (key_own most k v keys vals) (λ x then here. keys.own_fits x.0 (keys.resolver x.0 then) here) (λ x then here. given.sized_key x.0 (keys.resolver x.0 then) here) es st at f

    length-values : (st : State) (at : ℕ) → values_fit st at → length (value_bytes st at) ≡ length es * size_of v
    length-values st at f =
        length-slots after (size_of v) (value_own most k v keys vals) (λ x then here. vals.own_fits x.1 (vals.resolver x.1 (state_after keys x.0 then)) here)
        (λ x then here. given.sized_value x.1 (vals.resolver x.1 (state_after keys x.0 then)) here) es st at f

    -- ---- the kind

    pub begun : (b : ℕ) → b ≡ kind_of children → Filled size bytes given.blank (kind_of children ∷ []) (set bytes 0 b)
    begun b e =
        let p = standing in
        let w = words_end in
        let F : ℕ → Type 0 = λ n. Filled size bytes given.blank (kind_of children ∷ []) (set bytes 0 n) in
        subst F (sym e) (filled_first size bytes given.blank (kind_of children) (omega (arith, w, p.values_end, p.keys_end, p.begins)))

    -- ---- the keys

    pub record Keyed (st : State) (now : List ℕ) : Type 0 where
      pub fits : keys_fit st (pos + keys_offset k)
      pub holds : Filled size bytes given.blank (filled (keys_offset k) (kind_of children ∷ []) ++ key_bytes st (pos + keys_offset k)) now

    pub keyed : (now next : List ℕ) (st : State) → Filled size bytes given.blank (kind_of children ∷ []) now → keys_fit st (pos + layout.keys) × (next ≡ overwrite now layout.keys (key_bytes st (pos + layout.keys))) → Keyed st next
    keyed now next st f h =
        let p = standing in
        let w = words_end in
        let F : ℕ → Type 0 = λ n. keys_fit st (pos + n) in
        let fit = subst F p.keys h.0 in
        let n = length-keys st (pos + keys_offset k) fit in
        record {
          fits = fit;
          holds =
              filled_next size bytes given.blank f (keys_offset k) (key_bytes st (pos + keys_offset k)) next p.begins (omega (arith, n, p.keys_end, p.values_end, w))
              (h.1 ∙ ap (λ m. overwrite now m (key_bytes st (pos + m))) p.keys);
        }

    module _ {st : State} {now : List ℕ} (h : Keyed st now) where
      pub keyed_length : length (filled (keys_offset k) (kind_of children ∷ []) ++ key_bytes st (pos + keys_offset k)) ≡ keys_offset k + length es * size_of k
      keyed_length =
          let p = standing in
          length-append (filled (keys_offset k) (kind_of children ∷ [])) (key_bytes st (pos + keys_offset k))
          ∙ omega (arith, length-filled (keys_offset k) (kind_of children ∷ []) p.begins, length-keys st (pos + keys_offset k) h.fits)

    -- ---- the values

    pub record Valued (st : State) (now : List ℕ) : Type 0 where
      pub keys_fits : keys_fit st (pos + keys_offset k)
      pub fits : values_fit st (pos + values_offset most k v)
      pub holds : Filled size bytes given.blank (filled (values_offset most k v) (filled (keys_offset k) (kind_of children ∷ []) ++ key_bytes st (pos + keys_offset k)) ++ value_bytes st (pos + values_offset most k v)) now

    pub valued : (now next : List ℕ) (st : State) → Keyed st now → values_fit st (pos + layout.values) × (next ≡ overwrite now layout.values (value_bytes st (pos + layout.values))) → Valued st next
    valued now next st f h =
        let p = standing in
        let w = words_end in
        let F : ℕ → Type 0 = λ n. values_fit st (pos + n) in
        let fit = subst F p.values h.0 in
        let n = length-values st (pos + values_offset most k v) fit in
        let m = keyed_length f in
        record {
          keys_fits = f.fits;
          fits = fit;
          holds =
              filled_next size bytes given.blank f.holds (values_offset most k v) (value_bytes st (pos + values_offset most k v)) next (omega (arith, m, p.keys_end)) (omega (arith, n, p.values_end, w))
              (h.1 ∙ ap (λ m. overwrite now m (value_bytes st (pos + m))) p.values);
        }

    module _ {st : State} {now : List ℕ} (h : Valued st now) where
      pub valued_length :
          length (filled (values_offset most k v) (filled (keys_offset k) (kind_of children ∷ []) ++ key_bytes st (pos + keys_offset k)) ++ value_bytes st (pos + values_offset most k v))
          ≡ values_offset most k v + length es * size_of v
      valued_length =
          let p = standing in
          let front = filled (keys_offset k) (kind_of children ∷ []) in
          let n : length (front ++ key_bytes st (pos + keys_offset k)) ≤ values_offset most k v =
          omega (arith, length-append front (key_bytes st (pos + keys_offset k)), length-filled (keys_offset k) (kind_of children ∷ []) p.begins, length-keys st (pos + keys_offset k) h.keys_fits, p.keys_end) in
          length-append (filled (values_offset most k v) (front ++ key_bytes st (pos + keys_offset k))) (value_bytes st (pos + values_offset most k v))
          ∙ omega (arith, length-filled (values_offset most k v) (front ++ key_bytes st (pos + keys_offset k)) n, length-values st (pos + values_offset most k v) h.fits)

      -- ---- the length or the pointers

      ended : (next : List ℕ) (len : ℕ) → len ≡ length es → LinksFit (roots_of children) (pos + layout.links) × (next ≡ overwrite now layout.links (words_behind children len (pos + layout.links)))
          → slots_fit most k v keys vals (node_of children es) st pos × (next ≡ own_bytes most k v keys vals (node_of children es) st pos)
      ended next len counted f =
          let p = standing in
          let w = words_end in
          let F : ℕ → Type 0 = λ n. LinksFit (roots_of children) (pos + n) in
          let there = pos + links_offset most k v in
          let behind = words_behind children (length es) there in
          let first = kind_of children ∷ [] in
          let ks = key_bytes st (pos + keys_offset k) in
          let vs = value_bytes st (pos + values_offset most k v) in
          let nk = length-keys st (pos + keys_offset k) h.keys_fits in
          let nv = length-values st (pos + values_offset most k v) h.fits in
          let nw = length-words children (length es) there in
          let m = valued_length in
          let last = filled_next size bytes given.blank h.holds (links_offset most k v) behind next (omega (arith, m, p.values_end)) (omega (arith, nw, w))
          (f.1 ∙ ap₂ (λ a n. overwrite now a (words_behind children n (pos + a))) p.links counted) in (
            (h.keys_fits, h.fits, subst F p.links f.0),
            four_filled size bytes given.blank (keys_offset k) (values_offset most k v) (links_offset most k v) first ks vs behind next p.begins (omega (arith, nk, p.keys_end)) (omega (arith, nv, p.values_end)) (omega (arith, nw, w)) last
                ∙ ap (λ l. filled (keys_offset k) first ++ (filled (values_offset most k v - keys_offset k) ks ++ (filled (links_offset most k v - values_offset most k v) vs ++ filled (size - links_offset most k v) l))) (sym (words_are children es there)),
          )

    -- ---- refusals

    pub keys_refused : (st : State) (e : Error) → AnySlot after (size_of k) (λ x then here. keys.own_refused x.0 (keys.resolver x.0 then) here e) es st (pos + layout.keys) → slots_refused most k v keys vals (node_of children es) st pos e
    keys_refused st e r =
        let F : ℕ → Type 0 = λ n. AnySlot after (size_of k) (λ x then here. keys.own_refused x.0 (keys.resolver x.0 then) here e) es st (pos + n) in
        let p = standing in inl (subst F p.keys r)

    pub values_refused : (st : State) (e : Error) → AnySlot after (size_of v) (λ x then here. vals.own_refused x.1 (vals.resolver x.1 (state_after keys x.0 then)) here e) es st (pos + layout.values) → slots_refused most k v keys vals (node_of children es) st pos e
    values_refused st e r =
        let F : ℕ → Type 0 = λ n. AnySlot after (size_of v) (λ x then here. vals.own_refused x.1 (vals.resolver x.1 (state_after keys x.0 then)) here e) es st (pos + n) in
        let p = standing in inr (inl (subst F p.values r))

    words_refused : (st : State) (e : Error) → LinksRefused (roots_of children) (pos + layout.links) e → slots_refused most k v keys vals (node_of children es) st pos e
    words_refused st e r =
        let F : ℕ → Type 0 = λ n. LinksRefused (roots_of children) (pos + n) e in
        let p = standing in inr (inr (subst F p.links r))

    -- the call that writes the length or the pointers
    pub last_ended : {st : State} {now : List ℕ} → Valued st now → (next : List ℕ) (len : ℕ) → len ≡ length es → (result : Result (Unit {0}) Error)
        → MatchResult result (λ _. LinksFit (roots_of children) (pos + layout.links) × (next ≡ overwrite now layout.links (words_behind children len (pos + layout.links)))) (LinksRefused (roots_of children) (pos + layout.links))
        → MatchResult result (λ _. slots_fit most k v keys vals (node_of children es) st pos × (next ≡ own_bytes most k v keys vals (node_of children es) st pos)) (slots_refused most k v keys vals (node_of children es) st pos)
    last_ended h next len counted (Ok u) f = ended h next len counted f
    last_ended {st} h next len counted (Err e) f = words_refused st e f
