-- A write to one leaf's own bytes changes nothing else.
use Rattle.std.proofs.Common.{Bool, true, false, ◌≡◌, ℕ, zero, suc, ◌+◌, ◌-◌, ◌*◌, ◌≤◌, ◌<◌, List, [], ◌∷◌, ◌++◌, drop, length, slice_index, refl, ap, ap₂, sym, subst, ◌∙◌, arith, le_refl, ◌⊎◌, inl, inr, ⊎_elim, get_or-take, get_or-drop, add_assoc, nat_le, ◌&&◌, max, ◌==◌}
use Rattle.archive_shape_layout.specs.Bytes.{window, align_up, word_at}
use Rattle.archive_shape_layout.specs.Shape.{Shape, size_of, align_of}
use Rattle.archive_shape_layout.specs.Shape.Shape.{number, nonzero, truth, character, text, tuple, array, option, result, choice, box, vector, shared, weak, tree, table, index_map, named}
use Rattle.archive_shape_layout.specs.Shape.Pointee.{sized, slice, str}
use Rattle.archive_shape_layout.specs.Value.{Value, Values}
use Rattle.archive_shape_layout.specs.Content.{choose, Names, Part, Span, Label, Content, content_of, made, shape_content, shape_tagged, option_content, pointee_content, links_offset, keys_offset, values_offset, entries, node_span, link_node_size, words_of, node_content, item_size, control_count, buckets_content}
use Rattle.archive_shape_layout.specs.Content.Part.{at, behind, node, child, entry, buckets, place_at}
use Rattle.archive_shape_layout.specs.Content.Content.{illegal, plain, claimed, counting}
use Rattle.archive_shape_layout.specs.Laws.{AgreesOn, OwnAgrees, RegionsAgree}
use Rattle.archive_shape_layout.specs.Holds.{Region, region_of, Visit, OpenShared, Holds, HoldAll, Ascends, HasRoot, end_after}
use Rattle.archive_shape_layout.specs.Holds.Holds.{holds_plain, holds_claimed}
use Rattle.archive_shape_layout.specs.Holds.HoldAll.{holds_none, holds_more}
use Rattle.archive_shape_layout.specs.Edit.{Spares, EditOfLeaf, EditOfText}
use Rattle.archive_shape_layout.specs.Path.{change_in, put_at, Stands, StandsIn}
use Rattle.archive_shape_layout.specs.Path.Stands.{stands_here, stands_plain, stands_claimed}
use Rattle.archive_shape_layout.specs.Path.StandsIn.{stands_first, stands_later}
use Rattle.archive_shape_layout.specs.Value.Value.{string}
use Rattle.archive_shape_layout.proofs.Ascent.{end_after-append, end_after-grows, Ascends-append}
use Rattle.archive_shape_layout.proofs.Unique.{by_plain, by_claimed, one_value, one_list}
use Rattle.archive_shape_layout.proofs.Framed.{stable_plain, stable_claimed, frame, frame_all, own_more, own_none, AllOwn, first_alike, links_fit}
use Rattle.archive_shape_layout.proofs.Places.{behind_fits, Within, InOwn, OutOwn, Fits, AllFit, AllApart, Separate, Laid, at_laid, node_laid, buckets_laid, child_laid, place_laid, pointee_laid, entry_laid, behind_span, widen_all, node_high, header_size}
use Rattle.archive_shape_layout.proofs.Paths.{put_label}
use Rattle.archive_shape_layout.proofs.Stood.{stands_in_value, stands_all}

pub data InAny (w n : ℕ) : List Part → Type 0 where
  any_here : {p : Part} {ps : List Part} → InOwn w n p → InAny w n (p ∷ ps)
  any_later : {p : Part} {ps : List Part} → InAny w n ps → InAny w n (p ∷ ps)

pub any_fits : (w n low high : ℕ) (ps : List Part) → AllFit low high ps → InAny w n ps → (low ≤ w) × (w + n ≤ high)
any_fits w n low high [] _ i = elim i [ ]
any_fits w n low high (p ∷ ps) (AllFit.fit_more f fs) (any_here i) = f.inside w n i
any_fits w n low high (p ∷ ps) (AllFit.fit_more f fs) (any_later i) = any_fits w n low high ps fs i

pub plain_fits : {low high : ℕ} {l : Label} {ps : List Part} → Laid low high false (plain l ps) → AllFit low high ps × Separate ps
plain_fits (Laid.laid_plain f s) = (f, s)

pub record ClaimFits (s : Span) (ps : List Part) : Type 0 where
  pub fits : AllFit s.start (s.start + s.size) ps
  pub separate : Separate ps

claimed_fits : {low high : ℕ} {s : Span} {l : Label} {ps : List Part} → Laid low high true (claimed s l ps) → ClaimFits s ps
claimed_fits {low = low} {high = high} {s = s} {ps = ps} (Laid.laid_claimed a b f t) = record { fits = widen_all low high s.start (s.start + s.size) ps a b f; separate = t }

pub not_claimed : {low high : ℕ} {s : Span} {l : Label} {ps : List Part} → Laid low high false (claimed s l ps) → ⊥
not_claimed h = elim h [ ]

pub not_plain : {low high : ℕ} {l : Label} {ps : List Part} → Laid low high true (plain l ps) → ⊥
not_plain h = elim h [ ]

pub claimed_all : {low high : ℕ} {s : Span} {l : Label} {ps : List Part} → Laid low high true (claimed s l ps) → AllFit low high ps
claimed_all (Laid.laid_claimed a b f t) = f

byte_of : (bs : List ℕ) (pos size off i : ℕ) → off + 4 ≤ size → i < 4 → slice_index (drop off (window bs pos size)) i ≡ slice_index (window bs (pos + off) 4) i
byte_of bs pos size off i h k =
    get_or-drop off (window bs pos size) i 0
    ∙ get_or-take size (drop pos bs) (off + i) 0 (omega arith)
    ∙ get_or-drop pos bs (off + i) 0
    ∙ ap (slice_index bs) (sym (add_assoc pos off i))
    ∙ sym (get_or-drop (pos + off) bs i 0)
    ∙ sym (get_or-take 4 (drop (pos + off) bs) i 0 k)

word_of : (bs : List ℕ) (pos size off : ℕ) → off + 4 ≤ size → word_at (window bs pos size) off ≡ word_at (window bs (pos + off) 4) 0
unfolding word_at
word_of bs pos size off h =
    let b0 = byte_of bs pos size off 0 h (omega arith) in
    let b1 = byte_of bs pos size off 1 h (omega arith) in
    let b2 = byte_of bs pos size off 2 h (omega arith) in
    let b3 = byte_of bs pos size off 3 h (omega arith) in
    rw (b0, b1, b2, b3)

module _ (bytes others : List ℕ) (w n : ℕ) (spares : Spares bytes others w n) where
  pub own_agrees : (p : Part) → OutOwn w n p → OwnAgrees bytes others p
  own_agrees (at pos s) o = spares.outside pos (size_of s) o
  own_agrees (child level most k v pos) o = spares.outside pos 4 o
  own_agrees (entry k key_pos v value_pos) o = (spares.outside key_pos (size_of k) o.0, spares.outside value_pos (size_of v) o.1)
  own_agrees (place_at pos limit) o = spares.outside pos 4 o
  own_agrees (behind pos p len) o = tt
  own_agrees (node level most k v pos) o = tt
  own_agrees (buckets target len many it) o = tt

  pub regions_agree : (low high : ℕ) (rs : List Region) → Ascends low high rs → (w + n ≤ low) ⊎ (end_after low rs ≤ w) → RegionsAgree bytes others rs
  unfolding Ascends RegionsAgree end_after
  regions_agree low high [] a o = tt
  regions_agree low high (r ∷ rs) a o =
      let first = a.0.after in
      let grows = end_after-grows (r.start + r.size) high rs a.1 in (
        spares.outside r.start r.size (⊎_elim (λ x. inl (omega arith)) (λ x. inr (omega arith)) o),
        regions_agree (r.start + r.size) high rs a.1 (⊎_elim (λ x. inl (omega arith)) (λ x. inr (omega arith)) o),
      )

  -- of parts that do not overlap a window, or lie above it, no own byte changes
  pub all_own : (base top : ℕ) (p : Part) (ps : List Part) → AllFit base top ps → (InOwn w n p × AllApart p ps) ⊎ (w + n ≤ base) → AllOwn bytes others ps
  all_own base top p [] AllFit.fit_none o = own_none
  all_own base top p (r ∷ ps) (AllFit.fit_more f fs) (inl (i, AllApart.apart_more o os)) =
      own_more (own_agrees r (o.first _ _ i)) (all_own base top p ps fs (inl (i, os)))
  all_own base top p (r ∷ ps) (AllFit.fit_more f fs) (inr b) =
      own_more (own_agrees r (f.outside _ _ (inl b))) (all_own base top p ps fs (inr b))

  -- ---- what a content reads itself

  first_byte : (pos size : ℕ) → AgreesOn bytes others pos 1 → slice_index (window bytes pos size) 0 ≡ slice_index (window others pos size) 0
  first_byte pos zero same = refl
  first_byte pos (suc size) same =
      get_or-take (suc size) (drop pos bytes) 0 0 (omega arith) ∙ first_alike bytes others pos 1 (omega arith) same ∙ sym (get_or-take (suc size) (drop pos others) 0 0 (omega arith))

  at_header : (names : Names) (pos : ℕ) (s : Shape) → AgreesOn bytes others pos (header_size s) → content_of names bytes (at pos s) ≡ content_of names others (at pos s)
  unfolding shape_content
  at_header names pos (number t signed) same = ap (λ o. shape_content names pos o (number t signed)) same
  at_header names pos (nonzero t signed) same = ap (λ o. shape_content names pos o (nonzero t signed)) same
  at_header names pos truth same = ap (λ o. shape_content names pos o truth) same
  at_header names pos character same = ap (λ o. shape_content names pos o character) same
  at_header names pos text same = ap (λ o. shape_content names pos o text) same
  at_header names pos (tuple ss) same = refl
  at_header names pos (array k s) same = refl
  at_header names pos (option s) same =
      ap (λ tag. choose (tag == 0) (plain (Label.tagged 0) []) (choose (tag == 1) (plain (Label.tagged 1) (at (pos + align_up 1 (align_of s)) s ∷ [])) illegal)) (first_byte pos (size_of (option s)) same)
  at_header names pos (result s t) same =
      let offset = align_up 1 (max (align_of s) (align_of t)) in
      ap (λ tag. choose (tag == 0) (plain (Label.tagged 0) (at (pos + offset) s ∷ [])) (choose (tag == 1) (plain (Label.tagged 1) (at (pos + offset) t ∷ [])) illegal)) (first_byte pos (size_of (result s t)) same)
  at_header names pos (choice ss) same =
      ap (λ tag. option_content (shape_tagged tag ss) (λ s. plain (Label.tagged tag) (at (pos + align_up 1 (align_of s)) s ∷ []))) (first_byte pos (size_of (choice ss)) same)
  at_header names pos (box p) same = ap (λ o. shape_content names pos o (box p)) same
  at_header names pos (vector s) same = ap (λ o. shape_content names pos o (vector s)) same
  at_header names pos (shared cyclic p) same = ap (λ o. shape_content names pos o (shared cyclic p)) same
  at_header names pos (weak cyclic p) same =
      ap (λ tag. choose (tag == 0) (plain (Label.tagged 0) []) (choose (tag == 1) (plain (Label.tagged 1) (at (pos + 4) (shared cyclic p) ∷ [])) illegal)) (first_byte pos (size_of (weak cyclic p)) same)
  at_header names pos (tree most k v) same = ap (λ o. shape_content names pos o (tree most k v)) same
  at_header names pos (table s) same = ap (λ o. shape_content names pos o (table s)) same
  at_header names pos (index_map k v) same = ap (λ o. shape_content names pos o (index_map k v)) same
  at_header names pos (named name size align) same = refl

  -- ---- the edit

  -- below a part whose parts lead to the leaf, each content is what it was
  pub Kept : Names → Part → Type 0
  Kept names p = content_of names others p ≡ content_of names bytes p

  pub parts_of : Content → List Part
  parts_of illegal = []
  parts_of (plain l ps) = ps
  parts_of (claimed s l ps) = ps
  parts_of (counting cyclic t p len) = []

  laid_range : (low high : ℕ) {claims : Bool} (c : Content) → Laid low high claims c → InAny w n (parts_of c) → (low ≤ w) × (w + n ≤ high)
  unfolding parts_of
  laid_range low high illegal h i = elim i [ ]
  laid_range low high {claims = false} (plain l ps) h i = any_fits w n low high ps (plain_fits h).0 i
  laid_range low high {claims = true} (plain l ps) h i = absurd (not_plain h)
  laid_range low high {claims = true} (claimed s l ps) h i = any_fits w n low high ps (claimed_all h) i
  laid_range low high {claims = false} (claimed s l ps) h i = absurd (not_claimed h)
  laid_range low high (counting cyclic t p len) h i = elim i [ ]

  word_alike : (pos size off : ℕ) → off + 4 ≤ size → AgreesOn bytes others (pos + off) 4 → word_at (window bytes pos size) off ≡ word_at (window others pos size) off
  word_alike pos size off h same = word_of bytes pos size off h ∙ ap (λ o. word_at o 0) same ∙ sym (word_of others pos size off h)

  node_same : (level most : ℕ) (k v : Shape) (pos kind : ℕ) → w + n ≤ pos + node_high kind most k v
      → node_content level most k v pos kind (window others pos (link_node_size (words_of kind most) most k v)) ≡ node_content level most k v pos kind (window bytes pos (link_node_size (words_of kind most) most k v))
  unfolding node_content
  node_same level most k v pos zero h =
      let size = link_node_size 1 most k v in
      let room = links_fit 1 most k v in
      let word = word_alike pos size (links_offset most k v) (omega arith) (spares.outside (pos + links_offset most k v) 4 (inl h)) in
      ap (λ len. choose (nat_le level 32 && nat_le len most) (claimed (node_span 1 most k v pos) Label.whole (entries len k (pos + keys_offset k) v (pos + values_offset most k v))) illegal) (sym word)
  node_same level most k v pos (suc zero) h = refl
  node_same level most k v pos (suc (suc kind)) h = refl

  pub kept : (names : Names) (p : Part) → InAny w n (parts_of (content_of names bytes p)) → Kept names p
  unfolding Kept pointee_content parts_of
  kept names (at pos s) i =
      let range = laid_range (pos + header_size s) (pos + size_of s) (content_of names bytes (at pos s)) (at_laid names pos (window bytes pos (size_of s)) s) i in
      sym (at_header names pos s (spares.outside pos (header_size s) (inr (range.0))))
  kept names (behind pos (sized s) len) i = refl
  kept names (behind pos (slice s) len) i = refl
  kept names (behind pos str len) i = elim i [ ]
  kept names (node level most k v pos) i =
      let kind = slice_index (drop pos bytes) 0 in
      let size = λ (m : ℕ). link_node_size (words_of m most) most k v in
      let range = laid_range (pos + 1) (pos + node_high kind most k v) (content_of names bytes (node level most k v pos)) (node_laid level most k v pos kind (window bytes pos (size kind))) i in
      let alike = first_alike bytes others pos 1 (omega arith) (spares.outside pos 1 (inr range.0)) in
      ap (λ m. node_content level most k v pos m (window others pos (size m))) (sym alike) ∙ node_same level most k v pos kind range.1
  kept names (child level most k v pos) i =
      let range = laid_range (w + 1) w (content_of names bytes (child level most k v pos)) (child_laid (w + 1) w level most k v pos (window bytes pos 4)) i in
      absurd (omega arith)
  kept names (entry k a v b) i = refl
  kept names (buckets target len many it) i =
      let range = laid_range (target - many * item_size it) target (content_of names bytes (buckets target len many it)) (buckets_laid target len many it (window bytes target (control_count many))) i in
      ap (buckets_content target len many it) (sym (spares.outside target (control_count many) (inl range.1)))
  kept names (place_at pos limit) i =
      let range = laid_range (w + 1) w (content_of names bytes (place_at pos limit)) (place_laid (w + 1) w limit (window bytes pos 4)) i in
      absurd (omega arith)

  pub kept_plain : (names : Names) (p : Part) {l : Label} {ps : List Part} → content_of names bytes p ≡ plain l ps → InAny w n ps → content_of names others p ≡ plain l ps
  unfolding parts_of Kept
  kept_plain names p e i = kept names p (subst (λ c. InAny w n (parts_of c)) (sym e) i) ∙ e

  pub kept_claimed : (names : Names) (p : Part) {s : Span} {l : Label} {ps : List Part} → content_of names bytes p ≡ claimed s l ps → InAny w n ps → content_of names others p ≡ claimed s l ps
  unfolding parts_of Kept
  kept_claimed names p e i = kept names p (subst (λ c. InAny w n (parts_of c)) (sym e) i) ∙ e

pub any_apart : (w n : ℕ) (p : Part) (qs : List Part) → AllApart p qs → InAny w n qs → OutOwn w n p
any_apart w n p [] a i = elim i [ ]
any_apart w n p (q ∷ qs) (AllApart.apart_more o os) (any_here i) = o.second w n i
any_apart w n p (q ∷ qs) (AllApart.apart_more o os) (any_later i) = any_apart w n p qs os i

-- ---- the parts of a content, from where the part itself lies

-- a part whose parts are in place: they lie in its own bytes
pub plain_parts : (names : Names) (bytes : List ℕ) (base top : ℕ) (p : Part) {l : Label} {ps : List Part} → Fits base top p → content_of names bytes p ≡ plain l ps → AllFit base top ps × Separate ps
plain_parts names bytes base top (at pos s) {l = l} {ps = ps} f e =
    let own = f.inside pos (size_of s) (le_refl pos, le_refl _) in
    let laid = plain_fits (subst (Laid (pos + header_size s) (pos + size_of s) false) e (at_laid names pos (window bytes pos (size_of s)) s)) in
    (widen_all (pos + header_size s) (pos + size_of s) base top ps (omega arith) own.1 laid.0, laid.1)
plain_parts names bytes base top (behind pos q len) f e = absurd (not_plain (subst (Laid pos (pos + behind_span q len) true) e (pointee_laid bytes pos q len)))
plain_parts names bytes base top (node level most k v pos) f e =
    let kind = slice_index (drop pos bytes) 0 in
    absurd (not_plain (subst (Laid (pos + 1) (pos + node_high kind most k v) true) e (node_laid level most k v pos kind (window bytes pos (link_node_size (words_of kind most) most k v)))))
plain_parts names bytes base top (child level most k v pos) f e = plain_fits (subst (Laid base top false) e (child_laid base top level most k v pos (window bytes pos 4)))
plain_parts names bytes base top (entry k a v b) f e = plain_fits (subst (Laid base top false) e (entry_laid base top k a v b f))
plain_parts names bytes base top (buckets target len many it) f e =
    absurd (not_plain (subst (Laid (target - many * item_size it) target true) e (buckets_laid target len many it (window bytes target (control_count many)))))
plain_parts names bytes base top (place_at pos limit) f e = plain_fits (subst (Laid base top false) e (place_laid base top limit (window bytes pos 4)))

pub claimed_parts : (names : Names) (bytes : List ℕ) (base top : ℕ) (p : Part) {s : Span} {l : Label} {ps : List Part} → Fits base top p → content_of names bytes p ≡ claimed s l ps → ClaimFits s ps
claimed_parts names bytes base top (at pos s) f e = absurd (not_claimed (subst (Laid (pos + header_size s) (pos + size_of s) false) e (at_laid names pos (window bytes pos (size_of s)) s)))
claimed_parts names bytes base top (behind pos q len) f e = claimed_fits (subst (Laid pos (pos + behind_span q len) true) e (pointee_laid bytes pos q len))
claimed_parts names bytes base top (node level most k v pos) f e =
    let kind = slice_index (drop pos bytes) 0 in
    claimed_fits (subst (Laid (pos + 1) (pos + node_high kind most k v) true) e (node_laid level most k v pos kind (window bytes pos (link_node_size (words_of kind most) most k v))))
claimed_parts names bytes base top (child level most k v pos) f e = absurd (not_claimed (subst (Laid base top false) e (child_laid base top level most k v pos (window bytes pos 4))))
claimed_parts names bytes base top (entry k a v b) f e = absurd (cc)
claimed_parts names bytes base top (buckets target len many it) f e =
    claimed_fits (subst (Laid (target - many * item_size it) target true) e (buckets_laid target len many it (window bytes target (control_count many))))
claimed_parts names bytes base top (place_at pos limit) f e = absurd (not_claimed (subst (Laid base top false) e (place_laid base top limit (window bytes pos 4))))

-- a window in a plain part's parts lies in the part's own bytes
pub own_up : (names : Names) (bytes : List ℕ) (w n : ℕ) (p : Part) {l : Label} {ps : List Part} → content_of names bytes p ≡ plain l ps → InAny w n ps → InOwn w n p
own_up names bytes w n (at pos s) {l = l} {ps = ps} e i =
    let laid = plain_fits (subst (Laid (pos + header_size s) (pos + size_of s) false) e (at_laid names pos (window bytes pos (size_of s)) s)) in
    let range = any_fits w n (pos + header_size s) (pos + size_of s) ps laid.0 i in
    (omega arith, range.1)
own_up names bytes w n (behind pos q len) e i = absurd (not_plain (subst (Laid pos (pos + behind_span q len) true) e (pointee_laid bytes pos q len)))
own_up names bytes w n (node level most k v pos) e i =
    let kind = slice_index (drop pos bytes) 0 in
    absurd (not_plain (subst (Laid (pos + 1) (pos + node_high kind most k v) true) e (node_laid level most k v pos kind (window bytes pos (link_node_size (words_of kind most) most k v)))))
own_up names bytes w n (child level most k v pos) {ps = ps} e i =
    let range = any_fits w n (w + 1) w ps (plain_fits (subst (Laid (w + 1) w false) e (child_laid (w + 1) w level most k v pos (window bytes pos 4)))).0 i in
    absurd (omega arith)
own_up names bytes w n (entry k a v b) {l = l} {ps = ps} e i = of_two (subst (InAny w n) (same_parts (sym e)) i)
  where
    same_parts : {m : Label} {qs : List Part} → plain l ps ≡ plain m qs → ps ≡ qs
    same_parts x = cc

    of_two : InAny w n (at a k ∷ (at b v ∷ [])) → Within w n a (size_of k) ⊎ Within w n b (size_of v)
    of_two (any_here h) = inl h
    of_two (any_later (any_here h)) = inr h
    of_two (any_later (any_later h)) = elim h [ ]
own_up names bytes w n (buckets target len many it) e i =
    absurd (not_plain (subst (Laid (target - many * item_size it) target true) e (buckets_laid target len many it (window bytes target (control_count many)))))
own_up names bytes w n (place_at pos limit) {ps = ps} e i =
    let range = any_fits w n (w + 1) w ps (plain_fits (subst (Laid (w + 1) w false) e (place_laid (w + 1) w limit (window bytes pos 4)))).0 i in
    absurd (omega arith)

-- ---- the edit

pub narrow : (low high : ℕ) (xs ys rs : List Region) → rs ≡ xs ++ ys → Ascends low high rs → (Ascends low high xs × Ascends (end_after low xs) high ys) × (end_after low rs ≡ end_after (end_after low xs) ys)
narrow low high xs ys rs e a =
    ((Ascends-append low high xs ys).0 (subst (Ascends low high) e a), ap (end_after low) e ∙ end_after-append low xs ys)

pub one_follows : (low high : ℕ) (s : Span) (level : ℕ) → Ascends low high (region_of s level ∷ []) → (low ≤ s.start) × (end_after low (region_of s level ∷ []) ≡ s.start + s.size)
unfolding Ascends end_after
one_follows low high s level a = (a.0.after, refl)

module _
    (names : Names) (bytes others : List ℕ) (w n : ℕ) (q : Part) (old new : Value)
    (spares : Spares bytes others w n)
  where
    -- where the window lies: in the part's own bytes, or in what the part claims
    abbrev pub LiesIn : Type 0 → ℕ → List Region → Type 0
    LiesIn own low rs = own ⊎ ((low ≤ w) × (w + n ≤ end_after low rs))

    -- what is known of a part: where the window lies in it, and its value in the other bytes
    pub record Edited (level : ℕ) (inside : List OpenShared) (p : Part) (v : Value) (rs : List Region) (before after : List Visit) (low : ℕ) : Type 0 where
      pub lies : LiesIn (InOwn w n p) low rs
      pub holds : Holds names others level inside p v rs before after

    pub record EditedAll (level : ℕ) (inside : List OpenShared) (ps : List Part) (vs : Values) (rs : List Region) (before after : List Visit) (low : ℕ) : Type 0 where
      pub lies : LiesIn (InAny w n ps) low rs
      pub all : HoldAll names others level inside ps vs rs before after

    module _
        (at_leaf : (level : ℕ) (inside : List OpenShared) (rs : List Region) (before after : List Visit) (low high : ℕ)
        → Ascends low high rs → Holds names bytes level inside q old rs before after → Edited level inside q new rs before after low)
      where
        mutual
          pub edit :
              {level : ℕ} {inside : List OpenShared} {p : Part} {v : Value} {path : List ℕ} {rs : List Region} {before after : List Visit} (low high base top : ℕ)
              → Stands names bytes q old level inside before p v path
              → Fits base top p
              → end_after low rs ≤ base
              → Ascends low high rs
              → Holds names bytes level inside p v rs before after
              → Edited level inside p (put_at path new v) rs before after low
          edit {level = level} {inside = inside} {p = p} {v = v} {path = path} {rs = rs} {before = before} {after = after} low high base top (stands_here ep ev er) f under a h =
              let at_q = subst (λ x. Holds names bytes level inside x v rs before after) ep h in
              let d = at_leaf level inside rs before after low high a (subst (λ x. Holds names bytes level inside q x rs before after) ev at_q) in
              subst (λ x. Edited level inside x (put_at path new v) rs before after low) (sym ep)
              (subst (λ x. Edited level inside q (put_at x new v) rs before after low) (sym er) d)
          edit {level = level} {inside = inside} {p = p} {v = v} {rs = rs} {before = before} {after = after} low high base top (stands_plain {inner = inner} {l = m} {ps = ps} {vs = vs} {i = i} e within is_made through) f under a h =
              let o = by_plain names bytes e h in
              let parts = plain_parts names bytes base top p f e in
              let d = edit_in low high base top within parts.0 parts.1 under a o.all in
              let s = stands_all names bytes q old within in
              let us = one_list names bytes o.vs rs after s.all o.all in
              let u = stands_in_value names bytes q old within in
              let put = put_label m vs i inner _ v new u.value old is_made u.there u.inner through in
              let same : content_of names others p ≡ plain m ps =
              ⊎_elim
              (λ i. kept_plain bytes others w n spares names p e i)
              (λ b. stable_plain bytes others names p (own_agrees bytes others w n spares p (f.outside w n (inl (omega arith)))) e)
              d.lies in
              record {
                lies = ⊎_elim (λ i. inl (own_up names bytes w n p e i)) (λ b. inr b) d.lies;
                holds = holds_plain same o.legal d.all (ap (λ x. made m (change_in i (λ y. put_at inner new y) x)) (sym us.values) ∙ put.is_made);
              }
          edit {level = level} {inside = inside} {p = p} {v = v} {rs = rs} {before = before} {after = after} low high base top (stands_claimed {inner = inner} {s = s} {l = m} {ps = ps} {vs = vs} {i = i} e within is_made through) f under a h =
              let o = by_claimed names bytes e h in
              let both = narrow low high o.within (region_of s level ∷ []) rs o.regions_are a in
              let next = one_follows (end_after low o.within) high s level both.0.1 in
              let total = both.1 in
              let parts = claimed_parts names bytes base top p f e in
              let d = edit_in low high s.start (s.start + s.size) within parts.fits parts.separate next.0 both.0.0 o.all in
              let t = stands_all names bytes q old within in
              let us = one_list names bytes o.vs o.within after t.all o.all in
              let u = stands_in_value names bytes q old within in
              let put = put_label m vs i inner _ v new u.value old is_made u.there u.inner through in
              let grows = end_after-grows low high o.within both.0.0 in
              let same : content_of names others p ≡ claimed s m ps =
              ⊎_elim
              (λ i. kept_claimed bytes others w n spares names p e i)
              (λ b. stable_claimed bytes others names p (own_agrees bytes others w n spares p (f.outside w n (inl (omega arith)))) (spares.outside s.start s.size (inl (omega arith))) e)
              d.lies in
              record {
                lies = ⊎_elim (λ i. let range = any_fits w n s.start (s.start + s.size) ps parts.fits i in inr (omega arith, omega arith)) (λ b. inr (omega arith, omega arith)) d.lies;
                holds = holds_claimed same o.legal d.all (ap (λ x. made m (change_in i (λ y. put_at inner new y) x)) (sym us.values) ∙ put.is_made) o.regions_are;
              }

          pub edit_in :
              {level : ℕ} {inside : List OpenShared} {ps : List Part} {vs us : Values} {i : ℕ} {path : List ℕ} {rs : List Region} {before after : List Visit} (low high base top : ℕ)
              → StandsIn names bytes q old level inside before ps vs i path
              → AllFit base top ps
              → Separate ps
              → end_after low rs ≤ base
              → Ascends low high rs
              → HoldAll names bytes level inside ps us rs before after
              → EditedAll level inside ps (change_in i (λ x. put_at path new x) us) rs before after low
          edit_in {level = level} {inside = inside} {path = path} {rs = rs} {before = before} {after = after} low high base top (stands_first {p = p} {ps = ps} {v = v} stands holds rest_holds is zero_is) (AllFit.fit_more f fs) (Separate.sep_more apart sep) under a (holds_more {v = u} {vs = us} {here = here} {later = later} {between = between} h hs e r) =
              let both = narrow low high here later rs r a in
              let total = both.1 in
              let grows = end_after-grows (end_after low here) high later both.0.1 in
              let alike = (one_value names bytes u here between holds h).value in
              let d = edit low high base top stands f (omega arith) both.0.0 (subst (λ x. Holds names bytes level inside p x here before between) (sym alike) h) in
              let first = subst (λ x. Holds names others level inside p (put_at path new x) here before between) alike d.holds in
              let own = all_own bytes others w n spares base top p ps fs (⊎_elim (λ i. inl (i, apart)) (λ b. inr (omega arith)) d.lies) in
              let claims = regions_agree bytes others w n spares (end_after low here) high later both.0.1 (⊎_elim (λ i. let b = f.inside w n i in inr (omega arith)) (λ b. inl b.1) d.lies) in
              let rest = frame_all bytes others names own claims hs in
              record {
                lies = ⊎_elim (λ i. inl (any_here i)) (λ b. inr (b.0, omega arith)) d.lies;
                all = holds_more first rest (ap₂ (λ k x. change_in k (λ y. put_at path new y) x) zero_is e) r;
              }
          edit_in {level = level} {inside = inside} {path = path} {rs = rs} {after = after} low high base top (stands_later {p = p} {ps = ps} {v = v} {i = i} holds stands is suc_is) (AllFit.fit_more f fs) (Separate.sep_more apart sep) under a (holds_more {v = u} {vs = us} {here = here} {later = later} {between = between} h hs e r) =
              let both = narrow low high here later rs r a in
              let total = both.1 in
              let first_grows = end_after-grows low high here both.0.0 in
              let grows = end_after-grows (end_after low here) high later both.0.1 in
              let alike = (one_value names bytes u here between holds h).after in
              let d = edit_in (end_after low here) high base top stands fs sep (omega arith) both.0.1 (subst (λ b. HoldAll names bytes level inside ps us later b after) (sym alike) hs) in
              let rest = subst (λ b. HoldAll names others level inside ps (change_in i (λ x. put_at path new x) us) later b after) alike d.all in
              let own = own_agrees bytes others w n spares p (⊎_elim (λ i. any_apart w n p ps apart i) (λ b. f.outside w n (inl (omega arith))) d.lies) in
              let claims = regions_agree bytes others w n spares low high here both.0.0 (⊎_elim (λ i. let b = any_fits w n base top ps fs i in inr (omega arith)) (λ b. inr b.0) d.lies) in
              let first = frame bytes others names own claims h in
              record {
                lies = ⊎_elim (λ i. inl (any_later i)) (λ b. inr (omega arith, omega arith)) d.lies;
                all = holds_more first rest (ap₂ (λ k x. change_in k (λ y. put_at path new y) x) suc_is e) r;
              }

        -- the root, with the window at the leaf
        pub edit_root : {pos : ℕ} {s : Shape} {v : Value} {path : List ℕ} {regions : List Region} {visits : List Visit}
            → HasRoot names bytes pos s v regions visits
            → Stands names bytes q old 0 [] [] (behind pos (sized s) 1) v path
            → HasRoot names others pos s (put_at path new v) regions visits
        edit_root {pos = pos} {s = s} {regions = regions} root stands =
            let base = end_after 0 regions in
            let d = edit 0 (length bytes) base base stands (behind_fits base base pos (sized s) 1) (le_refl base) root.ascends root.holds in
            record { holds = d.holds; ascends = subst (λ n. Ascends 0 n regions) (sym spares.length) root.ascends }

-- ---- the two leaves

pub edit_of_leaf_law : EditOfLeaf
edit_of_leaf_law names bytes others pos s v regions visits path leaf_pos leaf_shape old new k l root stands spares was is legal makes =
    edit_root names bytes others leaf_pos (size_of leaf_shape) (at leaf_pos leaf_shape) old new spares in_place root stands
  where
    in_place : (level : ℕ) (inside : List OpenShared) (rs : List Region) (before after : List Visit) (low high : ℕ)
        → Ascends low high rs → Holds names bytes level inside (at leaf_pos leaf_shape) old rs before after
        → Edited names bytes others leaf_pos (size_of leaf_shape) (at leaf_pos leaf_shape) old new spares level inside (at leaf_pos leaf_shape) new rs before after low
    in_place level inside rs before after low high a h = record { lies = inl (le_refl leaf_pos, le_refl _); holds = of_none (by_plain names bytes was h).all }
      where
        of_none : {vs : Values} → HoldAll names bytes level inside [] vs rs before after → Holds names others level inside (at leaf_pos leaf_shape) new rs before after
        of_none (holds_none x y z) = holds_plain is legal (holds_none refl y z) makes

pub edit_of_text_law : EditOfText
unfolding pointee_content made
edit_of_text_law names bytes others pos s v regions visits path text_pos len old root stands spares legal =
    edit_root names bytes others text_pos len (behind text_pos str len) old (string (window others text_pos len)) spares behind_it root stands
  where
    behind_it : (level : ℕ) (inside : List OpenShared) (rs : List Region) (before after : List Visit) (low high : ℕ)
        → Ascends low high rs → Holds names bytes level inside (behind text_pos str len) old rs before after
        → Edited names bytes others text_pos len (behind text_pos str len) old (string (window others text_pos len)) spares level inside (behind text_pos str len) (string (window others text_pos len)) rs before after low
    behind_it level inside rs before after low high a h =
        let o = by_claimed names bytes refl h in
        of_none o.all o.regions_are
      where
        own : Region
        own = record { start = text_pos; size = len; align = 1; level = level }

        of_none : {vs : Values} {within : List Region} → HoldAll names bytes (suc level) inside [] vs within before after → rs ≡ within ++ own ∷ []
            → Edited names bytes others text_pos len (behind text_pos str len) old (string (window others text_pos len)) spares level inside (behind text_pos str len) (string (window others text_pos len)) rs before after low
        of_none (holds_none x y z) r =
            let alone : rs ≡ own ∷ [] = r ∙ ap (λ b. b ++ own ∷ []) y in
            let follows = one_follows low high (record { start = text_pos; size = len; align = 1 }) level (subst (Ascends low high) alone a) in
            record {
              lies = inr (follows.0, let e = ap (end_after low) alone ∙ follows.1 in omega arith);
              holds = holds_claimed refl legal (holds_none refl refl z) refl alone;
            }
