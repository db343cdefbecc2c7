-- A part stays clean where its bytes, except for those of parts in it, are unchanged.
use Rattle.std.proofs.Common.{◌≡◌, ℕ, ◌+◌, ◌-◌, ◌*◌, ◌≤◌, ◌<◌, zero, suc, Bool, true, false, ◌&&◌, ◌==◌, nat_le, nat_lt, List, [], ◌∷◌, take, drop, get_or, slice_index, count_by, refl, ap, sym, subst, ◌∙◌, arith, ◌⊎◌, inl, inr, ⊎_elim, get_or-take, get_or-drop, leb-true, le_refl}
use Rattle.std.specs.Prelude.{⊤}
use Rattle.std.proofs.lemmas.Bool.{cases_lt}
use Rattle.archive_shape_layout.specs.Bytes.{window}
use Rattle.archive_shape_layout.specs.Shape.{Shape, Pointee, size_of}
use Rattle.archive_shape_layout.specs.Shape.Shape.{number, nonzero, truth, character, text, tuple, array, option, result, choice, box, vector, shared, weak, tree, table, index_map, named}
use Rattle.archive_shape_layout.specs.Shape.Pointee.{sized, slice, str}
use Rattle.archive_shape_layout.specs.Content.{choose, wraps, Names, Part, Item, Span, Label, Content, content_of, node_content, buckets_content, buckets_span, item_size, control_count, tagged_items}
use Rattle.archive_shape_layout.specs.Content.Part.{at, behind, node, child, entry, buckets, place_at}
use Rattle.archive_shape_layout.specs.Content.Content.{illegal, plain, claimed, counting}
use Rattle.archive_shape_layout.specs.Laws.{AgreesOn, OwnAgrees}
use Rattle.archive_shape_layout.specs.Edit.{Spares}
use Rattle.archive_shape_layout.proofs.Framed.{agrees_within}
use Rattle.archive_shape_layout.proofs.Places.{InOwn, Laid, at_laid, buckets_laid, header_size}
use Rattle.archive_shape_layout.proofs.Edits.{InAny, any_here, any_later, any_fits, plain_fits, claimed_all, not_plain, not_claimed}
use Rattle.archive_shape_canonical.specs.Seen.{seen_bytes_of}
use Rattle.archive_shape_canonical.specs.Clean.{IsIn, Owns, InParts, InField, InFieldOfNode, FieldPartOrZero, PaddingIsZero, IsTextFilled, IsShapeFilled, AreControlsFilled, IsFilled, IsClean}

module _ (bytes others : List ℕ) where
  abbrev Alike : ℕ → Type 0
  Alike i = slice_index bytes i ≡ slice_index others i

  -- a byte of a window
  pub in_window : (pos n i : ℕ) → AgreesOn bytes others pos n → IsIn pos n i → Alike i
  in_window pos n i h o =
      let low = o.0 in
      let high = o.1 in
      let e : pos + (i - pos) ≡ i = omega arith in
      let less : i - pos < n = omega arith in
      ap (λ m. get_or bytes m 0) (sym e) ∙ sym (get_or-drop pos bytes (i - pos) 0) ∙ sym (get_or-take n (drop pos bytes) (i - pos) 0 less)
      ∙ ap (λ w. get_or w (i - pos) 0) h
      ∙ get_or-take n (drop pos others) (i - pos) 0 less ∙ get_or-drop pos others (i - pos) 0 ∙ ap (λ m. get_or others m 0) e

  own_byte : (p : Part) (i : ℕ) → OwnAgrees bytes others p → Owns p i → Alike i
  own_byte (at pos s) i h o = in_window pos (size_of s) i h o
  own_byte (child level most k v pos) i h o = in_window pos 4 i h o
  own_byte (entry k key_pos v value_pos) i h o = ⊎_elim (in_window key_pos (size_of k) i h.0) (in_window value_pos (size_of v) i h.1) o
  own_byte (place_at pos limit) i h o = in_window pos 4 i h o
  own_byte (behind pos q len) i h o = absurd o
  own_byte (node level most k v pos) i h o = absurd o
  own_byte (buckets target len cap it) i h o = absurd o

  -- ---- which bytes are fields depends on the content

  abbrev pub kind_of : Content → ℕ
  kind_of (claimed s (Label.woven n) ps) = 1
  kind_of c = 0

  abbrev pub IsClaim : Content → Type 0
  IsClaim (claimed s l ps) = ⊤
  IsClaim _ = ⊥

  chosen_kind : (b : Bool) (c d : Content) (n : ℕ) → choose b c illegal ≡ d → IsClaim d → kind_of c ≡ n → kind_of d ≡ n
  unfolding choose
  chosen_kind true c d n e h k = ap kind_of (sym e) ∙ k
  chosen_kind false c d n e h k = absurd (subst IsClaim (sym e) h)

  pub node_kind : (level most : ℕ) (k v : Shape) (pos kind : ℕ) (own : List ℕ) (d : Content) → node_content level most k v pos kind own ≡ d → IsClaim d → kind ≡ kind_of d
  unfolding node_content
  node_kind level most k v pos zero own d e h = sym (chosen_kind _ _ d 0 e h refl)
  node_kind level most k v pos (suc zero) own d e h = sym (chosen_kind _ _ d 1 e h refl)
  node_kind level most k v pos (suc (suc kind)) own d e h = absurd (subst IsClaim (sym e) h)

  pub field_claimed : (names : Names) (p : Part) (s : Span) (l : Label) (ps : List Part) → content_of names bytes p ≡ claimed s l ps → content_of names others p ≡ claimed s l ps → (i : ℕ) → InField bytes p i → InField others p i
  field_claimed names (at pos r) s l ps e f i t = t
  field_claimed names (behind pos (sized r) len) s l ps e f i t = t
  field_claimed names (behind pos (slice r) len) s l ps e f i t = t
  field_claimed names (behind pos str len) s l ps e f i t = t
  field_claimed names (node level most k v pos) s l ps e f i t =
      let a = node_kind level most k v pos (slice_index (drop pos bytes) 0) _ (claimed s l ps) e tt in
      let b = node_kind level most k v pos (slice_index (drop pos others) 0) _ (claimed s l ps) f tt in
      subst (λ n. InFieldOfNode n most k v pos i) (a ∙ sym b) t
  field_claimed names (child level most k v pos) s l ps e f i t = t
  field_claimed names (entry k key_pos v value_pos) s l ps e f i t = t
  field_claimed names (buckets target len cap it) s l ps e f i t = t
  field_claimed names (place_at pos limit) s l ps e f i t = t

  -- a part that claims nothing is no node
  abbrev NoClaim : Content → Type 0
  NoClaim illegal = ⊥
  NoClaim (claimed s l ps) = ⊥
  NoClaim (plain l ps) = ⊤
  NoClaim (counting cyclic t q len) = ⊤

  unclaimed : (b : Bool) (s : Span) (l : Label) (ps : List Part) → NoClaim (choose b (claimed s l ps) illegal) → ⊥
  unfolding choose
  unclaimed true s l ps h = h
  unclaimed false s l ps h = h

  no_node : (level most : ℕ) (k v : Shape) (pos kind : ℕ) (own : List ℕ) → NoClaim (node_content level most k v pos kind own) → ⊥
  unfolding node_content
  no_node level most k v pos zero own h = unclaimed _ _ _ _ h
  no_node level most k v pos (suc zero) own h = unclaimed _ _ _ _ h
  no_node level most k v pos (suc (suc kind)) own h = h

  field_plain : (names : Names) (p : Part) (c : Content) → content_of names bytes p ≡ c → NoClaim c → (i : ℕ) → InField bytes p i → InField others p i
  field_plain names (at pos r) c e h i t = t
  field_plain names (behind pos (sized r) len) c e h i t = t
  field_plain names (behind pos (slice r) len) c e h i t = t
  field_plain names (behind pos str len) c e h i t = t
  field_plain names (node level most k v pos) c e h i t = absurd (no_node level most k v pos (slice_index (drop pos bytes) 0) _ (subst NoClaim (sym e) h))
  field_plain names (child level most k v pos) c e h i t = t
  field_plain names (entry k key_pos v value_pos) c e h i t = t
  field_plain names (buckets target len cap it) c e h i t = t
  field_plain names (place_at pos limit) c e h i t = t

  -- ---- filled

  shape_trim : (pos : ℕ) (s : Shape) (c : Content) → AgreesOn bytes others pos (header_size s) → IsShapeFilled (window bytes pos (size_of s)) c s → IsShapeFilled (window others pos (size_of s)) c s
  shape_trim pos (number w signed) c h t = tt
  shape_trim pos (nonzero w signed) c h t = tt
  shape_trim pos truth c h t = tt
  shape_trim pos character c h t = tt
  shape_trim pos text c h t = subst (λ w. IsTextFilled w c) h t
  shape_trim pos (tuple ss) c h t = tt
  shape_trim pos (array n s) c h t = tt
  shape_trim pos (option s) c h t = tt
  shape_trim pos (result s r) c h t = tt
  shape_trim pos (choice ss) c h t = tt
  shape_trim pos (box p) c h t = tt
  shape_trim pos (vector s) c h t = tt
  shape_trim pos (shared cyclic p) c h t = tt
  shape_trim pos (weak cyclic p) c h t = tt
  shape_trim pos (tree most k v) c h t = subst (λ w. IsShapeFilled w c (tree most k v)) h t
  shape_trim pos (table s) c h t = subst (λ w. IsShapeFilled w c (table s)) h t
  shape_trim pos (index_map k v) c h t = subst (λ w. IsShapeFilled w c (index_map k v)) h t
  shape_trim pos (named name size align) c h t = tt

  header_fits : (s : Shape) (pos : ℕ) (c : Content) → AgreesOn bytes others pos (size_of s) → IsShapeFilled (window bytes pos (size_of s)) c s → IsShapeFilled (window others pos (size_of s)) c s
  header_fits s pos c h t = subst (λ w. IsShapeFilled w c s) h t

  controls_trim : (target cap : ℕ) → AgreesOn bytes others target (control_count cap) → AreControlsFilled (window bytes target (control_count cap)) (control_count cap) → AreControlsFilled (window others target (control_count cap)) (control_count cap)
  controls_trim target cap h t = subst (λ w. AreControlsFilled w (control_count cap)) h t

  -- the controls lie in what is claimed
  controls_in : (target len cap : ℕ) (it : Item) (own : List ℕ) (s : Span) (l : Label) (ps : List Part) → buckets_content target len cap it own ≡ claimed s l ps → AgreesOn bytes others s.start s.size → AgreesOn bytes others target (control_count cap)
  unfolding buckets_content buckets_span choose
  controls_in target len cap it own s l ps e h = tested (nat_le (cap * item_size it) target && (wraps cap own 0 own && (count_by (λ c. nat_lt c 128) (take cap own) == len))) refl e
    where
      tested : (b : Bool) → (nat_le (cap * item_size it) target && (wraps cap own 0 own && (count_by (λ c. nat_lt c 128) (take cap own) == len))) ≡ b
          → choose b (claimed (buckets_span target cap it) Label.whole (tagged_items target it 0 (take cap own))) illegal ≡ claimed s l ps → AgreesOn bytes others target (control_count cap)
      tested false g e' = absurd (cc)
      tested true g e' =
          let one : buckets_span target cap it ≡ s = cc in
          let room : cap * item_size it ≤ target = grind (arith, leb-true) in
          let there = subst (λ (x : Span). AgreesOn bytes others x.start x.size) (sym one) h in
          agrees_within bytes others (target - cap * item_size it) (cap * item_size it + control_count cap) target (control_count cap) (omega arith) (omega arith) there

  -- ---- parts of which no byte changes

  buckets_unclaimed : (target len cap : ℕ) (it : Item) (own : List ℕ) → NoClaim (buckets_content target len cap it own) → ⊥
  unfolding buckets_content
  buckets_unclaimed target len cap it own k = unclaimed _ _ _ _ k

  -- ---- what a fit may read

  seen_still : (names : Names) (p : Part) (c : Content) → content_of names bytes p ≡ c → NoClaim c → seen_bytes_of bytes p ≡ seen_bytes_of others p
  seen_still names (at pos s) c e h = refl
  seen_still names (behind pos q len) c e h = refl
  seen_still names (node level most k v pos) c e h = absurd (no_node level most k v pos (slice_index (drop pos bytes) 0) _ (subst NoClaim (sym e) h))
  seen_still names (child level most k v pos) c e h = refl
  seen_still names (entry k key_pos v value_pos) c e h = refl
  seen_still names (buckets target len cap it) c e h = absurd (buckets_unclaimed target len cap it (window bytes target (control_count cap)) (subst NoClaim (sym e) h))
  seen_still names (place_at pos limit) c e h = refl

  pub plain_seen : (names : Names) (p : Part) {l : Label} {ps : List Part} → content_of names bytes p ≡ plain l ps → seen_bytes_of bytes p ≡ seen_bytes_of others p
  plain_seen names p {l = l} {ps = ps} e = seen_still names p (plain l ps) e tt

  pub counting_seen : (names : Names) (p : Part) {cyclic : Bool} {t : ℕ} {q : Pointee} {len : ℕ} → content_of names bytes p ≡ counting cyclic t q len → seen_bytes_of bytes p ≡ seen_bytes_of others p
  counting_seen names p {cyclic = cyclic} {t = t} {q = q} {len = len} e = seen_still names p (counting cyclic t q len) e tt

  -- the controls are given apart
  pub claimed_seen : (names : Names) (p : Part) {s : Span} {l : Label} {ps : List Part} → content_of names bytes p ≡ claimed s l ps → content_of names others p ≡ claimed s l ps
      → ((target len cap : ℕ) (it : Item) → p ≡ buckets target len cap it → AgreesOn bytes others target (control_count cap))
      → seen_bytes_of bytes p ≡ seen_bytes_of others p
  claimed_seen names (at pos r) e f g = refl
  claimed_seen names (behind pos q len) e f g = refl
  claimed_seen names (node level most k v pos) {s = s} {l = l} {ps = ps} e f g =
      let a = node_kind level most k v pos (slice_index (drop pos bytes) 0) _ (claimed s l ps) e tt in
      let b = node_kind level most k v pos (slice_index (drop pos others) 0) _ (claimed s l ps) f tt in
      ap (λ n. n ∷ []) (a ∙ sym b)
  claimed_seen names (child level most k v pos) e f g = refl
  claimed_seen names (entry k key_pos v value_pos) e f g = refl
  claimed_seen names (buckets target len cap it) e f g = g target len cap it refl
  claimed_seen names (place_at pos limit) e f g = refl

  pub span_seen : (names : Names) (p : Part) {s : Span} {l : Label} {ps : List Part} → content_of names bytes p ≡ claimed s l ps → content_of names others p ≡ claimed s l ps
      → AgreesOn bytes others s.start s.size → seen_bytes_of bytes p ≡ seen_bytes_of others p
  span_seen names p {s = s} {l = l} {ps = ps} e f here =
      claimed_seen names p e f
      (λ target len cap it is. controls_in target len cap it (window bytes target (control_count cap)) s l ps (subst (λ y. content_of names bytes y ≡ claimed s l ps) is e) here)

  filled_plain : (names : Names) (p : Part) (c : Content) → content_of names bytes p ≡ c → NoClaim c → OwnAgrees bytes others p → IsFilled bytes p c → IsFilled others p c
  filled_plain names (at pos s) c e h own t = header_fits s pos c own t
  filled_plain names (behind pos q len) c e h own t = tt
  filled_plain names (node level most k v pos) c e h own t = tt
  filled_plain names (child level most k v pos) c e h own t = tt
  filled_plain names (entry k key_pos v value_pos) c e h own t = tt
  filled_plain names (buckets target len cap it) c e h own t = absurd (buckets_unclaimed target len cap it (window bytes target (control_count cap)) (subst NoClaim (sym e) h))
  filled_plain names (place_at pos limit) c e h own t = tt

  filled_claimed : (names : Names) (p : Part) (s : Span) (l : Label) (ps : List Part) → content_of names bytes p ≡ claimed s l ps → OwnAgrees bytes others p → AgreesOn bytes others s.start s.size → IsFilled bytes p (claimed s l ps) → IsFilled others p (claimed s l ps)
  filled_claimed names (at pos r) s l ps e own h t = header_fits r pos (claimed s l ps) own t
  filled_claimed names (behind pos q len) s l ps e own h t = tt
  filled_claimed names (node level most k v pos) s l ps e own h t = tt
  filled_claimed names (child level most k v pos) s l ps e own h t = tt
  filled_claimed names (entry k key_pos v value_pos) s l ps e own h t = tt
  filled_claimed names (buckets target len cap it) s l ps e own h t = controls_trim target cap (controls_in target len cap it (window bytes target (control_count cap)) s l ps e h) t
  filled_claimed names (place_at pos limit) s l ps e own h t = tt

  moved : (p : Part) (ps : List Part) (i : ℕ) → (InField bytes p i → InField others p i) → Alike i → FieldPartOrZero bytes p ps i → FieldPartOrZero others p ps i
  moved p ps i f e a = ⊎_elim (λ x. inl (f x)) (λ x. inr (⊎_elim (λ y. inl y) (λ y. inr (sym e ∙ y)) x)) a

  pub plain_stays : (names : Names) (p : Part) {l : Label} {ps : List Part} → content_of names bytes p ≡ plain l ps → content_of names others p ≡ plain l ps → OwnAgrees bytes others p → IsClean names bytes p → IsClean names others p
  plain_stays names p {l = l} {ps = ps} e f own clean =
      let padding = subst (λ c. PaddingIsZero bytes p c) e clean.padding in
      let filled = subst (λ c. IsFilled bytes p c) e clean.filled in
      record {
        padding = subst (λ c. PaddingIsZero others p c) (sym f) (λ i o. moved p ps i (field_plain names p (plain l ps) e tt i) (own_byte p i own o) (padding i o));
        filled = subst (λ c. IsFilled others p c) (sym f) (filled_plain names p (plain l ps) e tt own filled);
      }

  pub counting_stays : (names : Names) (p : Part) {cyclic : Bool} {t : ℕ} {q : Pointee} {len : ℕ} → content_of names bytes p ≡ counting cyclic t q len → content_of names others p ≡ counting cyclic t q len
      → OwnAgrees bytes others p → IsClean names bytes p → IsClean names others p
  counting_stays names p {cyclic = cyclic} {t = t} {q = q} {len = len} e f own clean =
      let padding = subst (λ c. PaddingIsZero bytes p c) e clean.padding in
      let filled = subst (λ c. IsFilled bytes p c) e clean.filled in
      record {
        padding = subst (λ c. PaddingIsZero others p c) (sym f) (λ i o. moved p [] i (field_plain names p (counting cyclic t q len) e tt i) (own_byte p i own o) (padding i o));
        filled = subst (λ c. IsFilled others p c) (sym f) (filled_plain names p (counting cyclic t q len) e tt own filled);
      }

  pub claimed_stays : (names : Names) (p : Part) {s : Span} {l : Label} {ps : List Part} → content_of names bytes p ≡ claimed s l ps → content_of names others p ≡ claimed s l ps
      → OwnAgrees bytes others p → AgreesOn bytes others s.start s.size → IsClean names bytes p → IsClean names others p
  claimed_stays names p {s = s} {l = l} {ps = ps} e f own here clean =
      let padding = subst (λ c. PaddingIsZero bytes p c) e clean.padding in
      let filled = subst (λ c. IsFilled bytes p c) e clean.filled in
      record {
        padding = subst (λ c. PaddingIsZero others p c) (sym f) (λ i o. moved p ps i (field_claimed names p s l ps e f i) (in_window s.start s.size i here o) (padding i o));
        filled = subst (λ c. IsFilled others p c) (sym f) (filled_claimed names p s l ps e own here filled);
      }

  -- ---- parts in whose parts a window changes

  module _ (w n : ℕ) (spares : Spares bytes others w n) where
    owned_in : (p : Part) (i : ℕ) → InOwn w n p → IsIn w n i → Owns p i
    owned_in (at pos s) i o h = let a = o.0 in let b = o.1 in let c = h.0 in let d = h.1 in (omega arith, omega arith)
    owned_in (entry k key_pos v value_pos) i o h =
        let c = h.0 in
        let d = h.1 in
        ⊎_elim (λ x. inl (let a = x.0 in let b = x.1 in (omega arith, omega arith))) (λ x. inr (let a = x.0 in let b = x.1 in (omega arith, omega arith))) o
    owned_in (child level most k v pos) i o h = absurd o
    owned_in (place_at pos limit) i o h = absurd o
    owned_in (behind pos q len) i o h = absurd o
    owned_in (node level most k v pos) i o h = absurd o
    owned_in (buckets target len cap it) i o h = absurd o

    any_owned : (ps : List Part) (i : ℕ) → InAny w n ps → IsIn w n i → InParts ps i
    any_owned [] i a h = elim a [ ]
    any_owned (p ∷ ps) i (any_here o) h = inl (owned_in p i o h)
    any_owned (p ∷ ps) i (any_later o) h = inr (any_owned ps i o h)

    -- a position is in the window, or its byte stays
    pub either : (i : ℕ) → IsIn w n i ⊎ Alike i
    either i =
        ⊎_elim
        (λ l. inr (in_window i 1 i (spares.outside i 1 (inr (omega arith))) (le_refl i, omega arith)))
        (λ g. ⊎_elim (λ l. inl (g, l)) (λ k. inr (in_window i 1 i (spares.outside i 1 (inl k)) (le_refl i, omega arith))) (cases_lt i (w + n)))
        (cases_lt i w)

    moved_in : (p : Part) (ps : List Part) (i : ℕ) → (InField bytes p i → InField others p i) → InAny w n ps → FieldPartOrZero bytes p ps i → FieldPartOrZero others p ps i
    moved_in p ps i f a h = ⊎_elim (λ x. inr (inl (any_owned ps i a x))) (λ e. moved p ps i f e h) (either i)

    filled_in : (names : Names) (p : Part) {l : Label} {ps : List Part} → content_of names bytes p ≡ plain l ps → InAny w n ps → IsFilled bytes p (plain l ps) → IsFilled others p (plain l ps)
    filled_in names (at pos s) {l = l} {ps = ps} e a t =
        let laid = subst (Laid (pos + header_size s) (pos + size_of s) false) e (at_laid names pos (window bytes pos (size_of s)) s) in
        let range = any_fits w n (pos + header_size s) (pos + size_of s) ps (plain_fits laid).0 a in
        shape_trim pos s (plain l ps) (spares.outside pos (header_size s) (inr range.0)) t
    filled_in names (behind pos q len) e a t = tt
    filled_in names (node level most k v pos) e a t = tt
    filled_in names (child level most k v pos) e a t = tt
    filled_in names (entry k key_pos v value_pos) e a t = tt
    filled_in names (buckets target len cap it) e a t = absurd (not_plain (subst (Laid (target - cap * item_size it) target true) e (buckets_laid target len cap it (window bytes target (control_count cap)))))
    filled_in names (place_at pos limit) e a t = tt

    trim_in_claimed : (names : Names) (p : Part) {s : Span} {l : Label} {ps : List Part} → content_of names bytes p ≡ claimed s l ps → InAny w n ps → IsFilled bytes p (claimed s l ps) → IsFilled others p (claimed s l ps)
    trim_in_claimed names (at pos r) e a t = absurd (not_claimed (subst (Laid (pos + header_size r) (pos + size_of r) false) e (at_laid names pos (window bytes pos (size_of r)) r)))
    trim_in_claimed names (behind pos q len) e a t = tt
    trim_in_claimed names (node level most k v pos) e a t = tt
    trim_in_claimed names (child level most k v pos) e a t = tt
    trim_in_claimed names (entry k key_pos v value_pos) e a t = tt
    trim_in_claimed names (buckets target len cap it) {ps = ps} e a t =
        let laid = subst (Laid (target - cap * item_size it) target true) e (buckets_laid target len cap it (window bytes target (control_count cap))) in
        let range = any_fits w n (target - cap * item_size it) target ps (claimed_all laid) a in
        controls_trim target cap (spares.outside target (control_count cap) (inl range.1)) t
    trim_in_claimed names (place_at pos limit) e a t = tt

    pub plain_leads : (names : Names) (p : Part) {l : Label} {ps : List Part} → content_of names bytes p ≡ plain l ps → content_of names others p ≡ plain l ps → InAny w n ps → IsClean names bytes p → IsClean names others p
    plain_leads names p {l = l} {ps = ps} e f a clean =
        let padding = subst (λ c. PaddingIsZero bytes p c) e clean.padding in
        let filled = subst (λ c. IsFilled bytes p c) e clean.filled in
        record {
          padding = subst (λ c. PaddingIsZero others p c) (sym f) (λ i o. moved_in p ps i (field_plain names p (plain l ps) e tt i) a (padding i o));
          filled = subst (λ c. IsFilled others p c) (sym f) (filled_in names p e a filled);
        }

    pub claimed_leads : (names : Names) (p : Part) {s : Span} {l : Label} {ps : List Part} → content_of names bytes p ≡ claimed s l ps → content_of names others p ≡ claimed s l ps → InAny w n ps → IsClean names bytes p → IsClean names others p
    claimed_leads names p {s = s} {l = l} {ps = ps} e f a clean =
        let padding = subst (λ c. PaddingIsZero bytes p c) e clean.padding in
        let filled = subst (λ c. IsFilled bytes p c) e clean.filled in
        record {
          padding = subst (λ c. PaddingIsZero others p c) (sym f) (λ i o. moved_in p ps i (field_claimed names p s l ps e f i) a (padding i o));
          filled = subst (λ c. IsFilled others p c) (sym f) (trim_in_claimed names p e a filled);
        }
