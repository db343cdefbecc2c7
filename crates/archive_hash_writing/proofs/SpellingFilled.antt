-- The region of a table that has places is read as it is written, and claimed.
use Rattle.std.proofs.Common.{◌≡◌, ℕ, suc, ◌+◌, ◌-◌, ◌*◌, ◌%◌, ◌<◌, ◌≤◌, ◌&&◌, ◌==◌, nat_lt, true, List, [], ◌∷◌, ◌++◌, length, take, slice_index, refl, sym, ap, ap₂, subst, ◌∙◌, arith, inl, inr, ⊎_elim, eq-eqb, le-leb, length-append, Option}
use Rattle.std.specs.Prelude.{count_by}
use Rattle.std.specs.List.{All}
use Rattle.std.proofs.lemmas.Bool.{cases_lt}
use Rattle.std.proofs.lemmas.List.{length-replicate, get_or_past}
use Rattle.archive_shape_layout.specs.Bytes.{window, align_up}
use Rattle.archive_shape_layout.specs.Shape.{Shape, size_of, align_of}
use Rattle.archive_shape_layout.specs.Value.Value.{group}
use Rattle.archive_shape_layout.specs.Content.{Names, made, choose, tagged_items, buckets_content, buckets_span, control_count, wraps}
use Rattle.archive_shape_layout.specs.Content.Item.{item}
use Rattle.archive_shape_layout.specs.Content.Part.{buckets}
use Rattle.archive_shape_layout.specs.Content.Label.{whole}
use Rattle.archive_shape_layout.specs.Content.Content.{claimed, illegal}
use Rattle.archive_shape_layout.specs.Holds.{OpenShared, Region, Ascends}
use Rattle.archive_shape_layout.specs.Holds.Holds.{holds_claimed}
use Rattle.archive_shape_layout.proofs.Framed.{le_align_up}
use Rattle.archive_shape_canonical.specs.Settled.{Fit}
use Rattle.archive_shape_canonical.specs.Clean.{AreControlsFilled}
use Rattle.archive_shape_canonical.specs.Canonical.{AreBytes, end_of_all}
use Rattle.archive_shape_canonical.specs.FirstFit.{present}
use Rattle.archive_shape_canonical.proofs.Cleanness.{clean_by}
use Rattle.archive_shape.specs.Bytes.{HasBytes, zeros}
use Rattle.archive_shape.proofs.Pieces.{stands_left, stands_right, zero_stands}
use Rattle.archive_shape_layout.specs.declared.error.Error.{Error}
use Rattle.archive_forms_laws.specs.State.{State, Keys, visits_of, IsConsistent, AllFrom, AreKeyedBy, advanced}
use Rattle.archive_forms_laws.specs.Spelling.{Spelling}
use Rattle.archive_forms_laws.specs.Spells.{CanonicalPart, EachSpells}
use Rattle.archive_forms_laws.specs.Regions.{state_after_all, values, all_suit, pieces}
use Rattle.archive_forms_laws.proofs.Aligning.{starts_aligned}
use Rattle.archive_forms_laws.proofs.States.{from_earlier, consistent_further}
use Rattle.archive_forms_laws.proofs.Gaps.{gaps_join, ascends_join, bytes_append, bytes_zeros}
use Rattle.archive_forms_laws.proofs.Regions.{state_after_all_pos, state_after_all_begun, state_after_all_consistent, pieces_bytes, pieces_exact}
use Rattle.archive_hash_probing.specs.Controls.{AreControls}
use Rattle.archive_hash_writing.specs.Tables.{buckets as bucket_bytes, region_from, controls_at, filled_piece, filled_fits, filled_refused, state_after_items}
use Rattle.archive_hash_writing.proofs.Tagged.{AreTagged, IsControl, count_tags}
use Rattle.archive_hash_writing.proofs.SpellingBuckets.{length-buckets, buckets_bytes, buckets_exact, buckets_cover, buckets_canonical}

-- controls are those of the items at places
pub record AreControlsOf {A : Type 0} (os : List (Option A)) (controls : List ℕ) : Type 0 where
  pub wrapped : AreControls controls (length os)
  pub tagged : AreTagged os (take (length os) controls)
  pub each_is : All IsControl controls

-- what begins at the next aligned position does so from where all before it ends
behind_all : (start low end align : ℕ) → start ≡ align_up low align → end ≡ low → start ≡ align_up end align
behind_all start low end align e f = e ∙ sym (ap (λ z. align_up z align) f)

-- an empty control is ff
controls_filled : (controls : List ℕ) → All IsControl controls → (i : ℕ) → i < length controls → 128 ≤ slice_index controls i → slice_index controls i ≡ 255
controls_filled controls h i l e = ⊎_elim (λ low. absurd (omega (arith, low, e))) (λ is. is) (h i 0 l)

pub controls_bytes : (controls : List ℕ) → All IsControl controls → AreBytes controls
controls_bytes controls h i = ⊎_elim (λ l. ⊎_elim (λ low. omega (arith, low)) (λ is. omega (arith, is)) (h i 0 l)) (λ g. omega (arith, get_or_past controls i 0 g)) (cases_lt i (length controls))

-- buckets with such controls are legal
pub legal_buckets : {A : Type 0} (os : List (Option A)) (controls : List ℕ) (target : ℕ) (s : Shape) → AreControlsOf os controls → length os * size_of s ≤ target
    → buckets_content target (length (present os)) (length os) (item s) controls
    ≡ claimed (buckets_span target (length os) (item s)) whole (tagged_items target (item s) 0 (take (length os) controls))
unfolding buckets_content choose
legal_buckets os controls target s h room =
    let c = claimed (buckets_span target (length os) (item s)) whole (tagged_items target (item s) 0 (take (length os) controls)) in
    let count : (count_by (λ c. nat_lt c 128) (take (length os) controls) == length (present os)) ≡ true = eq-eqb _ _ (count_tags os (take (length os) controls) h.tagged) in
    ap (λ b. choose (b && (wraps (length os) controls 0 controls && (count_by (λ c. nat_lt c 128) (take (length os) controls) == length (present os)))) c illegal) (le-leb (length os * size_of s) target room)
    ∙ ap₂ (λ a b. choose (a && b) c illegal) h.wrapped.repeated count

module _ {A R : Type 0} (fit : Fit) (s : Shape) (knows : Names → Type 0) (w : Spelling A R) (os : List (Option A)) (controls : List ℕ) (each : EachSpells fit s knows w (present os)) where
  pub region_above : (st : State) → (state_after_all w (present os) st).pos ≤ region_from s w os st
  region_above st = le_align_up (state_after_all w (present os) st).pos (align_of s)

  -- where the region ends
  pub filled_end : (st : State) → filled_fits s w os controls st → st.pos + length (filled_piece s w os controls st) ≡ controls_at s w os st + length controls
  filled_end st f =
      let front = pieces w (present os) st in
      let gap = zeros (region_from s w os st - (state_after_items s w os st).pos) in
      let slots = bucket_bytes s w os st (controls_at s w os st) in
      let at_end = state_after_all_pos fit s knows w (present os) st in
      let up = region_above st in
      let n = length-buckets fit s knows w os each st (controls_at s w os st) f.3 in
      let filled : length gap ≡ region_from s w os st - (state_after_items s w os st).pos = length-replicate _ _ in
      omega (arith, at_end, up, n, filled, length-append front (gap ++ (slots ++ controls)), length-append gap (slots ++ controls), length-append slots controls)

  pub filled_consistent : (st : State) → IsConsistent st → filled_fits s w os controls st → IsConsistent (advanced (length (filled_piece s w os controls st)) (state_after_all w (present os) st).met st)
  filled_consistent st h f =
      let up = region_above st in
      let end = filled_end st f in
      consistent_further (state_after_all w (present os) st) (st.pos + length (filled_piece s w os controls st)) st.begun (omega (arith, up, end)) (state_after_all_begun fit s knows w (present os) st)
      (state_after_all_consistent fit s knows w (present os) each st h f.1)

  pub filled_bytes : (st : State) → All IsControl controls → filled_fits s w os controls st → AreBytes (filled_piece s w os controls st)
  filled_bytes st h f =
      bytes_append (pieces w (present os) st) _ (pieces_bytes fit s knows w (present os) each st f.1)
      (bytes_append (zeros (region_from s w os st - (state_after_items s w os st).pos)) _ (bytes_zeros _)
      (bytes_append (bucket_bytes s w os st (controls_at s w os st)) controls (buckets_bytes fit s knows w os each st (controls_at s w os st) f.3) (controls_bytes controls h)))

  -- what passes no limit is not refused
  pub filled_exact : (st : State) (e : Error) → filled_fits s w os controls st → filled_refused s w os controls st e → ⊥
  filled_exact st e f (inl r) = let h = r.0 in let g = f.0 in omega (arith, h, g)
  filled_exact st e f (inr (inl r)) = pieces_exact fit s knows w (present os) each st e f.1 r
  filled_exact st e f (inr (inr (inl r))) = r.0 f.2
  filled_exact st e f (inr (inr (inr r))) = buckets_exact fit s knows w os each st (controls_at s w os st) e f.3 r

  -- the positions of the pieces of the region
  pub record FilledStands (st : State) (bytes : List ℕ) : Type 0 where
    pub items_stand : HasBytes bytes st.pos (pieces w (present os) st)
    pub gap_stands : HasBytes bytes (state_after_all w (present os) st).pos (zeros (region_from s w os st - (state_after_all w (present os) st).pos))
    pub buckets_stand : HasBytes bytes (region_from s w os st) (bucket_bytes s w os st (controls_at s w os st))
    pub controls_stand : HasBytes bytes (controls_at s w os st) controls

  pub filled_stands : (st : State) (bytes : List ℕ) → filled_fits s w os controls st → HasBytes bytes st.pos (filled_piece s w os controls st) → FilledStands st bytes
  filled_stands st bytes f p =
      let mid = (state_after_all w (present os) st).pos in
      let front = pieces w (present os) st in
      let gap = zeros (region_from s w os st - mid) in
      let slots = bucket_bytes s w os st (controls_at s w os st) in
      let up = region_above st in
      let n = length-buckets fit s knows w os each st (controls_at s w os st) f.3 in
      let filled : length gap ≡ region_from s w os st - mid = length-replicate _ _ in
      let r₁ = stands_right bytes st.pos front (gap ++ (slots ++ controls)) mid (sym (state_after_all_pos fit s knows w (present os) st)) p in
      let r₂ = stands_right bytes mid gap (slots ++ controls) (region_from s w os st) (omega (arith, up, filled)) r₁ in
      record {
        items_stand = stands_left bytes st.pos front (gap ++ (slots ++ controls)) p;
        gap_stands = stands_left bytes mid gap (slots ++ controls) r₁;
        buckets_stand = stands_left bytes (region_from s w os st) slots controls r₂;
        controls_stand = stands_right bytes (region_from s w os st) slots controls (controls_at s w os st) (omega (arith, n)) r₂;
      }

  -- the controls are read as they are written
  pub controls_read : (st : State) (bytes : List ℕ) → AreControlsOf os controls → FilledStands st bytes → window bytes (controls_at s w os st) (control_count (length os)) ≡ controls
  controls_read st bytes h stands = ap (window bytes (controls_at s w os st)) (sym h.wrapped.count) ∙ stands.controls_stand

  pub filled_canonical :
      (st : State) (names : Names) (keys : Keys) (bytes : List ℕ) (level : ℕ) (inside : List OpenShared)
      → AreControlsOf os controls
      → knows names
      → all_suit w fit keys (present os)
      → AreKeyedBy keys st.met
      → IsConsistent st
      → AllFrom (st.pos + length (filled_piece s w os controls st)) inside
      → filled_fits s w os controls st
      → FilledStands st bytes
      → CanonicalPart fit names bytes level inside (visits_of st.met) (visits_of (state_after_all w (present os) st).met) (buckets (controls_at s w os st) (length (present os)) (length os) (item s)) (group (values w (present os) st)) st.pos (st.pos + length (filled_piece s w os controls st))
  unfolding made buckets_span Ascends
  filled_canonical st names keys bytes level inside h kn n known state over f stands =
      let t = controls_at s w os st in
      let mid = (state_after_all w (present os) st).pos in
      let start = region_from s w os st in
      let size = length os * size_of s in
      let count = control_count (length os) in
      let high = st.pos + length (filled_piece s w os controls st) in
      let ps = tagged_items t (item s) 0 (take (length os) controls) in
      let up = region_above st in
      let at_mid = state_after_all_pos fit s knows w (present os) st in
      let end = filled_end st f in
      let long : length controls ≡ count = h.wrapped.count in
      let begins : t - size ≡ start = omega arith in
      let ends : (t - size) + (size + count) ≡ high = omega (arith, end, long) in
      let read = controls_read st bytes h stands in
      let target_is : t ≡ t - 0 * size_of s = omega arith in
      let c = ap (buckets_content t (length (present os)) (length os) (item s)) read ∙ legal_buckets os controls t s h (omega arith) in
      let parts = buckets_canonical fit s knows w t bytes os each st 0 start t (take (length os) controls) names keys (suc level) inside refl target_is h.tagged kn n known state
      (from_earlier inside mid high (omega (arith, end, up)) over) f.1 f.3 stands.items_stand stands.buckets_stand in
      let region : Region = record { start = t - size; size = size + count; align = align_of s; level = level } in
      let aligned : (t - size) % align_of s ≡ 0 = ap (λ z. z % align_of s) begins ∙ starts_aligned s mid in
      let filled : AreControlsFilled (window bytes t count) count = subst (λ (z : List ℕ). AreControlsFilled z count) (sym read) (λ i l e. controls_filled controls h.each_is i (omega (arith, l, long)) e) in
      record {
        regions = parts.regions ++ region ∷ [];
        reads = record {
          holds = holds_claimed c tt parts.hold refl refl;
          canonical = (
            clean_by names bytes (buckets t (length (present os)) (length os) (item s)) (claimed (buckets_span t (length os) (item s)) whole ps) c
                (λ i o. let low = o.0 in let below = o.1 in
                ⊎_elim
                (λ l. inr (buckets_cover fit s knows w t bytes os each st 0 start t (take (length os) controls) refl target_is h.tagged f.3 stands.buckets_stand i (omega (arith, low, begins), l)))
                (λ g. inl (g, omega (arith, below, begins)))
                (cases_lt i t))
                filled,
            tt,
            parts.canonical,
            behind_all (t - size) mid (end_of_all parts.hold st.pos) (align_of s) begins parts.ends,
          );
          ends = ends;
        };
        ascends = ascends_join st.pos mid high parts.regions (region ∷ []) parts.ascends (record { after = omega (arith, up, begins); aligned = aligned; inside = omega (arith, ends) }, tt) (omega (arith, at_mid)) (omega (arith, end, up));
        gaps = gaps_join bytes parts.regions (region ∷ []) st.pos mid high parts.gaps
            (λ i a b. ⊎_elim (λ l. inr (zero_stands bytes mid (start - mid) i stands.gap_stands a (omega (arith, l)))) (λ g. inl (inl (omega (arith, g, begins), omega (arith, b, ends)))) (cases_lt i start));
      }
