-- Shared values are read as they are written: the first time and each later time.
use Rattle.std.proofs.Common.{◌≡◌, ℕ, ◌+◌, ◌≤◌, ◌<◌, ◌==◌, cond, Bool, true, false, true≢false, List, [], ◌∷◌, ◌++◌, length, refl, sym, ap, ap₂, subst, ◌∙◌, arith, Option, Some, None, inl, inr, ⊎_elim, length-append, add-zero, eq-eqb, slice_index, le_refl}
use Rattle.std.proofs.lemmas.Bool.{cases_lt}
use Rattle.std.proofs.lemmas.List.{length-replicate}
use Rattle.archive_shape_layout.specs.Shape.{Shape, Pointee}
use Rattle.archive_shape_layout.specs.Shape.Shape.{shared, box}
use Rattle.archive_shape_layout.specs.Shape.Pointee.{sized, slice, str}
use Rattle.archive_shape_layout.specs.Value.{Value}
use Rattle.archive_shape_layout.specs.Value.Value.{counted}
use Rattle.archive_shape_layout.specs.Content.{Names, Part, content_of, shape_content, shared_content, following}
use Rattle.archive_shape_layout.specs.Content.Part.{at, behind}
use Rattle.archive_shape_layout.specs.Content.Content.{counting}
use Rattle.archive_shape_layout.specs.Holds.{Visit, OpenShared, Ascends, visited, open_at}
use Rattle.archive_shape_layout.specs.Holds.Holds.{holds_first, holds_later}
use Rattle.archive_shape_layout.proofs.Evaluated.{ascends_raised}
use Rattle.archive_shape_canonical.specs.Settled.{Fit}
use Rattle.archive_shape_canonical.specs.Sharing.{end_of_shared, erased}
use Rattle.archive_shape_canonical.specs.Clean.{IsClean}
use Rattle.archive_shape_canonical.proofs.Cleanness.{clean_by}
use Rattle.archive_shape.specs.Bytes.{HasBytes, zeros}
use Rattle.archive_shape.proofs.Pieces.{stands_left, stands_right, zero_stands}
use Rattle.archive_shape_layout.specs.declared.error.Error.{Error}
use Rattle.archive_forms_laws.specs.State.{State, Met, Keys, SharedValue, IsConsistent, AllFrom, AreKeyedBy, advanced, with_begun, visits_of, visit_of_key}
use Rattle.archive_forms_laws.specs.Spelling.{Spelling}
use Rattle.archive_forms_laws.specs.Spells.{CanonicalPart, Spells, SpellsAt, SpellsBehind}
use Rattle.archive_shape_canonical.specs.Canonical.{AreBytes}
use Rattle.archive_forms_laws.specs.Pointers.{slice_spelling, box_spelling}
use Rattle.archive_forms_laws.specs.Texts.{boxed_text_spelling}
use Rattle.archive_forms_laws.specs.Shared.{shared_padding, first_at, first_visit, shared_value, shared_piece, shared_resolver, shared_met, shared_fits, shared_refused, shared_spelling, shared_value_spelling, shared_slice_spelling, shared_text_spelling}
use Rattle.archive_forms_laws.proofs.States.{before_further, from_earlier, consistent_advanced, is_new_key, none_open, none_visited, visit_before, met_is_visited, met_is_keyed, none_or_one, new_keys_more}
use Rattle.archive_forms_laws.proofs.Gaps.{no_gap, bytes_none, bytes_append, bytes_zeros}
use Rattle.archive_forms_laws.proofs.Views.{each_spells}
use Rattle.archive_forms_laws.proofs.Pointers.{box_spells_at, boxed_slice_spells_at}
use Rattle.archive_forms_laws.proofs.Texts.{boxed_text_spells_at}
use Rattle.archive_forms_laws.proofs.Behind.{value_behind, elements_behind, text_behind}

padded_end : (t end : ℕ) → end + length (zeros (shared_padding t end)) ≡ end_of_shared t end
padded_end t end = tested (end == t)
  where
    tested : (b : Bool) → end + length (zeros (cond b 1 0)) ≡ cond b (end + 1) end
    tested true = refl
    tested false = add-zero end

start_before_end : (t end : ℕ) → t ≤ end → t < end_of_shared t end
start_before_end t end h = tested (end == t) refl
  where
    differ : (end == t) ≡ false → end ≡ t → ⊥
    differ e k = let u : (end == t) ≡ true = eq-eqb end t k in absurd (cc)

    tested : (b : Bool) → (end == t) ≡ b → t < cond b (end + 1) end
    tested true e = omega arith
    tested false e = let differs = differ e in omega (arith, differs)

end_grows : (t end : ℕ) → end ≤ end_of_shared t end
end_grows t end = tested (end == t)
  where
    tested : (b : Bool) → end ≤ cond b (end + 1) end
    tested true = omega arith
    tested false = omega arith

-- a shared position that is known to be of a type and a length
known_visit : (v : Visit) (q : Pointee) (len : ℕ) → v.pointee ≡ q → v.len ≡ len → v ≡ record { pos = v.pos; pointee = q; len = len; value = v.value }
known_visit v q len e f = ap₂ (λ (p : Pointee) (n : ℕ). let z : Visit = record { pos = v.pos; pointee = p; len = n; value = v.value } in z) e f

module _ {fit : Fit} {names : Names} {bytes : List ℕ} {level : ℕ} {inside : List OpenShared} where
  -- the first pointer to a shared value, after which zeros may follow
  pub first_part : (before between : List Visit) (p : Part) (cyclic : Bool) (start : ℕ) (q : Pointee) (len : ℕ) (v : Value) (low last high : ℕ)
      → content_of names bytes p ≡ counting cyclic start q len
      → IsClean names bytes p
      → open_at inside start ≡ None
      → visited before start ≡ None
      → CanonicalPart fit names bytes level (record { pos = start; pointee = q; len = len } ∷ inside) before between (behind start q len) v low last
      → high ≡ end_of_shared start last
      → last ≤ high
      → ((i : ℕ) → last ≤ i → i < high → slice_index bytes i ≡ 0)
      → CanonicalPart fit names bytes level inside before (record { pos = start; pointee = q; len = len; value = v } ∷ between) p (counted start v) low high
  first_part before between p cyclic start q len v low last high e clean closed new h end up zero = record {
    regions = h.regions;
    reads = record {
      holds = holds_first e closed new h.reads.holds refl refl;
      canonical = (clean, h.reads.canonical);
      ends = ap (end_of_shared start) h.reads.ends ∙ sym end;
    };
    ascends = ascends_raised low last high h.regions up h.ascends;
    gaps = λ i a b. ⊎_elim (λ l. h.gaps i a l) (λ g. inr (zero i g b)) (cases_lt i last);
  }

module _ {A : Type 0} (fit : Fit) (cyclic : Bool) (q : Pointee) (knows : Names → Type 0) (len key : A → ℕ) (w : Spelling A ℕ) where
  module _ (x : A) (one : SpellsAt fit (box q) knows w x) (there : SpellsBehind fit q knows len w x) where
    shared_is : (names : Names) (bytes : List ℕ) (from to : ℕ) → w.own_fits x to from → HasBytes bytes from (w.own x to from)
        → content_of names bytes (at from (shared cyclic q)) ≡ counting cyclic to q (len x)
    unfolding shape_content shared_content following
    shared_is names bytes from to near stands =
        let leads = there.leads bytes to from near stands in
        ap₂ (λ o n. following o (λ t. counting cyclic t q n)) leads.0 leads.1

    shared_clean : (names : Names) (bytes : List ℕ) (from to : ℕ) → content_of names bytes (at from (shared cyclic q)) ≡ counting cyclic to q (len x)
        → IsClean names bytes (at from (shared cyclic q))
    shared_clean names bytes from to e = clean_by names bytes (at from (shared cyclic q)) (counting cyclic to q (len x)) e (λ i o. inl o) tt

    module _ (st : State) where
      begun_consistent : IsConsistent st → visit_of_key st.met (key x) ≡ None → IsConsistent (with_begun (key x) st)
      begun_consistent h e = record { before = h.before; descending = h.descending; own_keys = h.own_keys; new_keys = (is_new_key st.met (key x) e, h.new_keys) }

      shared_consistent : (o : Option Visit) → visit_of_key st.met (key x) ≡ o → IsConsistent st → shared_fits q len key w x st o → IsConsistent (advanced (length (shared_piece q len key w x st o)) (shared_met q len key w x st o) st)
      shared_consistent (Some v) e h f = consistent_advanced st 0 h
      shared_consistent None e h f =
          let then = with_begun (key x) st in
          let t = first_at q len key w x st in
          let piece = w.piece x then in
          let end = st.pos + length piece in
          let pad = zeros (shared_padding t end) in
          let begun = begun_consistent h e in
          let inner = one.consistent then begun f.1 in
          let up = there.ends then f.1 in
          let total : st.pos + length (piece ++ pad) ≡ end_of_shared t end = let a = length-append piece pad in let b = padded_end t end in omega arith in
          let after = start_before_end t end up in
          let further = end_grows t end in
          let ms = w.met x then in
          let m : Met = record { key = key x; visit = first_visit q len key w x st } in
          record {
            before = (omega arith, before_further ms end (st.pos + length (piece ++ pad)) (omega arith) inner.before);
            descending = (there.behind_met then begun f.1, inner.descending);
            own_keys = (inner.new_keys.0, inner.own_keys);
            new_keys = new_keys_more st.begun m ms f.0 inner.new_keys.1;
          }

    module _ (st : State) (keys : Keys) (named : keys (key x) ≡ Some (record { pointee = q; len = len x; value = w.plain x })) (within : w.suits fit keys x) (known : AreKeyedBy keys st.met) where
      found_there : (v : Visit) → visit_of_key st.met (key x) ≡ Some v → (v.pointee ≡ q) × (v.len ≡ len x) × (erased v.value ≡ w.plain x)
      found_there v e =
          let met = met_is_keyed st.met (key x) v keys e known in
          let a : SharedValue = record { pointee = v.pointee; len = v.len; value = erased v.value } in
          let b : SharedValue = record { pointee = q; len = len x; value = w.plain x } in
          let same : a ≡ b = cc in
          (ap (λ (m : SharedValue). m.pointee) same, ap (λ (m : SharedValue). m.len) same, ap (λ (m : SharedValue). m.value) same)

      shared_canonical : (o : Option Visit) → visit_of_key st.met (key x) ≡ o
          → (pos : ℕ) (names : Names) (bytes : List ℕ) (level : ℕ) (inside : List OpenShared)
          → knows names
          → IsConsistent st
          → AllFrom (st.pos + length (shared_piece q len key w x st o)) inside
          → shared_fits q len key w x st o
          → w.own_fits x (shared_resolver q len key w x st o) pos
          → HasBytes bytes st.pos (shared_piece q len key w x st o)
          → HasBytes bytes pos (w.own x (shared_resolver q len key w x st o) pos)
          → CanonicalPart fit names bytes level inside (visits_of st.met) (visits_of (shared_met q len key w x st o)) (at pos (shared cyclic q)) (shared_value q len key w x st o) st.pos (st.pos + length (shared_piece q len key w x st o))
      unfolding Ascends
      shared_canonical (Some v) found_it pos names bytes level inside k state over f near p own =
          let e = shared_is names bytes pos v.pos near own in
          let fits = found_there v found_it in
          let low = visit_before st.met (key x) st.pos v found_it state.before in
          record {
            regions = [];
            reads = record {
              holds = holds_later e (none_open inside v.pos (st.pos + 0) (omega arith) over) (met_is_visited st.met (key x) v found_it state.descending ∙ ap Some (known_visit v q (len x) fits.0 fits.1)) refl refl refl;
              canonical = shared_clean names bytes pos v.pos e;
              ends = sym (add-zero st.pos);
            };
            ascends = tt;
            gaps = no_gap bytes [] st.pos;
          }
      shared_canonical None new pos names bytes level inside k state over f near p own =
          let then = with_begun (key x) st in
          let t = first_at q len key w x st in
          let piece = w.piece x then in
          let end = st.pos + length piece in
          let pad = zeros (shared_padding t end) in
          let e = shared_is names bytes pos t near own in
          let begins = there.begins then f.1 in
          let up = there.ends then f.1 in
          let total : st.pos + length (piece ++ pad) ≡ end_of_shared t end = let a = length-append piece pad in let b = padded_end t end in omega arith in
          let after = start_before_end t end up in
          let further = end_grows t end in
          let over_high : AllFrom (end_of_shared t end) inside = subst (λ n. AllFrom n inside) total over in
          let visiting : OpenShared = record { pos = t; pointee = q; len = len x } in
          let h = there.canonical then names keys bytes level (visiting ∷ inside) k within known (begun_consistent st state new)
          (le_refl t, from_earlier inside t (end_of_shared t end) (omega arith) over_high) f.1 (stands_left bytes st.pos piece pad p) in
          let pad_stands = stands_right bytes st.pos piece pad end refl p in
          first_part (visits_of st.met) (visits_of (w.met x then)) (at pos (shared cyclic q)) cyclic t q (len x) (w.value x then) st.pos end (st.pos + length (piece ++ pad))
          e (shared_clean names bytes pos t e) (none_open inside t (end_of_shared t end) after over_high) (none_visited st.met t st.pos begins state.before) h
          total (omega arith) (λ i a b. zero_stands bytes end (shared_padding t end) i pad_stands a
          (let z = length-append piece pad in let pad_long : length pad ≡ shared_padding t end = length-replicate _ _ in omega arith))

      shared_keyed : (o : Option Visit) → visit_of_key st.met (key x) ≡ o → shared_fits q len key w x st o
          → (erased (shared_value q len key w x st o) ≡ counted 0 (w.plain x)) × AreKeyedBy keys (shared_met q len key w x st o)
      shared_keyed (Some v) e f = (ap (counted 0) (found_there v e).2, known)
      shared_keyed None e f =
          let both = one.keyed keys (with_begun (key x) st) within known f.1 in
          (ap (counted 0) both.0, (named ∙ ap (λ (u : Value). let z : SharedValue = record { pointee = q; len = len x; value = u } in Some z) (sym both.0), both.1))

    shared_bytes : (st : State) (o : Option Visit) → shared_fits q len key w x st o → AreBytes (shared_piece q len key w x st o)
    shared_bytes st (Some v) f = bytes_none
    shared_bytes st None f =
        let then = with_begun (key x) st in
        bytes_append (w.piece x then) (zeros (shared_padding (first_at q len key w x st) (st.pos + length (w.piece x then)))) (one.piece_bytes then f.1) (bytes_zeros (shared_padding (first_at q len key w x st) (st.pos + length (w.piece x then))))

    shared_exact : (st : State) (o : Option Visit) (e : Error) → shared_fits q len key w x st o → shared_refused q len key w x st o e → ⊥
    shared_exact st (Some v) e f r = r
    shared_exact st None e f (inl r) = none_or_one (key x) st.begun f.0 r.0
    shared_exact st None e f (inr (inl r)) = one.piece_exact (with_begun (key x) st) e f.1 r.1
    shared_exact st None e f (inr (inr r)) = r.0 f.2

    -- the law of a pointer to a shared value is that of a pointer to the value
    pub shared_spells_at : SpellsAt fit (shared cyclic q) knows (shared_spelling q len key w) x
    shared_spells_at = record {
      sized = one.sized;
      canonical = λ st pos names keys bytes level inside k n known state over f o p own.
          shared_canonical st keys n.0 n.1 known (visit_of_key st.met (key x)) refl pos names bytes level inside k state over f o p own;
      consistent = λ st h f. shared_consistent st (visit_of_key st.met (key x)) refl h f;
      keyed = λ keys st n known f. shared_keyed st keys n.0 n.1 known (visit_of_key st.met (key x)) refl f;
      piece_bytes = λ st f. shared_bytes st (visit_of_key st.met (key x)) f;
      own_bytes = one.own_bytes;
      piece_exact = λ st e f r. shared_exact st (visit_of_key st.met (key x)) e f r;
      own_exact = one.own_exact;
      unshared = λ none. absurd (true≢false none);
    }

-- ---- values, elements and texts

module _ {A R : Type 0} (fit : Fit) (cyclic : Bool) (s : Shape) (knows : Names → Type 0) (w : Spelling A R) where
  pub shared_value_spells : (key : A → ℕ) → Spells fit s knows w → Spells fit (shared cyclic (sized s)) knows (shared_value_spelling s key w)
  shared_value_spells key h x =
      shared_spells_at fit cyclic (sized s) knows (λ y. 1) key (box_spelling s w) x (box_spells_at fit s knows w x (h x)) (value_behind fit s knows w x (h x))

  pub shared_slice_spells : (key : List A → ℕ) → Spells fit s knows w → Spells fit (shared cyclic (slice s)) knows (shared_slice_spelling s key w)
  shared_slice_spells key h xs =
      let each = each_spells fit s knows w h xs in
      shared_spells_at fit cyclic (slice s) knows length key (slice_spelling s w) xs (boxed_slice_spells_at fit s knows w xs each) (elements_behind fit s knows w xs each)

pub shared_text_spells : (fit : Fit) (cyclic : Bool) (knows : Names → Type 0) (key : List ℕ → ℕ) → Spells fit (shared cyclic str) knows (shared_text_spelling key)
shared_text_spells fit cyclic knows key t =
    shared_spells_at fit cyclic str knows length key boxed_text_spelling t (boxed_text_spells_at fit t knows) (text_behind fit knows t)
