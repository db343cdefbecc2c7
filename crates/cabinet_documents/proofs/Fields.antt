-- The fields that the values without nodes in them store, against the limits of how they are written.
use Rattle.std.proofs.Common.{◌≡◌, ℕ, suc, ℤ, pos, negsuc, ◌+◌, ◌-◌, ◌<◌, ◌≤◌, ◌^◌, ◌==◌, cond, Bool, true, false, List, [], ◌∷◌, ◌++◌, map, length, replicate, Option, Some, None, refl, sym, ap, ap₂, subst, ◌∙◌, arith, ◌⊎◌, inl, inr, ⊎_elim, length-append, add-zero}
use Rattle.std.specs.Prelude.{⊤, FitsSigned}
use Rattle.std.specs.Int.{w32}
use Rattle.std.proofs.lemmas.Bool.{cases_lt, leb-true}
use Rattle.std.proofs.lemmas.Bool.Decides.{eqb_tells, nat_tests}
use Rattle.std.proofs.lemmas.Int.{ints}
use Rattle.std.proofs.lemmas.List.{length-replicate}
use Rattle.archive_shape_layout.specs.Bytes.{align_up}
use Rattle.archive_shape_layout.specs.Shape.{Pointee}
use Rattle.archive_shape_layout.specs.Shape.Pointee.{str}
use Rattle.archive_shape_layout.specs.Value.{Value}
use Rattle.archive_shape_layout.specs.Value.Value.{string}
use Rattle.archive_shape_layout.specs.Holds.{Visit}
use Rattle.archive_shape_layout.specs.declared.error.Error.{Error}
use Rattle.archive_shape_layout.specs.declared.error.Error.TheVariants.{PositionTooLarge}
use Rattle.archive_shape_canonical.specs.Sharing.{end_of_shared}
use Rattle.archive_shape_canonical.specs.Plan.{Plan, flat, parts, leads, leads_to_text, Target, Plans}
use Rattle.archive_shape_canonical.specs.Limits.{Field, offset, position, count, text_length, IsSomePast, Shared, moved, IsUnmet, IsMetAt, Lies, lies_flat, lies_parts, lies_leads, lies_text, lies_first, lies_later, LieAll, lie_none, lie_more}
use Rattle.archive_shape_canonical.specs.Limits as limits
use Rattle.archive_shape.specs.Offsets.{difference, FitsOffset}
use Rattle.archive_shape.specs.Bytes.{zeros}
use Rattle.archive_forms_laws.specs.State.{State, Met, visit_of_key, IsNoneOf, IsOneOf}
use Rattle.archive_forms_laws.specs.Spelling.{Spelling}
use Rattle.archive_forms_laws.specs.Texts.{is_short, text_piece, text_own, text_resolver, text_piece_refused, text_own_refused, boxed_text_spelling}
use Rattle.archive_forms_laws.specs.Shared.{shared_padding, first_visit, shared_piece, shared_resolver, shared_met, shared_refused}
use Rattle.archive_forms_writing.specs.Owned.{str_spelling}
use Rattle.cabinet_documents.specs.SharedKeys.{key_of_text}
use Rattle.cabinet_documents.specs.Spelling.{shared_string_spelling}
use Rattle.cabinet_documents.proofs.Values.{shared_string}
use Rattle.cabinet_documents.proofs.SharedMet.{Sharing, Begun, Spares, no_text_begun, shared_at, Alike as MetAlike, met_unmet, not_met, met_there, one_met}
use Rattle.cabinet_documents.proofs.Plans.{TextPlan, is_inline, is_far, text_plan, one_plan}

-- the state of a plan where the next byte is that of a state of writing
abbrev pub laid : State → List Shared → limits.State
laid s seen = record { pos = s.pos; met = seen }

-- a state at the position of a state of writing is one
pub reached : (b : limits.State) (s : State) → b.pos ≡ s.pos → b ≡ laid s b.met
reached b s e = ap (λ n. let z : limits.State = record { pos = n; met = b.met } in z) e

-- ---- fields

pub past_left : (xs ys : List Field) (e : Error) → IsSomePast xs e → IsSomePast (xs ++ ys) e
past_left [] ys e h = absurd h
past_left (x ∷ xs) ys e (inl h) = inl h
past_left (x ∷ xs) ys e (inr h) = inr (past_left xs ys e h)

pub past_right : (xs ys : List Field) (e : Error) → IsSomePast ys e → IsSomePast (xs ++ ys) e
past_right [] ys e h = h
past_right (x ∷ xs) ys e h = inr (past_right xs ys e h)

pub past_either : (xs ys : List Field) (e : Error) → IsSomePast (xs ++ ys) e → IsSomePast xs e ⊎ IsSomePast ys e
past_either [] ys e h = inr h
past_either (x ∷ xs) ys e (inl h) = inl (inl h)
past_either (x ∷ xs) ys e (inr h) = ⊎_elim (λ r. inl (inr r)) (λ r. inr r) (past_either xs ys e h)

-- an offset that does not fit leads too far, and one that leads too far does not fit
fits_or_far : (from to : ℕ) (z : ℤ) → z ≡ difference from to → FitsSigned w32 z ⊎ ((from + 2 ^ 31 ≤ to) ⊎ (to + 2 ^ 31 < from))
fits_or_far from to (pos n) e =
    let to_is : from + n ≡ to = omega (arith, ints) in
    ⊎_elim (λ h. inl (record { sfits = omega (arith, h) })) (λ h. inr (inl (omega (arith, h)))) (cases_lt n (2 ^ 31))
fits_or_far from to (negsuc n) e =
    let from_is : suc n + to ≡ from = omega (arith, ints) in
    ⊎_elim (λ h. inl (record { sfits = omega (arith, h) })) (λ h. inr (inr (omega (arith, h)))) (cases_lt n (2 ^ 31))

far_refuses : (from to : ℕ) (z : ℤ) → z ≡ difference from to → (from + 2 ^ 31 ≤ to) ⊎ (to + 2 ^ 31 < from) → FitsSigned w32 z → ⊥
far_refuses from to (pos n) e (inl far) f = let h = f.sfits in let to_is : from + n ≡ to = omega (arith, ints) in omega (arith, far)
far_refuses from to (pos n) e (inr far) f = let to_is : from + n ≡ to = omega (arith, ints) in omega (arith, far)
far_refuses from to (negsuc n) e (inl far) f = let from_is : suc n + to ≡ from = omega (arith, ints) in omega (arith, far)
far_refuses from to (negsuc n) e (inr far) f = let h = f.sfits in let from_is : suc n + to ≡ from = omega (arith, ints) in omega (arith, far)

pub offset_past : (from to : ℕ) → (FitsOffset from to → ⊥) → (from + 2 ^ 31 ≤ to) ⊎ (to + 2 ^ 31 < from)
offset_past from to none = ⊎_elim (λ f. absurd (none f)) (λ far. far) (fits_or_far from to (difference from to) refl)

pub past_offset : (from to : ℕ) → (from + 2 ^ 31 ≤ to) ⊎ (to + 2 ^ 31 < from) → FitsOffset from to → ⊥
past_offset from to far = far_refuses from to (difference from to) refl far

-- ---- what plans lay out

pub flat_lies : (own : ℕ) (st b : limits.State) (fs : List Field) → Lies flat own st fs b → (fs ≡ []) × (b ≡ st)
flat_lies own st b fs lies_flat = (refl, refl)

pub parts_lies : (ps : Plans) (own : ℕ) (st b : limits.State) (fs : List Field) → Lies (parts ps) own st fs b → LieAll ps own st fs b
parts_lies ps own st b fs (lies_parts h) = h

-- of one part at an offset
pub part_lies : (at own : ℕ) (p : Plan) (st b : limits.State) (fs : List Field) → Lies (one_plan at p) own st fs b
    → (here : List Field) × Lies p (own + at) st here b × (fs ≡ here ++ [])
part_lies at own p st b fs (lies_parts (lie_more {here = here} h lie_none all)) = (here, h, all)

pub record LedTo (numbers : List ℕ) (t : Target) (p : Plan) (own : ℕ) (st b : limits.State) (all : List Field) : Type 0 where
  pub start : ℕ
  pub inner : limits.State
  pub within : List Field
  pub lies : Lies p start st within inner
  pub begins : start ≡ align_up inner.pos t.align
  pub ends : b ≡ moved (start + t.size) inner
  pub fields : all ≡ within ++ position start ∷ (offset own (start + t.lead) ∷ map count numbers)

pub leads_lies : (numbers : List ℕ) (t : Target) (p : Plan) (own : ℕ) (st b : limits.State) (all : List Field) → Lies (leads numbers t p) own st all b → LedTo numbers t p own st b all
leads_lies numbers t p own st b all (lies_leads {start = start} {inner = inner} {fs = fs} h begins ends fields) = record {
  start = start;
  inner = inner;
  within = fs;
  lies = h;
  begins = begins;
  ends = ends;
  fields = fields;
}

text_lies : (n own : ℕ) (st b : limits.State) (all : List Field) → Lies (leads_to_text n) own st all b
    → (b ≡ moved (st.pos + n) st) × (all ≡ position st.pos ∷ (offset own st.pos ∷ (text_length n ∷ [])))
text_lies n own st b all (lies_text ends fields) = (ends, fields)

-- ---- what fields say of limits

-- the next byte is past the last position of a region
abbrev pub IsFar : ℕ → Error → Type 0
IsFar n e = (2 ^ 32 ≤ n) × (e ≡ PositionTooLarge)

-- ---- texts

-- a text has eight own bytes
pub text_length_of : (t : List ℕ) (to at : ℕ) → length (text_own (is_short t) t to at) ≡ 8
text_length_of t to at = by_kind (is_short t) refl
  where
    by_kind : (b : Bool) → is_short t ≡ b → length (text_own b t to at) ≡ 8
    by_kind true is =
        let short : length t ≤ 8 = leb-true (length t) 8 is in
        let rest : List ℕ = replicate (8 - length t) 255 in
        let filled : length rest ≡ 8 - length t = length-replicate _ _ in
        omega (arith, length-append t rest)
    by_kind false is = refl

short_is : (t : List ℕ) → length t ≤ 8 → is_short t ≡ true
short_is t h = grind (arith, nat_tests)

long_is : (t : List ℕ) → 8 < length t → is_short t ≡ false
long_is t h = grind (arith, nat_tests)

abbrev text_fields : ℕ → ℕ → ℕ → List Field
text_fields own start n = position start ∷ (offset own start ∷ (text_length n ∷ []))

module _ (t : List ℕ) (s : State) (own : ℕ) (e : Error) where
  text_piece_past : text_piece_refused false t s.pos e → IsSomePast (text_fields own s.pos (length t)) e
  text_piece_past (inl long) = inr (inr (inl long))
  text_piece_past (inr high) = inl high

  text_own_past : text_own_refused false t s.pos own e → IsSomePast (text_fields own s.pos (length t)) e
  text_own_past (inl long) = inr (inr (inl long))
  text_own_past (inr far) = inr (inl (offset_past own s.pos far.0, far.1))

  text_past : IsSomePast (text_fields own s.pos (length t)) e → text_piece_refused false t s.pos e ⊎ text_own_refused false t s.pos own e
  text_past (inl high) = inl (inr high)
  text_past (inr (inl far)) = inr (inr (past_offset own s.pos far.0, far.1))
  text_past (inr (inr (inl long))) = inl (inl long)
  text_past (inr (inr (inr none))) = absurd none

-- ---- shared texts

-- every position is aligned to 1
unaligned : (n : ℕ) → align_up n 1 ≡ n
unfolding align_up
unaligned n = omega arith

padded_end : (start n : ℕ) (t : List ℕ) → n ≡ length t → end_of_shared start (start + n) ≡ start + length (t ++ zeros (shared_padding start (start + length t)))
padded_end start n t counted =
    ap (λ k. end_of_shared start (start + k)) counted ∙ tested ((start + length t) == start)
  where
    tested : (b : Bool) → cond b (start + length t + 1) (start + length t) ≡ start + length (t ++ zeros (cond b 1 0))
    tested true = omega (arith, length-append t (zeros 1))
    tested false = omega (arith, length-append t (zeros 0))

abbrev after_first : List ℕ → ℕ → List Shared → limits.State
after_first t start seen = record { pos = end_of_shared start (start + length t); met = shared_at (shared_string t) start ∷ seen }

abbrev first_fields : ℕ → ℕ → ℕ → List Field
first_fields own start n = position start ∷ (offset own start ∷ (count n ∷ []))

abbrev later_fields : ℕ → ℕ → ℕ → List Field
later_fields own to n = offset own to ∷ (count n ∷ [])

module _ (t : List ℕ) (own to : ℕ) (e : Error) where
  later_past : boxed_text_spelling.own_refused t to own e → IsSomePast (later_fields own to (length t)) e
  later_past (inl far) = inl (offset_past own to far.0, far.1)
  later_past (inr long) = inr (inl long)

  past_later : IsSomePast (later_fields own to (length t)) e → boxed_text_spelling.own_refused t to own e
  past_later (inl far) = inl (past_offset own to far.0, far.1)
  past_later (inr (inl long)) = inr long
  past_later (inr (inr none)) = absurd none

pub one_and_none : (k : ℕ) (ks : List ℕ) → IsOneOf k ks → IsNoneOf k ks → ⊥
one_and_none k [] one none = one
one_and_none k (x ∷ ks) (inl is) none = none.0 is
one_and_none k (x ∷ ks) (inr later) none = one_and_none k ks later none.1

module _ (g : Sharing) where
  -- what is met is what was written
  abbrev pub Alike : List Shared → List Met → Type 0
  Alike = MetAlike g.keys

  -- a value that was laid out stores a field past a limit where writing it is refused, unless it ends too far, and writing
  -- it is refused where it stores one
  pub record Reads {A R : Type 0} (w : Spelling A R) (x : A) (s : State) (own : ℕ) (fs : List Field) (b : limits.State) : Type 0 where
    pub alike : Alike b.met (w.met x s)
    pub spares : Spares g s.met (w.met x s)
    pub there : b.pos ≡ s.pos + length (w.piece x s)
    pub piece_past : (e : Error) → w.piece_refused x s e → IsSomePast fs e ⊎ IsFar b.pos e
    pub own_past : (e : Error) → w.own_refused x (w.resolver x s) own e → IsSomePast fs e
    pub refused : (e : Error) → IsSomePast fs e → w.piece_refused x s e ⊎ w.own_refused x (w.resolver x s) own e

  -- a value without data
  pub no_fields :
      {A R : Type 0} (w : Spelling A R) (x : A) (s : State) (seen : List Shared) (own : ℕ) (fs : List Field) (b : limits.State)
      → Alike seen s.met → w.met x s ≡ s.met → w.piece x s ≡ []
      → ((e : Error) → w.piece_refused x s e → ⊥) → ((e : Error) → w.own_refused x (w.resolver x s) own e → ⊥)
      → (fs ≡ []) × (b ≡ laid s seen) → Reads w x s own fs b
  no_fields w x s seen own fs b alike met piece no_data no_own ends = record {
    alike = subst (Alike b.met) (sym met) (subst (λ (z : limits.State). Alike z.met s.met) (sym ends.1) alike);
    spares = λ k o e. ap (λ m. visit_of_key m k) met ∙ e;
    there = ap (λ (z : limits.State). z.pos) ends.1 ∙ sym (add-zero s.pos) ∙ ap (λ l. s.pos + length l) (sym piece);
    piece_past = λ e r. absurd (no_data e r);
    own_past = λ e r. absurd (no_own e r);
    refused = λ e h. absurd (subst (λ l. IsSomePast l e) ends.0 h);
  }

  pub text_reads : (t : List ℕ) (s : State) (seen : List Shared) (own : ℕ) (p : Plan) (fs : List Field) (b : limits.State)
      → TextPlan t p → Alike seen s.met → Lies p own (laid s seen) fs b → Reads str_spelling t s own fs b
  text_reads t s seen own p fs b (is_inline short p_is) alike h =
      let is = short_is t short in
      no_fields str_spelling t s seen own fs b alike refl (ap (λ x. text_piece x t) is)
      (λ e r. subst (λ x. text_piece_refused x t s.pos e) is r)
      (λ e r. subst (λ x. text_own_refused x t (text_resolver x s.pos) own e) is r)
      (flat_lies own (laid s seen) b fs (subst (λ x. Lies x own (laid s seen) fs b) p_is h))
  text_reads t s seen own p fs b (is_far long p_is) alike h =
      let is = long_is t long in
      let ends = text_lies (length t) own (laid s seen) b fs (subst (λ x. Lies x own (laid s seen) fs b) p_is h) in
      let fields = ends.1 in
      record {
        alike = subst (λ (z : limits.State). Alike z.met s.met) (sym ends.0) alike;
        spares = λ k o e. e;
        there = ap (λ (z : limits.State). z.pos) ends.0 ∙ ap (λ x. s.pos + length (text_piece x t)) (sym is);
        piece_past = λ e r. inl (subst (λ l. IsSomePast l e) (sym fields) (text_piece_past t s own e (subst (λ x. text_piece_refused x t s.pos e) is r)));
        own_past = λ e r. subst (λ l. IsSomePast l e) (sym fields) (text_own_past t s own e (subst (λ x. text_own_refused x t (text_resolver x s.pos) own e) is r));
        refused = λ e r. subst (λ x. text_piece_refused x t s.pos e ⊎ text_own_refused x t (text_resolver x s.pos) own e) (sym is) (text_past t s own e (subst (λ l. IsSomePast l e) fields r));
      }

  module _ (t : List ℕ) (s : State) (begun : Begun g s.begun) (new : visit_of_key s.met (key_of_text t) ≡ None) (e : Error) where
    abbrev FirstRefused : Type 0
    FirstRefused = shared_refused str length key_of_text boxed_text_spelling t s None e

    first_refused : FirstRefused → (2 ^ 32 ≤ s.pos) × (e ≡ PositionTooLarge)
    first_refused (inl cyclic) = absurd (one_and_none (key_of_text t) s.begun cyclic.0 (no_text_begun g s.begun begun t))
    first_refused (inr (inl high)) = high.1
    first_refused (inr (inr finished)) = absurd (finished.0 new)

    refused_first : (2 ^ 32 ≤ s.pos) × (e ≡ PositionTooLarge) → FirstRefused
    refused_first high = inr (inl (no_text_begun g s.begun begun t, high))

  module _ (t : List ℕ) (s : State) (seen : List Shared) (alike : Alike seen s.met) (begun : Begun g s.begun) (own : ℕ) where
    abbrev SharedReads : List Field → limits.State → Type 0
    SharedReads fs b = Reads shared_string_spelling t s own fs b

    -- what is written of a text, by what was visited under its number
    abbrev pieces_by : Option Visit → List ℕ
    pieces_by o = shared_piece str length key_of_text boxed_text_spelling t s o

    first_reads : (fs : List Field) (b : limits.State) → visit_of_key s.met (key_of_text t) ≡ None → IsUnmet str (string t) seen
        → b ≡ after_first t s.pos seen → fs ≡ first_fields own s.pos (length t) → SharedReads fs b
    first_reads fs b new unmet ends fields =
        let w = boxed_text_spelling in
        let here : Alike (shared_at (shared_string t) s.pos ∷ seen) (shared_met str length key_of_text w t s None) = (record { value = shared_string t; stands = g.texts t; is = refl }, unmet, alike) in
        record {
          alike = subst (λ o. Alike b.met (shared_met str length key_of_text w t s o)) (sym new)
              (subst (λ (z : limits.State). Alike z.met (shared_met str length key_of_text w t s None)) (sym ends) here);
          spares = λ k o e. subst (λ x. visit_of_key (shared_met str length key_of_text w t s x) k ≡ None) (sym new) (
              elim (eqb_tells (key_of_text t) k) [
                | inl is ↦ absurd (g.no_text k o t (sym is.1))
                | inr apart ↦ ap (λ b. cond b (Some (first_visit str length key_of_text w t s)) (visit_of_key s.met k)) apart.0 ∙ e
              ]);
          there = ap (λ (z : limits.State). z.pos) ends ∙ padded_end s.pos (length t) t refl ∙ ap (λ o. s.pos + length (pieces_by o)) (sym new);
          piece_past = λ e r. inl (subst (λ l. IsSomePast l e) (sym fields)
              (inl (first_refused t s begun new e (subst (λ o. shared_refused str length key_of_text w t s o e) new r))));
          own_past = λ e r. subst (λ l. IsSomePast l e) (sym fields)
              (inr (later_past t own s.pos e (subst (λ o. w.own_refused t (shared_resolver str length key_of_text w t s o) own e) new r)));
          refused = λ e r.
              subst (λ o. shared_refused str length key_of_text w t s o e ⊎ w.own_refused t (shared_resolver str length key_of_text w t s o) own e) (sym new)
              (⊎_elim (λ high. inl (refused_first t s begun new e high)) (λ p. inr (past_later t own s.pos e p)) (subst (λ l. IsSomePast l e) fields r));
        }

    later_reads : (fs : List Field) (b : limits.State) (v : Visit) → visit_of_key s.met (key_of_text t) ≡ Some v
        → b ≡ laid s seen → fs ≡ later_fields own v.pos (length t) → SharedReads fs b
    later_reads fs b v met ends fields =
        let w = boxed_text_spelling in
        record {
          alike = subst (λ o. Alike b.met (shared_met str length key_of_text w t s o)) (sym met) (subst (λ (z : limits.State). Alike z.met s.met) (sym ends) alike);
          spares = λ k o e. subst (λ x. visit_of_key (shared_met str length key_of_text w t s x) k ≡ None) (sym met) e;
          there = ap (λ (z : limits.State). z.pos) ends ∙ sym (add-zero s.pos) ∙ ap (λ o. s.pos + length (pieces_by o)) (sym met);
          piece_past = λ e r. absurd (subst (λ o. shared_refused str length key_of_text w t s o e) met r);
          own_past = λ e r. subst (λ l. IsSomePast l e) (sym fields)
              (later_past t own v.pos e (subst (λ o. w.own_refused t (shared_resolver str length key_of_text w t s o) own e) met r));
          refused = λ e r.
              subst (λ o. shared_refused str length key_of_text w t s o e ⊎ w.own_refused t (shared_resolver str length key_of_text w t s o) own e) (sym met)
              (inr (past_later t own v.pos e (subst (λ l. IsSomePast l e) fields r)));
        }

    reads_by : (o : Option Visit) → visit_of_key s.met (key_of_text t) ≡ o → (fs : List Field) (b : limits.State) → Lies (text_plan t) own (laid s seen) fs b → SharedReads fs b
    reads_by None new fs b (lies_first {start = start} {inner = inner} {fs = within} unmet h begins ends fields) =
        let none = flat_lies start (laid s seen) inner within h in
        let at_end : start ≡ s.pos = begins ∙ unaligned inner.pos ∙ ap (λ (z : limits.State). z.pos) none.1 in
        first_reads fs b new unmet
        (ends ∙ ap₂ (λ (n : ℕ) (z : limits.State). after_first t n z.met) at_end none.1)
        (fields ∙ ap₂ (λ (l : List Field) (n : ℕ). l ++ position n ∷ (offset own (n + 0) ∷ (count (length t) ∷ []))) none.0 at_end ∙ ap (λ n. position s.pos ∷ (offset own n ∷ (count (length t) ∷ []))) (add-zero s.pos))
    reads_by None new fs b (lies_later n met fields) = absurd (met_unmet str (string t) n seen (not_met g.keys g.apart (key_of_text t) (shared_string t) (g.texts t) seen s.met alike new) met)
    reads_by (Some v) met fs b (lies_first unmet h begins ends fields) = absurd (met_unmet str (string t) v.pos seen unmet (met_there g.keys (key_of_text t) (shared_string t) (g.texts t) seen s.met v alike met))
    reads_by (Some v) met fs b (lies_later n there fields) =
        let same : n ≡ v.pos = one_met g.keys str (string t) n v.pos seen s.met alike there (met_there g.keys (key_of_text t) (shared_string t) (g.texts t) seen s.met v alike met) in
        later_reads fs b v met refl (fields ∙ ap (λ k. later_fields own k (length t)) (add-zero n ∙ same))

    pub shared_reads : (p : Plan) (fs : List Field) (b : limits.State) → p ≡ text_plan t → Lies p own (laid s seen) fs b → SharedReads fs b
    shared_reads p fs b p_is h = reads_by (visit_of_key s.met (key_of_text t)) refl fs b (subst (λ x. Lies x own (laid s seen) fs b) p_is h)

    -- and it lies
    lies_by : (o : Option Visit) → visit_of_key s.met (key_of_text t) ≡ o → (fs : List Field) × (b : limits.State) × Lies (text_plan t) own (laid s seen) fs b
    lies_by None new = (_, _, lies_first (not_met g.keys g.apart (key_of_text t) (shared_string t) (g.texts t) seen s.met alike new) (lies_flat {own = align_up s.pos 1}) refl refl refl)
    lies_by (Some v) met = (_, _, lies_later v.pos (met_there g.keys (key_of_text t) (shared_string t) (g.texts t) seen s.met v alike met) refl)

    pub shared_lies : (p : Plan) → p ≡ text_plan t → (fs : List Field) × (b : limits.State) × Lies p own (laid s seen) fs b
    shared_lies p p_is =
        subst (λ x. (fs : List Field) × (b : limits.State) × Lies x own (laid s seen) fs b) (sym p_is) (lies_by (visit_of_key s.met (key_of_text t)) refl)
