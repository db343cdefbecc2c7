-- The parts of a written value are written where the layout has them, and can be read there.
use Rattle.std.proofs.Common.{◌≡◌, ℕ, ◌+◌, ◌*◌, ◌≤◌, List, [], ◌∷◌, length, slice_get, Some, Ok, Err, max, refl, sym, ap, subst, ◌∙◌, arith, le_refl}
use Rattle.std.specs.Prelude.{⊤, Box, Vec}
use Rattle.std.specs.Global.{Global}
use Rattle.std.proofs.Math.Nat.{le-max_left, le-max_right}
use Rattle.archive_shape_layout.specs.Shape.{Shape, size_of, align_of}
use Rattle.archive_shape_layout.specs.Shape.Shape.{option, result}
use Rattle.archive_shape_layout.specs.Content.{Names}
use Rattle.archive_shape_layout.specs.Visited.{AllStand}
use Rattle.archive_shape_layout.proofs.Evaluated.{ascends_raised}
use Rattle.archive_shape_layout.proofs.Framed.{le_align_up}
use Rattle.archive_shape_layout.proofs.Visited.{part_stands}
use Rattle.archive_shape_canonical.specs.Settled.{Fit, free}
use Rattle.archive_shape.specs.Bytes.{HasBytes}
use Rattle.archive_shape.specs.Offsets.{FitsOffset, offset_bytes}
use Rattle.archive_shape.proofs.Pieces.{stands_left}
use Rattle.archive_forms_laws.specs.State.{State, Keys, visits_of}
use Rattle.archive_forms_laws.specs.Spelling.{Spelling, state_after}
use Rattle.archive_forms_laws.specs.Spells.{SpellsAt, Spells}
use Rattle.archive_forms_laws.specs.Fields.{FieldsSpelling, no_fields, more_fields, tuple2_spelling, tuple3_spelling, tuple4_spelling}
use Rattle.archive_forms_laws.specs.Regions.{pieces, region_at}
use Rattle.archive_forms_laws.specs.Options.{payload_at, option_spelling}
use Rattle.archive_forms_laws.specs.Payloads.{payload_spelling}
use Rattle.archive_forms_laws.specs.Results.{result_payload_at, ok_spelling, err_spelling, result_spelling}
use Rattle.archive_forms_laws.specs.WrittenAt.{IsWrittenAt, IsReadableAt}
use Rattle.archive_forms_laws.proofs.Payloads.{payload_stands}
use Rattle.archive_forms_laws.proofs.Pointers.{leads_to}
use Rattle.archive_forms_laws.proofs.Regions.{owns_pass, region_end, region_up}
use Rattle.archive_forms_laws.proofs.Views.{each_spells}
use Rattle.archive_forms_values.specs.Fields.{second_position, third_position, fourth_position}
use Rattle.archive_forms_values.specs.Parts.{PointsTo}
use Rattle.archive_forms_values.specs.Tuples.{tuple2, tuple3, tuple4}
use Rattle.archive_forms_writing.specs.Owned.{boxed_spelling, vec_spelling}
use Rattle.archive_forms_writing.specs.Readable.{PartIsHeld, SeenIsReadable, KeptIsReadable, Fields2AreWritten, Fields2AreReadable, Fields3AreWritten, Fields3AreReadable, Fields4AreWritten, Fields4AreReadable, ElementsAreWritten, ElementsAreReadable, SomeIsWritten, SomeIsReadable, OkIsWritten, OkIsReadable, ErrIsWritten, ErrIsReadable, BoxedIsWritten, BoxedIsReadable}
use Rattle.archive_forms_writing.proofs.Reached.{seen_law, kept_law, Reached, Carries, opened, first, next, head, each, owns_stand}

-- ---- values

-- a written value that can be read is held, and what was visited before the data that follows its data stands
module _ {A R : Type 0} (s : Shape) (knows : Names → Type 0) (w : Spelling A R) (fit : Fit) (x : A) (one : SpellsAt fit s knows w x) (names : Names) (known : knows names)
    (keys : Keys) (suits : w.suits fit keys x) (bytes : List ℕ) (pos : ℕ) where
  pub stand_after : (h : IsWrittenAt keys w bytes pos x) → AllStand names bytes h.state.pos (visits_of h.state.met) → AllStand names bytes (state_after w x h.state).pos (visits_of (w.met x h.state))
  stand_after h stand =
      let st = h.state in
      let part = one.canonical st pos names keys bytes 0 [] known suits h.keyed h.consistent tt h.piece_fits h.own_fits h.piece h.own in
      part_stands part.reads.holds (record { stand = stand; below = omega arith; ascends = part.ascends })

pub held_law : {A R : Type 0} (s : Shape) (knows : Names → Type 0) (w : Spelling A R) → ((fit : Fit) → Spells fit s knows w) → PartIsHeld s knows w
held_law s knows w spells x bytes pos fit names keys known suits readable =
    let h = readable.written in
    let st = h.state in
    let behind = readable.behind in
    let part = (spells fit x).canonical st pos names keys bytes 0 [] known suits h.keyed h.consistent tt h.piece_fits h.own_fits h.piece h.own in (
      record {
        names = names;
        known = known;
        level = 0;
        inside = [];
        regions = part.regions;
        before = visits_of st.met;
        after = visits_of (w.met x st);
        own_within = readable.within;
        low = st.pos;
        claimed = record { stand = readable.stand; below = omega (arith, behind); ascends = ascends_raised st.pos (state_after w x st).pos pos part.regions behind part.ascends };
        holds = part.reads.holds;
      },
      ((spells fit x).keyed keys st suits h.keyed h.piece_fits).0,
    )

-- what was visited before the data of a part stands
abbrev pub Standing : Names → List ℕ → State → Type 0
Standing names bytes st = AllStand names bytes st.pos (visits_of st.met)

-- a part of a value that can be read, which lies at its position or after it, can be read
pub readable : {A R : Type 0} (names : Names) (keys : Keys) (bytes : List ℕ) (pos at : ℕ) (s : Shape) (w : Spelling A R) (x : A) → pos ≤ at
    → Reached (Standing names bytes) keys bytes pos (length bytes) s w at x → IsReadableAt names keys s w bytes at x
readable names keys bytes pos at s w x up r = let behind = r.behind in record { written = r.written; stand = r.invariant; behind = omega (arith, up, behind); within = r.within }

-- ---- views

module _ {A R : Type 0} (s : Shape) (w : Spelling A R) where
  pub seen_readable_law : (B : Type 0) → SeenIsReadable s w B
  unfolding seen_law
  seen_readable_law B view x bytes pos names keys h = record { written = seen_law w B view x bytes pos keys h.written; stand = h.stand; behind = h.behind; within = h.within }

  pub kept_readable_law : (Q : Type 0) → KeptIsReadable s w Q
  unfolding kept_law
  kept_readable_law Q make get x bytes pos names keys back h = record { written = kept_law w Q make get x bytes pos keys back h.written; stand = h.stand; behind = h.behind; within = h.within }

-- ---- fields

module _ {A B R Q : Type 0} (s : Shape) (v : Spelling A R) (t : Shape) (w : Spelling B Q) (knows others : Names → Type 0)
    (a : (fit : Fit) → Spells fit s knows v) (b : (fit : Fit) → Spells fit t others w) where
  fields2 : (Invariant : State → Type 0) (keys : Keys) (bytes : List ℕ) (limit top : ℕ) (fit : Fit) (pos : ℕ) (x : A × B) → (tuple2_spelling s v t w).suits fit keys x
      → Carries Invariant keys bytes v x.0 × Carries Invariant keys bytes w x.1
      → (h : IsWrittenAt keys (tuple2_spelling s v t w) bytes pos x)
      → Invariant h.state → (state_after (tuple2_spelling s v t w) x h.state).pos ≤ limit → pos + size_of (tuple2 s t) ≤ top
      → Reached Invariant keys bytes limit top s v pos x.0 × Reached Invariant keys bytes limit top t w (second_position s t pos) x.1
  fields2 Invariant keys bytes limit top fit pos x suits carries h kept behind within =
      let ones : FieldsSpelling (B × Unit {0}) (Q × Unit {0}) = more_fields t w no_fields in
      let one = first Invariant keys bytes limit top fit pos s v ones knows x.0 (x.1, tt) (a fit x.0) carries.0 suits.0 (opened Invariant keys bytes limit top fit pos _ _ _ (λ r. refl) (more_fields s v ones) x h kept behind within) in
      let two = next Invariant keys bytes limit top fit pos t w (no_fields {A = Unit {0}}) others x.1 tt (b fit x.1) carries.1 suits.1.0 (size_of s) one.1 in
      (one.0, two.0)

  pub fields2_law : Fields2AreWritten s v t w
  fields2_law x bytes pos fit keys suits h =
      let r = fields2 (λ st. ⊤) keys bytes _ _ fit pos x suits (λ at h kept. tt, λ at h kept. tt) h tt (le_refl _) (le_refl _) in
      (r.0.written, r.1.written)

  pub fields2_readable_law : Fields2AreReadable s v t w knows others
  fields2_readable_law x bytes pos fit names keys known suits h =
      let r = fields2 (Standing names bytes) keys bytes pos (length bytes) fit pos x suits
      (stand_after s knows v fit x.0 (a fit x.0) names known.0 keys suits.0 bytes, stand_after t others w fit x.1 (b fit x.1) names known.1 keys suits.1.0 bytes)
      h.written h.stand h.behind h.within in (
        readable names keys bytes pos pos s v x.0 (le_refl pos) r.0,
        readable names keys bytes pos (second_position s t pos) t w x.1 (omega arith) r.1,
      )

module _ {A B C R Q P : Type 0} (s : Shape) (v : Spelling A R) (t : Shape) (w : Spelling B Q) (u : Shape) (z : Spelling C P) (knows others further : Names → Type 0)
    (a : (fit : Fit) → Spells fit s knows v) (b : (fit : Fit) → Spells fit t others w) (c : (fit : Fit) → Spells fit u further z) where
  fields3 : (Invariant : State → Type 0) (keys : Keys) (bytes : List ℕ) (limit top : ℕ) (fit : Fit) (pos : ℕ) (x : A × B × C) → (tuple3_spelling s v t w u z).suits fit keys x
      → Carries Invariant keys bytes v x.0 × Carries Invariant keys bytes w x.1 × Carries Invariant keys bytes z x.2
      → (h : IsWrittenAt keys (tuple3_spelling s v t w u z) bytes pos x)
      → Invariant h.state → (state_after (tuple3_spelling s v t w u z) x h.state).pos ≤ limit → pos + size_of (tuple3 s t u) ≤ top
      → Reached Invariant keys bytes limit top s v pos x.0 × Reached Invariant keys bytes limit top t w (second_position s t pos) x.1 × Reached Invariant keys bytes limit top u z (third_position s t u pos) x.2
  fields3 Invariant keys bytes limit top fit pos x suits carries h kept behind within =
      let ones : FieldsSpelling (C × Unit {0}) (P × Unit {0}) = more_fields u z no_fields in
      let twos : FieldsSpelling (B × (C × Unit {0})) (Q × (P × Unit {0})) = more_fields t w ones in
      let one = first Invariant keys bytes limit top fit pos s v twos knows x.0 (x.1, (x.2, tt)) (a fit x.0) carries.0 suits.0 (opened Invariant keys bytes limit top fit pos _ _ _ (λ r. refl) (more_fields s v twos) x h kept behind within) in
      let two = next Invariant keys bytes limit top fit pos t w ones others x.1 (x.2, tt) (b fit x.1) carries.1 suits.1.0 (size_of s) one.1 in
      let three = next Invariant keys bytes limit top fit pos u z (no_fields {A = Unit {0}}) further x.2 tt (c fit x.2) carries.2 suits.1.1.0 _ two.1 in
      (one.0, two.0, three.0)

  pub fields3_law : Fields3AreWritten s v t w u z
  fields3_law x bytes pos fit keys suits h =
      let r = fields3 (λ st. ⊤) keys bytes _ _ fit pos x suits (λ at h kept. tt, λ at h kept. tt, λ at h kept. tt) h tt (le_refl _) (le_refl _) in
      (r.0.written, r.1.written, r.2.written)

  pub fields3_readable_law : Fields3AreReadable s v t w u z knows others further
  fields3_readable_law x bytes pos fit names keys known suits h =
      let r = fields3 (Standing names bytes) keys bytes pos (length bytes) fit pos x suits
      (stand_after s knows v fit x.0 (a fit x.0) names known.0 keys suits.0 bytes, stand_after t others w fit x.1 (b fit x.1) names known.1 keys suits.1.0 bytes, stand_after u further z fit x.2 (c fit x.2) names known.2 keys suits.1.1.0 bytes)
      h.written h.stand h.behind h.within in (
        readable names keys bytes pos pos s v x.0 (le_refl pos) r.0,
        readable names keys bytes pos (second_position s t pos) t w x.1 (omega arith) r.1,
        readable names keys bytes pos (third_position s t u pos) u z x.2 (omega arith) r.2,
      )

module _ {A B C D R Q P O : Type 0} (s₁ : Shape) (w₁ : Spelling A R) (s₂ : Shape) (w₂ : Spelling B Q) (s₃ : Shape) (w₃ : Spelling C P) (s₄ : Shape) (w₄ : Spelling D O) (knows others further last : Names → Type 0)
    (a : (fit : Fit) → Spells fit s₁ knows w₁) (b : (fit : Fit) → Spells fit s₂ others w₂) (c : (fit : Fit) → Spells fit s₃ further w₃) (d : (fit : Fit) → Spells fit s₄ last w₄) where
  fields4 : (Invariant : State → Type 0) (keys : Keys) (bytes : List ℕ) (limit top : ℕ) (fit : Fit) (pos : ℕ) (x : A × B × C × D) → (tuple4_spelling s₁ w₁ s₂ w₂ s₃ w₃ s₄ w₄).suits fit keys x
      → Carries Invariant keys bytes w₁ x.0 × Carries Invariant keys bytes w₂ x.1 × Carries Invariant keys bytes w₃ x.2 × Carries Invariant keys bytes w₄ x.3
      → (h : IsWrittenAt keys (tuple4_spelling s₁ w₁ s₂ w₂ s₃ w₃ s₄ w₄) bytes pos x)
      → Invariant h.state → (state_after (tuple4_spelling s₁ w₁ s₂ w₂ s₃ w₃ s₄ w₄) x h.state).pos ≤ limit → pos + size_of (tuple4 s₁ s₂ s₃ s₄) ≤ top
      → Reached Invariant keys bytes limit top s₁ w₁ pos x.0 × Reached Invariant keys bytes limit top s₂ w₂ (second_position s₁ s₂ pos) x.1 × Reached Invariant keys bytes limit top s₃ w₃ (third_position s₁ s₂ s₃ pos) x.2 × Reached Invariant keys bytes limit top s₄ w₄ (fourth_position s₁ s₂ s₃ s₄ pos) x.3
  fields4 Invariant keys bytes limit top fit pos x suits carries h kept behind within =
      let ones : FieldsSpelling (D × Unit {0}) (O × Unit {0}) = more_fields s₄ w₄ no_fields in
      let twos : FieldsSpelling (C × (D × Unit {0})) (P × (O × Unit {0})) = more_fields s₃ w₃ ones in
      let threes : FieldsSpelling (B × (C × (D × Unit {0}))) (Q × (P × (O × Unit {0}))) = more_fields s₂ w₂ twos in
      let one = first Invariant keys bytes limit top fit pos s₁ w₁ threes knows x.0 (x.1, (x.2, (x.3, tt))) (a fit x.0) carries.0 suits.0 (opened Invariant keys bytes limit top fit pos _ _ _ (λ r. refl) (more_fields s₁ w₁ threes) x h kept behind within) in
      let two = next Invariant keys bytes limit top fit pos s₂ w₂ twos others x.1 (x.2, (x.3, tt)) (b fit x.1) carries.1 suits.1.0 (size_of s₁) one.1 in
      let three = next Invariant keys bytes limit top fit pos s₃ w₃ ones further x.2 (x.3, tt) (c fit x.2) carries.2 suits.1.1.0 _ two.1 in
      let four = next Invariant keys bytes limit top fit pos s₄ w₄ (no_fields {A = Unit {0}}) last x.3 tt (d fit x.3) carries.3 suits.1.1.1.0 _ three.1 in
      (one.0, two.0, three.0, four.0)

  pub fields4_law : Fields4AreWritten s₁ w₁ s₂ w₂ s₃ w₃ s₄ w₄
  fields4_law x bytes pos fit keys suits h =
      let r = fields4 (λ st. ⊤) keys bytes _ _ fit pos x suits (λ at h kept. tt, λ at h kept. tt, λ at h kept. tt, λ at h kept. tt) h tt (le_refl _) (le_refl _) in
      (r.0.written, r.1.written, r.2.written, r.3.written)

  pub fields4_readable_law : Fields4AreReadable s₁ w₁ s₂ w₂ s₃ w₃ s₄ w₄ knows others further last
  fields4_readable_law x bytes pos fit names keys known suits h =
      let r = fields4 (Standing names bytes) keys bytes pos (length bytes) fit pos x suits
      (stand_after s₁ knows w₁ fit x.0 (a fit x.0) names known.0 keys suits.0 bytes, stand_after s₂ others w₂ fit x.1 (b fit x.1) names known.1 keys suits.1.0 bytes, stand_after s₃ further w₃ fit x.2 (c fit x.2) names known.2 keys suits.1.1.0 bytes, stand_after s₄ last w₄ fit x.3 (d fit x.3) names known.3 keys suits.1.1.1.0 bytes)
      h.written h.stand h.behind h.within in (
        readable names keys bytes pos pos s₁ w₁ x.0 (le_refl pos) r.0,
        readable names keys bytes pos (second_position s₁ s₂ pos) s₂ w₂ x.1 (omega arith) r.1,
        readable names keys bytes pos (third_position s₁ s₂ s₃ pos) s₃ w₃ x.2 (omega arith) r.2,
        readable names keys bytes pos (fourth_position s₁ s₂ s₃ s₄ pos) s₄ w₄ x.3 (omega arith) r.3,
      )

-- ---- elements

module _ {A R : Type 0} (s : Shape) (knows : Names → Type 0) (w : Spelling A R) (spells : (fit : Fit) → Spells fit s knows w) where
  elements : (Invariant : State → Type 0) (keys : Keys) (bytes : List ℕ) (top : ℕ) (fit : Fit) (pos to : ℕ) (x : Vec A Global) → (vec_spelling s w).suits fit keys x
      → ((y : A) → w.suits fit keys y → Carries Invariant keys bytes w y)
      → (h : IsWrittenAt keys (vec_spelling s w) bytes pos x)
      → Invariant h.state → (state_after (vec_spelling s w) x h.state).pos ≤ top → PointsTo bytes pos to
      → (i : ℕ) (y : A) → slice_get x.items i ≡ Some y → Reached Invariant keys bytes to top s w (to + i * size_of s) y
  elements Invariant keys bytes top fit pos to x suits carries h kept within points =
      let xs = x.items in
      let st = h.state in
      let f = h.piece_fits in
      let t = region_at w s xs st in
      let all = each_spells fit s knows w (spells fit) xs in
      let end = region_end fit s knows w xs all st f in
      subst (λ n. (i : ℕ) (y : A) → slice_get xs i ≡ Some y → Reached Invariant keys bytes n top s w (n + i * size_of s) y) (leads_to bytes pos to t h.own_fits.0 (stands_left bytes pos (offset_bytes pos t) _ h.own) points)
      (each Invariant keys bytes t top fit s knows w xs all st t suits h.consistent h.keyed f.0 (owns_pass fit s knows w xs st t f.2)
      (stands_left bytes st.pos (pieces w xs st) _ h.piece) (owns_stand fit s knows w keys bytes xs st h.piece)
      carries kept (region_up fit s knows w xs st) (omega (arith, end, within)))

  pub elements_law : ElementsAreWritten s w
  elements_law x bytes pos to fit keys suits h points i y is =
      (elements (λ st. ⊤) keys bytes _ fit pos to x suits (λ y suits at h kept. tt) h tt (le_refl _) points i y is).written

  pub elements_readable_law : ElementsAreReadable s w knows
  elements_readable_law x bytes pos to fit names keys known suits h points i y is =
      let end = h.behind in
      let room = h.within in
      readable names keys bytes to (to + i * size_of s) s w y (omega arith)
      (elements (Standing names bytes) keys bytes (length bytes) fit pos to x suits (λ y suits. stand_after s knows w fit y (spells fit y) names known keys suits bytes)
      h.written h.stand (omega (arith, end, room)) points i y is)

-- ---- options, results and boxes

-- a value after a tag is written at its offset, and can be read there
unfoldable payload : {A R : Type 0} (tag offset size : ℕ) (w : Spelling A R) (x : A) (bytes : List ℕ) (pos : ℕ) (keys : Keys) → 1 ≤ offset
    → IsWrittenAt keys (payload_spelling tag offset size w) bytes pos x → IsWrittenAt keys w bytes (pos + offset) x
payload tag offset size w x bytes pos keys first h = record {
  state = h.state;
  consistent = h.consistent;
  keyed = h.keyed;
  piece_fits = h.piece_fits;
  own_fits = h.own_fits;
  piece = h.piece;
  own = payload_stands bytes pos tag offset size (w.own x (w.resolver x h.state) (pos + offset)) first h.own;
}

payload_readable : {A R : Type 0} (tag offset : ℕ) (form s : Shape) (w : Spelling A R) (x : A) (bytes : List ℕ) (pos : ℕ) (names : Names) (keys : Keys) → 1 ≤ offset → offset + size_of s ≤ size_of form
    → IsReadableAt names keys form (payload_spelling tag offset (size_of form) w) bytes pos x → IsReadableAt names keys s w bytes (pos + offset) x
unfolding payload
payload_readable tag offset form s w x bytes pos names keys first room h =
    let behind = h.behind in
    let within = h.within in
    record { written = payload tag offset (size_of form) w x bytes pos keys first h.written; stand = h.stand; behind = omega (arith, behind); within = omega (arith, within, room) }

module _ {A R : Type 0} (s : Shape) (w : Spelling A R) where
  -- an option that is some value is written as the value after the tag 1
  unfoldable tagged_some : (x : A) (bytes : List ℕ) (pos : ℕ) (keys : Keys) → IsWrittenAt keys (option_spelling s w) bytes pos (Some x)
      → IsWrittenAt keys (payload_spelling 1 (payload_at s) (size_of (option s)) w) bytes pos x
  tagged_some x bytes pos keys h = record { state = h.state; consistent = h.consistent; keyed = h.keyed; piece_fits = h.piece_fits; own_fits = h.own_fits; piece = h.piece; own = h.own }

  pub some_law : SomeIsWritten s w
  some_law x bytes pos keys h = payload 1 (payload_at s) (size_of (option s)) w x bytes pos keys (le_align_up 1 (align_of s)) (tagged_some x bytes pos keys h)

  pub some_readable_law : SomeIsReadable s w
  unfolding tagged_some
  some_readable_law x bytes pos names keys h =
      payload_readable 1 (payload_at s) (option s) s w x bytes pos names keys (le_align_up 1 (align_of s)) (le_align_up (payload_at s + size_of s) (align_of s))
      (record { written = tagged_some x bytes pos keys h.written; stand = h.stand; behind = h.behind; within = h.within })

module _ {A B R Q : Type 0} (s t : Shape) (v : Spelling A R) (w : Spelling B Q) where
  first_offset : 1 ≤ result_payload_at s t
  first_offset = le_align_up 1 (max (align_of s) (align_of t))

  -- so is a result that is a value, after the tag 0
  unfoldable tagged_ok : (x : A) (bytes : List ℕ) (pos : ℕ) (keys : Keys) → IsWrittenAt keys (result_spelling s t v w) bytes pos (Ok x)
      → IsWrittenAt keys (ok_spelling s t v w) bytes pos x
  tagged_ok x bytes pos keys h = record { state = h.state; consistent = h.consistent; keyed = h.keyed; piece_fits = h.piece_fits; own_fits = h.own_fits; piece = h.piece; own = h.own }

  pub ok_law : OkIsWritten s t v w
  ok_law x bytes pos keys h = payload 0 (result_payload_at s t) (size_of (result s t)) v x bytes pos keys first_offset (tagged_ok x bytes pos keys h)

  pub ok_readable_law : OkIsReadable s t v w
  unfolding tagged_ok
  ok_readable_law x bytes pos names keys h =
      let room = le_align_up (result_payload_at s t + max (size_of s) (size_of t)) (max (align_of s) (align_of t)) in
      let most = le-max_left (size_of s) (size_of t) in
      payload_readable 0 (result_payload_at s t) (result s t) s v x bytes pos names keys first_offset (omega (arith, room, most))
      (record { written = tagged_ok x bytes pos keys h.written; stand = h.stand; behind = h.behind; within = h.within })

  -- so is a result that is an error, after the tag 1
  unfoldable tagged_err : (e : B) (bytes : List ℕ) (pos : ℕ) (keys : Keys) → IsWrittenAt keys (result_spelling s t v w) bytes pos (Err e)
      → IsWrittenAt keys (err_spelling s t v w) bytes pos e
  tagged_err e bytes pos keys h = record { state = h.state; consistent = h.consistent; keyed = h.keyed; piece_fits = h.piece_fits; own_fits = h.own_fits; piece = h.piece; own = h.own }

  pub err_law : ErrIsWritten s t v w
  err_law e bytes pos keys h = payload 1 (result_payload_at s t) (size_of (result s t)) w e bytes pos keys first_offset (tagged_err e bytes pos keys h)

  pub err_readable_law : ErrIsReadable s t v w
  unfolding tagged_err
  err_readable_law e bytes pos names keys h =
      let room = le_align_up (result_payload_at s t + max (size_of s) (size_of t)) (max (align_of s) (align_of t)) in
      let most = le-max_right (size_of s) (size_of t) in
      payload_readable 1 (result_payload_at s t) (result s t) t w e bytes pos names keys first_offset (omega (arith, room, most))
      (record { written = tagged_err e bytes pos keys h.written; stand = h.stand; behind = h.behind; within = h.within })

module _ {A R : Type 0} (s : Shape) (knows : Names → Type 0) (w : Spelling A R) (spells : (fit : Fit) → Spells fit s knows w) where
  -- the value in a box is written where its region begins
  unfoldable in_box : (x : Box A Global) (bytes : List ℕ) (pos : ℕ) (keys : Keys) (h : IsWrittenAt keys (boxed_spelling s w) bytes pos x) → IsWrittenAt keys w bytes (region_at w s (x.value ∷ []) h.state) x.value
  unfolding head
  in_box x bytes pos keys h =
      let st = h.state in
      let t = region_at w s (x.value ∷ []) st in
      head free s knows w keys bytes x.value [] st t h.consistent h.keyed h.piece_fits.0 (owns_pass free s knows w (x.value ∷ []) st t h.piece_fits.2)
      (stands_left bytes st.pos (pieces w (x.value ∷ []) st) _ h.piece) (owns_stand free s knows w keys bytes (x.value ∷ []) st h.piece)

  pub boxed_law : BoxedIsWritten s w
  boxed_law x bytes pos to keys h points = subst (λ n. IsWrittenAt keys w bytes n x.value) (leads_to bytes pos to _ h.own_fits h.own points) (in_box x bytes pos keys h)

  pub boxed_readable_law : BoxedIsReadable s w
  unfolding in_box head
  boxed_readable_law x bytes pos to names keys h points =
      let st = h.written.state in
      let behind = h.behind in
      let within = h.within in
      let end = region_end free s knows w (x.value ∷ []) (spells free x.value, tt) st h.written.piece_fits in
      subst (λ n. IsReadableAt names keys s w bytes n x.value) (leads_to bytes pos to _ h.written.own_fits h.written.own points)
      (record { written = in_box x bytes pos keys h.written; stand = h.stand; behind = region_up free s knows w (x.value ∷ []) st; within = omega (arith, end, behind, within) })
