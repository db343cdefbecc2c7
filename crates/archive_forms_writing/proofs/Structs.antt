-- Fields that are written one after another: their data, and their own bytes.
use Rattle.std.proofs.Common.{◌≡◌, ℕ, ◌+◌, ◌-◌, ◌≤◌, ◌<◌, ◌^◌, min, List, [], ◌++◌, length, refl, sym, ap, ap₂, subst, ◌∙◌, arith, le_refl, inl, inr, Ok, Err, append_assoc, append-nil, length-append}
use Rattle.std.proofs.lemmas.List.{length-replicate}
use Rattle.archive_shape_layout.specs.Bytes.{align_up}
use Rattle.archive_shape_layout.specs.Shape.{Shape, size_of, align_of, fields_end}
use Rattle.archive_shape_layout.specs.Shape.Shape.{tuple}
use Rattle.archive_shape_layout.specs.Edit.{Spares}
use Rattle.archive_shape_layout.proofs.Framed.{le_align_up, le_fields_end}
use Rattle.archive_shape.specs.Bytes.{HasBytes, zeros, overwrite}
use Rattle.archive_shape.proofs.Spared.{spares_within, spares_both, spares_overwritten}
use Rattle.archive_shape.proofs.Written.{length-overwrite}
use Rattle.archive_shape_layout.specs.Writing.{WriterMembers}
use Rattle.archive_shape_layout.specs.declared.error.Error.{Error}
use Rattle.archive_shape_layout.proofs.Joined.{written_none}
use Rattle.archive_forms_laws.specs.State.{State, visit_of_key}
use Rattle.archive_forms_laws.specs.Spelling.{Spelling, state_after}
use Rattle.archive_forms_laws.specs.Fields.{FieldsSpelling, no_fields, more_fields, struct_spelling}
use Rattle.archive_forms_laws.specs.Serializing.{IsAt, of_data, CanResolve, Resolves, progress_by, is_begun}
use Rattle.archive_forms_laws.proofs.Fields.{struct_room}
use Rattle.archive_forms_writing.specs.Fields.{field_at, ResolvesField}
use Rattle.archive_forms_writing.proofs.Joining.{still_zero, piece_behind, zeros_behind, unfilled}
use Rattle.archive_forms_writing.proofs.Laying.{Wrote, Stops, wrote_both, stopped_after, stopped_first}

-- ---- one field

-- the offset of a field, by an offset that is at most `usize::MAX`
pub field_from : (s : Shape) (offset align from pos : ℕ) → align ≡ align_of s → from ≡ min (align_up offset align) (2 ^ 64 - 1) → pos + field_at s offset + size_of s < 2 ^ 64 → from ≡ field_at s offset
field_from s offset align from pos is cut fits =
    let e : align_up offset align ≡ field_at s offset = ap (align_up offset) is in
    omega arith

module _ {A R : Type 0} (w : Spelling A R) (s : Shape) (x : A) (r : R) (bytes now : List ℕ) (start pos offset from there at : ℕ) (is : from ≡ field_at s offset) (same : now ≡ bytes) (is_there : there ≡ start + from) (is_at : at ≡ pos + from) where
  -- what is required for its value
  pub field_can : CanResolve w s x r bytes (start + field_at s offset) (pos + field_at s offset) → CanResolve w s x r now there at
  field_can can =
      let P : List ℕ → Type 0 = λ l. CanResolve w s x r l there at in
      let F : ℕ → Type 0 = λ n. CanResolve w s x r bytes n at in
      let G : ℕ → Type 0 = λ n. CanResolve w s x r bytes (start + field_at s offset) n in
      subst P (sym same) (subst F (sym (is_there ∙ ap (λ n. start + n) is)) (subst G (sym (is_at ∙ ap (λ n. pos + n) is)) can))

  -- it was resolved, or refused
  pub field_wrote : (new final : List ℕ) (size : ℕ) → size ≡ size_of s → new ≡ final → Resolves w s x r at there now new (Ok tt) → ResolvesField w s x r pos start offset bytes final (Ok (from + size))
  field_wrote new final size sized ends h =
      let F : ℕ → Type 0 = λ n. w.own_fits x r n in
      let at_field : at ≡ pos + field_at s offset = is_at ∙ ap (λ n. pos + n) is in (
        ap₂ (λ m n. m + n) is sized,
        subst F at_field h.0,
        sym ends
            ∙ h.1
            ∙ ap (λ l. overwrite l there (w.own x r at)) same
            ∙ ap₂ (λ m n. overwrite bytes m (w.own x r n)) (is_there ∙ ap (λ n. start + n) is) at_field,
      )

  pub field_refused : (new final : List ℕ) (e : Error) → new ≡ final → Resolves w s x r at there now new (Err e) → ResolvesField w s x r pos start offset bytes final (Err e)
  field_refused new final e ends h =
      let F : ℕ → Type 0 = λ n. w.own_refused x r n e in
      let O : List ℕ → Type 0 = λ l. Spares l new there (size_of s) in
      let N : List ℕ → Type 0 = λ l. Spares bytes l there (size_of s) in
      let S : ℕ → Type 0 = λ n. Spares bytes final n (size_of s) in
      (subst F (is_at ∙ ap (λ n. pos + n) is) h.0, subst S (is_there ∙ ap (λ n. start + n) is) (subst N ends (subst O same h.1)))

-- ---- own bytes

module _ {A R : Type 0} (all : FieldsSpelling A R) (x : A) (r : R) (bytes : List ℕ) (start pos : ℕ) where
  -- the fields before others were written, which end at an offset
  pub record Placed {B Q : Type 0} (others : FieldsSpelling B Q) (y : B) (k : Q) (offset : ℕ) (now : List ℕ) : Type 0 where
    pub done : List ℕ
    pub long : length done ≡ offset
    pub is : now ≡ overwrite bytes start done
    pub whole : all.own x r pos 0 ≡ done ++ others.own y k pos offset
    pub ends : fields_end all.shapes 0 ≡ fields_end others.shapes offset
    pub made : (st : State) × (k ≡ others.resolver y st)
    pub fits : others.own_fits y k pos offset → all.own_fits x r pos 0
    pub refused : (e : Error) → others.own_refused y k pos offset e → all.own_refused x r pos 0 e

module _ {A R : Type 0} (all : FieldsSpelling A R) (x : A) (r : R) (bytes : List ℕ) (start pos : ℕ) (can : CanResolve (struct_spelling all) (tuple all.shapes) x r bytes start pos) where
  -- none was written
  pub placed_none : Placed all x r bytes start pos all x r 0 bytes
  placed_none = record { done = []; long = refl; is = sym (unfilled bytes start 0 refl); whole = refl; ends = refl; made = can.made; fits = λ f. f; refused = λ e f. f }

  module _ {B C Q P : Type 0} (s : Shape) (w : Spelling B Q) (others : FieldsSpelling C P) (y : B × C) (k : Q × P) (offset : ℕ) (now : List ℕ) (h : Placed all x r bytes start pos (more_fields s w others) y k offset now) where
    -- the next one ends within the struct
    within : field_at s offset + size_of s ≤ size_of (tuple all.shapes)
    within =
        let a = struct_room all.shapes in
        let b = le_fields_end others.shapes (field_at s offset + size_of s) in
        let e = h.ends in
        omega arith

    -- what is required for it
    pub placed_can : CanResolve w s y.0 k.0 now (start + field_at s offset) (pos + field_at s offset)
    placed_can =
        let a = le_align_up offset (align_of s) in
        let i = within in
        let n = h.long in
        let room = can.room in
        let stands = can.stands in
        let same : length now ≡ length bytes = ap length h.is ∙ length-overwrite bytes start h.done (omega arith) in
        let P : List ℕ → Type 0 = λ l. HasBytes l (start + field_at s offset) (zeros (size_of s)) in
        record {
          room = omega arith;
          stands = omega arith;
          blank = subst P (sym h.is) (still_zero bytes start (size_of (tuple all.shapes)) room can.blank h.done (field_at s offset) (size_of s) (omega arith) i);
          made = (h.made.0, ap (λ q. q.0) h.made.1);
        }

    -- it was written
    pub placed_next : (next : List ℕ) (end : ℕ) → length (w.own y.0 k.0 (pos + field_at s offset)) ≡ size_of s
        → (end ≡ field_at s offset + size_of s) × w.own_fits y.0 k.0 (pos + field_at s offset) × (next ≡ overwrite now (start + field_at s offset) (w.own y.0 k.0 (pos + field_at s offset)))
        → Placed all x r bytes start pos others y.1 k.1 end next
    placed_next next end sized done =
        let from = field_at s offset in
        let own = w.own y.0 k.0 (pos + from) in
        let rest = others.own y.1 k.1 pos (from + size_of s) in
        let a = le_align_up offset (align_of s) in
        let i = within in
        let n = h.long in
        let gap : length (zeros (from - offset)) ≡ from - offset = length-replicate _ _ in
        let E : ℕ → Type 0 = λ z. Placed all x r bytes start pos others y.1 k.1 z next in
        subst E (sym done.0) (record {
          done = h.done ++ (zeros (from - offset) ++ own);
          long = omega (arith, length-append h.done (zeros (from - offset) ++ own), length-append (zeros (from - offset)) own);
          is =
              done.2
              ∙ ap (λ l. overwrite l (start + from) own) h.is
              ∙ piece_behind bytes start (size_of (tuple all.shapes)) can.room can.blank h.done from own (omega arith) (omega arith)
              ∙ ap (λ z. overwrite bytes start (h.done ++ (zeros (from - z) ++ own))) n;
          whole =
              h.whole
              ∙ ap (λ l. h.done ++ l) (sym (append_assoc (zeros (from - offset)) own rest))
              ∙ sym (append_assoc h.done (zeros (from - offset) ++ own) rest);
          ends = h.ends;
          made = (state_after w y.0 h.made.0, ap (λ q. q.1) h.made.1);
          fits = λ f. h.fits (done.1, f);
          refused = λ e f. h.refused e (inr f);
        })

    -- it was refused
    pub placed_stopped : {next : List ℕ} (e : Error) → w.own_refused y.0 k.0 (pos + field_at s offset) e × Spares now next (start + field_at s offset) (size_of s)
        → Resolves (struct_spelling all) (tuple all.shapes) x r pos start bytes next (Err e)
    placed_stopped {next} e f =
        let size = size_of (tuple all.shapes) in
        let a = le_align_up offset (align_of s) in
        let i = within in
        let n = h.long in
        let before : Spares bytes now start size =
        subst (λ l. Spares bytes l start size) (sym h.is) (spares_overwritten bytes start h.done start size (le_refl start) (omega arith) can.room) in
        (h.refused e (inl f.0), spares_both bytes now next start size before (spares_within now next (start + field_at s offset) (size_of s) start size (omega arith) (omega arith) f.1))

  -- all were written
  pub placed_all : {B : Type 0} (y : B) (offset : ℕ) (now : List ℕ) → Placed all x r bytes start pos (no_fields {A = B}) y tt offset now → Resolves (struct_spelling all) (tuple all.shapes) x r pos start bytes now (Ok tt)
  placed_all y offset now h =
      let size = size_of (tuple all.shapes) in
      let own : all.own x r pos 0 ≡ h.done = h.whole ∙ append-nil h.done in
      let end : length h.done ≡ fields_end all.shapes 0 = h.long ∙ sym h.ends in
      let room = struct_room all.shapes in (
        h.fits tt,
        h.is
            ∙ zeros_behind bytes start size can.room can.blank h.done (omega arith)
            ∙ ap₂ (λ l n. overwrite bytes start (l ++ zeros (size - n))) (sym own) end,
      )

-- ---- data

module _ {A R W : Type 0} (m : WriterMembers W) (all : FieldsSpelling A R) (x : A) (old : W) (st : State) where
  -- the data of the fields before others was written; with a resolver of the others, theirs are one of all
  pub record Reached {B Q : Type 0} (others : FieldsSpelling B Q) (y : B) (with_rest : Q → R) (left : State) (now : W) : Type 0 where
    pub is_at : IsAt m.pos m.known now left
    pub done : List ℕ
    pub wrote : Wrote (of_data m) old now done
    pub whole : all.piece x st ≡ done ++ others.piece y left
    pub made : (k : Q) → k ≡ others.resolver y left → with_rest k ≡ all.resolver x st
    pub stands : left.pos ≡ st.pos + length done
    pub met : all.met x st ≡ others.met y left
    pub begun : left.begun ≡ st.begun
    pub fits : others.piece_fits y left → all.piece_fits x st
    pub refused : (e : Error) → others.piece_refused y left e → all.piece_refused x st e

  -- none was written
  pub reached_none : IsAt m.pos m.known old st → Reached all x (λ k. k) st old
  reached_none at = record { is_at = at; done = []; wrote = written_none old; whole = refl; made = λ k e. e; stands = omega arith; met = refl; begun = refl; fits = λ f. f; refused = λ e f. f }

  module _ {B C Q P : Type 0} (s : Shape) (w : Spelling B Q) (others : FieldsSpelling C P) (y : B × C) (with_rest : Q × P → R) (left : State) (now : W) (h : Reached (more_fields s w others) y with_rest left now) where
    -- that of the next one was written
    pub reached_next : (next : W) (q : Q) → Wrote (of_data m) now next (w.piece y.0 left) → q ≡ w.resolver y.0 left → w.piece_fits y.0 left → IsAt m.pos m.known next (state_after w y.0 left)
        → Reached others y.1 (λ k. with_rest (q, k)) (state_after w y.0 left) next
    reached_next next q wrote is fit at =
        let piece = w.piece y.0 left in
        let rest = others.piece y.1 (state_after w y.0 left) in
        let here = h.stands in
        record {
          is_at = at;
          done = h.done ++ piece;
          wrote = wrote_both (of_data m) (h.done ++ piece) refl h.wrote wrote;
          whole = h.whole ∙ sym (append_assoc h.done piece rest);
          made = λ k e. h.made (q, k) (ap₂ (λ u v. (u, v)) is e);
          stands = omega (arith, length-append h.done piece);
          met = h.met;
          begun = h.begun;
          fits = λ f. h.fits (fit, f);
          refused = λ e f. h.refused e (inr f);
        }

    -- a call stopped in it
    pub reached_stopped : (new : W) (e : Error) → Stops (of_data m) now new (w.piece y.0 left) (w.piece_refused y.0 left) e → Stops (of_data m) old new (all.piece x st) (all.piece_refused x st) e
    reached_stopped new e g =
        let piece = w.piece y.0 left in
        let rest = others.piece y.1 (state_after w y.0 left) in
        let refused : Error → Type 0 = w.piece_refused y.0 left in
        stopped_after (of_data m) (all.piece x st) refused (all.piece_refused x st) h.whole (λ f. h.refused e (inl f)) h.wrote
        (stopped_first (of_data m) rest (piece ++ rest) refused refused refl (λ f. f) g)

  -- that of all was written
  pub reached_all : {B : Type 0} (y : B) (with_rest : Unit {0} → R) (left : State) (now : W) → Reached (no_fields {A = B}) y with_rest left now
      → Wrote (of_data m) old now (all.piece x st) × ((with_rest tt ≡ all.resolver x st) × all.piece_fits x st × IsAt m.pos m.known now (state_after (struct_spelling all) x st))
  reached_all y with_rest left now h =
      let piece : all.piece x st ≡ h.done = h.whole ∙ append-nil h.done in
      let P : List ℕ → Type 0 = λ l. Wrote (of_data m) old now l in (
        subst P (sym piece) h.wrote,
        (
          h.made tt refl,
          h.fits tt,
          record {
            stands = h.is_at.stands ∙ h.stands ∙ ap (λ l. st.pos + length l) (sym piece);
            knows = λ key. h.is_at.knows key ∙ ap₂ (λ ms bs. progress_by (visit_of_key ms key) (is_begun bs key)) (sym h.met) h.begun;
          },
        ),
      )
