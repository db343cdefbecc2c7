-- Texts are read as they are written, inline and out of line, and so are boxes of texts.
use Rattle.std.proofs.Common.{◌≡◌, ℕ, zero, suc, ◌+◌, ◌-◌, ◌≤◌, ◌<◌, ◌^◌, nat_lt, nat_le, Bool, true, false, List, [], ◌∷◌, ◌++◌, length, replicate, slice_index, refl, sym, ap, subst, ⊎_elim, true≢false, ◌∙◌, arith, Some, IsUtf8, inl, inr, add-zero, length-append}
use Rattle.std.proofs.lemmas.Bool.Decides.{nat_tests}
use Rattle.std.proofs.lemmas.Bool.{cases_lt, leb-true, leb-false}
use Rattle.std.proofs.lemmas.List.{length-replicate, get_or-replicate, get_or-append_right}
use Rattle.std.specs.Int.{w32, to_le_bytes, cast_unsigned}
use Rattle.archive_shape_layout.specs.Bytes.{window, word_at, target_from, align_up}
use Rattle.archive_shape_layout.specs.Shape.Shape.{text, box}
use Rattle.archive_shape_layout.specs.Shape.Pointee.{str}
use Rattle.archive_shape_layout.specs.Value.Value.{string}
use Rattle.archive_shape_layout.specs.Content.{Names, made, pointee_content, shape_content, content_of, IsInline, text_length}
use Rattle.archive_shape_layout.specs.Content.Part.{at, behind}
use Rattle.archive_shape_layout.specs.Content.Label.{written, same}
use Rattle.archive_shape_layout.specs.Content.Content.{plain, claimed}
use Rattle.archive_shape_layout.specs.Holds.{Visit, OpenShared, Region, Ascends}
use Rattle.archive_shape_layout.specs.Holds.Holds.{holds_plain, holds_claimed}
use Rattle.archive_shape_layout.specs.Holds.HoldAll.{holds_none}
use Rattle.archive_shape_layout.proofs.Texts.{StartsFilled, text_before, starts_inline}
use Rattle.archive_shape_layout.proofs.Utf8.{utf8_byte}
use Rattle.archive_shape_canonical.specs.Settled.{Fit}
use Rattle.archive_shape_canonical.proofs.Cleanness.{clean_by}
use Rattle.archive_shape_canonical.proofs.Small.{behind_all}
use Rattle.archive_shape.specs.Bytes.{HasBytes}
use Rattle.archive_shape.proofs.Pieces.{stands_left, stands_right, stands_word}
use Rattle.archive_shape.specs.Offsets.{difference, FitsOffset, offset_bytes}
use Rattle.archive_forms_laws.specs.Text.{own_bytes}
use Rattle.archive_forms_laws.proofs.TextContent.{inline_is, far_is}
use Rattle.archive_shape_layout.specs.declared.error.Error.{Error}
use Rattle.archive_forms_laws.specs.State.{State, visits_of}
use Rattle.archive_forms_laws.specs.Spells.{CanonicalPart, SpellsAt, Spells}
use Rattle.archive_shape_canonical.specs.Canonical.{AreBytes}
use Rattle.archive_forms_laws.specs.Texts.{is_short, length_word, inline_bytes, text_piece, text_resolver, text_own, text_piece_fits, text_piece_refused, text_own_fits, text_own_refused, text_spelling, boxed_text_spelling}
use Rattle.archive_forms_laws.proofs.States.{consistent_advanced}
use Rattle.archive_forms_laws.proofs.Gaps.{no_gap, bytes_none, bytes_append, bytes_same, bytes_word}
use Rattle.archive_forms_laws.proofs.Pointers.{offset_leads, word_small, one_part, unsized_leads, slice_own_exact}
use Rattle.archive_shape_layout.proofs.Windows.{word_within}

-- every position is aligned to 1
align_up_one : (n : ℕ) → n ≡ align_up n 1
unfolding align_up
align_up_one n = omega arith

-- the bytes of a text are claimed, and read as the text
pub str_canonical : (fit : Fit) (names : Names) (bytes : List ℕ) (level : ℕ) (inside : List OpenShared) (visits : List Visit) (t : List ℕ) (low : ℕ)
    → IsUtf8 t → HasBytes bytes low t → CanonicalPart fit names bytes level inside visits visits (behind low str (length t)) (string t) low (low + length t)
unfolding made pointee_content Ascends
str_canonical fit names bytes level inside visits t low u stands =
    let region : Region = record { start = low; size = length t; align = 1; level = level } in
    record {
      regions = region ∷ [];
      reads = record {
        holds = holds_claimed refl (subst IsUtf8 (sym stands) u) (holds_none refl refl refl) (ap (λ bs. Some (string bs)) stands) refl;
        canonical = (
          clean_by names bytes (behind low str (length t)) (claimed _ (written _) []) refl (λ i o. inl o) tt,
          tt,
          tt,
          align_up_one low,
        );
        ends = refl;
      };
      ascends = (record { after = omega arith; aligned = omega arith; inside = omega arith }, tt);
      gaps = λ i a b. inl (inl (a, b));
    }

-- ---- inline

-- fillers begin with ff, where there are any
fillers_start : (n : ℕ) → StartsFilled (replicate n 255)
fillers_start zero = tt
fillers_start (suc n) = refl

-- a first byte that is none of those from 128 to 191 begins a text inline
begins_by : (n : ℕ) → (128 ≤ n → n < 192 → ⊥) → IsInline n
begins_by n h =
    ⊎_elim (λ l. let low : nat_lt n 128 ≡ true = grind (arith, nat_tests) in rw low refl)
    (λ g. ⊎_elim (λ l. absurd (h g l)) (λ k. let low : nat_lt n 128 ≡ false = grind (arith, nat_tests) in let high : nat_le 192 n ≡ true = grind (arith, nat_tests) in rw (low, high) refl) (cases_lt n 192))
    (cases_lt n 128)

-- the own bytes of a short text are read as a text inline
inline_content : (names : Names) (bytes : List ℕ) (pos : ℕ) (t : List ℕ) → length t ≤ 8 → IsUtf8 t → HasBytes bytes pos (inline_bytes t)
    → content_of names bytes (at pos text) ≡ plain (written t) []
inline_content names bytes pos t short u stands =
    let rest : List ℕ = replicate (8 - length t) 255 in
    let eight : length (t ++ rest) ≡ 8 = let filled : length rest ≡ 8 - length t = length-replicate _ _ in omega (arith, length-append t rest) in
    let own : t ++ rest ≡ own_bytes bytes pos = sym stands ∙ ap (window bytes pos) eight in
    let begins = begins_by (slice_index (t ++ rest) 0) (starts_inline t rest u (fillers_start _) (omega arith)) in
    inline_is names bytes pos (t ++ rest) own begins ∙ ap (λ bs. plain (written bs) []) (text_before t rest u (fillers_start _))

-- ---- out of line

-- a first byte from 128 to 191 does not
not_inline : (n : ℕ) → 128 ≤ n → n < 192 → IsInline n → ⊥
not_inline n g l i =
    let low : nat_lt n 128 ≡ false = grind (arith, nat_tests) in
    let high : nat_le 192 n ≡ false = grind (arith, nat_tests) in
    true≢false (sym i ∙ rw (low, high) refl)

-- the length word says the length
length_said : (n : ℕ) → text_length (length_word n) ≡ n
unfolding text_length
length_said n = omega arith

-- so the own bytes of a text out of line do not say that it is inline
begins_far : (n : ℕ) (ys : List ℕ) → IsInline (slice_index (to_le_bytes w32 (length_word n) ++ ys) 0) → ⊥
begins_far n ys i = not_inline (slice_index (to_le_bytes w32 (length_word n) ++ ys) 0) (omega arith) (omega arith) i

-- and they lead to its bytes
far_content : (names : Names) (bytes : List ℕ) (pos to n : ℕ) → 8 < n → n < 2 ^ 30 → FitsOffset pos to → HasBytes bytes pos (to_le_bytes w32 (length_word n) ++ offset_bytes pos to)
    → content_of names bytes (at pos text) ≡ plain same (behind to str n ∷ [])
far_content names bytes pos to n long most near stands =
    let word = to_le_bytes w32 (length_word n) in
    let small : length_word n < 2 ^ 32 = omega arith in
    let len : word_at (window bytes pos 8) 0 ≡ length_word n =
    word_within bytes pos 8 0 (omega arith) ∙ ap (word_at bytes) (add-zero pos) ∙ stands_word bytes pos (length_word n) small (stands_left bytes pos word (offset_bytes pos to) stands) in
    let offset : word_at (window bytes pos 8) 4 ≡ cast_unsigned w32 (difference pos to) =
    word_within bytes pos 8 4 (omega arith)
    ∙ stands_word bytes (pos + 4) (cast_unsigned w32 (difference pos to)) (word_small (difference pos to) near) (stands_right bytes pos word (offset_bytes pos to) (pos + 4) refl stands) in
    far_is names bytes pos (own_bytes bytes pos) refl
    (λ i. begins_far n (offset_bytes pos to) (subst (λ bs. IsInline (slice_index bs 0)) stands i))
    n (sym (ap text_length len ∙ length_said n)) long to (ap (target_from pos) offset ∙ offset_leads pos to near)

-- ---- both

-- a short text has at most eight bytes, and one that is not has more
is_at_most_eight : (t : List ℕ) → is_short t ≡ true → length t ≤ 8
is_at_most_eight t e = leb-true (length t) 8 e

is_past_eight : (t : List ℕ) → is_short t ≡ false → 8 < length t
is_past_eight t e = leb-false (length t) 8 e

module _ (fit : Fit) (t : List ℕ) where
  -- a text has eight own bytes
  text_sized : (b : Bool) → is_short t ≡ b → (to pos : ℕ) → length (text_own b t to pos) ≡ 8
  text_sized true e to pos =
      let short = is_at_most_eight t e in
      let rest : List ℕ = replicate (8 - length t) 255 in
      let filled : length rest ≡ 8 - length t = length-replicate _ _ in
      omega (arith, length-append t rest)
  text_sized false e to pos = refl

  -- a text inline is filled up with ff
  inline_filled : length t ≤ 8 → (own : List ℕ) → own ≡ inline_bytes t → (i : ℕ) → length t ≤ i → i < 8 → slice_index own i ≡ 255
  inline_filled short own is i low high =
      let rest : List ℕ = replicate (8 - length t) 255 in
      ap (λ bs. slice_index bs i) is ∙ get_or-append_right t rest (length t) i 0 refl low ∙ get_or-replicate (8 - length t) (i - length t) 255 0 (omega arith)

  -- a text is read as it is written
  text_canonical : (b : Bool) → is_short t ≡ b
      → (st : State) (pos : ℕ) (names : Names) (bytes : List ℕ) (level : ℕ) (inside : List OpenShared)
      → IsUtf8 t
      → text_piece_fits b t st.pos
      → text_own_fits b t (text_resolver b st.pos) pos
      → HasBytes bytes st.pos (text_piece b t)
      → HasBytes bytes pos (text_own b t (text_resolver b st.pos) pos)
      → CanonicalPart fit names bytes level inside (visits_of st.met) (visits_of st.met) (at pos text) (string t) st.pos (st.pos + length (text_piece b t))
  unfolding made Ascends
  text_canonical true e st pos names bytes level inside u f o p q =
      let short = is_at_most_eight t e in
      let c = inline_content names bytes pos t short u q in
      let own : window bytes pos 8 ≡ inline_bytes t = ap (window bytes pos) (sym (text_sized true e 0 pos)) ∙ q in
      record {
        regions = [];
        reads = record {
          holds = holds_plain c u (holds_none refl refl refl) refl;
          canonical = (clean_by names bytes (at pos text) (plain (written t) []) c (λ i h. inl h) (inline_filled short (window bytes pos 8) own), tt, tt);
          ends = sym (add-zero st.pos);
        };
        ascends = tt;
        gaps = no_gap bytes [] st.pos;
      }
  text_canonical false e st pos names bytes level inside u f o p q =
      let c = far_content names bytes pos st.pos (length t) (is_past_eight t e) f.0 o.1 q in
      one_part (at pos text) (behind st.pos str (length t)) same _ _ st.pos _ c tt refl
      (clean_by names bytes (at pos text) (plain same _) c (λ i h. inl h) tt)
      tt
      (str_canonical fit names bytes level inside (visits_of st.met) t st.pos u p)

  -- texts are bytes, and so is what is written of them
  utf8_are_bytes : IsUtf8 t → AreBytes t
  utf8_are_bytes u i = ⊎_elim (λ l. let low = utf8_byte t u i l in omega arith) (λ g. behind_all t i g) (cases_lt i (length t))

  text_piece_bytes : (b : Bool) → IsUtf8 t → AreBytes (text_piece b t)
  text_piece_bytes true u = bytes_none
  text_piece_bytes false u = utf8_are_bytes u

  text_own_bytes : (b : Bool) (to pos : ℕ) → IsUtf8 t → AreBytes (text_own b t to pos)
  text_own_bytes true to pos u = bytes_append t (replicate (8 - length t) 255) (utf8_are_bytes u) (bytes_same (8 - length t) 255 (omega arith))
  text_own_bytes false to pos u = bytes_append (to_le_bytes w32 (length_word (length t))) (offset_bytes pos to) (bytes_word (length_word (length t))) (bytes_word (cast_unsigned w32 (difference pos to)))

  -- what exceeds no limit is not refused
  text_piece_exact : (b : Bool) (from : ℕ) (e : Error) → text_piece_fits b t from → text_piece_refused b t from e → ⊥
  text_piece_exact true from e f r = r
  text_piece_exact false from e f (inl r) = let h = r.0 in let g = f.0 in omega arith
  text_piece_exact false from e f (inr r) = let h = r.0 in let g = f.1 in omega arith

  text_own_exact : (b : Bool) (to pos : ℕ) (e : Error) → text_own_fits b t to pos → text_own_refused b t to pos e → ⊥
  text_own_exact true to pos e f r = r
  text_own_exact false to pos e f (inl r) = let h = r.0 in let g = f.0 in omega arith
  text_own_exact false to pos e f (inr r) = r.0 f.1

  -- the law of texts
  pub text_spells_at : (knows : Names → Type 0) → SpellsAt fit text knows text_spelling t
  text_spells_at knows = record {
    sized = λ to pos f. text_sized (is_short t) refl to pos;
    canonical = λ st pos names keys bytes level inside k n known state over f o p q. text_canonical (is_short t) refl st pos names bytes level inside f.0 f.1 o.1 p q;
    consistent = λ st h f. consistent_advanced st (length (text_piece (is_short t) t)) h;
    keyed = λ keys st n known f. (refl, known);
    piece_bytes = λ st f. text_piece_bytes (is_short t) f.0;
    own_bytes = λ to pos f. text_own_bytes (is_short t) to pos f.0;
    piece_exact = λ st e f r. text_piece_exact (is_short t) st.pos e f.1 r;
    own_exact = λ to pos e f r. text_own_exact (is_short t) to pos e f.1 r;
    unshared = λ none keys. tt;
  }

  -- ---- boxes of texts

  -- the own bytes of a pointer to a text lead to it
  boxed_text_content : (names : Names) (bytes : List ℕ) (from to n : ℕ) → FitsOffset from to → n < 2 ^ 32
      → HasBytes bytes from (offset_bytes from to ++ to_le_bytes w32 n)
      → content_of names bytes (at from (box str)) ≡ plain same (behind to str n ∷ [])
  unfolding shape_content
  boxed_text_content names bytes from to n = unsized_leads bytes from to n (λ a m. plain same (behind a str m ∷ []))

  -- the law of a pointer to a text
  pub boxed_text_spells_at : (knows : Names → Type 0) → SpellsAt fit (box str) knows boxed_text_spelling t
  unfolding made
  boxed_text_spells_at knows = record {
    sized = λ to pos f. refl;
    canonical = λ st pos names keys bytes level inside k n known state over f o p q.
        let c = boxed_text_content names bytes pos st.pos (length t) o.0 o.1 q in
        one_part (at pos (box str)) (behind st.pos str (length t)) same _ _ st.pos _ c tt refl
        (clean_by names bytes (at pos (box str)) (plain same _) c (λ i h. inl h) tt)
        tt
        (str_canonical fit names bytes level inside (visits_of st.met) t st.pos f.0 p);
    consistent = λ st h f. consistent_advanced st (length t) h;
    keyed = λ keys st n known f. (refl, known);
    piece_bytes = λ st f. utf8_are_bytes f.0;
    own_bytes = λ to pos f. bytes_append (offset_bytes pos to) (to_le_bytes w32 (length t)) (bytes_word (cast_unsigned w32 (difference pos to))) (bytes_word (length t));
    piece_exact = λ st e f r. let h = r.0 in let g = f.1 in omega arith;
    own_exact = λ to pos e f r. slice_own_exact (length t) pos to e f.1 f.0 r;
    unshared = λ none keys. tt;
  }

-- so of all texts
pub text_spells : (fit : Fit) (knows : Names → Type 0) → Spells fit text knows text_spelling
text_spells fit knows t = text_spells_at fit t knows

pub boxed_text_spells : (fit : Fit) (knows : Names → Type 0) → Spells fit (box str) knows boxed_text_spelling
boxed_text_spells fit knows t = boxed_text_spells_at fit t knows
