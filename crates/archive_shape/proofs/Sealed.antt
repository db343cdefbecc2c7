-- A leaf written over another in a root.
use Rattle.std.proofs.Common.{◌≡◌, ℕ, ◌+◌, ◌≤◌, ◌<◌, ◌==◌, ◌||◌, Bool, true, false, nat_lt, nat_le, List, [], ◌∷◌, ◌++◌, drop, length, slice_index, refl, ap, sym, subst, ◌∙◌, arith, le_refl, length-append, IsUtf8}
use Rattle.std.proofs.lemmas.Bool.Decides.{nat_tests}
use Rattle.std.proofs.lemmas.List.{length-take, drop_at}
use Rattle.std.specs.Int.{from_le_bytes}
use Rattle.archive_shape_layout.specs.Bytes.{window, word_at}
use Rattle.archive_shape_layout.specs.Shape.{Shape, size_of}
use Rattle.archive_shape_layout.specs.Shape.Shape.{number, nonzero, truth, character, text, tuple, array, option, result, choice, box, vector, shared, weak, tree, table, index_map, named}
use Rattle.archive_shape_layout.specs.Value.{Value, Values}
use Rattle.archive_shape_layout.specs.Value.Value.{string}
use Rattle.archive_shape_layout.specs.Content.{Names, Part, Content, shape_content, text_content, choose, made, IsInline, before_ff, is_scalar}
use Rattle.archive_shape_layout.specs.Content.Part.{at}
use Rattle.archive_shape_layout.specs.Content.Content.{plain, illegal}
use Rattle.archive_shape_layout.specs.Content.Label.{leaf, written}
use Rattle.archive_shape_layout.specs.Holds.{Region, Visit, OpenShared, Holds, HasRoot}
use Rattle.archive_shape_layout.specs.Edit.{Spares}
use Rattle.archive_shape_layout.specs.Path.{put_at, Stands, StandsIn}
use Rattle.archive_shape_layout.specs.Path.Stands.{stands_here, stands_plain, stands_claimed}
use Rattle.archive_shape_layout.specs.Path.StandsIn.{stands_first, stands_later}
use Rattle.archive_shape_layout.proofs.Edits.{edit_of_leaf_law, edit_of_text_law}
use Rattle.archive_shape_layout.proofs.Texts.{text_before, StartsFilled, split_at_filler, starts_inline}
use Rattle.archive_shape_layout.specs.Numbers.{IsLeafShape}
use Rattle.archive_shape_layout.proofs.NumberReading.{refused}
use Rattle.archive_shape.specs.Bytes.{overwrite}
use Rattle.archive_shape.specs.Sealing.{StandsInRoot, SealedLeaf, SealedText}
use Rattle.archive_shape.specs.Sealing.TextStands.{stands_inline, stands_out_of_line}
use Rattle.archive_shape.proofs.Spared.{spares_within}
use Rattle.archive_shape.proofs.Written.{overwrite_spares_law, window_from}

-- the part at a path has its value
module _ (names : Names) (bytes : List ℕ) (q : Part) (w : Value) where
  pub record IsHeld : Type 0 where
    pub level : ℕ
    pub inside : List OpenShared
    pub regions : List Region
    pub before : List Visit
    pub after : List Visit
    pub holds : Holds names bytes level inside q w regions before after

  mutual
    pub held : {level : ℕ} {inside : List OpenShared} {before after : List Visit} {p : Part} {v : Value} {regions : List Region} {path : List ℕ}
        → Holds names bytes level inside p v regions before after → Stands names bytes q w level inside before p v path → IsHeld
    held {level = level} {inside = inside} {before = before} {after = after} {v = v} {regions = regions} h (stands_here ep ev er) = record {
      level = level;
      inside = inside;
      regions = regions;
      before = before;
      after = after;
      holds = subst (λ x. Holds names bytes level inside q x regions before after) ev (subst (λ x. Holds names bytes level inside x v regions before after) ep h);
    }
    held h (stands_plain e within is_made through) = held_in within
    held h (stands_claimed e within is_made through) = held_in within

    pub held_in : {level : ℕ} {inside : List OpenShared} {before : List Visit} {ps : List Part} {vs : Values} {i : ℕ} {path : List ℕ}
        → StandsIn names bytes q w level inside before ps vs i path → IsHeld
    held_in (stands_first stands holds rest is zero_is) = held holds stands
    held_in (stands_later holds stands is suc_is) = held_in stands

-- ---- the own bytes of a leaf that holds

legal_first : (c : Content) (b : Bool) (v : Value) → c ≡ choose b (plain (leaf v) []) illegal → (c ≡ illegal → ⊥) → c ≡ plain (leaf v) []
unfolding choose
legal_first c true v e legal = e
legal_first c false v e legal = absurd (legal e)

legal_second : (c : Content) (b : Bool) (v : Value) → c ≡ choose b illegal (plain (leaf v) []) → (c ≡ illegal → ⊥) → c ≡ plain (leaf v) []
unfolding choose
legal_second c true v e legal = absurd (legal e)
legal_second c false v e legal = e

record IsPlainLeaf (c : Content) : Type 0 where
  pub value : Value
  pub is : c ≡ plain (leaf value) []

legal_content : (names : Names) (pos : ℕ) (own : List ℕ) (s : Shape) → IsLeafShape s → (shape_content names pos own s ≡ illegal → ⊥) → IsPlainLeaf (shape_content names pos own s)
unfolding shape_content
legal_content names pos own (number w signed) l legal = record { value = _; is = refl }
legal_content names pos own (nonzero w signed) l legal = record { value = _; is = legal_second _ (from_le_bytes w own == 0) _ refl legal }
legal_content names pos own truth l legal = record { value = _; is = legal_first _ (nat_lt (slice_index own 0) 2) _ refl legal }
legal_content names pos own character l legal = record { value = _; is = legal_first _ (is_scalar (word_at own 0)) _ refl legal }
legal_content names pos own text l legal = elim l [ ]
legal_content names pos own (tuple _) l legal = elim l [ ]
legal_content names pos own (array _ _) l legal = elim l [ ]
legal_content names pos own (option _) l legal = elim l [ ]
legal_content names pos own (result _ _) l legal = elim l [ ]
legal_content names pos own (choice _) l legal = elim l [ ]
legal_content names pos own (box _) l legal = elim l [ ]
legal_content names pos own (vector _) l legal = elim l [ ]
legal_content names pos own (shared _ _) l legal = elim l [ ]
legal_content names pos own (weak _ _) l legal = elim l [ ]
legal_content names pos own (tree _ _ _) l legal = elim l [ ]
legal_content names pos own (table _) l legal = elim l [ ]
legal_content names pos own (index_map _ _) l legal = elim l [ ]
legal_content names pos own (named _ _ _) l legal = elim l [ ]

pub sealed_leaf_law : SealedLeaf
unfolding made
sealed_leaf_law names bytes own pos s v regions visits path leaf_pos leaf_shape old new root l stands size fits reads =
    let h = held names bytes (at leaf_pos leaf_shape) old root.holds stands in
    let was = legal_content names leaf_pos (window bytes leaf_pos (size_of leaf_shape)) leaf_shape l (λ e. refused e h.holds) in
    let written = overwrite_spares_law bytes leaf_pos own fits in
    let others : List ℕ = overwrite bytes leaf_pos own in
    let own_is : window others leaf_pos (size_of leaf_shape) ≡ own = ap (window others leaf_pos) (sym size) ∙ written.stands in
    edit_of_leaf_law names bytes others pos s v regions visits path leaf_pos leaf_shape old new (leaf was.value) (leaf new) root stands
    (subst (Spares bytes others leaf_pos) size written.spares)
    was.is
    (ap (λ x. shape_content names leaf_pos x leaf_shape) own_is ∙ reads names leaf_pos)
    tt
    refl

-- ---- texts

inline_content : (names : Names) (pos : ℕ) (own : List ℕ) → IsInline (slice_index own 0) → shape_content names pos own text ≡ plain (written (before_ff own)) []
unfolding shape_content text_content choose
inline_content names pos own inline = rw inline refl

not_false : (b : Bool) → (b ≡ false → ⊥) → b ≡ true
not_false true h = refl
not_false false h = absurd (h refl)

-- a first byte that is not the second one of a char
inline_byte : (b : ℕ) → (128 ≤ b → b < 192 → ⊥) → IsInline b
inline_byte b h = not_false (nat_lt b 128 || nat_le 192 b) (λ e. h (grind (arith, nat_tests)) (grind (arith, nat_tests)))

pub inline_after : (t rest : List ℕ) → IsUtf8 t → StartsFilled rest → IsInline (slice_index (t ++ rest) 0)
inline_after [] [] u filled = refl
inline_after [] (b ∷ bs) u filled = inline_byte b (starts_inline [] (b ∷ bs) u filled (omega arith))
inline_after (b ∷ bs) rest u filled = inline_byte b (starts_inline (b ∷ bs) rest u filled (omega arith))

sealed_inline :
    (names : Names) (bytes t : List ℕ) (pos : ℕ) (s : Shape) (v : Value) (regions : List Region) (visits : List Visit)
    (path : List ℕ) (start : ℕ) (old : Value)
    → HasRoot names bytes pos s v regions visits
    → StandsInRoot names bytes pos s v path (at start text) old
    → IsInline (slice_index (window bytes start 8) 0)
    → length t ≡ length (before_ff (window bytes start 8))
    → start + length t ≤ length bytes
    → IsUtf8 t
    → HasRoot names (overwrite bytes start t) pos s (put_at path (string t) v) regions visits
unfolding made
sealed_inline names bytes t pos s v regions visits path start old root stands inline size fits utf8 =
    let own : List ℕ = window bytes start 8 in
    let split = split_at_filler own in
    let others : List ℕ = overwrite bytes start t in
    let short : length t ≤ 8 = omega (arith, size, ap length split.whole, length-append (before_ff own) split.rest, length-take 8 (drop start bytes)) in
    let rest_is : drop (length t) own ≡ split.rest =
    ap (λ n. drop n own) size ∙ ap (drop (length (before_ff own))) split.whole ∙ drop_at (before_ff own) split.rest (length (before_ff own)) refl in
    let own_is : window others start 8 ≡ t ++ split.rest = window_from bytes start t 8 short fits ∙ ap (λ x. t ++ x) rest_is in
    let sealed = overwrite_spares_law bytes start t fits in
    edit_of_leaf_law names bytes others pos s v regions visits path start text old (string t) (written (before_ff own)) (written t) root stands
    (spares_within bytes others start (length t) start 8 (le_refl start) (omega (arith, short)) sealed.spares)
    (inline_content names start own inline)
    (inline_content names start (window others start 8) (subst (λ x. IsInline (slice_index x 0)) (sym own_is) (inline_after t split.rest utf8 split.filled)) ∙ ap (λ x. plain (written x) []) (ap before_ff own_is ∙ text_before t split.rest utf8 split.filled))
    utf8
    refl

pub sealed_text_law : SealedText
sealed_text_law names bytes t pos s v regions visits path start root (stands_inline {old = old} stands inline size) fits utf8 =
    sealed_inline names bytes t pos s v regions visits path start old root stands inline size fits utf8
sealed_text_law names bytes t pos s v regions visits path start root (stands_out_of_line {old = old} stands) fits utf8 =
    let written = overwrite_spares_law bytes start t fits in
    let others : List ℕ = overwrite bytes start t in
    subst (λ u. HasRoot names others pos s (put_at path (string u) v) regions visits) written.stands
    (edit_of_text_law names bytes others pos s v regions visits path start (length t) old root stands written.spares (subst IsUtf8 (sym written.stands) utf8))
