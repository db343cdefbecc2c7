-- The own bytes of a leaf, and what is at their place where another leaf is written over them.
use Rattle.std.proofs.Common.{◌≡◌, ℕ, ℤ, ◌+◌, ◌≤◌, ◌<◌, Bool, true, false, nat_lt, List, [], ◌∷◌, length, drop, slice_index, Option, Some, None, refl, sym, ap, subst, ◌∙◌, arith, length-append, ◌++◌, IsUtf8, ◌⊎◌, inl, inr, ⊎_elim, w64, FitsSigned, pos as positive, negsuc as negative, ◌^◌}
use Rattle.std.proofs.lemmas.Bool.{cases_lt}
use Rattle.std.proofs.lemmas.List.{length-take, drop_at}
use Rattle.std.proofs.lemmas.Int.{to_z-of_z}
use Rattle.std.proofs.lemmas.Nat.{from_le_bytes-to_le_bytes_8}
use Rattle.std.specs.Int.{from_le_bytes, to_le_bytes, cast_signed, cast_unsigned}
use Rattle.archive_shape_layout.specs.Bytes.{window, word_at, target_from}
use Rattle.archive_shape_layout.specs.Shape.{Shape, size_of}
use Rattle.archive_shape_layout.specs.Shape.Shape.{text as text_shape, truth as truth_shape, number as number_shape}
use Rattle.archive_shape_layout.specs.Shape.Pointee.{str}
use Rattle.archive_shape_layout.specs.Value.{Value}
use Rattle.archive_shape_layout.specs.Value.Value.{string, boolean, integer}
use Rattle.archive_shape_layout.specs.Content.{Names, Part, Label, content_of, choose, following, shape_content, text_content, text_length, begins_inline, before_ff, IsInline, number_value}
use Rattle.archive_shape_layout.specs.Content.Part.{at, behind}
use Rattle.archive_shape_layout.specs.Content.Label.{written, same, leaf as leaf_label}
use Rattle.archive_shape_layout.specs.Content.Content.{plain, illegal}
use Rattle.archive_shape_layout.specs.Holds.{Region, Visit, OpenShared, HasRoot, Holds}
use Rattle.archive_shape_layout.specs.Edit.{Spares, IsLeafIn}
use Rattle.archive_shape_layout.specs.Edit.IsLeafIn.{in_place, out_of_line}
use Rattle.archive_shape_layout.proofs.Texts.{text_before, split_at_filler}
use Rattle.archive_shape_layout.proofs.Utf8.{utf8_byte}
use Rattle.archive_shape_canonical.specs.Canonical.{AreBytes}
use Rattle.archive_shape_canonical.proofs.Small.{small_none, small_more, small_word, behind_all}
use Rattle.archive_shape_layout.proofs.Leaves.{leaf_within_law}
use Rattle.archive_shape.specs.Bytes.{overwrite}
use Rattle.archive_shape.specs.Sealing.{StandsInRoot}
use Rattle.archive_shape.proofs.Sealed.{held as held_at, inline_after}
use Rattle.archive_shape.proofs.Written.{overwrite_spares_law, window_from}
use Rattle.cabinet_text_grammar.specs.Tree.{Leaf, truth, number, text, IsLeaf}
use Rattle.cabinet_text_grammar.specs.Answering.{fits}
use Rattle.cabinet_documents.specs.Node.{node_names, node_shape, own_bytes, truth_byte}
use Rattle.cabinet_documents.specs.OwnBytes.{IsOwn, own_truth, own_number, own_inline, own_behind}
use Rattle.cabinet_documents.specs.Laws.{payload_of}
use Rattle.cabinet_documents.proofs.Places.{truth_here, part_of, parts_at, passes, truth_is, Leads, leads_nowhere, leads_plain, leads_claimed, led}
use Rattle.cabinet_documents.proofs.Nodes.{none_illegal}
use Rattle.cabinet_documents.proofs.Steps.{passing, truth_there, number_there, text_there, text_behind_there}

module _ (bytes : List ℕ) where
  -- what an inline text says
  pub record InlineSays (start : ℕ) (s : List ℕ) : Type 0 where
    pub is_inline : IsInline (slice_index (window bytes start 8) 0)
    pub is : s ≡ before_ff (window bytes start 8)

  pub inline_says : (start : ℕ) (s : List ℕ) → content_of node_names bytes (at start text_shape) ≡ plain (written s) [] → InlineSays start s
  unfolding shape_content text_content choose following
  inline_says start s e = by_case (begins_inline (slice_index own 0)) refl (nat_lt 8 len) (target_from start (word_at own 4)) e
    where
      own : List ℕ
      own = window bytes start 8

      len : ℕ
      len = text_length (word_at own 0)

      by_case : (b : Bool) → begins_inline (slice_index own 0) ≡ b → (long : Bool) (o : Option ℕ)
          → choose b (plain (written (before_ff own)) []) (choose long (following o (λ t. plain same (behind t str len ∷ []))) illegal) ≡ plain (written s) []
          → InlineSays start s
      by_case true i long o e = record { is_inline = i; is = cc }
      by_case false i true None e = absurd (cc)
      by_case false i true (Some t) e = absurd (cc)
      by_case false i false o e = absurd (cc)

  before_short : (own : List ℕ) → length (before_ff own) ≤ length own
  before_short own = let s = split_at_filler own in omega (arith, ap length s.whole, length-append (before_ff own) s.rest)

  -- own bytes lie in those of a leaf of the layout
  pub record InLeaf (part : Part) (start size : ℕ) : Type 0 where
    pub whole : ℕ
    pub short : size ≤ whole
    pub leaf : IsLeafIn node_names bytes part start whole

  pub record PlainAt (p : Part) : Type 0 where
    pub label : Label
    pub is : content_of node_names bytes p ≡ plain label []

  pub truth_plain : (pos : ℕ) {level : ℕ} {around : List OpenShared} {v : Value} {regions : List Region} {before after : List Visit}
      → Holds node_names bytes level around (part_of truth_here pos) v regions before after → PlainAt (part_of truth_here pos)
  truth_plain pos h = by_case (led bytes truth_here pos)
    where
      by_case : Leads bytes truth_here (content_of node_names bytes (part_of truth_here pos)) → PlainAt (part_of truth_here pos)
      by_case (leads_nowhere e) = absurd (none_illegal bytes e h)
      by_case (leads_plain {l = l} e (passes p f g)) = let n = passing p in absurd (cc)
      by_case (leads_plain {l = l} e (truth_is f g)) = record { label = l; is = e ∙ ap (λ x. plain l (parts_at x)) g }
      by_case (leads_claimed e f b) = absurd (cc)

  pub number_plain : (pos : ℕ) → content_of node_names bytes (at pos (number_shape w64 true)) ≡ plain (leaf_label (integer (cast_signed w64 (from_le_bytes w64 (window bytes pos 8))))) []
  unfolding shape_content number_value
  number_plain pos = refl

  pub in_leaf : {part : Part} {start size : ℕ} {level : ℕ} {around : List OpenShared} {v : Value} {regions : List Region} {before after : List Visit}
      → Holds node_names bytes level around part v regions before after → IsOwn bytes start size part → InLeaf part start size
  in_leaf {start = start} {level = level} {around = around} {v = v} {regions = regions} {before = before} {after = after} h (own_truth e f) =
      let c = truth_plain start (subst (λ x. Holds node_names bytes level around x v regions before after) e h) in
      record { whole = 1; short = omega (arith, f); leaf = in_place {l = c.label} e refl (ap (content_of node_names bytes) e ∙ c.is) }
  in_leaf {start = start} h (own_number e f) = record { whole = 8; short = omega (arith, f); leaf = in_place e refl (ap (content_of node_names bytes) e ∙ number_plain start) }
  in_leaf {start = start} h (own_inline {s = s} e c f) =
      let i = inline_says start s (ap (content_of node_names bytes) (sym e) ∙ c) in
      let b = before_short (window bytes start 8) in
      let n = ap length i.is in
      record { whole = 8; short = omega (arith, f, length-take 8 (drop start bytes)); leaf = in_place e refl c }
  in_leaf {size = size} h (own_behind e) = record { whole = size; short = omega arith; leaf = out_of_line e }

pub record NewTruth (new : Leaf) : Type 0 where
  pub b : Bool
  pub is : new ≡ truth b

pub truth_kind : (old new : Leaf) (b : Bool) → payload_of old ≡ boolean b → fits old new ≡ true → NewTruth new
truth_kind (truth a) (truth c) b e f = record { b = c; is = refl }
truth_kind (truth a) (number n) b e f = absurd (cc)
truth_kind (truth a) (text s) b e f = absurd (cc)
truth_kind (number m) new b e f = absurd (cc)
truth_kind (text s) new b e f = absurd (cc)

pub record NewNumber (new : Leaf) : Type 0 where
  pub n : ℤ
  pub is : new ≡ number n

pub number_kind : (old new : Leaf) (n : ℤ) → payload_of old ≡ integer n → fits old new ≡ true → NewNumber new
number_kind (number m) (number k) n e f = record { n = k; is = refl }
number_kind (number m) (truth c) n e f = absurd (cc)
number_kind (number m) (text s) n e f = absurd (cc)
number_kind (truth b) new n e f = absurd (cc)
number_kind (text s) new n e f = absurd (cc)

pub record NewText (new : Leaf) : Type 0 where
  pub s : List ℕ
  pub is : new ≡ text s

pub text_kind : (old new : Leaf) (s : List ℕ) → payload_of old ≡ string s → fits old new ≡ true → NewText new
text_kind (text t) (text u) s e f = record { s = u; is = refl }
text_kind (text t) (truth c) s e f = absurd (cc)
text_kind (text t) (number n) s e f = absurd (cc)
text_kind (truth b) new s e f = absurd (cc)
text_kind (number n) new s e f = absurd (cc)

pub truth_reads : (b : Bool) (names : Names) (pos : ℕ) → shape_content names pos (truth_byte b ∷ []) truth_shape ≡ plain (leaf_label (boolean b)) []
unfolding shape_content choose
truth_reads true names pos = refl
truth_reads false names pos = refl

unsigned_fits : (n : ℤ) → FitsSigned w64 n → cast_unsigned w64 n < 2 ^ 64
unsigned_fits (positive n) f = let h = f.sfits in omega arith
unsigned_fits (negative n) f = omega arith

pub number_reads : (n : ℤ) → FitsSigned w64 n → (names : Names) (pos : ℕ) → shape_content names pos (to_le_bytes w64 (cast_unsigned w64 n)) (number_shape w64 true) ≡ plain (leaf_label (integer n)) []
unfolding shape_content number_value
number_reads n f names pos =
    ap (λ x. plain (leaf_label (integer x)) []) (ap (cast_signed w64) (from_le_bytes-to_le_bytes_8 (cast_unsigned w64 n) (unsigned_fits n f)) ∙ to_z-of_z w64 n f)

-- ---- what is written are bytes

pub text_bytes : (t : List ℕ) → IsUtf8 t → AreBytes t
text_bytes t u i = ⊎_elim (λ l. let low = utf8_byte t u i l in omega arith) (λ g. behind_all t i g) (cases_lt i (length t))

truth_small : (b : Bool) → truth_byte b < 256
truth_small true = omega arith
truth_small false = omega arith

pub own_are_bytes : (l : Leaf) → IsLeaf l → AreBytes (own_bytes l)
own_are_bytes (truth b) h = (small_more (truth_small b) small_none).each
own_are_bytes (number n) h = (small_word w64 (cast_unsigned w64 n)).each
own_are_bytes (text t) h = text_bytes t h

-- ---- what is written, at its place

-- a shape whose values have bytes of their own, all of them
pub data IsFixed (s : Shape) : Type 0 where
  fixed_truth : s ≡ truth_shape → IsFixed s
  fixed_number : s ≡ number_shape w64 true → IsFixed s

module _ (bytes : List ℕ) where
  -- no other byte changes than those of a leaf in place, which then has this label
  pub record WrittenAt (s : Shape) (piece : List ℕ) (start : ℕ) (l : Label) : Type 0 where
    pub spares : Spares bytes (overwrite bytes start piece) start (size_of s)
    pub is : content_of node_names (overwrite bytes start piece) (at start s) ≡ plain l []

  pub leaf_written : (s : Shape) (piece : List ℕ) (start : ℕ) (new : Value) → length piece ≡ size_of s → start + length piece ≤ length bytes
      → ((names : Names) (p : ℕ) → shape_content names p piece s ≡ plain (leaf_label new) []) → WrittenAt s piece start (leaf_label new)
  leaf_written s piece start new size room reads =
      let sealed = overwrite_spares_law bytes start piece room in
      let others : List ℕ = overwrite bytes start piece in
      let own_is : window others start (size_of s) ≡ piece = ap (window others start) (sym size) ∙ sealed.stands in
      record {
        spares = record { length = sealed.spares.length; outside = λ from n apart. sealed.spares.outside from n (subst (λ m. (start + m ≤ from) ⊎ (from + n ≤ start)) (sym size) apart) };
        is = ap (λ x. shape_content node_names start x s) own_is ∙ reads node_names start;
      }

  -- a text inline
  pub inline_written : (t : List ℕ) (start : ℕ) (s : List ℕ) → content_of node_names bytes (at start text_shape) ≡ plain (written s) [] → length s ≡ length t → start + length t ≤ length bytes → IsUtf8 t
      → WrittenAt text_shape t start (written t)
  unfolding shape_content text_content choose
  inline_written t start s was size room utf8 =
      let others : List ℕ = overwrite bytes start t in
      let own : List ℕ = window bytes start 8 in
      let says = inline_says bytes start s was in
      let split = split_at_filler own in
      let long : length t ≡ length (before_ff own) = sym size ∙ ap length says.is in
      let short : length t ≤ 8 = omega (arith, long, ap length split.whole, length-append (before_ff own) split.rest, length-take 8 (drop start bytes)) in
      let rest_is : drop (length t) own ≡ split.rest =
      ap (λ n. drop n own) long ∙ ap (drop (length (before_ff own))) split.whole ∙ drop_at (before_ff own) split.rest (length (before_ff own)) refl in
      let own_is : window others start 8 ≡ t ++ split.rest = window_from bytes start t 8 short room ∙ ap (λ x. t ++ x) rest_is in
      let inline : IsInline (slice_index (window others start 8) 0) = subst (λ x. IsInline (slice_index x 0)) (sym own_is) (inline_after t split.rest utf8 split.filled) in
      let reads : content_of node_names others (at start text_shape) ≡ plain (written (before_ff (window others start 8))) [] = rw inline refl in
      let is : content_of node_names others (at start text_shape) ≡ plain (written t) [] = reads ∙ ap (λ x. plain (written x) []) (ap before_ff own_is ∙ text_before t split.rest utf8 split.filled) in
      let sealed = overwrite_spares_law bytes start t room in
      record {
        spares = record { length = sealed.spares.length; outside = λ from n apart. sealed.spares.outside from n (⊎_elim (λ behind. inl (omega (arith, short, behind))) (λ before. inr before) apart) };
        is = is;
      }

-- what is so of the bytes with another leaf of each kind
module _ (bytes : List ℕ) (pos : ℕ) (v : Value) (path : List ℕ) (K : ℕ → List ℕ → Value → Type 0) where
  abbrev pub LeafWrites : Type 0
  LeafWrites =
      (s : Shape)
      → IsFixed s
      → (piece : List ℕ) (start : ℕ) (old new : Value) (l : Label)
      → StandsInRoot node_names bytes pos node_shape v path (at start s) old
      → content_of node_names bytes (at start s) ≡ plain l []
      → length piece ≡ size_of s
      → start + length piece ≤ length bytes
      → ((names : Names) (p : ℕ) → shape_content names p piece s ≡ plain (leaf_label new) [])
      → AreBytes piece
      → K start piece new

  abbrev pub InlineWrites : Type 0
  InlineWrites =
      (t : List ℕ) (start : ℕ) (s : List ℕ) (old : Value)
      → StandsInRoot node_names bytes pos node_shape v path (at start text_shape) old
      → content_of node_names bytes (at start text_shape) ≡ plain (written s) []
      → length s ≡ length t
      → start + length t ≤ length bytes
      → IsUtf8 t
      → K start t (string t)

  abbrev pub FarWrites : Type 0
  FarWrites =
      (t : List ℕ) (start : ℕ) (old : Value)
      → StandsInRoot node_names bytes pos node_shape v path (behind start str (length t)) old
      → start + length t ≤ length bytes
      → IsUtf8 t
      → K start t (string t)

module _ (bytes : List ℕ) (pos : ℕ) (v : Value) (regions : List Region) (visits : List Visit) (path : List ℕ) (root : HasRoot node_names bytes pos node_shape v regions visits) where
  pub own_within : {part : Part} {payload : Value} {start size : ℕ} → StandsInRoot node_names bytes pos node_shape v path part payload → IsOwn bytes start size part → start + size ≤ length bytes
  own_within {part = part} {payload = payload} {start = start} stands own =
      let h = held_at node_names bytes part payload root.holds stands in
      let i = in_leaf bytes h.holds own in
      let w = leaf_within_law node_names bytes pos node_shape v regions visits path part payload start i.whole root stands i.leaf in
      let short = i.short in
      omega arith

  -- by the kind of the leaf
  module _ (K : ℕ → List ℕ → Value → Type 0) (fixed : LeafWrites bytes pos v path K) (inline : InlineWrites bytes pos v path K) (far : FarWrites bytes pos v path K) where
    abbrev Kept : ℕ → Leaf → Type 0
    Kept start new = K start (own_bytes new) (payload_of new)

    pub by_own : {part : Part} {start size : ℕ} (old new : Leaf) → StandsInRoot node_names bytes pos node_shape v path part (payload_of old) → IsOwn bytes start size part
        → size ≡ length (own_bytes new) → fits old new ≡ true → IsLeaf new → K start (own_bytes new) (payload_of new)
    by_own {start = start} old new stands (own_truth e f) size_is fit legal =
        let there = subst (λ x. StandsInRoot node_names bytes pos node_shape v path x (payload_of old)) e stands in
        let h = held_at node_names bytes (at start truth_shape) (payload_of old) root.holds there in
        let t = truth_there bytes start h.holds in
        let k = truth_kind old new t.b t.is fit in
        let room : start + 1 ≤ length bytes = own_within stands (own_truth e refl) in
        let c = truth_plain bytes start h.holds in
        subst (Kept start) (sym k.is)
        (fixed truth_shape (fixed_truth refl) (truth_byte k.b ∷ []) start (payload_of old) (boolean k.b) c.label there c.is refl room (truth_reads k.b) (own_are_bytes (truth k.b) (subst IsLeaf k.is legal)))
    by_own {start = start} old new stands (own_number e f) size_is fit legal =
        let there = subst (λ x. StandsInRoot node_names bytes pos node_shape v path x (payload_of old)) e stands in
        let h = held_at node_names bytes (at start (number_shape w64 true)) (payload_of old) root.holds there in
        let t = number_there bytes start h.holds in
        let k = number_kind old new t.n t.is fit in
        let room : start + 8 ≤ length bytes = own_within stands (own_number e refl) in
        let is_number : IsLeaf (number k.n) = subst IsLeaf k.is legal in
        subst (Kept start) (sym k.is)
        (fixed (number_shape w64 true) (fixed_number refl) (to_le_bytes w64 (cast_unsigned w64 k.n)) start (payload_of old) (integer k.n) _ there (number_plain bytes start) refl room (number_reads k.n is_number) (own_are_bytes (number k.n) is_number))
    by_own {start = start} {size = size} old new stands (own_inline {s = s} e c f) size_is fit legal =
        let there = subst (λ x. StandsInRoot node_names bytes pos node_shape v path x (payload_of old)) e stands in
        let h = held_at node_names bytes (at start text_shape) (payload_of old) root.holds there in
        let t = text_there bytes start h.holds in
        let k = text_kind old new t.s t.is fit in
        let room : start + size ≤ length bytes = own_within stands (own_inline {s = s} e c f) in
        let len : size ≡ length k.s = size_is ∙ ap (λ x. length (own_bytes x)) k.is in
        subst (Kept start) (sym k.is)
        (inline k.s start s (payload_of old) there (ap (content_of node_names bytes) (sym e) ∙ c) (sym f ∙ len) (subst (λ n. start + n ≤ length bytes) len room) (subst IsLeaf k.is legal))
    by_own {start = start} {size = size} old new stands (own_behind e) size_is fit legal =
        let there = subst (λ x. StandsInRoot node_names bytes pos node_shape v path x (payload_of old)) e stands in
        let h = held_at node_names bytes (behind start str size) (payload_of old) root.holds there in
        let t = text_behind_there bytes start size h.holds in
        let k = text_kind old new t.s t.is fit in
        let room : start + size ≤ length bytes = own_within stands (own_behind e) in
        let len : size ≡ length k.s = size_is ∙ ap (λ x. length (own_bytes x)) k.is in
        subst (Kept start) (sym k.is)
        (far k.s start (payload_of old) (subst (λ n. StandsInRoot node_names bytes pos node_shape v path (behind start str n) (payload_of old)) len there) (subst (λ n. start + n ≤ length bytes) len room) (subst IsLeaf k.is legal))
