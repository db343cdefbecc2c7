-- A node's bytes, which are written part by part over zeros.
use Rattle.std.proofs.Common.{◌≡◌, ℕ, ◌+◌, ◌-◌, ◌*◌, ◌^◌, ◌≤◌, ◌<◌, set, List, [], ◌∷◌, ◌++◌, length, refl, arith, length-append, append_assoc, ap, sym, subst, ◌∙◌, mul-le-mul_right, Some, None, Option}
use Rattle.std.proofs.lemmas.List.{length-replicate}
use Rattle.archive_shape_layout.specs.Shape.{Shape, size_of}
use Rattle.archive_shape_layout.specs.Content.{keys_offset, values_offset, links_offset, link_node_size, words_of}
use Rattle.archive_shape_layout.proofs.Framed.{keys_fit, values_fit, links_fit}
use Rattle.archive_shape.specs.Bytes.{HasBytes, zeros, overwrite}
use Rattle.archive_shape.proofs.Written.{length-overwrite, window_there}
use Rattle.archive_btree_spelling.specs.Written.{filled}
use Rattle.archive_btree_maps.specs.declared.nodes.layout.NodeLayout.{NodeLayout}
use Rattle.archive_btree_maps.specs.Layout.{IsNodeLayout}
use Rattle.archive_btree_writing.specs.declared.children.Children.{Children}
use Rattle.archive_forms_writing.proofs.Joining.{still_zero, piece_behind, zeros_behind, whole_over, set_over}
use Rattle.archive_btree_writing.specs.Nodes.{kind_of, AreChildren, words_size}
use Rattle.archive_shape_layout.proofs.Places.{keys_follow}

-- ---- where the parts lie

-- a number that stops at the greatest represents one below it
pub record Parts (most : ℕ) (k v : Shape) (words count : ℕ) (layout : NodeLayout) : Type 0 where
  pub keys : layout.keys ≡ keys_offset k
  pub values : layout.values ≡ values_offset most k v
  pub links : layout.links ≡ links_offset most k v
  pub begins : 1 ≤ keys_offset k
  pub keys_end : keys_offset k + count * size_of k ≤ values_offset most k v
  pub values_end : values_offset most k v + count * size_of v ≤ links_offset most k v
  pub links_end : links_offset most k v + words * 4 ≤ link_node_size words most k v

pub parts : (most : ℕ) (k v : Shape) (words count : ℕ) (layout : NodeLayout) → IsNodeLayout most k v layout → count ≤ most → link_node_size words most k v < 2 ^ 64 → 0 < words → Parts most k v words count layout
parts most k v words count layout is few small some =
    let a = keys_fit 1 most k v in
    let b = values_fit most k v in
    let d = links_fit words most k v in
    let m₁ = mul-le-mul_right (size_of k) few in
    let m₂ = mul-le-mul_right (size_of v) few in
    record {
      keys = omega (arith, is.keys, a, b, d, small, some);
      values = omega (arith, is.values, b, d, small, some);
      links = omega (arith, is.links, d, small, some);
      begins = keys_follow k;
      keys_end = omega (arith, a, m₁);
      values_end = omega (arith, b, m₂);
      links_end = d;
    }

-- what comes after the values has the same number of words
pub words_counted : (most : ℕ) (children : Option Children) → AreChildren most children → words_size children ≡ words_of (kind_of children) most * 4
words_counted most None e = refl
words_counted most (Some children) e = omega (arith, e)

-- ---- zeros that are filled from the front

pub length-filled : (n : ℕ) (bs : List ℕ) → length bs ≤ n → length (filled n bs) ≡ n
length-filled n bs h = let z : length (zeros (n - length bs)) ≡ n - length bs = length-replicate _ _ in length-append bs (zeros (n - length bs)) ∙ omega (arith, z, h)

-- what is filled after n bytes
filled_behind : (n m : ℕ) (front bs : List ℕ) → length front ≡ n → n ≤ m → filled m (front ++ bs) ≡ front ++ filled (m - n) bs
filled_behind n m front bs e h =
    let same : m - length (front ++ bs) ≡ m - n - length bs = omega (arith, length-append front bs, e, h) in
    append_assoc front bs (zeros (m - length (front ++ bs))) ∙ ap (λ k. front ++ (bs ++ zeros k)) same

module _ (size : ℕ) (bytes : List ℕ) (blank : bytes ≡ zeros size) where
  pub size_is : length bytes ≡ size
  size_is = ap length blank ∙ length-replicate _ _

  all_blank : HasBytes bytes 0 (zeros size)
  all_blank =
      let P : List ℕ → Type 0 = λ l. HasBytes l 0 l in
      let Q : List ℕ → Type 0 = λ l. HasBytes bytes 0 l in
      let z : 0 + length bytes ≤ length bytes = omega arith in
      let same : overwrite bytes 0 bytes ≡ bytes = whole_over bytes 0 bytes refl refl in
      let W : List ℕ → Type 0 = λ l. HasBytes l 0 bytes in
      subst Q blank (subst W same (window_there bytes 0 bytes z))

  -- the first bytes are written
  pub record Filled (done now : List ℕ) : Type 0 where
    pub is : now ≡ overwrite bytes 0 done
    pub within : length done ≤ size

  pub filled_first : (b : ℕ) → 0 < size → Filled (b ∷ []) (set bytes 0 b)
  filled_first b h = let n = size_is in record { is = set_over bytes 0 b (omega arith); within = omega (arith, h) }

  module _ {done now : List ℕ} (h : Filled done now) where
    pub filled_length : length now ≡ size
    filled_length = let n = size_is in ap length h.is ∙ length-overwrite bytes 0 done (omega (arith, h.within, n)) ∙ n

    -- zeros are after them
    pub filled_zero : (from n : ℕ) → length done ≤ from → from + n ≤ size → HasBytes now from (zeros n)
    filled_zero from n a b =
        let m = size_is in
        let P : List ℕ → Type 0 = λ l. HasBytes l (0 + from) (zeros n) in
        let zero_from : 0 + from ≡ from = omega arith in
        let F : ℕ → Type 0 = λ k. HasBytes now k (zeros n) in
        subst F zero_from (subst P (sym h.is) (still_zero bytes 0 size (omega arith) all_blank done from n a b))

    -- the next part is written
    pub filled_next : (from : ℕ) (piece next : List ℕ) → length done ≤ from → from + length piece ≤ size → next ≡ overwrite now from piece → Filled (filled from done ++ piece) next
    filled_next from piece next a b e =
        let m = size_is in
        let zero_from : from ≡ 0 + from = omega arith in
        let long = length-filled from done a in
        record {
          is =
              e
              ∙ ap (λ l. overwrite l from piece) h.is
              ∙ ap (λ k. overwrite (overwrite bytes 0 done) k piece) zero_from
              ∙ piece_behind bytes 0 size (omega arith) all_blank done from piece a b
              ∙ ap (overwrite bytes 0) (sym (append_assoc done (zeros (from - length done)) piece));
          within = omega (arith, length-append (filled from done) piece, long, b);
        }

    -- no more is
    pub filled_all : now ≡ filled size done
    filled_all =
        let m = size_is in
        h.is ∙ zeros_behind bytes 0 size (omega arith) all_blank done h.within ∙ whole_over bytes 0 (filled size done) refl (length-filled size done h.within ∙ sym m)

  -- four parts, each from its offset on
  pub four_filled : (a b c : ℕ) (p q r s now : List ℕ) → length p ≤ a → a + length q ≤ b → b + length r ≤ c → c + length s ≤ size
      → Filled (filled c (filled b (filled a p ++ q) ++ r) ++ s) now → now ≡ filled a p ++ (filled (b - a) q ++ (filled (c - b) r ++ filled (size - c) s))
  four_filled a b c p q r s now h₁ h₂ h₃ h₄ f =
      let one = filled a p in
      let two = filled b (one ++ q) in
      let three = filled c (two ++ r) in
      let n₁ : length one ≡ a = length-filled a p h₁ in
      let n₂ : length two ≡ b = length-filled b (one ++ q) (omega (arith, length-append one q, n₁, h₂)) in
      let n₃ : length three ≡ c = length-filled c (two ++ r) (omega (arith, length-append two r, n₂, h₃)) in
      let fq = filled (b - a) q in
      let fr = filled (c - b) r in
      let fs = filled (size - c) s in
      let e₂ : two ≡ one ++ fq = filled_behind a b one q n₁ (omega (arith, h₂)) in
      let e₃ : three ≡ two ++ fr = filled_behind b c two r n₂ (omega (arith, h₃)) in
      let e₄ : filled size (three ++ s) ≡ three ++ fs = filled_behind c size three s n₃ (omega (arith, h₄)) in
      filled_all f
      ∙ e₄
      ∙ ap (λ l. l ++ fs) e₃
      ∙ append_assoc two fr fs
      ∙ ap (λ l. l ++ (fr ++ fs)) e₂
      ∙ append_assoc one fq (fr ++ fs)
