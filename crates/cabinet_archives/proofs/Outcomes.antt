-- The answer where a leaf is put in a node, by the tag of the node's value.
use Rattle.std.proofs.Common.{◌≡◌, ℕ, ℤ, ◌<◌, ◌==◌, Bool, true, false, if◌then◌else◌, List, length, refl, sym, ap, ◌∙◌, arith}
use Rattle.archive_shape_layout.specs.Value.{Value}
use Rattle.archive_shape_layout.specs.Value.Value.{string}
use Rattle.cabinet_text_grammar.specs.Tree.{Leaf, truth, number, text, Tree, leaf}
use Rattle.cabinet_text_grammar.specs.Answering.{done, refused, fits, outcome_there}
use Rattle.cabinet_documents.specs.Denotes.{Denotes, tagged_value}
use Rattle.cabinet_documents.specs.Denotes.Denotes.{denotes_truth, denotes_number, denotes_text, denotes_shared, denotes_nothing, denotes_some, denotes_list, denotes_ordered, denotes_hashed, denotes_kept, denotes_whole}
use Rattle.cabinet_documents.specs.Laws.{payload_of}
use Rattle.cabinet_documents.proofs.Known.{leaf_tag}

-- a tag, its payload, and the document that they denote: a leaf, or one that takes no leaf
pub data Denoted (tag : ℕ) (w : Value) (t : Tree) : Type 0 where
  denoted_leaf : (l : Leaf) → leaf_tag l ≡ tag → w ≡ payload_of l → t ≡ leaf l → Denoted tag w t
  denoted_other : 2 < tag → ((new : Leaf) → outcome_there new t ≡ refused) → Denoted tag w t

pub denoted : {v w : Value} {t : Tree} {tag : ℕ} → v ≡ tagged_value tag w → Denotes v t → Denoted tag w t
denoted e (denotes_truth {b = b} f g) = denoted_leaf (truth b) (cc) (cc) g
denoted e (denotes_number {n = n} f g) = denoted_leaf (number n) (cc) (cc) g
denoted e (denotes_text {s = s} f g) = denoted_leaf (text s) (cc) (cc) g
denoted {tag = tag} e (denotes_shared {s = s} f g) = let is : tag ≡ 3 = cc in denoted_other (omega (arith, is)) (λ new. rw g refl)
denoted {tag = tag} e (denotes_nothing f g) = let is : tag ≡ 4 = cc in denoted_other (omega (arith, is)) (λ new. rw g refl)
denoted {tag = tag} e (denotes_some f g d) = let is : tag ≡ 4 = cc in denoted_other (omega (arith, is)) (λ new. rw g refl)
denoted {tag = tag} e (denotes_list f g d) = let is : tag ≡ 5 = cc in denoted_other (omega (arith, is)) (λ new. rw g refl)
denoted {tag = tag} e (denotes_ordered f g d) = let is : tag ≡ 6 = cc in denoted_other (omega (arith, is)) (λ new. rw g refl)
denoted {tag = tag} e (denotes_hashed f g d) = let is : tag ≡ 7 = cc in denoted_other (omega (arith, is)) (λ new. rw g refl)
denoted {tag = tag} e (denotes_kept f g d) = let is : tag ≡ 8 = cc in denoted_other (omega (arith, is)) (λ new. rw g refl)
denoted {tag = tag} e (denotes_whole f g d) = let is : tag ≡ 9 = cc in denoted_other (omega (arith, is)) (λ new. rw g refl)

-- a leaf of another kind does not fit
other_kind : (old new : Leaf) → (leaf_tag old ≡ leaf_tag new → ⊥) → fits old new ≡ false
other_kind (truth b) (truth c) n = absurd (n refl)
other_kind (truth b) (number m) n = refl
other_kind (truth b) (text u) n = refl
other_kind (number k) (truth c) n = refl
other_kind (number k) (number m) n = absurd (n refl)
other_kind (number k) (text u) n = refl
other_kind (text s) (truth c) n = refl
other_kind (text s) (number m) n = refl
other_kind (text s) (text u) n = absurd (n refl)

-- a leaf is refused where the tag is not its own
pub refused_by_tag : {v w : Value} {t : Tree} {tag : ℕ} (new : Leaf) → v ≡ tagged_value tag w → Denotes v t → (tag ≡ leaf_tag new → ⊥) → outcome_there new t ≡ refused
refused_by_tag {w = w} {t = t} {tag = tag} new e d n = by_case (denoted e d)
  where
    by_case : Denoted tag w t → outcome_there new t ≡ refused
    by_case (denoted_leaf l f g h) =
        let no_fit = other_kind l new (λ i. n (sym f ∙ i)) in
        ap (outcome_there new) h ∙ ap (λ b. if b then done else refused) no_fit
    by_case (denoted_other f g) = g new

-- where the tag is that of the leaf, the leaf that is there decides
pub decided_by_leaf : {v w : Value} {t : Tree} {tag : ℕ} (new : Leaf) (b : Bool) → v ≡ tagged_value tag w → Denotes v t → tag < 3
    → ((old : Leaf) → leaf_tag old ≡ tag → w ≡ payload_of old → fits old new ≡ b) → outcome_there new t ≡ (if b then done else refused)
decided_by_leaf {w = w} {t = t} {tag = tag} new b e d low on = by_case (denoted e d)
  where
    by_case : Denoted tag w t → outcome_there new t ≡ (if b then done else refused)
    by_case (denoted_leaf l f g h) = ap (outcome_there new) h ∙ ap (λ x. if x then done else refused) (on l f g)
    by_case (denoted_other f g) = absurd (omega (arith, low, f))

-- over a truth value a truth value may be put, over a number a number, and over a text one of the same length
pub truth_fits : (old : Leaf) (b : Bool) → leaf_tag old ≡ 0 → fits old (truth b) ≡ true
truth_fits (truth c) b e = refl
truth_fits (number n) b e = absurd (omega (arith, e))
truth_fits (text s) b e = absurd (omega (arith, e))

pub number_fits : (old : Leaf) (n : ℤ) → leaf_tag old ≡ 1 → fits old (number n) ≡ true
number_fits (truth b) n e = absurd (omega (arith, e))
number_fits (number m) n e = refl
number_fits (text s) n e = absurd (omega (arith, e))

pub text_fits : (old : Leaf) (s u : List ℕ) → leaf_tag old ≡ 2 → string s ≡ payload_of old → fits old (text u) ≡ (length s == length u)
text_fits (truth b) s u e f = absurd (omega (arith, e))
text_fits (number n) s u e f = absurd (omega (arith, e))
text_fits (text x) s u e f = let same : x ≡ s = cc in ap (λ y. length y == length u) same
