-- The questions of the nodes of search trees and of the buckets of tables are answered by yes where they are accepted,
-- and so are all questions of an accepted part.
use Rattle.std.proofs.Common.{◌≡◌, ℕ, zero, suc, ◌+◌, ◌-◌, ◌*◌, ◌%◌, ◌≤◌, max, ◌==◌, nat_lt, nat_le, ◌&&◌, ◌||◌, cond, Bool, true, false, List, [], ◌∷◌, ◌++◌, take, drop, slice_index, count_by, refl, sym, subst, arith}
use Rattle.std.proofs.Math.Nat.{two-pow-succ}
use Rattle.std.proofs.lemmas.Nat.{pow_pos}
use Rattle.std.specs.Int.{IsPowerOfTwo}
use Rattle.archive_shape_layout.specs.Bytes.{window, word_at}
use Rattle.archive_shape_layout.specs.Shape.{Shape, Pointee, align_of, size_of}
use Rattle.archive_shape_layout.specs.Shape.Shape.{result}
use Rattle.archive_shape_layout.specs.Shape.Pointee.{sized, slice, str}
use Rattle.archive_shape_layout.specs.Content.{Names, Part, Item, Label, Content, choose, item_size, pointee_content, node_content, node_size, node_span, words_of, links_offset, link_node_size, link_node_align, entries, children, keys_offset, values_offset, control_count, wraps, buckets_span, buckets_content, tagged_items}
use Rattle.archive_shape_layout.specs.Content.Part.{at, behind, node, child, entry, buckets, place_at}
use Rattle.archive_shape_layout.specs.Content.Label.{whole, woven}
use Rattle.archive_shape_layout.specs.Content.Content.{claimed, illegal}
use Rattle.archive_shape_layout.specs.Holds.{Visit, OpenShared}
use Rattle.archive_shape_layout.proofs.Framed.{le_align_up}
use Rattle.archive_shape_layout.proofs.Aligned.{alignments_law}
use Rattle.archive_shape.specs.Range.{Range, InRange}
use Rattle.archive_shape.specs.Accepts.{Passes}
use Rattle.archive_shape.specs.Questions.{Question, AreAnswered, test, claim, questions_of, questions_of_node, questions_of_leaf, questions_of_controls, questions_of_buckets, pointee_span}
use Rattle.archive_shape.specs.Laws.{AcceptedIsAnswered}
use Rattle.archive_shape_layout.specs.declared.error.Error.{Error}
use Rattle.archive_shape.proofs.Inverted.{IsKnown, passing_is_known, claim_answered}
use Rattle.archive_shape.proofs.Questions.{AreAnswered-append, tested_known, shape_answered, child_answered, place_known}

both_true : (a b : Bool) → (a && b) ≡ true → (a ≡ true) × (b ≡ true)
both_true true true e = (refl, refl)
both_true true false e = absurd (cc)
both_true false b e = absurd (cc)

-- ---- nodes

-- a position of a node is aligned for what it begins with
power_divides : (m pos : ℕ) → IsPowerOfTwo m → pos % max m 4 ≡ 0 → pos % m ≡ 0
power_divides m pos (zero, e) h = let one : m ≡ 1 = omega arith in subst (λ n. pos % n ≡ 0) (sym one) (omega arith)
power_divides m pos (suc zero, e) h =
    let two : m ≡ 2 = omega arith in
    let four : max m 4 ≡ 4 = omega arith in
    let i : pos % 4 ≡ 0 = subst (λ n. pos % n ≡ 0) four h in
    subst (λ n. pos % n ≡ 0) (sym two) (omega arith)
power_divides m pos (suc (suc n), e) h =
    let low = pow_pos n in
    let once = two-pow-succ n in
    let twice = two-pow-succ (suc n) in
    let least : 4 ≤ m = omega arith in
    let same : max m 4 ≡ m = omega arith in
    subst (λ n. pos % n ≡ 0) same h

node_aligned : (k v : Shape) (pos : ℕ) → pos % link_node_align k v ≡ 0 → pos % max (align_of k) (align_of v) ≡ 0
unfolding link_node_align
node_aligned k v pos h = power_divides (max (align_of k) (align_of v)) pos (alignments_law (result k v)).power h

node_within : (words most : ℕ) (k v : Shape) → node_size most k v ≤ link_node_size words most k v
unfolding link_node_size links_offset
node_within words most k v =
    let a = le_align_up (node_size most k v) 4 in
    let b = le_align_up (links_offset most k v + words * 4) (link_node_align k v) in
    omega arith

-- what a node's content says
record NodeSays (level most : ℕ) (k v : Shape) (pos kind : ℕ) (own : List ℕ) : Type 0 where
  low : nat_le level 32 ≡ true
  tag : nat_lt kind 2 ≡ true
  leaf : (r : Range) → AreAnswered r (questions_of_leaf kind (word_at own (links_offset most k v)) most)
  label : Label
  parts : List Part
  claims : node_content level most k v pos kind own ≡ claimed (node_span (words_of kind most) most k v pos) label parts

chosen_true : (b : Bool) (x : Content) → b ≡ true → choose b x illegal ≡ x
unfolding choose
chosen_true true x e = refl
chosen_true false x e = absurd (cc)

node_says : (level most : ℕ) (k v : Shape) (pos kind : ℕ) (own : List ℕ) → IsKnown (node_content level most k v pos kind own) → NodeSays level most k v pos kind own
unfolding node_content
node_says level most k v pos zero own h =
    let x = tested_known _ _ h in
    let both = both_true (nat_le level 32) _ x.0 in
    record {
      low = both.0;
      tag = refl;
      leaf = λ r. (both.1, tt);
      label = whole;
      parts = entries (word_at own (links_offset most k v)) k (pos + keys_offset k) v (pos + values_offset most k v);
      claims = chosen_true _ _ x.0;
    }
node_says level most k v pos (suc zero) own h =
    let x = tested_known _ _ h in
    record {
      low = x.0;
      tag = refl;
      leaf = λ r. tt;
      label = woven (most + 1);
      parts = children (most + 1) (level + 1) most k v (pos + links_offset most k v) ++ entries most k (pos + keys_offset k) v (pos + values_offset most k v);
      claims = chosen_true _ _ x.0;
    }
node_says level most k v pos (suc (suc kind)) own h = absurd h

node_answered : (r : Range) (level most : ℕ) (k v : Shape) (pos kind : ℕ) (own : List ℕ) → NodeSays level most k v pos kind own
    → AreAnswered r (claim (node_span (words_of kind most) most k v pos))
    → AreAnswered r (questions_of_node level most k v pos kind (word_at own (links_offset most k v)))
node_answered r level most k v pos kind own says claims =
    let place : InRange r pos (link_node_size (words_of kind most) most k v) = claims.0 in
    let ends = place.ends in
    let least = node_within (words_of kind most) most k v in
    let begins : InRange r pos (node_size most k v) = record { begins = place.begins; ends = omega arith } in
    (says.low, (begins, (node_aligned k v pos claims.1.0, (says.tag, AreAnswered-append r (claim (node_span (words_of kind most) most k v pos)) _ claims (says.leaf r)))))

-- ---- tables

controls_answered : (r : Range) (cap : ℕ) (controls : List ℕ) (i : ℕ) (cs : List ℕ) → wraps cap controls i cs ≡ true → AreAnswered r (questions_of_controls cap controls i cs)
unfolding wraps
controls_answered r cap controls i [] h = tt
controls_answered r cap controls i (c ∷ cs) h =
    let both = both_true _ _ h in
    one (nat_lt i cap) (cond (nat_lt i (2 * cap)) (c == slice_index controls (i - cap)) (nat_le 128 c)) _ _ both.0 (controls_answered r cap controls (i + 1) cs both.1)
  where
    one : (a b : Bool) (e : Error) (qs : List Question) → (a || b) ≡ true → AreAnswered r qs → AreAnswered r (cond a qs (test b e ∷ qs))
    one true b e qs h rest = rest
    one false b e qs h rest = (h, rest)

record BucketsSay (target len cap : ℕ) (it : Item) (controls : List ℕ) : Type 0 where
  below : nat_le (cap * item_size it) target ≡ true
  repeat : wraps cap controls 0 controls ≡ true
  full : (count_by (λ c. nat_lt c 128) (take cap controls) == len) ≡ true
  label : Label
  parts : List Part
  claims : buckets_content target len cap it controls ≡ claimed (buckets_span target cap it) label parts

buckets_say : (target len cap : ℕ) (it : Item) (controls : List ℕ) → IsKnown (buckets_content target len cap it controls) → BucketsSay target len cap it controls
unfolding buckets_content
buckets_say target len cap it controls h =
    let x = tested_known _ _ h in
    let both = both_true (nat_le (cap * item_size it) target) _ x.0 in
    let rest = both_true (wraps cap controls 0 controls) _ both.1 in
    record {
      below = both.0;
      repeat = rest.0;
      full = rest.1;
      label = whole;
      parts = tagged_items target it 0 (take cap controls);
      claims = chosen_true _ _ x.0;
    }

buckets_answered : (r : Range) (target len cap : ℕ) (it : Item) (controls : List ℕ) → BucketsSay target len cap it controls
    → AreAnswered r (claim (buckets_span target cap it))
    → AreAnswered r (questions_of_buckets target len cap it controls)
buckets_answered r target len cap it controls says claims =
    (says.below, AreAnswered-append r (claim (buckets_span target cap it)) _ claims (AreAnswered-append r _ _ (controls_answered r cap controls 0 controls says.repeat) (says.full, tt)))

-- ---- parts

pointee_claims : (bytes : List ℕ) (pos : ℕ) (p : Pointee) (len : ℕ) → (l : Label) × (ps : List Part) × (pointee_content bytes pos p len ≡ claimed (pointee_span pos p len) l ps)
unfolding pointee_content
pointee_claims bytes pos (sized s) len = (_, _, refl)
pointee_claims bytes pos (slice s) len = (_, _, refl)
pointee_claims bytes pos str len = (_, _, refl)

module _ (names : Names) (bytes : List ℕ) (inside : List OpenShared) (before : List Visit) where
  pub accepted_answered : (p : Part) (r : Range) → Passes names bytes inside before p r → AreAnswered r (questions_of names bytes p)
  accepted_answered (at pos s) r h =
      shape_answered names r pos (window bytes pos (size_of s)) s (passing_is_known names bytes inside before (at pos s) r h)
  accepted_answered (behind pos p len) r h =
      let c = pointee_claims bytes pos p len in
      claim_answered names bytes inside before (behind pos p len) r _ c.0 c.1 c.2 h
  accepted_answered (node level most k v pos) r h =
      let kind = slice_index (drop pos bytes) 0 in
      let own = window bytes pos (node_span (words_of kind most) most k v pos).size in
      let says = node_says level most k v pos kind own (passing_is_known names bytes inside before (node level most k v pos) r h) in
      node_answered r level most k v pos kind own says (claim_answered names bytes inside before (node level most k v pos) r _ says.label says.parts says.claims h)
  accepted_answered (child level most k v pos) r h =
      child_answered r level most k v pos (window bytes pos 4) (passing_is_known names bytes inside before (child level most k v pos) r h)
  accepted_answered (entry k key_pos v value_pos) r h = tt
  accepted_answered (buckets target len cap it) r h =
      let controls = window bytes target (control_count cap) in
      let says = buckets_say target len cap it controls (passing_is_known names bytes inside before (buckets target len cap it) r h) in
      buckets_answered r target len cap it controls says (claim_answered names bytes inside before (buckets target len cap it) r _ says.label says.parts says.claims h)
  accepted_answered (place_at pos limit) r h =
      (place_known limit (window bytes pos 4) (passing_is_known names bytes inside before (place_at pos limit) r h), tt)

pub accepted_answered_law : AcceptedIsAnswered
accepted_answered_law names bytes inside before p k h = accepted_answered names bytes inside before p k h
