-- What nodes and pointers to children have, and the questions about them, by their own bytes.
use Rattle.std.proofs.Common.{◌≡◌, ◌≢◌, ℕ, ◌+◌, ◌<◌, ◌≤◌, max, Bool, true, false, ◌==◌, ◌&&◌, nat_le, List, [], ◌∷◌, ◌++◌, drop, Some, None, Ok, Err, Result, min, ◌-◌, ◌%◌, ◌^◌, refl, sym, ap, subst, ◌∙◌, arith, get_or-drop}
use Rattle.std.specs.Prelude.{slice_index}
use Rattle.std.proofs.lemmas.Bool.{le-leb, lt-ltb, leb-true, ltb-true, ne_eqb, eq-eqb}
use Rattle.archive_shape_layout.specs.Bytes.{window, word_at, target_from}
use Rattle.archive_shape_layout.specs.Shape.{Shape, align_of}
use Rattle.archive_shape_layout.specs.Content.{Names, Span, content_of, node_content, child_content, children, entries, keys_offset, values_offset, links_offset, node_size, link_node_size, node_span, words_of}
use Rattle.archive_shape_layout.specs.Content.Part.{node, child}
use Rattle.archive_shape_layout.specs.Content.Label.{same, whole, woven}
use Rattle.archive_shape_layout.specs.Content.Content.{plain, claimed}
use Rattle.archive_shape_layout.proofs.Framed.{links_fit}
use Rattle.archive_shape.specs.Range.{Range, InRange}
use Rattle.archive_shape.specs.Questions.{Question, AreAnswered, FirstUnanswered, claim, out_of_range, questions_of, questions_of_node, questions_of_leaf}
use Rattle.archive_shape.specs.Questions.Question.{lies_in_range, is_aligned}
use Rattle.archive_shape.specs.Questions.FirstUnanswered.{unanswered_here, unanswered_later}
use Rattle.archive_shape.proofs.Questions.{AreAnswered-append, leads_nowhere}
use Rattle.archive_shape_layout.specs.declared.error.Error.{Error}
use Rattle.archive_shape_layout.specs.declared.error.Error.TheVariants.{InvalidTag, Unaligned, NodeLength, TooManyLevels}
use Rattle.archive_shape_layout.proofs.Windows.{word_within, word_of}
use Rattle.archive_forms_values.proofs.Claimed.{misplaced}
use Rattle.archive_forms_values.proofs.Chosen.{chosen, not_chosen}
use Rattle.archive_forms_laws.proofs.TextContent.{followed}
use Rattle.archive_btree_maps.specs.CheckingNodes.{BeginsNode}
use Rattle.archive_shape.proofs.Claims.{no_error}

both : (a b : Bool) → a ≡ true → b ≡ true → (a && b) ≡ true
both a b e f = rw (e, f) refl

kind_of : (bytes : List ℕ) (pos : ℕ) → slice_index (drop pos bytes) 0 ≡ slice_index bytes pos
kind_of bytes pos =
    let here : pos + 0 ≡ pos = omega arith in
    subst (λ p. slice_index (drop pos bytes) 0 ≡ slice_index bytes p) here (get_or-drop pos bytes 0 0)

-- ---- lists of questions

unanswered_before : (k : Range) (e : Error) (xs ys : List Question) → FirstUnanswered k e xs → FirstUnanswered k e (xs ++ ys)
unanswered_before k e [] ys f = elim f [ ]
unanswered_before k e (q ∷ xs) ys (unanswered_here n is) = unanswered_here n is
unanswered_before k e (q ∷ xs) ys (unanswered_later h f) = unanswered_later h (unanswered_before k e xs ys f)

unanswered_behind : (k : Range) (e : Error) (xs ys : List Question) → AreAnswered k xs → FirstUnanswered k e ys → FirstUnanswered k e (xs ++ ys)
unanswered_behind k e [] ys h f = f
unanswered_behind k e (q ∷ xs) ys h f = unanswered_later h.0 (unanswered_behind k e xs ys h.1 f)

-- a claim that is refused for its place: the first two questions say so
placed :
    (k : Range) (e : Error) (s : Span) (qs : List Question) (r : Result (Unit {0}) Error) → r ≡ Err e
    → (InRange k s.start s.size → s.start % s.align ≡ 0 → r ≡ Ok tt)
    → FirstUnanswered k e (claim s)
    → FirstUnanswered k e (lies_in_range s.start s.size ∷ is_aligned s.start s.align ∷ qs)
placed k e s qs r refused accepted (unanswered_here n is) = unanswered_here n is
placed k e s qs r refused accepted (unanswered_later h (unanswered_here n is)) = unanswered_later h (unanswered_here n is)
placed k e s qs r refused accepted (unanswered_later h (unanswered_later i f)) = absurd (no_error r e refused (accepted h i))

too_deep : {level : ℕ} → 32 < level → nat_le level 32 ≡ true → ⊥
too_deep {level} deep e = let less : level ≤ 32 = leb-true level 32 e in omega arith

module _ (names : Names) (bytes : List ℕ) (level most : ℕ) (k v : Shape) (pos : ℕ) where
  -- ---- a node

  node_is : (kind : ℕ) → slice_index bytes pos ≡ kind → content_of names bytes (node level most k v pos) ≡ node_content level most k v pos kind (window bytes pos (link_node_size (words_of kind most) most k v))
  node_is kind is = ap (λ n. node_content level most k v pos n (window bytes pos (link_node_size (words_of n most) most k v))) (kind_of bytes pos ∙ is)

  pub leaf_is :
      (len : ℕ) → slice_index bytes pos ≡ 0 → level ≤ 32 → word_at bytes (pos + links_offset most k v) ≡ len → len ≤ most
      → content_of names bytes (node level most k v pos) ≡ claimed (node_span 1 most k v pos) whole (entries len k (pos + keys_offset k) v (pos + values_offset most k v))
  unfolding node_content
  leaf_is len is low says less =
      let own = window bytes pos (link_node_size 1 most k v) in
      let room = links_fit 1 most k v in
      let word : word_at own (links_offset most k v) ≡ len = word_within bytes pos (link_node_size 1 most k v) (links_offset most k v) (omega arith) ∙ says in
      node_is 0 is
      ∙ chosen (nat_le level 32 && nat_le (word_at own (links_offset most k v)) most) _ _ (both _ _ (le-leb level 32 low) (le-leb _ most (omega (arith, word))))
      ∙ ap (λ n. claimed (node_span 1 most k v pos) whole (entries n k (pos + keys_offset k) v (pos + values_offset most k v))) word

  pub inner_is :
      slice_index bytes pos ≡ 1 → level ≤ 32
      → content_of names bytes (node level most k v pos)
      ≡ claimed (node_span (most + 1) most k v pos) (woven (most + 1)) (children (most + 1) (level + 1) most k v (pos + links_offset most k v) ++ entries most k (pos + keys_offset k) v (pos + values_offset most k v))
  unfolding node_content
  inner_is is low = node_is 1 is ∙ chosen (nat_le level 32) _ _ (le-leb level 32 low)

  node_asks :
      (kind : ℕ) → slice_index bytes pos ≡ kind
      → questions_of names bytes (node level most k v pos)
      ≡ questions_of_node level most k v pos kind (word_at (window bytes pos (link_node_size (words_of kind most) most k v)) (links_offset most k v))
  node_asks kind is = ap (λ n. questions_of_node level most k v pos n (word_at (window bytes pos (link_node_size (words_of n most) most k v)) (links_offset most k v))) (kind_of bytes pos ∙ is)

  module _ (range : Range) (low : level ≤ 32) where
    -- what nodes begin with is not in the range, or not aligned
    pub begin_unanswered :
        (e : Error) (r : Result (Unit {0}) Error) (size align : ℕ)
        → size ≡ min (node_size most k v) (2 ^ 64 - 1)
        → align ≡ max (align_of k) (align_of v)
        → range.end < 2 ^ 63
        → ((InRange range pos size → ⊥) → r ≡ Err (out_of_range size))
        → (InRange range pos size → pos % align ≢ 0 → r ≡ Err (Unaligned align))
        → (InRange range pos size → pos % align ≡ 0 → r ≡ Ok tt)
        → r ≡ Err e
        → FirstUnanswered range e (questions_of names bytes (node level most k v pos))
    begin_unanswered e r size align cut aligned small outside unaligned accepted refused =
        unanswered_later (le-leb level 32 low)
        (placed range e (record { start = pos; size = node_size most k v; align = max (align_of k) (align_of v) }) _ r refused
        (λ within straight. accepted (record { begins = within.begins; ends = let ends = within.ends in omega arith }) (subst (λ a. pos % a ≡ 0) (sym aligned) straight))
        (misplaced range (record { start = pos; size = node_size most k v; align = max (align_of k) (align_of v) }) size align r e cut aligned small outside unaligned accepted refused))

    -- its kind is none
    pub kind_unanswered : (kind : ℕ) → BeginsNode range bytes most k v pos kind → 2 ≤ kind → FirstUnanswered range InvalidTag (questions_of names bytes (node level most k v pos))
    kind_unanswered kind h other =
        subst (FirstUnanswered range InvalidTag) (sym (node_asks kind h.tag))
        (unanswered_later (le-leb level 32 low) (unanswered_later h.within (unanswered_later h.aligned
        (unanswered_here (λ e. let less = ltb-true kind 2 e in omega arith) refl))))

    module _ (kind : ℕ) (h : BeginsNode range bytes most k v pos kind) (some : kind < 2) where
      -- the claim of all of it is refused
      pub claim_unanswered : (e : Error) → FirstUnanswered range e (claim (node_span (words_of kind most) most k v pos)) → FirstUnanswered range e (questions_of names bytes (node level most k v pos))
      claim_unanswered e f =
          subst (FirstUnanswered range e) (sym (node_asks kind h.tag))
          (unanswered_later (le-leb level 32 low) (unanswered_later h.within (unanswered_later h.aligned (unanswered_later (lt-ltb kind 2 some)
          (unanswered_before range e (claim (node_span (words_of kind most) most k v pos)) _ f)))))

      node_answered :
          AreAnswered range (claim (node_span (words_of kind most) most k v pos))
          → AreAnswered range (questions_of_leaf kind (word_at (window bytes pos (link_node_size (words_of kind most) most k v)) (links_offset most k v)) most)
          → AreAnswered range (questions_of names bytes (node level most k v pos))
      node_answered claimed_all leaf_answered =
          subst (AreAnswered range) (sym (node_asks kind h.tag))
          (le-leb level 32 low, (h.within, (h.aligned, (lt-ltb kind 2 some, AreAnswered-append range (claim (node_span (words_of kind most) most k v pos)) _ claimed_all leaf_answered))))

    -- a leaf
    module _ (h : BeginsNode range bytes most k v pos 0) (all : AreAnswered range (claim (node_span 1 most k v pos))) (len : ℕ) (says : word_at bytes (pos + links_offset most k v) ≡ len) where
      own_word : word_at (window bytes pos (link_node_size 1 most k v)) (links_offset most k v) ≡ len
      own_word = let room = links_fit 1 most k v in word_within bytes pos (link_node_size 1 most k v) (links_offset most k v) (omega arith) ∙ says

      pub leaf_answered : len ≤ most → AreAnswered range (questions_of names bytes (node level most k v pos))
      leaf_answered less = node_answered 0 h (omega arith) all (le-leb _ most (omega (arith, own_word)), tt)

      -- it has too many entries
      pub length_unanswered : most < len → FirstUnanswered range (NodeLength len most) (questions_of names bytes (node level most k v pos))
      length_unanswered more =
          subst (FirstUnanswered range (NodeLength len most)) (sym (node_asks 0 h.tag))
          (unanswered_later (le-leb level 32 low) (unanswered_later h.within (unanswered_later h.aligned (unanswered_later (lt-ltb 0 2 (omega arith))
          (unanswered_behind range (NodeLength len most) (claim (node_span 1 most k v pos)) _ all
          (unanswered_here (λ e. let less = leb-true _ most e in omega (arith, own_word)) (ap (λ n. NodeLength n most) (sym own_word))))))))

    -- an inner node
    pub inner_answered : BeginsNode range bytes most k v pos 1 → AreAnswered range (claim (node_span (most + 1) most k v pos)) → AreAnswered range (questions_of names bytes (node level most k v pos))
    inner_answered h all = node_answered 1 h (omega arith) all tt

  -- ---- a pointer to a child

  no_child : word_at bytes pos ≡ 1 → (word_at (window bytes pos 4) 0 == 1) ≡ true
  no_child is = eq-eqb _ 1 (word_of bytes pos ∙ is)

  a_child : word_at bytes pos ≢ 1 → (word_at (window bytes pos 4) 0 == 1) ≡ false
  a_child is = ne_eqb _ 1 (λ e. is (sym (word_of bytes pos) ∙ e))

  pub absent_is : word_at bytes pos ≡ 1 → content_of names bytes (child level most k v pos) ≡ plain whole []
  unfolding child_content
  absent_is is = chosen _ _ _ (no_child is)

  pub child_is : (t : ℕ) → word_at bytes pos ≢ 1 → level ≤ 32 → target_from pos (word_at bytes pos) ≡ Some t → content_of names bytes (child level most k v pos) ≡ plain same (node level most k v t ∷ [])
  unfolding child_content
  child_is t is low leads =
      not_chosen _ _ _ (a_child is)
      ∙ chosen (nat_le level 32) _ _ (le-leb level 32 low)
      ∙ followed _ t _ (ap (target_from pos) (word_of bytes pos) ∙ leads)

  module _ (range : Range) where
    pub absent_answered : word_at bytes pos ≡ 1 → AreAnswered range (questions_of names bytes (child level most k v pos))
    absent_answered is = rw (no_child is) tt

    pub child_answered : (t : ℕ) → word_at bytes pos ≢ 1 → level ≤ 32 → target_from pos (word_at bytes pos) ≡ Some t → AreAnswered range (questions_of names bytes (child level most k v pos))
    child_answered t is low leads = rw (a_child is, word_of bytes pos, leads) (le-leb level 32 low, (refl, tt))

    -- it lies below the last level
    pub level_unanswered : word_at bytes pos ≢ 1 → 32 < level → FirstUnanswered range TooManyLevels (questions_of names bytes (child level most k v pos))
    level_unanswered is deep = rw (a_child is) (unanswered_here (too_deep deep) refl)

    -- it leads before the bytes
    pub child_unanswered : (e : Error) → word_at bytes pos ≢ 1 → level ≤ 32 → target_from pos (word_at bytes pos) ≡ None → e ≡ out_of_range (node_size most k v) → FirstUnanswered range e (questions_of names bytes (child level most k v pos))
    child_unanswered e is low leads refusal =
        rw (a_child is)
        (unanswered_later (le-leb level 32 low) (unanswered_here (leads_nowhere _ (ap (target_from pos) (word_of bytes pos) ∙ leads)) refusal))
