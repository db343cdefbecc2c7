-- Keys in the order of their bytes.
use Rattle.std.specs.Prelude.{ℕ, Bool, true, false, cond, List, [], ◌∷◌}
use Rattle.std.specs.Ordering.{is_lt, is_eq, nat_cmp}
use Rattle.std.specs.Cmp.Lexicographic.{slice_cmp}
use Rattle.cabinet_text_grammar.specs.Tree.{Tree, Pairs, no_pairs, more_pairs}

abbrev pub is_below : List ℕ → List ℕ → Bool
is_below k l = is_lt (slice_cmp nat_cmp k l)

abbrev pub is_same : List ℕ → List ℕ → Bool
is_same k l = is_eq (slice_cmp nat_cmp k l)

-- each key is greater than the one before
abbrev pub ascend : List (List ℕ) → Bool
ascend [] = true
ascend (k ∷ []) = true
ascend (k ∷ (l ∷ ks)) = cond (is_below k l) (ascend (l ∷ ks)) false

-- a stable sort of pairs by ascending keys
abbrev pub inserted : List ℕ → Tree → Pairs → Pairs
inserted k t no_pairs = more_pairs k t no_pairs
inserted k t (more_pairs l u ps) = cond (is_below l k) (more_pairs l u (inserted k t ps)) (more_pairs k t (more_pairs l u ps))

abbrev pub arranged : Pairs → Pairs
arranged no_pairs = no_pairs
arranged (more_pairs k t ps) = inserted k t (arranged ps)
