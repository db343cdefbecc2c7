-- What is packed is filled by counts. So its height follows from the number of its items, and the items determine it.
use Rattle.std.proofs.Common.{◌≡◌, ◌∙◌, ℕ, zero, suc, ◌+◌, ◌-◌, ◌*◌, ◌<◌, min, true, false, List, [], ◌∷◌, ◌++◌, length, replicate, All, inl, inr, refl, subst, arith, length-append}
use Rattle.std.specs.List.{flat_map}
use Rattle.std.proofs.lemmas.Bool.{cases_lt}
use Rattle.std.proofs.lemmas.List.{append-nil}
use Rattle.std.proofs.lemmas.List.Elements.{All-head}
use Rattle.archive_btree_layout.specs.Tree.{Tree, Branches, entries_of, children_of, has_child}
use Rattle.archive_btree_layout.specs.Tree.Tree.{absent, leaf, inner}
use Rattle.archive_btree_layout.specs.Tree.Branches.{greater, lesser}
use Rattle.archive_btree_layout.specs.Packed.{level, IsFull}
use Rattle.archive_btree_layout.proofs.Filling.{width, room, Fills, FillsAll, Takes, Row, Row-at, size-none}
use Rattle.archive_btree_layout.proofs.Filling.Fills.{fills_none, fills_last, fills_leaf, fills_inner}
use Rattle.archive_btree_layout.proofs.Filling.FillsAll.{fills_greater, fills_lesser}
use Rattle.archive_btree_layout.proofs.Filling.Takes.{takes_none, takes}

-- ---- a row splits

takes_less : {A : Type 0} (most n len : ℕ) (t : Tree A) → 0 < most → Takes most n t → Takes most (min n (most * suc len)) t
takes_less most n len t pos (takes_none a b) = takes_none (omega arith) b
takes_less most n len t pos (takes a b c) = takes (omega arith) b (omega arith)

pub Row-split :
    {A : Type 0} (most n : ℕ) (ps qs : List (Tree A)) → 0 < most → Row most n (ps ++ qs)
    → Row most (min n (most * length ps)) ps × Row most (n - min n (most * length ps)) qs
Row-split most n [] qs pos r = (omega arith, Row-at most qs (omega arith) r)
Row-split most n (p ∷ ps) qs pos r =
    let rest = Row-split most (n - most) ps qs pos r.1 in (
      (takes_less most n (length ps) p pos r.0, Row-at most ps (omega arith) rest.0),
      Row-at most qs (omega arith) rest.1,
    )

-- ---- the places of a level

All-left : {A : Type 0} (P : A → Type 0) (xs ys : List A) → All P (xs ++ ys) → All P xs
All-left P [] ys h k d below = absurd (omega arith)
All-left P (x ∷ xs) ys h zero d below = h 0 d (rw length-append (omega arith))
All-left P (x ∷ xs) ys h (suc k) d below = All-left P xs ys (λ i e b. h (suc i) e (omega arith)) k d (omega arith)

All-right : {A : Type 0} (P : A → Type 0) (xs ys : List A) → All P (xs ++ ys) → All P ys
All-right P [] ys h = h
All-right P (x ∷ xs) ys h = All-right P xs ys (λ i e b. h (suc i) e (omega arith))

absent_not_full : {A : Type 0} (most : ℕ) → 0 < most → IsFull {A = A} most absent → ⊥
absent_not_full most pos f = let e = f.entries in omega arith

abbrev Upper : {A : Type 0} → ℕ → ℕ → Tree A → Type 0
Upper most h t = (d : ℕ) → d < h → All (IsFull most) (level most d t)

abbrev UpperAll : {A : Type 0} → ℕ → ℕ → Branches A → Type 0
UpperAll most g bs = (d : ℕ) → d < g → All (IsFull most) (flat_map (level most d) (children_of bs))

root_full : {A : Type 0} (most g : ℕ) (t : Tree A) → Upper most (suc g) t → IsFull most t
root_full most g t u = All-head (IsFull most) t [] (u 0 (omega arith))

-- a leaf has no level below the next
leaf_ends : {A : Type 0} (most g : ℕ) (es : List A) → 0 < most → Upper most (suc (suc g)) (leaf es) → ⊥
leaf_ends {A} most g es pos u = absent_not_full {A = A} most pos (All-head (IsFull most) absent (flat_map (level most 0) (replicate most absent)) (u 1 (omega arith)))

upper_first : {A : Type 0} (most g : ℕ) (t : Tree A) (e : A) (cs : Branches A) → UpperAll most g (lesser t e cs) → Upper most g t
upper_first most g t e cs u d below = All-left (IsFull most) (level most d t) (flat_map (level most d) (children_of cs)) (u d below)

upper_rest : {A : Type 0} (most g : ℕ) (t : Tree A) (e : A) (cs : Branches A) → UpperAll most g (lesser t e cs) → UpperAll most g cs
upper_rest most g t e cs u d below = All-right (IsFull most) (level most d t) (flat_map (level most d) (children_of cs)) (u d below)

upper_last : {A : Type 0} (most g : ℕ) (t : Tree A) → UpperAll most g (greater t) → Upper most g t
upper_last most g t u d below = rw append-nil at (u d below)

upper_inner : {A : Type 0} (most g : ℕ) (bs : Branches A) → Upper most (suc g) (inner bs) → UpperAll most g bs
upper_inner most g bs u d below = u (suc d) (omega arith)

mutual
  pub size_of_level : {A : Type 0} (most h : ℕ) (t : Tree A) → 0 < most → Upper most h t → length (level most h t) ≡ width most h
  size_of_level most zero t pos u = refl
  size_of_level most (suc g) absent pos u = absurd (absent_not_full most pos (root_full most g absent u))
  size_of_level {A} most (suc zero) (leaf es) pos u = size-none A most (suc most) ∙ omega arith
  size_of_level most (suc (suc g)) (leaf es) pos u = absurd (leaf_ends most g es pos u)
  size_of_level most (suc g) (inner bs) pos u =
      let own = (root_full most g (inner bs) u).entries in
      size_of_levels most g bs pos (upper_inner most g bs u) ∙ rw own refl

  size_of_levels : {A : Type 0} (most g : ℕ) (bs : Branches A) → 0 < most → UpperAll most g bs
      → length (flat_map (level most g) (children_of bs)) ≡ suc (length (entries_of bs)) * width most g
  size_of_levels most g (greater t) pos u = let e = size_of_level most g t pos (upper_last most g t u) in rw append-nil (omega arith)
  size_of_levels most g (lesser t e cs) pos u =
      let a = size_of_level most g t pos (upper_first most g t e cs u) in
      let b = size_of_levels most g cs pos (upper_rest most g t e cs u) in
      rw length-append (omega arith)

-- ---- what is packed is filled

row_of_absents : {A : Type 0} (most n k : ℕ) → Row {A = A} most n (flat_map (level most 0) (replicate (suc k) absent)) → n ≡ 0
row_of_absents most n k r = elim r.0 [ takes_none a b ↦ a | takes a b c ↦ absurd cc ]

no_row_no_child : {A : Type 0} (most n : ℕ) (bs : Branches A) → n ≡ 0 → Row most n (flat_map (level most 0) (children_of bs)) → has_child bs ≡ false
no_row_no_child most n (greater t) z r = elim r.0 [ takes_none a b ↦ rw b refl | takes a b c ↦ absurd (omega arith) ]
no_row_no_child most n (lesser t e cs) z r =
    let rest = no_row_no_child most (n - most) cs (omega arith) r.1 in
    elim r.0 [ takes_none a b ↦ rw b rest | takes a b c ↦ absurd (omega arith) ]

some_below : {A : Type 0} (most g n : ℕ) (bs : Branches A) → has_child bs ≡ true → Row most n (flat_map (level most g) (children_of bs)) → 0 < n + g
some_below most (suc g) n bs linked r = omega arith
some_below most zero n bs linked r =
    elim (cases_lt 0 n) [ inl some ↦ omega arith | inr none ↦ let f = no_row_no_child most n bs (omega arith) r in absurd cc ]

mutual
  pub fills_of : {A : Type 0} (most h n : ℕ) (t : Tree A) → 0 < most → Upper most h t → Row most n (level most h t) → Fills most h n t
  fills_of most zero n t pos u r =
      elim r.0 [
        | takes_none a b ↦ fills_none refl a b
        | takes a b c ↦ let le = r.1 in fills_last refl a b (omega arith)
      ]
  fills_of most (suc g) n absent pos u r = absurd (absent_not_full most pos (root_full most g absent u))
  fills_of most (suc zero) n (leaf es) pos u r = fills_leaf refl (row_of_absents most n most r) refl (root_full most 0 (leaf es) u).entries
  fills_of most (suc (suc g)) n (leaf es) pos u r = absurd (leaf_ends most g es pos u)
  fills_of most (suc g) n (inner bs) pos u r =
      let full = root_full most g (inner bs) u in
      fills_inner refl (some_below most g n bs full.linked r) refl
      (subst (λ k. FillsAll most g k n bs) full.entries (fills_all_of most g n bs pos (upper_inner most g bs u) r))

  pub fills_all_of : {A : Type 0} (most g n : ℕ) (bs : Branches A) → 0 < most → UpperAll most g bs → Row most n (flat_map (level most g) (children_of bs))
      → FillsAll most g (length (entries_of bs)) n bs
  fills_all_of most g n (greater t) pos u r = fills_greater refl refl (fills_of most g n t pos (upper_last most g t u) (rw append-nil at r))
  fills_all_of most g n (lesser t e cs) pos u r =
      let first = upper_first most g t e cs u in
      let parts = Row-split most n (level most g t) (flat_map (level most g) (children_of cs)) pos r in
      let wide = size_of_level most g t pos first in
      let here : Row most (min n (room most g)) (level most g t) = subst (λ w. Row most (min n (most * w)) (level most g t)) wide parts.0 in
      let there : Row most (n - min n (room most g)) (flat_map (level most g) (children_of cs)) =
      subst (λ w. Row most (n - min n (most * w)) (flat_map (level most g) (children_of cs))) wide parts.1
      in
      fills_lesser refl refl refl (fills_of most g (min n (room most g)) t pos first here)
      (fills_all_of most g (n - min n (room most g)) cs pos (upper_rest most g t e cs u) there)
