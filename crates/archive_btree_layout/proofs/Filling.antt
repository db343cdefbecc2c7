-- A tree whose last level is filled from the left by counts is packed.
use Rattle.std.proofs.Common.{◌≡◌, ◌∙◌, ℕ, zero, suc, ◌+◌, ◌-◌, ◌*◌, ◌<◌, ◌≤◌, min, true, List, [], ◌∷◌, ◌++◌, length, replicate, All, ◌⊎◌, inl, inr, refl, ap, sym, subst, arith, length-append}
use Rattle.std.specs.List.{flat_map}
use Rattle.std.proofs.lemmas.Bool.{cases_lt}
use Rattle.std.proofs.lemmas.List.{append-nil}
use Rattle.std.proofs.Math.Nat.{le-mul_of_pos_right}
use Rattle.std.proofs.lemmas.List.Elements.{All-cons, All-append, All-nil}
use Rattle.archive_btree_layout.specs.Tree.{Tree, Branches, items, items_of, entries_of, children_of, is_node, has_child}
use Rattle.archive_btree_layout.specs.Tree.Tree.{absent, leaf, inner}
use Rattle.archive_btree_layout.specs.Tree.Branches.{greater, lesser}
use Rattle.archive_btree_layout.specs.Packed.{level, IsFull, IsLastLevel, IsPacked}

-- the number of places in the last level, below a node with g levels above it, and the number of entries they have room
-- for
abbrev pub width : ℕ → ℕ → ℕ
width most zero = 1
width most (suc g) = suc most * width most g

abbrev pub room : ℕ → ℕ → ℕ
room most g = most * width most g

mutual
  -- t has h levels above the last, and the last level has `last` entries, from the left
  pub data Fills {A : Type 0} (most : ℕ) : ℕ → ℕ → Tree A → Type 0 where
    fills_none : {h last : ℕ} {t : Tree A} → h ≡ 0 → last ≡ 0 → t ≡ absent → Fills most h last t
    fills_last : {h last : ℕ} {t : Tree A} {es : List A} → h ≡ 0 → 0 < last → t ≡ leaf es → length es ≡ last → Fills most h last t
    fills_leaf : {h last : ℕ} {t : Tree A} {es : List A} → h ≡ 1 → last ≡ 0 → t ≡ leaf es → length es ≡ most → Fills most h last t
    fills_inner : {h g last : ℕ} {t : Tree A} {bs : Branches A} → h ≡ suc g → 0 < last + g → t ≡ inner bs → FillsAll most g most last bs → Fills most h last t

  -- n entries are left of a node, and its children from here on have `last` entries in the last level
  pub data FillsAll {A : Type 0} (most : ℕ) : ℕ → ℕ → ℕ → Branches A → Type 0 where
    fills_greater : {g k last : ℕ} {bs : Branches A} {t : Tree A} → k ≡ 0 → bs ≡ greater t → Fills most g last t → FillsAll most g k last bs
    fills_lesser :
        {g k j last share : ℕ} {bs cs : Branches A} {t : Tree A} {e : A}
        → k ≡ suc j → bs ≡ lesser t e cs → share ≡ min last (room most g)
        → Fills most g share t → FillsAll most g j (last - share) cs → FillsAll most g k last bs

-- ---- the places of the last level, where n entries are left for them

pub data Takes {A : Type 0} (most n : ℕ) (t : Tree A) : Type 0 where
  takes_none : n ≡ 0 → t ≡ absent → Takes most n t
  takes : {es : List A} → 0 < n → t ≡ leaf es → length es ≡ min n most → Takes most n t

abbrev pub Row : {A : Type 0} → ℕ → ℕ → List (Tree A) → Type 0
Row most n [] = n ≡ 0
Row most n (t ∷ ts) = Takes most n t × Row most (n - most) ts

-- a place takes the same number where more is left after it and it is full
takes_more : {A : Type 0} (most n m : ℕ) (t : Tree A) → 0 < most → most ≤ n → Takes most n t → Takes most (n + m) t
takes_more most n m t p h (takes_none a b) = absurd (omega arith)
takes_more most n m t p h (takes a b c) = takes (omega arith) b (omega arith)

pub Row-at : {A : Type 0} (most : ℕ) {n m : ℕ} (ts : List (Tree A)) → n ≡ m → Row most n ts → Row most m ts
Row-at most ts e r = subst (λ i. Row most i ts) e r

pub Row-append :
    {A : Type 0} (most n m : ℕ) (ps qs : List (Tree A)) → 0 < most → n ≤ most * length ps → (m ≡ 0) ⊎ (n ≡ most * length ps)
    → Row most n ps → Row most m qs → Row most (n + m) (ps ++ qs)
Row-append most n m [] qs pos h e r s = Row-at most qs (omega arith) s
Row-append most n m (p ∷ ps) qs pos h e r s =
    elim (cases_lt n most) [
      | inl part ↦
          let none : m ≡ 0 = elim e [ inl z ↦ z | inr f ↦ absurd (omega arith) ] in
          let same : n ≡ n + m = omega arith in (
            subst (λ i. Takes most i p) same r.0,
            Row-at most (ps ++ qs) (omega arith) (Row-append most (n - most) m ps qs pos (omega arith) (inl none) r.1 s),
          )
      | inr full ↦
          let more : (m ≡ 0) ⊎ (n - most ≡ most * length ps) = elim e [ inl z ↦ inl z | inr f ↦ inr (omega arith) ] in (
            takes_more most n m p pos full r.0,
            Row-at most (ps ++ qs) (omega arith) (Row-append most (n - most) m ps qs pos (omega arith) more r.1 s),
          )
    ]

-- no places are taken where nothing is left
Row-none : (A : Type 0) (most k : ℕ) → Row {A = A} most 0 (flat_map (level most 0) (replicate k absent))
Row-none A most zero = refl
Row-none A most (suc k) = (takes_none refl refl, Row-at most (flat_map (level {A = A} most 0) (replicate k absent)) (omega arith) (Row-none A most k))

pub size-none : (A : Type 0) (most k : ℕ) → length (flat_map (level {A = A} most 0) (replicate k absent)) ≡ k
size-none A most zero = refl
size-none A most (suc k) = let e = size-none A most k in omega arith

pub width_pos : (most g : ℕ) → 0 < width most g
width_pos most zero = omega arith
width_pos most (suc g) = let h = width_pos most g in omega arith

-- ---- the levels of what is filled

pub record Rows {A : Type 0} (most h last : ℕ) (t : Tree A) : Type 0 where
  pub upper : (d : ℕ) → d < h → All (IsFull most) (level most d t)
  pub row : Row most last (level most h t)
  pub size : length (level most h t) ≡ width most h

pub record RowsAll {A : Type 0} (most g k last : ℕ) (bs : Branches A) : Type 0 where
  pub upper : (d : ℕ) → d < g → All (IsFull most) (flat_map (level most d) (children_of bs))
  pub row : Row most last (flat_map (level most g) (children_of bs))
  pub size : length (flat_map (level most g) (children_of bs)) ≡ suc k * width most g
  pub own : length (entries_of bs) ≡ k
  pub node : 0 < last + g → has_child bs ≡ true

upper_of_leaf : {A : Type 0} (most : ℕ) (es : List A) → length es ≡ most → (d : ℕ) → d < 1 → All (IsFull most) (level most d (leaf es))
upper_of_leaf most es e zero below = All-cons (IsFull most) (leaf es) [] (record { entries = e; linked = tt }) (All-nil (IsFull most))
upper_of_leaf most es e (suc d) below = absurd (omega arith)

rows_of_leaf : {A : Type 0} (most h : ℕ) (es : List A) → h ≡ 0 → length es ≡ most → Rows most (suc h) 0 (leaf es)
rows_of_leaf most (suc h) es z e = absurd (omega arith)
rows_of_leaf {A} most zero es z e =
    record {
      upper = upper_of_leaf most es e;
      row = Row-none A most (suc most);
      size = size-none A most (suc most) ∙ omega arith;
    }

upper_of_inner : {A : Type 0} (most g last : ℕ) (bs : Branches A) → 0 < last + g → RowsAll most g most last bs → (d : ℕ) → d < suc g → All (IsFull most) (level most d (inner bs))
upper_of_inner most g last bs some r zero below = All-cons (IsFull most) (inner bs) [] (record { entries = r.own; linked = r.node some }) (All-nil (IsFull most))
upper_of_inner most g last bs some r (suc d) below = r.upper d (omega arith)

rows_of_inner : {A : Type 0} (most g last : ℕ) (bs : Branches A) → 0 < last + g → RowsAll most g most last bs → Rows most (suc g) last (inner bs)
rows_of_inner most g last bs some r =
    record { upper = upper_of_inner most g last bs some r; row = r.row; size = r.size }

pub is_node_of : {A : Type 0} (most g share : ℕ) (t : Tree A) → 0 < share + g → Fills most g share t → is_node t ≡ true
is_node_of most g share t some (fills_none a b c) = absurd (omega arith)
is_node_of most g share t some (fills_last a b c d) = subst (λ u. is_node u ≡ true) (sym c) refl
is_node_of most g share t some (fills_leaf a b c d) = subst (λ u. is_node u ≡ true) (sym c) refl
is_node_of most g share t some (fills_inner a b c d) = subst (λ u. is_node u ≡ true) (sym c) refl

-- a share is all that is left, or fills its places
pub share_cases : (last share r : ℕ) → share ≡ min last r → (last - share ≡ 0) ⊎ (share ≡ r)
share_cases last share r e = elim (cases_lt last r) [ inl a ↦ inl (omega arith) | inr b ↦ inr (omega arith) ]

pub left_after : (last share r j : ℕ) → share ≡ min last r → last ≤ suc (suc j) * r → last - share ≤ suc j * r
left_after last share r j e h = elim (cases_lt last r) [ inl a ↦ omega arith | inr b ↦ omega arith ]

rows_of_lesser :
    {A : Type 0} (most g j last share : ℕ) (t : Tree A) (e : A) (cs : Branches A) → 0 < most → last ≤ suc (suc j) * room most g
    → share ≡ min last (room most g) → (0 < share + g → is_node t ≡ true)
    → Rows most g share t → RowsAll most g j (last - share) cs → RowsAll most g (suc j) last (lesser t e cs)
rows_of_lesser most g j last share t e cs pos le is node r rs =
    let cases = share_cases last share (room most g) is in
    let wide = width_pos most g in
    let some : 0 < room most g = omega (arith, le-mul_of_pos_right most wide) in
    let within : share ≤ most * length (level most g t) = rw r.size (omega arith) in
    let full : (last - share ≡ 0) ⊎ (share ≡ most * length (level most g t)) = rw r.size cases in
    record {
      upper = λ d below. All-append (IsFull most) (level most d t) (flat_map (level most d) (children_of cs)) (r.upper d below) (rs.upper d below);
      row =
          Row-at most (level most g t ++ flat_map (level most g) (children_of cs)) (omega arith)
          (Row-append most share (last - share) (level most g t) (flat_map (level most g) (children_of cs)) pos within full r.row rs.row);
      size = length-append (level most g t) (flat_map (level most g) (children_of cs)) ∙ omega (arith, r.size, rs.size);
      own = ap suc rs.own;
      node = λ h. rw (node (omega arith)) refl;
    }

rows_of_greater : {A : Type 0} (most g last : ℕ) (t : Tree A) → (0 < last + g → is_node t ≡ true) → Rows most g last t → RowsAll most g 0 last (greater t)
rows_of_greater most g last t node r =
    record {
      upper = λ d below. rw append-nil (r.upper d below);
      row = rw append-nil r.row;
      size = rw append-nil (omega (arith, r.size));
      own = refl;
      node = node;
    }

mutual
  pub rows_of : {A : Type 0} (most h last : ℕ) (t : Tree A) → 0 < most → last ≤ room most h → Fills most h last t → Rows most h last t
  rows_of most zero last t pos le (fills_none a b c) =
      record {
        upper = λ d below. absurd (omega arith);
        row = (takes_none b c, omega arith);
        size = refl;
      }
  rows_of most zero last t pos le (fills_last a b c d) =
      record {
        upper = λ d below. absurd (omega arith);
        row = (takes b c (omega arith), omega arith);
        size = refl;
      }
  rows_of most zero last t pos le (fills_leaf a b c d) = absurd (omega arith)
  rows_of most zero last t pos le (fills_inner a b c d) = absurd (omega arith)
  rows_of most (suc h) last t pos le (fills_none a b c) = absurd (omega arith)
  rows_of most (suc h) last t pos le (fills_last a b c d) = absurd (omega arith)
  rows_of most (suc h) last t pos le (fills_leaf {es = es} a b c d) =
      let z : h ≡ 0 = omega arith in
      subst (λ u. Rows most (suc h) last u) (sym c) (subst (λ n. Rows most (suc h) n (leaf es)) (sym b) (rows_of_leaf most h es z d))
  rows_of most (suc h) last t pos le (fills_inner {g = g} {bs = bs} a b c d) =
      let same : g ≡ h = omega arith in
      let fits : last ≤ suc most * room most g = subst (λ i. last ≤ suc most * room most i) (sym same) (omega arith) in
      let all = rows_of_all most g most last bs pos fits d in
      subst (λ u. Rows most (suc h) last u) (sym c) (subst (λ i. Rows most (suc i) last (inner bs)) same (rows_of_inner most g last bs b all))

  pub rows_of_all :
      {A : Type 0} (most g k last : ℕ) (bs : Branches A) → 0 < most → last ≤ suc k * room most g → FillsAll most g k last bs
      → RowsAll most g k last bs
  rows_of_all most g k last bs pos le (fills_greater {t = t} a b c) =
      let one : last ≤ suc 0 * room most g = rw a at le in
      let fits : last ≤ room most g = omega arith in
      let r = rows_of most g last t pos fits c in
      subst (λ n. RowsAll most g n last bs) (sym a)
      (subst (λ u. RowsAll most g 0 last u) (sym b) (rows_of_greater most g last t (λ h. is_node_of most g last t h c) r))
  rows_of_all most g k last bs pos le (fills_lesser {j = j} {share = share} {cs = cs} {t = t} {e = e} a b is c d) =
      let fits : last ≤ suc (suc j) * room most g = rw a at le in
      let r = rows_of most g share t pos (omega arith) c in
      let rs = rows_of_all most g j (last - share) cs pos (left_after last share (room most g) j is fits) d in
      subst (λ n. RowsAll most g n last bs) (sym a)
      (subst (λ u. RowsAll most g (suc j) last u) (sym b)
      (rows_of_lesser most g j last share t e cs pos fits is (λ h. is_node_of most g share t h c) r rs))

-- ---- the number of items in what is filled

-- the count of a lesser child's items and of those after them
count_of_lesser : (w j last share x y : ℕ) → share ≤ last → x + 1 ≡ w + share → y + 1 ≡ suc j * w + (last - share) → x + suc y + 1 ≡ suc (suc j) * w + last
count_of_lesser w j last share x y le a b = omega arith

mutual
  pub count_of : {A : Type 0} (most h last : ℕ) (t : Tree A) → Fills most h last t → length (items t) + 1 ≡ width most h + last
  count_of most zero last t (fills_none a b c) = subst (λ u. length (items u) + 1 ≡ 1 + last) (sym c) (omega arith)
  count_of most zero last t (fills_last a b c d) = subst (λ u. length (items u) + 1 ≡ 1 + last) (sym c) (omega arith)
  count_of most zero last t (fills_leaf a b c d) = absurd (omega arith)
  count_of most zero last t (fills_inner a b c d) = absurd (omega arith)
  count_of most (suc h) last t (fills_none a b c) = absurd (omega arith)
  count_of most (suc h) last t (fills_last a b c d) = absurd (omega arith)
  count_of most (suc h) last t (fills_leaf {es = es} a b c d) =
      let z : h ≡ 0 = omega arith in
      let one : width most h ≡ 1 = subst (λ i. width most i ≡ 1) (sym z) refl in
      subst (λ u. length (items u) + 1 ≡ suc most * width most h + last) (sym c) (rw one (omega arith))
  count_of most (suc h) last t (fills_inner {g = g} {bs = bs} a b c d) =
      let same : g ≡ h = omega arith in
      subst (λ u. length (items u) + 1 ≡ suc most * width most h + last) (sym c)
      (subst (λ i. length (items_of bs) + 1 ≡ suc most * width most i + last) same (count_of_all most g most last bs d))

  pub count_of_all : {A : Type 0} (most g k last : ℕ) (bs : Branches A) → FillsAll most g k last bs → length (items_of bs) + 1 ≡ suc k * width most g + last
  count_of_all most g k last bs (fills_greater {t = t} a b c) =
      let n = count_of most g last t c in
      subst (λ i. length (items_of bs) + 1 ≡ suc i * width most g + last) (sym a)
      (subst (λ u. length (items_of u) + 1 ≡ 1 * width most g + last) (sym b) (omega arith))
  count_of_all most g k last bs (fills_lesser {j = j} {share = share} {cs = cs} {t = t} {e = e} a b is c d) =
      let n = count_of most g share t c in
      let m = count_of_all most g j (last - share) cs d in
      let le : share ≤ last = omega arith in
      subst (λ i. length (items_of bs) + 1 ≡ suc i * width most g + last) (sym a)
      (subst (λ u. length (items_of u) + 1 ≡ suc (suc j) * width most g + last) (sym b)
      (rw length-append (count_of_lesser (width most g) j last share (length (items t)) (length (items_of cs)) le n m)))

-- ---- the last level

takes_nothing : {A : Type 0} (most : ℕ) (t : Tree A) → Takes most 0 t → t ≡ absent
takes_nothing most t (takes_none a b) = b
takes_nothing most t (takes a b c) = absurd (omega arith)

none_are_taken : {A : Type 0} (most : ℕ) (ts : List (Tree A)) → Row most 0 ts → ts ≡ replicate (length ts) absent
none_are_taken most [] r = refl
none_are_taken most (t ∷ ts) r =
    let rest = none_are_taken most ts (Row-at most ts (omega arith) r.1) in
    let first = takes_nothing most t r.0 in
    cc

last_of : {A : Type 0} (most n : ℕ) (t : Tree A) (ts : List (Tree A)) (es : List A) → 0 < n → n ≤ most → t ≡ leaf es → length es ≡ min n most → Row most (n - most) ts
    → IsLastLevel most (t ∷ ts)
last_of most n t ts es some le is len r =
    let rest = none_are_taken most ts (Row-at most ts (omega arith) r) in
    record {
      full = [];
      ending = es;
      free = length ts;
      filled = All-nil (λ fs. length fs ≡ most);
      some = omega arith;
      bounded = omega arith;
      stand = cc;
    }

full_before : {A : Type 0} (most n : ℕ) (t : Tree A) (ts : List (Tree A)) (es : List A) → most ≤ n → t ≡ leaf es → length es ≡ min n most → IsLastLevel most ts
    → IsLastLevel most (t ∷ ts)
full_before most n t ts es le is len r =
    record {
      full = es ∷ r.full;
      ending = r.ending;
      free = r.free;
      filled = All-cons (λ fs. length fs ≡ most) es r.full (omega arith) r.filled;
      some = r.some;
      bounded = r.bounded;
      stand = let e = r.stand in cc;
    }

pub last_level : {A : Type 0} (most n : ℕ) (ts : List (Tree A)) → 0 < n → Row most n ts → IsLastLevel most ts
last_level most n [] some r = absurd (omega arith)
last_level most n (t ∷ ts) some r =
    elim r.0 [
      | takes_none a b ↦ absurd (omega arith)
      | takes {es} a b c ↦
          elim (cases_lt most n) [
            | inl more ↦ full_before most n t ts es (omega arith) b c (last_level most (n - most) ts (omega arith) r.1)
            | inr ends ↦ last_of most n t ts es a ends b c r.1
          ]
    ]

-- what is filled, with an entry in the last level, is packed
pub packed : {A : Type 0} (most h last : ℕ) (t : Tree A) → 0 < most → 0 < last → last ≤ room most h → Fills most h last t → IsPacked most t
packed most h last t pos some le f =
    let r = rows_of most h last t pos le f in
    record { above = h; upper = r.upper; last = last_level most last (level most h t) some r.row }
