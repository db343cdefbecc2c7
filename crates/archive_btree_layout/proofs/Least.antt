-- Of packed trees: their items determine them, their height follows from the number of their items, and no tree with
-- the same number of items has fewer nodes or less height.
use Rattle.std.proofs.Common.{◌≡◌, ◌∙◌, ℕ, zero, suc, ◌+◌, ◌-◌, ◌*◌, ◌^◌, ◌<◌, ◌≤◌, min, max, List, [], ◌∷◌, ◌++◌, length, map, replicate, All, ◌⊎◌, inl, inr, refl, ap, sym, subst, arith, length-append}
use Rattle.std.proofs.lemmas.Bool.{cases_lt}
use Rattle.std.proofs.Math.Nat.{mul-le-mul_left, mul-le-mul_right, pow-succ', pow-zero}
use Rattle.std.proofs.lemmas.List.Elements.{All-head, All-tail}
use Rattle.archive_btree_layout.specs.Tree.{Tree, Branches, items, items_of, entries_of, count_nodes, count_nodes_of, height, height_of}
use Rattle.archive_btree_layout.specs.Tree.Tree.{absent, leaf, inner}
use Rattle.archive_btree_layout.specs.Tree.Branches.{greater, lesser}
use Rattle.archive_btree_layout.specs.Packed.{level, IsPacked, IsBounded, AreBounded}
use Rattle.archive_btree_layout.proofs.Filling.{width, room, Fills, FillsAll, Row, Row-at, width_pos, count_of, count_of_all, left_after}
use Rattle.archive_btree_layout.proofs.Filling.Fills.{fills_none, fills_last, fills_leaf, fills_inner}
use Rattle.archive_btree_layout.proofs.Filling.FillsAll.{fills_greater, fills_lesser}
use Rattle.archive_btree_layout.proofs.Filling.Takes.{takes_none, takes}
use Rattle.archive_btree_layout.proofs.Packing.{fills_of, size_of_level}

-- ---- the number of entries in the last level

no_row : (A : Type 0) (most n k : ℕ) → n ≡ 0 → Row {A = A} most n (replicate k absent)
no_row A most n zero z = z
no_row A most n (suc k) z = (takes_none z refl, no_row A most (n - most) k (omega arith))

row_of : {A : Type 0} (most free : ℕ) (full : List (List A)) (ending : List A) → All (λ es. length es ≡ most) full → 0 < length ending → length ending ≤ most
    → Row most (most * length full + length ending) (map leaf full ++ leaf ending ∷ replicate free absent)
row_of {A} most free [] ending f s b = (takes (omega arith) refl (omega arith), no_row A most (most * 0 + length ending - most) free (omega arith))
row_of most free (es ∷ full) ending f s b =
    let own : length es ≡ most = All-head (λ xs. length xs ≡ most) es full f in
    let rest = row_of most free full ending (All-tail (λ xs. length xs ≡ most) es full f) s b in
    (takes (omega arith) refl (omega arith), Row-at most (map leaf full ++ leaf ending ∷ replicate free absent) (omega arith) rest)

row_fits : {A : Type 0} (most n : ℕ) (ts : List (Tree A)) → Row most n ts → n ≤ most * length ts
row_fits most n [] r = omega arith
row_fits most n (t ∷ ts) r = let h = row_fits most (n - most) ts r.1 in omega arith

-- what is packed is filled by counts
pub record Filled {A : Type 0} (most : ℕ) (t : Tree A) (above : ℕ) : Type 0 where
  pub last : ℕ
  pub some : 0 < last
  pub fits : last ≤ room most above
  pub fills : Fills most above last t

pub filled : {A : Type 0} (most : ℕ) (t : Tree A) → 0 < most → (p : IsPacked most t) → Filled most t p.above
filled most t pos p =
    let l = p.last in
    let r = row_of most l.free l.full l.ending l.filled l.some l.bounded in
    let row : Row most (most * length l.full + length l.ending) (level most p.above t) = subst (λ ts. Row most (most * length l.full + length l.ending) ts) (sym l.stand) r in
    let some = l.some in
    let wide = size_of_level most p.above t pos p.upper in
    let fit = row_fits most (most * length l.full + length l.ending) (level most p.above t) row in
    record {
      last = most * length l.full + length l.ending;
      some = omega arith;
      fits = subst (λ w. most * length l.full + length l.ending ≤ most * w) wide fit;
      fills = fills_of most p.above (most * length l.full + length l.ending) t pos p.upper row;
    }

-- ---- the height

width_power : (most g : ℕ) → width most g ≡ suc most ^ g
width_power most zero = sym (pow-zero (suc most))
width_power most (suc g) = rw (width_power most g) (sym (pow-succ' (suc most) g))

between : (w last most n : ℕ) → n + 1 ≡ w + last → 0 < last → last ≤ most * w → (w ≤ n) × (n < suc most * w)
between w last most n e s f = (omega arith, omega arith)

pub packed_between : {A : Type 0} (most : ℕ) (t : Tree A) → 0 < most → (p : IsPacked most t) → (width most p.above ≤ length (items t)) × (length (items t) < width most (suc p.above))
packed_between most t pos p =
    let f = filled most t pos p in
    between (width most p.above) f.last most (length (items t)) (count_of most p.above f.last t f.fills) f.some f.fits

pub packed_height : {A : Type 0} (most : ℕ) (t : Tree A) → 0 < most → (p : IsPacked most t) → (suc most ^ p.above ≤ length (items t)) × (length (items t) < suc most ^ suc p.above)
packed_height most t pos p =
    let b = packed_between most t pos p in
    (subst (λ w. w ≤ length (items t)) (width_power most p.above) b.0, subst (λ w. length (items t) < w) (width_power most (suc p.above)) b.1)

width_grows : (most g h : ℕ) → g ≤ h → width most g ≤ width most h
width_grows most zero h le = width_pos most h
width_grows most (suc g) zero le = absurd (omega arith)
width_grows most (suc g) (suc h) le = mul-le-mul_left (suc most) (width_grows most g h (omega arith))

-- ---- the items determine it

pub data View {A : Type 0} (most g n : ℕ) (t : Tree A) : Type 0 where
  view_leaf : n + g ≡ 0 → t ≡ leaf (items t) → View most g n t
  view_inner : {bs : Branches A} → 0 < n + g → t ≡ inner bs → FillsAll most g most n bs → View most g n t

view : {A : Type 0} (most g n : ℕ) (t : Tree A) → Fills most (suc g) n t → View most g n t
view most g n t (fills_none a b c) = absurd (omega arith)
view most g n t (fills_last a b c d) = absurd (omega arith)
view most g n t (fills_leaf {es = es} a b c d) = view_leaf (omega arith) (subst (λ u. u ≡ leaf (items u)) (sym c) refl)
view most g n t (fills_inner {g = f} {bs = bs} a b c d) =
    let same : f ≡ g = omega arith in
    view_inner (omega arith) c (subst (λ i. FillsAll most i most n bs) same d)

lowest : {A : Type 0} (most n : ℕ) (t : Tree A) → Fills most zero n t → ((n ≡ 0) × (t ≡ absent)) ⊎ ((0 < n) × (t ≡ leaf (items t)))
lowest most n t (fills_none a b c) = inl (b, c)
lowest most n t (fills_last {es = es} a b c d) = inr (b, subst (λ u. u ≡ leaf (items u)) (sym c) refl)
lowest most n t (fills_leaf a b c d) = absurd (omega arith)
lowest most n t (fills_inner a b c d) = absurd (omega arith)

first_same : {A : Type 0} (xs ys : List A) (e f : A) (us vs : List A) → length xs ≡ length ys → xs ++ e ∷ us ≡ ys ++ f ∷ vs → (xs ≡ ys) × (e ≡ f) × (us ≡ vs)
first_same [] [] e f us vs l s = (refl, cc, cc)
first_same [] (y ∷ ys) e f us vs l s = absurd (omega arith)
first_same (x ∷ xs) [] e f us vs l s = absurd (omega arith)
first_same (x ∷ xs) (y ∷ ys) e f us vs l s =
    let head : x ≡ y = cc in
    let tail : xs ++ e ∷ us ≡ ys ++ f ∷ vs = cc in
    let rest = first_same xs ys e f us vs (omega arith) tail in
    (cc, rest.1, rest.2)

abbrev One : Type 0 → ℕ → ℕ → Type 0
One A most g = (n : ℕ) (t u : Tree A) → Fills most g n t → Fills most g n u → items t ≡ items u → t ≡ u

one_branches : {A : Type 0} (most g : ℕ) → One A most g → (k n : ℕ) (bs cs : Branches A) → FillsAll most g k n bs → FillsAll most g k n cs → items_of bs ≡ items_of cs → bs ≡ cs
one_branches most g one k n bs cs (fills_greater {t = t} a b c) (fills_greater {t = u} x y z) e =
    let bare : items t ≡ items u = subst (λ i. items_of i ≡ items u) b (subst (λ i. items_of bs ≡ items_of i) y e) in
    let same = one n t u c z bare in
    cc
one_branches most g one k n bs cs (fills_greater a b c) (fills_lesser x y w z v) e = absurd (omega arith)
one_branches most g one k n bs cs (fills_lesser a b w c d) (fills_greater x y z) e = absurd (omega arith)
one_branches most g one k n bs cs (fills_lesser {j = j} {share = share} {cs = ds} {t = t} {e = p} a b w c d) (fills_lesser {j = i} {share = portion} {cs = fs} {t = u} {e = q} x y s z v) e =
    let shares : portion ≡ share = omega arith in
    let left : i ≡ j = omega arith in
    let z' : Fills most g share u = subst (λ m. Fills most g m u) shares z in
    let v' : FillsAll most g j (n - share) fs = subst (λ m. FillsAll most g j (n - m) fs) shares (subst (λ m. FillsAll most g m (n - portion) fs) left v) in
    let bare : items t ++ p ∷ items_of ds ≡ items u ++ q ∷ items_of fs =
    subst (λ m. items_of m ≡ items u ++ q ∷ items_of fs) b (subst (λ m. items_of bs ≡ items_of m) y e)
    in
    let counts : length (items t) ≡ length (items u) = let m = count_of most g share t c in let m' = count_of most g share u z' in omega arith in
    let parts = first_same (items t) (items u) p q (items_of ds) (items_of fs) counts bare in
    let firsts = one share t u c z' parts.0 in
    let entries = parts.1 in
    let rests = one_branches most g one j (n - share) ds fs d v' parts.2 in
    cc

pub one_filled : {A : Type 0} (most h : ℕ) → One A most h
one_filled most zero n t u a b e =
    elim (lowest most n t a) [
      | inl x ↦ elim (lowest most n u b) [ inl y ↦ x.1 ∙ sym y.1 | inr y ↦ absurd (omega arith) ]
      | inr x ↦ elim (lowest most n u b) [ inl y ↦ absurd (omega arith) | inr y ↦ x.1 ∙ (ap leaf e ∙ sym y.1) ]
    ]
one_filled {A} most (suc g) n t u a b e =
    elim (view most g n t a) [
      | view_leaf x y ↦ elim (view most g n u b) [ view_leaf v w ↦ y ∙ (ap leaf e ∙ sym w) | view_inner {bs = cs} v w z ↦ absurd (omega arith) ]
      | view_inner {bs} x y f ↦
          elim (view most g n u b) [
            | view_leaf v w ↦ absurd (omega arith)
            | view_inner {bs = cs} v w z ↦
                let bare : items_of bs ≡ items_of cs = subst (λ i. items i ≡ items_of cs) y (subst (λ i. items t ≡ items i) w e) in
                y ∙ (ap inner (one_branches most g (one_filled {A = A} most g) most n bs cs f z bare) ∙ sym w)
          ]
    ]

same_above : (most g h n : ℕ) → width most g ≤ n → n < width most (suc g) → width most h ≤ n → n < width most (suc h) → g ≡ h
same_above most g h n a b c d =
    elim (cases_lt g h) [
      | inl low ↦ let w = width_grows most (suc g) h (omega arith) in absurd (omega arith)
      | inr up ↦
          elim (cases_lt h g) [
            | inl high ↦ let w = width_grows most (suc h) g (omega arith) in absurd (omega arith)
            | inr equal ↦ omega arith
          ]
    ]

pub one_packed : {A : Type 0} (most : ℕ) (t u : Tree A) → 0 < most → IsPacked most t → IsPacked most u → items t ≡ items u → t ≡ u
one_packed {A} most t u pos p q e =
    let f = filled most t pos p in
    let h = filled most u pos q in
    let a = packed_between most t pos p in
    let b = packed_between most u pos q in
    let counts : length (items t) ≡ length (items u) = ap length e in
    let above : q.above ≡ p.above = same_above most q.above p.above (length (items t)) (omega arith) (omega (arith, b.1)) a.0 a.1 in
    let m = count_of most p.above f.last t f.fills in
    let at : Fills most p.above h.last u = subst (λ i. Fills most i h.last u) above h.fills in
    let m' = count_of most p.above h.last u at in
    let lasts : h.last ≡ f.last = omega arith in
    one_filled {A = A} most p.above f.last t u f.fills (subst (λ i. Fills most p.above i u) lasts at) e

-- ---- no tree with the same number of items is less

mutual
  pub items_bounded : {A : Type 0} (most : ℕ) (t : Tree A) → IsBounded most t → length (items t) ≤ most * count_nodes t
  items_bounded most absent b = omega arith
  items_bounded most (leaf es) b = omega arith
  items_bounded most (inner bs) b = let h = items_bounded_in most bs b.1 in omega (arith, b.0)

  pub items_bounded_in : {A : Type 0} (most : ℕ) (bs : Branches A) → AreBounded most bs → length (items_of bs) ≤ most * count_nodes_of bs + length (entries_of bs)
  items_bounded_in most (greater t) b = let h = items_bounded most t b in omega arith
  items_bounded_in most (lesser t e bs) b =
      let h = items_bounded most t b.0 in
      let i = items_bounded_in most bs b.1 in
      rw length-append (omega arith)

mutual
  pub items_within : {A : Type 0} (most : ℕ) (t : Tree A) → IsBounded most t → length (items t) + 1 ≤ width most (height t)
  items_within most absent b = omega arith
  items_within most (leaf es) b = omega arith
  items_within most (inner bs) b =
      let h = items_within_in most bs b.1 in
      let le : suc (length (entries_of bs)) * width most (height_of bs) ≤ suc most * width most (height_of bs) = mul-le-mul_right (width most (height_of bs)) (omega (arith, b.0)) in
      omega arith

  pub items_within_in : {A : Type 0} (most : ℕ) (bs : Branches A) → AreBounded most bs → length (items_of bs) + 1 ≤ suc (length (entries_of bs)) * width most (height_of bs)
  items_within_in most (greater t) b = let h = items_within most t b in omega arith
  items_within_in most (lesser t e bs) b =
      let h = items_within most t b.0 in
      let i = items_within_in most bs b.1 in
      let w = width_grows most (height t) (max (height t) (height_of bs)) (omega arith) in
      let v = width_grows most (height_of bs) (max (height t) (height_of bs)) (omega arith) in
      let le : suc (length (entries_of bs)) * width most (height_of bs) ≤ suc (length (entries_of bs)) * width most (max (height t) (height_of bs)) = mul-le-mul_left (suc (length (entries_of bs))) v in
      rw length-append (omega arith)

-- what the leaves of the last level have left
pub record Spare (most nodes count last : ℕ) : Type 0 where
  pub spare : ℕ
  pub sum : most * nodes ≡ count + spare
  pub few : spare < most
  pub none : (m : ℕ) → last ≡ most * m → spare ≡ 0

remainder : (most last m : ℕ) → last ≤ most → 0 < last → 0 < most → last ≡ most * m → most - last ≡ 0
remainder most last zero a b p e = absurd (omega arith)
remainder most last (suc m) a b p e = omega arith

le_of_lt : {a b : ℕ} → a < b → a ≤ b
le_of_lt h = omega arith

left_of : (most w last share i : ℕ) → share ≡ most * w → last ≡ most * i → last - share ≡ most * (i - w)
left_of most w last share i a b =
    elim (cases_lt i w) [
      | inl low ↦ let m = mul-le-mul_left most (le_of_lt low) in let z : i - w ≡ 0 = omega arith in rw z (omega arith)
      | inr up ↦ let e : i ≡ w + (i - w) = omega arith in let f : most * i ≡ most * (w + (i - w)) = ap (λ x. most * x) e in omega arith
    ]

spare_lesser : (most w last share n m x y : ℕ) → 0 < most → share ≡ min last (most * w) → Spare most n x share → Spare most m y (last - share) → Spare most (n + m) (x + y) last
spare_lesser most w last share n m x y pos is a b =
    elim (cases_lt last (most * w)) [
      | inl part ↦
          let rest = b.none 0 (omega arith) in
          let same : share ≡ last = omega arith in
          let sa = a.sum in
          let sb = b.sum in
          record { spare = a.spare; sum = omega arith; few = a.few; none = λ i e. a.none i (omega arith) }
      | inr whole ↦
          let full : share ≡ most * w = omega arith in
          let here = a.none w full in
          let sa = a.sum in
          let sb = b.sum in
          record { spare = b.spare; sum = omega arith; few = b.few; none = λ i e. b.none (i - w) (left_of most w last share i full e) }
    ]

many_items : (j w last n : ℕ) → 0 < w → n + 1 ≡ suc j * w + last → j ≤ n
many_items j w last n pos e = let le = mul-le-mul_left (suc j) pos in omega arith

mutual
  spare_of : {A : Type 0} (most h last : ℕ) (t : Tree A) → 0 < most → last ≤ room most h → Fills most h last t → Spare most (count_nodes t) (length (items t)) last
  spare_of most h last t pos le (fills_none a b c) = subst (λ u. Spare most (count_nodes u) (length (items u)) last) (sym c) (record { spare = 0; sum = omega arith; few = pos; none = λ m e. refl })
  spare_of most h last t pos le (fills_last {es = es} a b c d) =
      let room_of : last ≤ most * width most 0 = subst (λ i. last ≤ room most i) a le in
      let one : last ≤ most = omega arith in
      subst (λ u. Spare most (count_nodes u) (length (items u)) last) (sym c)
      (record { spare = most - last; sum = omega arith; few = omega arith; none = λ m e. remainder most last m one b pos e })
  spare_of most h last t pos le (fills_leaf {es = es} a b c d) =
      subst (λ u. Spare most (count_nodes u) (length (items u)) last) (sym c) (record { spare = 0; sum = omega arith; few = pos; none = λ m e. refl })
  spare_of most h last t pos le (fills_inner {g = g} {bs = bs} a b c d) =
      let deep : last ≤ most * width most (suc g) = subst (λ i. last ≤ room most i) a le in
      let fits : last ≤ suc most * room most g = omega arith in
      let s = spare_of_all most g most last bs pos fits d in
      let sum = s.sum in
      let many : most ≤ length (items_of bs) = many_items most (width most g) last (length (items_of bs)) (width_pos most g) (count_of_all most g most last bs d) in
      subst (λ u. Spare most (count_nodes u) (length (items u)) last) (sym c) (record { spare = s.spare; sum = omega arith; few = s.few; none = s.none })

  spare_of_all : {A : Type 0} (most g k last : ℕ) (bs : Branches A) → 0 < most → last ≤ suc k * room most g → FillsAll most g k last bs
      → Spare most (count_nodes_of bs) (length (items_of bs) - k) last
  spare_of_all most g k last bs pos le (fills_greater {t = t} a b c) =
      let one : last ≤ suc 0 * room most g = subst (λ i. last ≤ suc i * room most g) a le in
      let s = spare_of most g last t pos (omega arith) c in
      let sum = s.sum in
      subst (λ u. Spare most (count_nodes_of u) (length (items_of u) - k) last) (sym b) (record { spare = s.spare; sum = omega arith; few = s.few; none = s.none })
  spare_of_all most g k last bs pos le (fills_lesser {j = j} {share = share} {cs = cs} {t = t} {e = e} a b is c d) =
      let fits : last ≤ suc (suc j) * room most g = subst (λ i. last ≤ suc i * room most g) a le in
      let s = spare_of most g share t pos (omega arith) c in
      let r = spare_of_all most g j (last - share) cs pos (left_after last share (room most g) j is fits) d in
      let both = spare_lesser most (width most g) last share (count_nodes t) (count_nodes_of cs) (length (items t)) (length (items_of cs) - j) pos is s r in
      let enough = count_of_all most g j (last - share) cs d in
      let wide = width_pos most g in
      let many : j ≤ length (items_of cs) = many_items j (width most g) (last - share) (length (items_of cs)) wide enough in
      let sum = both.sum in
      subst (λ u. Spare most (count_nodes_of u) (length (items_of u) - k) last) (sym b)
      (record { spare = both.spare; sum = rw length-append (omega arith); few = both.few; none = both.none })

fewest : (most nodes others n spare : ℕ) → most * nodes ≡ n + spare → spare < most → n ≤ most * others → nodes ≤ others
fewest most nodes others n spare a b c =
    elim (cases_lt others nodes) [
      | inl more ↦ let m = mul-le-mul_left most more in absurd (omega arith)
      | inr fine ↦ fine
    ]

pub fewest_nodes : {A : Type 0} (most : ℕ) (t u : Tree A) → 0 < most → IsPacked most t → IsBounded most u → length (items t) ≡ length (items u) → count_nodes t ≤ count_nodes u
fewest_nodes most t u pos p b e =
    let f = filled most t pos p in
    let s = spare_of most p.above f.last t pos f.fits f.fills in
    let h = items_bounded most u b in
    fewest most (count_nodes t) (count_nodes u) (length (items t)) s.spare s.sum s.few (omega arith)

-- the height of what is filled
mutual
  height_filled : {A : Type 0} (most h last : ℕ) (t : Tree A) → Fills most h last t → height t ≤ suc h
  height_filled most h last t (fills_none a b c) = rw c (omega arith)
  height_filled most h last t (fills_last a b c d) = rw c (omega arith)
  height_filled most h last t (fills_leaf a b c d) = rw c (omega arith)
  height_filled most h last t (fills_inner {g = g} {bs = bs} a b c d) = let i = height_filled_in most g most last bs d in rw c (omega arith)

  height_filled_in : {A : Type 0} (most g k last : ℕ) (bs : Branches A) → FillsAll most g k last bs → height_of bs ≤ suc g
  height_filled_in most g k last bs (fills_greater {t = t} a b c) = let h = height_filled most g last t c in rw b (omega arith)
  height_filled_in most g k last bs (fills_lesser {j = j} {share = share} {cs = cs} {t = t} a b is c d) =
      let h = height_filled most g share t c in
      let i = height_filled_in most g j (last - share) cs d in
      rw b (omega arith)

pub least_height : {A : Type 0} (most : ℕ) (t u : Tree A) → 0 < most → IsPacked most t → IsBounded most u → length (items t) ≡ length (items u) → height t ≤ height u
least_height most t u pos p b e =
    let f = filled most t pos p in
    let top = height_filled most p.above f.last t f.fills in
    let between = packed_between most t pos p in
    let within = items_within most u b in
    elim (cases_lt (height u) (suc p.above)) [
      | inl low ↦ let w = width_grows most (height u) p.above (omega arith) in absurd (omega (arith, between.0))
      | inr up ↦ omega arith
    ]
