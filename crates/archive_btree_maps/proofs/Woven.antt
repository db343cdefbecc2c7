-- How many items children and entries have, woven.
use Rattle.std.proofs.Common.{◌≡◌, ℕ, zero, suc, ◌+◌, List, refl, ap, ap₂, ◌∙◌, arith}
use Rattle.archive_shape_layout.specs.Shape.{Shape, size_of}
use Rattle.archive_shape_layout.specs.Value.{Values, append_values, count_values}
use Rattle.archive_shape_layout.specs.Value.Values.{no_values, more_values}
use Rattle.archive_shape_layout.specs.Content.{Names, members, weave, first_values, other_values, entries, children}
use Rattle.archive_shape_layout.specs.Holds.{Region, Visit, OpenShared, HoldAll}
use Rattle.archive_shape_layout.specs.Holds.HoldAll.{holds_none, holds_more}
use Rattle.archive_btree_maps.specs.Counts.{count_each}

count_append : (xs ys : Values) → count_values (append_values xs ys) ≡ count_values xs + count_values ys
count_append no_values ys = omega arith
count_append (more_values x xs) ys = let rest = count_append xs ys in omega (arith, rest)

-- one entry fewer than children
pub count_woven : (cs es : Values) → count_values cs ≡ suc (count_values es) → count_values (weave cs es) ≡ count_each cs + count_values es
count_woven no_values es n = absurd (omega arith)
count_woven (more_values c no_values) no_values n = omega arith
count_woven (more_values c (more_values d cs)) no_values n = absurd (omega arith)
count_woven (more_values c cs) (more_values e es) n =
    let here = count_append (members c) (more_values e (weave cs es)) in
    let rest = count_woven cs es (omega arith) in
    omega (arith, here, rest)

first_of : (n : ℕ) (xs ys : Values) → count_values xs ≡ n → first_values n (append_values xs ys) ≡ xs
first_of zero no_values ys is = refl
first_of zero (more_values x xs) ys is = absurd (omega arith)
first_of (suc n) no_values ys is = absurd (omega arith)
first_of (suc n) (more_values x xs) ys is = ap (more_values x) (first_of n xs ys (omega arith))

others_of : (n : ℕ) (xs ys : Values) → count_values xs ≡ n → other_values n (append_values xs ys) ≡ ys
others_of zero no_values ys is = refl
others_of zero (more_values x xs) ys is = absurd (omega arith)
others_of (suc n) no_values ys is = absurd (omega arith)
others_of (suc n) (more_values x xs) ys is = others_of n xs ys (omega arith)

pub count_inner : (n : ℕ) (cs es : Values) → count_values cs ≡ n → n ≡ suc (count_values es) → count_values (weave (first_values n (append_values cs es)) (other_values n (append_values cs es))) ≡ count_each cs + count_values es
count_inner n cs es is more = ap₂ (λ x y. count_values (weave x y)) (first_of n cs es is) (others_of n cs es is) ∙ count_woven cs es (is ∙ more)

module _ (names : Names) (bytes : List ℕ) (k v : Shape) where
  pub entries_held :
      (n : ℕ) {level : ℕ} {inside : List OpenShared} (key value : ℕ) {vs : Values} {rs : List Region} {before after : List Visit}
      → HoldAll names bytes level inside (entries n k key v value) vs rs before after
      → count_values vs ≡ n
  unfolding entries
  entries_held zero key value (holds_none e f g) = ap count_values e
  entries_held (suc n) key value (holds_more h all e f) =
      ap count_values e ∙ (let rest = entries_held n (key + size_of k) (value + size_of v) all in omega arith)

  pub children_held :
      (n below most : ℕ) {level : ℕ} {inside : List OpenShared} (link : ℕ) {vs : Values} {rs : List Region} {before after : List Visit}
      → HoldAll names bytes level inside (children n below most k v link) vs rs before after
      → count_values vs ≡ n
  unfolding children
  children_held zero below most link (holds_none e f g) = ap count_values e
  children_held (suc n) below most link (holds_more h all e f) =
      ap count_values e ∙ (let rest = children_held n below most (link + 4) all in omega arith)
