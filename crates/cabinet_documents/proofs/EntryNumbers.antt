-- The numbers in the buckets of a kept map are those that the bytes say, and each is below the number of entries.
use Rattle.std.proofs.Common.{◌≡◌, ℕ, zero, suc, ◌+◌, ◌-◌, ◌*◌, ◌<◌, ◌&&◌, ◌==◌, Bool, true, false, cond, nat_le, nat_lt, List, [], ◌∷◌, take, map, Some, refl, sym, ap, ap₂, subst, ◌∙◌, arith, ltb-true}
use Rattle.std.specs.Prelude.{⊤}
use Rattle.std.specs.List.{Contains, count_by}
use Rattle.archive_shape_layout.specs.Bytes.{window, word_at}
use Rattle.archive_shape_layout.specs.Shape.{Shape, align_of, size_of}
use Rattle.archive_shape_layout.specs.Shape.Pointee.{slice}
use Rattle.archive_shape_layout.specs.Value.{Value, Values, count_values}
use Rattle.archive_shape_layout.specs.Value.Value.{natural, group}
use Rattle.archive_shape_layout.specs.Value.Values.{no_values, more_values}
use Rattle.archive_shape_layout.specs.Content.{Names, Part, content_of, choose, made, members, place, control_count, wraps, buckets_span, buckets_content, place_content, pointee_content, tagged_items, elements}
use Rattle.archive_shape_layout.specs.Content.Part.{behind, buckets, place_at}
use Rattle.archive_shape_layout.specs.Content.Label.{leaf, second, whole}
use Rattle.archive_shape_layout.specs.Content.Content.{illegal, plain, claimed}
use Rattle.archive_shape_layout.specs.Holds.{Region, Visit, OpenShared, Holds, HoldAll}
use Rattle.archive_shape_layout.specs.Holds.HoldAll.{holds_none, holds_more}
use Rattle.archive_shape_layout.specs.Path.{value_in}
use Rattle.archive_shape_canonical.specs.Settled.{naturals}
use Rattle.archive_shape.proofs.Inverted.{IsKnown, held_is_known}
use Rattle.archive_forms_values.proofs.Pointed.{made_whole}
use Rattle.archive_shape_layout.proofs.Unique.{by_plain, by_claimed}
use Rattle.archive_shape_layout.proofs.Windows.{word_of}
use Rattle.cabinet_documents.specs.Table.{full_from}
use Rattle.cabinet_documents.proofs.Tables.{full_places, number_at, numbers_at}
use Rattle.cabinet_documents.proofs.Walkable.{PartsHold, parts_hold}

-- where buckets of numbers come first among parts
abbrev pub first_numbers : List ℕ → List Part → List ℕ
first_numbers bytes (buckets target len cap (place limit) ∷ ps) = numbers_at bytes target cap
first_numbers bytes ps = []

-- they are in the first of the parts' values
abbrev pub AreFirst : List ℕ → List Part → Values → Type 0
AreFirst bytes (buckets target len cap (place limit) ∷ ps) vs = value_in 0 vs ≡ Some (group (naturals (numbers_at bytes target cap)))
AreFirst bytes ps vs = ⊤

pub same_naturals : (ms ns : List ℕ) → naturals ms ≡ naturals ns → ms ≡ ns
same_naturals [] [] e = refl
same_naturals [] (n ∷ ns) e = absurd (cc)
same_naturals (m ∷ ms) [] e = absurd (cc)
same_naturals (m ∷ ms) (n ∷ ns) e = let here : m ≡ n = cc in let later : naturals ms ≡ naturals ns = cc in ap₂ (λ x xs. x ∷ xs) here (same_naturals ms ns later)

-- where the first values are the same, they are
pub same_numbers : (bytes others : List ℕ) (ps : List Part) (vs ws : Values) → AreFirst bytes ps vs → AreFirst others ps ws → value_in 0 vs ≡ value_in 0 ws → first_numbers bytes ps ≡ first_numbers others ps
same_numbers bytes others (buckets target len cap (place limit) ∷ ps) vs ws h k e =
    let both : Some (group (naturals (numbers_at bytes target cap))) ≡ Some (group (naturals (numbers_at others target cap))) = sym h ∙ e ∙ k in
    same_naturals (numbers_at bytes target cap) (numbers_at others target cap) (cc)
same_numbers bytes others ps vs ws h k e = refl

-- ---- where they hold

leaf_made : (u v : Value) (vs : Values) → made (leaf u) vs ≡ Some v → v ≡ u
unfolding made
leaf_made u v no_values e = cc
leaf_made u v (more_values w ws) e = absurd (cc)

module _ (names : Names) (bytes : List ℕ) where
  record NumberHeld (n limit : ℕ) (v : Value) : Type 0 where
    is : v ≡ natural n
    low : n < limit

  number_case : (n limit : ℕ) (below : Bool) {level : ℕ} {inside : List OpenShared} {p : Part} {v : Value} {regions : List Region} {before after : List Visit}
      → nat_lt n limit ≡ below → content_of names bytes p ≡ choose below (plain (leaf (natural n)) []) illegal → Holds names bytes level inside p v regions before after → NumberHeld n limit v
  unfolding choose
  number_case n limit true {v = v} t e h = let d = by_plain names bytes e h in record { is = leaf_made (natural n) v d.vs d.is_made; low = ltb-true n limit t }
  number_case n limit false t e h = absurd (subst IsKnown e (held_is_known names bytes h))

  number_held : (pos limit : ℕ) {level : ℕ} {inside : List OpenShared} {v : Value} {regions : List Region} {before after : List Visit}
      → Holds names bytes level inside (place_at pos limit) v regions before after → NumberHeld (word_at bytes pos) limit v
  unfolding place_content
  number_held pos limit h =
      number_case (word_at bytes pos) limit (nat_lt (word_at bytes pos) limit) refl (ap (λ n. choose (nat_lt n limit) (plain (leaf (natural n)) []) illegal) (word_of bytes pos)) h

  pub record NumbersHeld (target limit : ℕ) (ps : List ℕ) (vs : Values) : Type 0 where
    pub are : vs ≡ naturals (map (number_at bytes target) ps)
    pub low : (p : ℕ) → Contains ps p → number_at bytes target p < limit

  no_numbers : (target limit : ℕ) {level : ℕ} {inside : List OpenShared} {vs : Values} {regions : List Region} {before after : List Visit}
      → HoldAll names bytes level inside [] vs regions before after → NumbersHeld target limit [] vs
  no_numbers target limit (holds_none e f g) = record { are = e; low = λ p c. let a = c.1 in absurd (omega (arith, a)) }

  one_number : (target limit i : ℕ) (b : Bool) (parts : List Part) (ps : List ℕ) {level : ℕ} {inside : List OpenShared} {vs : Values} {regions : List Region} {before after : List Visit}
      → HoldAll names bytes level inside (cond b (place_at (target - (i + 1) * 4) limit ∷ parts) parts) vs regions before after
      → ((us : Values) (rs : List Region) (since : List Visit) → HoldAll names bytes level inside parts us rs since after → NumbersHeld target limit ps us)
      → NumbersHeld target limit (cond b (i ∷ ps) ps) vs
  one_number target limit i false parts ps all on = on _ _ _ all
  one_number target limit i true parts ps (holds_more h hs e r) on =
      let n = number_held (target - (i + 1) * 4) limit h in
      let later = on _ _ _ hs in
      record { are = e ∙ ap₂ more_values n.is later.are; low = by_place n.low later.low }
    where
      by_place : number_at bytes target i < limit → ((p : ℕ) → Contains ps p → number_at bytes target p < limit) → (p : ℕ) → Contains (i ∷ ps) p → number_at bytes target p < limit
      by_place here others p (zero, a, q) = subst (λ x. number_at bytes target x < limit) q here
      by_place here others p (suc n, a, q) = others p (n, omega (arith, a), q)

  numbers_held : (target limit i : ℕ) (cs : List ℕ) {level : ℕ} {inside : List OpenShared} {vs : Values} {regions : List Region} {before after : List Visit}
      → HoldAll names bytes level inside (tagged_items target (place limit) i cs) vs regions before after → NumbersHeld target limit (full_from i cs) vs
  unfolding tagged_items
  numbers_held target limit i [] all = no_numbers target limit all
  numbers_held target limit i (c ∷ cs) all =
      one_number target limit i (nat_lt c 128) (tagged_items target (place limit) (i + 1) cs) (full_from (i + 1) cs) all (λ us rs since hs. numbers_held target limit (i + 1) cs hs)

  -- all numbers of a kept map
  pub record BucketsHeld (target cap limit : ℕ) (v : Value) : Type 0 where
    pub is : v ≡ group (naturals (numbers_at bytes target cap))
    pub low : (p : ℕ) → Contains (full_places bytes target cap) p → number_at bytes target p < limit

  buckets_case : (b : Bool) (target len cap limit : ℕ) {level : ℕ} {inside : List OpenShared} {v : Value} {regions : List Region} {before after : List Visit}
      → content_of names bytes (buckets target len cap (place limit)) ≡ choose b (claimed (buckets_span target cap (place limit)) whole (tagged_items target (place limit) 0 (take cap (window bytes target (control_count cap))))) illegal
      → Holds names bytes level inside (buckets target len cap (place limit)) v regions before after → BucketsHeld target cap limit v
  unfolding choose
  buckets_case true target len cap limit {v = v} e h =
      let d = by_claimed names bytes e h in
      let n = numbers_held target limit 0 (take cap (window bytes target (control_count cap))) d.all in
      record { is = made_whole d.vs v d.is_made ∙ ap group n.are; low = n.low }
  buckets_case false target len cap limit e h = absurd (subst IsKnown e (held_is_known names bytes h))

  pub buckets_held : (target len cap limit : ℕ) {level : ℕ} {inside : List OpenShared} {v : Value} {regions : List Region} {before after : List Visit}
      → Holds names bytes level inside (buckets target len cap (place limit)) v regions before after → BucketsHeld target cap limit v
  unfolding buckets_content
  buckets_held target len cap limit h =
      let controls = window bytes target (control_count cap) in
      buckets_case (nat_le (cap * 4) target && (wraps cap controls 0 controls && (count_by (λ c. nat_lt c 128) (take cap controls) == len))) target len cap limit refl h

  -- ---- as many entries as their length says

  elements_counted : (pos n : ℕ) (s : Shape) {level : ℕ} {inside : List OpenShared} {vs : Values} {regions : List Region} {before after : List Visit}
      → HoldAll names bytes level inside (elements pos n s) vs regions before after → count_values vs ≡ n
  unfolding elements
  elements_counted pos zero s (holds_none e f g) = ap count_values e
  elements_counted pos (suc n) s (holds_more h hs e r) = let c = elements_counted (pos + size_of s) n s hs in ap count_values e ∙ omega (arith, c)

  pub slice_counted : (start n : ℕ) (s : Shape) {level : ℕ} {inside : List OpenShared} {v : Value} {regions : List Region} {before after : List Visit}
      → Holds names bytes level inside (behind start (slice s) n) v regions before after → count_values (members v) ≡ n
  unfolding pointee_content
  slice_counted start n s {v = v} h =
      let d = by_claimed names bytes {s = record { start = start; size = n * size_of s; align = align_of s }} {l = whole} {ps = elements start n s} refl h in
      ap (λ x. count_values (members x)) (made_whole d.vs v d.is_made) ∙ elements_counted start n s d.all

  -- ---- numbers that come first among parts

  pub numbers_first : {level : ℕ} {inside : List OpenShared} {ps : List Part} {vs : Values} {regions : List Region} {before after : List Visit}
      → HoldAll names bytes level inside ps vs regions before after → AreFirst bytes ps vs
  numbers_first (holds_none e f g) = tt
  numbers_first (holds_more {p = buckets target len cap (place limit)} h hs e r) = ap (value_in 0) e ∙ ap Some (buckets_held target len cap limit h).is
  numbers_first (holds_more h hs e r) = tt

  -- ---- what a kept map with entries leads to

  pub record IndexHeld (target cap len : ℕ) (vs : Values) (w : Value) : Type 0 where
    pub is : vs ≡ more_values (group (naturals (numbers_at bytes target cap))) (more_values w no_values)
    pub low : (p : ℕ) → Contains (full_places bytes target cap) p → number_at bytes target p < len
    pub counted : count_values (members w) ≡ len

  pub index_held : (target len cap n start : ℕ) (s : Shape) {ps : List Part} {vs : Values} {w : Value}
      → ps ≡ buckets target len cap (place n) ∷ (behind start (slice s) n ∷ []) → PartsHold names bytes ps vs → made second vs ≡ Some w → IndexHeld target cap n vs w
  unfolding made
  index_held target len cap n start s {vs = vs} {w = w} is h m = by_parts (subst (λ x. PartsHold names bytes x vs) is h)
    where
      by_parts : PartsHold names bytes (buckets target len cap (place n) ∷ (behind start (slice s) n ∷ [])) vs → IndexHeld target cap n vs w
      by_parts (parts_hold (holds_more {v = u} {vs = us} numbers (holds_more {v = x} entries (holds_none none f g) e r) both q)) =
          let b = buckets_held target len cap n numbers in
          let two : vs ≡ more_values u (more_values x no_values) = both ∙ ap (more_values u) (e ∙ ap (more_values x) none) in
          let o : made second (more_values u (more_values x no_values)) ≡ Some w = subst (λ y. made second y ≡ Some w) two m in
          let last : x ≡ w = cc in
          record { is = two ∙ ap₂ (λ y z. more_values y (more_values z no_values)) b.is last; low = b.low; counted = ap (λ y. count_values (members y)) (sym last) ∙ slice_counted start n s entries }
