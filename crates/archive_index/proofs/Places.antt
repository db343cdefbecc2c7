-- A table of the numbers of entries is one of numbers, which are below how many there are.
use Rattle.std.proofs.Common.{◌≡◌, ℕ, suc, ◌+◌, ◌-◌, ◌*◌, ◌<◌, ◌≤◌, nat_lt, Bool, true, false, cond, List, [], ◌∷◌, ◌++◌, take, Some, refl, sym, ap, subst, ◌∙◌, arith, add-zero}
use Rattle.archive_shape_layout.specs.Bytes.{window, word_at}
use Rattle.archive_shape_layout.specs.Value.{Value, Values}
use Rattle.archive_shape_layout.specs.Value.Value.{natural, group}
use Rattle.archive_shape_layout.specs.Value.Values.{no_values}
use Rattle.archive_shape_layout.specs.Content.{Names, Part, Content, made, choose, place_content, tagged_items, buckets_content, buckets_span, control_count, members}
use Rattle.archive_shape_layout.specs.Content.Item.{item, place}
use Rattle.archive_shape_layout.specs.Content.Part.{at, buckets, place_at}
use Rattle.archive_shape_layout.specs.Content.Label.{leaf, whole}
use Rattle.archive_shape_layout.specs.Content.Content.{claimed, illegal}
use Rattle.archive_shape_layout.specs.Holds.{Region, Visit, OpenShared, Holds, HoldAll}
use Rattle.archive_shape_layout.specs.Holds.Holds.{holds_plain, holds_claimed}
use Rattle.archive_shape_layout.specs.Holds.HoldAll.{holds_none, holds_more}
use Rattle.archive_shape_layout.proofs.Unique.{by_plain, by_claimed}
use Rattle.archive_shape.proofs.Inverted.{held_is_known}
use Rattle.archive_shape.proofs.Questions.{tested_known}
use Rattle.archive_shape_layout.proofs.Windows.{word_within}
use Rattle.archive_forms_laws.specs.Sample.{number_shape}
use Rattle.archive_hash_writing.proofs.IndexPlaces.{AreBelow, number_content}

chosen : (b : Bool) (x y : Content) → b ≡ true → choose b x y ≡ x
unfolding choose
chosen true x y e = refl
chosen false x y e = absurd cc

module _ (names : Names) (bytes : List ℕ) (limit : ℕ) where
  abbrev Turned : List Part → List Part → Type 0
  Turned qs ps =
      (level : ℕ) (inside : List OpenShared) (vs : Values) (regions : List Region) (before after : List Visit)
      → HoldAll names bytes level inside qs vs regions before after → HoldAll names bytes level inside ps vs regions before after × AreBelow limit vs

  turned_none : Turned [] []
  turned_none level inside vs regions before after (holds_none e f g) = (holds_none e f g, subst (AreBelow limit) (sym e) tt)

  -- the number of an entry
  record PlaceHolds (pos : ℕ) (v : Value) (regions : List Region) (before after : List Visit) : Type 0 where
    is : v ≡ natural (word_at bytes pos)
    below : word_at bytes pos < limit
    none : regions ≡ []
    stays : after ≡ before

  place_held : (pos : ℕ) {level : ℕ} {inside : List OpenShared} {v : Value} {regions : List Region} {before after : List Visit}
      → Holds names bytes level inside (place_at pos limit) v regions before after → PlaceHolds pos v regions before after
  unfolding place_content made
  place_held pos {v = v} h =
      let read : word_at (window bytes pos 4) 0 ≡ word_at bytes pos = word_within bytes pos 4 0 (omega arith) ∙ ap (word_at bytes) (add-zero pos) in
      let tested = tested_known _ _ (held_is_known names bytes h) in
      let says = by_plain names bytes (chosen _ _ _ tested.0) h in
      ended (word_at (window bytes pos 4) 0) v read (Rattle.std.proofs.Common.ltb-true _ _ tested.0) says.is_made says.all
    where
      ended : (n : ℕ) (v : Value) {level : ℕ} {inside : List OpenShared} {vs : Values} {regions : List Region} {before after : List Visit} → n ≡ word_at bytes pos → n < limit → made (leaf (natural n)) vs ≡ Some v → HoldAll names bytes level inside [] vs regions before after → PlaceHolds pos v regions before after
      ended n v e less m (holds_none f g i) =
          let one : made (leaf (natural n)) no_values ≡ Some v = subst (λ xs. made (leaf (natural n)) xs ≡ Some v) f m in
          let same : natural n ≡ v = cc in
          record { is = sym same ∙ ap natural e; below = subst (λ x. x < limit) e less; none = g; stays = i }

  turned_more : (pos : ℕ) (qs ps : List Part) → Turned qs ps → Turned (place_at pos limit ∷ qs) (at pos number_shape ∷ ps)
  unfolding made
  turned_more pos qs ps rest level inside vs regions before after (holds_more {v = u} {vs = us} {later = later} {between = between} h hs is joined) =
      let one = place_held pos h in
      let others = rest level inside us later between after hs in
      let same : natural (word_at bytes pos) ≡ u = sym one.is in (
        holds_more (holds_plain (number_content names bytes pos) tt (holds_none refl one.none one.stays) (ap Some same)) others.0 is joined,
        subst (AreBelow limit) (sym is) (record { number = word_at bytes pos; is = one.is; below = one.below }, others.1),
      )

  by_control : (b : Bool) (pos : ℕ) (qs ps : List Part) → Turned qs ps → Turned (cond b (place_at pos limit ∷ qs) qs) (cond b (at pos number_shape ∷ ps) ps)
  by_control true pos qs ps rest = turned_more pos qs ps rest
  by_control false pos qs ps rest = rest

  turned_all : (target i : ℕ) (cs : List ℕ) → Turned (tagged_items target (place limit) i cs) (tagged_items target (item number_shape) i cs)
  unfolding tagged_items
  turned_all target i [] = turned_none
  turned_all target i (c ∷ cs) =
      by_control (nat_lt c 128) (target - (i + 1) * 4) (tagged_items target (place limit) (i + 1) cs) (tagged_items target (item number_shape) (i + 1) cs) (turned_all target (i + 1) cs)

  pub record AreNumbers (target len cap level : ℕ) (inside : List OpenShared) (v : Value) (regions : List Region) (before after : List Visit) : Type 0 where
    pub holds : Holds names bytes level inside (buckets target len cap (item number_shape)) v regions before after
    pub below : AreBelow limit (members v)

  -- buckets of the numbers of entries
  pub places_as_numbers : (target len cap : ℕ) {level : ℕ} {inside : List OpenShared} {v : Value} {regions : List Region} {before after : List Visit}
      → Holds names bytes level inside (buckets target len cap (place limit)) v regions before after → AreNumbers target len cap level inside v regions before after
  unfolding buckets_content buckets_span made
  places_as_numbers target len cap {level} {inside} {v} {regions} {before} {after} h =
      let tested = tested_known _ _ (held_is_known names bytes h) in
      let says = by_claimed names bytes (chosen _ _ _ tested.0) h in
      let turned = turned_all target 0 (take cap (window bytes target (control_count cap))) (suc level) inside says.vs says.within before after says.all in
      record {
        holds = holds_claimed (chosen _ (claimed (buckets_span target cap (item number_shape)) whole (tagged_items target (item number_shape) 0 (take cap (window bytes target (control_count cap))))) illegal tested.0) tt turned.0 says.is_made says.regions_are;
        below = below_of says.vs says.is_made turned.1;
      }
    where
      below_of : (vs : Values) → made whole vs ≡ Some v → AreBelow limit vs → AreBelow limit (members v)
      below_of vs m b = let same : v ≡ group vs = cc in subst (λ x. AreBelow limit (members x)) (sym same) b
