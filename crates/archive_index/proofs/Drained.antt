-- Keys that an iterator over a slice returns are those of the slice.
use Rattle.std.proofs.Common.{◌≡◌, ◌∙◌, List, [], ◌∷◌, map, Option, refl, sym, ap, ap₂}
use Rattle.std.specs.Iterator.{Yields, Drains}
use Rattle.std.specs.Slice.Iter.{iter_rest, iter_steps}
use Rattle.std.specs.declared.slice.Iter.{Iter}
use Rattle.std.proofs.lemmas.Iterator.{YieldsList-from_slice, items_from_drains}
use Rattle.std.proofs.lemmas.Simd.{map-map}
use Rattle.archive_forms_laws.specs.Taking.{GivesAs}
use Rattle.archive_hash.specs.Given.{key_entry}
use Rattle.archive_hash.specs.Owned.{key_entries}

-- items that come as others are seen so
came_as : {I T C : Type 0} (view : T → C) (gives : I → Option T → I → Type 0) (from to : I) (ys : List C) → Yields (GivesAs view gives) from ys to
    → (xs : List T) × Yields gives from xs to × (map view xs ≡ ys)
came_as view gives from to [] h = ([], h, refl)
came_as view gives from to (y ∷ ys) h = let rest = came_as view gives h.0 to ys h.2 in (h.1.0 ∷ rest.0, (h.0, h.1.1, rest.1), ap₂ (λ a l. a ∷ l) h.1.2 rest.2)

pub keys_drained : {A : Type 0} (keys : List A) (it : Iter A) → iter_rest it ≡ keys → (es : List (A × Unit {0})) → Drains (GivesAs key_entry iter_steps) it es → key_entries keys ≡ es
keys_drained keys it is es d =
    let s = came_as key_entry iter_steps it d.1.0 es d.1.1 in
    let all : map (λ y. y.now) s.0 ≡ keys = items_from_drains s.0 (d.1.0, s.1, λ _. (d.0, d.1.2)) (YieldsList-from_slice keys is) in
    sym (ap key_entries all) ∙ map-map (λ k. (k, tt)) (λ y. y.now) s.0 ∙ s.2
