-- What is at a shared position, by the positions that are open and those that were visited.
use Rattle.std.proofs.Common.{◌≡◌, ℕ, Bool, true, false, List, [], ◌∷◌, Option, Some, None, refl, sym, ap, ◌∙◌, inl, inr}
use Rattle.std.proofs.lemmas.Bool.{eq-eqb, ne_eqb}
use Rattle.std.proofs.lemmas.Bool.Decides.{eqb_tells}
use Rattle.archive_shape_layout.specs.Shape.{Pointee}
use Rattle.archive_shape_layout.specs.Value.{Value}
use Rattle.archive_shape_layout.specs.Holds.{Visit, OpenShared, open_at, visited}
use Rattle.archive_shape.specs.PartFault.{Entry, entry_of, entry_at}
use Rattle.archive_shape.specs.Kept.{Seen, seen_with, Records}

-- ---- what is found at a position is there

open_stands : (os : List OpenShared) (t : ℕ) (o : OpenShared) → open_at os t ≡ Some o → o.pos ≡ t
open_stands [] t o e = absurd (cc)
open_stands (x ∷ os) t o e =
    elim (eqb_tells x.pos t) [
      | inl is ↦
          let found : ◌≡◌ {A = Option OpenShared} (Some x) (Some o) = rw is.0 at e in
          let same : x ≡ o = cc in
          sym (ap (λ (y : OpenShared). y.pos) same) ∙ is.1
      | inr differs ↦ open_stands os t o (rw differs.0 at e)
    ]

visit_stands : (vs : List Visit) (t : ℕ) (v : Visit) → visited vs t ≡ Some v → v.pos ≡ t
visit_stands [] t v e = absurd (cc)
visit_stands (x ∷ vs) t v e =
    elim (eqb_tells x.pos t) [
      | inl is ↦
          let found : ◌≡◌ {A = Option Visit} (Some x) (Some v) = rw is.0 at e in
          let same : x ≡ v = cc in
          sym (ap (λ (y : Visit). y.pos) same) ∙ is.1
      | inr differs ↦ visit_stands vs t v (rw differs.0 at e)
    ]

-- ---- by what is recorded

pub record Nothing (o : Option OpenShared) (v : Option Visit) : Type 0 where
  pub open_nowhere : o ≡ None
  pub not_visited : v ≡ None

pub nothing_met : (o : Option OpenShared) (v : Option Visit) → entry_of o v ≡ None → Nothing o v
nothing_met (Some o) v e = absurd (cc)
nothing_met None (Some v) e = absurd (cc)
nothing_met None None e = record { open_nowhere = refl; not_visited = refl }

module _ (q : Pointee) (n : ℕ) where
  abbrev pub recorded : Bool → Entry
  recorded done = record { pointee = q; len = n; done = done }

  one_record : (x y : Entry) → ◌≡◌ {A = Option Entry} (Some x) (Some y) → x ≡ y
  one_record x y e = cc

  open_met : (o : Option OpenShared) (v : Option Visit) → entry_of o v ≡ Some (recorded false) → (x : OpenShared) × (o ≡ Some x) × (x.pointee ≡ q) × (x.len ≡ n)
  open_met (Some x) v e =
      let same = one_record (record { pointee = x.pointee; len = x.len; done = false }) (recorded false) e in
      (x, refl, ap (λ (y : Entry). y.pointee) same, ap (λ (y : Entry). y.len) same)
  open_met None (Some v) e =
      let ended : true ≡ false = ap (λ (y : Entry). y.done) (one_record (record { pointee = v.pointee; len = v.len; done = true }) (recorded false) e) in
      absurd (cc)
  open_met None None e = absurd (cc)

  ended_met : (o : Option OpenShared) (v : Option Visit) → entry_of o v ≡ Some (recorded true) → (o ≡ None) × (x : Visit) × (v ≡ Some x) × (x.pointee ≡ q) × (x.len ≡ n)
  ended_met (Some o) v e =
      let is_open : false ≡ true = ap (λ (y : Entry). y.done) (one_record (record { pointee = o.pointee; len = o.len; done = false }) (recorded true) e) in
      absurd (cc)
  ended_met None (Some x) e =
      let same = one_record (record { pointee = x.pointee; len = x.len; done = true }) (recorded true) e in
      (refl, x, refl, ap (λ (y : Entry). y.pointee) same, ap (λ (y : Entry). y.len) same)
  ended_met None None e = absurd (cc)

  same_open : (a t m : ℕ) (p : Pointee) → a ≡ t → p ≡ q → m ≡ n → ◌≡◌ {A = OpenShared} (record { pos = a; pointee = p; len = m }) (record { pos = t; pointee = q; len = n })
  same_open a t m p e f g = cc

  same_visit : (a t m : ℕ) (p : Pointee) (w : Value) → a ≡ t → p ≡ q → m ≡ n → ◌≡◌ {A = Visit} (record { pos = a; pointee = p; len = m; value = w }) (record { pos = t; pointee = q; len = n; value = w })
  same_visit a t m p w e f g = cc

  module _ (inside : List OpenShared) (before : List Visit) (t : ℕ) where
    -- inside itself
    pub opened_is : entry_at inside before t ≡ Some (recorded false) → open_at inside t ≡ Some (record { pos = t; pointee = q; len = n })
    opened_is e =
        let found = open_met (open_at inside t) (visited before t) e in
        let x = found.0 in
        found.1 ∙ ap Some (same_open x.pos t x.len x.pointee (open_stands inside t x found.1) found.2 found.3)

    -- after its check
    pub record IsEnded : Type 0 where
      pub value : Value
      pub open_nowhere : open_at inside t ≡ None
      pub was_visited : visited before t ≡ Some (record { pos = t; pointee = q; len = n; value = value })

    pub ended_is : entry_at inside before t ≡ Some (recorded true) → IsEnded
    ended_is e =
        let found = ended_met (open_at inside t) (visited before t) e in
        let x = found.1 in
        record {
          value = x.value;
          open_nowhere = found.0;
          was_visited = found.2 ∙ ap Some (same_visit x.pos t x.len x.pointee x.value (visit_stands before t x found.2) found.3 found.4);
        }

    -- ---- with one more

    -- that is open
    pub opened_at : entry_at (record { pos = t; pointee = q; len = n } ∷ inside) before t ≡ Some (recorded false)
    opened_at = rw (eq-eqb t t refl) refl

    pub opened_records : (seen : Seen) → Records seen inside before → Records (seen_with seen t (recorded false)) (record { pos = t; pointee = q; len = n } ∷ inside) before
    unfolding seen_with
    opened_records seen h other =
        elim (eqb_tells other t) [
          | inl is ↦ rw (is.0, eq-eqb t other (sym is.1)) refl
          | inr differs ↦ rw (differs.0, ne_eqb t other (λ e. differs.1 (sym e))) (h other)
        ]

    -- that was open and is visited
    pub closed_records :
        (seen : Seen) (w : Value) → open_at inside t ≡ None
        → Records seen (record { pos = t; pointee = q; len = n } ∷ inside) before
        → Records (seen_with seen t (recorded true)) inside (record { pos = t; pointee = q; len = n; value = w } ∷ before)
    unfolding seen_with
    closed_records seen w none h other =
        elim (eqb_tells other t) [
          | inl is ↦ rw (is.0, eq-eqb t other (sym is.1), is.1, none) refl
          | inr differs ↦
              let apart = ne_eqb t other (λ e. differs.1 (sym e)) in
              let before_it : seen other ≡ entry_at inside before other = rw apart at (h other) in
              rw (differs.0, apart) before_it
        ]
