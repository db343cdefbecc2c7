-- A search of a hashed map's table for a key finds the place that the audit's look-up finds.
use Rattle.std.proofs.Common.{◌≡◌, ℕ, zero, suc, ◌+◌, ◌-◌, ◌*◌, ◌<◌, ◌≤◌, ◌==◌, Bool, true, false, List, [], ◌∷◌, map, Option, Some, None, MatchOption, refl, sym, ap, subst, ◌∙◌, arith, eqb-true, eq-eqb}
use Rattle.std.specs.List.{Contains, slice_get}
use Rattle.std.specs.Option.{option_map}
use Rattle.archive_shape_layout.specs.Bytes.{align_up}
use Rattle.archive_shape_layout.specs.Shape.{size_of}
use Rattle.archive_shape_canonical.specs.FirstFit.{hash_tag}
use Rattle.archive_shape_canonical.specs.Hash.{text_hash}
use Rattle.archive_shape_canonical.specs.Reach.{searched}
use Rattle.archive_shape_canonical.specs.Strides.{strides}
use Rattle.archive_hash_maps.specs.Tables.{Buckets, full_places, item_position, IsTableAt}
use Rattle.archive_hash_maps.specs.Places.{LooksUp}
use Rattle.cabinet_documents.specs.Node.{pair_shape}
use Rattle.cabinet_documents.specs.Order.{is_same}
use Rattle.cabinet_documents.specs.Table.{Slot, Table, Findable, entry_of, found, gives, is_numbered}
use Rattle.cabinet_archives.specs.Cost.{strides_to}
use Rattle.cabinet_archives.specs.Keyed.{SaysKey}
use Rattle.cabinet_archives.proofs.SlotLookups as slots
use Rattle.cabinet_archives.proofs.SlotLookups.{full_low}
use Rattle.cabinet_archives.proofs.Tables.{slot_of, slots_of, table_at}
use Rattle.cabinet_archives.proofs.Texts.{text_at, text_is}

pub pair_size : size_of pair_shape ≡ 32
unfolding align_up
pair_size = refl

-- a text is a key or is not
pub said_apart : (bytes key : List ℕ) (at : ℕ) → SaysKey bytes key at true → SaysKey bytes key at false → ⊥
said_apart bytes key at one other =
    let same : one.0 ≡ other.0 = text_is bytes at one.0 one.1 ∙ sym (text_is bytes at other.0 other.1) in
    let both : true ≡ false = one.2 ∙ (ap (λ t. is_same t key) same ∙ sym other.2) in
    cc

module _ (bytes : List ℕ) (b : Buckets) where
  abbrev pub pair_at : ℕ → ℕ
  pair_at p = item_position pair_shape b.target p

  abbrev pub text_of : ℕ → List ℕ
  text_of p = text_at bytes (pair_at p)

  abbrev pub text_table : Table
  text_table = table_at (text_at bytes) pair_shape b

  abbrev pub text_slot : ℕ → Slot
  text_slot p = slot_of (λ q. q) text_of p

  module _ (key : List ℕ) where
    abbrev pub FoundPlace : ℕ → Type 0
    FoundPlace q = slots.FoundPlace (λ p. p) text_of b text_table.entries key q

    pub found_place : (q : ℕ) → found text_table key ≡ Some q → FoundPlace q
    found_place q e = slots.found_place (λ p. p) text_of b text_table.entries key q e

    -- where each key is found, so is this one at its place
    among : (ps : List ℕ) (i p : ℕ) → slice_get ps i ≡ Some p → Contains (map entry_of (slots_of (λ q. q) text_of ps)) (entry_of (text_slot p))
    among [] i p e = absurd (cc)
    among (q ∷ ps) zero p e = let same : q ≡ p = cc in (0, omega arith, ap (λ x. entry_of (text_slot x)) same)
    among (q ∷ ps) (suc i) p e = let r = among ps i p e in let a = r.1 in (suc r.0, omega (arith, a), r.2)

    pub finds_itself : Findable text_table → (i p : ℕ) → slice_get (full_places b) i ≡ Some p → text_of p ≡ key → found text_table key ≡ Some p
    finds_itself all i p there is =
        let f = slots.entry_found (λ q. q) text_of b text_table.entries key all (entry_of (text_slot p)) (among (full_places b) i p there) is in
        f.is_found ∙ ap Some f.numbered

    -- ---- what a search finds

    pub search_is : hash_tag (text_hash key) < 128 → (pos : ℕ) → IsTableAt bytes pair_shape pos b → (o : Option ℕ) (n : ℕ) → LooksUp (SaysKey bytes key) pair_shape b (text_hash key) o n → o ≡ option_map pair_at (found text_table key)
    search_is low pos table o n look =
        slots.search_is (λ p. p) text_of b text_table.entries key low pair_shape (SaysKey bytes key)
        (λ p x less full says. says.2 ∙ ap (λ k. is_same k key) (text_is bytes (pair_at p) says.0 says.1))
        bytes pos table o n look

    -- how many strides it searches
    pub strides_are : hash_tag (text_hash key) < 128 → (pos : ℕ) → IsTableAt bytes pair_shape pos b → (o : Option ℕ) (n : ℕ) → LooksUp (SaysKey bytes key) pair_shape b (text_hash key) o n
        → n ≡ strides_to b.cap (found text_table key) (searched b.controls (strides (text_hash key) b.cap))
    strides_are low pos table o n look =
        slots.strides_are (λ p. p) text_of b text_table.entries key low pair_shape (SaysKey bytes key)
        (λ p x less full says. says.2 ∙ ap (λ k. is_same k key) (text_is bytes (pair_at p) says.0 says.1))
        (said_apart bytes key) bytes pos table o n look

    -- ---- whether what a search finds is a place's pair

    apart_at : (p q : ℕ) → b.cap * 32 ≤ b.target → p < b.cap → q < b.cap → (b.target - (q + 1) * 32 == b.target - (p + 1) * 32) ≡ (q == p)
    apart_at p q room less below = by (q == p) refl
      where
        by : (t : Bool) → (q == p) ≡ t → (b.target - (q + 1) * 32 == b.target - (p + 1) * 32) ≡ t
        by true e = let same : q ≡ p = eqb-true q p e in eq-eqb _ _ (ap (λ x. b.target - (x + 1) * 32) same)
        by false e = no (b.target - (q + 1) * 32 == b.target - (p + 1) * 32) refl
          where
            no : (t : Bool) → (b.target - (q + 1) * 32 == b.target - (p + 1) * 32) ≡ t → t ≡ false
            no false f = refl
            no true f =
                let at : b.target - (q + 1) * 32 ≡ b.target - (p + 1) * 32 = eqb-true _ _ f in
                let same : q ≡ p = omega (arith, at, room, less, below) in
                let u = eq-eqb q p same in
                let v : true ≡ false = sym u ∙ e in
                cc

    module _ (room : b.cap * size_of pair_shape ≤ b.target) (p : ℕ) (less : p < b.cap) where
      pair_apart : (q : ℕ) → q < b.cap → (pair_at q == pair_at p) ≡ (q == p)
      pair_apart q below =
          ap (λ n. b.target - (q + 1) * n == b.target - (p + 1) * n) pair_size ∙ apart_at p q (subst (λ n. b.cap * n ≤ b.target) pair_size room) less below

      -- it is whether the look-up gives the place's number
      pub gives_is : (x : Bool) (r : Option ℕ) → r ≡ option_map pair_at (found text_table key) → MatchOption r (x ≡ false) (λ at. x ≡ (at == pair_at p)) → gives text_table (found text_table key) p ≡ x
      gives_is x r is says = by (found text_table key) refl (subst (λ o. MatchOption o (x ≡ false) (λ at. x ≡ (at == pair_at p))) is says)
        where
          by : (o : Option ℕ) → found text_table key ≡ o → MatchOption (option_map pair_at o) (x ≡ false) (λ at. x ≡ (at == pair_at p)) → gives text_table o p ≡ x
          by None e h = sym h
          by (Some q) e h =
              let f = found_place q e in
              let first = f.first in
              let low = full_low b first.index q first.there in
              ap (λ o. is_numbered o p) f.slot ∙ (sym (pair_apart q low.0) ∙ sym h)
