-- Where a pointer leads, by its word.
use Rattle.std.proofs.Common.{◌≡◌, ℕ, ◌+◌, ◌-◌, ◌≤◌, ◌<◌, ◌^◌, List, Some, None, inl, inr, refl, arith, false, ◌==◌, eqb-true}
use Rattle.std.proofs.lemmas.Bool.{cases_lt, lt-ltb, le-ltb, le-leb, lt-leb}
use Rattle.archive_shape_layout.specs.Bytes.{target_from, word_at}
use Rattle.archive_btree_maps.specs.SearchingNodes.{pointer_at}

pub is_other : (a b : ℕ) → (a ≡ b → ⊥) → (a == b) ≡ false
is_other a b h = grind (arith, eqb-true)

module _ (pos word : ℕ) where
  pub leads_on : word < 2 ^ 31 → target_from pos word ≡ Some (pos + word)
  unfolding target_from
  leads_on h = rw (lt-ltb word (2 ^ 31) h) refl

  pub leads_back : 2 ^ 31 ≤ word → 2 ^ 32 - word ≤ pos → target_from pos word ≡ Some (pos - (2 ^ 32 - word))
  unfolding target_from
  leads_back h g = rw (le-ltb word (2 ^ 31) h, le-leb (2 ^ 32 - word) pos g) refl

  pub leads_before : 2 ^ 31 ≤ word → pos < 2 ^ 32 - word → target_from pos word ≡ None
  unfolding target_from
  leads_before h g = rw (le-ltb word (2 ^ 31) h, lt-leb (2 ^ 32 - word) pos g) refl

  pub is_behind : (t : ℕ) → 2 ^ 31 ≤ word → target_from pos word ≡ Some t → 2 ^ 32 - word ≤ pos
  is_behind t h e =
      elim (cases_lt pos (2 ^ 32 - word)) [
        | inl below ↦ let none = leads_before h below in absurd cc
        | inr up ↦ up
      ]

-- a pointer with an offset that is not 1 is valid, and leads where its word says
pub valid : (bytes : List ℕ) (link to : ℕ) → (word_at bytes link ≡ 1 → ⊥) → target_from link (word_at bytes link) ≡ Some to → Some to ≡ pointer_at bytes link
valid bytes link to other e = grind (arith, e, other)

-- the offset 1 is no pointer
pub invalid : (bytes : List ℕ) (link : ℕ) → word_at bytes link ≡ 1 → pointer_at bytes link ≡ None
invalid bytes link e = rw e refl
