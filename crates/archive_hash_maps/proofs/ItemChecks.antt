-- The items of a table, place by place.
use Rattle.std.proofs.Common.{◌≡◌, ℕ, ◌+◌, ◌-◌, ◌*◌, ◌<◌, ◌≤◌, List, [], ◌∷◌, drop, length, Ok, refl, subst, arith}
use Rattle.std.specs.Prelude.{slice_index}
use Rattle.std.proofs.lemmas.Bool.{lt-ltb, le-ltb}
use Rattle.std.proofs.lemmas.List.{drop_more, drop_all}
use Rattle.std.proofs.Math.Nat.{mul-le-mul_right}
use Rattle.archive_shape_layout.specs.Content.{Names, Part, Item, item_size, item_part, tagged_items}
use Rattle.archive_shape_layout.specs.Holds.{Visit, OpenShared}
use Rattle.archive_shape.specs.Kept.{Kept, Records}
use Rattle.archive_shape.specs.Checks.{Checks}
use Rattle.archive_shape.proofs.Ordered.{Left, one_less, checked_records}

-- the bucket of place i ends where the buckets before it begin
pub record BucketBelow (i size target bucket : ℕ) : Type 0 where
  pub room : size ≤ bucket
  pub is_next : bucket - size ≡ target - (i + 1) * size
  pub within : bucket - size + size ≤ target

pub bucket_below : (i n size target bucket : ℕ) → i < n → n * size ≤ target → bucket ≡ target - i * size → BucketBelow i size target bucket
bucket_below i n size target bucket less fits is =
    let most : (i + 1) * size ≤ n * size = mul-le-mul_right size (omega arith) in
    let next : (i + 1) * size ≡ i * size + size = omega arith in
    record { room = omega arith; is_next = omega arith; within = omega arith }

module _ (target : ℕ) (it : Item) (controls : List ℕ) where
  abbrev pub items_from : ℕ → List Part
  items_from i = tagged_items target it i (drop i controls)

  pub item_next : (i bucket : ℕ) → i < length controls → slice_index controls i < 128 → bucket ≡ target - (i + 1) * item_size it → items_from i ≡ item_part it bucket ∷ items_from (i + 1)
  unfolding tagged_items
  item_next i bucket within tag is = rw (drop_more controls i 0 within, lt-ltb (slice_index controls i) 128 tag, is) refl

  pub item_missing : (i : ℕ) → i < length controls → 128 ≤ slice_index controls i → items_from i ≡ items_from (i + 1)
  unfolding tagged_items
  item_missing i within empty = rw (drop_more controls i 0 within, le-ltb (slice_index controls i) 128 empty) refl

  pub items_none : (i : ℕ) → length controls ≤ i → items_from i ≡ []
  unfolding tagged_items
  items_none i done = rw (drop_all i controls done) refl

  -- ---- what is left of them

  module _ (names : Names) (bytes : List ℕ) (inside : List OpenShared) (before : List Visit) (old : Kept) where
    pub record LeftFrom (i : ℕ) (now : Kept) : Type 0 where
      pub mid : List Visit
      pub records : Records now.seen inside mid
      pub left : Left names bytes inside before (tagged_items target it 0 controls) old mid (items_from i) now

    module _ (i : ℕ) (now : Kept) (h : LeftFrom i now) (within : i < length controls) where
      pub place_checked : (bucket : ℕ) (next : Kept) → slice_index controls i < 128 → bucket ≡ target - (i + 1) * item_size it → Checks names bytes (item_part it bucket) now (Ok tt) next → LeftFrom (i + 1) next
      place_checked bucket next tag is checks =
          let here = checks inside h.mid h.records in
          record {
            mid = here.passes.after;
            records = checked_records names bytes inside h.mid here;
            left = one_less names bytes inside before (tagged_items target it 0 controls) old h.left (item_next i bucket within tag is) here;
          }

      pub place_passed : 128 ≤ slice_index controls i → LeftFrom (i + 1) now
      place_passed empty = record {
        mid = h.mid;
        records = h.records;
        left = subst (λ ps. Left names bytes inside before (tagged_items target it 0 controls) old h.mid ps now) (item_missing i within empty) h.left;
      }
