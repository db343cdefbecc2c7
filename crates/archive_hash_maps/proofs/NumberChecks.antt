-- The numbers of entries, each of which is below a limit.
use Rattle.std.proofs.Common.{◌≡◌, ℕ, ◌<◌, ◌≤◌, ltb, true, List, [], Ok, Err, refl, arith}
use Rattle.std.specs.Int.{w32}
use Rattle.std.specs.Prelude.{false}
use Rattle.std.proofs.lemmas.Bool.{lt-ltb, ltb-true}
use Rattle.archive_shape_layout.specs.Bytes.{window, word_at}
use Rattle.archive_shape_layout.specs.Shape.Shape.{number}
use Rattle.archive_shape_layout.specs.Value.Value.{natural}
use Rattle.archive_shape_layout.specs.Content.{Names, content_of, made, item, place, place_content, buckets_span}
use Rattle.archive_shape_layout.specs.Content.Part.{place_at}
use Rattle.archive_shape_layout.specs.Content.Label.{leaf}
use Rattle.archive_shape_layout.specs.Content.Content.{plain}
use Rattle.archive_shape.specs.Range.{Range}
use Rattle.archive_shape.specs.Questions.{FirstUnanswered}
use Rattle.archive_shape.specs.Questions.FirstUnanswered.{unanswered_here}
use Rattle.archive_shape.specs.PartFault.PartFault.{fault_unanswered}
use Rattle.archive_shape.specs.Kept.{Kept}
use Rattle.archive_shape.specs.Checks.{Checks}
use Rattle.archive_shape.specs.declared.checking.context.PushedRange.{PushedRange}
use Rattle.archive_shape_layout.specs.declared.error.Error.{Error}
use Rattle.archive_shape_layout.specs.declared.error.Error.TheVariants.{InvalidPlace}
use Rattle.archive_shape.proofs.Leaves.{alone_checked}
use Rattle.archive_shape_layout.proofs.Windows.{word_of}
use Rattle.archive_forms_values.proofs.Chosen.{chosen}
use Rattle.archive_hash_maps.specs.Buckets.{AreClaimed, claim_of_buckets}

module _ (names : Names) (bytes : List ℕ) (pos limit : ℕ) (kept : Kept) where
  number_is : word_at bytes pos < limit → content_of names bytes (place_at pos limit) ≡ plain (leaf (natural (word_at (window bytes pos 4) 0))) []
  unfolding place_content
  number_is less = chosen _ _ _ (lt-ltb _ limit (omega (arith, word_of bytes pos)))

  pub number_accepted : word_at bytes pos < limit → Checks names bytes (place_at pos limit) kept (Ok tt) kept
  unfolding made
  number_accepted less = alone_checked names bytes (place_at pos limit) kept _ _ (number_is less) tt refl

  not_below : limit ≤ word_at bytes pos → ltb (word_at (window bytes pos 4) 0) limit ≡ true → ⊥
  not_below high e = let less : word_at (window bytes pos 4) 0 < limit = ltb-true _ _ e in omega (arith, word_of bytes pos)

  pub number_refused : limit ≤ word_at bytes pos → Checks names bytes (place_at pos limit) kept (Err InvalidPlace) kept
  number_refused high inside before records other = fault_unanswered (unanswered_here (not_below high) refl)

-- buckets of numbers are claimed as those of words are
module _ (target cap limit : ℕ) where
  pub numbers_claimed : {old new : Kept} {r : PushedRange} → AreClaimed target cap (item (number w32 false)) old r new → AreClaimed target cap (place limit) old r new
  unfolding buckets_span
  numbers_claimed h = record { below = h.below; claimed = h.claimed }

  pub numbers_unclaimed : {range : Range} {e : Error} → FirstUnanswered range e (claim_of_buckets target cap (item (number w32 false))) → FirstUnanswered range e (claim_of_buckets target cap (place limit))
  unfolding buckets_span
  numbers_unclaimed f = f
