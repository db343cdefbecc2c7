-- What a map lists of texts and of shared texts, by where their bytes lie.
use Rattle.std.proofs.Common.{◌≡◌, ◌∙◌, ℕ, ◌+◌, ◌<◌, ◌≤◌, false, List, [], length, slice_index, ap, arith}
use Rattle.std.specs.Prelude.{⊤}
use Rattle.std.proofs.lemmas.Bool.{false_from_ne_true}
use Rattle.archive_shape_layout.specs.Bytes.{window, word_at}
use Rattle.archive_shape_layout.specs.Shape.Shape.{text, shared}
use Rattle.archive_shape_layout.specs.Shape.Pointee.{str}
use Rattle.archive_shape_layout.specs.Value.{Value}
use Rattle.archive_shape_layout.specs.Value.Value.{string, counted}
use Rattle.archive_shape_layout.specs.Content.{IsInline}
use Rattle.archive_shape_layout.specs.Content.Part.{at}
use Rattle.archive_shape_layout.proofs.Windows.{word_within}
use Rattle.archive_shape.proofs.Pieces.{length-window}
use Rattle.archive_forms_values.proofs.Placed.{IsThere, stands_far}
use Rattle.archive_forms_values.specs.Parts.{PointsTo}
use Rattle.archive_forms_rc.proofs.Led.{rc_str_there}
use Rattle.archive_forms_rc.specs.Pointers.{Counts, HasCounted, IsRcStrAt}
use Rattle.archive_forms_rc.specs.Pointers.Counts.{counts, leads_back}
use Rattle.cabinet_documents.specs.Node.{node_names}
use Rattle.cabinet_archives.specs.Mapping.{Name, Listed, listed_region, Maps}
use Rattle.cabinet_archives.specs.declared.mapping.region.RegionKind.TheVariants as kind
use Rattle.cabinet_archives.proofs.NodeListings.{named, text_away, SharedListed, shared_first, shared_later, shared_listed}

module _ (bytes : List ℕ) where
  -- ---- texts

  -- the bytes of a text that is not inline are one region
  pub text_region : {n : Name} {pos start len low : ℕ} {listed : List Listed}
      → (IsInline (slice_index (window bytes pos 8) 0) → ⊥) → IsThere bytes pos start len
      → Maps node_names bytes n (at pos text) low listed → listed ≡ listed_region start len n
  text_region {pos = pos} {start = start} {len = len} away there m =
      let far = stands_far bytes pos start len there.lies away in
      text_away bytes (false_from_ne_true _ away) far.says far.long far.leads m

  -- ---- shared texts

  counted_text : {to target : ℕ} {v : Value} {t : List ℕ} → Counts false to (λ w. w ≡ string t) (counted target v) → v ≡ string t
  counted_text (counts is same) = cc
  counted_text (leads_back allowed is) = absurd (cc)

  -- a shared text has the length that its pointer states
  pub shared_length : {pos to len start : ℕ} {t : List ℕ}
      → HasCounted false str (λ _. ⊤) bytes pos → IsRcStrAt false bytes pos to len → t ≡ window bytes to len → PointsTo bytes pos start
      → length t ≡ word_at bytes (pos + 4)
  shared_length {pos = pos} {to = to} {len = len} {start = start} has there is points =
      let size = word_at bytes (pos + 4) in
      let own = rc_str_there false bytes pos start size points (word_within bytes pos 8 4 (omega arith)) has in
      let first = counted_text (there.value (counted has.target has.value) has.held) in
      let second = counted_text (own.value (counted has.target has.value) has.held) in
      let same : window bytes to len ≡ window bytes start size = cc in
      ap length is ∙ ap length same ∙ length-window bytes start size own.within

  module _ {n : Name} {pos to low : ℕ} {listed : List Listed} (leads : PointsTo bytes pos to)
      (m : Maps node_names bytes n (at pos (shared false str)) low listed) where
    -- it is listed at the first visit only
    pub shared_region : low ≤ to → listed ≡ listed_region to (word_at bytes (pos + 4)) (named kind.Shared n.path)
    shared_region high = by (shared_listed bytes leads m)
      where
        by : SharedListed bytes n.path to (word_at bytes (pos + 4)) low listed
            → listed ≡ listed_region to (word_at bytes (pos + 4)) (named kind.Shared n.path)
        by (shared_first h is) = is
        by (shared_later less none) = absurd (omega (arith, high, less))

    pub shared_none : to < low → listed ≡ []
    shared_none less = by (shared_listed bytes leads m)
      where
        by : SharedListed bytes n.path to (word_at bytes (pos + 4)) low listed → listed ≡ []
        by (shared_first h is) = absurd (omega (arith, h, less))
        by (shared_later l none) = none
