-- Where bytes have what was written of a table that has items, its places and its controls are the written ones.
use Rattle.std.proofs.Common.{◌≡◌, ◌∙◌, ℕ, suc, ◌+◌, ◌^◌, ◌<◌, List, ◌∷◌, Some, length, ap, sym, arith}
use Rattle.std.specs.List.{All}
use Rattle.archive_shape_layout.specs.Bytes.{target_from, window, word_at}
use Rattle.archive_shape_layout.specs.Content.{Names, control_count}
use Rattle.archive_shape_layout.specs.Shape.{Shape}
use Rattle.archive_shape_layout.proofs.Windows.{word_within}
use Rattle.archive_shape_canonical.specs.Settled.{Fit}
use Rattle.archive_forms_laws.specs.Spelling.{Spelling}
use Rattle.archive_forms_laws.specs.Spells.{EachSpells}
use Rattle.archive_forms_laws.specs.State.{Keys}
use Rattle.archive_forms_laws.specs.WrittenAt.{IsWrittenAt}
use Rattle.archive_forms_laws.proofs.Pointers.{offset_stands}
use Rattle.archive_forms_values.proofs.Targets.{first_word}
use Rattle.archive_hash_maps.specs.Tables.{Buckets, IsTableAt}
use Rattle.archive_hash_maps.specs.Tables.IsTableAt.{has_none, has_buckets}
use Rattle.archive_hash_writing.specs.Fitted.{by_place, capacity_of, controls_of, table_of}
use Rattle.archive_hash_writing.specs.Tables.{controls_at, hashed_spelling}
use Rattle.archive_hash_writing.proofs.SpellingFilled.{controls_read, filled_stands}
use Rattle.archive_hash_writing.proofs.SpellingFitting.{above, controls_of_table, length-table}
use Rattle.archive_hash_writing.proofs.SpellingTables.{OwnRead, own_read}
use Rattle.archive_hash_writing.proofs.WrittenItems.{HasWrittenPlaces}

module _ {A R : Type 0} (fit : Fit) (s : Shape) (knows : Names → Type 0) (bytes : List ℕ) (w : Spelling A R) (most places : ℕ) (hashes : List ℕ) (x : A) (xs : List A)
    (even : length hashes ≡ suc (length xs)) (tags : All (λ h. h < 2 ^ 64) hashes) (each : EachSpells fit s knows w (by_place most places hashes (x ∷ xs)))
    (given : Keys) (pos : ℕ) (t : IsWrittenAt given (hashed_spelling most places s w hashes) bytes pos (x ∷ xs)) where
  abbrev Cap : ℕ
  Cap = capacity_of most places hashes (x ∷ xs)

  abbrev Controls : List ℕ
  Controls = controls_of most places hashes (x ∷ xs)

  -- where the controls begin
  abbrev Target : ℕ
  Target = controls_at s w (table_of most places hashes (x ∷ xs)) t.state

  more : length (x ∷ xs) < Cap
  more = above most places hashes (x ∷ xs) even (omega arith)

  read : OwnRead bytes (Some Target) pos 12 (length (x ∷ xs)) Cap
  read = let small = t.own_fits.1 in own_read bytes (Some Target) pos 12 (length (x ∷ xs)) Cap (omega arith) (omega (arith, more, small)) small t.own

  controls_there : window bytes Target (control_count Cap) ≡ Controls
  controls_there =
      let os = table_of most places hashes (x ∷ xs) in
      let are = controls_of_table most places hashes (x ∷ xs) even (omega arith) tags in
      ap (λ n. window bytes Target (control_count n)) (sym (length-table most places hashes (x ∷ xs)))
      ∙ controls_read fit s knows w os Controls each t.state bytes are (filled_stands fit s knows w os Controls each t.state bytes t.piece_fits t.piece)

  -- a table that is read there is the written one
  pub written_buckets : (b : Buckets) → IsTableAt bytes s pos b → (b.target ≡ Target) × (b.cap ≡ Cap) × (b.controls ≡ Controls)
  written_buckets b (has_none z is) =
      let len : word_at bytes (pos + 4) ≡ length (x ∷ xs) = sym (word_within bytes pos 12 4 (omega arith)) ∙ read.len_is in
      absurd (omega (arith, z, len))
  written_buckets b (has_buckets some leads cap_is fewer shown within room are full) =
      let cap : b.cap ≡ Cap = sym cap_is ∙ sym (word_within bytes pos 12 8 (omega arith)) ∙ read.cap_is in
      let leads_there = offset_stands bytes pos Target 12 (omega arith) t.own_fits.0 read.link_stands in
      let both : Some b.target ≡ Some Target = sym leads ∙ ap (target_from pos) (sym (first_word bytes pos 12 (omega arith))) ∙ leads_there in
      let target : b.target ≡ Target = cc in
      (target, cap, shown ∙ ap (window bytes b.target) (ap control_count cap) ∙ ap (λ a. window bytes a (control_count Cap)) target ∙ controls_there)

  pub written_places : HasWrittenPlaces s knows bytes w most places hashes pos (x ∷ xs) t.state
  written_places b there items = let is = written_buckets b there in (is.1, is.2)
