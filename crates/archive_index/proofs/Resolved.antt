-- The own bytes of an index map, whose table's are written first.
use Rattle.std.proofs.Common.{◌≡◌, ◌∙◌, ℕ, ◌+◌, ◌++◌, ◌≤◌, ◌<◌, List, length, Option, Result, Ok, Err, refl, sym, ap, subst, arith, le_refl, inl, inr, ◌⊎◌, ⊎_elim, ◌^◌}
use Rattle.std.specs.Prelude.{MatchResult}
use Rattle.std.proofs.lemmas.List.FromFn.{length-range_with_len}
use Rattle.archive_shape_layout.specs.Shape.{Shape}
use Rattle.archive_shape_layout.specs.Shape.Shape.{index_map}
use Rattle.archive_shape_layout.specs.Edit.{Spares}
use Rattle.archive_shape.specs.Bytes.{overwrite}
use Rattle.archive_shape.proofs.Spared.{spares_overwritten}
use Rattle.archive_shape_layout.specs.declared.error.Error.{Error}
use Rattle.archive_shape_layout.specs.declared.error.Error.TheVariants.{LengthTooLarge}
use Rattle.archive_forms_values.proofs.Joined.{overwrites_joined}
use Rattle.archive_forms_laws.specs.Spelling.{Spelling}
use Rattle.archive_forms_laws.specs.Serializing.{Resolves}
use Rattle.archive_forms_laws.specs.Links.{link_bytes, LinkFits, LinkRefused}
use Rattle.archive_forms_laws.proofs.Links.{length-link}
use Rattle.archive_hash_maps.specs.Resolving.{own_bytes, capacity, IsWithinLimits, IsRefused}
use Rattle.archive_hash_maps.specs.Resolving.IsRefused.{has_no_load, has_many_places, is_far}
use Rattle.archive_hash_writing.proofs.SpellingTables.{length-own}
use Rattle.archive_hash_writing.specs.IndexMaps.{numbers}
use Rattle.archive_hash_writing.specs.declared.index.resolver.IndexMapResolver.{IndexMapResolver}
use Rattle.archive_hash_writing.specs.IndexResolvers.{pairs_spelling}

module _ (len : ℕ) (load : ℕ × ℕ) (to entries : Option ℕ) (pos start : ℕ) (old : List ℕ) (room : start + 16 ≤ length old) where
  -- what a call that writes the map's own bytes ensures
  abbrev pub ResolvesMap : List ℕ → Result (Unit {0}) Error → Type 0
  ResolvesMap new result =
      MatchResult result
      (λ _. IsWithinLimits len load to pos × LinkFits entries (pos + 12) × (new ≡ overwrite old start (own_bytes len load to pos ++ link_bytes entries (pos + 12))))
      (λ e. (IsRefused len load to pos e ⊎ LinkRefused entries (pos + 12) e) × Spares old new start 16)

  -- the table's own bytes were written, and the pointer to the entries is written or refused
  pub map_resolved : (at place_pos place_at from : ℕ) (mid mid_new new after : List ℕ) (result : Result (Unit {0}) Error)
      → at ≡ pos → from ≡ start → IsWithinLimits len load to at → mid ≡ overwrite old from (own_bytes len load to at)
      → place_pos ≡ pos + 12 → place_at ≡ start + 12 → mid_new ≡ mid
      → MatchResult result (λ _. LinkFits entries place_pos × (new ≡ overwrite mid_new place_at (link_bytes entries place_pos))) (λ e. LinkRefused entries place_pos e × (new ≡ mid_new))
      → after ≡ new
      → ResolvesMap after result
  map_resolved at place_pos place_at from mid mid_new new after (Ok x) there begins within written further behind same h ends =
      let own = own_bytes len load to pos in
      let link = link_bytes entries (pos + 12) in
      let twelve : 12 ≡ length own = sym (length-own to pos len (capacity len load to pos)) in
      let last = length-link entries (pos + 12) in
      let joined = overwrites_joined old start 12 own link twelve (omega (arith, twelve, last, room)) in
      let table : mid_new ≡ overwrite old start own = same ∙ written ∙ (λ i. overwrite old (begins i) (own_bytes len load to (there i))) in (
        subst (IsWithinLimits len load to) there within,
        subst (LinkFits entries) further h.0,
        ends ∙ h.1 ∙ (λ i. overwrite (table i) (behind i) (link_bytes entries (further i))) ∙ joined,
      )
  map_resolved at place_pos place_at from mid mid_new new after (Err e) there begins within written further behind same h ends =
      let own = own_bytes len load to pos in
      let twelve = length-own to pos len (capacity len load to pos) in
      let table : after ≡ overwrite old start own = ends ∙ h.1 ∙ same ∙ written ∙ (λ i. overwrite old (begins i) (own_bytes len load to (there i))) in (
        inr (subst (λ p. LinkRefused entries p e) further h.0),
        subst (λ l. Spares old l start 16) (sym table) (spares_overwritten old start own start 16 (le_refl start) (omega (arith, twelve)) room),
      )

-- ---- pairs that are written, at most seven of eight places full

refused_as : (len : ℕ) (to : Option ℕ) (pos : ℕ) (e : Error) → IsRefused len (7, 8) to pos e → LinkRefused to pos e ⊎ ((2 ^ 32 ≤ capacity len (7, 8) to pos) × (e ≡ LengthTooLarge))
refused_as len to pos e (has_no_load none) = absurd (none (omega arith, omega arith))
refused_as len to pos e (has_many_places load many) = inr (many, refl)
refused_as len to pos e (is_far load few far) = inl far

-- their own bytes are those of the map of as many entries
pub pairs_resolve : {A B R Q : Type 0} (hash : A → ℕ) (k v : Shape) (keys : Spelling A R) (vals : Spelling B Q) (es : List (A × B)) (r : IndexMapResolver) (len pos start : ℕ) (old new : List ℕ) (room : start + 16 ≤ length old) (result : Result (Unit {0}) Error)
    → len ≡ length es → ResolvesMap len (7, 8) r.table.pos r.entries pos start old room new result
    → Resolves (pairs_spelling hash k v keys vals) (index_map k v) es r pos start old new result
pairs_resolve hash k v keys vals es r len pos start old new room (Ok x) is h =
    let long : len ≡ length (numbers es) = is ∙ sym (length-range_with_len 0 (length es)) in (
      ((h.0.near, subst (λ n. capacity n (7, 8) r.table.pos pos < 2 ^ 32) long h.0.few_places), h.1),
      h.2 ∙ ap (λ n. overwrite old start (own_bytes n (7, 8) r.table.pos pos ++ link_bytes r.entries (pos + 12))) long,
    )
pairs_resolve hash k v keys vals es r len pos start old new room (Err e) is h =
    let long : len ≡ length (numbers es) = is ∙ sym (length-range_with_len 0 (length es)) in (
      ⊎_elim (λ t. inl (subst (λ n. LinkRefused r.table.pos pos e ⊎ ((2 ^ 32 ≤ capacity n (7, 8) r.table.pos pos) × (e ≡ LengthTooLarge))) long (refused_as len r.table.pos pos e t))) (λ l. inr l) h.0,
      h.1,
    )
