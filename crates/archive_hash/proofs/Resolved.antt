-- The own bytes of a table of entries whose number is known.
use Rattle.std.proofs.Common.{◌≡◌, ℕ, ◌^◌, ◌≤◌, List, length, refl, subst, inl, inr, ◌∙◌, ◌⊎◌, Result, Ok, Err, arith}
use Rattle.std.specs.Prelude.{MatchResult}
use Rattle.archive_shape_layout.specs.Shape.{Shape, size_of}
use Rattle.archive_shape.specs.Bytes.{overwrite}
use Rattle.archive_shape.proofs.Spared.{spares_same}
use Rattle.archive_shape_layout.specs.declared.error.Error.{Error}
use Rattle.archive_shape_layout.specs.declared.error.Error.TheVariants.{LengthTooLarge}
use Rattle.archive_forms_laws.specs.Spelling.{Spelling}
use Rattle.archive_forms_laws.specs.Serializing.{Resolves}
use Rattle.archive_forms_laws.specs.Links.{LinkRefused}
use Rattle.archive_hash_maps.specs.Resolving.{capacity, own_bytes, IsWithinLimits, IsRefused}
use Rattle.archive_hash_maps.specs.Resolving.IsRefused.{has_no_load, has_many_places, is_far}
use Rattle.archive_hash_maps.specs.declared.map.resolving.HashTableResolver.{HashTableResolver}
use Rattle.archive_hash.specs.Owned.{entries_spelling}

refused_as : (len : ℕ) (r : HashTableResolver) (pos : ℕ) (e : Error) → IsRefused len (7, 8) r.pos pos e → LinkRefused r.pos pos e ⊎ ((2 ^ 32 ≤ capacity len (7, 8) r.pos pos) × (e ≡ LengthTooLarge))
refused_as len r pos e (has_no_load none) = absurd (none (omega arith, omega arith))
refused_as len r pos e (has_many_places load many) = inr (many, refl)
refused_as len r pos e (is_far load few far) = inl far

pub entries_resolve : {A B R Q : Type 0} (hash : A → ℕ) (k v s : Shape) (keys : Spelling A R) (vals : Spelling B Q) (es : List (A × B)) (r : HashTableResolver) (len pos at start from : ℕ) (old before new after : List ℕ) (result : Result (Unit {0}) Error)
    → len ≡ length es → at ≡ pos → from ≡ start → before ≡ old
    → MatchResult result
    (λ _. IsWithinLimits len (7, 8) r.pos at × (new ≡ overwrite before from (own_bytes len (7, 8) r.pos at)))
    (λ e. IsRefused len (7, 8) r.pos at e × (new ≡ before))
    → after ≡ new
    → Resolves (entries_spelling hash k v keys vals) s es r pos start old after result
entries_resolve hash k v s keys vals es r len pos at start from old before new after (Ok x) is there begins same h ends =
    let Within : ℕ → ℕ → Type 0 = λ n p. IsWithinLimits n (7, 8) r.pos p in
    let within = subst (Within (length es)) there (subst (λ n. Within n at) is h.0) in
    ((within.near, within.few_places), ends ∙ h.1 ∙ (λ i. overwrite (same i) (begins i) (own_bytes (is i) (7, 8) r.pos (there i))))
entries_resolve hash k v s keys vals es r len pos at start from old before new after (Err e) is there begins same h ends =
    let Refused : ℕ → ℕ → Type 0 = λ n p. IsRefused n (7, 8) r.pos p e in
    (refused_as (length es) r pos e (subst (Refused (length es)) there (subst (λ n. Refused n at) is h.0)), spares_same old after start (size_of s) (ends ∙ h.1 ∙ same))
