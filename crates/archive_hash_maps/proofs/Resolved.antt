-- What is written of a table, and what is rejected.
use Rattle.std.proofs.Common.{◌≡◌, ◌∙◌, ◌⊎◌, ℕ, ◌+◌, ◌*◌, ◌/◌, ◌^◌, ◌≤◌, ◌==◌, max, Bool, true, false, cond, List, ◌++◌, length, Option, Result, Err, MatchResult, inl, inr, refl, ap, sym, subst, arith, eqb-true, length-append, append_assoc}
use Rattle.std.specs.Int.{w32, to_le_bytes}
use Rattle.archive_shape_canonical.specs.FirstFit.{capacity_for}
use Rattle.archive_shape.specs.Bytes.{overwrite}
use Rattle.archive_shape_layout.specs.declared.error.Error.{Error}
use Rattle.archive_shape_layout.specs.declared.error.Error.TheVariants.{InvalidLoadFactor, LengthTooLarge}
use Rattle.archive_forms_values.proofs.Joined.{overwrites_joined}
use Rattle.archive_forms_laws.specs.Links.{link_bytes}
use Rattle.archive_forms_laws.proofs.Links.{length-link}
use Rattle.archive_hash_probing.specs.Loads.{IsLoadFactor}
use Rattle.archive_hash_maps.specs.Resolving.{capacity, own_bytes, IsRefused}
use Rattle.archive_hash_maps.specs.Resolving.IsRefused.{has_no_load, has_many_places}

pub on_err : {A E : Type 0} (P : A → Type 0) (Q : E → Type 0) (r : Result A E) (e : E) → r ≡ Err e → Q e → MatchResult r P Q
on_err P Q r e is q = let F : Result _ _ → Type 0 = λ x. MatchResult x P Q in subst F (sym is) q

-- a table has no fewer places than items
fewer : (b : Bool) (len loaded : ℕ) → (len == 0) ≡ b → len ≤ cond b 0 (max loaded (len + 1))
fewer true len loaded is = omega (arith, eqb-true len 0 is)
fewer false len loaded is = omega arith

pub items_fit : (len most places : ℕ) → len ≤ capacity_for len most places
items_fit len most places = fewer (len == 0) len (len * places / most) refl

module _ (len : ℕ) (load_factor : ℕ × ℕ) (to : Option ℕ) (pos : ℕ) where
  -- the number of places is refused
  pub no_capacity : (e : Error) → ((IsLoadFactor load_factor → ⊥) × (e ≡ InvalidLoadFactor)) ⊎ (IsLoadFactor load_factor × (2 ^ 32 ≤ capacity len load_factor to pos) × (e ≡ LengthTooLarge))
      → IsRefused len load_factor to pos e
  no_capacity e (inl h) = subst (IsRefused len load_factor to pos) (sym h.1) (has_no_load h.0)
  no_capacity e (inr h) = subst (IsRefused len load_factor to pos) (sym h.2) (has_many_places h.0 h.1)

  -- the three numbers, one after the other
  pub three_written : (out : List ℕ) (start places : ℕ) → places ≡ capacity len load_factor to pos → start + 12 ≤ length out
      → overwrite (overwrite (overwrite out start (link_bytes to pos)) (start + 4) (to_le_bytes w32 len)) (start + 8) (to_le_bytes w32 places)
      ≡ overwrite out start (own_bytes len load_factor to pos)
  three_written out start places is room =
      let a = link_bytes to pos in
      let m = to_le_bytes w32 len in
      let p = to_le_bytes w32 places in
      let four : 4 ≡ length a = sym (length-link to pos) in
      let eight : 8 ≡ length (a ++ m) = omega (arith, four, length-append a m) in
      ap (λ l. overwrite l (start + 8) p) (overwrites_joined out start 4 a m four (omega (arith, four, room)))
      ∙ overwrites_joined out start 8 (a ++ m) p eight (omega (arith, eight, room))
      ∙ ap (overwrite out start) (append_assoc a m p ∙ ap (λ n. a ++ (m ++ to_le_bytes w32 n)) is)
