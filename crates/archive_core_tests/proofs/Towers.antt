-- What a tower is read back as.
use Rattle.std.proofs.Common.{◌≡◌, ℕ, ◌+◌, min, List, [], ◌∷◌, Option, Some, None, slice_get, refl, sym, ap, subst, ◌∙◌}
use Rattle.std.specs.Prelude.{Vec}
use Rattle.std.specs.Global.{Global}
use Rattle.std.specs.declared.rc.Rc.{Rc}
use Rattle.archive_shape_layout.specs.Value.{Value, Values}
use Rattle.archive_shape_layout.specs.Value.Values.{no_values, more_values}
use Rattle.archive_forms_rc.specs.declared.sharing.keyed.Shared.{Shared}
use Rattle.archive_forms.specs.Deserializing.{IsReadAt}
use Rattle.archive_forms.specs.Reading.{reads_in, reads_all, reads_counted, reads_each}
use Rattle.archive_core_tests.specs.Towers.{tower_shape, tower_body, KnowsTower, levels_of, first_levels}
use Rattle.archive_core_tests.proofs.Named.{tower_held}

-- of any type of towers, each of which has levels
module _ {T : Type 0} (levels : T → ℕ) where
  abbrev reads_tower : Value → T → Type 0
  reads_tower v t = levels_of v ≡ levels t

  abbrev reads_pointer : Value → Shared (Rc T Global) → Type 0
  reads_pointer = reads_in (λ (x : Shared (Rc T Global)). x.value.value) (reads_counted reads_tower)

  -- the levels of a tower by the first of its pointers
  abbrev pub levels_on : Option (Shared (Rc T Global)) → ℕ
  levels_on None = 0
  levels_on (Some x) = min (levels x.value.value + 1) 255

  pub first_read : (xs : List (Shared (Rc T Global))) (elements : Values) → reads_each reads_pointer elements xs → first_levels elements ≡ levels_on (slice_get xs 0)
  first_read [] no_values h = refl
  first_read [] (more_values v vs) h = absurd h
  first_read (x ∷ xs) no_values h = absurd h
  first_read (x ∷ xs) (more_values v vs) h = ap levels_of (sym h.0.1) ∙ ap (λ n. min (n + 1) 255) h.0.2

  -- a tower is read back as its pointers are
  pub tower_read :
      (bytes : List ℕ) (pos : ℕ) (pointers : Vec (Shared (Rc T Global)) Global) (now : List (Shared (Rc T Global))) (t : T)
      → now ≡ pointers.items
      → IsReadAt (reads_in (λ (xs : Vec (Shared (Rc T Global)) Global). xs.items) (reads_all reads_pointer)) tower_body KnowsTower bytes pos pointers
      → ((elements : Values) → reads_each reads_pointer elements now → first_levels elements ≡ levels t)
      → IsReadAt reads_tower tower_shape KnowsTower bytes pos t
  tower_read bytes pos pointers now t same read is value h =
      let found = read value (tower_held bytes pos value h) in
      ap levels_of (sym found.1) ∙ is found.0 (subst (λ xs. reads_each reads_pointer found.0 xs) (sym same) found.2)
