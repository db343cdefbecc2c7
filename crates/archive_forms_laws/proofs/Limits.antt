-- Values that are archived where there is room for them are read as they are written.
use Rattle.std.proofs.Common.{ℕ, true, false, inl, inr}
use Rattle.archive_shape_layout.specs.Shape.{Shape}
use Rattle.archive_shape_layout.specs.Content.{Names}
use Rattle.archive_shape_canonical.specs.Settled.{Fit}
use Rattle.archive_shape_layout.specs.declared.error.Error.{Error}
use Rattle.archive_forms_laws.specs.Spelling.{Spelling}
use Rattle.archive_forms_laws.specs.Spells.{Spells, SpellsAt}
use Rattle.archive_forms_laws.specs.Limits.{limited, usize_spelling, isize_spelling}
use Rattle.archive_forms_laws.proofs.Leaves.{leaf_spells}
use Rattle.archive_shape_layout.specs.Shape.Shape.{number}
use Rattle.std.specs.Int.{w32}

module _ {A R : Type 0} (fit : Fit) (s : Shape) (knows : Names → Type 0) (has_room : A → Type 0) (refusal : Error) (w : Spelling A R) where
  -- the law of such a value is that of its form
  pub limited_spells_at : (x : A) → SpellsAt fit s knows w x → SpellsAt fit s knows (limited has_room refusal w) x
  limited_spells_at x one = record {
    sized = λ r pos f. one.sized r pos f.1;
    canonical = λ st pos names keys bytes level inside k n known state over f o p q. one.canonical st pos names keys bytes level inside k n known state over f o.1 p q;
    consistent = one.consistent;
    keyed = one.keyed;
    piece_bytes = one.piece_bytes;
    own_bytes = λ r pos f. one.own_bytes r pos f.1;
    piece_exact = one.piece_exact;
    own_exact = λ r pos e f k. exact r pos e f k;
    unshared = one.unshared;
  }
    where
      exact : (r : R) (pos : ℕ) (e : Error) → (limited has_room refusal w).own_fits x r pos → (limited has_room refusal w).own_refused x r pos e → ⊥
      exact r pos e f (inl k) = k.0 f.0
      exact r pos e f (inr k) = one.own_exact r pos e f.1 k

  pub limited_spells : Spells fit s knows w → Spells fit s knows (limited has_room refusal w)
  limited_spells h x = limited_spells_at x (h x)

pub usize_spells : (fit : Fit) (knows : Names → Type 0) → Spells fit (number w32 false) knows usize_spelling
usize_spells fit knows = limited_spells fit (number w32 false) knows _ _ _ (leaf_spells fit (number w32 false) knows _ _ tt)

pub isize_spells : (fit : Fit) (knows : Names → Type 0) → Spells fit (number w32 true) knows isize_spelling
isize_spells fit knows = limited_spells fit (number w32 true) knows _ _ _ (leaf_spells fit (number w32 true) knows _ _ tt)
