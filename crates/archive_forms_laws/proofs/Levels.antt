-- Values of types that hold themselves are read as they are written.
use Rattle.std.proofs.Common.{◌≡◌, ℕ, zero, suc, ◌+◌, ◌≤◌, ◌<◌, [], ◌∷◌, Some, true≢false, refl, sym, subst, ◌∙◌, arith, inl, inr}
use Rattle.archive_shape_layout.specs.Bytes.{align_up}
use Rattle.archive_shape_layout.specs.Shape.{Shape, Alignment, alignment_bytes, size_of, align_of}
use Rattle.archive_shape_layout.specs.Shape.Shape.{named, option, box}
use Rattle.archive_shape_layout.specs.Shape.Pointee.{sized}
use Rattle.archive_shape_layout.specs.Content.{Names, made, shape_named}
use Rattle.archive_shape_layout.specs.Content.Part.{at}
use Rattle.archive_shape_layout.specs.Content.Label.{same}
use Rattle.archive_shape_layout.specs.Content.Content.{plain}
use Rattle.archive_shape_canonical.specs.Settled.{Fit}
use Rattle.archive_shape_canonical.proofs.Cleanness.{clean_by}
use Rattle.archive_forms_laws.proofs.Named.{named_is}
use Rattle.archive_forms_laws.specs.Spelling.{Spelling}
use Rattle.archive_forms_laws.specs.Spells.{Spells, SpellsAt}
use Rattle.archive_forms_laws.specs.Levels.{levels_spelling, self_spelling}
use Rattle.archive_forms_laws.proofs.Pointers.{one_part}

-- an option of a box has eight bytes
pub option_box_sized : (s : Shape) → size_of (option (box (sized s))) ≡ 8
unfolding align_up
option_box_sized s = refl

module _ (s : Shape) (name size : ℕ) (align : Alignment) (size_is : size_of s ≡ size) (align_is : align_of s ≡ alignment_bytes align) where
  -- the law of a value under a name is that of the shape that the name denotes
  pub named_spells_at :
      {A R : Type 0} (fit : Fit) (knows : Names → Type 0) (known : (names : Names) → knows names → shape_named names name ≡ Some s) (w : Spelling A R) (x : A)
      → SpellsAt fit s knows w x
      → SpellsAt fit (named name size align) knows w x
  unfolding made
  named_spells_at fit knows known w x law = record {
    sized = λ r pos f. law.sized r pos f ∙ size_is;
    canonical = λ st pos names keys bytes level inside k n met state over f o p q.
        let e = named_is s name size align size_is align_is names bytes pos (known names k) in
        one_part (at pos (named name size align)) (at pos s) same _ _ st.pos _ e tt refl
        (clean_by names bytes (at pos (named name size align)) (plain same (at pos s ∷ [])) e
        (λ i h. inr (inl (inl (h.0, subst (λ m. i < pos + m) (sym size_is) h.1)))) tt)
        tt
        (law.canonical st pos names keys bytes level inside k n met state over f o p q);
    consistent = law.consistent;
    keyed = law.keyed;
    piece_bytes = law.piece_bytes;
    own_bytes = law.own_bytes;
    piece_exact = law.piece_exact;
    own_exact = law.own_exact;
    unshared = λ none. absurd (true≢false none);
  }

module _ {A R : Type 0} (fit : Fit) (s : Shape) (knows : Names → Type 0) (one : Spelling A R → Spelling A R) (none : Spelling A R) (below : A → ℕ)
    (law : (w : Spelling A R) (n : ℕ) (x : A) → below x ≤ n → ((y : A) → suc (below y) ≤ n → SpellsAt fit s knows w y) → SpellsAt fit s knows (one w) x) where
  levels_spell : (n : ℕ) (x : A) → below x ≤ n → SpellsAt fit s knows (levels_spelling one none (suc n)) x
  levels_spell zero x less = law none zero x less (λ y h. absurd (omega (arith, h)))
  levels_spell (suc n) x less = law (levels_spelling one none (suc n)) (suc n) x less (λ y h. levels_spell n y (omega (arith, h)))

  -- where the law of a value is that of those below it, it is the law of all
  pub self_spells : Spells fit s knows (self_spelling one none below)
  self_spells x =
      let h = levels_spell (below x) x (omega arith) in
      record {
        sized = h.sized;
        canonical = h.canonical;
        consistent = h.consistent;
        keyed = h.keyed;
        piece_bytes = h.piece_bytes;
        own_bytes = h.own_bytes;
        piece_exact = h.piece_exact;
        own_exact = h.own_exact;
        unshared = h.unshared;
      }
