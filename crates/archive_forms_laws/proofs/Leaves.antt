-- Numbers, truth values and chars are read as they are written.
use Rattle.std.proofs.Common.{◌≡◌, ℕ, ◌+◌, List, [], refl, sym, subst, ap, ◌∙◌, add-zero, inl}
use Rattle.archive_shape_layout.specs.Bytes.{window}
use Rattle.archive_shape_layout.specs.Shape.{Shape, size_of}
use Rattle.archive_shape_layout.specs.Shape.Shape.{number, nonzero, truth, character, text, tuple, array, option, result, choice, box, vector, shared, weak, tree, table, index_map, named}
use Rattle.archive_shape_layout.specs.Value.{Value}
use Rattle.archive_shape_layout.specs.Content.{Names, made, shape_content}
use Rattle.archive_shape_layout.specs.Content.Label.{leaf}
use Rattle.archive_shape_layout.specs.Content.Content.{plain}
use Rattle.archive_shape_layout.specs.Content.Part.{at}
use Rattle.archive_shape_layout.specs.Holds.{Visit, OpenShared, Ascends}
use Rattle.archive_shape_layout.specs.Holds.Holds.{holds_plain}
use Rattle.archive_shape_layout.specs.Holds.HoldAll.{holds_none}
use Rattle.archive_shape_layout.specs.Numbers.{IsLeafShape}
use Rattle.archive_shape_canonical.specs.Settled.{Fit}
use Rattle.archive_shape_canonical.specs.Clean.{IsIn, IsFilled, field_size}
use Rattle.archive_shape_canonical.proofs.Cleanness.{clean_by}
use Rattle.archive_forms_laws.specs.State.{visits_of}
use Rattle.archive_forms_laws.specs.Spells.{Spells, CanonicalPart}
use Rattle.archive_forms_laws.specs.Forms.{leaf_spelling}
use Rattle.archive_forms_laws.proofs.States.{consistent_advanced}
use Rattle.archive_forms_laws.proofs.Gaps.{no_gap, bytes_none}

leaf_field : (s : Shape) → IsLeafShape s → field_size s ≡ size_of s
leaf_field (number w signed) l = refl
leaf_field (nonzero w signed) l = refl
leaf_field truth l = refl
leaf_field character l = refl
leaf_field text l = absurd l
leaf_field (tuple ss) l = absurd l
leaf_field (array n s) l = absurd l
leaf_field (option s) l = absurd l
leaf_field (result s t) l = absurd l
leaf_field (choice ss) l = absurd l
leaf_field (box p) l = absurd l
leaf_field (vector s) l = absurd l
leaf_field (shared cyclic p) l = absurd l
leaf_field (weak cyclic p) l = absurd l
leaf_field (tree most k v) l = absurd l
leaf_field (table s) l = absurd l
leaf_field (index_map k v) l = absurd l
leaf_field (named name size align) l = absurd l

leaf_filled : (s : Shape) → IsLeafShape s → (bytes : List ℕ) (pos : ℕ) (v : Value) → IsFilled bytes (at pos s) (plain (leaf v) [])
leaf_filled (number w signed) l bytes pos v = tt
leaf_filled (nonzero w signed) l bytes pos v = tt
leaf_filled truth l bytes pos v = tt
leaf_filled character l bytes pos v = tt
leaf_filled text l bytes pos v = absurd l
leaf_filled (tuple ss) l bytes pos v = absurd l
leaf_filled (array n s) l bytes pos v = absurd l
leaf_filled (option s) l bytes pos v = absurd l
leaf_filled (result s t) l bytes pos v = absurd l
leaf_filled (choice ss) l bytes pos v = absurd l
leaf_filled (box p) l bytes pos v = absurd l
leaf_filled (vector s) l bytes pos v = absurd l
leaf_filled (shared cyclic p) l bytes pos v = absurd l
leaf_filled (weak cyclic p) l bytes pos v = absurd l
leaf_filled (tree most k v) l bytes pos u = absurd l
leaf_filled (table s) l bytes pos v = absurd l
leaf_filled (index_map k v) l bytes pos u = absurd l
leaf_filled (named name size align) l bytes pos v = absurd l

leaf_canonical : (fit : Fit) (s : Shape) (v : Value) (names : Names) (bytes : List ℕ) (level pos low : ℕ) (inside : List OpenShared) (visits : List Visit)
    → IsLeafShape s
    → shape_content names pos (window bytes pos (size_of s)) s ≡ plain (leaf v) []
    → CanonicalPart fit names bytes level inside visits visits (at pos s) v low (low + 0)
unfolding made Ascends
leaf_canonical fit s v names bytes level pos low inside visits l e = record {
  regions = [];
  reads = record {
    holds = holds_plain e tt (holds_none refl refl refl) refl;
    canonical = (
      clean_by names bytes (at pos s) (plain (leaf v) []) e (λ i o. inl (subst (λ n. IsIn pos n i) (sym (leaf_field s l)) o)) (leaf_filled s l bytes pos v),
      tt,
      tt,
    );
    ends = sym (add-zero low);
  };
  ascends = tt;
  gaps = no_gap bytes [] low;
}

-- the law of leaves
pub leaf_spells : {A : Type 0} (fit : Fit) (s : Shape) (knows : Names → Type 0) (bytes_of : A → List ℕ) (value_of : A → Value)
    → IsLeafShape s → Spells fit s knows (leaf_spelling s bytes_of value_of)
leaf_spells fit s knows bytes_of value_of l x = record {
  sized = λ r pos h. h.1;
  canonical = λ st pos names keys bytes level inside k keyed known state from f o stands there.
      let own : window bytes pos (size_of s) ≡ bytes_of x = ap (window bytes pos) (sym o.1) ∙ there in
      leaf_canonical fit s (value_of x) names bytes level pos st.pos inside (visits_of st.met) l (ap (λ own. shape_content names pos own s) own ∙ o.0 names pos);
  consistent = λ st state f. consistent_advanced st 0 state;
  keyed = λ keys st keyed known f. (refl, known);
  piece_bytes = λ st f. bytes_none;
  own_bytes = λ r pos f. f.2;
  piece_exact = λ st e h k. k;
  own_exact = λ r pos e h k. k;
  unshared = λ none keys. tt;
}
