-- How values without data are archived, and values that are seen as others.
use Rattle.std.specs.Prelude.{◌≡◌, ℕ, List, [], length, ⊤}
use Rattle.archive_shape_layout.specs.Shape.{Shape, size_of}
use Rattle.archive_shape_layout.specs.Value.{Value}
use Rattle.archive_shape_layout.specs.Numbers.{Reads}
use Rattle.archive_shape_canonical.specs.Sharing.{erased}
use Rattle.archive_forms_laws.specs.Spelling.{Spelling}
use Rattle.archive_shape_canonical.specs.Canonical.{AreBytes}

-- a number, a truth value or a char: its own bytes are all that it has
abbrev pub leaf_spelling : {A : Type 0} → Shape → (A → List ℕ) → (A → Value) → Spelling A (Unit {0})
leaf_spelling s bytes_of value_of = record {
  value = λ x _. value_of x;
  plain = λ x. erased (value_of x);
  piece = λ _ _. [];
  resolver = λ _ _. tt;
  met = λ _ st. st.met;
  own = λ x _ _. bytes_of x;
  piece_fits = λ _ _. ⊤;
  piece_refused = λ _ _ _. ⊥;
  own_fits = λ x _ _. Reads s (bytes_of x) (value_of x) × (length (bytes_of x) ≡ size_of s) × AreBytes (bytes_of x);
  own_refused = λ _ _ _ _. ⊥;
  suits = λ _ _ _. ⊤;
}

-- a value that is seen as another
abbrev pub seen_as : {A B R : Type 0} → (B → A) → Spelling A R → Spelling B R
seen_as view w = record {
  value = λ x st. w.value (view x) st;
  plain = λ x. w.plain (view x);
  piece = λ x st. w.piece (view x) st;
  resolver = λ x st. w.resolver (view x) st;
  met = λ x st. w.met (view x) st;
  own = λ x r pos. w.own (view x) r pos;
  piece_fits = λ x st. w.piece_fits (view x) st;
  piece_refused = λ x st e. w.piece_refused (view x) st e;
  own_fits = λ x r pos. w.own_fits (view x) r pos;
  own_refused = λ x r pos e. w.own_refused (view x) r pos e;
  suits = λ fit keys x. w.suits fit keys (view x);
}

-- a resolver that is kept as another
abbrev pub kept_as : {A R Q : Type 0} → (R → Q) → (Q → R) → Spelling A R → Spelling A Q
kept_as make get w = record {
  value = w.value;
  plain = w.plain;
  piece = w.piece;
  resolver = λ x st. make (w.resolver x st);
  met = w.met;
  own = λ x r pos. w.own x (get r) pos;
  piece_fits = w.piece_fits;
  piece_refused = w.piece_refused;
  own_fits = λ x r pos. w.own_fits x (get r) pos;
  own_refused = λ x r pos e. w.own_refused x (get r) pos e;
  suits = w.suits;
}
