-- Values without parts: where the own bytes are legal they are accepted and claim nothing, and where they are not, the
-- first question of them is answered by no.
use Rattle.std.proofs.Common.{◌≡◌, ℕ, ◌==◌, nat_lt, not, Bool, true, false, List, [], slice_index, Some, Ok, Err, refl, subst}
use Rattle.std.specs.Int.{from_le_bytes}
use Rattle.archive_shape_layout.specs.Bytes.{window, word_at}
use Rattle.archive_shape_layout.specs.Shape.{Shape, size_of}
use Rattle.archive_shape_layout.specs.Shape.Shape.{number, nonzero, truth, character, text, tuple, array, option, result, choice, box, vector, shared, weak, tree, table, index_map, named}
use Rattle.archive_shape_layout.specs.Shape.Shapes.{no_shapes}
use Rattle.archive_shape_layout.specs.Value.{Value}
use Rattle.archive_shape_layout.specs.Value.Value.{group}
use Rattle.archive_shape_layout.specs.Value.Values.{no_values}
use Rattle.archive_shape_layout.specs.Content.{Names, Part, Label, content_of, made, IsLegal, choose, is_scalar, fields, shape_content}
use Rattle.archive_shape_layout.specs.Content.Part.{at}
use Rattle.archive_shape_layout.specs.Content.Label.{leaf, whole}
use Rattle.archive_shape_layout.specs.Content.Content.{plain, illegal}
use Rattle.archive_shape_layout.specs.Holds.{Ascends, end_after}
use Rattle.archive_shape_layout.specs.Holds.Holds.{holds_plain}
use Rattle.archive_shape_layout.specs.Holds.HoldAll.{holds_none}
use Rattle.archive_shape_layout.specs.Numbers.{IsLeafShape, IsIllegal, Reads}
use Rattle.archive_shape.specs.Range.{Range}
use Rattle.archive_shape.specs.Accepts.{NestsBelow}
use Rattle.archive_shape.specs.Questions.{FirstUnanswered, questions_of_shape}
use Rattle.archive_shape.specs.Questions.FirstUnanswered.{unanswered_here}
use Rattle.archive_shape.specs.PartFault.PartFault.{fault_unanswered}
use Rattle.archive_shape.specs.Kept.{Kept}
use Rattle.archive_shape.specs.Checks.{Checks}
use Rattle.archive_shape_layout.specs.declared.error.Error.TheVariants.{InvalidTag}

-- a part without parts is accepted at every position, and what is kept stays as it is
pub alone_checked :
    (names : Names) (bytes : List ℕ) (p : Part) (kept : Kept) (l : Label) (v : Value)
    → content_of names bytes p ≡ plain l []
    → IsLegal l
    → made l no_values ≡ Some v
    → Checks names bytes p kept (Ok tt) kept
unfolding Ascends end_after NestsBelow
alone_checked names bytes p kept l v e legal is_made inside before records =
    record {
      passes = record {
        value = v;
        regions = [];
        after = before;
        accepts = record { holds = holds_plain e legal (holds_none refl refl refl) is_made; ascends = tt; nests = tt };
      };
      seen = kept.seen;
      moves = refl;
      records = records;
    }

-- the unit type's value, which has no bytes
pub unit_checked : (names : Names) (bytes : List ℕ) (pos : ℕ) (kept : Kept) → Checks names bytes (at pos (tuple no_shapes)) kept (Ok tt) kept
unfolding shape_content fields made
unit_checked names bytes pos kept = alone_checked names bytes (at pos (tuple no_shapes)) kept whole (group no_values) refl tt refl

-- ---- legal bytes

pub leaf_checked : (names : Names) (bytes : List ℕ) (pos size : ℕ) (s : Shape) (kept : Kept) (v : Value) → size ≡ size_of s → Reads s (window bytes pos size) v → Checks names bytes (at pos s) kept (Ok tt) kept
unfolding made
leaf_checked names bytes pos size s kept v e reads =
    let own : Reads s (window bytes pos (size_of s)) v = subst (λ n. Reads s (window bytes pos n) v) e reads in
    alone_checked names bytes (at pos s) kept (leaf v) v (own names pos) tt refl

-- ---- bytes that are not legal

not_chosen : (b : Bool) (l : Label) → choose b (plain l []) illegal ≡ illegal → b ≡ true → ⊥
unfolding choose
not_chosen true l e f = absurd (cc)
not_chosen false l e f = let h : false ≡ true = f in cc

chosen_illegal : (b : Bool) (l : Label) → choose b illegal (plain l []) ≡ illegal → not b ≡ true → ⊥
unfolding choose
chosen_illegal true l e f = let h : false ≡ true = f in cc
chosen_illegal false l e f = absurd (cc)

pub illegal_unanswered : (names : Names) (k : Range) (pos : ℕ) (own : List ℕ) (s : Shape) → IsLeafShape s → shape_content names pos own s ≡ illegal → FirstUnanswered k InvalidTag (questions_of_shape pos own s)
unfolding shape_content
illegal_unanswered names k pos own (number w signed) is_leaf e = absurd (cc)
illegal_unanswered names k pos own (nonzero w signed) is_leaf e = unanswered_here (chosen_illegal (from_le_bytes w own == 0) _ e) refl
illegal_unanswered names k pos own truth is_leaf e = unanswered_here (not_chosen (nat_lt (slice_index own 0) 2) _ e) refl
illegal_unanswered names k pos own character is_leaf e = unanswered_here (not_chosen (is_scalar (word_at own 0)) _ e) refl
illegal_unanswered names k pos own text is_leaf e = absurd is_leaf
illegal_unanswered names k pos own (tuple ss) is_leaf e = absurd is_leaf
illegal_unanswered names k pos own (array n s) is_leaf e = absurd is_leaf
illegal_unanswered names k pos own (option s) is_leaf e = absurd is_leaf
illegal_unanswered names k pos own (result s t) is_leaf e = absurd is_leaf
illegal_unanswered names k pos own (choice ss) is_leaf e = absurd is_leaf
illegal_unanswered names k pos own (box p) is_leaf e = absurd is_leaf
illegal_unanswered names k pos own (vector s) is_leaf e = absurd is_leaf
illegal_unanswered names k pos own (shared cyclic p) is_leaf e = absurd is_leaf
illegal_unanswered names k pos own (weak cyclic p) is_leaf e = absurd is_leaf
illegal_unanswered names k pos own (tree most key value) is_leaf e = absurd is_leaf
illegal_unanswered names k pos own (table s) is_leaf e = absurd is_leaf
illegal_unanswered names k pos own (index_map key value) is_leaf e = absurd is_leaf
illegal_unanswered names k pos own (named name size align) is_leaf e = absurd is_leaf

pub leaf_refused : (names : Names) (bytes : List ℕ) (pos size : ℕ) (s : Shape) (kept : Kept) → IsLeafShape s → size ≡ size_of s → IsIllegal s (window bytes pos size) → Checks names bytes (at pos s) kept (Err InvalidTag) kept
leaf_refused names bytes pos size s kept is_leaf e is_illegal inside before records other =
    let own : IsIllegal s (window bytes pos (size_of s)) = subst (λ n. IsIllegal s (window bytes pos n)) e is_illegal in
    fault_unanswered (illegal_unanswered names _ pos (window bytes pos (size_of s)) s is_leaf (own names pos))
