-- Texts, and pairs of texts and numbers, have no tables and no shared values: each fit suits them. What is written of them.
use Rattle.std.proofs.Common.{ℕ, List, [], ◌∷◌, None, Ok, Err}
use Rattle.std.specs.Prelude.{String, false, Result, MatchResult, IfOk}
use Rattle.std.specs.Global.{Global}
use Rattle.std.specs.Int.{w32, to_le_bytes}
use Rattle.archive_shape_layout.specs.Shape.{Shape}
use Rattle.archive_shape_layout.specs.Shape.Shape.{number, text}
use Rattle.archive_shape_layout.specs.Value.Value.{natural}
use Rattle.archive_shape_canonical.specs.Settled.{Fit}
use Rattle.archive_forms_laws.specs.Fields.{tuple2_spelling, unit_spelling}
use Rattle.archive_forms_laws.specs.Forms.{leaf_spelling}
use Rattle.archive_forms_laws.specs.Regions.{all_suit}
use Rattle.archive_forms_laws.specs.Spelling.{Spelling}
use Rattle.archive_forms_laws.specs.State.{AreOneToOne, Keys}
use Rattle.archive_forms_writing.specs.Owned.{string_spelling}
use Rattle.archive_hash.specs.Owned.{key_entries}
use Rattle.archive_index.specs.Sets.{unit_shape}

abbrev pub u32_shape : Shape
u32_shape = number w32 false

abbrev pub u32_spelling : Spelling ℕ (Unit {0})
u32_spelling = leaf_spelling u32_shape (λ n. to_le_bytes w32 n) natural

pub all_suited : (fit : Fit) (keys : Keys) (es : List (String Global × ℕ)) → all_suit (tuple2_spelling text string_spelling u32_shape u32_spelling) fit keys es
all_suited fit keys [] = tt
all_suited fit keys (e ∷ es) = ((tt, (tt, tt)), all_suited fit keys es)

pub keys_suited : (fit : Fit) (keys : Keys) (ks : List (String Global)) → all_suit (tuple2_spelling text string_spelling unit_shape unit_spelling) fit keys (key_entries ks)
keys_suited fit keys [] = tt
keys_suited fit keys (k ∷ ks) = ((tt, (tt, tt)), keys_suited fit keys ks)

-- no shared value
abbrev pub no_keys : Keys
no_keys key = None

pub one_to_one : AreOneToOne no_keys
one_to_one k l a b is_a is_b pointee value = absurd cc

-- where a value is returned, more is told of it
pub told : {B E : Type 0} (P Q : B → Type 0) (F : E → Type 0) (r : Result B E) → MatchResult r P F → ((b : B) → P b → Q b) → IfOk r Q
told P Q F (Ok b) h more = more b h
told P Q F (Err e) h more = tt
