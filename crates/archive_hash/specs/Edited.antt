-- Maps that were written, of which the value of one entry is written over in place.
use Rattle.std.specs.Prelude.{◌≡◌, ℕ, ◌≤◌, Bool, List, count_by, Some}
use Rattle.std.specs.Map.{set_value}
use Rattle.std.specs.Ordering.{is_eq}
use Rattle.std.specs.declared.default.Default.{Ghosts as Default}
use Rattle.std.specs.declared.hash.Hasher.{Ghosts as Hasher}
use Rattle.archive_shape_layout.specs.Shape.{Shape}
use Rattle.archive_shape_layout.specs.Shape.Shapes.{no_shapes}
use Rattle.archive_shape_layout.specs.Value.{Value}
use Rattle.archive_shape_layout.specs.Content.{Names}
use Rattle.archive_shape_canonical.specs.Canonical.{AreBytes}
use Rattle.archive_shape.specs.Key.{HeldAt, KeyMembers}
use Rattle.archive_shape.specs.declared.types.portable.Portable.{Ghosts as Portable}
use Rattle.archive_forms_laws.specs.Spelling.{Spelling}
use Rattle.archive_forms_laws.specs.State.{State}
use Rattle.archive_forms_values.specs.Fields.{field_position}
use Rattle.archive_hash_maps.specs.Calls.Entries.{HasMapAt}
use Rattle.archive_hash_maps.specs.Calls.Keys.{Hashes, LooksUpQuery}
use Rattle.archive_hash.specs.Edits.{DiffersInValue}
use Rattle.archive_hash.specs.Answering.{AnswersKeys}
use Rattle.archive_hash.specs.Calls.Members.{HashMembers}

-- at most one of the entries has a key that passes a test
abbrev pub HasOnce : {A B : Type 0} → (A → Bool) → List (A × B) → Type 0
HasOnce test es = count_by (λ e. test e.0) es ≤ 1

-- bytes have at most one value of a type at a position
abbrev pub HasOneValue : Shape → (Names → Type 0) → Type 0
HasOneValue s knows = (bytes : List ℕ) (pos : ℕ) (x y : Value) → HeldAt s knows bytes pos x → HeldAt s knows bytes pos y → x ≡ y

module _ {A B C R P Q H : Type 0} (k : KeyMembers Q) (key : A → Q) (keys : Spelling A R) (queries : HashMembers Q) (default : Default H) (hasher : Hasher H) (v : Portable C) (vals : Spelling B P) where
  -- the map at a position answers for entries
  abbrev pub Answers : List ℕ → ℕ → List (A × B) → Type 0
  Answers bytes pos es = AnswersKeys k.shape v.shape k.knows v.knows keys vals bytes key k.order (λ query. Hashes default hasher (queries.hash_input query)) k.key_of pos es

  -- a key is the query
  abbrev pub is_query : Q → A → Bool
  is_query query x = is_eq (k.order (key x) query)

  -- a look-up of the query finds an entry, and the own bytes of its value are written over by those of another value
  pub record EditsValue (bytes out : List ℕ) (pos : ℕ) (query : Q) (b : B) (es : List (A × B)) : Type 0 where
    pub at : ℕ
    pub has : HasMapAt k.shape v.shape k.knows v.knows bytes pos
    pub answers : Answers bytes pos es
    pub found : LooksUpQuery default hasher queries.hash_input k.key_of k.order k.shape v.shape bytes query (λ at. at) answers.buckets (Some at)
    pub differs : DiffersInValue k.shape v.shape at bytes out
    pub held : (state : State) → HeldAt v.shape v.knows out (field_position k.shape no_shapes v.shape at) (vals.value b state)

  -- Then the map answers for the entries with this value as that of the query. The key may be among the entries at
  -- most once, and what bytes have of a key or a value may not depend on what was read before, as of numbers and texts.
  abbrev pub EditedMapAnswers : Type 0
  EditedMapAnswers =
      (bytes out : List ℕ) (pos : ℕ) (query : Q) (b : B) (es : List (A × B))
      → HasOneValue k.shape k.knows
      → HasOneValue v.shape v.knows
      → AreBytes bytes
      → AreBytes out
      → HasOnce (is_query query) es
      → EditsValue bytes out pos query b es
      → Answers out pos (set_value (is_query query) es b)
