-- What can be decided of bytes, items and keys.
use Rattle.std.proofs.Common.{◌≡◌, ◌≢◌, ℕ, ◌<◌, ◌^◌, ℤ, pos, negsuc, Bool, List, [], ◌∷◌, ◌++◌, IsUtf8, FitsSigned, w64, All, refl, inl, inr, arith}
use Rattle.std.specs.Bool.{Decides}
use Rattle.std.specs.Cmp.Lexicographic.{slice_cmp}
use Rattle.std.specs.Ordering.{nat_cmp}
use Rattle.std.specs.declared.cmp.Ordering.{Ordering}
use Rattle.std.specs.declared.cmp.Ordering.TheVariants.{Less, Equal, Greater}
use Rattle.std.specs.Str.{is_utf8, bytes_eq}
use Rattle.std.proofs.lemmas.Bool.{cases_Bool, cases_lt}
use Rattle.std.proofs.lemmas.Bool.Decides.{eqb_tells, not_from_Decides}
use Rattle.std.proofs.lemmas.List.Elements.{All-nil, All-cons, All-head, All-tail}
use Rattle.std.proofs.lemmas.Slice.Eq.{bytes_eq-Decides}
use Rattle.std.proofs.lemmas.Str.{IsUtf8-from_is_utf8, is_utf8-from_IsUtf8}
use Rattle.cabinet_text_grammar.specs.Keys.{MapKind, ordered, hashed, kept, IsAboveLast, MayFollow}
use Rattle.cabinet_text_grammar.specs.Tree.{truth, number, text}
use Rattle.cabinet_text_grammar.specs.Item.{Item, leaf_item, shared_item, none_item, some_item, list_item, map_item, key_item, whole_item, wholes_item, whole_head}
use Rattle.cabinet_text_grammar.specs.declared.cause.Cause.{Cause}
use Rattle.cabinet_text_grammar.specs.declared.cause.Cause.TheVariants.{OutOfMemory}
use Rattle.cabinet_text_grammar.proofs.Escapes.{first_same, rest_same}
use Rattle.cabinet_text_grammar.proofs.ReadBack.{IsItem}

decided_by : {P : Type 0} (b : Bool) → Decides b P → Dec P
decided_by b decides =
    elim (cases_Bool b) [
      | inl is ↦ yes (decides.0 is)
      | inr differs ↦ no (not_from_Decides b decides differs)
    ]

pub decide_utf8 : (bytes : List ℕ) → Dec (IsUtf8 bytes)
decide_utf8 bytes = decided_by (is_utf8 bytes) (IsUtf8-from_is_utf8 bytes, is_utf8-from_IsUtf8 bytes)

pub decide_same : (xs ys : List ℕ) → Dec (xs ≡ ys)
decide_same xs ys = decided_by (bytes_eq xs ys) (bytes_eq-Decides xs ys)

pub decide_below : (m n : ℕ) → Dec (m < n)
decide_below m n =
    elim (cases_lt m n) [
      | inl below ↦ yes below
      | inr above ↦ no (λ below. omega (arith, above, below))
    ]

decide_number : (n : ℤ) → Dec (FitsSigned w64 n)
decide_number (pos n) =
    elim (decide_below n (2 ^ 63)) [
      | yes below ↦ yes (record { sfits = below })
      | no above ↦ no (λ fits. above fits.sfits)
    ]
decide_number (negsuc n) =
    elim (decide_below n (2 ^ 63)) [
      | yes below ↦ yes (record { sfits = below })
      | no above ↦ no (λ fits. above fits.sfits)
    ]

pub decide_item : (i : Item) → Dec (IsItem i)
decide_item (leaf_item (truth b)) = yes tt
decide_item (leaf_item (number n)) = decide_number n
decide_item (leaf_item (text t)) = decide_utf8 t
decide_item (shared_item t) = decide_utf8 t
decide_item none_item = yes tt
decide_item some_item = yes tt
decide_item (list_item n) = decide_below n (2 ^ 64)
decide_item (map_item kind n) = decide_below n (2 ^ 64)
decide_item (key_item k) = decide_utf8 k
decide_item (whole_item n) = decide_below n (2 ^ 64)
decide_item (wholes_item n) = decide_below n (2 ^ 64)
decide_item whole_head = yes tt

-- a word and something after it
abbrev pub IsAfter : List ℕ → List ℕ → Type 0
IsAfter word line = (rest : List ℕ) × (line ≡ word ++ rest)

pub decide_word : (word line : List ℕ) → Dec (IsAfter word line)
decide_word [] line = yes (line, refl)
decide_word (w ∷ word) [] = no (λ h. cc)
decide_word (w ∷ word) (b ∷ line) =
    elim (eqb_tells b w) [
      | inl is ↦
          elim (decide_word word line) [
            | yes after ↦ yes (after.0, rw (is.1, after.1) refl)
            | no not_after ↦ no (λ h. not_after (h.0, rest_same h.1))
          ]
      | inr differs ↦ no (λ h. differs.1 (first_same h.1))
    ]

decide_less : (o : Ordering) → Dec (o ≡ Less)
decide_less Less = yes refl
decide_less Equal = no (λ h. cc)
decide_less Greater = no (λ h. cc)

decide_above : (keys : List (List ℕ)) (k : List ℕ) → Dec (IsAboveLast keys k)
decide_above [] k = yes tt
decide_above (last ∷ keys) k = decide_less (slice_cmp nat_cmp last k)

decide_new : (keys : List (List ℕ)) (k : List ℕ) → Dec (All (λ before. before ≢ k) keys)
decide_new [] k = yes (All-nil (λ before. before ≢ k))
decide_new (key ∷ keys) k =
    elim (decide_same key k) [
      | yes same ↦ no (λ all. All-head (λ before. before ≢ k) key keys all same)
      | no differs ↦
          elim (decide_new keys k) [
            | yes others ↦ yes (All-cons (λ before. before ≢ k) key keys differs others)
            | no found ↦ no (λ all. found (All-tail (λ before. before ≢ k) key keys all))
          ]
    ]

pub decide_follows : (kind : MapKind) (keys : List (List ℕ)) (k : List ℕ) → Dec (MayFollow kind keys k)
decide_follows ordered keys k = decide_above keys k
decide_follows hashed keys k = decide_above keys k
decide_follows kept keys k = decide_new keys k

pub decide_memory : (cause : Cause) → Dec (cause ≡ OutOfMemory)
decide_memory OutOfMemory = yes refl
decide_memory _ = no (λ h. cc)
