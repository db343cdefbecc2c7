-- Tables: their own bytes, and the buckets and controls that these lead to.
use Rattle.std.proofs.Common.{◌≡◌, ◌≢◌, ℕ, ◌+◌, List, [], ◌∷◌, Ok, Err, Result, refl, sym, ap, ap₂, ◌∙◌, arith}
use Rattle.std.proofs.lemmas.Bool.{eq-eqb}
use Rattle.archive_shape_layout.specs.Bytes.{window, word_at, target_from}
use Rattle.archive_shape_layout.specs.Shape.{Shape}
use Rattle.archive_shape_layout.specs.Shape.Shape.{table}
use Rattle.archive_shape_layout.specs.Content.{Names, content_of, made, item, shape_content, table_parts}
use Rattle.archive_shape_layout.specs.Content.Part.{at, buckets}
use Rattle.archive_shape_layout.specs.Content.Label.{same, whole}
use Rattle.archive_shape_layout.specs.Content.Content.{plain}
use Rattle.archive_shape.specs.Questions.{FirstUnanswered, questions_of_table}
use Rattle.archive_shape.specs.PartFault.PartFault.{fault_unanswered}
use Rattle.archive_shape.specs.Kept.{Kept, range_of}
use Rattle.archive_shape.specs.Checks.{Checks}
use Rattle.archive_shape_layout.specs.declared.error.Error.{Error}
use Rattle.archive_shape.proofs.Below.{below_checked}
use Rattle.archive_shape.proofs.Ordered.{none_checked}
use Rattle.archive_shape.proofs.Wholes.{whole_checked}
use Rattle.archive_forms_laws.proofs.TextContent.{followed}
use Rattle.archive_forms_values.proofs.Chosen.{chosen, not_chosen}
use Rattle.archive_hash_maps.specs.Heads.{HasHead}
use Rattle.archive_hash_maps.specs.declared.checking.head.TableHead.{TableHead}
use Rattle.archive_hash_maps.proofs.HeadChecks.{own_len, own_cap, own_target, some_own, less_own}

module _ (names : Names) (bytes : List ℕ) (pos : ℕ) (s : Shape) where
  -- without items
  empty_is : word_at bytes (pos + 4) ≡ 0 → content_of names bytes (at pos (table s)) ≡ plain whole []
  unfolding shape_content
  empty_is is = chosen _ _ _ (eq-eqb _ 0 (own_len bytes pos 12 (omega arith) ∙ is))

  pub table_empty : (old : Kept) → word_at bytes (pos + 4) ≡ 0 → Checks names bytes (at pos (table s)) old (Ok tt) old
  table_empty old is =
      whole_checked names bytes pos (table s) [] old old (Ok tt) (empty_is is) (λ inside before records. none_checked names bytes inside before old records)

  -- its own bytes are refused
  pub table_refused :
      (old new : Kept) (r : Result (Unit {0}) Error) (e : Error) → r ≡ Err e
      → FirstUnanswered (range_of old) e (questions_of_table pos (window bytes pos 12) (item s))
      → Checks names bytes (at pos (table s)) old r new
  table_refused old new r e is f inside before records = rw is (λ other. fault_unanswered f)

  module _ (head : TableHead) (h : HasHead bytes pos head) where
    table_is : content_of names bytes (at pos (table s)) ≡ plain same (buckets head.controls head.len head.capacity (item s) ∷ [])
    unfolding shape_content table_parts
    table_is =
        let some : head.len ≢ 0 = λ e. omega (arith, e, h.some) in
        not_chosen _ _ _ (some_own bytes pos 12 (omega arith) head.len head.capacity h.len h.capacity some)
        ∙ chosen _ _ _ (less_own bytes pos 12 (omega arith) head.len head.capacity h.len h.capacity some h.room)
        ∙ followed _ head.controls _ (ap (target_from pos) (own_target bytes pos 12 (omega arith)) ∙ h.controls)
        ∙ ap₂ (λ n m. plain same (buckets head.controls n m (item s) ∷ [])) (own_len bytes pos 12 (omega arith) ∙ sym h.len) (own_cap bytes pos 12 (omega arith) ∙ sym h.capacity)

    -- the check of buckets and controls is that of the table
    pub table_checked : (old new : Kept) (r : Result (Unit {0}) Error) → Checks names bytes (buckets head.controls head.len head.capacity (item s)) old r new → Checks names bytes (at pos (table s)) old r new
    unfolding made
    table_checked old new r h = below_checked names bytes pos (table s) same _ old new r table_is tt (λ v. (v, refl)) h
