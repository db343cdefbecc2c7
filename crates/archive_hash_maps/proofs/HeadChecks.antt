-- The own bytes of tables.
use Rattle.std.proofs.Common.{◌≡◌, ◌≢◌, ℕ, ◌+◌, ◌-◌, ◌*◌, ◌<◌, ◌≤◌, ◌^◌, min, true, false, nat_lt, ◌==◌, List, Option, Some, None, sym, ap, ap₂, subst, ◌∙◌, arith}
use Rattle.std.specs.Prelude.{MatchOption}
use Rattle.std.proofs.lemmas.Bool.{ne_eqb, lt-ltb, ltb-true}
use Rattle.std.proofs.lemmas.Bool.Decides.{nat_tests}
use Rattle.archive_shape_layout.specs.Bytes.{window, word_at, target_from}
use Rattle.archive_shape_layout.specs.Content.{Item, item_size, control_count, buckets_span}
use Rattle.archive_shape.specs.Range.{Range}
use Rattle.archive_shape.specs.Questions.{FirstUnanswered, questions_of_table}
use Rattle.archive_shape.specs.Questions.FirstUnanswered.{unanswered_here, unanswered_later}
use Rattle.archive_shape_layout.specs.declared.error.Error.TheVariants.{InvalidSubtreePointer, TableLength}
use Rattle.archive_shape.proofs.Questions.{leads_nowhere}
use Rattle.archive_forms_values.proofs.Targets.{first_word}
use Rattle.archive_shape_layout.proofs.Windows.{word_within}
use Rattle.archive_hash_maps.specs.Heads.{HasHead}
use Rattle.archive_hash_maps.specs.declared.checking.head.TableHead.{TableHead}

-- an offset leads at most half the words away
pub leads_near : (pos word t : ℕ) → target_from pos word ≡ Some t → t < pos + 2 ^ 31
unfolding target_from
leads_near pos word t leads = grind (arith, nat_tests)

-- in a type of `size` bytes, which begins with a table's
module _ (bytes : List ℕ) (pos size : ℕ) (long : 12 ≤ size) where
  pub own_len : word_at (window bytes pos size) 4 ≡ word_at bytes (pos + 4)
  own_len = word_within bytes pos size 4 (omega arith)

  pub own_cap : word_at (window bytes pos size) 8 ≡ word_at bytes (pos + 8)
  own_cap = word_within bytes pos size 8 (omega arith)

  pub own_target : word_at (window bytes pos size) 0 ≡ word_at bytes pos
  own_target = first_word bytes pos size (omega arith)

  module _ (len cap : ℕ) (says : len ≡ word_at bytes (pos + 4)) (places : cap ≡ word_at bytes (pos + 8)) (some : len ≢ 0) where
    pub some_own : (word_at (window bytes pos size) 4 == 0) ≡ false
    some_own = ne_eqb _ 0 (λ e. some (says ∙ sym own_len ∙ e))

    not_less : cap ≤ len → nat_lt (word_at (window bytes pos size) 4) (word_at (window bytes pos size) 8) ≡ true → ⊥
    not_less full e = let less : word_at (window bytes pos size) 4 < word_at (window bytes pos size) 8 = ltb-true _ _ e in omega (arith, own_len, own_cap)

    -- with as many items as places, or more
    pub head_full : (it : Item) (range : Range) → cap ≤ len → FirstUnanswered range (TableLength len cap) (questions_of_table pos (window bytes pos size) it)
    head_full it range full = rw some_own (unanswered_here (not_less full) (ap₂ TableLength (says ∙ sym own_len) (places ∙ sym own_cap)))

    module _ (less : len < cap) where
      pub less_own : nat_lt (word_at (window bytes pos size) 4) (word_at (window bytes pos size) 8) ≡ true
      less_own = lt-ltb _ _ (omega (arith, own_len, own_cap))

      -- the controls lie before the bytes
      pub head_astray :
          (it : Item) (range : Range) (all : ℕ) → target_from pos (word_at bytes pos) ≡ None → all ≡ min (cap * item_size it + control_count cap) (2 ^ 64 - 1)
          → FirstUnanswered range (InvalidSubtreePointer all) (questions_of_table pos (window bytes pos size) it)
      unfolding buckets_span
      head_astray it range all astray is =
          rw some_own (unanswered_later less_own (unanswered_here (leads_nowhere _ (ap (target_from pos) own_target ∙ astray))
          (ap InvalidSubtreePointer (is ∙ ap (λ n. min (n * item_size it + control_count n) (2 ^ 64 - 1)) (places ∙ sym own_cap)))))

-- what is read of them
pub head_some : (bytes : List ℕ) (pos : ℕ) (o : Option TableHead) (head : TableHead) → o ≡ Some head → MatchOption o (word_at bytes (pos + 4) ≡ 0) (HasHead bytes pos) → HasHead bytes pos head
head_some bytes pos o head is h = subst (λ x. MatchOption x (word_at bytes (pos + 4) ≡ 0) (HasHead bytes pos)) is h

pub head_none : (bytes : List ℕ) (pos : ℕ) (o : Option TableHead) → o ≡ None → MatchOption o (word_at bytes (pos + 4) ≡ 0) (HasHead bytes pos) → word_at bytes (pos + 4) ≡ 0
head_none bytes pos o is h = subst (λ x. MatchOption x (word_at bytes (pos + 4) ≡ 0) (HasHead bytes pos)) is h
