-- Maps: their own bytes, and the tree that these lead to.
use Rattle.std.proofs.Common.{◌≡◌, ◌≢◌, ℕ, ◌+◌, ◌<◌, ◌^◌, false, ◌==◌, List, [], ◌∷◌, Some, None, Ok, Err, Result, refl, sym, ap, subst, ◌∙◌, arith, append-nil}
use Rattle.std.proofs.lemmas.Bool.{ne_eqb, eq-eqb}
use Rattle.archive_shape_layout.specs.Bytes.{window, word_at, target_from}
use Rattle.archive_shape_layout.specs.Shape.{Shape}
use Rattle.archive_shape_layout.specs.Shape.Shape.{tree}
use Rattle.archive_shape_layout.specs.Value.{Value, count_values}
use Rattle.archive_shape_layout.specs.Value.Values.{no_values, more_values}
use Rattle.archive_shape_layout.specs.Content.{Names, content_of, made, members, shape_content, node_size}
use Rattle.archive_shape_layout.specs.Content.Part.{at, node}
use Rattle.archive_shape_layout.specs.Content.Label.{whole, total}
use Rattle.archive_shape_layout.specs.Content.Content.{plain}
use Rattle.archive_shape_layout.specs.Holds.Holds.{holds_plain}
use Rattle.archive_shape_layout.specs.Holds.HoldAll.{holds_none, holds_more}
use Rattle.archive_shape.specs.Range.{Range}
use Rattle.archive_shape.specs.Questions.{AreAnswered, FirstUnanswered, questions_of, out_of_range}
use Rattle.archive_shape.specs.Questions.FirstUnanswered.{unanswered_here}
use Rattle.archive_shape.specs.PartFault.PartFault.{fault_plain, fault_total, fault_unanswered}
use Rattle.archive_shape.specs.PartFault.PartsFault.{fault_here}
use Rattle.archive_shape.specs.Kept.{Kept, range_of}
use Rattle.archive_shape.specs.Checks.{Checks}
use Rattle.archive_shape_layout.specs.declared.error.Error.{Error}
use Rattle.archive_shape_layout.specs.declared.error.Error.TheVariants.{EntriesLengthMismatch}
use Rattle.archive_shape.proofs.Questions.{shape_answered, leads_nowhere}
use Rattle.archive_shape.proofs.Inverted.{IsKnown}
use Rattle.archive_forms_laws.proofs.TextContent.{followed}
use Rattle.archive_forms_values.proofs.Targets.{first_word}
use Rattle.archive_shape_layout.proofs.Windows.{word_within}
use Rattle.archive_btree_maps.specs.Counts.{Counts}
use Rattle.archive_forms_values.proofs.Chosen.{chosen, not_chosen}
use Rattle.archive_btree_maps.proofs.Counting.{none_counted}

-- a group of `len` items is taken as it is
taken : (len : ℕ) (x : Value) → count_values (members x) ≡ len → made (total len) (more_values x no_values) ≡ Some x
unfolding made
taken len x counted = rw (eq-eqb _ len counted) refl

module _ (names : Names) (bytes : List ℕ) (pos most : ℕ) (k v : Shape) where
  own_len : word_at (window bytes pos 8) 4 ≡ word_at bytes (pos + 4)
  own_len = word_within bytes pos 8 4 (omega arith)

  own_root : word_at (window bytes pos 8) 0 ≡ word_at bytes pos
  own_root = first_word bytes pos 8 (omega arith)

  -- without entries
  empty_is : word_at bytes (pos + 4) ≡ 0 → content_of names bytes (at pos (tree most k v)) ≡ plain whole []
  unfolding shape_content
  empty_is is = chosen _ _ _ (eq-eqb _ 0 (own_len ∙ is))

  pub tree_empty : (old : Kept) → word_at bytes (pos + 4) ≡ 0 → Checks names bytes (at pos (tree most k v)) old (Ok tt) old
  tree_empty old is inside before records = (none_counted names bytes (at pos (tree most k v)) old (empty_is is) inside before records).checked

  module _ (len : ℕ) (says : word_at bytes (pos + 4) ≡ len) (some : len ≢ 0) where
    some_own : (word_at (window bytes pos 8) 4 == 0) ≡ false
    some_own = ne_eqb _ 0 (λ e. some (sym says ∙ sym own_len ∙ e))

    -- the root lies before the bytes
    pub tree_astray : (old new : Kept) (e : Error) → target_from pos (word_at bytes pos) ≡ None → e ≡ out_of_range (node_size most k v) → Checks names bytes (at pos (tree most k v)) old (Err e) new
    tree_astray old new e astray refusal inside before records = λ other. fault_unanswered asked
      where
        asked : FirstUnanswered (range_of old) e (questions_of names bytes (at pos (tree most k v)))
        asked = rw some_own (unanswered_here (leads_nowhere _ (ap (target_from pos) own_root ∙ astray)) refusal)

    module _ (t : ℕ) (leads : target_from pos (word_at bytes pos) ≡ Some t) where
      tree_is : content_of names bytes (at pos (tree most k v)) ≡ plain (total len) (node 1 most k v t ∷ [])
      unfolding shape_content
      tree_is =
          not_chosen _ _ _ some_own
          ∙ followed _ t _ (ap (target_from pos) own_root ∙ leads)
          ∙ ap (λ n. plain (total n) (node 1 most k v t ∷ [])) (own_len ∙ says)

      tree_answered : (range : Range) → AreAnswered range (questions_of names bytes (at pos (tree most k v)))
      tree_answered range = shape_answered names range pos _ (tree most k v) (subst IsKnown (sym tree_is) tt)

      module _ (old new : Kept) where
        -- its root is refused
        pub tree_refused : (r : Result (Unit {0}) Error) (e : Error) → r ≡ Err e → Counts names bytes (node 1 most k v t) old (Err e) new → Checks names bytes (at pos (tree most k v)) old r new
        tree_refused r e is h inside before records = rw is (λ other. fault_plain (tree_answered _) tree_is (fault_here (h inside before records other)))

        module _ (n : ℕ) (h : Counts names bytes (node 1 most k v t) old (Ok n) new) where
          -- it has as many items as the map says
          pub tree_counted : n ≡ len → len < 2 ^ 32 → Checks names bytes (at pos (tree most k v)) old (Ok tt) new
          tree_counted is small inside before records =
              let below = h inside before records in
              let held = below.checked.passes.accepts in
              record {
                passes = record {
                  value = below.checked.passes.value;
                  regions = below.checked.passes.regions;
                  after = below.checked.passes.after;
                  accepts = record {
                    holds = holds_plain tree_is tt (holds_more held.holds (holds_none refl refl refl) refl (sym (append-nil below.checked.passes.regions)))
                        (taken len below.checked.passes.value (omega (arith, below.count)));
                    ascends = held.ascends;
                    nests = held.nests;
                  };
                };
                seen = below.checked.seen;
                moves = below.checked.moves;
                records = below.checked.records;
              }

          -- it has another number of items
          pub tree_mismatched : n ≢ len → len < 2 ^ 32 → Checks names bytes (at pos (tree most k v)) old (Err (EntriesLengthMismatch n len)) new
          tree_mismatched other_number small inside before records = λ other.
              let below = h inside before records in
              let held = below.checked.passes.accepts in
              fault_total (tree_answered _) tree_is
              (record {
                values = more_values below.checked.passes.value no_values;
                regions = below.checked.passes.regions;
                after = below.checked.passes.after;
                accepts = record { all = holds_more held.holds (holds_none refl refl refl) refl (sym (append-nil below.checked.passes.regions)); ascends = held.ascends; nests = held.nests };
              })
              (λ e. other_number (omega (arith, e, below.count)))
              (ap (λ x. EntriesLengthMismatch x len) below.count)
