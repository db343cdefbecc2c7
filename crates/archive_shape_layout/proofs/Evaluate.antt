-- The relation run: an evaluator of `Holds` and of the ascent of the regions, by recursion on a number of steps. A
-- proof by computation writes `root_found .. refl` or `root_refused .. refl` under the line `unfolding run`.
use Rattle.std.proofs.Common.{ℕ, zero, suc, ◌+◌, ◌%◌, Bool, true, false, ◌==◌, ◌&&◌, nat_le, List, [], ◌∷◌, ◌++◌, length, Option, Some, None}
use Rattle.std.specs.Char.{encode_utf8}
use Rattle.std.specs.Str.{is_utf8, chars}
use Rattle.archive_shape_layout.specs.Bytes.{align_up, word_at, target_from}
use Rattle.archive_shape_layout.specs.Shape.{Shape, Pointee}
use Rattle.archive_shape_layout.specs.Shape.Pointee.{sized}
use Rattle.archive_shape_layout.specs.Value.{Value, Values}
use Rattle.archive_shape_layout.specs.Value.Value.{counted, back}
use Rattle.archive_shape_layout.specs.Value.Values.{no_values, more_values}
use Rattle.archive_shape_layout.specs.Content.{choose, Names, Part, Span, Label, Content, content_of, made, shape_content, pointee_content, node_content, child_content, buckets_content, place_content, text_content, text_length, shared_content, table_parts, following, fields, elements, entries, children, tagged_items, number_value, is_scalar, keys_offset, values_offset, node_size, links_offset, link_node_align, link_node_size, control_count, wraps, buckets_span}
use Rattle.archive_shape_layout.specs.Content.Part.{behind}
use Rattle.archive_shape_layout.specs.Content.Label.{written}
use Rattle.archive_shape_layout.specs.Content.Content.{illegal, plain, claimed, counting}
use Rattle.archive_shape_layout.specs.Holds.{Region, region_of, Visit, OpenShared, visited, open_at, end_after, root_position}
use Rattle.archive_shape_layout.proofs.SameShape.{same_pointee}

pub data Answer (A : Type 0) : Type 0 where
  -- the steps are spent; there is no value; there is one
  unfinished refused : Answer A
  found : A → Answer A

pub record Reading : Type 0 where
  pub value : Value
  pub regions : List Region
  pub after : List Visit

pub record Readings : Type 0 where
  pub values : Values
  pub regions : List Region
  pub after : List Visit

-- of a list of parts, from a level on, inside positions, in a range, from the visits so far
abbrev pub Evaluator : Type 0
Evaluator = ℕ → List OpenShared → ℕ → ℕ → List Part → List Visit → Answer Readings

abbrev pub legal : Label → Bool
legal (written bs) = is_utf8 bs
legal _ = true

-- a value with its regions, from that of its parts
unfoldable pub valued : List Region → List Visit → Option Value → Answer Reading
valued regions after None = refused
valued regions after (Some v) = found (record { value = v; regions = regions; after = after })

unfoldable pub finished : Bool → Answer Reading → Answer Reading
finished true a = a
finished false a = refused

unfoldable pub of_plain : Label → Answer Readings → Answer Reading
of_plain l unfinished = unfinished
of_plain l refused = refused
of_plain l (found r) = finished (legal l) (valued r.regions r.after (made l r.values))

unfoldable pub of_claimed : Label → Region → Answer Readings → Answer Reading
of_claimed l own unfinished = unfinished
of_claimed l own refused = refused
of_claimed l own (found r) = finished (legal l) (valued (r.regions ++ own ∷ []) r.after (made l r.values))

unfoldable pub fits : ℕ → ℕ → Span → Bool
fits low high s = nat_le low s.start && (nat_le (s.start + s.size) high && (s.start % s.align == 0))

-- a position that is visited again
unfoldable pub again : Bool → Value → List Visit → Answer Reading
again true v before = found (record { value = v; regions = []; after = before })
again false v before = refused

unfoldable pub same_visit : Visit → ℕ → Pointee → ℕ → Bool
same_visit v t q len = (v.pos == t) && (same_pointee v.pointee q && (v.len == len))

unfoldable pub same_opened : OpenShared → ℕ → Pointee → ℕ → Bool
same_opened o t q len = (o.pos == t) && (same_pointee o.pointee q && (o.len == len))

unfoldable pub of_first : ℕ → Pointee → ℕ → List Region → List Visit → Values → Answer Reading
of_first t q len regions after no_values = unfinished
of_first t q len regions after (more_values v no_values) =
    found (record { value = counted t v; regions = regions; after = record { pos = t; pointee = q; len = len; value = v } ∷ after })
of_first t q len regions after (more_values v (more_values w vs)) = unfinished

unfoldable pub of_counted : ℕ → Pointee → ℕ → Answer Readings → Answer Reading
of_counted t q len unfinished = unfinished
of_counted t q len refused = refused
of_counted t q len (found r) = of_first t q len r.regions r.after r.values

unfoldable pub counted_part : Evaluator → ℕ → List OpenShared → ℕ → ℕ → List Visit → Bool → ℕ → Pointee → ℕ → Option OpenShared → Option Visit → Answer Reading
counted_part all level inside low high before cyclic t q len (Some o) w = again (cyclic && same_opened o t q len) (back t) before
counted_part all level inside low high before cyclic t q len None (Some w) = again (same_visit w t q len) (counted t w.value) before
counted_part all level inside low high before cyclic t q len None None =
    of_counted t q len (all level (record { pos = t; pointee = q; len = len } ∷ inside) low high (behind t q len ∷ []) before)

unfoldable pub one_part : Evaluator → ℕ → List OpenShared → ℕ → ℕ → List Visit → Content → Answer Reading
one_part all level inside low high before illegal = refused
one_part all level inside low high before (plain l ps) = of_plain l (all level inside low high ps before)
one_part all level inside low high before (claimed s l ps) = elim (fits low high s) [
  | true ↦ of_claimed l (region_of s level) (all (suc level) inside low s.start ps before)
  | false ↦ refused
]
one_part all level inside low high before (counting cyclic t q len) =
    counted_part all level inside low high before cyclic t q len (open_at inside t) (visited before t)

unfoldable pub joined : Reading → Answer Readings → Answer Readings
joined r unfinished = unfinished
joined r refused = refused
joined r (found rs) = found (record { values = more_values r.value rs.values; regions = r.regions ++ rs.regions; after = rs.after })

unfoldable pub and_then : Answer Reading → (Reading → Answer Readings) → Answer Readings
and_then unfinished rest = unfinished
and_then refused rest = refused
and_then (found r) rest = joined r (rest r)

unfoldable pub evaluate_all : ℕ → Names → List ℕ → Evaluator
evaluate_all zero names bytes level inside low high ps before = unfinished
evaluate_all (suc fuel) names bytes level inside low high [] before = found (record { values = no_values; regions = []; after = before })
evaluate_all (suc fuel) names bytes level inside low high (p ∷ ps) before =
    and_then
    (one_part (λ l i a b qs w. evaluate_all fuel names bytes l i a b qs w) level inside low high before (content_of names bytes p))
    (λ r. evaluate_all fuel names bytes level inside (end_after low r.regions) high ps r.after)

unfoldable pub alone : Answer Readings → Answer Reading
alone unfinished = unfinished
alone refused = refused
alone (found r) = of_values r.values
  where
    of_values : Values → Answer Reading
    of_values no_values = unfinished
    of_values (more_values v no_values) = found (record { value = v; regions = r.regions; after = r.after })
    of_values (more_values v (more_values w vs)) = unfinished

-- one part, in the range from `low` to `high`
unfoldable pub evaluate : ℕ → Names → List ℕ → ℕ → List OpenShared → ℕ → ℕ → Part → List Visit → Answer Reading
evaluate fuel names bytes level inside low high p before = alone (evaluate_all fuel names bytes level inside low high (p ∷ []) before)

-- a root at a position
unfoldable pub evaluate_root : ℕ → Names → List ℕ → ℕ → Shape → Answer Reading
evaluate_root fuel names bytes pos s = evaluate fuel names bytes 0 [] 0 (length bytes) (behind pos (sized s) 1) []

-- all that a run opens: a proof by computation names this one
unfoldable pub run : ℕ
unfolding align_up word_at target_from root_position end_after made fields elements entries children tagged_items choose following number_value is_scalar text_length text_content shared_content table_parts shape_content pointee_content keys_offset values_offset node_size links_offset link_node_align link_node_size node_content child_content control_count wraps buckets_span buckets_content place_content valued finished of_plain of_claimed fits again same_visit same_opened of_first of_counted counted_part one_part joined and_then evaluate_all alone evaluate evaluate_root is_utf8 chars encode_utf8
run = 0
