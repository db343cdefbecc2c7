-- Ascending pairs are those of others, read by the bytes of their keys, where each look-up is the same.
use Rattle.std.proofs.Common.{◌≡◌, true, List, [], ◌∷◌, refl, sym, ap, ◌∙◌, Global, String, Ordering, Option, Some, None, inl, inr}
use Rattle.std.specs.Prelude.{string_bytes, string_cmp, unwrap_or}
use Rattle.std.specs.BTreeMap.{is_at}
use Rattle.std.specs.Cmp.{eq_by_cmp_equiv}
use Rattle.std.specs.Map.{keys_of, lookup}
use Rattle.std.specs.Ordering.{eq_by_cmp, is_eq, ordering_reverse}
use Rattle.std.specs.String.{string_cmp_total}
use Rattle.std.specs.declared.cmp.Ordering.TheVariants.{Less, Equal, Greater}
use Rattle.std.proofs.lemmas.Bool.{cases_Bool}
use Rattle.std.proofs.lemmas.Cmp.{tied_itself}
use Rattle.std.proofs.lemmas.Map.{lookup-none}
use Rattle.std.proofs.lemmas.Map.Entries.{lookup_head, lookup_tail, none_past_head, none_below_head}
use Rattle.std.proofs.lemmas.Map.Keys.{sorted_tail, IsDistinct-from_sorted}
use Rattle.std.proofs.lemmas.Map.Lookups.{map_keys, exact_bytes}
use Rattle.cabinet_text_nodes.specs.declared.node.Node.{Node}
use Rattle.cabinet_text_reading.specs.Ascending.{Ascends}

abbrev find : List (String Global × Node) → String Global → Option Node
find ps q = lookup (is_at (string_cmp q)) ps

found_not_missing : (n : Node) → Some n ≡ None → ⊥
found_not_missing n h = cc

at_head : (x : String Global × Node) (xs : List (String Global × Node)) → find (x ∷ xs) x.0 ≡ Some x.1
at_head x xs = lookup_head (is_at (string_cmp x.0)) x xs (ap is_eq (tied_itself string_cmp_total x.0))

past_head : (q : String Global) (x : String Global × Node) (xs : List (String Global × Node)) → Ascends (x ∷ xs) → eq_by_cmp string_cmp q x.0 ≡ true → find xs q ≡ None
past_head q x xs up tied =
    lookup-none (is_at (string_cmp q)) xs (none_past_head (eq_by_cmp_equiv string_cmp_total) q x xs (IsDistinct-from_sorted string_cmp (keys_of (x ∷ xs)) up) tied)

module _ (x y : String Global × Node) (xs ys : List (String Global × Node)) (up : Ascends (x ∷ xs)) (rise : Ascends (y ∷ ys)) (same : (q : String Global) → find (x ∷ xs) q ≡ find (y ∷ ys) q) where
  heads_by : (r : Ordering) → string_cmp x.0 y.0 ≡ r → string_cmp x.0 y.0 ≡ Equal
  heads_by Less h = absurd (found_not_missing x.1 (sym (at_head x xs) ∙ same x.0 ∙ lookup-none _ (y ∷ ys) (none_below_head string_cmp_total x.0 y ys rise h)))
  heads_by Equal h = h
  heads_by Greater h = absurd (found_not_missing y.1 (sym (at_head y ys) ∙ sym (same y.0) ∙ lookup-none _ (x ∷ xs) (none_below_head string_cmp_total y.0 x xs up (string_cmp_total.antisymm y.0 x.0 ∙ ap ordering_reverse h))))

  heads : string_cmp x.0 y.0 ≡ Equal
  heads = heads_by (string_cmp x.0 y.0) refl

  values : x.1 ≡ y.1
  values = ap (λ n. unwrap_or n x.1) (sym (at_head x xs) ∙ same x.0 ∙ lookup_head (is_at (string_cmp x.0)) y ys (ap is_eq heads))

  tails : (q : String Global) → find xs q ≡ find ys q
  tails q =
      let laws = eq_by_cmp_equiv string_cmp_total in
      let tie : eq_by_cmp string_cmp q y.0 ≡ eq_by_cmp string_cmp q x.0 = laws.symm q y.0 ∙ sym (laws.congr x.0 y.0 q (ap is_eq heads)) ∙ laws.symm x.0 q in
      elim (cases_Bool (eq_by_cmp string_cmp q x.0)) [
        | inl here ↦ past_head q x xs up here ∙ sym (past_head q y ys rise (tie ∙ here))
        | inr behind ↦ sym (lookup_tail (is_at (string_cmp q)) x xs behind) ∙ same q ∙ lookup_tail (is_at (string_cmp q)) y ys (tie ∙ behind)
      ]

pub read_alike : (ps qs : List (String Global × Node)) → Ascends ps → Ascends qs → ((q : String Global) → find ps q ≡ find qs q) → map_keys string_bytes ps ≡ map_keys string_bytes qs
read_alike [] [] up rise same = refl
read_alike [] (y ∷ ys) up rise same = absurd (found_not_missing y.1 (sym (same y.0 ∙ at_head y ys)))
read_alike (x ∷ xs) [] up rise same = absurd (found_not_missing x.1 (sym (at_head x xs) ∙ same x.0))
read_alike (x ∷ xs) (y ∷ ys) up rise same =
    let rest = read_alike xs ys (sorted_tail string_cmp x.0 (keys_of xs) up) (sorted_tail string_cmp y.0 (keys_of ys) rise) (tails x y xs ys up rise same) in
    let keys = exact_bytes (string_bytes x.0) (string_bytes y.0) (heads x y xs ys up rise same) in
    rw (keys, values x y xs ys up rise same) (ap (λ more. (string_bytes y.0, y.1) ∷ more) rest)
