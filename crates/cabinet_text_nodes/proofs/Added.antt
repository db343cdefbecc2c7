-- The texts and the depths of the trees of wholes, as one more is added.
use Rattle.std.proofs.Common.{◌≡◌, ℕ, zero, suc, length, length-append, Bool, ◌||◌, List, [], ◌∷◌, ◌++◌, refl, sym, ap, ◌∙◌, arith, inl, inr, Some}
use Rattle.std.specs.Prelude.{slice_get}
use Rattle.std.specs.BTreeSet.{insert_key}
use Rattle.std.specs.Cmp.Lexicographic.{slice_cmp}
use Rattle.std.specs.List.{list_any}
use Rattle.std.specs.Ordering.{nat_cmp, is_eq}
use Rattle.std.specs.Str.{bytes_eq}
use Rattle.std.proofs.lemmas.Bool.Decides.{eqb_tells}
use Rattle.cabinet_text_grammar.specs.Completing.{text_in, texts_of}
use Rattle.cabinet_text_grammar.specs.Tree.{Tree, depth}
use Rattle.cabinet_text_grammar.specs.Wholes.{numbered}
use Rattle.cabinet_text_grammar.proofs.Tables.{some_same}
use Rattle.cabinet_text_nodes.specs.Faults.{AreDepths}
use Rattle.cabinet_text_nodes.specs.View.{node_tree, table_after, table_of}
use Rattle.cabinet_text_nodes.specs.declared.node.Node.{Node}
use Rattle.cabinet_text_nodes.proofs.Paths.{same_test}
use Rattle.cabinet_text_nodes.proofs.Seen.{found_after}

any_same : {X : Type 0} (f g : X → Bool) (xs : List X) → ((x : X) → f x ≡ g x) → list_any f xs ≡ list_any g xs
any_same f g [] same = refl
any_same f g (x ∷ xs) same = ap (λ b. b || list_any f xs) (same x) ∙ ap (λ b. g x || b) (any_same f g xs same)

-- whether bytes are those of a key of a set
pub contains_bytes : {K : Type 0} (now : K → List ℕ) (bytes : List ℕ) (ks : List K) → list_any (λ k. is_eq (slice_cmp nat_cmp bytes (now k))) ks ≡ list_any (λ k. bytes_eq (now k) bytes) ks
contains_bytes now bytes ks = any_same (λ k. is_eq (slice_cmp nat_cmp bytes (now k))) (λ k. bytes_eq (now k) bytes) ks (λ k. same_test bytes (now k))

-- the table of one more node
pub table_of-push : (ns : List Node) (n : Node) → table_of (ns ++ n ∷ []) ≡ node_tree (table_of ns) n ∷ table_of ns
table_of-push ns n = go [] ns
  where
    go : (table : List Tree) (ms : List Node) → table_after table (ms ++ n ∷ []) ≡ node_tree (table_after table ms) n ∷ table_after table ms
    go table [] = refl
    go table (m ∷ ms) = go (node_tree table m ∷ table) ms

-- its text is one more
pub texts_more :
    {K : Type 0} (now : K → List ℕ) (table : List Tree) (t : Tree) (ks : List K) (lines : K)
    → ((bytes : List ℕ) → list_any (λ k. bytes_eq (now k) bytes) ks ≡ list_any (λ w. bytes_eq w bytes) (texts_of table))
    → now lines ≡ text_in table t
    → (bytes : List ℕ) → list_any (λ k. bytes_eq (now k) bytes) (insert_key (λ x y. slice_cmp nat_cmp (now x) (now y)) ks lines) ≡ list_any (λ w. bytes_eq w bytes) (texts_of (t ∷ table))
texts_more now table t ks lines known same bytes =
    found_after now (λ b. bytes_eq b bytes) ks lines
    ∙ ap (λ b. bytes_eq b bytes || list_any (λ k. bytes_eq (now k) bytes) ks) same
    ∙ ap (λ b. bytes_eq (text_in table t) bytes || b) (known bytes)

get_before : (xs ys : List ℕ) (i : ℕ) (x : ℕ) → slice_get xs i ≡ Some x → slice_get (xs ++ ys) i ≡ Some x
get_before [] ys i x h = cc
get_before (y ∷ xs) ys zero x h = h
get_before (y ∷ xs) ys (suc i) x h = get_before xs ys i x h

get_last : (xs : List ℕ) (x : ℕ) → slice_get (xs ++ x ∷ []) (length xs) ≡ Some x
get_last [] x = refl
get_last (y ∷ xs) x = get_last xs x

-- and its depth
pub depths_more : (table : List Tree) (t : Tree) (depths : List ℕ) (d : ℕ) → AreDepths table depths → d ≡ depth t → AreDepths (t ∷ table) (depths ++ d ∷ [])
depths_more table t depths d known same = record {
  as_many = omega (arith, known.as_many, length-append depths (d ∷ []));
  each = each;
}
  where
    each : (n : ℕ) (u : Tree) → numbered (t ∷ table) n ≡ Some u → slice_get (depths ++ d ∷ []) n ≡ Some (depth u)
    each n u there =
        elim (eqb_tells (length table) n) [
          | inl is ↦
              let found : t ≡ u = some_same t u (sym (rw is.0 refl) ∙ there) in
              ap (slice_get (depths ++ d ∷ [])) (sym is.1 ∙ sym known.as_many) ∙ get_last depths d ∙ ap Some same ∙ ap (λ v. Some (depth v)) found
          | inr differs ↦ get_before depths (d ∷ []) n (depth u) (known.each n u (sym (rw differs.0 refl) ∙ there))
        ]
