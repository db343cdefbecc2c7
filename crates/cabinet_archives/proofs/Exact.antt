-- What a path takes in an accepted archive is counted exactly: its look-ups are few, since it leads through at most 64
-- containers.
use Rattle.std.proofs.Common.{◌≡◌, ℕ, zero, suc, ◌+◌, ◌-◌, ◌*◌, ◌^◌, ◌<◌, ◌≤◌, ◌==◌, Bool, true, false, cond, Bor, List, [], ◌∷◌, length, slice_index, Fits, w8, Option, Some, None, refl, ap, subst, ◌∙◌, arith}
use Rattle.std.specs.Prelude.{if◌then◌else◌}
use Rattle.std.specs.Str.{bytes_eq}
use Rattle.std.proofs.Math.Bridge.{le_prop}
use Rattle.std.proofs.Math.Logic.{∥∥₁_elim, ∥∥₁_map}
use Rattle.std.proofs.lemmas.List.{length-append}
use Rattle.archive_shape_layout.specs.Bytes.{word_at, target_from}
use Rattle.archive_shape_layout.specs.Value.{Value}
use Rattle.archive_shape_layout.specs.Content.{members}
use Rattle.archive_shape.specs.Key.{HeldAt}
use Rattle.archive_shape.proofs.Words.{word_bound}
use Rattle.cabinet_text_grammar.specs.Path.{Step, key, place, inside, node_at, node_in, node_by}
use Rattle.cabinet_text_grammar.specs.Tree.{Tree, leaf, shared, nothing, just, list, map, whole, Trees, no_trees, more_trees, Pairs, no_pairs, more_pairs, depth, most_depth, pairs_depth}
use Rattle.cabinet_documents.specs.Accepted.{Accepted}
use Rattle.cabinet_documents.specs.Node.{node_shape, KnowsNode}
use Rattle.cabinet_documents.specs.Denotes.{Denotes}
use Rattle.cabinet_documents.specs.Table.{Table, empty_table, hashed_at, kept_at, item_keys, table_of, where_led}
use Rattle.cabinet_archives.specs.Cost.{StepTakes, in_ordered, in_hashed, in_kept, no_look_up, PathTakes, takes_none, takes_step, takes_no_more, CountsPath}
use Rattle.cabinet_archives.specs.Found.{OfDocument}
use Rattle.cabinet_archives.proofs.Put.{of_same}
use Rattle.cabinet_archives.proofs.Reached.{root_of, root_there}

-- ---- a path that leads to a node has no more steps than there are containers in one another

first_or : (b : Bool) (t : Tree) (ps : Pairs) (k : List ℕ) (path : List Step) (u : Tree) → (if b then node_at t path else node_by ps k path) ≡ Some u
    → (node_at t path ≡ Some u → length path ≤ depth t) → (node_by ps k path ≡ Some u → length path ≤ pairs_depth ps) → length path ≤ pairs_depth (more_pairs k t ps)
first_or true t ps k path u e here later = let h = here e in omega (arith, h)
first_or false t ps k path u e here later = let h = later e in omega (arith, h)

mutual
  at_low : (t : Tree) (path : List Step) (u : Tree) → node_at t path ≡ Some u → length path ≤ depth t
  at_low t [] u e = omega arith
  at_low (leaf l) (s ∷ path) u e = absurd (cc)
  at_low (shared x) (s ∷ path) u e = absurd (cc)
  at_low nothing (s ∷ path) u e = absurd (cc)
  at_low (just t) (key k ∷ path) u e = absurd (cc)
  at_low (just t) (place i ∷ path) u e = absurd (cc)
  at_low (just t) (inside ∷ path) u e = let h = at_low t path u e in omega (arith, h)
  at_low (list ts) (key k ∷ path) u e = absurd (cc)
  at_low (list ts) (place i ∷ path) u e = let h = in_low ts i path u e in omega (arith, h)
  at_low (list ts) (inside ∷ path) u e = absurd (cc)
  at_low (map kind ps) (key k ∷ path) u e = let h = by_low ps k path u e in omega (arith, h)
  at_low (map kind ps) (place i ∷ path) u e = absurd (cc)
  at_low (map kind ps) (inside ∷ path) u e = absurd (cc)
  at_low (whole t) (key k ∷ path) u e = absurd (cc)
  at_low (whole t) (place i ∷ path) u e = absurd (cc)
  at_low (whole t) (inside ∷ path) u e = let h = at_low t path u e in omega (arith, h)

  in_low : (ts : Trees) (i : ℕ) (path : List Step) (u : Tree) → node_in ts i path ≡ Some u → length path ≤ most_depth ts
  in_low no_trees i path u e = absurd (cc)
  in_low (more_trees t ts) zero path u e = let h = at_low t path u e in omega (arith, h)
  in_low (more_trees t ts) (suc i) path u e = let h = in_low ts i path u e in omega (arith, h)

  by_low : (ps : Pairs) (k : List ℕ) (path : List Step) (u : Tree) → node_by ps k path ≡ Some u → length path ≤ pairs_depth ps
  by_low no_pairs k path u e = absurd (cc)
  by_low (more_pairs l t ps) k path u e = first_or (bytes_eq l k) t ps k path u e (at_low t path u) (by_low ps k path u)

-- ---- what one step takes is little

led_low : (kind : List ℕ → ℕ → List (List ℕ) → ℕ → Table) (bytes : List ℕ) (cap : ℕ) (keys : List (List ℕ)) → ((at : ℕ) → (kind bytes cap keys at).capacity ≡ cap) → (o : Option ℕ) → cap < 2 ^ 32
    → (where_led o (kind bytes cap keys)).capacity < 2 ^ 32
led_low kind bytes cap keys each None low = omega arith
led_low kind bytes cap keys each (Some at) low = let same = each at in omega (arith, low, same)

module _ (bytes : List ℕ) (small : (i : ℕ) → Fits w8 (slice_index bytes i)) where
  table_low : (kind : List ℕ → ℕ → List (List ℕ) → ℕ → Table) → ((cap : ℕ) (keys : List (List ℕ)) (at : ℕ) → (kind bytes cap keys at).capacity ≡ cap) → (pos : ℕ) (v : Value) → (table_of kind bytes pos v).capacity < 2 ^ 32
  table_low kind each pos v = by (word_at bytes (pos + 4) == 0)
    where
      by : (b : Bool) → (cond b empty_table (where_led (target_from pos (word_at bytes pos)) (kind bytes (word_at bytes (pos + 8)) (item_keys (members v))))).capacity < 2 ^ 32
      by true = omega arith
      by false = led_low kind bytes (word_at bytes (pos + 8)) (item_keys (members v)) (each (word_at bytes (pos + 8)) (item_keys (members v))) (target_from pos (word_at bytes pos)) (word_bound bytes (pos + 8) small)

  step_low : {from e f : ℕ} {s : Step} → StepTakes bytes from s e f → (e ≤ 160) × (f < 2 ^ 33)
  step_low (in_ordered is tag compares none) = let few = compares.few in (omega (arith, few), omega (arith, none))
  step_low {from = from} (in_hashed {v = v} is tag held searches none) =
      let few = searches.1 in
      let low = table_low hashed_at (λ cap keys at. refl) (from + 4) v in
      (omega (arith, none), omega (arith, few, low))
  step_low {from = from} (in_kept {v = v} is tag held searches none) =
      let few = searches.1 in
      let low = table_low kept_at (λ cap keys at. refl) (from + 4) v in
      (omega (arith, none), omega (arith, few, low))
  step_low (no_look_up none no_comparison no_search) = (omega (arith, no_comparison), omega (arith, no_search))

  -- ---- and so is what a path takes

  module _ (root : ℕ) where
    path_low : {path : List Step} {c d : ℕ} → PathTakes bytes root path c d → (c ≤ 160 * length path) × (d ≤ 2 ^ 33 * length path)
    path_low (takes_none e f g) = (omega (arith, f), omega (arith, g))
    path_low (takes_step {before = before} {s = s} e so_far r step f g) =
        let h = path_low so_far in
        let a = h.0 in
        let b = h.1 in
        let k = step_low step in
        let x = k.0 in
        let y = k.1 in
        let long = ap length e ∙ length-append before (s ∷ []) in
        (omega (arith, a, x, f, long), omega (arith, b, y, g, long))
    path_low (takes_no_more {before = before} after e so_far none) =
        let h = path_low so_far in
        let a = h.0 in
        let b = h.1 in
        let long = ap length e ∙ length-append before after in
        (omega (arith, a, long), omega (arith, b, long))

    module _ (v : Value) (t : Tree) (held : HeldAt node_shape KnowsNode bytes root v) (denotes : Denotes v t) (deep : depth t ≤ 64) where
      all_low : {path : List Step} {c d : ℕ} → PathTakes bytes root path c d → (c < 2 ^ 64 - 1) × (d < 2 ^ 64 - 1)
      all_low (takes_none e f g) = (omega (arith, f), omega (arith, g))
      all_low (takes_step {before = before} e so_far r step f g) =
          let stands = r.stands v t held denotes in
          let few = at_low t before stands.tree stands.there in
          let h = path_low so_far in
          let a = h.0 in
          let b = h.1 in
          let k = step_low step in
          let x = k.0 in
          let y = k.1 in
          (omega (arith, a, x, f, few, deep), omega (arith, b, y, g, few, deep))
      all_low (takes_no_more after e so_far none) = all_low so_far

    -- in a document that the archive holds, the counts are what the path takes
    pub exactly : {path : List Step} {c d : ℕ} → ∥ ((t : Tree) × (v : Value) × HeldAt node_shape KnowsNode bytes root v × Denotes v t × (depth t ≤ 64)) ∥₁ → CountsPath bytes root path c d → PathTakes bytes root path c d
    exactly {path = path} {c = c} {d = d} known k =
        let first = ∥∥₁_elim known le_prop (λ x. (all_low x.1 x.0 x.2 x.3 x.4 k.takes).0) in
        let second = ∥∥₁_elim known le_prop (λ x. (all_low x.1 x.0 x.2 x.3 x.4 k.takes).1) in
        let c_is = k.comparisons_are in
        let d_is = k.searches_are in
        let same : k.met ≡ c = omega (arith, first, c_is) in
        let alike : k.stops ≡ d = omega (arith, second, d_is) in
        subst (λ n. PathTakes bytes root path n d) same (subst (PathTakes bytes root path k.met) alike k.takes)

-- ---- at the root of accepted bytes

module _ {x y : Bor (List ℕ)} {pos : ℕ} (same : x ≡ y) (at_root : pos ≡ root_of y.now) where
  pub of_accepted : (is : Tree → Type 0) → OfDocument x.now pos is → (t : Tree) → Accepted y.now t → is t
  of_accepted is h t a = of_same is same at_root h a.value t (root_there y.now a) a.denotes

  pub counted_exactly : {path : List Step} {c d : ℕ} → ((i : ℕ) → Fits w8 (slice_index y.now i)) → ∥ ((t : Tree) × Accepted y.now t) ∥₁ → CountsPath x.now pos path c d → PathTakes y.now (root_of y.now) path c d
  counted_exactly {path = path} {c = c} {d = d} small accepted counts =
      exactly y.now small (root_of y.now) (∥∥₁_map accepted (λ a. (a.0, a.1.value, root_there y.now a.1, a.1.denotes, a.1.document.1)))
      (subst (λ (b : Bor (List ℕ)). CountsPath b.now (root_of y.now) path c d) same (subst (λ p. CountsPath x.now p path c d) at_root counts))
