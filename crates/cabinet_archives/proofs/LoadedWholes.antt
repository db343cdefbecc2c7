-- The wholes that are kept while an archive is loaded.
use Rattle.std.proofs.Common.{◌≡◌, ◌∙◌, ℕ, ◌<◌, ◌^◌, Bool, true, false, cond, Global, List, [], ◌∷◌, ◌++◌, length, Option, Some, None, IfSome, inl, inr, refl, sym, ap, subst, arith}
use Rattle.std.specs.Prelude.{IsTrue, Vec}
use Rattle.std.specs.BTreeMap.{BTreeMap, get, is_at, Updates}
use Rattle.std.specs.Ordering.{is_eq, nat_cmp}
use Rattle.std.specs.Bool.{if◌then◌else◌}
use Rattle.std.specs.declared.cmp.Ordering.{Ordering}
use Rattle.std.specs.declared.cmp.Ordering.TheVariants.{Less, Equal, Greater}
use Rattle.std.proofs.lemmas.Bool.Decides.{eqb_tells}
use Rattle.std.proofs.lemmas.Map.Lookups.{exact_unsigned}
use Rattle.cabinet_text_grammar.specs.Item.{items}
use Rattle.cabinet_text_grammar.specs.Tree.{Tree, IsLegal, depth}
use Rattle.cabinet_text_grammar.specs.Wholes.{has, number_in, numbered, with_tree, IsNumbered, IsTable}
use Rattle.cabinet_text_grammar.proofs.Tables.{numbered_back, has_numbered, below_numbered, items_stay, listed_table, listed_numbered, legal_numbered, some_same}
use Rattle.cabinet_text_nodes.specs.NodeTexts.{HasItems, node_text_cmp}
use Rattle.cabinet_text_nodes.specs.View.{node_tree, table_of}
use Rattle.cabinet_text_nodes.specs.declared.node.Node.{Node}
use Rattle.cabinet_text_nodes.specs.declared.node_text.NodeText.{NodeText}
use Rattle.cabinet_text_nodes.proofs.Added.{table_of-push}
use Rattle.cabinet_text_nodes.proofs.Entries.{first_numbered, numbered_stays, length_after}
use Rattle.cabinet_text_nodes.proofs.NodeTexts.{one_node_tree, same_text, text_same}
use Rattle.cabinet_text_nodes.proofs.Repeats.{numbers as numbers_of}
use Rattle.cabinet_archives.specs.Found.{OfDocument}
use Rattle.cabinet_archives.specs.Loading.{loaded_table, AreNumbersOf, AreRead, AreWholesOf}
use Rattle.cabinet_archives.specs.declared.loading.wholes.LoadedWholes.{LoadedWholes}
use Rattle.cabinet_archives.proofs.LoadedTrees.{grows_one}

equal_order : (o : Ordering) → is_eq o ≡ true → o ≡ Equal
equal_order Less e = absurd (cc)
equal_order Equal e = refl
equal_order Greater e = absurd (cc)

abbrev IsTold : List Tree → NodeText → ℕ → Type 0
IsTold table key n = (t : Tree) × (numbered table n ≡ Some t) × HasItems key (items table t)

-- ---- one whole

module _ (table : List Tree) (numbers : BTreeMap NodeText ℕ) (is : IsTable table) (are : AreNumbersOf table numbers) (few : length table < 2 ^ 64)
    (u : Tree) (legal : IsLegal u) (known : IsNumbered table u) (key : NodeText) (text : HasItems key (items table u))
  where
    text_known : (t : Tree) → IsTrue (has table t) → IsNumbered table t
    text_known t there = listed_numbered table t (listed_table table is) there

    -- a tree with the same text is the same
    same_tree : (n : ℕ) (t : Tree) → numbered table n ≡ Some t → HasItems key (items table t) → u ≡ t
    same_tree n t at has_t = one_node_tree table u t key few legal (legal_numbered table n t is at) known (text_known t (has_numbered table n t at)) text has_t

    -- its text tells its number
    pub told_number : (n : ℕ) → get node_text_cmp numbers key ≡ Some n → numbered table n ≡ Some u
    told_number n e =
        let one = subst (λ o. IfSome o (IsTold table key)) e (are.told key) in
        one.1 ∙ ap Some (sym (same_tree n one.0 one.1 one.2))

    pub told_none : get node_text_cmp numbers key ≡ None → has table u ≡ false
    told_none none = by (has table u) refl
      where
        by : (b : Bool) → has table u ≡ b → b ≡ false
        by true there = let some = are.found (number_in table u) u (numbered_back table u there) key text in let no : None ≡ Some (number_in table u) = sym none ∙ some in absurd (cc)
        by false there = refl

    -- ---- it is added

    module _ (new : has table u ≡ false) where
      stays : (t : Tree) → IsNumbered table t → items (u ∷ table) t ≡ items table t
      stays t there = items_stay u table t new there

      still_has : (other : NodeText) (t : Tree) → IsNumbered table t → HasItems other (items table t) → HasItems other (items (u ∷ table) t)
      still_has other t there has_t = subst (HasItems other) (sym (stays t there)) has_t

      -- a text of the table is another one
      apart_from : (n : ℕ) (t : Tree) → numbered table n ≡ Some t → (other : NodeText) → HasItems other (items table t) → is_at (node_text_cmp key) other ≡ false
      apart_from n t at other was = by (is_at (node_text_cmp key) other) refl
        where
          by : (b : Bool) → is_at (node_text_cmp key) other ≡ b → b ≡ false
          by true e =
              let same = same_tree n t at ((same_text key other (items table t) e).1 was) in
              let there = has_numbered table n u (at ∙ ap Some (sym same)) in
              let no : true ≡ false = sym there ∙ new in
              absurd (cc)
          by false e = refl

      still_told : (other : NodeText) (o : Option ℕ) → IfSome o (IsTold table other) → IfSome o (IsTold (u ∷ table) other)
      still_told other None h = tt
      still_told other (Some n) h = (h.0, numbered_stays u table n (below_numbered table n h.0 h.1) ∙ h.1, still_has other h.0 (text_known h.0 (has_numbered table n h.0 h.1)) h.2)

      pub more_table : depth u < 64 → IsTable (u ∷ table)
      more_table low = ((legal, low), known, new, is)

      pub more_numbers : (after : BTreeMap NodeText ℕ) → Updates node_text_cmp numbers after key (Some (length table)) → AreNumbersOf (u ∷ table) after
      more_numbers after updates = record { found = found; told = told }
        where
          found : (n : ℕ) (t : Tree) → numbered (u ∷ table) n ≡ Some t → (other : NodeText) → HasItems other (items (u ∷ table) t) → get node_text_cmp after other ≡ Some n
          found n t at other has_t =
              elim (eqb_tells (length table) n) [
                | inl here ↦
                    let is_u : u ≡ t = some_same u t (sym (first_numbered u table) ∙ ap (numbered (u ∷ table)) here.1 ∙ at) in
                    let of_u : HasItems other (items table u) = subst (HasItems other) (ap (items (u ∷ table)) (sym is_u) ∙ stays u known) has_t in
                    updates.0 other ∙ ap (λ c. cond c (Some (length table)) (get node_text_cmp numbers other)) (text_same key other (items table u) text of_u) ∙ ap Some here.1
                | inr apart ↦
                    let before : numbered table n ≡ Some t = sym (ap (λ b. if b then Some u else numbered table n) apart.0) ∙ at in
                    let there = has_numbered table n t before in
                    let was = subst (HasItems other) (stays t (text_known t there)) has_t in
                    updates.0 other ∙ ap (λ c. cond c (Some (length table)) (get node_text_cmp numbers other)) (apart_from n t before other was) ∙ are.found n t before other was
              ]

          told : (other : NodeText) → IfSome (get node_text_cmp after other) (IsTold (u ∷ table) other)
          told other = by (is_at (node_text_cmp key) other) refl
            where
              by : (b : Bool) → is_at (node_text_cmp key) other ≡ b → IfSome (get node_text_cmp after other) (IsTold (u ∷ table) other)
              by true e =
                  subst (λ o. IfSome o (IsTold (u ∷ table) other))
                  (sym (updates.0 other ∙ ap (λ c. cond c (Some (length table)) (get node_text_cmp numbers other)) e))
                  (u, first_numbered u table, still_has other u known ((same_text key other (items table u) e).0 text))
              by false e =
                  subst (λ o. IfSome o (IsTold (u ∷ table) other))
                  (sym (updates.0 other ∙ ap (λ c. cond c (Some (length table)) (get node_text_cmp numbers other)) e))
                  (still_told other (get node_text_cmp numbers other) (are.told other))

-- ---- the positions at which wholes were read

pub read_more : (bytes : List ℕ) (table : List Tree) (m n : BTreeMap ℕ ℕ) (key number : ℕ) → AreRead bytes table m → OfDocument bytes key (λ t. numbered table number ≡ Some t) → Updates nat_cmp m n key (Some number) → AreRead bytes table n
read_more bytes table m n key number are is u pos = by (is_at (nat_cmp key) pos) refl
  where
    by : (b : Bool) → is_at (nat_cmp key) pos ≡ b → IfSome (get nat_cmp n pos) (λ k. OfDocument bytes pos (λ t. numbered table k ≡ Some t))
    by true e =
        let same : key ≡ pos = exact_unsigned key pos (equal_order (nat_cmp key pos) e) in
        subst (λ o. IfSome o (λ k. OfDocument bytes pos (λ t. numbered table k ≡ Some t))) (sym (u.0 pos ∙ ap (λ c. cond c (Some number) (get nat_cmp m pos)) e))
        (subst (λ p. OfDocument bytes p (λ t. numbered table number ≡ Some t)) same is)
    by false e = subst (λ o. IfSome o (λ k. OfDocument bytes pos (λ t. numbered table k ≡ Some t))) (sym (u.0 pos ∙ ap (λ c. cond c (Some number) (get nat_cmp m pos)) e)) (are pos)

-- they have the same trees in a larger table
pub read_still : (bytes : List ℕ) (table more : List Tree) (read : BTreeMap ℕ ℕ) → ((n : ℕ) (t : Tree) → numbered table n ≡ Some t → numbered more n ≡ Some t) → AreRead bytes table read → AreRead bytes more read
read_still bytes table more read larger are pos = by (get nat_cmp read pos) (are pos)
  where
    by : (o : Option ℕ) → IfSome o (λ n. OfDocument bytes pos (λ t. numbered table n ≡ Some t)) → IfSome o (λ n. OfDocument bytes pos (λ t. numbered more n ≡ Some t))
    by None h = tt
    by (Some n) h = λ v t held d. larger n t (h v t held d)

-- a tree that has a number is not added
pub table_again : (table : List Tree) (u : Tree) (n : ℕ) → numbered table n ≡ Some u → table ≡ with_tree table u
table_again table u n at = sym (ap (λ b. if b then table else u ∷ table) (has_numbered table n u at))

-- ---- the number of a tree

module _ (bytes : List ℕ) (wholes : LoadedWholes) (are : AreWholesOf bytes wholes) (few : length (loaded_table wholes) < 2 ^ 64) (node : Node) (legal : IsLegal (node_tree (loaded_table wholes) node))
    (key : NodeText) (text : HasItems key (items (loaded_table wholes) (node_tree (loaded_table wholes) node)))
  where
    abbrev table : List Tree
    table = loaded_table wholes

    abbrev whole_tree : Tree
    whole_tree = node_tree table node

    known : IsNumbered table whole_tree
    known = numbers_of node table legal

    pub shared_found : (n : ℕ) → get node_text_cmp wholes.numbers key ≡ Some n → numbered table n ≡ Some whole_tree
    shared_found n e = told_number table wholes.numbers are.table are.numbers few whole_tree legal known key text n e

    -- a tree that has no number is added
    module _ (none : get node_text_cmp wholes.numbers key ≡ None) (low : depth whole_tree < 64) (more : BTreeMap NodeText ℕ) (number : ℕ) (is : number ≡ length wholes.nodes.items) (updates : Updates node_text_cmp wholes.numbers more key (Some number))
        (nodes : Vec Node Global) (pushed : nodes.items ≡ wholes.nodes.items ++ node ∷ [])
      where
        abbrev after : LoadedWholes
        after = record { read = wholes.read; numbers = more; nodes = nodes }

        new : has table whole_tree ≡ false
        new = told_none table wholes.numbers are.table are.numbers few whole_tree legal known key text none

        grown : loaded_table after ≡ whole_tree ∷ table
        grown = ap table_of pushed ∙ table_of-push wholes.nodes.items node

        counted : number ≡ length table
        counted = is ∙ omega (arith, length_after [] wholes.nodes.items)

        pub shared_table : loaded_table after ≡ with_tree table whole_tree
        shared_table = grown ∙ sym (ap (λ b. if b then table else whole_tree ∷ table) new)

        pub shared_number : numbered (loaded_table after) number ≡ Some whole_tree
        shared_number = ap (λ t. numbered t number) grown ∙ ap (numbered (whole_tree ∷ table)) counted ∙ first_numbered whole_tree table

        pub shared_wholes : AreWholesOf bytes after
        shared_wholes =
            let numbers_more = more_numbers table wholes.numbers are.table are.numbers few whole_tree legal known key text new more (subst (λ n. Updates node_text_cmp wholes.numbers more key (Some n)) counted updates) in
            let grows = grows_one whole_tree table in
            record {
              table = subst IsTable (sym grown) (more_table table wholes.numbers are.table are.numbers few whole_tree legal known key text new low);
              numbers = subst (λ t. AreNumbersOf t more) (sym grown) numbers_more;
              read = subst (λ t. AreRead bytes t wholes.read) (sym grown) (read_still bytes table (whole_tree ∷ table) wholes.read (λ n t. grows.numbers n t) are.read);
            }
