-- Walks of the root that is read, and the text of a tree that a line completes.
use Rattle.std.proofs.Common.{◌≡◌, ℕ, zero, suc, ◌+◌, ◌<◌, ◌≤◌, Bool, true, false, not, if◌then◌else◌, List, [], ◌∷◌, ◌++◌, length, drop, drop-cons, add-one, get_or, refl, sym, ap, ◌∙◌, subst, arith, inl, inr, Option, Some, None, append_assoc, Vec, Global}
use Rattle.std.specs.Bool.{Decides}
use Rattle.std.proofs.lemmas.List.{append-nil, map-append}
use Rattle.std.proofs.lemmas.Bool.Decides.{eqb_tells}
use Rattle.cabinet_text_grammar.specs.Completing.{with_frame, with_stack, text_in}
use Rattle.cabinet_text_grammar.specs.Due.{Admits}
use Rattle.cabinet_text_grammar.specs.Frame as spec
use Rattle.cabinet_text_grammar.specs.Frame.{in_option, in_list, at_key, at_value, IsOpen, AreOpen, items_of_stack}
use Rattle.cabinet_text_grammar.specs.Item.{Item, leaf_item, shared_item, none_item, some_item, list_item, map_item, key_item, whole_item, wholes_item, whole_head, items}
use Rattle.cabinet_text_grammar.specs.Machine.{State, going, complete, plug, plug_whole, step, items_of_state}
use Rattle.cabinet_text_grammar.specs.Reading.{around, due_of, due_at, IsNew}
use Rattle.cabinet_text_grammar.specs.Spelling.{spelled, lines_of, ended}
use Rattle.cabinet_text_grammar.specs.Tree as tree
use Rattle.cabinet_text_grammar.specs.Tree.{Tree, IsLegal}
use Rattle.cabinet_text_grammar.specs.Wholes.{has, numbered, with_wholes, wholes_of, IsNumbered, IsTable}
use Rattle.cabinet_text_grammar.proofs.Completing.{wholes-plug}
use Rattle.cabinet_text_grammar.proofs.Items.{IsUnstuck, items-step}
use Rattle.cabinet_text_grammar.proofs.Legal.{Fits, IsLegalState, legal-step}
use Rattle.cabinet_text_grammar.proofs.Tables.{legal_numbered, listed_table}
use Rattle.cabinet_text_nodes.specs.Order.{IsEnd, IsWalk, WalksNode, WalksNodes}
use Rattle.cabinet_text_nodes.specs.View.{node_tree, whole_of, table_of}
use Rattle.cabinet_text_nodes.specs.declared.node.Node.{Node}
use Rattle.cabinet_text_nodes.specs.declared.node.Node.TheVariants as node
use Rattle.cabinet_text_nodes.proofs.Faults.{values}
use Rattle.cabinet_text_nodes.proofs.Views.{node_tree-whole}
use Rattle.cabinet_text_nodes.proofs.Walks.{all_end, end_of_end, wholes_end, wholes_end_in, wholes_end_by, then_walk, then_stopped, walked_pairs, complete_adds}
use Rattle.cabinet_text_reading.specs.View.{frame_of, stack_onto, stack_of, keyed_kind, keyed_entries}
use Rattle.cabinet_text_reading.specs.Wholes.{table_in, reading_of, IsAtLine, number_of, WalksFrame, WalksStack, WalksRoot}
use Rattle.cabinet_text_reading.specs.declared.stack.frame.Frame.{Frame}
use Rattle.cabinet_text_reading.specs.declared.stack.frame.Frame.TheVariants as frame
use Rattle.cabinet_text_reading.specs.declared.stack.keyed.Keyed.{Keyed}
use Rattle.cabinet_text_reading.specs.declared.wholes.Wholes.{Wholes}

-- ---- open containers

pub list_walked : (wholes : List Node) (f : Frame) (n : ℕ) (v : Vec Node Global) (next : ℕ) (r : Option ℕ) → f ≡ frame.List n v → WalksNodes wholes v.items next r → WalksFrame wholes f next r
list_walked wholes f n v next r is h = subst (λ g. WalksFrame wholes g next r) (sym is) (λ table d opened. h table opened.2)

pub map_walked : (wholes : List Node) (f : Frame) (n : ℕ) (ps : Keyed) (next : ℕ) (r : Option ℕ) → f ≡ frame.Value n ps → WalksNodes wholes (values (keyed_entries ps)) next r → WalksFrame wholes f next r
map_walked wholes f n ps next r is h =
    subst (λ g. WalksFrame wholes g next r) (sym is) (λ table d opened. walked_pairs wholes (keyed_kind ps) (keyed_entries ps) next r h table opened.0.2)

frame_end : (ws : List Tree) (f : spec.Frame) → IsEnd ws (with_frame ws f)
frame_end ws in_option = all_end ws
frame_end ws (in_list n ts) = wholes_end_in ws ts
frame_end ws (at_key kind n ps) = wholes_end_by ws ps
frame_end ws (at_value kind n ps k) = wholes_end_by ws ps

-- ---- stacks

module _ (table : List Tree) where
  abbrev pub EachIsOpen : List Frame → Type 0
  EachIsOpen [] = Unit {0}
  EachIsOpen (f ∷ fs) = ((d : ℕ) × IsOpen table d (frame_of table f)) × EachIsOpen fs

  each_open : (around : ℕ) (outer : List spec.Frame) (fs : List Frame) → AreOpen table around (stack_onto table outer fs) → EachIsOpen fs × AreOpen table around outer
  each_open around outer [] h = (tt {0}, h)
  each_open around outer (f ∷ fs) h =
      let rest = each_open around (frame_of table f ∷ outer) fs h in
      (((around + length outer + 1, rest.1.0), rest.0), rest.1.2)

  -- a table, and after it the trees inside the wholes of containers, the outermost first
  abbrev pub with_frames : List Tree → List Frame → List Tree
  with_frames done [] = done
  with_frames done (f ∷ fs) = with_frames (with_frame done (frame_of table f)) fs

  frames_end : (ws : List Tree) (fs : List Frame) → IsEnd ws (with_frames ws fs)
  frames_end ws [] = all_end ws
  frames_end ws (f ∷ fs) = end_of_end (frame_end ws (frame_of table f)) (frames_end (with_frame ws (frame_of table f)) fs)

  with_stack_onto : (done : List Tree) (outer : List spec.Frame) (fs : List Frame) → with_frames (with_stack done outer) fs ≡ with_stack done (stack_onto table outer fs)
  with_stack_onto done outer [] = refl
  with_stack_onto done outer (f ∷ fs) = with_stack_onto done (frame_of table f ∷ outer) fs

  -- a walk from where nothing is complete
  from_start : (grown : List Tree → List Tree) (ws : List Tree) (r : Option ℕ) → grown [] ≡ ws → IsWalk table 0 grown r → IsWalk table 0 (λ done. ws) r
  from_start grown ws None same h = λ done end count larger within after. h [] (table, append-nil table) refl larger within (subst (λ w. IsEnd w larger) (sym same) after)
  from_start grown ws (Some n) same h = λ done end count.
      let walked = h [] (table, append-nil table) refl in
      (subst (λ w. IsEnd w table) same walked.0, ap length (sym same) ∙ walked.1)

pub frames_from : (fs : List Frame) (i : ℕ) (f : Frame) → i < length fs → f ≡ get_or fs i f → drop i fs ≡ f ∷ drop (i + 1) fs
frames_from fs i f within is =
    drop-cons fs i f within ∙ ap (λ g. g ∷ drop (suc i) fs) (sym is) ∙ ap (λ j. f ∷ drop j fs) (sym (add-one i))

module _ (wholes : List Node) (all : List Frame) where
  -- what a walk of the rest gives is what one of all gives
  abbrev pub IsStackBefore : List Frame → ℕ → Type 0
  IsStackBefore rest next =
      IsTable (table_of wholes) → EachIsOpen (table_of wholes) all
      → EachIsOpen (table_of wholes) rest × ((r : Option ℕ) → IsWalk (table_of wholes) next (λ done. with_frames (table_of wholes) done rest) r → IsWalk (table_of wholes) 0 (λ done. with_frames (table_of wholes) done all) r)

  pub stack_before_more : (f : Frame) (rest before : List Frame) (next m : ℕ) → before ≡ f ∷ rest → IsStackBefore before next → WalksFrame wholes f next (Some m) → IsStackBefore rest m
  stack_before_more f rest before next m split told here table opened =
      let now = subst (λ fs. IsStackBefore fs next) split told table opened in (
        now.0.1,
        λ r h. now.1 r (then_walk (table_of wholes) next (λ done. with_frame done (frame_of (table_of wholes) f)) (λ done. with_frames (table_of wholes) done rest) m r (here table now.0.0.0 now.0.0.1) h),
      )

  walked_stack : (r : Option ℕ) → (IsTable (table_of wholes) → EachIsOpen (table_of wholes) all → IsWalk (table_of wholes) 0 (λ done. with_frames (table_of wholes) done all) r) → WalksStack wholes all r
  walked_stack r h table around opened =
      from_start (table_of wholes) (λ done. with_frames (table_of wholes) done all) (with_stack [] (stack_of (table_of wholes) all)) r (with_stack_onto (table_of wholes) [] [] all) (h table (each_open (table_of wholes) around [] all opened).0)

  pub stack_before_stopped : (f : Frame) (rest before : List Frame) (next : ℕ) → before ≡ f ∷ rest → IsStackBefore before next → WalksFrame wholes f next None → WalksStack wholes all None
  stack_before_stopped f rest before next split told here = walked_stack None (λ table opened.
      let now = subst (λ fs. IsStackBefore fs next) split told table opened in
      now.1 None (then_stopped (table_of wholes) next (λ done. with_frame done (frame_of (table_of wholes) f)) (λ done. with_frames (table_of wholes) done rest) (λ ws. frames_end (table_of wholes) ws rest) (here table now.0.0.0 now.0.0.1)))

  pub stack_before_none : (before : List Frame) (next : ℕ) → before ≡ [] → IsStackBefore before next → WalksStack wholes all (Some next)
  stack_before_none before next is told = walked_stack (Some next) (λ table opened. (subst (λ fs. IsStackBefore fs next) is told table opened).1 (Some next) (λ done end count. (end, count)))

-- ---- the node that completes a root

module _ (table : List Tree) (fs : List spec.Frame) where
  completed_by : (n : ℕ) (i : Item) (t : Tree) → Some n ≡ number_of i → step table fs i ≡ complete t → (u : Tree) × (numbered table n ≡ Some u) × (plug (tree.whole u) fs ≡ complete t)
  completed_by n (whole_item k) t same h = at (numbered table n) refl
    where
      at : (found : Option Tree) → numbered table n ≡ found → (u : Tree) × (numbered table n ≡ Some u) × (plug (tree.whole u) fs ≡ complete t)
      at None is =
          let number : k ≡ n = cc in
          let no : plug_whole fs None ≡ complete t = sym (ap (plug_whole fs) (ap (numbered table) number ∙ is)) ∙ h in
          cc
      at (Some u) is =
          let number : k ≡ n = cc in
          (u, is, sym (ap (plug_whole fs) (ap (numbered table) number ∙ is)) ∙ h)
  completed_by n (leaf_item l) t same h = cc
  completed_by n (shared_item s) t same h = cc
  completed_by n none_item t same h = cc
  completed_by n some_item t same h = cc
  completed_by n (list_item m) t same h = cc
  completed_by n (map_item kind m) t same h = cc
  completed_by n (key_item k) t same h = cc
  completed_by n (wholes_item m) t same h = cc
  completed_by n whole_head t same h = cc

  no_key : (gs : List spec.Frame) (k : List ℕ) (t : Tree) → step table gs (key_item k) ≡ complete t → ⊥
  no_key [] k t h = cc
  no_key (in_option ∷ gs) k t h = cc
  no_key (in_list n ts ∷ gs) k t h = cc
  no_key (at_key kind n ps ∷ gs) k t h = cc
  no_key (at_value kind n ps l ∷ gs) k t h = cc

  -- a node without wholes
  wholes_before : (i : Item) (t : Tree) → None ≡ number_of i → step table fs i ≡ complete t → wholes_of t ≡ with_stack [] fs
  wholes_before (leaf_item l) t same h = wholes-plug (tree.leaf l) fs t h
  wholes_before (shared_item s) t same h = wholes-plug (tree.shared s) fs t h
  wholes_before none_item t same h = wholes-plug tree.nothing fs t h
  wholes_before some_item t same h = cc
  wholes_before (list_item n) t same h =
      elim (eqb_tells 0 n) [
        | inl is ↦ wholes-plug (tree.list tree.no_trees) fs t (sym (ap (λ b. if b then plug (tree.list tree.no_trees) fs else going (in_list n tree.no_trees ∷ fs)) is.0) ∙ h)
        | inr differs ↦
            let no = sym (ap (λ b. if b then plug (tree.list tree.no_trees) fs else going (in_list n tree.no_trees ∷ fs)) differs.0) ∙ h in
            cc
      ]
  wholes_before (map_item kind n) t same h =
      elim (eqb_tells 0 n) [
        | inl is ↦ wholes-plug (tree.map kind tree.no_pairs) fs t (sym (ap (λ b. if b then plug (tree.map kind tree.no_pairs) fs else going (at_key kind n tree.no_pairs ∷ fs)) is.0) ∙ h)
        | inr differs ↦
            let no = sym (ap (λ b. if b then plug (tree.map kind tree.no_pairs) fs else going (at_key kind n tree.no_pairs ∷ fs)) differs.0) ∙ h in
            cc
      ]
  wholes_before (key_item k) t same h = absurd (no_key fs k t h)
  wholes_before (whole_item n) t same h = cc
  wholes_before (wholes_item n) t same h = cc
  wholes_before whole_head t same h = cc

  stack_end : (number : Option ℕ) (i : Item) (t : Tree) → number ≡ number_of i → step table fs i ≡ complete t → IsEnd (with_stack [] fs) (wholes_of t)
  stack_end None i t same h = subst (IsEnd (with_stack [] fs)) (sym (wholes_before i t same h)) (all_end (with_stack [] fs))
  stack_end (Some n) i t same h =
      let by = completed_by n i t same h in
      subst (IsEnd (with_stack [] fs)) (sym (wholes-plug (tree.whole by.0) fs t by.2)) (wholes_end (with_stack [] fs) (tree.whole by.0))

module _ (wholes : List Node) (fs : List Frame) where
  pub root_stopped : (number : Option ℕ) → WalksStack wholes fs None → WalksRoot wholes fs number None
  root_stopped number h i t same done_by table around opened done end count larger within after =
      h table around opened done end count larger within (end_of_end (stack_end (table_of wholes) (stack_of (table_of wholes) fs) number i t same done_by) after)

  pub root_alone : (m : ℕ) → WalksStack wholes fs (Some m) → WalksRoot wholes fs None (Some m)
  root_alone m h i t same done_by table around opened =
      subst (λ ws. IsWalk (table_of wholes) 0 (λ done. ws) (Some m)) (sym (wholes_before (table_of wholes) (stack_of (table_of wholes) fs) i t same done_by)) (h table around opened)

  pub root_of_whole : (n m : ℕ) (r : Option ℕ) → WalksStack wholes fs (Some m) → WalksNode wholes (node.Whole n) m r → WalksRoot wholes fs (Some n) r
  root_of_whole n m r h here i t same done_by table around opened =
      let stack = stack_of (table_of wholes) fs in
      let by = completed_by (table_of wholes) stack n i t same done_by in
      let seen = node_tree-whole (table_of wholes) n ∙ ap whole_of by.1 in
      let legal = subst IsLegal (sym seen) (legal_numbered (table_of wholes) n by.0 table by.1) in
      let walked = then_walk (table_of wholes) 0 (λ done. with_stack [] stack) (λ done. with_wholes done (node_tree (table_of wholes) (node.Whole n))) m r (h table around opened) (here table legal) in
      subst (λ ws. IsWalk (table_of wholes) 0 (λ done. ws) r) (ap (with_wholes (with_stack [] stack)) seen ∙ sym (wholes-plug (tree.whole by.0) stack t by.2)) walked

-- whether the wholes of a root are those of a table is told
abbrev pub DecidesOrder : List Node → List Frame → Option ℕ → Bool → Type 0
DecidesOrder wholes fs number told =
    (i : Item) (t : Tree) → number ≡ number_of i → step (table_of wholes) (stack_of (table_of wholes) fs) i ≡ complete t
    → IsTable (table_of wholes) → (around : ℕ) → AreOpen (table_of wholes) around (stack_of (table_of wholes) fs)
    → Decides told (wholes_of t ≡ table_of wholes)

pub order_told : (w : Wholes) (fs : List Frame) (number : Option ℕ) (told : Bool) (i : Item) (t : Tree) (lines : List ℕ) → DecidesOrder w.entries.items fs number told → number ≡ number_of i → IsAtLine w (stack_of (table_in w) fs) (spelled i) lines → step (table_in w) (stack_of (table_in w) fs) i ≡ complete t
    → Decides told (wholes_of t ≡ table_in w)
order_told w fs number told i t lines decides same at done_by = decides i t same done_by at.reading.table (around w.lacking) at.reading.stack

-- ---- roots without wholes

frame_adds_none : (d : ℕ) (f : spec.Frame) → IsOpen [] d f → with_frame [] f ≡ []
frame_adds_none d in_option opened = refl
frame_adds_none d (in_list n ts) opened = complete_adds [] (listed_table [] tt) (tree.list ts) opened.4
frame_adds_none d (at_key kind n ps) opened = complete_adds [] (listed_table [] tt) (tree.map kind ps) opened.4
frame_adds_none d (at_value kind n ps k) opened = complete_adds [] (listed_table [] tt) (tree.map kind ps) opened.0.4

stack_adds_none : (n : ℕ) (fs : List spec.Frame) → AreOpen [] n fs → with_stack [] fs ≡ []
stack_adds_none n [] opened = refl
stack_adds_none n (f ∷ outer) opened = ap (λ done. with_frame done f) (stack_adds_none n outer opened.2) ∙ frame_adds_none (n + length outer + 1) f opened.0

-- where no whole is complete, the root that a node without wholes completes has none
pub none_in_order : (wholes : List Node) (fs : List Frame) (number : Option ℕ) → wholes ≡ [] → number ≡ None → DecidesOrder wholes fs number true
none_in_order wholes fs number none alone i t same done_by table n opened =
    let empty : table_of wholes ≡ [] = ap table_of none in
    let none_in_stack : with_stack [] (stack_of (table_of wholes) fs) ≡ [] =
    stack_adds_none n (stack_of (table_of wholes) fs) (subst (λ ts. AreOpen ts n (stack_of (table_of wholes) fs)) empty opened) in
    (λ yes. wholes_before (table_of wholes) (stack_of (table_of wholes) fs) i t (sym alone ∙ same) done_by ∙ none_in_stack ∙ sym empty, λ are. refl)

-- ---- the tree of a whole

one_line_more : (ls : List (List ℕ)) (l : List ℕ) → ended (ls ++ l ∷ []) ≡ ended ls ++ (l ++ 10 ∷ [])
one_line_more [] l = refl
one_line_more (x ∷ ls) l = ap (λ w. x ++ 10 ∷ w) (one_line_more ls l) ∙ sym (append_assoc x (10 ∷ ended ls) (l ++ 10 ∷ []))

-- the lines of a tree that is complete
text_completed : (table : List Tree) (fs : List spec.Frame) (i : Item) (t : Tree) → IsTable table → step table fs i ≡ complete t → ended (lines_of (items_of_stack table fs)) ++ (spelled i ++ 10 ∷ []) ≡ text_in table t
text_completed table fs i t is h =
    let all : items table t ≡ items_of_stack table fs ++ i ∷ [] = subst Grows h (items-step table is fs i) tt in
    sym (ap (λ is. ended (lines_of is)) all ∙ ap ended (map-append spelled (items_of_stack table fs) (i ∷ [])) ∙ one_line_more (lines_of (items_of_stack table fs)) (spelled i))
  where
    Grows : State → Type 0
    Grows s = IsUnstuck s → items_of_state table s ≡ items_of_stack table fs ++ i ∷ []

tree_fits : (lacking : ℕ) (table : List Tree) (fs : List spec.Frame) (i : Item) (t : Tree) → 0 < lacking → IsTable table → AreOpen table (around lacking) fs → Admits (due_of lacking table fs) i → step table fs i ≡ complete t → Fits table 1 t
tree_fits zero table fs i t some is opened p h = absurd (omega (arith, some))
tree_fits (suc lacking) table fs i t some is opened p h = subst (IsLegalState table 1) h (legal-step table 1 (omega arith) is fs i opened p)

-- what is asked of the lines of a whole
pub record IsWhole (w : Wholes) (t : Tree) (lines : List ℕ) : Type 0 where
  pub legal : IsLegal t
  pub numbered : IsNumbered (table_in w) t
  pub lines_are : lines ≡ text_in (table_in w) t

pub is_whole : (w : Wholes) (fs : List spec.Frame) (i : Item) (t : Tree) (lines : List ℕ) → 0 < w.lacking → IsAtLine w fs (spelled i) lines → Admits (due_at (reading_of w fs)) i → step (table_in w) fs i ≡ complete t → IsWhole w t lines
is_whole w fs i t lines some at p h =
    let fits = tree_fits w.lacking (table_in w) fs i t some at.reading.table at.reading.stack p h in
    record { legal = fits.0; numbered = fits.2; lines_are = at.lines_are ∙ text_completed (table_in w) fs i t at.reading.table h }

pub new_whole : (lacking : ℕ) (table : List Tree) (t : Tree) → 0 < lacking → true ≡ not (has table t) → IsNew lacking table t
new_whole zero table t some h = absurd (omega (arith, some))
new_whole (suc lacking) table t some h = unlike (has table t) h
  where
    unlike : (b : Bool) → true ≡ not b → b ≡ false
    unlike false e = refl
    unlike true e = cc

pub old_whole : (b : Bool) → false ≡ not b → b ≡ true
old_whole true e = refl
old_whole false e = cc

pub new_root : (lacking : ℕ) (table : List Tree) (t : Tree) → lacking ≤ 0 → wholes_of t ≡ table → IsNew lacking table t
new_root zero table t none h = h
new_root (suc lacking) table t none h = absurd (omega (arith, none))
