-- The items of nodes and stacks.
use Rattle.std.proofs.Common.{◌≡◌, ◌∙◌, ℕ, zero, suc, ◌+◌, ◌-◌, ◌<◌, ◌≤◌, List, [], ◌∷◌, ◌++◌, length, set, Option, Some, None, refl, ap, sym, subst, arith, append_assoc, append-nil, add-one}
use Rattle.std.specs.Prelude.{slice_index, IfSome}
use Rattle.std.proofs.lemmas.List.{get_or-set_same, get_or-set_other}
use Rattle.std.proofs.Common.{length-set, inl, inr}
use Rattle.std.proofs.lemmas.Bool.{cases_lt}
use Rattle.archive_btree_layout.specs.Tree.{Tree, Branches, items, items_of}
use Rattle.archive_btree_layout.specs.Reading.{Place}
use Rattle.archive_btree_maps.specs.SearchingLayout.{IsTreeAt}
use Rattle.archive_btree_maps.specs.SearchingNodes.{child_of, entry_of, entry_count}
use Rattle.archive_btree_maps.specs.Walking.{child_items, items_from, node_items, frame_items, stack_items, IsFrame, IsStack}
use Rattle.archive_btree_maps.specs.declared.nodes.layout.NodeLayout.{NodeLayout}
use Rattle.archive_btree_maps.proofs.NodeTree.{ChildIs, Branching, tree_branching, tree_level}
use Rattle.archive_btree_maps.proofs.NodeTree.Branching.{last, more}

module _ (bytes : List ℕ) (l : NodeLayout) where
  -- ---- the items of a node

  module _ (below : ℕ → List Place) (level : ℕ) (same : (pos : ℕ) (t : Tree Place) → IsTreeAt bytes l level pos t → below pos ≡ items t) where
    child_same : (c : Option ℕ) (t : Tree Place) → ChildIs bytes l level c t → child_items bytes l below c ≡ items t
    child_same None t is = rw is refl
    child_same (Some pos) t is = same pos t is

    pub branches_same : (pos n i : ℕ) (bs : Branches Place) → Branching bytes l level pos n i bs
        → child_items bytes l below (child_of bytes l pos i) ++ items_from bytes l below pos n i ≡ items_of bs
    branches_same pos n i bs (last {t = t} z c e) = rw (e, z, child_same (child_of bytes l pos i) t c) (append-nil (items t))
    branches_same pos n i bs (more {m = m} {t = t} {cs = cs} z c r e) =
        rw (e, z, child_same (child_of bytes l pos i) t c) (ap (λ s. items t ++ entry_of l pos i ∷ s) (branches_same pos m (suc i) cs r))

  pub node_same : (levels level pos : ℕ) (t : Tree Place) → level + levels ≡ 33 → IsTreeAt bytes l level pos t → node_items bytes l levels pos ≡ items t
  node_same zero level pos t e is = absurd (omega (arith, tree_level bytes l level pos t is))
  node_same (suc levels) level pos t e is =
      let b = tree_branching bytes l level pos t is in
      branches_same (node_items bytes l levels) (suc level) (λ p u c. node_same levels (suc level) p u (omega arith) c) pos (entry_count bytes l pos) 0 b.branches b.stand
      ∙ sym b.same_items

  -- ---- children

  branch_child : (level pos n i j : ℕ) (bs : Branches Place) → Branching bytes l level pos n i bs → j ≤ n → (t : Tree Place) × ChildIs bytes l level (child_of bytes l pos (i + j)) t
  branch_child level pos n i j bs (last {t = t} z c e) below =
      let here : i ≡ i + j = omega arith in
      (t, subst (λ x. ChildIs bytes l level (child_of bytes l pos x) t) here c)
  branch_child level pos n i zero bs (more {t = t} z c r e) below =
      let here : i ≡ i + 0 = omega arith in
      (t, subst (λ x. ChildIs bytes l level (child_of bytes l pos x) t) here c)
  branch_child level pos n i (suc j) bs (more {m = m} {cs = cs} z c r e) below =
      let rest = branch_child level pos m (suc i) j cs r (omega arith) in
      let here : suc i + j ≡ i + suc j = omega arith in
      (rest.0, subst (λ x. ChildIs bytes l level (child_of bytes l pos x) rest.0) here rest.1)

  -- a pointer leads to a node of a tree on a level, if it is valid
  abbrev pub LeadsTo : ℕ → Option ℕ → Type 0
  LeadsTo level c = IfSome c (λ pos. (t : Tree Place) × IsTreeAt bytes l level pos t)

  leads_to : (level : ℕ) (c : Option ℕ) (t : Tree Place) → ChildIs bytes l level c t → LeadsTo level c
  leads_to level None t is = tt
  leads_to level (Some pos) t is = (t, is)

  pub child_leads : (level pos i : ℕ) (t : Tree Place) → IsTreeAt bytes l level pos t → i ≤ entry_count bytes l pos → LeadsTo (suc level) (child_of bytes l pos i)
  child_leads level pos i t is within =
      let b = tree_branching bytes l level pos t is in
      let c = branch_child (suc level) pos (entry_count bytes l pos) 0 i b.branches b.stand within in
      let here : 0 + i ≡ i = omega arith in
      leads_to (suc level) (child_of bytes l pos i) c.0 (subst (λ x. ChildIs bytes l (suc level) (child_of bytes l pos x) c.0) here c.1)

  -- ---- stacks

  pub stack_same : (nodes others nexts seconds : List ℕ) (depth : ℕ)
      → ((d : ℕ) → d < depth → slice_index nodes d ≡ slice_index others d)
      → ((d : ℕ) → d < depth → slice_index nexts d ≡ slice_index seconds d)
      → stack_items bytes l nodes nexts depth ≡ stack_items bytes l others seconds depth
  stack_same nodes others nexts seconds zero a b = refl
  stack_same nodes others nexts seconds (suc d) a b =
      let rest = stack_same nodes others nexts seconds d (λ j below. a j (omega arith)) (λ j below. b j (omega arith)) in
      rw (a d (omega arith), b d (omega arith), rest) refl

  module _ (nodes nexts : List ℕ) where
    -- a node is pushed
    pub pushed_items : (depth pos next : ℕ) → depth < length nodes → depth < length nexts
        → stack_items bytes l (set nodes depth pos) (set nexts depth next) (suc depth) ≡ frame_items bytes l (31 - depth) pos next ++ stack_items bytes l nodes nexts depth
    pushed_items depth pos next room space =
        let rest =
        stack_same (set nodes depth pos) nodes (set nexts depth next) nexts depth
        (λ d below. get_or-set_other nodes depth d pos 0 (λ e. absurd (omega arith)))
        (λ d below. get_or-set_other nexts depth d next 0 (λ e. absurd (omega arith)))
        in
        rw (get_or-set_same nodes depth pos 0 room, get_or-set_same nexts depth next 0 space, rest) refl

    -- the next entry of the deepest node is passed
    pub passed_items : (depth next : ℕ) → depth < length nexts
        → stack_items bytes l nodes (set nexts depth next) (suc depth)
        ≡ frame_items bytes l (31 - depth) (slice_index nodes depth) next ++ stack_items bytes l nodes nexts depth
    passed_items depth next space =
        let rest = stack_same nodes nodes (set nexts depth next) nexts depth (λ d below. refl) (λ d below. get_or-set_other nexts depth d next 0 (λ e. absurd (omega arith))) in
        rw (get_or-set_same nexts depth next 0 space, rest) refl
    -- ---- a node is pushed

  pub leads_some : (level : ℕ) (c : Option ℕ) (pos : ℕ) → LeadsTo level c → c ≡ Some pos → (t : Tree Place) × IsTreeAt bytes l level pos t
  leads_some level c pos h e = rw e at h

  -- a stack on which a child is still to be pushed, and what is left after the items before
  pub record Pushes (nodes nexts : List ℕ) (depth : ℕ) (child : Option ℕ) (before whole : List Place) : Type 0 where
    pub stands : IsStack bytes l nodes nexts depth
    pub leads : LeadsTo (depth + 1) child
    pub left : before ++ (child_items bytes l (node_items bytes l (32 - depth)) child ++ stack_items bytes l nodes nexts depth) ≡ whole

  pushed_frames : (nodes nexts : List ℕ) (depth pos next : ℕ) → depth < 32 → IsStack bytes l nodes nexts depth → IsFrame bytes l depth pos next
      → (d : ℕ) → d < depth + 1 → IsFrame bytes l d (slice_index (set nodes depth pos) d) (slice_index (set nexts depth next) d)
  pushed_frames nodes nexts depth pos next below s f d up =
      elim (cases_lt d depth) [
        | inl lower ↦
            rw (get_or-set_other nodes depth d pos 0 (λ e. absurd (omega arith)), get_or-set_other nexts depth d next 0 (λ e. absurd (omega arith)))
            (s.frames d lower)
        | inr upper ↦
            let here : d ≡ depth = omega arith in
            let room = s.room in
            let space = s.space in
            rw (here, get_or-set_same nodes depth pos 0 (omega arith), get_or-set_same nexts depth next 0 (omega arith)) f
      ]

  -- the items of a node before its child n, from child i on
  abbrev pub items_before : (ℕ → List Place) → ℕ → ℕ → ℕ → List Place
  items_before below pos zero i = []
  items_before below pos (suc n) i = child_items bytes l below (child_of bytes l pos i) ++ entry_of l pos i ∷ items_before below pos n (suc i)

  parted : (below : ℕ → List Place) (pos n count i j : ℕ) → n ≤ count → j ≡ i + n
      → child_items bytes l below (child_of bytes l pos i) ++ items_from bytes l below pos count i
      ≡ items_before below pos n i ++ (child_items bytes l below (child_of bytes l pos j) ++ items_from bytes l below pos (count - n) j)
  parted below pos zero count i j within at =
      let here : j ≡ i = omega arith in
      let whole : count - 0 ≡ count = omega arith in
      rw (here, whole) refl
  parted below pos (suc n) zero i j within at = absurd (omega arith)
  parted below pos (suc n) (suc m) i j within at =
      let first = child_items bytes l below (child_of bytes l pos i) in
      let less : suc m - suc n ≡ m - n = omega arith in
      let behind = child_items bytes l below (child_of bytes l pos j) ++ items_from bytes l below pos (m - n) j in
      rw less
      (ap (λ s. first ++ entry_of l pos i ∷ s) (parted below pos n m (suc i) j (omega arith) (omega arith))
      ∙ sym (append_assoc first (entry_of l pos i ∷ items_before below pos n (suc i)) behind))

  pub node_parted : (levels pos next : ℕ) → next ≤ entry_count bytes l pos
      → node_items bytes l (suc levels) pos
      ≡ items_before (node_items bytes l levels) pos next 0
      ++ (child_items bytes l (node_items bytes l levels) (child_of bytes l pos next) ++ frame_items bytes l levels pos next)
  node_parted levels pos next within = parted (node_items bytes l levels) pos next (entry_count bytes l pos) 0 next within (omega arith)

  -- a node is pushed of which the entry `next` comes next
  pub pushed : (nodes nexts : List ℕ) (depth pos next : ℕ) (child behind : Option ℕ) (before whole : List Place)
      → Pushes nodes nexts depth child before whole → child ≡ Some pos → next ≤ entry_count bytes l pos → behind ≡ child_of bytes l pos next
      → Pushes (set nodes depth pos) (set nexts depth next) (depth + 1) behind (before ++ items_before (node_items bytes l (31 - depth)) pos next 0) whole
  pushed nodes nexts depth pos next child behind before whole p e within n =
      let s = p.stands in
      let room = s.room in
      let space = s.space in
      let at = leads_some (depth + 1) child pos p.leads e in
      let level = tree_level bytes l (depth + 1) pos at.0 at.1 in
      let below : 32 - (depth + 1) ≡ 31 - depth = omega arith in
      let levels : 32 - depth ≡ suc (31 - depth) = omega arith in
      let up : suc (depth + 1) ≡ depth + 1 + 1 = omega arith in
      record {
        stands =
            record {
              room = simp length-set s.room;
              space = simp length-set s.space;
              within = omega arith;
              frames = pushed_frames nodes nexts depth pos next (omega arith) s (record { tree = at.0; stands = at.1; within = within });
            };
        leads = rw n (subst (λ i. LeadsTo i (child_of bytes l pos next)) up (child_leads (depth + 1) pos next at.0 at.1 within));
        left =
            let under = node_items bytes l (31 - depth) in
            let passed = items_before under pos next 0 in
            let inner = child_items bytes l under (child_of bytes l pos next) in
            let own = frame_items bytes l (31 - depth) pos next in
            let others = stack_items bytes l nodes nexts depth in
            let had : before ++ (node_items bytes l (suc (31 - depth)) pos ++ others) ≡ whole = rw (e, levels) at p.left in
            let after : stack_items bytes l (set nodes depth pos) (set nexts depth next) (suc depth) ≡ own ++ others =
            pushed_items nodes nexts depth pos next (omega arith) (omega arith)
            in
            rw (n, below, add-one depth)
            (ap (λ s. (before ++ passed) ++ (inner ++ s)) after ∙ append_assoc before passed (inner ++ (own ++ others))
            ∙ ap (λ s. before ++ s)
            (ap (λ s. passed ++ s) (sym (append_assoc inner own others)) ∙ sym (append_assoc passed (inner ++ own) others)
            ∙ ap (λ s. s ++ others) (sym (node_parted (31 - depth) pos next within)))
            ∙ had);
      }

  -- ---- the next entry

  pub top_frame : (nodes nexts : List ℕ) (depth top : ℕ) → depth ≡ suc top → IsStack bytes l nodes nexts depth → IsFrame bytes l top (slice_index nodes top) (slice_index nexts top)
  top_frame nodes nexts depth top e s = s.frames top (omega arith)

  passed_frames : (nodes nexts : List ℕ) (depth top next : ℕ) → depth ≡ suc top → IsStack bytes l nodes nexts depth → next ≤ entry_count bytes l (slice_index nodes top)
      → (d : ℕ) → d < depth → IsFrame bytes l d (slice_index nodes d) (slice_index (set nexts top next) d)
  passed_frames nodes nexts depth top next e s within d up =
      elim (cases_lt d top) [
        | inl lower ↦ rw (get_or-set_other nexts top d next 0 (λ e. absurd (omega arith))) (s.frames d up)
        | inr upper ↦
            let here : d ≡ top = omega arith in
            let space = s.space in
            let room = s.within in
            let f = top_frame nodes nexts depth top e s in
            rw (here, get_or-set_same nexts top next 0 (omega arith)) (record { tree = f.tree; stands = f.stands; within = within })
      ]

  -- an entry is passed: the child after it is to be pushed
  pub record Passes (nodes nexts : List ℕ) (depth top pos next : ℕ) : Type 0 where
    pub stands : IsStack bytes l nodes (set nexts top (next + 1)) depth
    pub leads : LeadsTo (depth + 1) (child_of bytes l pos (next + 1))
    pub left :
        stack_items bytes l nodes nexts depth
        ≡ entry_of l pos next
        ∷ (child_items bytes l (node_items bytes l (32 - depth)) (child_of bytes l pos (next + 1)) ++ stack_items bytes l nodes (set nexts top (next + 1)) depth)

  pub passed : (nodes nexts : List ℕ) (depth top : ℕ) → depth ≡ suc top → IsStack bytes l nodes nexts depth
      → slice_index nexts top < entry_count bytes l (slice_index nodes top)
      → Passes nodes nexts depth top (slice_index nodes top) (slice_index nexts top)
  passed nodes nexts depth top e s below =
      let pos = slice_index nodes top in
      let next = slice_index nexts top in
      let f = top_frame nodes nexts depth top e s in
      let room = s.room in
      let space = s.space in
      let within = s.within in
      let level : suc (top + 1) ≡ depth + 1 = omega arith in
      let levels : 32 - depth ≡ 31 - top = omega arith in
      let some : entry_count bytes l pos - next ≡ suc (entry_count bytes l pos - suc next) = omega arith in
      record {
        stands = record { room = s.room; space = simp length-set s.space; within = s.within; frames = passed_frames nodes nexts depth top (next + 1) e s (omega arith) };
        leads = subst (λ i. LeadsTo i (child_of bytes l pos (next + 1))) level (child_leads (top + 1) pos (next + 1) f.tree f.stands (omega arith));
        left =
            let under = node_items bytes l (31 - top) in
            let behind = child_items bytes l under (child_of bytes l pos (suc next)) in
            let own = items_from bytes l under pos (entry_count bytes l pos - suc next) (suc next) in
            let others = stack_items bytes l nodes nexts top in
            let step : next + 1 ≡ suc next = omega arith in
            let after : stack_items bytes l nodes (set nexts top (next + 1)) (suc top) ≡ own ++ others =
            passed_items nodes nexts top (next + 1) (omega arith) ∙ ap (λ m. items_from bytes l under pos (entry_count bytes l pos - m) m ++ others) step
            in
            let before : stack_items bytes l nodes nexts (suc top) ≡ entry_of l pos next ∷ (behind ++ (own ++ others)) =
            rw some (ap (λ rest. entry_of l pos next ∷ rest) (append_assoc behind own others))
            in
            rw (levels, e)
            (before ∙ ap (λ rest. entry_of l pos next ∷ (behind ++ rest)) (sym after)
            ∙ ap (λ m. entry_of l pos next ∷ (child_items bytes l under (child_of bytes l pos m) ++ stack_items bytes l nodes (set nexts top (next + 1)) (suc top))) (sym step));
      }

  -- a node without entries left is dropped
  pub dropped : (nodes nexts : List ℕ) (depth top : ℕ) → depth ≡ suc top
      → entry_count bytes l (slice_index nodes top) ≤ slice_index nexts top
      → stack_items bytes l nodes nexts depth ≡ stack_items bytes l nodes nexts top
  dropped nodes nexts depth top e over =
      let none : entry_count bytes l (slice_index nodes top) - slice_index nexts top ≡ 0 = omega arith in
      rw (e, none) refl

  pub dropped_stack : (nodes nexts : List ℕ) (depth top : ℕ) → depth ≡ suc top → IsStack bytes l nodes nexts depth → IsStack bytes l nodes nexts top
  dropped_stack nodes nexts depth top e s =
      let within = s.within in
      record { room = s.room; space = s.space; within = omega arith; frames = λ d below. s.frames d (omega arith) }

  -- ---- from the root on

  -- a stack on which nothing but the root was pushed has the items of the tree there
  pub root_items : (nodes nexts : List ℕ) (depth root : ℕ) (t : Tree Place) (whole : List Place) → depth ≡ 0 → IsTreeAt bytes l 1 root t
      → whole ≡ node_items bytes l (32 - depth) root ++ stack_items bytes l nodes nexts depth → whole ≡ items t
  root_items nodes nexts depth root t whole z is e =
      let none : stack_items bytes l nodes nexts depth ≡ [] = rw z refl in
      let same = node_same (32 - depth) 1 root t (omega arith) is in
      e ∙ ap (λ s. s ++ stack_items bytes l nodes nexts depth) same ∙ ap (λ s. items t ++ s) none ∙ append-nil (items t)

  pub empty_stack : (nodes nexts : List ℕ) (depth : ℕ) → length nodes ≡ 32 → length nexts ≡ 32 → depth ≡ 0 → IsStack bytes l nodes nexts depth
  empty_stack nodes nexts depth room space z = record { room = room; space = space; within = omega arith; frames = λ d below. absurd (omega arith) }

  pub empty_items : (nodes nexts : List ℕ) (depth : ℕ) → depth ≡ 0 → stack_items bytes l nodes nexts depth ≡ []
  empty_items nodes nexts depth z = rw z refl
