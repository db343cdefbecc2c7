-- What the search trees of ordered maps store, against the limits of how they are written.
use Rattle.std.proofs.Common.{◌≡◌, ℕ, zero, suc, ◌+◌, ◌*◌, ◌<◌, ◌≤◌, ◌^◌, List, [], ◌∷◌, map as mapped, length, Option, Some, refl, sym, ap, ap₂, subst, ◌∙◌, arith, ◌⊎◌, inl, inr, ⊎_elim, length-append, add-zero}
use Rattle.std.proofs.lemmas.Bool.{cases_lt}
use Rattle.archive_shape_layout.specs.Bytes.{align_up}
use Rattle.archive_shape_layout.specs.Shape.{size_of}
use Rattle.archive_shape_layout.specs.Shape.Shape.{text}
use Rattle.archive_shape_layout.specs.Content.{words_of, keys_offset, values_offset, links_offset, link_node_align, link_node_size}
use Rattle.archive_shape_layout.proofs.Framed.{le_align_up, keys_fit, values_fit, links_fit}
use Rattle.archive_shape_layout.specs.declared.error.Error.{Error}
use Rattle.archive_shape_layout.specs.declared.error.Error.TheVariants.{PositionTooLarge}
use Rattle.archive_shape_canonical.specs.Packed.{levels_for}
use Rattle.archive_shape_canonical.specs.Settled.{Fit}
use Rattle.archive_shape_canonical.specs.Plan.{Target, Plan, flat, leads, Plans}
use Rattle.archive_shape_canonical.specs.Limits.{Field, count, IsSomePast, Shared, moved, Lies, lies_parts, lies_leads, LieAll}
use Rattle.archive_shape_canonical.specs.Limits as limits
use Rattle.archive_forms_laws.specs.State.{State}
use Rattle.archive_forms_laws.specs.Spelling.{Spelling, state_after}
use Rattle.archive_forms_laws.specs.Regions.{pieces_refused}
use Rattle.archive_forms_laws.specs.Links.{LinkRefused}
use Rattle.archive_forms_laws.proofs.Regions.{state_after_all_begun}
use Rattle.archive_forms_writing.specs.Owned.{str_spelling}
use Rattle.archive_btree_spelling.specs.Parted.{Parted, shares, between, parted}
use Rattle.archive_btree_spelling.specs.Written.{key_own, value_own, words, IsPlaced, slots_refused, state_after_children, linked, state_after_entries, node_at, node_piece, node_refused}
use Rattle.archive_btree_spelling.proofs.Slots.{key_slots, value_slots}
use Rattle.archive_btree_spelling.proofs.Trees.{length-links-below}
use Rattle.archive_btree_spelling.proofs.Nodes.{Roomy, node_end}
use Rattle.archive_btree_spelling.proofs.Parting.{EachIs, EachListIs, IsParted, is_leaf, is_inner, parted_is, parted_each, parted_low, no_levels}
use Rattle.archive_btree_spelling.proofs.Planned.{PartedPlan}
use Rattle.cabinet_text_grammar.specs.Tree.{Tree}
use Rattle.cabinet_documents.specs.Node.{KnowsNode, node_shape, node_names}
use Rattle.cabinet_documents.specs.Resolver.{Resolver}
use Rattle.cabinet_documents.specs.Spelling.{pair_spelling, ordered_spelling}
use Rattle.cabinet_documents.proofs.Values.{entry_value}
use Rattle.cabinet_documents.proofs.Plans.{EntriesPlan, MapPlan, is_empty, is_rooted}
use Rattle.cabinet_documents.proofs.SharedMet.{Sharing, Begun, Spares}
use Rattle.cabinet_documents.proofs.Fields.{text_length_of, Alike, laid, reached, parts_lies, past_left, past_right, past_either, flat_lies, leads_lies, IsFar, Reads, no_fields}
use Rattle.cabinet_documents.proofs.StoredRegions.{region_fields, led_read}
use Rattle.cabinet_documents.proofs.Storing.{CanLie, as_plan, flat_can_lie}
use Rattle.cabinet_documents.proofs.StoredPairs.{Entry, TellsEntry}
use Rattle.cabinet_documents.proofs.StoredEntries.{entries_read, entries_lie, packed, TreeTells, TellsBelow, ChildrenPlanned, EntriesPlanned, children_read, children_lie}

module _ (g : Sharing) where
  module _ (w : Spelling Tree Resolver) where
    abbrev Below : Type 1
    Below = Spelling (List Entry) (Option ℕ)

    abbrev after_children : Below → Parted Entry → State → State
    after_children u p s = state_after_children 5 text node_shape str_spelling w u p s

    abbrev after_entries : Below → Parted Entry → State → State
    after_entries u p s = state_after_entries 5 text node_shape str_spelling w u p s

    abbrev start_of : Below → Parted Entry → State → ℕ
    start_of u p s = node_at 5 text node_shape str_spelling w u p s

    abbrev size_for : Parted Entry → ℕ
    size_for p = link_node_size (words_of p.kind 5) 5 text node_shape

    abbrev PartsRefused : Below → Parted Entry → State → Error → Type 0
    PartsRefused u p s e = pieces_refused u p.below s e ⊎ pieces_refused (pair_spelling w) p.own (after_children u p s) e

    abbrev SlotsRefused : Below → Parted Entry → State → ℕ → Error → Type 0
    SlotsRefused u p s start e = slots_refused 5 text node_shape str_spelling w (linked 5 text node_shape str_spelling w u p s) (after_children u p s) start e

    -- what the parts of a node at a position store
    record ReadsParts (u : Below) (p : Parted Entry) (s : State) (start : ℕ) (within : List Field) (inner : limits.State) : Type 0 where
      alike : Alike g inner.met (after_entries u p s).met
      spares : Spares g s.met (after_entries u p s).met
      there : inner.pos ≡ (after_entries u p s).pos
      parts_past : (e : Error) → PartsRefused u p s e → IsSomePast within e ⊎ IsFar inner.pos e
      slots_past : (e : Error) → SlotsRefused u p s start e → IsSomePast within e
      refused_parts : (e : Error) → IsSomePast within e → PartsRefused u p s e ⊎ SlotsRefused u p s start e

    -- what a node stores that a pointer leads to
    record ReadsRooted (u : Below) (p : Parted Entry) (s : State) (own : ℕ) (numbers : List ℕ) (fs : List Field) (b : limits.State) : Type 0 where
      alike : Alike g b.met (after_entries u p s).met
      spares : Spares g s.met (after_entries u p s).met
      there : b.pos ≡ s.pos + length (node_piece 5 text node_shape str_spelling w u p s)
      past : (e : Error) → node_refused 5 text node_shape str_spelling w u p s e → IsSomePast fs e ⊎ IsFar b.pos e
      beside : (e : Error) → LinkRefused (Some (start_of u p s)) own e ⊎ IsSomePast (mapped count numbers) e → IsSomePast fs e
      refused_node : (e : Error) → IsSomePast fs e
          → node_refused 5 text node_shape str_spelling w u p s e ⊎ (LinkRefused (Some (start_of u p s)) own e ⊎ IsSomePast (mapped count numbers) e)

    rooted_read :
        (u : Below) (p : Parted Entry) (s : State) (own : ℕ) (numbers : List ℕ) (within fs : List Field) (inner b : limits.State)
        → start_of u p s + size_for p ≡ s.pos + length (node_piece 5 text node_shape str_spelling w u p s)
        → ReadsParts u p s (start_of u p s) within inner
        → b ≡ moved (start_of u p s + size_for p) inner
        → fs ≡ region_fields own (start_of u p s) (start_of u p s + 0) numbers within
        → ReadsRooted u p s own numbers fs b
    rooted_read u p s own numbers within fs inner b size h ends fields =
        let start = start_of u p s in
        let behind : b.pos ≡ start + size_for p = ap (λ (z : limits.State). z.pos) ends in
        let up : inner.pos ≤ start = subst (λ n. n ≤ start) (sym h.there) (le_align_up (after_entries u p s).pos (link_node_align text node_shape)) in
        let Unplaced : Error → Type 0 = λ e. (IsPlaced 5 text node_shape str_spelling w (linked 5 text node_shape str_spelling w u p s) start → ⊥) × (e ≡ PositionTooLarge) in
        let led = led_read (PartsRefused u p s) Unplaced (SlotsRefused u p s start) own start start numbers within fs inner.pos b.pos up
        (λ e r.
        ⊎_elim
        (λ low. ⊎_elim (λ short. absurd (r.0 (low, short))) (λ far. inr (omega (arith, far, behind), r.1)) (cases_lt (start + size_for p) (2 ^ 64)))
        (λ far. inl (far, r.1))
        (cases_lt start (2 ^ 32)))
        (λ e far. ((λ placed. let low = placed.0 in let above = far.0 in omega (arith, low, above)), far.1))
        (record { data_past = h.parts_past; own_past = λ e r. inl (h.slots_past e r); refused_within = h.refused_parts })
        (fields ∙ ap (λ n. region_fields own start n numbers within) (add-zero start)) in
        record {
          alike = subst (λ (z : limits.State). Alike g z.met (after_entries u p s).met) (sym ends) h.alike;
          spares = h.spares;
          there = behind ∙ size;
          past = λ e. ⊎_elim (λ r. led.past e (inl (inl r))) (⊎_elim (λ r. led.past e (inl (inr r))) (λ r. led.past e (inr r)));
          beside = led.beside;
          refused_node = λ e q. ⊎_elim (λ g. inl (⊎_elim (⊎_elim (λ r. inl r) (λ r. inr (inl r))) (λ r. inr (inr r)) g)) (λ g. inr g) (led.refused_led e q);
        }

    -- ---- the size of a node

    module _ (fit : Fit) where
      key_slots_size : (xs : List Entry) (s : State) (pos : ℕ) → length (key_slots fit 5 text node_shape KnowsNode str_spelling w xs s pos) ≡ length xs * 8
      key_slots_size [] s pos = omega arith
      key_slots_size (x ∷ xs) s pos =
          let after = state_after (pair_spelling w) x s in
          let own = key_own 5 text node_shape str_spelling w x s pos in
          let first : length own ≡ 8 = text_length_of x.0 (str_spelling.resolver x.0 s).pos pos in
          let rest = key_slots_size xs after (pos + size_of text) in
          length-append own (key_slots fit 5 text node_shape KnowsNode str_spelling w xs after (pos + size_of text)) ∙ omega (arith, first, rest)

      value_slots_size : (xs : List Entry) → EachIs (TellsEntry g w fit) xs → (s : State) (pos : ℕ) → length (value_slots fit 5 text node_shape KnowsNode str_spelling w xs s pos) ≡ length xs * 24
      value_slots_size [] each s pos = omega arith
      value_slots_size (x ∷ xs) each s pos =
          let after = state_after (pair_spelling w) x s in
          let own = value_own 5 text node_shape str_spelling w x s pos in
          let first : length own ≡ 24 = each.0.sized (w.resolver x.1 (state_after str_spelling x.0 s)) pos in
          let rest = value_slots_size xs each.1 after (pos + size_of node_shape) in
          length-append own (value_slots fit 5 text node_shape KnowsNode str_spelling w xs after (pos + size_of node_shape)) ∙ omega (arith, first, rest)

      abbrev WordsFill : Below → Parted Entry → Type 0
      WordsFill u p = (s : State) (pos : ℕ) → length (words 5 text node_shape str_spelling w p.kind (linked 5 text node_shape str_spelling w u p s) pos) ≡ words_of p.kind 5 * 4

      module _ (l : ℕ) (u : Below) (xs : List Entry) (p : Parted Entry) where
        few_own : IsParted 5 l xs p → length p.own ≤ 5
        few_own (is_leaf few e) = subst (λ (z : Parted Entry). length z.own ≤ 5) (sym e) few
        few_own (is_inner more e s) = subst (λ (z : Parted Entry). length z.own ≤ 5) (sym e) (let n = s.own in omega (arith, n))

        words_fill : IsParted 5 l xs p → WordsFill u p
        words_fill (is_leaf few e) = subst (WordsFill u) (sym e) (λ s pos. refl)
        words_fill (is_inner more e s) =
            let xss = shares 5 (length xs) 0 5 xs in
            let inner : WordsFill u (record { kind = 1; below = xss; own = between 5 (length xs) 0 5 xs }) =
            λ st pos. length-links-below fit 5 text node_shape KnowsNode str_spelling w l u xss st pos ∙ ap (λ n. n * 4) s.pointers in
            subst (WordsFill u) (sym e) inner

        node_room : IsParted 5 l xs p → EachIs (TellsEntry g w fit) p.own → (s : State) (pos : ℕ) → Roomy fit 5 text node_shape KnowsNode str_spelling w u p s pos
        node_room is each s pos =
            let few = few_own is in
            let a = key_slots_size p.own (after_children u p s) (pos + keys_offset text) in
            let b = value_slots_size p.own each (after_children u p s) (pos + values_offset 5 text node_shape) in
            let c = words_fill is s (pos + links_offset 5 text node_shape) in
            record {
              keys_room = omega (arith, a, few, keys_fit 1 5 text node_shape);
              values_room = omega (arith, b, few, values_fit 5 text node_shape);
              words_room = omega (arith, c, links_fit (words_of p.kind 5) 5 text node_shape);
            }

      -- ---- a node, with what is known of the items below its pointers

      module _ (l : ℕ) (p : Parted Entry) (below : EachIs (TellsBelow g w fit l) p.below) (own_tell : EachIs (TellsEntry g w fit) p.own) where
        parts_read :
            (all behind : Plans) → ChildrenPlanned g w fit l behind (links_offset 5 text node_shape) p.below all → EntriesPlanned g w fit (keys_offset text) (values_offset 5 text node_shape) p.own behind
            → (s : State) (seen : List Shared) → Alike g seen s.met → Begun g s.begun → (start : ℕ) (within : List Field) (inner : limits.State)
            → LieAll all start (laid s seen) within inner → ReadsParts (packed g w l) p s start within inner
        parts_read all behind children_planned entries_planned s seen alike begun start within inner h =
            let u = packed g w l in
            let now = after_children u p s in
            let c = children_read g w fit l p.below behind all (links_offset 5 text node_shape) start (start + links_offset 5 text node_shape) s seen within inner below children_planned alike begun refl h in
            let r = entries_read g w fit p.own behind (keys_offset text) (values_offset 5 text node_shape) start (start + keys_offset text) (start + values_offset 5 text node_shape) now c.between.met c.there inner
            own_tell entries_planned c.reads.alike (subst (Begun g) (sym (state_after_all_begun fit text KnowsNode u p.below s)) begun) refl refl
            (subst (λ z. LieAll behind start z c.there inner) (reached c.between now c.reads.there) c.lies) in
            let at_between = c.reads.there in
            let up = r.up in
            let first : (e : Error) → IsSomePast c.here e → IsSomePast within e = λ e q. subst (λ f. IsSomePast f e) (sym c.all) (past_left c.here c.there e q) in
            let second : (e : Error) → IsSomePast c.there e → IsSomePast within e = λ e q. subst (λ f. IsSomePast f e) (sym c.all) (past_right c.here c.there e q) in
            record {
              alike = r.alike;
              spares = λ k o e. r.spares k o (c.reads.spares k o e);
              there = r.there;
              parts_past = λ e. ⊎_elim
                  (λ g. ⊎_elim (λ q. inl (first e q)) (λ far. inr (omega (arith, far.0, at_between, up), far.1)) (c.reads.pieces_past e g))
                  (λ g. ⊎_elim (λ q. inl (second e q)) (λ far. inr far) (r.pieces_past e g));
              slots_past = λ e. ⊎_elim (λ g. second e (r.keys_past e g)) (⊎_elim (λ g. second e (r.values_past e g)) (λ g. first e (c.reads.links_past e g)));
              refused_parts = λ e q. ⊎_elim
                  (λ g. ⊎_elim (λ k. inl (inl k)) (λ k. inr (inr (inr k))) (c.reads.refused_all e g))
                  (λ g. ⊎_elim (λ k. inl (inr k)) (⊎_elim (λ k. inr (inl k)) (λ k. inr (inr (inl k)))) (r.refused_all e g))
                  (past_either c.here c.there e (subst (λ f. IsSomePast f e) c.all q));
            }

        module _ (t : Target) (q : Plan) (planned : PartedPlan fit node_names 5 text node_shape entry_value (λ ys y z. EntriesPlan fit l ys y z) p t q)
            (numbers : List ℕ) (s : State) (seen : List Shared) (alike : Alike g seen s.met) (begun : Begun g s.begun) (own : ℕ) where
          read_at : (start : ℕ) (within : List Field) (inner : limits.State) → Lies q start (laid s seen) within inner → ReadsParts (packed g w l) p s start within inner
          read_at start within inner h =
              parts_read planned.all planned.own planned.children_planned planned.entries_planned s seen alike begun start within inner
              (parts_lies planned.all start (laid s seen) inner within (subst (λ z. Lies z start (laid s seen) within inner) planned.is h))

          node_read : start_of (packed g w l) p s + size_for p ≡ s.pos + length (node_piece 5 text node_shape str_spelling w (packed g w l) p s)
              → (fs : List Field) (b : limits.State) → Lies (leads numbers t q) own (laid s seen) fs b → ReadsRooted (packed g w l) p s own numbers fs b
          node_read size fs b h =
              let u = packed g w l in
              let f = leads_lies numbers t q own (laid s seen) b fs h in
              let start = start_of u p s in
              let there = (read_at f.start f.within f.inner f.lies).there in
              let begins : f.start ≡ start = f.begins ∙ ap (λ (z : Target). align_up f.inner.pos z.align) planned.target ∙ ap (λ n. align_up n (link_node_align text node_shape)) there in
              rooted_read u p s own numbers f.within fs f.inner b size
              (read_at start f.within f.inner (subst (λ n. Lies q n (laid s seen) f.within f.inner) begins f.lies))
              (f.ends ∙ ap₂ (λ (n : ℕ) (z : Target). moved (n + z.size) f.inner) begins planned.target)
              (f.fields ∙ ap₂ (λ (n : ℕ) (z : Target). region_fields own n (n + z.lead) numbers f.within) begins planned.target)

          node_lies : CanLie (leads numbers t q) own (laid s seen)
          node_lies =
              let u = packed g w l in
              let start = start_of u p s in
              let h = children_lie g w fit l p.below planned.own planned.all (links_offset 5 text node_shape) start s seen below planned.children_planned alike begun
              (λ met both. entries_lie g w fit p.own planned.own (keys_offset text) (values_offset 5 text node_shape) start (after_children u p s) met own_tell planned.entries_planned both (subst (Begun g) (sym (state_after_all_begun fit text KnowsNode u p.below s)) begun)) in
              let lies = subst (λ z. Lies z start (laid s seen) h.0 h.1) (sym planned.is) (lies_parts h.2) in
              let there = (read_at start h.0 h.1 lies).there in
              (_, _, lies_leads lies (ap (λ n. align_up n (link_node_align text node_shape)) (sym there) ∙ ap (λ (z : Target). align_up h.1.pos z.align) (sym planned.target)) refl refl)

      -- ---- trees

      -- each list below a pointer by the lemma of fewer levels
      each_below : (l : ℕ) → ((c : List Entry) → EachIs (TellsEntry g w fit) c → levels_for 5 (length c) ≤ l → TellsBelow g w fit l c)
          → (xss : List (List Entry)) → EachListIs (TellsEntry g w fit) xss → EachIs (λ (c : List Entry). levels_for 5 (length c) ≤ l) xss → EachIs (TellsBelow g w fit l) xss
      each_below l of_list [] each low = tt
      each_below l of_list (c ∷ xss) each low = (of_list c each.0 low.0, each_below l of_list xss each.1 low.1)

      tree_tells : (l : ℕ) (xs : List Entry) → EachIs (TellsEntry g w fit) xs → levels_for 5 (length xs) ≤ l → 0 < length xs → TreeTells g w fit l xs
      tree_tells zero xs each within some = absurd (no_levels 5 (length xs) (omega arith) some within)
      tree_tells (suc l) [] each within some = absurd (omega (arith, some))
      tree_tells (suc l) (x ∷ xs) each within some =
          let p = parted 5 (x ∷ xs) in
          let is = parted_is 5 l (x ∷ xs) (omega arith) within in
          let apart = parted_each 5 l (x ∷ xs) (TellsEntry g w fit) p is each in
          let below = each_below l (λ c each_c low more. tree_tells l c each_c low more) p.below apart.0 (parted_low 5 l (x ∷ xs) p is) in
          record {
            reads = λ t q planned numbers s seen alike begun own fs b h.
                let u = packed g w l in
                let size = node_end fit 5 text node_shape KnowsNode str_spelling w u p s (node_room l u (x ∷ xs) p is apart.1 s (start_of u p s)) in
                let r = node_read l p below apart.1 t q planned numbers s seen alike begun own size fs b h in
                record { alike = r.alike; spares = r.spares; there = r.there; past = r.past; beside = r.beside; refused_link = r.refused_node };
            lies = λ t q planned numbers s seen alike begun own. node_lies l p below apart.1 t q planned numbers s seen alike begun own;
          }

      -- ---- ordered maps

      pub map_reads : (xs : List Entry) (p : Plan) → MapPlan fit xs p → EachIs (TellsEntry g w fit) xs → (s : State) (seen : List Shared) → Alike g seen s.met → Begun g s.begun
          → (own : ℕ) (fs : List Field) (b : limits.State) → Lies p own (laid s seen) fs b → Reads g (ordered_spelling w) xs s own fs b
      map_reads xs p (is_empty none is) each s seen alike begun own fs b h =
          let nothing : Reads g (ordered_spelling w) [] s own fs b =
          no_fields g (ordered_spelling w) [] s seen own fs b alike refl refl (λ e r. r) (λ e r. ⊎_elim (λ k. k) (λ long. let n = long.0 in absurd (omega (arith, n))) r)
          (flat_lies own (laid s seen) b fs (subst (λ z. Lies z own (laid s seen) fs b) is h)) in
          subst (λ z. Reads g (ordered_spelling w) z s own fs b) (sym none) nothing
      map_reads xs p (is_rooted {t = t} {q = q} some planned is) each s seen alike begun own fs b h =
          let numbers : List ℕ = length xs ∷ [] in
          let r = (tree_tells (levels_for 5 (length xs)) xs each (omega arith) some).reads t q planned numbers s seen alike begun own fs b (subst (λ z. Lies z own (laid s seen) fs b) is h) in
          record {
            alike = r.alike;
            spares = r.spares;
            there = r.there;
            piece_past = r.past;
            own_past = λ e. ⊎_elim (λ k. r.beside e (inl k)) (λ long. r.beside e (inr (inl long)));
            refused = λ e past. ⊎_elim (λ k. inl k) (⊎_elim (λ k. inr (inl k)) (⊎_elim (λ long. inr (inr long)) (λ none. absurd none))) (r.refused_link e past);
          }

      pub map_lies : (xs : List Entry) (p : Plan) → MapPlan fit xs p → EachIs (TellsEntry g w fit) xs → (s : State) (seen : List Shared) → Alike g seen s.met → Begun g s.begun
          → (own : ℕ) → CanLie p own (laid s seen)
      map_lies xs p (is_empty none is) each s seen alike begun own = as_plan p flat own (laid s seen) is (flat_can_lie own (laid s seen))
      map_lies xs p (is_rooted {t = t} {q = q} some planned is) each s seen alike begun own =
          as_plan p (leads (length xs ∷ []) t q) own (laid s seen) is
          ((tree_tells (levels_for 5 (length xs)) xs each (omega arith) some).lies t q planned (length xs ∷ []) s seen alike begun own)
