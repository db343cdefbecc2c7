-- Trees that were written, and those whose writing stopped.
use Rattle.std.proofs.Common.{◌≡◌, ℕ, zero, ◌+◌, ◌<◌, ◌≤◌, List, [], ◌∷◌, ◌++◌, length, append_assoc, append-nil, length-append, map, Option, Some, None, Ok, Err, refl, ap, sym, subst, ◌∙◌, inl, inr, ◌⊎◌, arith}
use Rattle.std.specs.Iterator.{Yields}
use Rattle.archive_shape_layout.specs.Shape.{Shape}
use Rattle.archive_shape_layout.specs.Writing.{WriterMembers}
use Rattle.archive_shape_layout.specs.declared.error.Error.{Error}
use Rattle.archive_shape_layout.specs.declared.error.Error.TheVariants.{IteratorLengthMismatch}
use Rattle.archive_shape_layout.proofs.Joined.{written_none}
use Rattle.archive_forms_laws.specs.State.{State}
use Rattle.archive_forms_laws.specs.Spelling.{Spelling}
use Rattle.archive_forms_laws.specs.Serializing.{IsAt}
use Rattle.archive_forms_laws.specs.Regions.{state_after_all}
use Rattle.archive_shape_canonical.specs.Packed.{child_items}
use Rattle.archive_btree_spelling.specs.Parted.{Parted, parted, shares, between}
use Rattle.archive_btree_spelling.specs.Written.{tree_spelling}
use Rattle.archive_btree_spelling.specs.Laying.{LaysNode}
use Rattle.archive_btree_writing.specs.Built.{IsBuilt, IsShort, IsCutShort}
use Rattle.archive_forms_laws.specs.Taking.{GivesAs}
use Rattle.archive_btree_writing.proofs.Taken.{Yields-append}
use Rattle.archive_btree_writing.proofs.BuildingLaying.{Stops, stops_before, stops_first, stops_behind}
use Rattle.archive_btree_writing.proofs.Parting.{leaf_parts, parted_leaf, parted_inner, next_share}
use Rattle.archive_btree_writing.proofs.Rooted.{Rooted, rooted_none, rooted_more, tree_written, tree_stops, node_written, node_stops, children_stop}
use Rattle.archive_btree_writing.proofs.Opening.{Open}

-- no item is missing
none_missing : {C : Type 0} (xs others : List C) (n : ℕ) → length xs ≡ n → length (xs ++ others) ≡ n → xs ++ others ≡ xs
none_missing xs [] n e f = append-nil xs
none_missing xs (y ∷ others) n e f = absurd (omega (arith, e, f, length-append xs (y ∷ others)))

module _ {C R W I : Type 0} (w : Spelling (List C) R) (s : WriterMembers W) (gives : I → Option C → I → Type 0) (claimed taken n : ℕ) (from : I) (old : W) where
  -- the iterator ended before anything was written
  pub ended_before : (items : List C) (upto end : I) (e : Error) → Yields gives from items upto → length items < n → gives upto None end → e ≡ IteratorLengthMismatch claimed (taken + length items)
      → IsCutShort w s gives claimed taken n 0 from old old e
  ended_before items upto end e came fewer ended tells = record {
    items = items;
    upto = upto;
    came = came;
    counted = omega (arith, fewer);
    stopped = λ others size st at.
        stops_before s old (w.piece (items ++ others) st) (λ d. w.piece_refused (items ++ others) st d ⊎ IsShort w s gives claimed taken (n + 0) items upto d) e
        (inr (record { fewer = omega (arith, fewer); ended = (end, ended); tells = tells }));
  }

  -- it ended after what was written
  pub ended_behind : (upto end : I) (new : W) (root : R) (e : Error) → IsBuilt w s gives n from upto old new root → gives upto None end → e ≡ IteratorLengthMismatch claimed (taken + n)
      → IsCutShort w s gives claimed taken n 1 from old new e
  ended_behind upto end new root e b ended tells = record {
    items = b.items;
    upto = upto;
    came = b.came;
    counted = omega (arith, b.counted);
    stopped = λ others size st at.
        let P : List C → Type 0 = λ l. Stops s old new (w.piece l st) (λ d. w.piece_refused l st d ⊎ IsShort w s gives claimed taken (n + 1) b.items upto d) e in
        subst P (sym (none_missing b.items others n b.counted size))
        (stops_behind s old new (w.piece b.items st) (λ d. w.piece_refused b.items st d ⊎ IsShort w s gives claimed taken (n + 1) b.items upto d) e
        (inr (record { fewer = omega (arith, b.counted); ended = (end, ended); tells = tells ∙ ap (λ z. IteratorLengthMismatch claimed (taken + z)) (sym b.counted) }))
        (b.written st at).0);
  }

  -- where more are expected, it is as short
  pub cut_wider : (new : W) (e : Error) → IsCutShort w s gives claimed taken n 0 from old new e → IsCutShort w s gives claimed taken n 1 from old new e
  cut_wider new e c = record {
    items = c.items;
    upto = c.upto;
    came = c.came;
    counted = c.counted;
    stopped = λ others size st at.
        let h = c.stopped others size st at in
        let P : List ℕ → Type 0 = λ l. Stops s old new l (λ d. w.piece_refused (c.items ++ others) st d ⊎ IsShort w s gives claimed taken (n + 1) c.items c.upto d) e in
        subst P (append-nil (w.piece (c.items ++ others) st))
        (stops_first s [] (λ d. w.piece_refused (c.items ++ others) st d ⊎ IsShort w s gives claimed taken (n + 0) c.items c.upto d) (λ d. w.piece_refused (c.items ++ others) st d ⊎ IsShort w s gives claimed taken (n + 1) c.items c.upto d) (wider others st) h);
  }
    where
      wider : (others : List C) (st : State) → w.piece_refused (c.items ++ others) st e ⊎ IsShort w s gives claimed taken (n + 0) c.items c.upto e
          → w.piece_refused (c.items ++ others) st e ⊎ IsShort w s gives claimed taken (n + 1) c.items c.upto e
      wider others st (inl r) = inl r
      wider others st (inr short) = inr (record { fewer = omega (arith, short.fewer); ended = short.ended; tells = short.tells })

module _ {A B R Q T W I : Type 0} (most : ℕ) (k v : Shape) (keys : Spelling A R) (vals : Spelling B Q) (s : WriterMembers W) (view : T → A × B) (given : I → Option T → I → Type 0) (w : Spelling (List (A × B)) (Option ℕ)) (from : I) (old : W) where
  -- no items are written as nothing
  pub none_built : (n : ℕ) → n ≡ 0 → IsBuilt (tree_spelling most k v keys vals w) s (GivesAs view given) n from from old old None
  none_built n e = record {
    items = [];
    came = refl;
    counted = sym e;
    written = λ st at.
        let A : State → Type 0 = λ z. IsAt s.pos s.known old z in
        let pos : st.pos ≡ st.pos + 0 = omega arith in
        (written_none old, (refl, tt, subst A (ap (λ n. let z : State = record { pos = n; met = st.met; begun = st.begun } in z) pos) at));
  }

  -- ---- leaves

  module _ (n : ℕ) (few : n ≤ most) (some : 0 < n) (items : List (A × B)) (to : I) (came : Yields (GivesAs view given) from items to) (counted : length items ≡ n) (new : W) where
    pub leaf_built : (at : ℕ) → LaysNode most k v keys vals s (record { kind = 0; roots = []; own = items }) old new (Ok at)
        → IsBuilt (tree_spelling most k v keys vals w) s (GivesAs view given) n from to old new (Some at)
    leaf_built at h = record {
      items = items;
      came = came;
      counted = counted;
      written =
          tree_written most k v keys vals s w old items (leaf_parts items) (parted_leaf most items (omega (arith, few, counted))) (omega (arith, some, counted)) new at
          (λ st is. node_written most k v keys vals s w old (leaf_parts items) old new [] at st (rooted_none w s old st is) h);
    }

    pub leaf_cut : (claimed taken : ℕ) (e : Error) → LaysNode most k v keys vals s (record { kind = 0; roots = []; own = items }) old new (Err e)
        → IsCutShort (tree_spelling most k v keys vals w) s (GivesAs view given) claimed taken n 0 from old new e
    leaf_cut claimed taken e h =
        let tree = tree_spelling most k v keys vals w in
        record {
          items = items;
          upto = to;
          came = came;
          counted = omega (arith, counted);
          stopped = λ others size st is.
              let P : List (A × B) → Type 0 = λ l. Stops s old new (tree.piece l st) (λ d. tree.piece_refused l st d ⊎ IsShort tree s (GivesAs view given) claimed taken (n + 0) items to d) e in
              subst P (sym (none_missing items others n counted size))
              (tree_stops most k v keys vals s w old items (leaf_parts items) (parted_leaf most items (omega (arith, few, counted))) (omega (arith, some, counted)) new (λ d. IsShort tree s (GivesAs view given) claimed taken (n + 0) items to d) st e
              (node_stops most k v keys vals s w old (leaf_parts items) old new [] (λ d. IsShort tree s (GivesAs view given) claimed taken (n + 0) items to d) e st (rooted_none w s old st is) h));
        }

  -- ---- inner nodes

  module _ (n : ℕ) (many : most < n) where
    -- a call stopped in what is below the next pointer, or in the entry after it
    pub child_cut :
        (i more done m behind : ℕ) (to : I) (now new : W) (roots : List (Option ℕ)) (own : List T) (claimed taken then : ℕ) (e : Error)
        → m ≡ child_items most n i
        → done + m + more ≤ n
        → (more ≡ 0 → done + m ≡ n)
        → done + m + behind ≤ n
        → then ≡ taken + done
        → Open most n w s view given from old i more done to now roots own
        → IsCutShort w s (GivesAs view given) claimed then m behind to now new e
        → IsCutShort (tree_spelling most k v keys vals w) s (GivesAs view given) claimed taken n 0 from old new e
    child_cut i more done m behind to now new roots own claimed taken then e size room last wanted is_then o c =
        let tree = tree_spelling most k v keys vals w in
        let items = o.items ++ c.items in
        let long : length items ≡ done + length c.items = length-append o.items c.items ∙ omega (arith, o.counted) in
        record {
          items = items;
          upto = c.upto;
          came = Yields-append (GivesAs view given) from to c.upto o.items c.items o.came c.came;
          counted = omega (arith, long, c.counted, room);
          stopped = λ others whole st is.
              let all = items ++ others in
              let split : all ≡ o.items ++ (c.items ++ others) = append_assoc o.items c.items others in
              let count : done + length (c.items ++ others) ≡ n = omega (arith, length-append items others, length-append c.items others, long, whole) in
              let next = next_share most n i more c.items others m size c.counted (omega (arith, count, room)) (λ z. let l = last z in omega (arith, l, count)) in
              let below : shares most n 0 most all ≡ o.below ++ ((c.items ++ next.rest) ∷ next.later) = ap (λ l. shares most n 0 most l) split ∙ o.shared (c.items ++ others) ∙ ap (λ l. o.below ++ l) next.is in
              let p : Parted (A × B) = record { kind = 1; below = o.below ++ ((c.items ++ next.rest) ∷ next.later); own = between most n 0 most all } in
              let is_p : parted most all ≡ p = parted_inner most n all whole many ∙ ap (λ b. let q : Parted (A × B) = record { kind = 1; below = b; own = between most n 0 most all } in q) below in
              let r = o.written st is in
              let short : Error → Type 0 = λ d. IsShort tree s (GivesAs view given) claimed taken (n + 0) items c.upto d in
              let shorter : Error → Type 0 = λ d. IsShort w s (GivesAs view given) claimed then (m + behind) c.items c.upto d in
              tree_stops most k v keys vals s w old all p is_p (omega (arith, many, whole)) new short st e
              (children_stop most k v keys vals s w old o.below next.later (c.items ++ next.rest) (between most n 0 most all) now new roots shorter short e st
              (λ h. record { fewer = omega (arith, h.fewer, long, wanted); ended = h.ended; tells = h.tells ∙ ap (λ z. IteratorLengthMismatch claimed z) (omega (arith, is_then, long)) })
              r (c.stopped next.rest next.size (state_after_all w o.below st) r.is_at));
        }

    -- every child was written
    module _ (done m : ℕ) (to mid : I) (now then new : W) (lesser : List (Option ℕ)) (own : List T) (greater : Option ℕ) (whole : done + m ≡ n)
        (o : Open most n w s view given from old most zero done to now lesser own) (b : IsBuilt w s (GivesAs view given) m to mid now then greater) where
      abbrev node_items : List (A × B)
      node_items = o.items ++ b.items

      abbrev node_parts : Parted (A × B)
      node_parts = record { kind = 1; below = o.below ++ b.items ∷ []; own = map view own }

      node_size : length node_items ≡ n
      node_size = length-append o.items b.items ∙ omega (arith, o.counted, b.counted, whole)

      node_parted : parted most node_items ≡ node_parts
      node_parted =
          parted_inner most n node_items node_size many
          ∙ ap (λ x. let q : Parted (A × B) = record { kind = 1; below = x; own = between most n 0 most node_items } in q) (o.shared b.items)
          ∙ ap (λ x. let q : Parted (A × B) = record { kind = 1; below = o.below ++ b.items ∷ []; own = x } in q) (o.own_are b.items ∙ append-nil (map view own))

      node_rooted : (st : State) → IsAt s.pos s.known old st → Rooted w s old then (o.below ++ b.items ∷ []) (lesser ++ greater ∷ []) st
      node_rooted st is =
          let r = o.written st is in
          let h = b.written (state_after_all w o.below st) r.is_at in
          rooted_more w s old now then o.below lesser b.items greater st r h.0 h.1

      pub inner_built : (at : ℕ) → LaysNode most k v keys vals s (record { kind = 1; roots = lesser ++ greater ∷ []; own = map view own }) then new (Ok at)
          → IsBuilt (tree_spelling most k v keys vals w) s (GivesAs view given) n from mid old new (Some at)
      inner_built at h = record {
        items = node_items;
        came = Yields-append (GivesAs view given) from to mid o.items b.items o.came b.came;
        counted = node_size;
        written =
            tree_written most k v keys vals s w old node_items node_parts node_parted (omega (arith, many, node_size)) new at
            (λ st is. node_written most k v keys vals s w old node_parts then new (lesser ++ greater ∷ []) at st (node_rooted st is) h);
      }

      pub inner_cut : (claimed taken : ℕ) (e : Error) → LaysNode most k v keys vals s (record { kind = 1; roots = lesser ++ greater ∷ []; own = map view own }) then new (Err e)
          → IsCutShort (tree_spelling most k v keys vals w) s (GivesAs view given) claimed taken n 0 from old new e
      inner_cut claimed taken e h =
          let tree = tree_spelling most k v keys vals w in
          record {
            items = node_items;
            upto = mid;
            came = Yields-append (GivesAs view given) from to mid o.items b.items o.came b.came;
            counted = omega (arith, node_size);
            stopped = λ others size st is.
                let short : Error → Type 0 = λ d. IsShort tree s (GivesAs view given) claimed taken (n + 0) node_items mid d in
                let P : List (A × B) → Type 0 = λ l. Stops s old new (tree.piece l st) (λ d. tree.piece_refused l st d ⊎ short d) e in
                subst P (sym (none_missing node_items others n node_size size))
                (tree_stops most k v keys vals s w old node_items node_parts node_parted (omega (arith, many, node_size)) new short st e
                (node_stops most k v keys vals s w old node_parts then new (lesser ++ greater ∷ []) short e st (node_rooted st is) h));
          }
