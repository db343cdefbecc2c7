-- Nodes that are written after what is below their pointers.
use Rattle.std.proofs.Common.{◌≡◌, ℕ, ◌+◌, ◌<◌, List, [], ◌∷◌, ◌++◌, length, append-nil, length-append, Option, Some, Ok, Err, refl, ap, sym, subst, ◌∙◌, inl, inr, ◌⊎◌, arith}
use Rattle.archive_shape_layout.specs.Shape.{Shape}
use Rattle.archive_shape_layout.specs.Writing.{WriterMembers}
use Rattle.archive_shape_layout.specs.declared.error.Error.{Error}
use Rattle.archive_shape_layout.proofs.Joined.{written_none, written_both}
use Rattle.archive_forms_laws.specs.State.{State, advanced}
use Rattle.archive_forms_laws.specs.Spelling.{Spelling, state_after}
use Rattle.archive_forms_laws.specs.Serializing.{IsAt, Serializes}
use Rattle.archive_forms_laws.specs.Regions.{state_after_all, pieces, resolvers, pieces_fit, pieces_refused}
use Rattle.archive_btree_spelling.specs.Parted.{Parted, parted}
use Rattle.archive_btree_spelling.specs.Written.{own_piece, own_refused, linked, node_piece, node_at, node_fits, node_refused, state_after_entries, tree_spelling}
use Rattle.archive_btree_spelling.specs.Laying.{LaysNode}
use Rattle.archive_btree_writing.proofs.BuildingLaying.{Wrote, Stops, stops_first, stops_after}
use Rattle.archive_btree_writing.proofs.Appended.{state-pos, state-begun, state-append, pieces-append, resolvers-append, fit-append, refused-append}

module _ {C W : Type 0} (w : Spelling (List C) (Option ℕ)) (s : WriterMembers W) (old : W) where
  -- these lists of items were written one after the other, from a state on, and these are their roots
  pub record Rooted (now : W) (below : List (List C)) (roots : List (Option ℕ)) (st : State) : Type 0 where
    pub wrote : Wrote s old now (pieces w below st)
    pub roots_are : roots ≡ resolvers w below st
    pub fits : pieces_fit w below st
    pub is_at : IsAt s.pos s.known now (state_after_all w below st)

  pub rooted_none : (st : State) → IsAt s.pos s.known old st → Rooted old [] [] st
  rooted_none st at = record { wrote = written_none old; roots_are = refl; fits = tt; is_at = at }

  -- one more child was written
  pub rooted_more : (now next : W) (below : List (List C)) (roots : List (Option ℕ)) (c : List C) (root : Option ℕ) (st : State) → (r : Rooted now below roots st)
      → Wrote s now next (w.piece c (state_after_all w below st))
      → (root ≡ w.resolver c (state_after_all w below st)) × w.piece_fits c (state_after_all w below st) × IsAt s.pos s.known next (state_after w c (state_after_all w below st))
      → Rooted next (below ++ c ∷ []) (roots ++ root ∷ []) st
  rooted_more now next below roots c root st r g h =
      let then = state_after_all w below st in
      let P : List ℕ → Type 0 = λ l. Wrote s old next l in
      let A : State → Type 0 = λ z. IsAt s.pos s.known next z in
      let one : w.piece c then ++ [] ≡ w.piece c then = append-nil (w.piece c then) in
      record {
        wrote = subst P (ap (λ l. pieces w below st ++ l) (sym one) ∙ sym (pieces-append w below (c ∷ []) st)) (written_both r.wrote g);
        roots_are = ap (λ l. l ++ root ∷ []) r.roots_are ∙ ap (λ x. resolvers w below st ++ x ∷ []) h.0 ∙ sym (resolvers-append w below (c ∷ []) st);
        fits = fit-append w below (c ∷ []) st r.fits (h.1, tt);
        is_at = subst A (sym (state-append w below (c ∷ []) st)) h.2;
      }

module _ {A B R Q W : Type 0} (most : ℕ) (k v : Shape) (keys : Spelling A R) (vals : Spelling B Q) (s : WriterMembers W) (w : Spelling (List (A × B)) (Option ℕ)) (old : W) where
  -- a node was written, with what is below its pointers, from a state on
  pub record NodeWritten (p : Parted (A × B)) (st : State) (new : W) (at : ℕ) : Type 0 where
    pub wrote : Wrote s old new (node_piece most k v keys vals w p st)
    pub at_is : at ≡ node_at most k v keys vals w p st
    pub fits : node_fits most k v keys vals w p st
    pub is_at : IsAt s.pos s.known new (advanced (length (node_piece most k v keys vals w p st)) (state_after_entries most k v keys vals w p st).met st)

  -- the node of items is written for the items
  pub tree_written : (xs : List (A × B)) (p : Parted (A × B)) → parted most xs ≡ p → 0 < length xs → (new : W) (at : ℕ)
      → ((st : State) → IsAt s.pos s.known old st → NodeWritten p st new at)
      → Serializes (tree_spelling most k v keys vals w) s xs old new (Ok (Some at))
  tree_written [] p e some new at h = absurd (omega (arith, some))
  tree_written (x ∷ xs) p e some new at h =
      let P : Parted (A × B) → Type 0 = λ q. (st : State) → IsAt s.pos s.known old st → NodeWritten q st new at in
      let g = subst P (sym e) h in
      λ st is. let r = g st is in (r.wrote, (ap Some r.at_is, r.fits, r.is_at))

  -- where its writing stops, that of the items does
  pub tree_stops : (xs : List (A × B)) (p : Parted (A × B)) → parted most xs ≡ p → 0 < length xs → (new : W) (P : Error → Type 0) (st : State) (e : Error)
      → Stops s old new (node_piece most k v keys vals w p st) (λ d. node_refused most k v keys vals w p st d ⊎ P d) e
      → Stops s old new ((tree_spelling most k v keys vals w).piece xs st) (λ d. (tree_spelling most k v keys vals w).piece_refused xs st d ⊎ P d) e
  tree_stops [] p is some new P st e h = absurd (omega (arith, some))
  tree_stops (x ∷ xs) p is some new P st e h =
      let F : Parted (A × B) → Type 0 = λ q. Stops s old new (node_piece most k v keys vals w q st) (λ d. node_refused most k v keys vals w q st d ⊎ P d) e in
      subst F (sym is) h

  -- a node is written after what is below its pointers
  pub node_written : (p : Parted (A × B)) (now new : W) (roots : List (Option ℕ)) (at : ℕ) (st : State) → Rooted w s old now p.below roots st
      → LaysNode most k v keys vals s (record { kind = p.kind; roots = roots; own = p.own }) now new (Ok at)
      → NodeWritten p st new at
  node_written p now new roots at st r h =
      let then = state_after_all w p.below st in
      let N : List (Option ℕ) → Type 0 = λ rs. LaysNode most k v keys vals s (record { kind = p.kind; roots = rs; own = p.own }) now new (Ok at) in
      let l = subst N r.roots_are h then r.is_at in
      let whole = node_piece most k v keys vals w p st in
      let own = own_piece most k v keys vals (linked most k v keys vals w p st) then in
      let met = (state_after_entries most k v keys vals w p st).met in
      let pos : then.pos + length own ≡ st.pos + length whole = omega (arith, state-pos w p.below st, length-append (pieces w p.below st) own) in
      let begun : then.begun ≡ st.begun = state-begun w p.below st in
      let A : State → Type 0 = λ z. IsAt s.pos s.known new z in
      record {
        wrote = written_both r.wrote l.0;
        at_is = l.1.0;
        fits = (r.fits, l.1.1);
        is_at = subst A (ap (λ n. let z : State = record { pos = n; met = met; begun = then.begun } in z) pos ∙ ap (λ b. let z : State = record { pos = st.pos + length whole; met = met; begun = b } in z) begun) l.1.2;
      }

  -- the writing of a node stops after what is below its pointers
  pub node_stops : (p : Parted (A × B)) (now new : W) (roots : List (Option ℕ)) (P : Error → Type 0) (e : Error) (st : State) → Rooted w s old now p.below roots st
      → LaysNode most k v keys vals s (record { kind = p.kind; roots = roots; own = p.own }) now new (Err e)
      → Stops s old new (node_piece most k v keys vals w p st) (λ d. node_refused most k v keys vals w p st d ⊎ P d) e
  node_stops p now new roots P e st r h =
      let then = state_after_all w p.below st in
      let N : List (Option ℕ) → Type 0 = λ rs. LaysNode most k v keys vals s (record { kind = p.kind; roots = rs; own = p.own }) now new (Err e) in
      let l = subst N r.roots_are h then r.is_at in
      stops_after s (own_refused most k v keys vals (linked most k v keys vals w p st) then) (λ d. node_refused most k v keys vals w p st d ⊎ P d) (λ q. inl (inr q)) r.wrote l

  -- the writing of what is below the next pointer stops
  pub children_stop : (below later : List (List (A × B))) (c es : List (A × B)) (now new : W) (roots : List (Option ℕ)) (P Q : Error → Type 0) (e : Error) (st : State) → (P e → Q e)
      → Rooted w s old now below roots st
      → Stops s now new (w.piece c (state_after_all w below st)) (λ d. w.piece_refused c (state_after_all w below st) d ⊎ P d) e
      → Stops s old new (node_piece most k v keys vals w (record { kind = 1; below = below ++ (c ∷ later); own = es }) st) (λ d. node_refused most k v keys vals w (record { kind = 1; below = below ++ (c ∷ later); own = es }) st d ⊎ Q d) e
  children_stop below later c es now new roots P Q e st f r h =
      let then = state_after_all w below st in
      let p : Parted (A × B) = record { kind = 1; below = below ++ (c ∷ later); own = es } in
      let here : Error → Type 0 = λ d. w.piece_refused c then d ⊎ P d in
      let all : Error → Type 0 = λ d. pieces_refused w (below ++ (c ∷ later)) st d ⊎ P d in
      let whole : Error → Type 0 = λ d. node_refused most k v keys vals w p st d ⊎ Q d in
      let L : List ℕ → Type 0 = λ l. Stops s old new l all e in
      let first : Stops s old new (pieces w (below ++ (c ∷ later)) st) all e =
      subst L (sym (pieces-append w below (c ∷ later) st))
      (stops_after s here all (up below later c st P e) r.wrote (stops_first s (pieces w later (state_after w c then)) here here (λ q. q) h))
      in
      stops_first s (own_piece most k v keys vals (linked most k v keys vals w p st) (state_after_all w (below ++ (c ∷ later)) st)) all whole (over below later c es st P Q e f) first
    where
      up : (below later : List (List (A × B))) (c : List (A × B)) (st : State) (P : Error → Type 0) (e : Error)
          → w.piece_refused c (state_after_all w below st) e ⊎ P e → pieces_refused w (below ++ (c ∷ later)) st e ⊎ P e
      up below later c st P e (inl q) = inl (refused-append w below (c ∷ later) st e (inl q))
      up below later c st P e (inr q) = inr q

      over : (below later : List (List (A × B))) (c es : List (A × B)) (st : State) (P Q : Error → Type 0) (e : Error) → (P e → Q e)
          → pieces_refused w (below ++ (c ∷ later)) st e ⊎ P e
          → node_refused most k v keys vals w (record { kind = 1; below = below ++ (c ∷ later); own = es }) st e ⊎ Q e
      over below later c es st P Q e f (inl q) = inl (inl q)
      over below later c es st P Q e f (inr q) = inr (f q)
