-- Inner nodes of which the first children were written, with the entries after them.
use Rattle.std.proofs.Common.{◌≡◌, ℕ, suc, ◌+◌, List, [], ◌∷◌, ◌++◌, length, append_assoc, length-append, map, Option, Some, refl, ap, sym, ◌∙◌, arith}
use Rattle.std.proofs.lemmas.List.{map-append}
use Rattle.std.specs.Iterator.{Yields}
use Rattle.archive_shape_layout.specs.Writing.{WriterMembers}
use Rattle.archive_forms_laws.specs.State.{State}
use Rattle.archive_forms_laws.specs.Spelling.{Spelling}
use Rattle.archive_forms_laws.specs.Serializing.{IsAt, HasState}
use Rattle.archive_forms_laws.specs.Regions.{state_after_all}
use Rattle.archive_shape_canonical.specs.Packed.{child_items}
use Rattle.archive_btree_spelling.specs.Parted.{shares, between}
use Rattle.archive_btree_writing.specs.Built.{IsBuilt}
use Rattle.archive_forms_laws.specs.Taking.{MayGiveAll, GivesAs}
use Rattle.archive_btree_writing.proofs.Taken.{Yields-append, Yields-more, Yields-seen, may_give_more}
use Rattle.archive_btree_writing.proofs.Parting.{shares_more, between_more}
use Rattle.archive_btree_writing.proofs.Rooted.{Rooted, rooted_none, rooted_more}

module _ {C T W I : Type 0} (most n : ℕ) (w : Spelling (List C) (Option ℕ)) (s : WriterMembers W) (view : T → C) (given : I → Option T → I → Type 0) (from : I) (old : W) where
  -- i children were written, and `more` are to come after the next; `done` items came
  pub record Open (i more done : ℕ) (to : I) (now : W) (roots : List (Option ℕ)) (own : List T) : Type 0 where
    pub items : List C
    pub counted : length items ≡ done
    pub below : List (List C)
    pub came : Yields (GivesAs view given) from items to
    pub may_come : MayGiveAll given from own
    pub shared : (others : List C) → shares most n 0 most (items ++ others) ≡ below ++ shares most n i more others
    pub own_are : (others : List C) → between most n 0 most (items ++ others) ≡ map view own ++ between most n i more others
    pub written : (st : State) → IsAt s.pos s.known old st → Rooted w s old now below roots st

  pub open_none : Open 0 most 0 from old [] []
  open_none = record {
    items = [];
    counted = refl;
    below = [];
    came = refl;
    may_come = tt;
    shared = λ others. refl;
    own_are = λ others. refl;
    written = rooted_none w s old;
  }

  -- one more child, and the entry after it
  pub open_more : (i more done m : ℕ) (to mid next : I) (now then : W) (roots : List (Option ℕ)) (own : List T) (root : Option ℕ) (e : T) → m ≡ child_items most n i
      → Open i (suc more) done to now roots own
      → IsBuilt w s (GivesAs view given) m to mid now then root
      → given mid (Some e) next
      → Open (i + 1) more (done + m + 1) next then (roots ++ root ∷ []) (own ++ e ∷ [])
  open_more i more done m to mid next now then roots own root e size o b g =
      let items = o.items ++ (b.items ++ view e ∷ []) in
      let came : Yields (GivesAs view given) from (o.items ++ b.items) mid = Yields-append (GivesAs view given) from to mid o.items b.items o.came b.came in
      let is_size : length b.items ≡ child_items most n i = b.counted ∙ size in
      let split = λ (others : List C). append_assoc o.items (b.items ++ view e ∷ []) others ∙ ap (λ l. o.items ++ l) (append_assoc b.items (view e ∷ []) others) in
      record {
        items = items;
        counted = length-append o.items (b.items ++ view e ∷ []) ∙ omega (arith, length-append b.items (view e ∷ []), o.counted, b.counted);
        below = o.below ++ b.items ∷ [];
        came = Yields-append (GivesAs view given) from to next o.items (b.items ++ view e ∷ []) o.came (Yields-more (GivesAs view given) to mid next b.items (view e) b.came (e, g, refl));
        may_come = let seen = Yields-seen view given from mid (o.items ++ b.items) came in may_give_more given from mid next seen.0 own e seen.1 g o.may_come;
        shared = λ others.
            ap (λ l. shares most n 0 most l) (split others)
            ∙ o.shared (b.items ++ view e ∷ others)
            ∙ ap (λ l. o.below ++ l) (shares_more most n i more b.items others (view e) is_size)
            ∙ sym (append_assoc o.below (b.items ∷ []) (shares most n (i + 1) more others));
        own_are = λ others.
            ap (λ l. between most n 0 most l) (split others)
            ∙ o.own_are (b.items ++ view e ∷ others)
            ∙ ap (λ l. map view own ++ l) (between_more most n i more b.items others (view e) is_size)
            ∙ sym (append_assoc (map view own) (view e ∷ []) (between most n (i + 1) more others))
            ∙ ap (λ l. l ++ between most n (i + 1) more others) (sym (map-append view own (e ∷ [])));
        written = λ st at.
            let r = o.written st at in
            let h = b.written (state_after_all w o.below st) r.is_at in
            rooted_more w s old now then o.below roots b.items root st r h.0 h.1;
      }

  -- what holds of the writer now
  pub open_state : (i more done : ℕ) (to : I) (now : W) (roots : List (Option ℕ)) (own : List T) → Open i more done to now roots own → HasState s.pos s.known old
      → HasState s.pos s.known now × (s.failures now ≡ s.failures old)
  open_state i more done to now roots own o h = let r = o.written h.state h.is_at in (record { state = state_after_all w o.below h.state; is_at = r.is_at }, r.wrote.is_quiet)

  -- and what came
  pub open_came : (i more done : ℕ) (to : I) (now : W) (roots : List (Option ℕ)) (own : List T) → Open i more done to now roots own → (xs : List T) × Yields given from xs to
  open_came i more done to now roots own o = Yields-seen view given from to o.items o.came
