-- Inner nodes on the levels of a packed tree.
use Rattle.std.proofs.Common.{◌≡◌, ℕ, zero, suc, ◌+◌, ◌-◌, ◌<◌, ◌≤◌, List, [], ◌∷◌, ◌++◌, length, take, take_all, Option, Some, Ok, Err, sym, subst, ◌∙◌, arith}
use Rattle.archive_shape_layout.specs.Shape.{Shape}
use Rattle.archive_shape_layout.specs.Writing.{WriterMembers}
use Rattle.archive_shape_layout.specs.declared.error.Error.{Error}
use Rattle.archive_forms_laws.specs.Spelling.{Spelling, state_after}
use Rattle.archive_forms_laws.specs.Serializing.{HasState}
use Rattle.archive_shape_canonical.specs.Packed.{child_items}
use Rattle.archive_btree_spelling.specs.Maps.{packed_spelling}
use Rattle.archive_btree_spelling.specs.Laying.{LaysNode}
use Rattle.archive_btree_writing.specs.Built.{IsBuilt, IsCutShort}
use Rattle.archive_forms_laws.specs.Taking.{GivesAs, MayGiveAll}
use Rattle.archive_btree_writing.proofs.Opening.{Open, open_none, open_more, open_state}
use Rattle.archive_btree_writing.proofs.Closing.{child_cut, inner_built, inner_cut}
use Rattle.std.specs.Prelude.{map}

module _ {A B R Q T W I : Type 0} (most : ℕ) (k v : Shape) (keys : Spelling A R) (vals : Spelling B Q) (s : WriterMembers W) (view : T → A × B) (given : I → Option T → I → Type 0) (from : I) (old : W)
    (above : ℕ) (inner_above : 0 < above) (n : ℕ) (many : most < n) where
  -- what is below a pointer
  abbrev pub child_spelling : Spelling (List (A × B)) (Option ℕ)
  child_spelling = packed_spelling most k v keys vals (suc (above - 1))

  abbrev pub Opened : (i more done : ℕ) → I → W → List (Option ℕ) → List T → Type 0
  Opened i more done to now roots own = Open most n child_spelling s view given from old i more done to now roots own

  up : suc (above - 1) ≡ above
  up = omega (arith, inner_above)

  pub opened_more :
      (i done m after : ℕ) (to mid next : I) (now then : W) (roots lesser : List (Option ℕ)) (es own : List T) (root : Option ℕ) (e : T)
      → i < most → m ≡ child_items most n i → after ≡ done + m + 1 → lesser ≡ roots ++ root ∷ [] → own ≡ es ++ e ∷ []
      → Opened i (most - i) done to now roots es
      → IsBuilt child_spelling s (GivesAs view given) m to mid now then root
      → given mid (Some e) next
      → Opened (i + 1) (most - (i + 1)) after next then lesser own
  opened_more i done m after to mid next now then roots lesser es own root e less size is_after is_lesser is_own o b g =
      let more : most - i ≡ suc (most - (i + 1)) = omega (arith, less) in
      let F : ℕ → Type 0 = λ x. Opened i x done to now roots es in
      let P : ℕ → Type 0 = λ x. Opened (i + 1) (most - (i + 1)) x next then lesser own in
      let L : List (Option ℕ) → Type 0 = λ x. Opened (i + 1) (most - (i + 1)) (done + m + 1) next then x own in
      let O : List T → Type 0 = λ x. Opened (i + 1) (most - (i + 1)) (done + m + 1) next then (roots ++ root ∷ []) x in
      subst P (sym is_after) (subst L (sym is_lesser) (subst O (sym is_own)
      (open_more most n child_spelling s view given from old i (most - (i + 1)) done m to mid next now then roots es root e size (subst F more o) b g)))

  pub opened_none : Opened 0 (most - 0) 0 from old [] []
  opened_none = let P : ℕ → Type 0 = λ x. Opened 0 x 0 from old [] [] in subst P (omega arith) (open_none most n child_spelling s view given from old)

  pub cut_below :
      (i done m behind : ℕ) (to : I) (now new : W) (roots : List (Option ℕ)) (own : List T) (claimed taken claims then : ℕ) (e : Error)
      → m ≡ child_items most n i
      → done + m + (most - i) ≤ n
      → (most - i ≡ 0 → done + m ≡ n)
      → done + m + behind ≤ n
      → claims ≡ claimed
      → then ≡ taken + done
      → Opened i (most - i) done to now roots own
      → IsCutShort child_spelling s (GivesAs view given) claims then m behind to now new e
      → IsCutShort (packed_spelling most k v keys vals (suc above)) s (GivesAs view given) claimed taken n 0 from old new e
  cut_below i done m behind to now new roots own claimed taken claims then e size room last wanted is_claimed is_then o c =
      let F : ℕ → Type 0 = λ a. IsCutShort (packed_spelling most k v keys vals (suc a)) s (GivesAs view given) claimed taken n 0 from old new e in
      let G : ℕ → Type 0 = λ x. IsCutShort child_spelling s (GivesAs view given) x then m behind to now new e in
      subst F up (child_cut most k v keys vals s view given child_spelling from old n many i (most - i) done m behind to now new roots own claimed taken then e size room last wanted is_then o (subst G is_claimed c))

  -- all children were written
  module _ (done m i : ℕ) (to mid : I) (now then new : W) (lesser : List (Option ℕ)) (own : List T) (greater : Option ℕ) (end : i ≡ most) (pointers : length lesser ≡ most) (entries : length own ≡ most) (whole : done + m ≡ n)
      (o : Opened i (most - i) done to now (take i lesser) (take i own)) (b : IsBuilt child_spelling s (GivesAs view given) m to mid now then greater) where
    pub opened_end : Open most n child_spelling s view given from old most zero done to now lesser own
    opened_end =
        let F : ℕ → Type 0 = λ x. Opened x (most - x) done to now (take x lesser) (take x own) in
        let P : ℕ → Type 0 = λ x. Opened most x done to now (take most lesser) (take most own) in
        let L : List (Option ℕ) → Type 0 = λ x. Opened most zero done to now x (take most own) in
        let O : List T → Type 0 = λ x. Opened most zero done to now lesser x in
        subst O (take_all most own (omega (arith, entries))) (subst L (take_all most lesser (omega (arith, pointers))) (subst P (omega arith) (subst F end o)))

    -- what the step that writes the node is called with
    pub may_come_end : MayGiveAll given from own
    may_come_end = opened_end.may_come

    pub state_end : HasState s.pos s.known old → HasState s.pos s.known then × (s.failures then ≡ s.failures old)
    state_end h =
        let open_now = open_state most n child_spelling s view given from old i (most - i) done to now (take i lesser) (take i own) o h in
        let w = b.written open_now.0.state open_now.0.is_at in
        (record { state = state_after child_spelling b.items open_now.0.state; is_at = w.1.2 }, w.0.is_quiet ∙ open_now.1)

    pub built_inner : (at : ℕ) → LaysNode most k v keys vals s (record { kind = 1; roots = lesser ++ greater ∷ []; own = map view own }) then new (Ok at)
        → IsBuilt (packed_spelling most k v keys vals (suc above)) s (GivesAs view given) n from mid old new (Some at)
    built_inner at h =
        let F : ℕ → Type 0 = λ a. IsBuilt (packed_spelling most k v keys vals (suc a)) s (GivesAs view given) n from mid old new (Some at) in
        subst F up (inner_built most k v keys vals s view given child_spelling from old n many done m to mid now then new lesser own greater whole opened_end b at h)

    pub cut_inner : (claimed taken : ℕ) (e : Error) → LaysNode most k v keys vals s (record { kind = 1; roots = lesser ++ greater ∷ []; own = map view own }) then new (Err e)
        → IsCutShort (packed_spelling most k v keys vals (suc above)) s (GivesAs view given) claimed taken n 0 from old new e
    cut_inner claimed taken e h =
        let F : ℕ → Type 0 = λ a. IsCutShort (packed_spelling most k v keys vals (suc a)) s (GivesAs view given) claimed taken n 0 from old new e in
        subst F up (inner_cut most k v keys vals s view given child_spelling from old n many done m to mid now then new lesser own greater whole opened_end b claimed taken e h)
