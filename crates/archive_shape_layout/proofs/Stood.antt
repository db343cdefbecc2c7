-- A part at a path: its value, and the values beside it.
use Rattle.std.proofs.Common.{◌≡◌, ℕ, zero, suc, ◌-◌, cond, nat_lt, Bool, true, false, List, [], ◌∷◌, ◌++◌, Option, Some, None, refl, ap, ap₂, sym, subst, ◌∙◌}
use Rattle.archive_shape_layout.specs.Value.{Value, Values}
use Rattle.archive_shape_layout.specs.Content.{Names, Part}
use Rattle.archive_shape_layout.specs.Holds.{Region, Visit, OpenShared, Holds, HoldAll}
use Rattle.archive_shape_layout.specs.Holds.HoldAll.{holds_none, holds_more}
use Rattle.archive_shape_layout.specs.Path.{value_in, value_at, child_place, entry_place, in_child, in_entry, through, Stands, StandsIn}
use Rattle.archive_shape_layout.specs.Path.Stands.{stands_here, stands_plain, stands_claimed}
use Rattle.archive_shape_layout.specs.Path.StandsIn.{stands_first, stands_later}
use Rattle.archive_shape_layout.specs.Content.{Label, first_values, other_values}
use Rattle.archive_shape_layout.specs.Content.Label.{leaf, written, same, second, whole, tagged, woven, total}
use Rattle.archive_shape_layout.specs.Edit.{ValueAtPath, PathsJoin}
use Rattle.archive_shape_layout.proofs.Paths.{put_label, path_is}

pub record InValue (i : ℕ) (vs : Values) (path : List ℕ) (w : Value) : Type 0 where
  pub value : Value
  pub there : value_in i vs ≡ Some value
  pub inner : value_at path value ≡ Some w

module _ (names : Names) (bytes : List ℕ) (q : Part) (w : Value) where
  mutual
    pub stands_value : {level : ℕ} {inside : List OpenShared} {before : List Visit} {p : Part} {v : Value} {path : List ℕ}
        → Stands names bytes q w level inside before p v path → value_at path v ≡ Some w
    stands_value (stands_here ep ev er) = ap₂ (λ r x. value_at r x) er ev
    stands_value {v = v} {path = path} (stands_plain {inner = inner} {l = l} {vs = vs} {i = i} e within is_made through) =
        let u = stands_in_value within in
        (put_label l vs i inner path v w u.value w is_made u.there u.inner through).is_there
    stands_value {v = v} {path = path} (stands_claimed {inner = inner} {l = l} {vs = vs} {i = i} e within is_made through) =
        let u = stands_in_value within in
        (put_label l vs i inner path v w u.value w is_made u.there u.inner through).is_there

    pub stands_in_value : {level : ℕ} {inside : List OpenShared} {before : List Visit} {ps : List Part} {vs : Values} {i : ℕ} {path : List ℕ}
        → StandsIn names bytes q w level inside before ps vs i path → InValue i vs path w
    stands_in_value (stands_first {v = v} stands holds rest is zero_is) =
        record { value = v; there = ap₂ (λ k x. value_in k x) zero_is is; inner = stands_value stands }
    stands_in_value (stands_later holds stands is suc_is) =
        let u = stands_in_value stands in
        record { value = u.value; there = ap₂ (λ k x. value_in k x) suc_is is ∙ u.there; inner = u.inner }

  pub record AllHeld (level : ℕ) (inside : List OpenShared) (ps : List Part) (vs : Values) (before : List Visit) : Type 0 where
    pub regions : List Region
    pub after : List Visit
    pub all : HoldAll names bytes level inside ps vs regions before after

  pub stands_all : {level : ℕ} {inside : List OpenShared} {before : List Visit} {ps : List Part} {vs : Values} {i : ℕ} {path : List ℕ}
      → StandsIn names bytes q w level inside before ps vs i path → AllHeld level inside ps vs before
  stands_all (stands_first {after = after} {here = here} {later = later} stands holds rest is zero_is) =
      record { regions = here ++ later; after = after; all = holds_more holds rest is refl }
  stands_all (stands_later {here = here} holds stands is suc_is) =
      let r = stands_all stands in
      record { regions = here ++ r.regions; after = r.after; all = holds_more holds r.all is refl }

pub value_at_path_law : ValueAtPath
value_at_path_law names bytes level inside before p q v w path stands = stands_value names bytes q w stands

-- ---- a path after another

module _ (more : List ℕ) where
  in_child_more : (o : Option ℕ) (inner path : List ℕ) → in_child o inner ≡ Some path → in_child o (inner ++ more) ≡ Some (path ++ more)
  in_child_more None inner path e = absurd (cc)
  in_child_more (Some n) [] path e = absurd (cc)
  in_child_more (Some n) (j ∷ rest) path e = ap (λ r. Some (r ++ more)) (path_is e)

  in_entry_more : (o : Option ℕ) (inner path : List ℕ) → in_entry o inner ≡ Some path → in_entry o (inner ++ more) ≡ Some (path ++ more)
  in_entry_more None inner path e = absurd (cc)
  in_entry_more (Some n) inner path e = ap (λ r. Some (r ++ more)) (path_is e)

  either_more : (t : Bool) (a b : Option ℕ) (inner path : List ℕ) → cond t (in_child a inner) (in_entry b inner) ≡ Some path
      → cond t (in_child a (inner ++ more)) (in_entry b (inner ++ more)) ≡ Some (path ++ more)
  either_more true a b inner path e = in_child_more a inner path e
  either_more false a b inner path e = in_entry_more b inner path e

  pub through_more : (l : Label) (vs : Values) (i : ℕ) (inner path : List ℕ) → through l vs i inner ≡ Some path → through l vs i (inner ++ more) ≡ Some (path ++ more)
  through_more (leaf v) vs i inner path e = absurd (cc)
  through_more (written bs) vs i inner path e = absurd (cc)
  through_more same vs zero inner path e = ap (λ r. Some (r ++ more)) (path_is e)
  through_more same vs (suc i) inner path e = absurd (cc)
  through_more second vs zero inner path e = absurd (cc)
  through_more second vs (suc zero) inner path e = ap (λ r. Some (r ++ more)) (path_is e)
  through_more second vs (suc (suc i)) inner path e = absurd (cc)
  through_more whole vs i inner path e = ap (λ r. Some (r ++ more)) (path_is e)
  through_more (tagged t) vs i inner path e = ap (λ r. Some (r ++ more)) (path_is e)
  through_more (woven n) vs i inner path e =
      either_more (nat_lt i n) (child_place i (first_values n vs) (other_values n vs)) (entry_place (i - n) (first_values n vs) (other_values n vs)) inner path e
  through_more (total n) vs zero [] path e = absurd (cc)
  through_more (total n) vs zero (j ∷ rest) path e = ap (λ r. Some (r ++ more)) (path_is e)
  through_more (total n) vs (suc i) inner path e = absurd (cc)

  module _
      (names : Names) (bytes : List ℕ) (q r : Part) (w u : Value)
      (on : (level : ℕ) (inside : List OpenShared) (before after : List Visit) (regions : List Region)
      → Holds names bytes level inside q w regions before after → Stands names bytes r u level inside before q w more)
    where
      mutual
        pub joined : {level : ℕ} {inside : List OpenShared} {before : List Visit} {p : Part} {v : Value} {path : List ℕ} (regions : List Region) (after : List Visit)
            → Holds names bytes level inside p v regions before after
            → Stands names bytes q w level inside before p v path → Stands names bytes r u level inside before p v (path ++ more)
        joined {level = level} {inside = inside} {before = before} {p = p} {v = v} {path = path} regions after h (stands_here ep ev er) =
            let at_q = subst (λ x. Holds names bytes level inside x v regions before after) ep h in
            let there = on level inside before after regions (subst (λ x. Holds names bytes level inside q x regions before after) ev at_q) in
            subst (λ x. Stands names bytes r u level inside before x v (path ++ more)) (sym ep)
            (subst (λ x. Stands names bytes r u level inside before q x (path ++ more)) (sym ev)
            (subst (λ x. Stands names bytes r u level inside before q w (x ++ more)) (sym er) there))
        joined regions after h (stands_plain {inner = inner} {path = path} {l = l} {vs = vs} {i = i} e within is_made through) =
            stands_plain e (joined_in within) is_made (through_more l vs i inner path through)
        joined regions after h (stands_claimed {inner = inner} {path = path} {l = l} {vs = vs} {i = i} e within is_made through) =
            stands_claimed e (joined_in within) is_made (through_more l vs i inner path through)

        joined_in : {level : ℕ} {inside : List OpenShared} {before : List Visit} {ps : List Part} {vs : Values} {i : ℕ} {path : List ℕ}
            → StandsIn names bytes q w level inside before ps vs i path → StandsIn names bytes r u level inside before ps vs i (path ++ more)
        joined_in (stands_first {between = between} {here = here} stands holds rest is zero_is) = stands_first (joined here between holds stands) holds rest is zero_is
        joined_in (stands_later holds stands is suc_is) = stands_later holds (joined_in stands) is suc_is

pub paths_join_law : PathsJoin
paths_join_law names bytes level inside before after p q r v w u regions path inner h stands on =
    joined inner names bytes q r w u (λ deeper around since until claims k. on deeper around since until claims k) regions after h stands

-- ---- the parts below, with their values

pub part_in : ℕ → List Part → Option Part
part_in i [] = None
part_in zero (p ∷ ps) = Some p
part_in (suc i) (p ∷ ps) = part_in i ps

module _ (names : Names) (bytes : List ℕ) where
  -- part i of a list that holds: its value, its context, and that a part in it is in the list
  pub record IsPicked (level : ℕ) (inside : List OpenShared) (before : List Visit) (ps : List Part) (vs : Values) (i : ℕ) (p : Part) : Type 0 where
    pub value : Value
    pub regions : List Region
    pub since : List Visit
    pub until : List Visit
    pub there : value_in i vs ≡ Some value
    pub holds : Holds names bytes level inside p value regions since until
    pub within : (q : Part) (w : Value) (path : List ℕ) → Stands names bytes q w level inside since p value path → StandsIn names bytes q w level inside before ps vs i path

  pub picked : {level : ℕ} {inside : List OpenShared} {ps : List Part} {vs : Values} {regions : List Region} {before after : List Visit} (i : ℕ) (p : Part)
      → HoldAll names bytes level inside ps vs regions before after → part_in i ps ≡ Some p → IsPicked level inside before ps vs i p
  unfolding part_in
  picked i p (holds_none x y z) e = absurd (cc)
  picked {level = level} {inside = inside} {vs = ws} {before = before} zero p (holds_more {p = r} {ps = ps} {v = v} {vs = vs} {here = here} {between = between} h hs is x) e =
      let same : r ≡ p = of_some e in
      subst (λ k. IsPicked level inside before (r ∷ ps) ws zero k) same (record {
        value = v;
        regions = here;
        since = before;
        until = between;
        there = ap (value_in zero) is;
        holds = h;
        within = λ q w path s. stands_first s h hs is refl;
      })
    where
      of_some : {a b : Part} → ◌≡◌ {A = Option Part} (Some a) (Some b) → a ≡ b
      of_some f = cc
  picked (suc i) p (holds_more h hs is x) e =
      let k = picked i p hs e in
      record {
        value = k.value;
        regions = k.regions;
        since = k.since;
        until = k.until;
        there = ap (value_in (suc i)) is ∙ k.there;
        holds = k.holds;
        within = λ q w path s. stands_later h (k.within q w path s) is refl;
      }
