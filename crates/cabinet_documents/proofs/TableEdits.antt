-- After a write to one leaf's own bytes, by a path that leads to no key, tables that were sound are sound.
use Rattle.std.proofs.Common.{◌≡◌, ℕ, suc, ◌+◌, ◌-◌, ◌*◌, ◌≤◌, true, List, [], ◌∷◌, ◌++◌, length, Some, refl, ap, ap₂, sym, subst, ◌∙◌, arith, le_refl, inl, inr, ⊎_elim}
use Rattle.std.specs.Prelude.{IsUtf8}
use Rattle.archive_shape_layout.specs.Bytes.{window}
use Rattle.archive_shape_layout.specs.Shape.{Shape, size_of}
use Rattle.archive_shape_layout.specs.Shape.Pointee.{sized, str}
use Rattle.archive_shape_layout.specs.Value.{Value, Values}
use Rattle.archive_shape_layout.specs.Value.Value.{string}
use Rattle.archive_shape_layout.specs.Value.Values.{no_values, more_values}
use Rattle.archive_shape_layout.specs.Content.{Names, Part, Item, Span, Label, content_of, made, members, IsLegal, pointee_content, item_size, control_count}
use Rattle.archive_shape_layout.specs.Content.Part.{at, behind, buckets}
use Rattle.archive_shape_layout.specs.Content.Label.{second}
use Rattle.archive_shape_layout.specs.Content.Content.{plain, claimed}
use Rattle.archive_shape_layout.specs.Laws.{AgreesOn}
use Rattle.archive_shape_layout.specs.Holds.{Region, region_of, Visit, OpenShared, Holds, HoldAll, Ascends, HasRoot, end_after}
use Rattle.archive_shape_layout.specs.Holds.Holds.{holds_plain, holds_claimed}
use Rattle.archive_shape_layout.specs.Holds.HoldAll.{holds_none, holds_more}
use Rattle.archive_shape_layout.specs.Edit.{Spares}
use Rattle.archive_shape_layout.specs.Path.{change_in, put_at, through, Stands, StandsIn}
use Rattle.archive_shape_layout.specs.Path.Stands.{stands_here, stands_plain, stands_claimed}
use Rattle.archive_shape_layout.specs.Path.StandsIn.{stands_first, stands_later}
use Rattle.archive_shape_canonical.specs.Seen.{seen_bytes_of}
use Rattle.archive_shape_canonical.specs.Laws.{IsBehindKey, AvoidsKey, AvoidsKeys, AvoidKeys}
use Rattle.archive_shape_layout.proofs.Ascent.{end_after-grows}
use Rattle.archive_shape_layout.proofs.Unique.{one_value, one_list, by_plain, by_claimed}
use Rattle.archive_shape_layout.proofs.Framed.{stable_plain, stable_claimed}
use Rattle.archive_shape_layout.proofs.Places.{behind_fits, InOwn, Fits, AllFit, Separate, Laid, buckets_laid}
use Rattle.archive_shape_layout.proofs.Paths.{put_label}
use Rattle.archive_shape_layout.proofs.Stood.{stands_in_value, stands_all}
use Rattle.archive_shape_layout.proofs.Edits.{InAny, any_here, any_later, any_fits, any_apart, all_own, claimed_all, own_agrees, regions_agree, kept_plain, kept_claimed, plain_parts, claimed_parts, own_up, narrow, one_follows, LiesIn}
use Rattle.archive_shape_canonical.proofs.Kept.{plain_seen, claimed_seen, span_seen}
use Rattle.cabinet_documents.specs.Table.{item_keys}
use Rattle.cabinet_documents.proofs.EntryNumbers.{numbers_first, same_numbers}
use Rattle.cabinet_documents.proofs.TableSound.{IsTableSound}
use Rattle.cabinet_documents.proofs.HeldTables.{TablesSound, AreTablesSound, plain_tables, claimed_tables, keys_behind, IsToItems, items_path, numbers_stay, table_still, OtherTables, AllOtherTables, framed, framed_all}

-- a window in an item lies below the controls
controls_alike : (bytes others : List ℕ) (w n : ℕ) (spares : Spares bytes others w n) (names : Names) (target len many : ℕ) (it : Item) {s : Span} {l : Label} {ps : List Part}
    → content_of names bytes (buckets target len many it) ≡ claimed s l ps → InAny w n ps → AgreesOn bytes others target (control_count many)
controls_alike bytes others w n spares names target len many it {ps = ps} e i =
    let laid = subst (Laid (target - many * item_size it) target true) e (buckets_laid target len many it (window bytes target (control_count many))) in
    let range = any_fits w n (target - many * item_size it) target ps (claimed_all laid) i in
    spares.outside target (control_count many) (inl range.1)

-- a path in a table leads to no key of it
keys_avoided : (p : Part) (ps : List Part) (vs : Values) (i : ℕ) (inner path : List ℕ) (m : Label) (new u : Value) → AvoidsKey p ps inner → through m vs i inner ≡ Some path
    → (pos : ℕ) (s : Shape) (target len cap : ℕ) (it : Item) (rest : List Part) → p ≡ at pos s → IsToItems m → ps ≡ buckets target len cap it ∷ rest → item_keys (members u) ≡ item_keys (members (put_at path new u))
keys_avoided p ps vs i inner path m new u free t pos s target len cap it rest is label parts =
    let at_shape = subst (λ x. AvoidsKey x ps inner) is free in
    let behind_key : IsBehindKey inner = subst (λ x. AvoidsKey (at pos s) x inner) parts at_shape in
    keys_behind path new u (subst IsBehindKey (items_path m vs i inner path label t) behind_key)

module _
    (names : Names) (bytes others : List ℕ) (w n : ℕ) (q : Part) (old new : Value)
    (spares : Spares bytes others w n)
  where
    abbrev Lies : Type 0 → ℕ → List Region → Type 0
    Lies own low rs = LiesIn names bytes others w n q old new spares own low rs

    record Edited (level : ℕ) (inside : List OpenShared) (p : Part) (v : Value) (rs : List Region) (before after : List Visit) (low : ℕ) : Type 0 where
      lies : Lies (InOwn w n p) low rs
      there : OtherTables bytes others names level inside p v rs before after

    record EditedAll (level : ℕ) (inside : List OpenShared) (ps : List Part) (vs : Values) (rs : List Region) (before after : List Visit) (low : ℕ) : Type 0 where
      lies : Lies (InAny w n ps) low rs
      there : AllOtherTables bytes others names level inside ps vs rs before after

    module _
        (at_leaf : (level : ℕ) (inside : List OpenShared) (p : Part) (v : Value) (rs : List Region) (before after : List Visit) (low high : ℕ)
        → p ≡ q → v ≡ old → Ascends low high rs → Holds names bytes level inside p v rs before after → Edited level inside p new rs before after low)
      where
        mutual
          edit :
              {level : ℕ} {inside : List OpenShared} {p : Part} {v u : Value} {path : List ℕ} {rs : List Region} {since before after : List Visit} (low high base top : ℕ)
              → (stands : Stands names bytes q old level inside since p v path)
              → AvoidsKeys stands
              → since ≡ before
              → v ≡ u
              → Fits base top p
              → end_after low rs ≤ base
              → Ascends low high rs
              → (h : Holds names bytes level inside p u rs before after)
              → TablesSound h
              → Edited level inside p (put_at path new u) rs before after low
          edit {level = level} {inside = inside} {p = p} {u = u} {rs = rs} {before = before} {after = after} low high base top (stands_here ep ev er) free es eu f under a h k =
              let d = at_leaf level inside p u rs before after low high ep (sym eu ∙ ev) a h in
              subst (λ x. Edited level inside p (put_at x new u) rs before after low) (sym er) d
          edit {level = level} {inside = inside} {p = p} {u = u} {path = path} {rs = rs} {before = before} {after = after} low high base top (stands_plain {inner = inner} {l = m} {ps = ps} {vs = vs} {i = i} e within is_made through_is) free es eu f under a h k =
              let o = plain_tables names bytes e h k in
              let parts = plain_parts names bytes base top p f e in
              let s = stands_all names bytes q old within in
              let us = one_list names bytes o.vs rs after (subst (λ b. HoldAll names bytes level inside ps vs s.regions b s.after) es s.all) o.all in
              let d = edit_in low high base top within free.1 es us.values parts.0 parts.1 under a o.all o.sound in
              let x = stands_in_value names bytes q old within in
              let put = put_label m vs i inner path u new x.value old (is_made ∙ ap Some eu) x.there x.inner through_is in
              let apart = λ (b : (low ≤ w) × (w + n ≤ end_after low rs)). own_agrees bytes others w n spares p (f.outside w n (inl (let y = b.1 in omega arith))) in
              let alike : content_of names others p ≡ plain m ps =
              ⊎_elim (λ j. kept_plain bytes others w n spares names p e j) (λ b. stable_plain bytes others names p (apart b) e) d.lies in
              let made_is = ap (λ y. made m (change_in i (λ z. put_at inner new z) y)) (sym us.values) ∙ put.is_made in
              let there = d.there in
              let numbers = λ (x : m ≡ second). same_numbers bytes others ps o.vs (change_in i (λ z. put_at inner new z) o.vs) (numbers_first names bytes o.all) (numbers_first names others there.all)
              (numbers_stay (λ z. put_at inner new z) m o.vs vs i inner path x through_is) in
              record {
                lies = ⊎_elim (λ j. inl (own_up names bytes w n p e j)) (λ b. inr b) d.lies;
                there = record {
                  holds = holds_plain alike o.legal there.all made_is;
                  sound = (table_still bytes others names p u (put_at path new u) e alike there.seen_bytes numbers (keys_avoided p ps vs i inner path m new u free.0 through_is) o.here, there.sound);
                  seen_bytes = plain_seen bytes others names p e;
                };
              }
          edit {level = level} {inside = inside} {p = p} {u = u} {path = path} {rs = rs} {before = before} {after = after} low high base top (stands_claimed {inner = inner} {s = s} {l = m} {ps = ps} {vs = vs} {i = i} e within is_made through_is) free es eu f under a h k =
              let o = claimed_tables names bytes e h k in
              let both = narrow low high o.within (region_of s level ∷ []) rs o.regions_are a in
              let next = one_follows (end_after low o.within) high s level both.0.1 in
              let total = both.1 in
              let parts = claimed_parts names bytes base top p f e in
              let t = stands_all names bytes q old within in
              let us = one_list names bytes o.vs o.within after (subst (λ b. HoldAll names bytes (suc level) inside ps vs t.regions b t.after) es t.all) o.all in
              let d = edit_in low high s.start (s.start + s.size) within free.1 es us.values parts.fits parts.separate next.0 both.0.0 o.all o.sound in
              let x = stands_in_value names bytes q old within in
              let put = put_label m vs i inner path u new x.value old (is_made ∙ ap Some eu) x.there x.inner through_is in
              let grows = end_after-grows low high o.within both.0.0 in
              let apart = λ (b : (low ≤ w) × (w + n ≤ end_after low o.within)). own_agrees bytes others w n spares p (f.outside w n (inl (let y = b.1 in omega arith))) in
              let here = λ (b : (low ≤ w) × (w + n ≤ end_after low o.within)). spares.outside s.start s.size (inl (let y = b.1 in omega arith)) in
              let alike : content_of names others p ≡ claimed s m ps =
              ⊎_elim (λ j. kept_claimed bytes others w n spares names p e j) (λ b. stable_claimed bytes others names p (apart b) (here b) e) d.lies in
              let seen = ⊎_elim (λ j. claimed_seen bytes others names p e alike (λ target len cap it is. controls_alike bytes others w n spares names target len cap it (subst (λ y. content_of names bytes y ≡ claimed s m ps) is e) j)) (λ b. span_seen bytes others names p e alike (here b)) d.lies in
              let made_is = ap (λ y. made m (change_in i (λ z. put_at inner new z) y)) (sym us.values) ∙ put.is_made in
              let there = d.there in
              record {
                lies = ⊎_elim (λ j. let range = any_fits w n s.start (s.start + s.size) ps parts.fits j in inr (omega arith, omega arith)) (λ b. let b0 = b.0 in let b1 = b.1 in inr (omega arith, omega arith)) d.lies;
                there = record { holds = holds_claimed alike o.legal there.all made_is o.regions_are; sound = there.sound; seen_bytes = seen };
              }

          edit_in :
              {level : ℕ} {inside : List OpenShared} {ps : List Part} {vs us : Values} {i : ℕ} {path : List ℕ} {rs : List Region} {since before after : List Visit} (low high base top : ℕ)
              → (stands : StandsIn names bytes q old level inside since ps vs i path)
              → AvoidKeys stands
              → since ≡ before
              → vs ≡ us
              → AllFit base top ps
              → Separate ps
              → end_after low rs ≤ base
              → Ascends low high rs
              → (all : HoldAll names bytes level inside ps us rs before after)
              → AreTablesSound all
              → EditedAll level inside ps (change_in i (λ x. put_at path new x) us) rs before after low
          edit_in {level = level} {inside = inside} {path = path} {rs = rs} {before = before} {after = after} low high base top (stands_first {p = p} {ps = ps} {v = v} {vs = vs} stands holds rest_holds is zero_is) free es eu (AllFit.fit_more f fs) (Separate.sep_more apart sep) under a (holds_more {v = u} {vs = us} {here = here} {later = later} {between = between} h hs e r) k =
              let both = narrow low high here later rs r a in
              let total = both.1 in
              let grows = end_after-grows (end_after low here) high later both.0.1 in
              let pair : more_values v vs ≡ more_values u us = sym is ∙ eu ∙ e in
              let alike : v ≡ u = cc in
              let d = edit low high base top stands free es alike f (omega arith) both.0.0 h k.0 in
              let first = d.there in
              let own = all_own bytes others w n spares base top p ps fs (⊎_elim (λ i. inl (i, apart)) (λ b. inr (let b1 = b.1 in omega arith)) d.lies) in
              let claims = regions_agree bytes others w n spares (end_after low here) high later both.0.1 (⊎_elim (λ i. let b = f.inside w n i in inr (omega arith)) (λ b. inl b.1) d.lies) in
              let rest = framed_all bytes others names own claims hs k.1 in
              record {
                lies = ⊎_elim (λ i. inl (any_here i)) (λ b. let b1 = b.1 in inr (b.0, omega arith)) d.lies;
                there = record { all = holds_more first.holds rest.all (ap₂ (λ j x. change_in j (λ y. put_at path new y) x) zero_is e) r; sound = (first.sound, rest.sound); seen_bytes = first.seen_bytes };
              }
          edit_in {level = level} {inside = inside} {path = path} {rs = rs} {before = before} {after = after} low high base top (stands_later {between = since_then} {p = p} {ps = ps} {v = v} {vs = vs} {here = claims_there} {i = i} holds stands is suc_is) free es eu (AllFit.fit_more f fs) (Separate.sep_more apart sep) under a (holds_more {v = u} {vs = us} {here = here} {later = later} {between = between} h hs e r) k =
              let both = narrow low high here later rs r a in
              let total = both.1 in
              let first_grows = end_after-grows low high here both.0.0 in
              let grows = end_after-grows (end_after low here) high later both.0.1 in
              let pair : more_values v vs ≡ more_values u us = sym is ∙ eu ∙ e in
              let alike : vs ≡ us = cc in
              let reached = (one_value names bytes u here between (subst (λ b. Holds names bytes level inside p v claims_there b since_then) es holds) h).after in
              let d = edit_in (end_after low here) high base top stands free reached alike fs sep (omega arith) both.0.1 hs k.1 in
              let rest = d.there in
              let own = own_agrees bytes others w n spares p (⊎_elim (λ i. any_apart w n p ps apart i) (λ b. f.outside w n (inl (let b1 = b.1 in omega arith))) d.lies) in
              let claims = regions_agree bytes others w n spares low high here both.0.0 (⊎_elim (λ i. let b = any_fits w n base top ps fs i in inr (omega arith)) (λ b. inr b.0) d.lies) in
              let first = framed bytes others names own claims h k.0 in
              record {
                lies = ⊎_elim (λ i. inl (any_later i)) (λ b. let b0 = b.0 in let b1 = b.1 in inr (omega arith, omega arith)) d.lies;
                there = record { all = holds_more first.holds rest.all (ap₂ (λ j x. change_in j (λ y. put_at path new y) x) suc_is e) r; sound = (first.sound, rest.sound); seen_bytes = first.seen_bytes };
              }

        -- the root, with the window at the leaf
        edit_root : {pos : ℕ} {s : Shape} {v : Value} {path : List ℕ} {regions : List Region} {visits : List Visit} (root : HasRoot names bytes pos s v regions visits)
            → TablesSound root.holds
            → (stands : Stands names bytes q old 0 [] [] (behind pos (sized s) 1) v path)
            → AvoidsKeys stands
            → OtherTables bytes others names 0 [] (behind pos (sized s) 1) (put_at path new v) regions [] visits
        edit_root {pos = pos} {s = s} {regions = regions} root sound stands free =
            let base = end_after 0 regions in
            (edit 0 (length bytes) base base stands free refl refl (behind_fits base base pos (sized s) 1) (le_refl base) root.ascends root.holds sound).there

-- ---- the two leaves

module _ (names : Names) (bytes others : List ℕ) (pos : ℕ) (s : Shape) (v : Value) (regions : List Region) (visits : List Visit) (path : List ℕ)
    (root : HasRoot names bytes pos s v regions visits) (sound : TablesSound root.holds) where
  abbrev Kept : Value → Type 0
  Kept new = OtherTables bytes others names 0 [] (behind pos (sized s) 1) (put_at path new v) regions [] visits

  pub leaf_edited : (leaf_pos : ℕ) (leaf_shape : Shape) (old new : Value) (was is : Label)
      → (stands : Stands names bytes (at leaf_pos leaf_shape) old 0 [] [] (behind pos (sized s) 1) v path)
      → AvoidsKeys stands
      → Spares bytes others leaf_pos (size_of leaf_shape)
      → content_of names bytes (at leaf_pos leaf_shape) ≡ plain was []
      → content_of names others (at leaf_pos leaf_shape) ≡ plain is []
      → IsLegal is
      → made is no_values ≡ Some new
      → IsTableSound others (at leaf_pos leaf_shape) new
      → Kept new
  leaf_edited leaf_pos leaf_shape old new k l stands free spares was is legal makes own =
      edit_root names bytes others leaf_pos (size_of leaf_shape) (at leaf_pos leaf_shape) old new spares in_place root sound stands free
    where
      in_place : (level : ℕ) (inside : List OpenShared) (p : Part) (u : Value) (rs : List Region) (before after : List Visit) (low high : ℕ)
          → p ≡ at leaf_pos leaf_shape → u ≡ old → Ascends low high rs → Holds names bytes level inside p u rs before after
          → Edited names bytes others leaf_pos (size_of leaf_shape) (at leaf_pos leaf_shape) old new spares level inside p new rs before after low
      in_place level inside p u rs before after low high ep eu a h =
          let o = by_plain names bytes (ap (content_of names bytes) ep ∙ was) h in
          let none = of_none o.all in
          record {
            lies = inl (subst (λ y. InOwn leaf_pos (size_of leaf_shape) y) (sym ep) (le_refl leaf_pos, le_refl _));
            there = record {
              holds = holds_plain (ap (content_of names others) ep ∙ is) legal (holds_none refl none.0 none.1) makes;
              sound = (subst (λ y. IsTableSound others y new) (sym ep) own, tt);
              seen_bytes = subst (λ y. seen_bytes_of bytes y ≡ seen_bytes_of others y) (sym ep) refl;
            };
          }
        where
          of_none : {us : Values} → HoldAll names bytes level inside [] us rs before after → (rs ≡ []) × (after ≡ before)
          of_none (holds_none y z g) = (z, g)

  pub text_edited : (text_pos len : ℕ) (old : Value)
      → (stands : Stands names bytes (behind text_pos str len) old 0 [] [] (behind pos (sized s) 1) v path)
      → AvoidsKeys stands
      → Spares bytes others text_pos len
      → IsUtf8 (window others text_pos len)
      → Kept (string (window others text_pos len))
  unfolding pointee_content made
  text_edited text_pos len old stands free spares legal =
      edit_root names bytes others text_pos len (behind text_pos str len) old (string (window others text_pos len)) spares behind_it root sound stands free
    where
      behind_it : (level : ℕ) (inside : List OpenShared) (p : Part) (u : Value) (rs : List Region) (before after : List Visit) (low high : ℕ)
          → p ≡ behind text_pos str len → u ≡ old → Ascends low high rs → Holds names bytes level inside p u rs before after
          → Edited names bytes others text_pos len (behind text_pos str len) old (string (window others text_pos len)) spares level inside p (string (window others text_pos len)) rs before after low
      behind_it level inside p u rs before after low high ep eu a h =
          let span : Span = record { start = text_pos; size = len; align = 1 } in
          let o = by_claimed names bytes {s = span} {l = Label.written (window bytes text_pos len)} {ps = []} (ap (content_of names bytes) ep) h in
          let none = of_none o.all in
          let own : Region = region_of span level in
          let alone : rs ≡ own ∷ [] = o.regions_are ∙ ap (λ b. b ++ own ∷ []) none.0 in
          let follows = one_follows low high span level (subst (Ascends low high) alone a) in
          record {
            lies = inr (follows.0, (let e = ap (end_after low) alone ∙ follows.1 in omega arith));
            there = record {
              holds = holds_claimed (ap (content_of names others) ep) legal (holds_none refl refl none.1) refl alone;
              sound = tt;
              seen_bytes = subst (λ y. seen_bytes_of bytes y ≡ seen_bytes_of others y) (sym ep) refl;
            };
          }
        where
          of_none : {us : Values} {within : List Region} → HoldAll names bytes (suc level) inside [] us within before after → (within ≡ []) × (after ≡ before)
          of_none (holds_none y z g) = (z, g)
