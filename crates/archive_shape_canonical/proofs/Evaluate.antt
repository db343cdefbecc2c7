-- Canonical archives found by running: a function that reads bytes and gives what they hold with the evidence that it
-- is canonical, by recursion on a number of steps. A proof by computation writes `archive_found .. refl` under the line
-- `unfolding run_canonical`.
use Rattle.std.proofs.Common.{◌≡◌, ℕ, zero, suc, ◌+◌, Bool, List, [], ◌∷◌, ◌++◌, length, slice_index, ◌≤◌, ◌<◌, ◌⊎◌, Option, Some, None, refl, ap, sym, subst, ◌∙◌}
use Rattle.archive_shape_layout.specs.Bytes.{align_up}
use Rattle.archive_shape_layout.specs.Shape.{Shape, Pointee}
use Rattle.archive_shape_layout.specs.Shape.Pointee.{sized}
use Rattle.archive_shape_layout.specs.Value.{Value, Values}
use Rattle.archive_shape_layout.specs.Value.Value.{counted}
use Rattle.archive_shape_layout.specs.Value.Values.{no_values, more_values}
use Rattle.archive_shape_layout.specs.Content.{Names, Part, Span, Label, Content, content_of, made, IsLegal}
use Rattle.archive_shape_layout.specs.Content.Part.{behind}
use Rattle.archive_shape_layout.specs.Content.Content.{illegal, plain, claimed, counting}
use Rattle.archive_shape_layout.specs.Holds.{Region, region_of, Visit, OpenShared, visited, open_at, Ascends, HoldAll}
use Rattle.archive_shape_layout.specs.Holds.Holds.{holds_plain, holds_claimed, holds_first, holds_later}
use Rattle.archive_shape_layout.specs.Holds.HoldAll.{holds_none, holds_more}
use Rattle.archive_shape_layout.proofs.Evaluate.{Reading, run}
use Rattle.archive_shape_canonical.specs.Clean.{IsClean}
use Rattle.archive_shape_canonical.specs.Settled.{Fit, IsSettled}
use Rattle.archive_shape_canonical.specs.Sharing.{end_of_shared, AreDistinct}
use Rattle.archive_shape_canonical.specs.Strides.{least_power, stop, strides_from, strides, places_for}
use Rattle.archive_shape_canonical.specs.FirstFit.{hash_tag, written_controls}
use Rattle.archive_shape_canonical.specs.Canonical.{end_of_all, AreCanonical, InRegions, CanonicalArchive}
use Rattle.archive_shape_canonical.specs.Laws.{CanonicalIn}
use Rattle.archive_shape_canonical.proofs.CleanTests.{turned, carried, number_test, Known, known, clean_test}
use Rattle.archive_shape_canonical.proofs.ChoiceTests.{visit_at, visit_test, settled_test, legal_test, distinct_test, ascends_test, gaps_test, bytes_test}

module _ (fit : Fit) (names : Names) (bytes : List ℕ) where
  -- what a part holds, where what is claimed with it ends, and that it is canonical
  pub record Found (level : ℕ) (inside : List OpenShared) (low : ℕ) (p : Part) (before : List Visit) : Type 0 where
    pub value : Value
    pub regions : List Region
    pub after : List Visit
    pub end : ℕ
    pub is : CanonicalIn fit names bytes level inside p value regions before after low end

  -- the same of parts one after the other
  pub record FoundAll (level : ℕ) (inside : List OpenShared) (low : ℕ) (ps : List Part) (before : List Visit) : Type 0 where
    pub values : Values
    pub regions : List Region
    pub after : List Visit
    pub end : ℕ
    pub holds : HoldAll names bytes level inside ps values regions before after
    pub canonical : AreCanonical fit holds low
    pub ends : end_of_all holds low ≡ end

  abbrev pub PartFinder : Type 0
  PartFinder = (level : ℕ) (inside : List OpenShared) (low : ℕ) (p : Part) (before : List Visit) → Option (Found level inside low p before)

  abbrev pub ListFinder : Type 0
  ListFinder = (level : ℕ) (inside : List OpenShared) (low : ℕ) (ps : List Part) (before : List Visit) → Option (FoundAll level inside low ps before)

  -- ---- what is found, of what is found in it

  abbrev pub found_none : (level : ℕ) (inside : List OpenShared) (low : ℕ) (before : List Visit) → FoundAll level inside low [] before
  found_none level inside low before =
      record { values = no_values; regions = []; after = before; end = low; holds = holds_none refl refl refl; canonical = tt; ends = refl }

  abbrev pub found_more : (level : ℕ) (inside : List OpenShared) (low : ℕ) (p : Part) (ps : List Part) (before : List Visit)
      → (f : Found level inside low p before) → FoundAll level inside f.end ps f.after → FoundAll level inside low (p ∷ ps) before
  found_more level inside low p ps before f g =
      record {
        values = more_values f.value g.values;
        regions = f.regions ++ g.regions;
        after = g.after;
        end = g.end;
        holds = holds_more f.is.holds g.holds refl refl;
        canonical = (f.is.canonical, more_canonical g.holds f.is.ends g.canonical);
        ends = ap (end_of_all g.holds) f.is.ends ∙ g.ends;
      }
    where
      more_canonical : {m n : ℕ} {vs : Values} {rs : List Region} {from to : List Visit} → (h : HoldAll names bytes level inside ps vs rs from to) → m ≡ n → AreCanonical fit h n → AreCanonical fit h m
      more_canonical h e c = subst (AreCanonical fit h) (sym e) c

  abbrev pub found_plain : (level : ℕ) (inside : List OpenShared) (low : ℕ) (p : Part) (before : List Visit) (l : Label) (ps : List Part)
      → content_of names bytes p ≡ plain l ps → IsClean names bytes p → IsLegal l → (f : FoundAll level inside low ps before) → Known (made l f.values) → IsSettled fit bytes p ps f.values
      → Found level inside low p before
  found_plain level inside low p before l ps e clean legal f m settled =
      record { value = m.it; regions = f.regions; after = f.after; end = f.end; is = record { holds = holds_plain e legal f.holds m.is; canonical = (clean, settled, f.canonical); ends = f.ends } }

  abbrev pub found_claimed : (level : ℕ) (inside : List OpenShared) (low : ℕ) (p : Part) (before : List Visit) (s : Span) (l : Label) (ps : List Part)
      → content_of names bytes p ≡ claimed s l ps → IsClean names bytes p → IsLegal l → (f : FoundAll (suc level) inside low ps before) → Known (made l f.values) → IsSettled fit bytes p ps f.values
      → s.start ≡ align_up f.end s.align → Found level inside low p before
  found_claimed level inside low p before s l ps e clean legal f m settled placed =
      record {
        value = m.it;
        regions = f.regions ++ region_of s level ∷ [];
        after = f.after;
        end = s.start + s.size;
        is = record {
          holds = holds_claimed e legal f.holds m.is refl;
          canonical = (clean, settled, f.canonical, placed ∙ ap (λ n. align_up n s.align) (sym f.ends));
          ends = refl;
        };
      }

  abbrev pub found_first : (level : ℕ) (inside : List OpenShared) (low : ℕ) (p : Part) (before : List Visit) (cyclic : Bool) (t : ℕ) (q : Pointee) (len : ℕ)
      → content_of names bytes p ≡ counting cyclic t q len → IsClean names bytes p → open_at inside t ≡ None → visited before t ≡ None
      → Found level (record { pos = t; pointee = q; len = len } ∷ inside) low (behind t q len) before
      → Found level inside low p before
  found_first level inside low p before cyclic t q len e clean x y f =
      record {
        value = counted t f.value;
        regions = f.regions;
        after = visit_at t q len f.value ∷ f.after;
        end = end_of_shared t f.end;
        is = record { holds = holds_first e x y f.is.holds refl refl; canonical = (clean, f.is.canonical); ends = ap (end_of_shared t) f.is.ends };
      }

  abbrev pub found_later : (level : ℕ) (inside : List OpenShared) (low : ℕ) (p : Part) (before : List Visit) (cyclic : Bool) (t : ℕ) (q : Pointee) (len : ℕ) (w : Visit)
      → content_of names bytes p ≡ counting cyclic t q len → IsClean names bytes p → open_at inside t ≡ None → visited before t ≡ Some w → w ≡ visit_at t q len w.value
      → Found level inside low p before
  found_later level inside low p before cyclic t q len w e clean x y same =
      record { value = counted t w.value; regions = []; after = before; end = low; is = record { holds = holds_later e x (y ∙ ap Some same) refl refl refl; canonical = clean; ends = refl } }

  -- ---- by the content of a part

  unfoldable pub find_counted : PartFinder → (level : ℕ) (inside : List OpenShared) (low : ℕ) (p : Part) (before : List Visit) (cyclic : Bool) (t : ℕ) (q : Pointee) (len : ℕ)
      → content_of names bytes p ≡ counting cyclic t q len → IsClean names bytes p
      → (o : Option OpenShared) → open_at inside t ≡ o → (w : Option Visit) → visited before t ≡ w
      → Option (Found level inside low p before)
  find_counted one level inside low p before cyclic t q len e clean (Some o) x w y = None
  find_counted one level inside low p before cyclic t q len e clean None x None y =
      turned (found_first level inside low p before cyclic t q len e clean x y) (one level (record { pos = t; pointee = q; len = len } ∷ inside) low (behind t q len) before)
  find_counted one level inside low p before cyclic t q len e clean None x (Some w) y =
      turned (found_later level inside low p before cyclic t q len w e clean x y) (visit_test w t q len)

  unfoldable pub find_content : PartFinder → ListFinder → (level : ℕ) (inside : List OpenShared) (low : ℕ) (p : Part) (before : List Visit) (c : Content)
      → content_of names bytes p ≡ c → IsClean names bytes p → Option (Found level inside low p before)
  find_content one all level inside low p before illegal e clean = None
  find_content one all level inside low p before (plain l ps) e clean =
      carried (legal_test l) (λ legal. carried (all level inside low ps before) (λ f. carried (known (made l f.values)) (λ m.
      turned (found_plain level inside low p before l ps e clean legal f m) (settled_test fit bytes p ps f.values))))
  find_content one all level inside low p before (claimed s l ps) e clean =
      carried (legal_test l) (λ legal. carried (all (suc level) inside low ps before) (λ f. carried (known (made l f.values)) (λ m. carried (settled_test fit bytes p ps f.values) (λ settled.
      turned (found_claimed level inside low p before s l ps e clean legal f m settled) (number_test s.start (align_up f.end s.align))))))
  find_content one all level inside low p before (counting cyclic t q len) e clean =
      find_counted one level inside low p before cyclic t q len e clean (open_at inside t) refl (visited before t) refl

  unfoldable pub find_clean : PartFinder → ListFinder → (level : ℕ) (inside : List OpenShared) (low : ℕ) (p : Part) (before : List Visit) (c : Content)
      → content_of names bytes p ≡ c → Option (Found level inside low p before)
  find_clean one all level inside low p before c e = carried (clean_test names bytes p c e) (find_content one all level inside low p before c e)

  unfoldable mutual
    pub find_part : ℕ → PartFinder
    find_part zero level inside low p before = None
    find_part (suc fuel) level inside low p before =
        find_clean (λ l i a r w. find_part fuel l i a r w) (λ l i a rs w. find_all fuel l i a rs w) level inside low p before (content_of names bytes p) refl

    pub find_all : ℕ → ListFinder
    find_all zero level inside low ps before = None
    find_all (suc fuel) level inside low [] before = Some (found_none level inside low before)
    find_all (suc fuel) level inside low (p ∷ ps) before =
        carried (find_part fuel level inside low p before) (λ f. turned (found_more level inside low p ps before f) (find_all fuel level inside f.end ps f.after))

  -- ---- archives

  pub record FoundArchive (start pos : ℕ) (s : Shape) : Type 0 where
    pub value : Value
    pub regions : List Region
    pub visits : List Visit
    pub is : CanonicalArchive fit names bytes start pos s value regions visits

  abbrev pub found_archive : (start pos : ℕ) (s : Shape) → (f : Found 0 [] start (behind pos (sized s) 1) [])
      → Ascends 0 (length bytes) f.regions → f.end ≡ length bytes → ((i : ℕ) → start ≤ i → InRegions f.regions i ⊎ (slice_index bytes i ≡ 0)) → AreDistinct f.after
      → ((i : ℕ) → slice_index bytes i < 256) → FoundArchive start pos s
  found_archive start pos s f ascends ends gaps once small =
      record {
        value = f.value;
        regions = f.regions;
        visits = f.after;
        is = record {
          root = record { holds = f.is.holds; ascends = ascends };
          canonical = f.is.canonical;
          ends = f.is.ends ∙ ends;
          gaps = gaps;
          once = once;
          bytes_are = small;
        };
      }

  unfoldable pub find_archive : ℕ → (start pos : ℕ) (s : Shape) → Option (FoundArchive start pos s)
  find_archive fuel start pos s =
      carried (find_part fuel 0 [] start (behind pos (sized s) 1) []) (λ f.
      carried (ascends_test 0 (length bytes) f.regions) (λ ascends. carried (number_test f.end (length bytes)) (λ ends.
      carried (gaps_test f.regions bytes start) (λ gaps. carried (distinct_test f.after) (λ once.
      turned (found_archive start pos s f ascends ends gaps once) (bytes_test bytes))))))

  -- without the evidence
  unfoldable pub archive_read : (start pos : ℕ) (s : Shape) → Option (FoundArchive start pos s) → Option Reading
  archive_read start pos s None = None
  archive_read start pos s (Some a) = Some (record { value = a.value; regions = a.regions; after = a.visits })

  -- what is found is canonical
  pub archive_found : (fuel start pos : ℕ) (s : Shape) (v : Value) (rs : List Region) (visits : List Visit)
      → archive_read start pos s (find_archive fuel start pos s) ≡ Some (record { value = v; regions = rs; after = visits })
      → CanonicalArchive fit names bytes start pos s v rs visits
  unfolding archive_read
  archive_found fuel start pos s v rs visits e = by_found (find_archive fuel start pos s) e
    where
      by_found : (o : Option (FoundArchive start pos s)) → archive_read start pos s o ≡ Some (record { value = v; regions = rs; after = visits })
          → CanonicalArchive fit names bytes start pos s v rs visits
      by_found None e = absurd (cc)
      by_found (Some a) e =
          let read : ◌≡◌ {A = Reading} (record { value = a.value; regions = a.regions; after = a.visits }) (record { value = v; regions = rs; after = visits }) = cc in
          let is_value : a.value ≡ v = ap (λ (r : Reading). r.value) read in
          let is_regions : a.regions ≡ rs = ap (λ (r : Reading). r.regions) read in
          let is_visits : a.visits ≡ visits = ap (λ (r : Reading). r.after) read in
          subst (λ x. CanonicalArchive fit names bytes start pos s v rs x) is_visits
          (subst (λ x. CanonicalArchive fit names bytes start pos s v x a.visits) is_regions
          (subst (λ x. CanonicalArchive fit names bytes start pos s x a.regions a.visits) is_value a.is))

-- all that a run opens: a proof by computation names this one
unfoldable pub run_canonical : ℕ
unfolding run least_power stop strides_from strides places_for hash_tag written_controls clean_test visit_test settled_test legal_test distinct_test ascends_test gaps_test bytes_test find_counted find_content find_clean find_part find_all find_archive archive_read
run_canonical = 0
