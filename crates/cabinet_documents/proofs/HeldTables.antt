-- That the tables in what holds are sound, and that they stay so where a part's own bytes and those that it claims stay.
use Rattle.std.proofs.Common.{◌≡◌, ℕ, zero, suc, ◌+◌, ◌-◌, ◌*◌, Bool, true, List, [], ◌∷◌, ◌++◌, drop, slice_index, Some, refl, sym, ap, ap₂, subst, ◌∙◌, ◌⊎◌, inl, inr}
use Rattle.std.specs.Prelude.{⊤}
use Rattle.archive_shape_layout.specs.Bytes.{window, word_at}
use Rattle.archive_shape_layout.specs.Shape.{Shape, Pointee}
use Rattle.archive_shape_layout.specs.Shape.Shape.{table, index_map}
use Rattle.archive_shape_layout.specs.Shape.Pointee.{slice}
use Rattle.archive_shape_layout.specs.Value.{Value, Values}
use Rattle.archive_shape_layout.specs.Value.Value.{string, group, chosen}
use Rattle.archive_shape_layout.specs.Value.Values.{no_values, more_values}
use Rattle.archive_shape_layout.specs.Content.{Names, Part, Label, Span, Item, place, content_of, made, members, item, IsLegal, control_count, item_size, words_of, link_node_size, shape_content, child_content, place_content}
use Rattle.archive_shape_layout.specs.Content.Part.{at, behind, node, child, entry, buckets, place_at}
use Rattle.archive_shape_layout.specs.Content.Label.{same, second}
use Rattle.archive_shape_layout.specs.Content.Content.{plain, claimed, counting}
use Rattle.archive_shape_layout.specs.Holds.{Region, region_of, Visit, OpenShared, Holds, HoldAll}
use Rattle.archive_shape_layout.specs.Holds.Holds.{holds_plain, holds_claimed, holds_first, holds_later, holds_back}
use Rattle.archive_shape_layout.specs.Holds.HoldAll.{holds_none, holds_more}
use Rattle.archive_shape_layout.specs.Laws.{OwnAgrees, RegionsAgree}
use Rattle.archive_shape_layout.specs.Path.{change_in, put_at, through, value_in}
use Rattle.archive_shape_canonical.specs.Seen.{seen_bytes_of, first_seen_bytes}
use Rattle.archive_shape_canonical.specs.Laws.{IsBehindKey}
use Rattle.archive_forms_values.specs.Tuples.{tuple2}
use Rattle.archive_shape_layout.proofs.Framed.{AllOwn, own_more, Settled, plain_own, claimed_own, settled, one_region, stable_plain, stable_claimed, RegionsAgree-append, frame}
use Rattle.archive_shape_layout.proofs.Paths.{path_is}
use Rattle.archive_shape_layout.proofs.Places.{Laid, pointee_laid, behind_span, node_laid, node_high, buckets_laid}
use Rattle.archive_shape_canonical.proofs.Kept.{plain_seen, counting_seen, span_seen}
use Rattle.cabinet_documents.specs.Table.{Table, Findable, hashed_at, kept_at, table_of, item_keys, key_of}
use Rattle.cabinet_documents.proofs.EntryNumbers.{first_numbers, numbers_first, same_numbers}
use Rattle.cabinet_documents.proofs.TableSound.{IsTableSound, TableCase, is_table, is_index, is_none, table_case, BucketsRead, reads_none, reads_buckets, table_direct, table_read, index_direct, index_read, no_table, led_table}
use Rattle.cabinet_documents.proofs.Tables.{hashed_table, kept_table, numbers_at, kept_read}
use Rattle.cabinet_documents.proofs.Walkable.{IsDirect}

abbrev mutual
  -- each table is sound where it is first visited
  pub TablesSound : {names : Names} {bytes : List ℕ} {level : ℕ} {inside : List OpenShared} {p : Part} {v : Value} {regions : List Region} {before after : List Visit}
      → Holds names bytes level inside p v regions before after → Type 0
  TablesSound {bytes = bytes} {p = p} {v = v} (holds_plain e legal all m) = IsTableSound bytes p v × AreTablesSound all
  TablesSound (holds_claimed e legal all m r) = AreTablesSound all
  TablesSound (holds_first e a b h d g) = TablesSound h
  TablesSound (holds_later e a b d g h) = ⊤
  TablesSound (holds_back e a d g h) = ⊤

  pub AreTablesSound : {names : Names} {bytes : List ℕ} {level : ℕ} {inside : List OpenShared} {ps : List Part} {vs : Values} {regions : List Region} {before after : List Visit}
      → HoldAll names bytes level inside ps vs regions before after → Type 0
  AreTablesSound (holds_none e f g) = ⊤
  AreTablesSound (holds_more h hs e r) = TablesSound h × AreTablesSound hs

-- ---- by a part's content

-- what claims bytes is no table, nor is a counted pointer
no_table_sound : (names : Names) (bytes : List ℕ) (p : Part) (v : Value) → (IsDirect (content_of names bytes p) → ⊥) → IsTableSound bytes p v
no_table_sound names bytes p v indirect = by_case (table_case p)
  where
    not_direct : {q : Part} → p ≡ q → IsDirect (content_of names bytes q) → IsTableSound bytes p v
    not_direct f d = absurd (indirect (subst (λ q. IsDirect (content_of names bytes q)) (sym f) d))

    by_case : TableCase p → IsTableSound bytes p v
    by_case (is_none t same_sound) = t bytes v
    by_case (is_table pos r f) = not_direct f (table_direct bytes names pos r)
    by_case (is_index pos k r f) = not_direct f (index_direct bytes names pos k r)

pub claimed_sound : (names : Names) (bytes : List ℕ) (p : Part) (v : Value) {s : Span} {l : Label} {ps : List Part} → content_of names bytes p ≡ claimed s l ps → IsTableSound bytes p v
claimed_sound names bytes p v e = no_table_sound names bytes p v (λ d. subst IsDirect e d)

pub counted_sound : (names : Names) (bytes : List ℕ) (p : Part) (v : Value) {cyclic : Bool} {t len : ℕ} {q : Pointee} → content_of names bytes p ≡ counting cyclic t q len → IsTableSound bytes p v
counted_sound names bytes p v e = no_table_sound names bytes p v (λ d. subst IsDirect e d)

module _ (names : Names) (bytes : List ℕ) where
  pub record PlainTables (level : ℕ) (inside : List OpenShared) (p : Part) (l : Label) (ps : List Part) (v : Value) (rs : List Region) (before after : List Visit) : Type 0 where
    pub vs : Values
    pub legal : IsLegal l
    pub all : HoldAll names bytes level inside ps vs rs before after
    pub is_made : made l vs ≡ Some v
    pub here : IsTableSound bytes p v
    pub sound : AreTablesSound all

  pub record ClaimedTables (level : ℕ) (inside : List OpenShared) (s : Span) (l : Label) (ps : List Part) (v : Value) (rs : List Region) (before after : List Visit) : Type 0 where
    pub vs : Values
    pub within : List Region
    pub legal : IsLegal l
    pub all : HoldAll names bytes (suc level) inside ps vs within before after
    pub is_made : made l vs ≡ Some v
    pub regions_are : rs ≡ within ++ region_of s level ∷ []
    pub sound : AreTablesSound all

  pub plain_tables : {level : ℕ} {inside : List OpenShared} {p : Part} {l : Label} {ps : List Part} {v : Value} {rs : List Region} {before after : List Visit}
      → content_of names bytes p ≡ plain l ps → (h : Holds names bytes level inside p v rs before after) → TablesSound h → PlainTables level inside p l ps v rs before after
  plain_tables {level = level} {inside = inside} {p = p} {l = l} {ps = ps} {v = v} {rs = rs} {before = before} {after = after} e (holds_plain {l = l'} {ps = ps'} {vs = vs} f legal all m) n =
      let el : l' ≡ l = cc in
      let ep : ps' ≡ ps = cc in
      let here : PlainTables level inside p l' ps' v rs before after = record { vs = vs; legal = legal; all = all; is_made = m; here = n.0; sound = n.1 } in
      subst (λ x. PlainTables level inside p l x v rs before after) ep (subst (λ x. PlainTables level inside p x ps' v rs before after) el here)
  plain_tables e (holds_claimed f legal all m r) n = absurd (cc)
  plain_tables e (holds_first f a b h d g) n = absurd (cc)
  plain_tables e (holds_later f a b d g h) n = absurd (cc)
  plain_tables e (holds_back f a b c d) n = absurd (cc)

  pub claimed_tables : {level : ℕ} {inside : List OpenShared} {p : Part} {s : Span} {l : Label} {ps : List Part} {v : Value} {rs : List Region} {before after : List Visit}
      → content_of names bytes p ≡ claimed s l ps → (h : Holds names bytes level inside p v rs before after) → TablesSound h → ClaimedTables level inside s l ps v rs before after
  claimed_tables e (holds_plain f legal all m) n = absurd (cc)
  claimed_tables {level = level} {inside = inside} {s = s} {l = l} {ps = ps} {v = v} {rs = rs} {before = before} {after = after} e (holds_claimed {within = within} {s = s'} {l = l'} {ps = ps'} {vs = vs} f legal all m r) n =
      let es : s' ≡ s = cc in
      let el : l' ≡ l = cc in
      let ep : ps' ≡ ps = cc in
      let here : ClaimedTables level inside s' l' ps' v rs before after = record { vs = vs; within = within; legal = legal; all = all; is_made = m; regions_are = r; sound = n } in
      subst (λ x. ClaimedTables level inside s l x v rs before after) ep (subst (λ x. ClaimedTables level inside s x ps' v rs before after) el (subst (λ x. ClaimedTables level inside x l' ps' v rs before after) es here))
  claimed_tables e (holds_first f a b h d g) n = absurd (cc)
  claimed_tables e (holds_later f a b d g h) n = absurd (cc)
  claimed_tables e (holds_back f a b c d) n = absurd (cc)

-- ---- the keys of a map's items stay where a value other than a key changes

key_stays : (j : ℕ) (path : List ℕ) (new : Value) (v : Value) → key_of (put_at (suc j ∷ path) new v) ≡ key_of v
key_stays j path new (group no_values) = refl
key_stays j path new (group (more_values (string k) vs)) = refl
key_stays j path new (group (more_values u vs)) = refl
key_stays j path new (chosen t vs) = refl
key_stays j path new v = refl

keys_stay : (i j : ℕ) (path : List ℕ) (new : Value) (vs : Values) → item_keys (change_in i (λ x. put_at (suc j ∷ path) new x) vs) ≡ item_keys vs
keys_stay i j path new no_values = refl
keys_stay zero j path new (more_values v vs) = ap (λ k. k ∷ item_keys vs) (key_stays j path new v)
keys_stay (suc i) j path new (more_values v vs) = ap (λ ks. key_of v ∷ ks) (keys_stay i j path new vs)

pub keys_behind : (path : List ℕ) (new : Value) (v : Value) → IsBehindKey path → item_keys (members v) ≡ item_keys (members (put_at path new v))
keys_behind [] new v h = absurd h
keys_behind (i ∷ []) new v h = absurd h
keys_behind (i ∷ (zero ∷ path)) new v h = absurd h
keys_behind (i ∷ (suc j ∷ path)) new (group vs) h = sym (keys_stay i j path new vs)
keys_behind (i ∷ (suc j ∷ path)) new v h = refl

-- ---- a step to the buckets of a table, or to the entries behind its numbers

abbrev pub IsToItems : Label → Type 0
IsToItems l = (l ≡ same) ⊎ (l ≡ second)

-- keeps the path
pub items_path : (l : Label) (vs : Values) (i : ℕ) (inner path : List ℕ) → IsToItems l → through l vs i inner ≡ Some path → inner ≡ path
items_path l vs i inner path (inl e) t = by_index i (subst (λ x. through x vs i inner ≡ Some path) e t)
  where
    by_index : (j : ℕ) → through same vs j inner ≡ Some path → inner ≡ path
    by_index zero f = path_is f
    by_index (suc j) f = absurd (cc)
items_path l vs i inner path (inr e) t = by_index i (subst (λ x. through x vs i inner ≡ Some path) e t)
  where
    by_index : (j : ℕ) → through second vs j inner ≡ Some path → inner ≡ path
    by_index zero f = absurd (cc)
    by_index (suc zero) f = path_is f
    by_index (suc (suc j)) f = absurd (cc)

-- and the numbers
pub numbers_stay : (f : Value → Value) (l : Label) (us vs : Values) (i : ℕ) (inner path : List ℕ) → l ≡ second → through l vs i inner ≡ Some path → value_in 0 us ≡ value_in 0 (change_in i f us)
numbers_stay f l us vs i inner path e t = by_index us i (subst (λ x. through x vs i inner ≡ Some path) e t)
  where
    by_index : (us : Values) (j : ℕ) → through second vs j inner ≡ Some path → value_in 0 us ≡ value_in 0 (change_in j f us)
    by_index us zero g = absurd (cc)
    by_index no_values (suc j) g = refl
    by_index (more_values u us) (suc j) g = refl

-- ---- other bytes

module _ (bytes others : List ℕ) (names : Names) where
  -- tables to which the same pointer leads
  same_table : (kind : List ℕ → ℕ → List (List ℕ) → ℕ → Table) (pos : ℕ) (v w : Value) {last : Label} {it jt : Item} {rest more : List Part} {l : Label} {ps : List Part}
      → BucketsRead bytes pos last it rest l ps → BucketsRead others pos last jt more l ps
      → ((target len cap : ℕ) → l ≡ last → ps ≡ buckets target len cap it ∷ rest → kind bytes cap (item_keys (members v)) target ≡ kind others cap (item_keys (members w)) target)
      → table_of kind bytes pos v ≡ table_of kind others pos w
  same_table kind pos v w (reads_none e f z) (reads_none e' f' z') alike = no_table bytes kind pos v z ∙ sym (no_table others kind pos w z')
  same_table kind pos v w (reads_none e f z) (reads_buckets e' f' some leads) alike = absurd (cc)
  same_table kind pos v w (reads_buckets e f some leads) (reads_none e' f' z') alike = absurd (cc)
  same_table kind pos v w (reads_buckets {target = t} {len = n} e f some leads) (reads_buckets {target = t'} {len = n'} e' f' some' leads') alike =
      let places : word_at bytes (pos + 8) ≡ word_at others (pos + 8) = cc in
      let targets : t ≡ t' = cc in
      led_table bytes kind pos v some leads ∙ alike t n (word_at bytes (pos + 8)) e f ∙ ap₂ (λ m x. kind others m (item_keys (members w)) x) places targets ∙ sym (led_table others kind pos w some' leads')

  -- a table with the same content, the same controls, the same numbers and the same keys
  module _ (p : Part) (v w : Value) {l : Label} {ps : List Part}
      (e : content_of names bytes p ≡ plain l ps) (f : content_of names others p ≡ plain l ps)
      (seen : first_seen_bytes bytes ps ≡ first_seen_bytes others ps)
      (numbers : l ≡ second → first_numbers bytes ps ≡ first_numbers others ps)
      (keys : (pos : ℕ) (s : Shape) (target len cap : ℕ) (it : Item) (rest : List Part) → p ≡ at pos s → IsToItems l → ps ≡ buckets target len cap it ∷ rest → item_keys (members v) ≡ item_keys (members w))
    where
      controls : (target len cap : ℕ) (it : Item) (rest : List Part) → ps ≡ buckets target len cap it ∷ rest → window bytes target (control_count cap) ≡ window others target (control_count cap)
      controls target len cap it rest is = subst (λ x. first_seen_bytes bytes x ≡ first_seen_bytes others x) is seen

      hashed_still : (pos : ℕ) (s : Shape) → p ≡ at pos (table s) → table_of hashed_at bytes pos v ≡ table_of hashed_at others pos w
      hashed_still pos s g =
          same_table hashed_at pos v w (table_read bytes names pos s (ap (content_of names bytes) (sym g) ∙ e)) (table_read others names pos s (ap (content_of names others) (sym g) ∙ f))
          (λ target len cap label is. ap₂ (hashed_table cap) (controls target len cap (item s) [] is) (keys pos (table s) target len cap (item s) [] g (inl label) is))

      kept_still : (pos : ℕ) (k s : Shape) → p ≡ at pos (index_map k s) → table_of kept_at bytes pos v ≡ table_of kept_at others pos w
      kept_still pos k s g =
          let was = index_read bytes names pos k s (ap (content_of names bytes) (sym g) ∙ e) in
          let is = index_read others names pos k s (ap (content_of names others) (sym g) ∙ f) in
          let n = word_at bytes (pos + 4) in
          let entries = behind was.start (slice (tuple2 k s)) n ∷ [] in
          same_table kept_at pos v w was.read is.read
          (λ target len cap label parts.
          let ns : numbers_at bytes target cap ≡ numbers_at others target cap = subst (λ x. first_numbers bytes x ≡ first_numbers others x) parts (numbers label) in
          let cs = controls target len cap (place n) entries parts in
          let ks = keys pos (index_map k s) target len cap (place n) entries g (inr label) parts in
          kept_read bytes cap (item_keys (members v)) target ∙ (λ i. kept_table cap (cs i) (ns i) (ks i)) ∙ sym (kept_read others cap (item_keys (members w)) target))

      pub table_still : IsTableSound bytes p v → IsTableSound others p w
      table_still h = by_case (table_case p)
        where
          by_case : TableCase p → IsTableSound others p w
          by_case (is_none t same_sound) = t others w
          by_case (is_table pos s g) = subst (λ x. IsTableSound others x w) (sym g) (subst Findable (hashed_still pos s g) (subst (λ x. IsTableSound bytes x v) g h))
          by_case (is_index pos k s g) = subst (λ x. IsTableSound others x w) (sym g) (subst Findable (kept_still pos k s g) (subst (λ x. IsTableSound bytes x v) g h))

  not_counting : {low high : ℕ} {cyclic : Bool} {t : ℕ} {q : Pointee} {len : ℕ} → Laid low high true (counting cyclic t q len) → ⊥
  not_counting h = elim h [ ]

  stable_counting : (p : Part) (cyclic : Bool) (t : ℕ) (q : Pointee) (len : ℕ) → OwnAgrees bytes others p → content_of names bytes p ≡ counting cyclic t q len → content_of names others p ≡ counting cyclic t q len
  stable_counting (at pos s) cyclic t q len own e = ap (λ w. shape_content names pos w s) (sym own) ∙ e
  stable_counting (behind pos r n) cyclic t q len own e = absurd (not_counting (subst (Laid pos (pos + behind_span r n) true) e (pointee_laid bytes pos r n)))
  stable_counting (node level most k v pos) cyclic t q len own e =
      let kind = slice_index (drop pos bytes) 0 in
      absurd (not_counting (subst (Laid (pos + 1) (pos + node_high kind most k v) true) e (node_laid level most k v pos kind (window bytes pos (link_node_size (words_of kind most) most k v)))))
  stable_counting (child level most k v pos) cyclic t q len own e = ap (child_content level most k v pos) (sym own) ∙ e
  stable_counting (entry k key_pos v value_pos) cyclic t q len own e = e
  stable_counting (buckets target n cap it) cyclic t q len own e =
      absurd (not_counting (subst (Laid (target - cap * item_size it) target true) e (buckets_laid target n cap it (window bytes target (control_count cap)))))
  stable_counting (place_at pos limit) cyclic t q len own e = ap (place_content limit) (sym own) ∙ e

  -- what holds in the other bytes, with its tables sound
  pub record OtherTables (level : ℕ) (inside : List OpenShared) (p : Part) (v : Value) (rs : List Region) (before after : List Visit) : Type 0 where
    pub holds : Holds names others level inside p v rs before after
    pub sound : TablesSound holds
    pub seen_bytes : seen_bytes_of bytes p ≡ seen_bytes_of others p

  pub record AllOtherTables (level : ℕ) (inside : List OpenShared) (ps : List Part) (vs : Values) (rs : List Region) (before after : List Visit) : Type 0 where
    pub all : HoldAll names others level inside ps vs rs before after
    pub sound : AreTablesSound all
    pub seen_bytes : first_seen_bytes bytes ps ≡ first_seen_bytes others ps

  mutual
    pub framed : {level : ℕ} {inside : List OpenShared} {p : Part} {v : Value} {rs : List Region} {before after : List Visit}
        → OwnAgrees bytes others p → RegionsAgree bytes others rs → (h : Holds names bytes level inside p v rs before after) → TablesSound h → OtherTables level inside p v rs before after
    framed own regions (holds_plain {p = p} {v = v} {l = l} {ps = ps} {vs = vs} e legal all m) n =
        let parts = plain_own bytes others (subst (Settled bytes others) e (settled bytes others names p own)) in
        let alike = stable_plain bytes others names p own e in
        let d = framed_all parts regions all n.1 in
        let numbers = same_numbers bytes others ps vs vs (numbers_first names bytes all) (numbers_first names others d.all) refl in
        record {
          holds = holds_plain alike legal d.all m;
          sound = (table_still p v v e alike d.seen_bytes (λ x. numbers) (λ pos s target len cap it rest a b c. refl) n.0, d.sound);
          seen_bytes = plain_seen bytes others names p e;
        }
    framed own regions (holds_claimed {level = level} {p = p} {within = within} {s = s} {l = l} {ps = ps} {vs = vs} e legal all m r) n =
        let split = RegionsAgree-append bytes others within (region_of s level ∷ []) (subst (RegionsAgree bytes others) r regions) in
        let here = one_region bytes others s level split.1 in
        let parts = claimed_own bytes others (subst (Settled bytes others) e (settled bytes others names p own)) here in
        let alike = stable_claimed bytes others names p own here e in
        let d = framed_all parts split.0 all n in
        record { holds = holds_claimed alike legal d.all m r; sound = d.sound; seen_bytes = span_seen bytes others names p e alike here }
    framed own regions (holds_first {p = p} {cyclic = cyclic} {t = t} {q = q} {len = len} e a b h x g) n =
        let alike = stable_counting p cyclic t q len own e in
        let d = framed tt regions h n in
        record { holds = holds_first alike a b d.holds x g; sound = d.sound; seen_bytes = counting_seen bytes others names p e }
    framed own regions (holds_later {p = p} {cyclic = cyclic} {t = t} {q = q} {len = len} e a b x r g) n =
        record { holds = holds_later (stable_counting p cyclic t q len own e) a b x r g; sound = tt; seen_bytes = counting_seen bytes others names p e }
    framed own regions (holds_back {p = p} {t = t} {q = q} {len = len} e a x r g) n =
        record { holds = holds_back (stable_counting p true t q len own e) a x r g; sound = tt; seen_bytes = counting_seen bytes others names p e }

    pub framed_all : {level : ℕ} {inside : List OpenShared} {ps : List Part} {vs : Values} {rs : List Region} {before after : List Visit}
        → AllOwn bytes others ps → RegionsAgree bytes others rs → (all : HoldAll names bytes level inside ps vs rs before after) → AreTablesSound all → AllOtherTables level inside ps vs rs before after
    framed_all own regions (holds_none e f g) n = record { all = holds_none e f g; sound = tt; seen_bytes = refl }
    framed_all (own_more here rest) regions (holds_more {here = rs} {later = qs} h hs e r) n =
        let split = RegionsAgree-append bytes others rs qs (subst (RegionsAgree bytes others) r regions) in
        let d = framed here split.0 h n.0 in
        let ds = framed_all rest split.1 hs n.1 in
        record { all = holds_more d.holds ds.all e r; sound = (d.sound, ds.sound); seen_bytes = d.seen_bytes }
