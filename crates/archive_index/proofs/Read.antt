-- The table and the entries that an index map has where the layout has the map.
use Rattle.std.proofs.Common.{◌≡◌, ◌∙◌, ℕ, suc, ◌+◌, ◌*◌, ◌<◌, ◌≤◌, ◌==◌, Bool, true, false, nat_lt, List, [], ◌∷◌, ◌++◌, length, Some, All, refl, ap, sym, subst, arith, eqb-true, eq-eqb, ltb-true}
use Rattle.std.proofs.lemmas.List.Elements.{All-nil, All-cons}
use Rattle.archive_forms_laws.specs.SpellingLaws.{KnowsAll}
use Rattle.archive_shape_layout.specs.Bytes.{window, word_at, target_from}
use Rattle.archive_shape_layout.specs.Shape.{Shape, size_of}
use Rattle.archive_shape_layout.specs.Shape.Shape.{table, index_map}
use Rattle.archive_shape_layout.specs.Shape.Pointee.{slice}
use Rattle.archive_shape_layout.specs.Value.{Value, Values}
use Rattle.archive_shape_layout.specs.Value.Value.{natural, group}
use Rattle.archive_shape_layout.specs.Value.Values.{no_values, more_values}
use Rattle.archive_shape_layout.specs.Content.{Names, Part, Content, content_of, made, members, choose, shape_content, table_parts}
use Rattle.archive_shape_layout.specs.Content.Item.{item, place}
use Rattle.archive_shape_layout.specs.Content.Part.{at, behind, buckets}
use Rattle.archive_shape_layout.specs.Content.Label.{same, second, whole}
use Rattle.archive_shape_layout.specs.Content.Content.{plain}
use Rattle.archive_shape_layout.specs.Holds.{Region, Visit, OpenShared, Holds, HoldAll, end_after}
use Rattle.archive_shape_layout.specs.Holds.Holds.{holds_plain}
use Rattle.archive_shape_layout.specs.Holds.HoldAll.{holds_none, holds_more}
use Rattle.archive_shape_layout.specs.Visited.{ClaimedAfter}
use Rattle.archive_shape_layout.proofs.Unique.{by_plain, by_claimed, one_list}
use Rattle.archive_shape_layout.proofs.Visited.{claimed_front, claimed_later, claimed_inside}
use Rattle.archive_shape_layout.proofs.Windows.{word_within}
use Rattle.archive_shape.proofs.Inverted.{IsKnown, held_is_known}
use Rattle.archive_shape.proofs.Questions.{tested_known, followed_known}
use Rattle.archive_shape.specs.Key.{HeldAt}
use Rattle.archive_forms_values.proofs.Contents.{slice_is}
use Rattle.archive_forms_values.proofs.Targets.{first_word}
use Rattle.archive_forms_values.specs.Tuples.{tuple2}
use Rattle.archive_forms_laws.proofs.TextContent.{followed, chosen_no}
use Rattle.archive_forms_values.specs.Parts.{AreElements, both}
use Rattle.archive_forms_values.proofs.Inside.{none_held}
use Rattle.archive_forms_values.proofs.Pointed.{elements_stand, made_whole}
use Rattle.archive_hash_maps.specs.Tables.{Buckets, AreItemsAt, item_positions, full_places}
use Rattle.archive_hash_maps.proofs.Read.{table_is_read, one_table}
use Rattle.archive_hash_maps.proofs.Roots.{table_count}
use Rattle.archive_forms_laws.specs.Sample.{number_shape}
use Rattle.archive_index.specs.Maps.{IndexMap, count_of, MapIsRead, OneMap}
use Rattle.archive_hash_writing.proofs.IndexPlaces.{AreBelow, number_held}
use Rattle.archive_index.proofs.Places.{places_as_numbers}

chosen : (b : Bool) (x y : Content) → b ≡ true → choose b x y ≡ x
unfolding choose
chosen true x y e = refl
chosen false x y e = absurd cc

-- the parts of a map that has entries: its table and its entries
record TwoHold (names : Names) (bytes : List ℕ) (level : ℕ) (inside : List OpenShared) (p q : Part) (v : Value) (vs : Values) (low high : ℕ) (before : List Visit) : Type 0 where
  first : Value
  other : Value
  are : vs ≡ more_values first (more_values other no_values)
  regions : List Region
  between : List Visit
  first_holds : Holds names bytes level inside p first regions before between
  first_claimed : ClaimedAfter names bytes before low high regions
  others : List Region
  after : List Visit
  holds : Holds names bytes level inside q v others between after
  claimed : ClaimedAfter names bytes between (end_after low regions) high others

two_hold :
    (names : Names) (bytes : List ℕ) (low high : ℕ) {level : ℕ} {inside : List OpenShared} {p q : Part} {v : Value} {vs : Values} {regions : List Region} {before after : List Visit}
    → HoldAll names bytes level inside (p ∷ (q ∷ [])) vs regions before after
    → ClaimedAfter names bytes before low high regions
    → made second vs ≡ Some v
    → TwoHold names bytes level inside p q v vs low high before
unfolding made
two_hold names bytes low high {level} {inside} {p} {q} {v} {before = before} (holds_more {v = u} {here = here} {later = later} {between = between} x (holds_more {v = w} {here = others} {later = none} {between = after} y (holds_none e empty stays) is_last joined_last) is joined) claimed m =
    let two : made second (more_values u (more_values w no_values)) ≡ Some v = subst (λ xs. made second xs ≡ Some v) (is ∙ ap (more_values u) (is_last ∙ ap (more_values w) e)) m in
    let value : w ≡ v = cc in
    let rest = claimed_later x joined claimed in
    record {
      first = u;
      other = w;
      are = is ∙ ap (more_values u) (is_last ∙ ap (more_values w) e);
      regions = here;
      between = between;
      first_holds = x;
      first_claimed = claimed_front later joined claimed;
      others = others;
      after = after;
      holds = subst (λ z. Holds names bytes level inside q z others between after) value y;
      claimed = claimed_front none joined_last rest;
    }

module _ (k v : Shape) (knows others : Names → Type 0) (bytes : List ℕ) (pos : ℕ) (value : Value) (h : HeldAt (index_map k v) (both knows others) bytes pos value) where
  abbrev own : List ℕ
  own = window bytes pos 16

  abbrev len : ℕ
  len = word_at own 4

  len_is : len ≡ word_at bytes (pos + 4)
  len_is = word_within bytes pos 16 4 (omega arith)

  len_of_table : word_at (window bytes pos 12) 4 ≡ len
  len_of_table = word_within bytes pos 12 4 (omega arith) ∙ sym len_is

  cap_of_table : word_at (window bytes pos 12) 8 ≡ word_at own 8
  cap_of_table = word_within bytes pos 12 8 (omega arith) ∙ sym (word_within bytes pos 16 8 (omega arith))

  offset_of_table : word_at (window bytes pos 12) 0 ≡ word_at own 0
  offset_of_table = first_word bytes pos 12 (omega arith) ∙ sym (first_word bytes pos 16 (omega arith))

  -- the table of the numbers of entries, and the entries
  pub record IsReadSo : Type 0 where
    pub numbers : Value
    pub table_held : HeldAt (table number_shape) KnowsAll bytes pos numbers
    -- by each account of the map's parts, the first has these numbers
    pub first :
        (ps : List Part) (ws : Values) (regions : List Region) (after : List Visit)
        → content_of h.names bytes (at pos (index_map k v)) ≡ plain second ps
        → HoldAll h.names bytes h.level h.inside ps ws regions h.before after
        → (w : Value) × (ws ≡ more_values numbers (more_values w no_values))
    below : AreBelow len (members numbers)
    start : ℕ
    leads : (len ≡ 0 → ⊥) → target_from (pos + 12) (word_at bytes (pos + 12)) ≡ Some start
    none : len ≡ 0 → start ≡ 0
    before : start + len * size_of (tuple2 k v) ≤ pos
    entries : AreElements (tuple2 k v) (both knows others) bytes start len value

  empty : (len == 0) ≡ true → IsReadSo
  unfolding shape_content made
  empty none =
      let zero : len ≡ 0 = eqb-true len 0 none in
      let content : content_of h.names bytes (at pos (index_map k v)) ≡ plain whole [] = chosen _ _ _ none in
      let says = by_plain h.names bytes content h.holds in
      let no = none_held h.names bytes says.all in
      let is : value ≡ group no_values = made_whole _ value says.is_made ∙ ap group no in
      let as_table : content_of h.names bytes (at pos (table number_shape)) ≡ plain whole [] = chosen _ _ _ (ap (λ n. n == 0) len_of_table ∙ none) in
      let own_within = h.own_within in
      let no_size : len * size_of (tuple2 k v) ≡ 0 = ap (λ n. n * size_of (tuple2 k v)) zero ∙ omega arith in
      record {
        numbers = value;
        table_held = record {
          names = h.names;
          known = tt;
          level = h.level;
          inside = h.inside;
          regions = h.regions;
          before = h.before;
          after = h.after;
          own_within = omega (arith, own_within);
          low = h.low;
          claimed = h.claimed;
          holds = holds_plain as_table tt says.all says.is_made;
        };
        first = λ ps ws regions after e all. absurd (let two = sym content ∙ e in cc);
        below = subst (λ x. AreBelow len (members x)) (sym is) tt;
        start = 0;
        leads = λ some. absurd (some zero);
        none = λ z. refl;
        before = omega (arith, no_size);
        entries = record {
          elements = no_values;
          is = is;
          count = sym zero;
          within = omega (arith, no_size);
          each = λ i less. absurd (omega (arith, less, zero));
        };
      }

  filled : (len == 0) ≡ false → IsReadSo
  unfolding shape_content table_parts made
  filled some =
      let not_none = λ (e : (len == 0) ≡ true). absurd cc in
      let content = chosen_no _ _ _ not_none in
      let leads = followed_known _ _ (subst IsKnown content (held_is_known h.names bytes h.holds)) in
      let tested = tested_known _ _ leads.2 in
      let table_leads = followed_known _ _ tested.1 in
      let target = table_leads.0 in
      let cap = word_at own 8 in
      let start = leads.0 in
      let parts : content_of h.names bytes (at pos (index_map k v)) ≡ plain second (buckets target len cap (place len) ∷ (behind start (slice (tuple2 k v)) len ∷ [])) =
      content ∙ followed _ start _ leads.1 ∙ chosen _ _ _ tested.0 ∙ followed _ target _ table_leads.1 in
      let says = by_plain h.names bytes parts h.holds in
      let two = two_hold h.names bytes h.low pos says.all h.claimed says.is_made in
      let numbers = places_as_numbers h.names bytes len target len cap two.first_holds in
      let own_within = h.own_within in
      let as_table : content_of h.names bytes (at pos (table number_shape)) ≡ plain same (buckets target len cap (item number_shape) ∷ []) =
      chosen_no _ _ _ (λ e. not_none (sym (ap (λ n. n == 0) len_of_table) ∙ e))
      ∙ (λ i. choose (nat_lt (len_of_table i) (cap_of_table i)) (Rattle.archive_shape_layout.specs.Content.following (target_from pos (offset_of_table i)) (λ t. plain same (buckets t (len_of_table i) (cap_of_table i) (item number_shape) ∷ []))) Rattle.archive_shape_layout.specs.Content.Content.illegal)
      ∙ chosen _ _ _ tested.0 ∙ followed _ target _ table_leads.1 in
      let entries = by_claimed h.names bytes (slice_is h.names bytes start (tuple2 k v) len) two.holds in
      let inner = claimed_inside entries.regions_are two.claimed in
      let ends = inner.ends in
      record {
        numbers = two.first;
        table_held = record {
          names = h.names;
          known = tt;
          level = h.level;
          inside = h.inside;
          regions = two.regions;
          before = h.before;
          after = two.between;
          own_within = omega (arith, own_within);
          low = h.low;
          claimed = two.first_claimed;
          holds = one_part numbers.holds as_table;
        };
        first = λ ps ws regions after e all.
            let same_content = sym parts ∙ e in
            let are : ps ≡ buckets target len cap (place len) ∷ (behind start (slice (tuple2 k v)) len ∷ []) = cc in
            let agree = one_list h.names bytes ws regions after says.all (subst (λ (x : List Part). HoldAll h.names bytes h.level h.inside x ws regions h.before after) are all) in
            (two.other, sym agree.values ∙ two.are);
        below = numbers.below;
        start = start;
        leads = λ n. ap (target_from (pos + 12)) (sym (word_within bytes pos 16 12 (omega arith))) ∙ leads.1;
        none = λ z. let e = eq-eqb len 0 z in absurd cc;
        before = omega (arith, ends);
        entries = elements_stand h.names bytes (tuple2 k v) (both knows others) len start (suc h.level) _ h.inside value h.known entries.all inner.claimed (omega (arith, ends, own_within)) entries.is_made;
      }
    where
      one_part : {level : ℕ} {inside : List OpenShared} {p q : Part} {u : Value} {regions : List Region} {before after : List Visit} → Holds h.names bytes level inside q u regions before after → content_of h.names bytes p ≡ plain same (q ∷ []) → Holds h.names bytes level inside p u regions before after
      one_part {regions = regions} x e = holds_plain e tt (holds_more x (holds_none refl refl refl) refl (sym (Rattle.std.proofs.Common.append-nil regions))) refl

  pub read_so : IsReadSo
  read_so = by_length (len == 0) refl
    where
      by_length : (b : Bool) → (len == 0) ≡ b → IsReadSo
      by_length true is = empty is
      by_length false is = filled is

-- numbers that stand at positions are below the limit
all_below : (bytes : List ℕ) (limit : ℕ) (ps : List ℕ) (vs : Values) → AreItemsAt number_shape KnowsAll bytes ps vs → AreBelow limit vs → All (λ p. word_at bytes p < limit) ps
all_below bytes limit [] no_values held below = All-nil _
all_below bytes limit [] (more_values w ws) held below = absurd held
all_below bytes limit (p ∷ ps) no_values held below = absurd held
all_below bytes limit (p ∷ ps) (more_values w ws) held below =
    let one = number_held held.0.names bytes p held.0.holds in
    let number = below.0.is in
    let same : natural (word_at bytes p) ≡ natural below.0.number = sym one.is ∙ number in
    let is : word_at bytes p ≡ below.0.number = cc in
    let less = below.0.below in
    All-cons (λ q. word_at bytes q < limit) p ps (omega (arith, is, less)) (all_below bytes limit ps ws held.1 below.1)

pub map_is_read : (k v : Shape) (knows others : Names → Type 0) (bytes : List ℕ) → MapIsRead k v knows others bytes
map_is_read k v knows others bytes pos value h =
    let r = read_so k v knows others bytes pos value h in
    let t = table_is_read number_shape KnowsAll bytes pos r.numbers r.table_held in
    let n = len k v knows others bytes pos value h in
    let count : n ≡ length (full_places t.buckets) = len_is k v knows others bytes pos value h ∙ table_count t.table in
    let map : IndexMap = record { buckets = t.buckets; start = r.start } in
    let size = size_of (tuple2 k v) in
    let own_within = h.own_within in
    record {
      map = map;
      stands = record {
        table = t.table;
        leads = λ some. r.leads (λ e. some (sym count ∙ e));
        none = λ z. r.none (count ∙ z);
        numbers = subst (λ m. All (λ p. word_at bytes p < m) (item_positions number_shape t.buckets)) count (all_below bytes n (item_positions number_shape t.buckets) (members r.numbers) t.items r.below);
        within = subst (λ m. r.start + m * size ≤ length bytes) count (let b = r.before in omega (arith, b, own_within));
      };
      before = subst (λ m. r.start + m * size ≤ pos) count r.before;
      entries = subst (λ m. AreElements (tuple2 k v) (both knows others) bytes r.start m value) count r.entries;
    }

-- where the layout has an index map, it has the table of the numbers of entries
pub table_there : (k v : Shape) (knows others : Names → Type 0) (bytes : List ℕ) (pos : ℕ) (value : Value) → HeldAt (index_map k v) (both knows others) bytes pos value → (numbers : Value) × HeldAt (table number_shape) KnowsAll bytes pos numbers
table_there k v knows others bytes pos value h = let r = read_so k v knows others bytes pos value h in (r.numbers, r.table_held)

map_is : {b c : Buckets} {s t : ℕ} → b ≡ c → s ≡ t → (λ (m : IndexMap). m) (record { buckets = b; start = s }) ≡ record { buckets = c; start = t }
map_is e f = Rattle.std.proofs.Common.ap₂ (λ b s. (λ (m : IndexMap). m) (record { buckets = b; start = s })) e f

pub one_map : OneMap
one_map bytes k v pos m n a b =
    let buckets = one_table bytes number_shape pos m.buckets n.buckets a.table b.table in
    let counts : count_of m ≡ count_of n = ap (λ x. length (full_places x)) buckets in
    map_is buckets (by_count (count_of m == 0) refl counts)
  where
    by_count : (z : Bool) → (count_of m == 0) ≡ z → count_of m ≡ count_of n → m.start ≡ n.start
    by_count true is e = let zero = eqb-true (count_of m) 0 is in a.none zero ∙ sym (b.none (sym e ∙ zero))
    by_count false is e =
        let some : count_of m ≡ 0 → ⊥ = λ f. let t = eq-eqb (count_of m) 0 f in absurd cc in
        let x = a.leads some in
        let y = b.leads (λ f. some (e ∙ f)) in
        let both_are : Some m.start ≡ Some n.start = sym x ∙ y in
        cc
