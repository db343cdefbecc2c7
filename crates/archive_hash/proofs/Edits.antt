-- After a write over the value of one entry, a map has the same places and keys, and its other entries are kept. Look-ups
-- of which the comparisons say the same find the same.
use Rattle.std.proofs.Common.{◌≡◌, ◌∙◌, ℕ, ◌+◌, ◌-◌, ◌*◌, ◌%◌, ◌<◌, ◌≤◌, Bool, true, false, List, [], ◌∷◌, ◌++◌, length, take, map, get_or, slice_index, Option, Some, None, All, Contains, inl, inr, refl, ap, sym, subst, arith, eqb, true≢false, mul-le-mul_right, length-append}
use Rattle.std.specs.List.{list_any, flat_map}
use Rattle.std.proofs.lemmas.Bool.{cases_Bool}
use Rattle.std.proofs.lemmas.List.{length-map, length-take-le, get_or-map, get_or_append_left}
use Rattle.std.proofs.lemmas.List.Elements.{All-nil, All-cons, All-contains}
use Rattle.archive_shape_layout.specs.Edit.{Apart}
use Rattle.archive_shape_layout.specs.Bytes.{IsOutside}
use Rattle.archive_shape_layout.specs.Shape.{Shape, size_of}
use Rattle.archive_shape_layout.specs.Shape.Shapes.{no_shapes}
use Rattle.archive_shape_layout.specs.Value.{Value}
use Rattle.archive_shape_layout.specs.Content.{Names}
use Rattle.archive_shape_layout.specs.Laws.{AgreesOn}
use Rattle.archive_shape_layout.proofs.Framed.{frame}
use Rattle.archive_shape_layout.proofs.SameBytes.{window_same}
use Rattle.archive_shape_layout.proofs.Visited.{AgreeBelow, take_agrees, regions_agree, claimed_same}
use Rattle.archive_shape_canonical.specs.FirstFit.{hash_tag}
use Rattle.archive_shape_canonical.specs.Strides.{sixteens, strides, places_shown}
use Rattle.archive_shape_canonical.specs.Reach.{searched, reach, Reaches}
use Rattle.archive_shape.specs.Key.{HeldAt}
use Rattle.archive_shape.proofs.Held.{held_ascend}
use Rattle.archive_forms_values.specs.Tuples.{tuple2}
use Rattle.archive_forms_values.specs.Parts.{both}
use Rattle.archive_forms_values.specs.Fields.{field_position}
use Rattle.archive_hash_probing.specs.Search.{IsAnswer, IsRefused}
use Rattle.archive_hash_probing.proofs.Coverage.{Among}
use Rattle.archive_hash_probing.proofs.Findable.{All-searched, All-middle, among_append, found_place, same_control, shown_of, strides_within}
use Rattle.archive_hash_probing.proofs.InStride.{full_below}
use Rattle.archive_hash_probing.proofs.Wrapping.{Wraps, wraps_of, count_of}
use Rattle.archive_hash_maps.specs.Tables.{Buckets, IsTableAt, item_position, item_positions}
use Rattle.archive_hash_maps.specs.Tables.IsTableAt.{has_none, has_buckets}
use Rattle.archive_hash_maps.specs.Places.{LooksUp}
use Rattle.archive_hash_maps.specs.Places.LooksUp.{has_no_places, has_places}
use Rattle.archive_hash_maps.specs.Walks.{BegunMap, HasValuesWritten, IsKept, items_of}
use Rattle.archive_hash.specs.Edits.{DiffersInValue, StaysBeside}
use Rattle.archive_hash_maps.proofs.Found.{none_looked_up}
use Rattle.archive_hash_maps.proofs.Lookups.{full_among, none_reached, no_strides}
use Rattle.archive_hash_maps.proofs.Passed.{items_within, keys_kept, values_within}
use Rattle.archive_hash_maps.proofs.Read.{HasBelow}
use Rattle.archive_hash_maps.proofs.Stays.{all_items, in_entries, table_stands, table_stays, value_ends}

-- what is held in the bytes before a position is held in all of them
held_beyond : (s : Shape) (knows : Names → Type 0) (bytes : List ℕ) (pos n : ℕ) (v : Value) → n ≤ length bytes → HeldAt s knows (take n bytes) pos v → HeldAt s knows bytes pos v
held_beyond s knows bytes pos n v within h =
    let shorter = length-take-le n bytes within in
    let own = h.own_within in
    let ends : pos + size_of s ≤ n = omega (arith, own, shorter) in
    let back : AgreeBelow (take n bytes) bytes n = λ start size fits. sym (take_agrees bytes n start size fits) in
    record {
      names = h.names;
      known = h.known;
      level = h.level;
      inside = h.inside;
      regions = h.regions;
      before = h.before;
      after = h.after;
      own_within = omega (arith, ends, within);
      low = h.low;
      claimed = claimed_same (λ start size fits. back start size (let below = h.claimed.below in omega (arith, fits, below, ends))) h.claimed;
      holds = frame (take n bytes) bytes h.names (back pos (size_of s) ends) (regions_agree 0 pos h.regions (λ start size fits. back start size (omega (arith, fits, ends))) (held_ascend h)) h.holds;
    }

module _ {k v : Shape} {knows others : Names → Type 0} (m : BegunMap k v knows others) (at : ℕ) (bytes : List ℕ) (among : Contains (items_of m) at) (d : DiffersInValue k v at m.bytes bytes) where
  abbrev entry : Shape
  entry = tuple2 k v

  abbrev value_at : ℕ
  value_at = field_position k no_shapes v at

  -- what is outside of the value is the same
  same_outside : (i : ℕ) → IsOutside value_at (value_at + size_of v) i → slice_index bytes i ≡ slice_index m.bytes i
  same_outside i out = d.elsewhere i (All-cons (λ p. IsOutside p (p + size_of v) i) value_at [] out (All-nil (λ p. IsOutside p (p + size_of v) i)))

  -- the value is one of those of the map
  values_written : HasValuesWritten m bytes
  values_written =
      let f = field_position k no_shapes v in
      let j = among.0 in
      let less = among.1 in
      let there : get_or (map f (items_of m)) j 0 ≡ value_at = get_or-map f (items_of m) j at 0 less ∙ ap f among.2 in
      let long = length-map (items_of m) f in
      record {
        same_length = d.same_length;
        elsewhere = λ i out. same_outside i (subst (λ p. IsOutside p (p + size_of v) i) there (out j 0 (omega (arith, less, long))));
      }

  low : ℕ
  low = m.buckets.target - m.buckets.cap * size_of entry

  -- no entry lies before the buckets
  in_buckets : low ≤ at
  unfolding low
  in_buckets =
      All-contains (λ p. low ≤ p) (items_of m) at
      (all_items entry m.buckets (λ p. low ≤ p) (λ p below. let up : (p + 1) * size_of entry ≤ m.buckets.cap * size_of entry = mul-le-mul_right (size_of entry) (omega (arith, below)) in omega (arith, up)))
      among

  -- an entry that does not overlap the one at the position is kept
  entry_kept : (p : ℕ) → HasBelow entry (both knows others) m.bytes low p → Apart p (size_of entry) at (size_of entry) → IsKept entry (both knows others) m.bytes bytes p
  entry_kept p h apart =
      let ends = value_ends k v in
      let from = in_buckets in
      let inside = h.held.own_within in
      let many = d.same_length in
      let begins = h.below.below in
      let last = All-contains (λ q. q + size_of entry ≤ length m.bytes) (items_of m) at (items_within m) among in
      let own : AgreesOn m.bytes bytes p (size_of entry) = window_same m.bytes bytes p (size_of entry) inside (omega (arith, inside, many)) (λ i after before. same_outside i (λ over. elim apart [
        | inl first ↦ absurd (omega (arith, first, before, over))
        | inr second ↦ omega (arith, second, after, ends)
      ])) in
      let agree : AgreeBelow m.bytes bytes low = λ start n to. window_same m.bytes bytes start n (omega (arith, to, from, last)) (omega (arith, to, from, last, many)) (λ i after before. same_outside i (λ over. absurd (omega (arith, over, before, to, from)))) in
      record {
        value = h.value;
        was = h.held;
        is = record {
          names = h.held.names;
          known = h.held.known;
          level = h.held.level;
          inside = h.held.inside;
          regions = h.held.regions;
          before = h.held.before;
          after = h.held.after;
          own_within = omega (arith, inside, many);
          low = h.held.low;
          claimed = claimed_same (λ start n to. agree start n (omega (arith, to, begins))) h.held.claimed;
          holds = frame m.bytes bytes h.held.names own (regions_agree h.held.low low h.held.regions agree h.below.ascends) h.held.holds;
        };
      }

  pub stays_beside : StaysBeside m at bytes
  unfolding low
  stays_beside =
      let kept = keys_kept m bytes values_written in
      let within = values_within m in
      let many = d.same_length in
      record {
        table = table_stays entry (both knows others) m.bytes bytes m.pos m.buckets m.has m.places (in_entries k v (items_of m) m.bytes bytes values_written);
        keys = λ i d less.
            let h = kept i d less in
            let room = within i d less in
            record { value = h.value; was = h.was; is = held_beyond k knows bytes _ _ h.value (omega (arith, room, many)) h.is };
        entries = λ i d less. entry_kept _ ((table_stands entry (both knows others) m.bytes m.pos m.buckets m.has m.places).below i d less);
      }

-- ---- look-ups of which the comparisons say the same

mod_low : (x y : ℕ) → 0 < y → x % y < y
mod_low x y h = omega (arith, h)

module _ (A R B S : ℕ → Type 0) (cs : List ℕ) (hash cap tag : ℕ) (some : 0 < cap) (w : Wraps cs cap) (long : length cs ≡ 16 * sixteens cap + 15) (small : tag < 128)
    (f : (p : ℕ) → p < cap → slice_index cs p < 128 → A p → B p) (g : (p : ℕ) → p < cap → slice_index cs p < 128 → R p → S p) where
  -- the item of a control that is the tag is one of a full place
  refused_as : (p k : ℕ) → p + 16 ≤ length cs → k < 16 → slice_index cs (p + k) ≡ tag → R ((p + k) % cap) → S ((p + k) % cap)
  refused_as p k room less tagged refused =
      let inside : p + k < length cs = omega (arith, room, less) in
      let full : slice_index cs (p + k) < 128 = omega (arith, tagged, small) in
      let below = full_below cs cap (p + k) w inside full in
      let control = same_control cs cap (p + k) ((p + k) % cap) w inside below refl in
      g ((p + k) % cap) (mod_low (p + k) cap some) (omega (arith, control, full)) refused

  stride_as : (p : ℕ) → p + 16 ≤ length cs → IsRefused A R cs cap tag p → IsRefused B S cs cap tag p
  stride_as p room h k less tagged = refused_as p k room less tagged (h k less tagged)

  abbrev Room : ℕ → Type 0
  Room p = p + 16 ≤ length cs

  all_room : All Room (searched cs (strides hash cap))
  all_room = All-searched Room cs (strides hash cap) (strides_within cs hash cap long)

  -- the answer is the same, where the comparisons say the same of the items of full places
  pub answer_full : (r : Option ℕ) (n : ℕ) → IsAnswer A R cs cap tag (searched cs (strides hash cap)) r n → IsAnswer B S cs cap tag (searched cs (strides hash cap)) r n
  answer_full None n a = (a.0, λ i d less. stride_as _ (all_room i d less) (a.1 i d less))
  answer_full (Some place) n a =
      let room : All Room (a.prior ++ a.stride ∷ a.later) = subst (All Room) a.strides_are all_room in
      let front : All Room a.prior = λ i d less. subst Room (get_or_append_left a.prior (a.stride ∷ a.later) d i less) (room i d (omega (arith, less, length-append a.prior (a.stride ∷ a.later)))) in
      let here : Room a.stride = All-middle Room a.prior a.later a.stride room in
      let full = found_place A R cs hash cap tag place n some w long a in
      record {
        prior = a.prior;
        stride = a.stride;
        later = a.later;
        strides_are = a.strides_are;
        count = a.count;
        refused_before = λ i d less. stride_as _ (front i d less) (a.refused_before i d less);
        found = record {
          lane = a.found.lane;
          within = a.found.within;
          place_is = a.found.place_is;
          full = a.found.full;
          tagged = a.found.tagged;
          taken = f place full.low full.full a.found.taken;
          before = λ k less tagged. refused_as a.stride k here (let within = a.found.within in omega (arith, less, within)) tagged (a.found.before k less tagged);
        };
      }

module _ (says other : ℕ → Bool → Type 0) (s : Shape) (bytes : List ℕ) (pos : ℕ) (b : Buckets) (hash n : ℕ) (small : hash_tag hash < 128)
    (same : (at : ℕ) (x : Bool) → Contains (item_positions s b) at → says at x → other at x) where
  -- a look-up finds the same, where the comparisons say the same of the items
  pub looks_up_alike : (found : Option ℕ) → IsTableAt bytes s pos b → LooksUp says s b hash found n → LooksUp other s b hash found n
  looks_up_alike found t (has_no_places none e f) = has_no_places none e f
  looks_up_alike found (has_none e is) (has_places None found_is a) =
      let cap : b.cap ≡ 0 = ap (λ c. c.cap) is in
      let none : length (searched b.controls (strides hash b.cap)) ≡ 0 = ap (λ (c : Buckets). length (searched c.controls (strides hash c.cap))) is ∙ ap (λ ps. length (searched [] ps)) (no_strides hash) in
      has_no_places cap found_is (a.0 ∙ none)
  looks_up_alike found (has_none e is) (has_places (Some place) found_is a) =
      let none = none_looked_up says s hash n found (subst (λ c. LooksUp says s c hash found n) is (has_places (Some place) found_is a)) in
      absurd (let both : Some (item_position s b.target place) ≡ None = sym found_is ∙ none in cc)
  looks_up_alike found (has_buckets o d e fewer g h i are l) (has_places place found_is a) =
      has_places place found_is
      (answer_full (λ p. says (item_position s b.target p) true) (λ p. says (item_position s b.target p) false) (λ p. other (item_position s b.target p) true) (λ p. other (item_position s b.target p) false)
      b.controls hash b.cap (hash_tag hash) (omega (arith, fewer)) (wraps_of b.controls b.cap are) (count_of b.controls b.cap are) small
      (λ p below full. same (item_position s b.target p) true (full_among s b p below full))
      (λ p below full. same (item_position s b.target p) false (full_among s b p below full)) place n a)

-- a place that strides show is one of the table's
shown_low : (cap place : ℕ) (ps : List ℕ) → 0 < cap → Among place (flat_map (places_shown cap) ps) → place < cap
shown_low cap place [] some h = absurd (true≢false (sym h))
shown_low cap place (p ∷ ps) some h = elim (cases_Bool (list_any (eqb place) (places_shown cap p))) [
  | inl e ↦ let s = shown_of cap p 16 place e in let low = mod_low (p + s.0) cap some in let is = s.3 in omega (arith, low, is)
  | inr e ↦ shown_low cap place ps some (among_append place (places_shown cap p) _ h e)
]

reached_low : (controls : List ℕ) (hash cap place : ℕ) → 0 < cap → Reaches controls hash cap place → place < cap
unfolding reach
reached_low controls hash cap place some h = shown_low cap place (searched controls (strides hash cap)) some h

-- the item of a place that a search for a hash visits, and that has its tag, is one of the table's
pub reached_item : (s : Shape) (bytes : List ℕ) (pos : ℕ) (b : Buckets) (hash place : ℕ) → IsTableAt bytes s pos b → Reaches b.controls hash b.cap place → slice_index b.controls place < 128
    → Contains (item_positions s b) (item_position s b.target place)
reached_item s bytes pos b hash place (has_none e is) reached full = absurd (none_reached b hash place is reached)
reached_item s bytes pos b hash place (has_buckets o d e fewer g h i are l) reached full =
    full_among s b place (reached_low b.controls hash b.cap place (omega (arith, fewer)) reached) full

-- what a look-up finds is one of the table's items
pub found_is_item : (says : ℕ → Bool → Type 0) (s : Shape) (bytes : List ℕ) (pos : ℕ) (b : Buckets) (hash n p : ℕ) → IsTableAt bytes s pos b → LooksUp says s b hash (Some p) n → Contains (item_positions s b) p
found_is_item says s bytes pos b hash n p t (has_no_places none e f) = absurd cc
found_is_item says s bytes pos b hash n p (has_none e is) (has_places place found_is a) =
    absurd (let none = none_looked_up says s hash n (Some p) (subst (λ c. LooksUp says s c hash (Some p) n) is (has_places place found_is a)) in cc)
found_is_item says s bytes pos b hash n p (has_buckets o d e fewer g h i are l) (has_places None found_is a) = absurd cc
found_is_item says s bytes pos b hash n p (has_buckets o d e fewer g h i are l) (has_places (Some place) found_is a) =
    let full = found_place (λ q. says (item_position s b.target q) true) (λ q. says (item_position s b.target q) false) b.controls hash b.cap (hash_tag hash) place n (omega (arith, fewer)) (wraps_of b.controls b.cap are) (count_of b.controls b.cap are) a in
    let is : item_position s b.target place ≡ p = (let same : Some p ≡ Some (item_position s b.target place) = found_is in cc) in
    subst (Contains (item_positions s b)) is (full_among s b place full.low full.full)
