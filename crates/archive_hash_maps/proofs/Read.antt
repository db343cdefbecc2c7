-- The places that a table's bytes have where the layout has the table.
use Rattle.std.proofs.Common.{◌≡◌, ◌∙◌, ℕ, zero, suc, ◌+◌, ◌-◌, ◌*◌, ◌<◌, ◌≤◌, ◌==◌, ◌&&◌, Bool, true, false, cond, nat_lt, List, [], ◌∷◌, length, take, drop, map, filter, slice_index, Some, refl, ap, sym, subst, arith, drop-cons, ltb-true, leb-true, eqb-true, eq-eqb, mul-le-mul_right}
use Rattle.std.proofs.lemmas.List.Elements.{All-nil, All-cons}
use Rattle.std.proofs.lemmas.List.Sums.{length-filter}
use Rattle.std.specs.Prelude.{count_by, All}
use Rattle.std.specs.List.{range_with_len}
use Rattle.archive_shape_layout.specs.Bytes.{window, word_at, target_from}
use Rattle.archive_shape_layout.specs.Shape.{Shape, size_of}
use Rattle.archive_shape_layout.specs.Shape.Shape.{table}
use Rattle.archive_shape_layout.specs.Value.{Value, Values}
use Rattle.archive_shape_layout.specs.Value.Value.{group}
use Rattle.archive_shape_layout.specs.Value.Values.{no_values}
use Rattle.archive_shape_layout.specs.Content.{Names, Part, Content, content_of, made, members, choose, shape_content, table_parts, buckets_content, buckets_span, control_count, tagged_items, item}
use Rattle.archive_shape_layout.specs.Content.Part.{at, buckets}
use Rattle.archive_shape_layout.specs.Content.Label.{same, whole}
use Rattle.archive_shape_layout.specs.Content.Content.{plain}
use Rattle.archive_shape_layout.specs.Holds.{Region, Visit, OpenShared, Holds, HoldAll, end_after}
use Rattle.archive_shape_layout.specs.Holds.HoldAll.{holds_more}
use Rattle.archive_shape_layout.specs.Visited.{ClaimedAfter}
use Rattle.archive_shape_layout.proofs.Unique.{by_plain, by_claimed}
use Rattle.archive_shape_layout.proofs.Framed.{le_align_up}
use Rattle.archive_shape_layout.proofs.Visited.{claimed_raised, claimed_front, claimed_later, claimed_inside}
use Rattle.archive_shape.proofs.Pieces.{length-window}
use Rattle.archive_shape.proofs.Inverted.{IsKnown, held_is_known}
use Rattle.archive_shape.proofs.Questions.{tested_known, followed_known}
use Rattle.archive_shape.specs.Key.{HeldAt}
use Rattle.archive_forms_laws.proofs.TextContent.{followed, chosen_no}
use Rattle.archive_forms_values.proofs.Targets.{first_word}
use Rattle.archive_forms_values.proofs.Inside.{none_held, one_held}
use Rattle.archive_forms_values.proofs.Pointed.{made_same, made_whole}
use Rattle.archive_hash_maps.specs.Tables.{Buckets, no_buckets, item_position, item_positions, AreItemsAt, IsTableOf, TableIsRead, OneTable}
use Rattle.archive_hash_maps.specs.Tables.IsTableAt.{has_none, has_buckets}
use Rattle.archive_shape_layout.proofs.Windows.{word_within}
use Rattle.archive_hash_maps.proofs.TableParts.{places_first}

both_true : (a b : Bool) → (a && b) ≡ true → (a ≡ true) × (b ≡ true)
both_true true b e = (refl, e)
both_true false b e = absurd cc

chosen : (b : Bool) (x y : Content) → b ≡ true → choose b x y ≡ x
unfolding choose
chosen true x y e = refl
chosen false x y e = absurd cc

controls_from : (controls : List ℕ) (n i : ℕ) → i < length controls → take (suc n) (drop i controls) ≡ slice_index controls i ∷ take n (drop (i + 1) controls)
controls_from controls n i less =
    let next : suc i ≡ i + 1 = omega arith in
    ap (take (suc n)) (drop-cons controls i 0 less) ∙ ap (λ j. slice_index controls i ∷ take n (drop j controls)) next

map_chosen : (b : Bool) (f : ℕ → ℕ) (i : ℕ) (ps : List ℕ) → map f (cond b (i ∷ ps) ps) ≡ cond b (f i ∷ map f ps) (map f ps)
map_chosen true f i ps = refl
map_chosen false f i ps = refl

-- ---- the items of a table

-- some value is at a position, and what it claims ascends before another
pub record HasBelow (s : Shape) (knows : Names → Type 0) (bytes : List ℕ) (low pos : ℕ) : Type 0 where
  pub value : Value
  pub held : HeldAt s knows bytes pos value
  pub below : ClaimedAfter held.names bytes held.before held.low low held.regions

module _ (s : Shape) (knows : Names → Type 0) (bytes : List ℕ) (names : Names) (known : knows names) (target cap : ℕ) (room : cap * size_of s ≤ target) (within : target ≤ length bytes) where
  -- the places from one on whose controls are tags
  abbrev Full : List ℕ → ℕ → ℕ → List ℕ
  Full controls n i = filter (λ p. nat_lt (slice_index controls p) 128) (range_with_len i n)

  -- values are at positions, and what they claim ascends before the buckets
  abbrev Below : List ℕ → Values → Type 0
  Below ps vs = AreItemsAt s knows bytes ps vs × All (HasBelow s knows bytes (target - cap * size_of s)) ps

  -- items that the layout has in order are at these positions
  abbrev Stand : List Part → List ℕ → Type 0
  Stand parts ps =
      (level low : ℕ) (inside : List OpenShared) (vs : Values) (regions : List Region) (before after : List Visit)
      → HoldAll names bytes level inside parts vs regions before after
      → ClaimedAfter names bytes before low (target - cap * size_of s) regions
      → Below ps vs

  -- an item before others
  item_before : (i : ℕ) (parts : List Part) (ps : List ℕ) → i < cap → Stand parts ps → Stand (at (item_position s target i) s ∷ parts) (item_position s target i ∷ ps)
  item_before i parts ps less others level low inside vs regions before after (holds_more {v = v} {vs = us} {here = rs} {later = later} {between = between} x rest made_of joined) claimed =
      let up : (i + 1) * size_of s ≤ cap * size_of s = mul-le-mul_right (size_of s) (omega (arith, less)) in
      let own : (i + 1) * size_of s ≡ i * size_of s + size_of s = omega arith in
      let claims = claimed_front later joined claimed in
      let first : HeldAt s knows bytes (item_position s target i) v =
      record {
        names = names;
        known = known;
        level = level;
        inside = inside;
        regions = rs;
        before = before;
        after = between;
        own_within = omega (arith, up, own, room, within);
        low = low;
        claimed = claimed_raised (omega (arith, up)) claims;
        holds = x;
      }
      in
      let behind = others level (end_after low rs) inside us later between after rest (claimed_later x joined claimed) in
      subst (Below (item_position s target i ∷ ps)) (sym made_of)
      ((first, behind.0), All-cons (HasBelow s knows bytes (target - cap * size_of s)) (item_position s target i) ps (record { value = v; held = first; below = claims }) behind.1)

  by_control : (b : Bool) (i : ℕ) (parts : List Part) (ps : List ℕ) → i < cap → Stand parts ps
      → Stand (cond b (at (item_position s target i) s ∷ parts) parts) (cond b (item_position s target i ∷ ps) ps)
  by_control true i parts ps less others = item_before i parts ps less others
  by_control false i parts ps less others = others

  items_stand : (controls : List ℕ) (n i : ℕ) → i + n ≤ cap → i + n ≤ length controls
      → Stand (tagged_items target (item s) i (take n (drop i controls))) (map (item_position s target) (Full controls n i))
  unfolding tagged_items
  items_stand controls zero i few long level low inside vs regions before after all ascends = let none = none_held names bytes all in subst (Below []) (sym none) (tt, All-nil (HasBelow s knows bytes (target - cap * size_of s)))
  items_stand controls (suc n) i few long level low inside vs regions before after all ascends =
      let listed = controls_from controls n i (omega (arith, long)) in
      let others = items_stand controls n (i + 1) (omega arith) (omega arith) in
      let b = nat_lt (slice_index controls i) 128 in
      let here =
      by_control b i (tagged_items target (item s) (i + 1) (take n (drop (i + 1) controls))) (map (item_position s target) (Full controls n (i + 1))) (omega (arith, few)) others level low inside vs regions before after
      (subst (λ cs. HoldAll names bytes level inside (tagged_items target (item s) i cs) vs regions before after) listed all) ascends
      in
      subst (λ ps. Below ps vs) (sym (map_chosen b (item_position s target) i (Full controls n (i + 1)))) here

-- ---- the table

tags_listed : (b : Bool) (c i : ℕ) (cs ps : List ℕ) → length cs ≡ length ps → length (cond b (c ∷ cs) cs) ≡ length (cond b (i ∷ ps) ps)
tags_listed true c i cs ps e = ap suc e
tags_listed false c i cs ps e = e

tags_of_full : (controls : List ℕ) (n i : ℕ) → i + n ≤ length controls
    → length (filter (λ c. nat_lt c 128) (take n (drop i controls))) ≡ length (filter (λ p. nat_lt (slice_index controls p) 128) (range_with_len i n))
tags_of_full controls zero i long = refl
tags_of_full controls (suc n) i long =
    let listed = controls_from controls n i (omega (arith, long)) in
    ap (λ cs. length (filter (λ c. nat_lt c 128) cs)) listed ∙ tags_listed (nat_lt (slice_index controls i) 128) _ i _ _ (tags_of_full controls n (i + 1) (omega arith))

full_count : (controls : List ℕ) (n : ℕ) → n ≤ length controls
    → count_by (λ c. nat_lt c 128) (take n controls) ≡ length (filter (λ p. nat_lt (slice_index controls p) 128) (range_with_len 0 n))
full_count controls n long = sym (length-filter (λ c. nat_lt c 128) (take n controls)) ∙ tags_of_full controls n 0 (omega arith)

-- a table is read, its controls do not begin after its position, and what its items claim ascends before its buckets
pub record IsRead (s : Shape) (knows : Names → Type 0) (bytes : List ℕ) (pos : ℕ) (value : Value) : Type 0 where
  pub of : IsTableOf s knows bytes pos value
  pub behind : of.buckets.target ≤ pos
  pub below : All (HasBelow s knows bytes (of.buckets.target - of.buckets.cap * size_of s)) (item_positions s of.buckets)

module _ (s : Shape) (knows : Names → Type 0) (bytes : List ℕ) (pos : ℕ) (value : Value) (h : HeldAt (table s) knows bytes pos value) where
  abbrev own : List ℕ
  own = window bytes pos 12

  len_is : word_at own 4 ≡ word_at bytes (pos + 4)
  len_is = word_within bytes pos 12 4 (omega arith)

  cap_is : word_at own 8 ≡ word_at bytes (pos + 8)
  cap_is = word_within bytes pos 12 8 (omega arith)

  offset_is : word_at own 0 ≡ word_at bytes pos
  offset_is = first_word bytes pos 12 (omega arith)

  -- the buckets that the table's pointer leads to in the layout
  record HasBuckets (target cap : ℕ) : Type 0 where
    leads : target_from pos (word_at own 0) ≡ Some target
    fewer : word_at own 4 < cap
    held : Holds h.names bytes h.level h.inside (buckets target (word_at own 4) cap (item s)) value h.regions h.before h.after

  behind_pointer : (word_at own 4 == 0) ≡ false → (target : ℕ) × HasBuckets target (word_at own 8)
  unfolding shape_content table_parts
  behind_pointer some =
      let is_some = λ (e : (word_at own 4 == 0) ≡ true). absurd cc in
      let content : content_of h.names bytes (at pos (table s)) ≡ table_parts pos own (item s) [] same = chosen_no _ _ _ is_some in
      let tested = tested_known _ _ (subst IsKnown content (held_is_known h.names bytes h.holds)) in
      let leads = followed_known _ _ tested.1 in
      let pointed = by_plain h.names bytes (content ∙ chosen _ _ _ tested.0 ∙ followed _ leads.0 _ leads.1) h.holds in
      let one = one_held h.names bytes pointed.all in
      let is : one.value ≡ value = made_same one.value value (subst (λ x. made same x ≡ Some value) one.is pointed.is_made) in (
        leads.0,
        record {
          leads = leads.1;
          fewer = ltb-true _ _ tested.0;
          held = subst (λ x. Holds h.names bytes h.level h.inside (buckets leads.0 (word_at own 4) (word_at own 8) (item s)) x h.regions h.before h.after) is one.holds;
        },
      )

  empty : (word_at own 4 == 0) ≡ true → IsRead s knows bytes pos value
  unfolding shape_content
  empty none =
      let content : content_of h.names bytes (at pos (table s)) ≡ plain whole [] = chosen _ _ _ none in
      let says = by_plain h.names bytes content h.holds in
      let is : value ≡ group no_values = made_whole _ value says.is_made ∙ ap group (none_held h.names bytes says.all) in
      record {
        of = record { buckets = no_buckets; table = has_none (sym len_is ∙ eqb-true _ 0 none) refl; items = subst (λ x. AreItemsAt s knows bytes [] (members x)) (sym is) tt };
        behind = omega arith;
        below = All-nil _;
      }

  with_buckets : (target cap : ℕ) → cap ≡ word_at own 8 → (word_at own 4 ≡ 0 → ⊥) → HasBuckets target cap → IsRead s knows bytes pos value
  unfolding buckets_content buckets_span
  with_buckets target cap cap_of some b =
      let controls = window bytes target (control_count cap) in
      let tested = tested_known _ _ (held_is_known h.names bytes b.held) in
      let room_and = both_true _ _ tested.0 in
      let wraps_and = both_true _ _ room_and.1 in
      let room : cap * size_of s ≤ target = leb-true _ _ room_and.0 in
      let claims = by_claimed h.names bytes (chosen _ _ _ tested.0) b.held in
      let inner = claimed_inside claims.regions_are h.claimed in
      let ends = inner.ends in
      let own_within = h.own_within in
      let within : target + control_count cap ≤ length bytes = omega (arith, ends, own_within, room) in
      let count : length controls ≡ control_count cap = length-window bytes target (control_count cap) within in
      let fits = places_first cap in
      let places : Buckets = record { target = target; cap = cap; controls = controls } in
      let value_is : value ≡ group claims.vs = made_whole claims.vs value claims.is_made in
      let items = items_stand s knows bytes h.names h.known target cap room (omega (arith, within)) controls cap 0 (omega arith) (omega (arith, count, fits)) (suc h.level) h.low h.inside claims.vs claims.within h.before h.after claims.all inner.claimed in
      record {
        of =
            record {
              buckets = places;
              table =
                  has_buckets (λ e. some (len_is ∙ e)) (ap (target_from pos) (sym offset_is) ∙ b.leads) (sym cap_is ∙ sym cap_of) (subst (λ n. n < cap) len_is b.fewer) refl within room
                  (record { count = count; repeated = wraps_and.0 })
                  (sym (full_count controls cap (omega (arith, count, fits))) ∙ eqb-true _ _ wraps_and.1 ∙ len_is);
              items = subst (λ x. AreItemsAt s knows bytes (item_positions s places) (members x)) (sym value_is) items.0;
            };
        behind = omega (arith, ends, room);
        below = items.1;
      }

  by_length : (b : Bool) → (word_at own 4 == 0) ≡ b → IsRead s knows bytes pos value
  by_length true is = empty is
  by_length false is =
      let b = behind_pointer is in
      with_buckets b.0 (word_at own 8) refl (λ e. let t = eq-eqb (word_at own 4) 0 e in absurd cc) b.1

pub is_read : (s : Shape) (knows : Names → Type 0) (bytes : List ℕ) (pos : ℕ) (value : Value) → HeldAt (table s) knows bytes pos value → IsRead s knows bytes pos value
is_read s knows bytes pos value h = by_length s knows bytes pos value h _ refl

pub table_is_read : (s : Shape) (knows : Names → Type 0) (bytes : List ℕ) → TableIsRead s knows bytes
table_is_read s knows bytes pos value h = (is_read s knows bytes pos value h).of

-- ---- one list of places

pub buckets_are : {t u n m : ℕ} {xs ys : List ℕ} → t ≡ u → n ≡ m → xs ≡ ys → (λ (b : Buckets). b) (record { target = t; cap = n; controls = xs }) ≡ record { target = u; cap = m; controls = ys }
buckets_are x y z = rw (x, y, z) refl

pub one_table : OneTable
one_table bytes s pos b c (has_none x y) (has_none u v) = y ∙ sym v
one_table bytes s pos b c (has_none x y) (has_buckets u d e f g i j k l) = absurd (u x)
one_table bytes s pos b c (has_buckets u d e f g i j k l) (has_none x y) = absurd (u x)
one_table bytes s pos b c (has_buckets u d e f g i j k l) (has_buckets v m n o p q r t w) =
    let target : b.target ≡ c.target = cc in
    let cap : b.cap ≡ c.cap = sym e ∙ n in
    let controls : b.controls ≡ c.controls = g ∙ (rw (target, cap) refl) ∙ sym p in
    buckets_are target cap controls
