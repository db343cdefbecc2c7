-- What stays the same of a table whose items, or the values of whose entries, are written over.
use Rattle.std.proofs.Common.{◌≡◌, ◌∙◌, ℕ, zero, ◌+◌, ◌-◌, ◌*◌, ◌<◌, ◌≤◌, List, [], ◌∷◌, ◌++◌, length, take, drop, map, All, inl, inr, refl, ap, sym, subst, arith, length-append, mul-le-mul_right}
use Rattle.std.specs.Prelude.{slice_index}
use Rattle.std.proofs.Math.Seq.{take-append_seam}
use Rattle.std.proofs.lemmas.Bool.{cases_lt}
use Rattle.std.proofs.lemmas.List.{ext_get_or, length-take-le, length-drop, places}
use Rattle.std.proofs.lemmas.List.Elements.{All-nil, All-map}
use Rattle.archive_shape_layout.specs.Bytes.{target_from, align_up}
use Rattle.archive_shape_layout.specs.Shape.{Shape, size_of, align_of, fields_end}
use Rattle.archive_shape_layout.specs.Shape.Shape.{table}
use Rattle.archive_shape_layout.specs.Shape.Shapes.{no_shapes, more_shapes}
use Rattle.archive_shape_layout.specs.Value.{Value, Values}
use Rattle.archive_shape_layout.specs.Value.Value.{group}
use Rattle.archive_shape_layout.specs.Value.Values.{more_values}
use Rattle.archive_shape_layout.specs.Content.{Names, control_count}
use Rattle.archive_shape_layout.specs.Laws.{AgreesOn}
use Rattle.archive_shape_layout.proofs.Framed.{frame, le_align_up}
use Rattle.archive_shape.specs.Bytes.{overwrite}
use Rattle.archive_shape_layout.proofs.PointerSizes.{first_multiple}
use Rattle.archive_shape.proofs.Written.{length-overwrite, byte_before}
use Rattle.archive_shape.specs.Key.{HeldAt}
use Rattle.archive_shape_layout.specs.Bytes.{IsOutside}
use Rattle.archive_shape_layout.proofs.SameBytes.{AreSame, word_same, window_same, regions_same}
use Rattle.archive_forms_values.specs.Tuples.{tuple2}
use Rattle.archive_forms_values.specs.Parts.{HasValue, both}
use Rattle.archive_forms_values.specs.Fields.{field, field_position}
use Rattle.archive_shape_layout.proofs.Visited.{AgreeBelow, regions_agree, claimed_same}
use Rattle.archive_forms_values.proofs.Held.{fields_at}
use Rattle.archive_hash_maps.specs.Tables.{Buckets, IsTableAt, item_position, item_positions, full_places}
use Rattle.archive_hash_maps.specs.Tables.IsTableAt.{has_none, has_buckets}
use Rattle.archive_hash_maps.specs.Walks.{DiffersAt, IsKept}
use Rattle.archive_hash_maps.proofs.Before.{held_before}
use Rattle.archive_hash_maps.proofs.Read.{HasBelow, is_read, one_table}
use Rattle.archive_hash_maps.proofs.Walked.{all_left, places_are}

-- ---- bytes that differ in pieces

pub nothing_written : (size : ℕ) (starts bytes : List ℕ) → DiffersAt size starts bytes bytes
nothing_written size starts bytes = record { same_length = refl; elsewhere = λ i out. refl }

same_bytes : (size : ℕ) (bytes others : List ℕ) → DiffersAt size [] bytes others → others ≡ bytes
same_bytes size bytes others d = ext_get_or 0 others bytes d.same_length (λ i below. d.elsewhere i (All-nil _))

byte_behind : (bytes : List ℕ) (at : ℕ) (piece : List ℕ) → at + length piece ≤ length bytes → (i : ℕ) → at + length piece ≤ i → slice_index (overwrite bytes at piece) i ≡ slice_index bytes i
byte_behind bytes at piece fits i h = grind (arith, places)

-- one piece is written over
pub piece_written : (size : ℕ) (starts : List ℕ) (at : ℕ) (start bytes own : List ℕ) → ((P : ℕ → Type 0) → All P starts → P at)
    → length own ≤ size → at + length own ≤ length bytes
    → DiffersAt size starts start bytes → DiffersAt size starts start (overwrite bytes at own)
piece_written size starts at start bytes own among few fits d =
    record {
      same_length = length-overwrite bytes at own fits ∙ d.same_length;
      elsewhere = λ i out.
          let apart = among (λ p. IsOutside p (p + size) i) out in
          elim (cases_lt i at) [
            | inl before ↦ byte_before bytes at own fits i before ∙ d.elsewhere i out
            | inr behind ↦
                let past = apart behind in
                byte_behind bytes at own fits i (omega arith) ∙ d.elsewhere i out
          ];
    }

-- bytes that are those of one list before a position, and those of another from there on
module _ (xs ys : List ℕ) (n : ℕ) (fits : n ≤ length xs) (room : n ≤ length ys) where
  spliced_length : length (take n xs ++ drop n ys) ≡ length ys
  spliced_length = omega (arith, length-append (take n xs) (drop n ys), length-take-le n xs fits, length-drop n ys, room)

  spliced_before : (i : ℕ) → i < n → slice_index (take n xs ++ drop n ys) i ≡ slice_index xs i
  spliced_before i less = grind (arith, places)

  spliced_behind : (i : ℕ) → n ≤ i → slice_index (take n xs ++ drop n ys) i ≡ slice_index ys i
  spliced_behind i from = grind (arith, places)

-- ---- the positions of items

module _ (s : Shape) (b : Buckets) (P : ℕ → Type 0) where
  pub all_items : ((p : ℕ) → p < b.cap → P (item_position s b.target p)) → All P (item_positions s b)
  all_items says = All-map P (item_position s b.target) (full_places b) (subst (All (λ p. P (item_position s b.target p))) (all_left b) (places_are (λ p. P (item_position s b.target p)) b says))

-- an item ends where the one of the place before begins, the first one at the controls
pub item_ends : (size target cap p : ℕ) → cap * size ≤ target → p < cap → (target - (p + 1) * size) + size ≡ target - p * size
item_ends size target cap p room below =
    let own : (p + 1) * size ≡ p * size + size = omega arith in
    let up : (p + 1) * size ≤ cap * size = mul-le-mul_right size (omega (arith, below)) in
    omega (arith, own, up, room)

-- of two places the item of the later one ends before that of the earlier one begins
pub items_apart : (size target p q : ℕ) → p < q → q * size ≤ target → target - q * size ≤ target - (p + 1) * size
items_apart size target p q less room = let up : (p + 1) * size ≤ q * size = mul-le-mul_right size (omega (arith, less)) in omega (arith, up)

pub place_fits : (size target cap p : ℕ) → cap * size ≤ target → p ≤ cap → p * size ≤ target
place_fits size target cap p room below = let up : p * size ≤ cap * size = mul-le-mul_right size below in omega (arith, up, room)

module _ (s : Shape) (b : Buckets) (room : b.cap * size_of s ≤ b.target) where
  -- none reaches the controls
  no_item_behind : (i : ℕ) → b.target ≤ i → All (λ p. IsOutside p (p + size_of s) i) (item_positions s b)
  no_item_behind i past =
      all_items s b (λ p. IsOutside p (p + size_of s) i) (λ p below from. let ends = item_ends (size_of s) b.target b.cap p room below in omega (arith, ends, past))

-- ---- the table

-- its controls do not begin after its position, and what its items claim ascends before its buckets
pub record Stands (s : Shape) (knows : Names → Type 0) (bytes : List ℕ) (pos : ℕ) (b : Buckets) : Type 0 where
  pub behind : b.target ≤ pos
  pub below : All (HasBelow s knows bytes (b.target - b.cap * size_of s)) (item_positions s b)

pub table_stands : (s : Shape) (knows : Names → Type 0) (bytes : List ℕ) (pos : ℕ) (b : Buckets) → HasValue (table s) knows bytes pos → IsTableAt bytes s pos b → Stands s knows bytes pos b
table_stands s knows bytes pos b has is =
    let r = is_read s knows bytes pos has.value has.held in
    subst (Stands s knows bytes pos) (one_table bytes s pos r.of.buckets b r.of.table is) (record { behind = r.behind; below = r.below })

-- after any write over its items, it has the same places
pub table_stays : (s : Shape) (knows : Names → Type 0) (bytes others : List ℕ) (pos : ℕ) (b : Buckets) → HasValue (table s) knows bytes pos
    → IsTableAt bytes s pos b → DiffersAt (size_of s) (item_positions s b) bytes others → IsTableAt others s pos b
table_stays s knows bytes others pos b has (has_none none is) d =
    let same = same_bytes (size_of s) bytes others (subst (λ x. DiffersAt (size_of s) (item_positions s x) bytes others) is d) in
    subst (λ bs. IsTableAt bs s pos b) (sym same) (has_none none is)
table_stays s knows bytes others pos b has (has_buckets some leads cap fewer controls within room are count) d =
    let behind = (table_stands s knows bytes pos b has (has_buckets some leads cap fewer controls within room are count)).behind in
    let same : AreSame bytes others b.target (b.target + (pos + 12 + control_count b.cap)) = λ i from to. d.elsewhere i (no_item_behind s b room i from) in
    let pointer = word_same bytes others pos (λ i le lt. same i (omega arith) (omega arith)) in
    let len = word_same bytes others (pos + 4) (λ i le lt. same i (omega arith) (omega arith)) in
    let places = word_same bytes others (pos + 8) (λ i le lt. same i (omega arith) (omega arith)) in
    let many = d.same_length in
    has_buckets (λ zero. some (sym len ∙ zero)) (ap (target_from pos) pointer ∙ leads) (places ∙ cap) (subst (λ n. n < b.cap) (sym len) fewer)
    (controls ∙ window_same bytes others b.target (control_count b.cap) within (omega (arith, many, within)) (λ i le lt. same i le (omega arith)))
    (omega (arith, many, within)) room are (count ∙ sym len)

-- ---- entries

-- an entry's value ends within the entry
pub value_ends : (k v : Shape) → align_up (size_of k) (align_of v) + size_of v ≤ size_of (tuple2 k v)
value_ends k v =
    let fields = more_shapes k (more_shapes v no_shapes) in
    let from : align_up 0 (align_of k) + size_of k ≡ size_of k = let zero = first_multiple (align_of k) in omega (arith, zero) in
    let same : fields_end fields 0 ≡ align_up (size_of k) (align_of v) + size_of v = ap (fields_end (more_shapes v no_shapes)) from in
    let padded = le_align_up (fields_end fields 0) (align_of (tuple2 k v)) in
    omega (arith, same, padded)

module _ (k v : Shape) where
  -- where values are written over, so are entries
  pub in_entries : (ps bytes others : List ℕ) → DiffersAt (size_of v) (map (field_position k no_shapes v) ps) bytes others → DiffersAt (size_of (tuple2 k v)) ps bytes others
  in_entries ps bytes others d =
      let ends = value_ends k v in
      record {
        same_length = d.same_length;
        elsewhere = λ i out.
            d.elsewhere i (All-map (λ q. IsOutside q (q + size_of v) i) (field_position k no_shapes v) ps
            (λ j e less from. let past = out j e less (omega (arith, from)) in omega (arith, past, ends)));
      }

  -- an entry's key
  record HasKey (knows : Names → Type 0) (bytes : List ℕ) (at : ℕ) (entry : Value) : Type 0 where
    key : Value
    others : Values
    is : entry ≡ group (more_values key others)
    held : HeldAt k knows bytes at key

  key_of : (knows others : Names → Type 0) (bytes : List ℕ) (at : ℕ) (entry : Value) → HeldAt (tuple2 k v) (both knows others) bytes at entry → HasKey knows bytes at entry
  key_of knows others bytes at entry h =
      let f = fields_at (field k knows ∷ field v others ∷ []) (both knows others) (λ names known. (known.0, (known.1, tt))) bytes at entry h in
      record { key = f.each.first; others = f.each.others; is = f.is ∙ ap group f.each.is; held = f.each.held }

  one_key : (entry a b : Value) (vs ws : Values) → entry ≡ group (more_values a vs) → entry ≡ group (more_values b ws) → a ≡ b
  one_key entry a b vs ws e f = cc

  module _ (knows others : Names → Type 0) (bytes written : List ℕ) (b : Buckets) (room : b.cap * size_of (tuple2 k v) ≤ b.target)
      (d : DiffersAt (size_of v) (map (field_position k no_shapes v) (item_positions (tuple2 k v) b)) bytes written) where
    abbrev size : ℕ
    size = size_of (tuple2 k v)

    -- what lies in no value is the same
    same_at : (i : ℕ) → ((q : ℕ) → q < b.cap → IsOutside (field_position k no_shapes v (item_position (tuple2 k v) b.target q)) (field_position k no_shapes v (item_position (tuple2 k v) b.target q) + size_of v) i)
        → slice_index written i ≡ slice_index bytes i
    same_at i out =
        d.elsewhere i (All-map (λ q. IsOutside q (q + size_of v) i) (field_position k no_shapes v) (item_positions (tuple2 k v) b)
        (all_items (tuple2 k v) b (λ at. IsOutside (field_position k no_shapes v at) (field_position k no_shapes v at + size_of v) i) out))

    -- so is what lies before the buckets
    same_before : AreSame bytes written 0 (b.target - b.cap * size)
    same_before i from to =
        same_at i (λ q below over. let up : (q + 1) * size_of (tuple2 k v) ≤ b.cap * size_of (tuple2 k v) = mul-le-mul_right (size_of (tuple2 k v)) (omega (arith, below)) in absurd (omega (arith, up, to, over)))

    module _ (p : ℕ) (less : p < b.cap) where
      abbrev at : ℕ
      at = item_position (tuple2 k v) b.target p

      -- and what lies in an entry before its value
      same_key : AreSame bytes written at (field_position k no_shapes v at)
      same_key i from to =
          let fits = value_ends k v in
          let here = item_ends size b.target b.cap p room less in
          same_at i (λ q below. let there = item_ends size b.target b.cap q room below in elim (cases_lt q p) [
            | inl earlier ↦ λ over. let apart = items_apart size b.target q p earlier (place_fits size b.target b.cap p room (omega (arith, less))) in absurd (omega (arith, apart, here, there, fits, to, over))
            | inr later ↦ elim (cases_lt p q) [
              | inl past ↦ λ over. let apart = items_apart size b.target p q past (place_fits size b.target b.cap q room (omega (arith, below))) in omega (arith, apart, here, there, fits, from)
              | inr same ↦ λ over. let is : q ≡ p = omega (arith, later, same) in absurd (let at_same = ap (item_position (tuple2 k v) b.target) is in omega (arith, at_same, to, over))
            ]
          ])

      -- with its value as it was, the entry is the same
      abbrev value_at : ℕ
      value_at = field_position k no_shapes v at

      abbrev restored : List ℕ
      restored = take value_at written ++ drop value_at bytes

      pub entry_kept : HasBelow (tuple2 k v) (both knows others) bytes (b.target - b.cap * size) at → IsKept k knows bytes (take value_at written) at
      entry_kept h =
          let fits = value_ends k v in
          let here = item_ends size b.target b.cap p room less in
          let inside = h.held.own_within in
          let many = d.same_length in
          let up : (p + 1) * size_of (tuple2 k v) ≤ b.cap * size_of (tuple2 k v) = mul-le-mul_right (size_of (tuple2 k v)) (omega (arith, less)) in
          let low : b.target - b.cap * size ≤ at = omega (arith, up) in
          let in_written : value_at ≤ length written = omega (arith, inside, fits, many) in
          let in_bytes : value_at ≤ length bytes = omega (arith, inside, fits) in
          let front : length (take value_at written) ≡ value_at = length-take-le value_at written in_written in
          let long : length restored ≡ length bytes = spliced_length written bytes value_at in_written in_bytes in
          let before : (i : ℕ) → i < value_at → slice_index restored i ≡ slice_index written i = spliced_before written bytes value_at in_written in_bytes in
          let behind : (i : ℕ) → value_at ≤ i → slice_index restored i ≡ slice_index bytes i = spliced_behind written bytes value_at in_written in_bytes in
          let own : AgreesOn bytes restored at size = window_same bytes restored at size inside (omega (arith, inside, long)) (λ i from to. elim (cases_lt i value_at) [
            | inl lower ↦ before i lower ∙ same_key i from lower
            | inr upper ↦ behind i upper
          ]) in
          let agree : AgreeBelow bytes restored (b.target - b.cap * size) = λ start n to.
          window_same bytes restored start n (omega (arith, to, low, inside)) (omega (arith, to, low, inside, long)) (λ i from below. before i (omega (arith, to, below, low)) ∙ same_before i (omega arith) (omega (arith, to, below)))
          in
          let begins = h.below.below in
          let claimed = regions_agree h.held.low (b.target - b.cap * size) h.held.regions agree h.below.ascends in
          let held : HeldAt (tuple2 k v) (both knows others) restored at h.value = record {
            names = h.held.names;
            known = h.held.known;
            level = h.held.level;
            inside = h.held.inside;
            regions = h.held.regions;
            before = h.held.before;
            after = h.held.after;
            own_within = omega (arith, inside, long);
            low = h.held.low;
            claimed = claimed_same (λ start n to. agree start n (omega (arith, to, begins))) h.held.claimed;
            holds = frame bytes restored h.held.names own claimed h.held.holds;
          } in
          let was = key_of knows others bytes at h.value h.held in
          let now = key_of knows others restored at h.value held in
          let one = one_key h.value now.key was.key now.others was.others now.is was.is in
          let cut : take value_at restored ≡ take value_at written = ap (λ n. take n restored) (sym front) ∙ take-append_seam (take value_at written) (drop value_at bytes) in
          let padded = le_align_up (size_of k) (align_of v) in
          record {
            value = was.key;
            was = was.held;
            is = subst (λ bs. HeldAt k knows bs at was.key) cut (held_before k knows restored at value_at was.key (omega (arith, long, inside, fits)) (omega (arith, padded)) (subst (HeldAt k knows restored at) one now.held));
          }
