-- A table is read as it is written: the law of tables is that of each item.
use Rattle.std.proofs.Common.{◌≡◌, ◌∙◌, ℕ, suc, ◌+◌, ◌<◌, ◌≤◌, ◌==◌, ◌^◌, nat_lt, Bool, true, false, Option, Some, None, List, [], ◌∷◌, ◌++◌, length, map, refl, ap, sym, subst, arith, inl, inr, add-zero, eqb-true, lt-ltb}
use Rattle.std.specs.List.{All}
use Rattle.std.specs.Int.{w32, to_le_bytes}
use Rattle.std.proofs.lemmas.List.{length-map}
use Rattle.std.proofs.lemmas.List.Elements.{All-nil, All-cons}
use Rattle.archive_shape_layout.specs.Bytes.{window, word_at, target_from}
use Rattle.archive_shape_layout.specs.Shape.{Shape}
use Rattle.archive_shape_layout.specs.Shape.Shape.{table}
use Rattle.archive_shape_layout.specs.Value.{count_values}
use Rattle.archive_shape_layout.specs.Value.Value.{group}
use Rattle.archive_shape_layout.specs.Value.Values.{more_values, no_values}
use Rattle.archive_shape_layout.specs.Content.{Names, made, choose, following, content_of, control_count, shape_content, table_parts}
use Rattle.archive_shape_layout.specs.Content.Item.{item}
use Rattle.archive_shape_layout.specs.Content.Part.{at, buckets}
use Rattle.archive_shape_layout.specs.Content.Label.{whole, same}
use Rattle.archive_shape_layout.specs.Content.Content.{plain, illegal}
use Rattle.archive_shape_layout.specs.Holds.{OpenShared, Ascends}
use Rattle.archive_shape_layout.specs.Holds.Holds.{holds_plain}
use Rattle.archive_shape_layout.specs.Holds.HoldAll.{holds_none}
use Rattle.archive_shape_canonical.proofs.Choosing.{asked_map}
use Rattle.archive_shape_canonical.specs.Settled.{Fit, IsAsked, IsSettled}
use Rattle.archive_shape_canonical.specs.FirstFit.{present}
use Rattle.archive_shape_canonical.specs.Seen.{keys_alone}
use Rattle.archive_shape_canonical.specs.Sharing.{all_erased}
use Rattle.archive_shape_canonical.proofs.Choosing.{count_keys_alone, erased_by_keys}
use Rattle.archive_shape_canonical.proofs.Cleanness.{clean_by}
use Rattle.archive_shape.specs.Bytes.{HasBytes}
use Rattle.archive_shape.proofs.Pieces.{stands_left, stands_right, stands_word}
use Rattle.archive_shape_layout.specs.declared.error.Error.{Error}
use Rattle.archive_forms_laws.specs.State.{State, Keys, visits_of, IsConsistent, AllFrom, AreKeyedBy}
use Rattle.archive_forms_laws.specs.Spelling.{Spelling, state_after}
use Rattle.archive_forms_laws.specs.Spells.{CanonicalPart, EachSpells, SpellsAt, Spells}
use Rattle.archive_forms_laws.specs.Regions.{state_after_all, values, plain_values, all_suit}
use Rattle.archive_forms_laws.specs.Links.{link_bytes, LinkFits}
use Rattle.archive_forms_laws.proofs.Gaps.{bytes_none, bytes_append, bytes_word}
use Rattle.archive_forms_laws.proofs.Links.{link_small, link_exact, length-link}
use Rattle.archive_forms_laws.proofs.Pointers.{offset_stands, one_part}
use Rattle.archive_forms_laws.proofs.Regions.{state_after_all_keyed}
use Rattle.archive_forms_laws.proofs.States.{consistent_advanced}
use Rattle.archive_forms_laws.proofs.Unshared.{each_unshared}
use Rattle.archive_forms_laws.proofs.Views.{each_spells}
use Rattle.archive_hash_writing.specs.Fitted.{capacity_of, places_of, table_of, by_place, controls_of}
use Rattle.archive_hash_writing.specs.Tables.{controls_at, filled_piece, filled_fits, hashed_spelling, table_spelling}
use Rattle.archive_hash_writing.proofs.SpellingPresent.{each_placed}
use Rattle.archive_hash_writing.proofs.SpellingFitting.{length-table, length-by_place, above, controls_of_table}
use Rattle.archive_hash_writing.proofs.SpellingFilled.{AreControlsOf, FilledStands, filled_bytes, filled_consistent, filled_exact, filled_stands, filled_canonical, controls_read}
use Rattle.archive_shape_layout.proofs.Windows.{word_within}

-- ---- a table's own bytes

pub length-own : (controls : Option ℕ) (pos len cap : ℕ) → length (link_bytes controls pos ++ (to_le_bytes w32 len ++ to_le_bytes w32 cap)) ≡ 12
length-own None pos len cap = refl
length-own (Some to) pos len cap = refl

-- the position of each of its numbers, in own bytes that begin with the table's
pub record OwnRead (bytes : List ℕ) (controls : Option ℕ) (pos size len cap : ℕ) : Type 0 where
  pub link_stands : HasBytes bytes pos (link_bytes controls pos)
  pub len_is : word_at (window bytes pos size) 4 ≡ len
  pub cap_is : word_at (window bytes pos size) 8 ≡ cap

pub own_read : (bytes : List ℕ) (controls : Option ℕ) (pos size len cap : ℕ) → 12 ≤ size → len < 2 ^ 32 → cap < 2 ^ 32 → HasBytes bytes pos (link_bytes controls pos ++ (to_le_bytes w32 len ++ to_le_bytes w32 cap)) → OwnRead bytes controls pos size len cap
own_read bytes controls pos size len cap room few small s =
    let link = link_bytes controls pos in
    let four : length link ≡ 4 = length-link controls pos in
    let rest = stands_right bytes pos link (to_le_bytes w32 len ++ to_le_bytes w32 cap) (pos + 4) (omega (arith, four)) s in
    let len_stands = stands_left bytes (pos + 4) (to_le_bytes w32 len) (to_le_bytes w32 cap) rest in
    let cap_stands = stands_right bytes (pos + 4) (to_le_bytes w32 len) (to_le_bytes w32 cap) (pos + 8) (omega arith) rest in
    record {
      link_stands = stands_left bytes pos link (to_le_bytes w32 len ++ to_le_bytes w32 cap) s;
      len_is = word_within bytes pos size 4 (omega (arith, room)) ∙ stands_word bytes (pos + 4) len few len_stands;
      cap_is = word_within bytes pos size 8 (omega (arith, room)) ∙ stands_word bytes (pos + 8) cap small cap_stands;
    }

module _ (names : Names) (bytes : List ℕ) (s : Shape) (pos : ℕ) where
  -- they are read as a table without items, or as buckets
  empty_content : word_at (window bytes pos 12) 4 ≡ 0 → content_of names bytes (at pos (table s)) ≡ plain whole []
  unfolding shape_content choose
  empty_content e = ap (λ n. choose (n == 0) (plain whole []) (table_parts pos (window bytes pos 12) (item s) [] same)) e

  parts_content : (own : List ℕ) (len cap to : ℕ) → word_at own 4 ≡ len → word_at own 8 ≡ cap → len < cap → target_from pos (word_at own 0) ≡ Some to
      → table_parts pos own (item s) [] same ≡ plain same (buckets to len cap (item s) ∷ [])
  unfolding table_parts choose following
  parts_content own len cap to e f less target =
      (λ i. choose (nat_lt (e i) (f i)) (following (target i) (λ t. plain same (buckets t (e i) (f i) (item s) ∷ []))) illegal)
      ∙ ap (λ b. choose b (plain same (buckets to len cap (item s) ∷ [])) illegal) (lt-ltb len cap less)

  pub filled_content : (len cap to : ℕ) → word_at (window bytes pos 12) 4 ≡ len → word_at (window bytes pos 12) 8 ≡ cap → 0 < len → len < cap → target_from pos (word_at (window bytes pos 12) 0) ≡ Some to
      → content_of names bytes (at pos (table s)) ≡ plain same (buckets to len cap (item s) ∷ [])
  unfolding shape_content choose
  filled_content len cap to e f some less target =
      ap (λ n. choose (n == 0) (plain whole []) (table_parts pos (window bytes pos 12) (item s) [] same)) e
      ∙ ap (λ b. choose b (plain whole []) (table_parts pos (window bytes pos 12) (item s) [] same)) (tested (len == 0) refl)
      ∙ parts_content (window bytes pos 12) len cap to e f less target
    where
      tested : (b : Bool) → (len == 0) ≡ b → (len == 0) ≡ false
      tested false f = f
      tested true f = let none = eqb-true len 0 f in absurd (omega (arith, none, some))

pub count_of : {A R : Type 0} (w : Spelling A R) (xs : List A) (st : State) → count_values (values w xs st) ≡ length xs
count_of w [] st = refl
count_of w (x ∷ xs) st = let rest = count_of w xs (state_after w x st) in omega (arith, rest)

module _ {A R : Type 0} (fit : Fit) (s : Shape) (knows : Names → Type 0) (w : Spelling A R) (most places : ℕ) (hashes : List ℕ) where
  -- a table without items
  empty_canonical :
      (st : State) (pos : ℕ) (names : Names) (bytes : List ℕ) (level : ℕ) (inside : List OpenShared)
      → HasBytes bytes pos (link_bytes None pos ++ (to_le_bytes w32 0 ++ to_le_bytes w32 0))
      → CanonicalPart fit names bytes level inside (visits_of st.met) (visits_of st.met) (at pos (table s)) (group no_values) st.pos (st.pos + 0)
  unfolding made Ascends
  empty_canonical st pos names bytes level inside q =
      let read = own_read bytes None pos 12 0 0 (omega arith) (omega arith) (omega arith) q in
      let one : word_at (window bytes pos 12) 0 ≡ 1 = word_within bytes pos 12 0 (omega arith) ∙ ap (word_at bytes) (add-zero pos) ∙ stands_word bytes pos 1 (omega arith) read.link_stands in
      let c = empty_content names bytes s pos read.len_is in
      record {
        regions = [];
        reads = record {
          holds = holds_plain c tt (holds_none refl refl refl) refl;
          canonical = (clean_by names bytes (at pos (table s)) (plain whole []) c (λ i h. inl h) (λ z. (one, read.cap_is)), tt, tt);
          ends = sym (add-zero st.pos);
        };
        ascends = tt;
        gaps = λ i h z. absurd (omega (arith, h, z));
      }

  empty_spells : SpellsAt fit (table s) knows (hashed_spelling most places s w hashes) []
  empty_spells = record {
    sized = λ r pos f. length-own r pos 0 0;
    canonical = λ st pos names keys bytes level inside kn n known state over f o p q. empty_canonical st pos names bytes level inside q;
    consistent = λ st h f. consistent_advanced st 0 h;
    keyed = λ keys st n known f. (refl, known);
    piece_bytes = λ st f. bytes_none;
    own_bytes = λ r pos f. bytes_append (link_bytes r pos) _ (link_small r pos) (bytes_append (to_le_bytes w32 0) (to_le_bytes w32 0) (bytes_word 0) (bytes_word 0));
    piece_exact = λ st e f r. r;
    own_exact = λ r pos e f g. refused r pos e f g;
    unshared = λ none keys. (tt, tt);
  }
    where
      refused : (r : Option ℕ) (pos : ℕ) (e : Error) → (hashed_spelling most places s w hashes).own_fits [] r pos → (hashed_spelling most places s w hashes).own_refused [] r pos e → ⊥
      refused r pos e f (inl g) = link_exact r pos e f.0 g
      refused r pos e f (inr g) = let h = g.0 in omega (arith, h)

  -- a table that has items, which are at places
  module _ (os : List (Option A)) (controls : List ℕ) (len capacity : ℕ) (each : EachSpells fit s knows w (present os)) (are : AreControlsOf os controls)
      (count : length (present os) ≡ len) (long : length os ≡ capacity) (some : 0 < len) (room : len < capacity) where
    -- a fit fills it so, as its items are seen by their keys
    abbrev IsFilledSo : Type 0
    IsFilledSo =
        let keys = keys_alone (plain_values w (present os)) in
        (fit.capacity len ≡ capacity) × (fit.table_controls keys ≡ controls) × (fit.table_items keys ≡ keys)

    abbrev IsFilledHere : Type 0
    IsFilledHere = IsAsked fit.binds IsFilledSo

    buckets_settled : (st : State) (bytes : List ℕ) (pos : ℕ)
        → all_erased (values w (present os) st) ≡ plain_values w (present os)
        → IsFilledHere
        → FilledStands fit s knows w os controls each st bytes
        → IsSettled fit bytes (at pos (table s)) (buckets (controls_at s w os st) len capacity (item s) ∷ []) (more_values (group (values w (present os) st)) no_values)
    buckets_settled st bytes pos same_plain filled stands =
        let t = controls_at s w os st in
        let vs = values w (present os) st in
        let alike : all_erased (keys_alone vs) ≡ keys_alone (plain_values w (present os)) = erased_by_keys (group vs) ∙ ap keys_alone same_plain in
        let read : window bytes t (control_count capacity) ≡ controls = ap (λ n. window bytes t (control_count n)) (sym long) ∙ controls_read fit s knows w os controls each st bytes are stands in asked_map fit.binds (λ filled. (
          count_keys_alone vs ∙ count_of w (present os) st ∙ count,
          sym filled.0,
          read ∙ sym filled.1 ∙ ap fit.table_controls (sym alike),
          alike ∙ sym filled.2 ∙ ap fit.table_items (sym alike),
        )) filled

    table_canonical :
        (st : State) (pos : ℕ) (names : Names) (keys : Keys) (bytes : List ℕ) (level : ℕ) (inside : List OpenShared)
        → knows names
        → all_suit w fit keys (present os)
        → IsFilledHere
        → AreKeyedBy keys st.met
        → IsConsistent st
        → AllFrom (st.pos + length (filled_piece s w os controls st)) inside
        → filled_fits s w os controls st
        → LinkFits (Some (controls_at s w os st)) pos
        → capacity < 2 ^ 32
        → HasBytes bytes st.pos (filled_piece s w os controls st)
        → HasBytes bytes pos (link_bytes (Some (controls_at s w os st)) pos ++ (to_le_bytes w32 len ++ to_le_bytes w32 capacity))
        → CanonicalPart fit names bytes level inside (visits_of st.met) (visits_of (state_after_all w (present os) st).met) (at pos (table s)) (group (values w (present os) st)) st.pos (st.pos + length (filled_piece s w os controls st))
    unfolding made
    table_canonical st pos names keys bytes level inside kn n filled known state over f link small p q =
        let t = controls_at s w os st in
        let v = group (values w (present os) st) in
        let read = own_read bytes (Some t) pos 12 len capacity (omega arith) (omega arith) small q in
        let target = offset_stands bytes pos t 12 (omega arith) link read.link_stands in
        let c = filled_content names bytes s pos len capacity t read.len_is read.cap_is some room target in
        let stands = filled_stands fit s knows w os controls each st bytes f p in
        let told = state_after_all_keyed fit s knows w (present os) each keys st n known f.1 in
        let P : ℕ → ℕ → Type 0 = λ a b. CanonicalPart fit names bytes level inside (visits_of st.met) (visits_of (state_after_all w (present os) st).met) (buckets t a b (item s)) v st.pos (st.pos + length (filled_piece s w os controls st)) in
        let below = subst (P len) long (subst (λ a. P a (length os)) count (filled_canonical fit s knows w os controls each st names keys bytes level inside are kn n known state over f stands)) in
        one_part (at pos (table s)) (buckets t len capacity (item s)) same v v st.pos _ c tt refl
        (clean_by names bytes (at pos (table s)) (plain same (buckets t len capacity (item s) ∷ [])) c (λ i o. inl o) (λ z. absurd (let none : len ≡ 0 = sym read.len_is ∙ z in omega (arith, none, some))))
        (buckets_settled st bytes pos told.0 filled stands)
        below

  module _ (x : A) (xs : List A) (even : length hashes ≡ suc (length xs)) (tags : All (λ h. h < 2 ^ 64) hashes) (each : EachSpells fit s knows w (by_place most places hashes (x ∷ xs))) where
    abbrev standing : List (Option A)
    standing = table_of most places hashes (x ∷ xs)

    abbrev written : List ℕ
    written = controls_of most places hashes (x ∷ xs)

    are_written : AreControlsOf standing written
    are_written = controls_of_table most places hashes (x ∷ xs) even (omega arith) tags

    filled_spells : SpellsAt fit (table s) knows (hashed_spelling most places s w hashes) (x ∷ xs)
    filled_spells = record {
      sized = λ r pos f. length-own r pos _ _;
      canonical = λ st pos names keys bytes level inside kn n known state over f o p q.
          table_canonical standing written (length (x ∷ xs)) (capacity_of most places hashes (x ∷ xs)) each are_written
          (length-by_place most places hashes (x ∷ xs) even (omega arith)) (length-table most places hashes (x ∷ xs)) (omega arith) (above most places hashes (x ∷ xs) even (omega arith))
          st pos names keys bytes level inside kn n.0 n.1 known state over f o.0 o.1 p q;
      consistent = λ st h f. filled_consistent fit s knows w standing written each st h f;
      keyed = λ keys st n known f. let both = state_after_all_keyed fit s knows w (by_place most places hashes (x ∷ xs)) each keys st n.0 known f.1 in (ap group both.0, both.1);
      piece_bytes = λ st f. filled_bytes fit s knows w standing written each st are_written.each_is f;
      own_bytes = λ r pos f. bytes_append (link_bytes r pos) _ (link_small r pos) (bytes_append (to_le_bytes w32 (length (x ∷ xs))) (to_le_bytes w32 (capacity_of most places hashes (x ∷ xs))) (bytes_word (length (x ∷ xs))) (bytes_word (capacity_of most places hashes (x ∷ xs))));
      piece_exact = λ st e f r. filled_exact fit s knows w standing written each st e f r;
      own_exact = λ r pos e f g. refused r pos e f g;
      unshared = λ none keys. (each_unshared fit s knows w (by_place most places hashes (x ∷ xs)) each none keys, tt);
    }
      where
        refused : (r : Option ℕ) (pos : ℕ) (e : Error) → (hashed_spelling most places s w hashes).own_fits (x ∷ xs) r pos → (hashed_spelling most places s w hashes).own_refused (x ∷ xs) r pos e → ⊥
        refused r pos e f (inl g) = link_exact r pos e f.0 g
        refused r pos e f (inr g) = let h = g.0 in let small = f.1 in omega (arith, h, small)

  -- the law of a table is that of each of its items by place
  pub hashed_spells_at : (xs : List A) → length hashes ≡ length xs → All (λ h. h < 2 ^ 64) hashes → EachSpells fit s knows w (by_place most places hashes xs) → SpellsAt fit (table s) knows (hashed_spelling most places s w hashes) xs
  hashed_spells_at [] even tags each = empty_spells
  hashed_spells_at (x ∷ xs) even tags each = filled_spells x xs even tags each

  -- in each order of these
  pub hashed_spells_of : (xs : List A) → length hashes ≡ length xs → All (λ h. h < 2 ^ 64) hashes → EachSpells fit s knows w xs → SpellsAt fit (table s) knows (hashed_spelling most places s w hashes) xs
  hashed_spells_of xs even tags each = hashed_spells_at xs even tags (each_placed fit s knows w (capacity_of most places hashes xs) xs (places_of most places hashes xs) each)

-- and so for all tables whose items have hashes
pub table_spells : {A R : Type 0} (fit : Fit) (s : Shape) (knows : Names → Type 0) (w : Spelling A R) (most places : ℕ) (hash : A → ℕ) → ((x : A) → hash x < 2 ^ 64) → Spells fit s knows w
    → Spells fit (table s) knows (table_spelling most places s w hash)
table_spells {A = A} fit s knows w most places hash small h xs = record {
  sized = one.sized;
  canonical = one.canonical;
  consistent = one.consistent;
  keyed = one.keyed;
  piece_bytes = one.piece_bytes;
  own_bytes = one.own_bytes;
  piece_exact = one.piece_exact;
  own_exact = one.own_exact;
  unshared = one.unshared;
}
  where
    hashes_small : (ys : List A) → All (λ n. n < 2 ^ 64) (map hash ys)
    hashes_small [] = All-nil (λ n. n < 2 ^ 64)
    hashes_small (y ∷ ys) = All-cons (λ n. n < 2 ^ 64) (hash y) (map hash ys) (small y) (hashes_small ys)

    one : SpellsAt fit (table s) knows (hashed_spelling most places s w (map hash xs)) xs
    one = hashed_spells_of fit s knows w most places (map hash xs) xs (length-map xs hash) (hashes_small xs) (each_spells fit s knows w h xs)
