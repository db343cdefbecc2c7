-- An index map is read as it is written: the law of index maps is that of each entry.
use Rattle.std.proofs.Common.{◌≡◌, ◌∙◌, ℕ, zero, suc, ◌+◌, ◌-◌, ◌*◌, ◌<◌, ◌≤◌, ◌==◌, ◌^◌, nat_lt, Bool, true, false, cond, Option, Some, None, List, [], ◌∷◌, ◌++◌, length, map, refl, ap, sym, subst, arith, inl, inr, add-zero, eqb-true, lt-ltb, length-append}
use Rattle.std.specs.Prelude.{⊤}
use Rattle.std.specs.List.{All, range_with_len, cons_option}
use Rattle.std.specs.Int.{w32, to_le_bytes}
use Rattle.std.proofs.lemmas.List.{length-map}
use Rattle.std.proofs.lemmas.List.Elements.{All-nil, All-cons}
use Rattle.std.proofs.lemmas.List.FromFn.{length-range_with_len}
use Rattle.archive_shape_layout.specs.Bytes.{window, word_at, target_from, align_up}
use Rattle.archive_shape_layout.specs.Shape.{Shape}
use Rattle.archive_shape_layout.specs.Shape.Shape.{table, index_map, vector}
use Rattle.archive_shape_layout.specs.Shape.Pointee.{slice}
use Rattle.archive_shape_layout.specs.Value.Value.{natural, group}
use Rattle.archive_shape_layout.specs.Value.Values.{more_values, no_values}
use Rattle.archive_shape_layout.specs.Content.{Names, made, choose, following, content_of, control_count, shape_content, table_parts, buckets_content}
use Rattle.archive_shape_layout.specs.Content.Item.{item, place}
use Rattle.archive_shape_layout.specs.Content.Part.{at, behind, buckets}
use Rattle.archive_shape_layout.specs.Content.Label.{whole, second}
use Rattle.archive_shape_layout.specs.Content.Content.{plain, illegal}
use Rattle.archive_shape_layout.specs.Holds.{OpenShared, Ascends}
use Rattle.archive_shape_layout.specs.Holds.Holds.{holds_plain}
use Rattle.archive_shape_layout.specs.Holds.HoldAll.{holds_none}
use Rattle.archive_shape_canonical.proofs.Choosing.{asked_map}
use Rattle.archive_shape_canonical.specs.Settled.{Fit, IsSettled, naturals}
use Rattle.archive_shape_canonical.specs.Canonical.{AreBytes}
use Rattle.archive_shape_canonical.specs.FirstFit.{capacity_for, item_at, placed, present}
use Rattle.archive_shape_canonical.specs.Seen.{keys_alone}
use Rattle.archive_shape_canonical.specs.Sharing.{all_erased}
use Rattle.archive_shape_canonical.proofs.Choosing.{count_keys_alone, erased_by_keys}
use Rattle.archive_shape_canonical.proofs.Cleanness.{clean_by}
use Rattle.archive_shape.specs.Bytes.{HasBytes}
use Rattle.archive_shape.proofs.Pieces.{stands_left, stands_right, stands_word}
use Rattle.archive_shape_layout.proofs.Windows.{word_within}
use Rattle.archive_shape_layout.specs.declared.error.Error.{Error}
use Rattle.archive_forms_values.specs.Tuples.{tuple2}
use Rattle.archive_forms_laws.specs.State.{State, Keys, visits_of, IsConsistent, AllFrom, AreKeyedBy}
use Rattle.archive_forms_laws.specs.Spelling.{Spelling, state_after}
use Rattle.archive_forms_laws.specs.Spells.{CanonicalPart, EachSpells, SpellsAt, Spells}
use Rattle.archive_forms_laws.specs.Regions.{state_after_all, values, plain_values, all_suit, region_at, region_piece}
use Rattle.archive_forms_laws.specs.Links.{link_bytes}
use Rattle.archive_forms_laws.specs.Pointers.{slice_spelling}
use Rattle.archive_forms_laws.proofs.Gaps.{bytes_none, bytes_append}
use Rattle.archive_forms_laws.proofs.Leaves.{leaf_spells}
use Rattle.archive_forms_laws.proofs.Links.{link_small, link_exact, length-link}
use Rattle.archive_forms_laws.proofs.Pointers.{offset_stands, slice_spells_at}
use Rattle.archive_forms_laws.proofs.Regions.{state_after_all_keyed, state_after_all_pos, region_end, region_up, slice_canonical, no_parts, more_parts}
use Rattle.archive_forms_laws.proofs.States.{consistent_further, from_earlier}
use Rattle.archive_forms_laws.proofs.Unshared.{each_unshared, pair_unshared}
use Rattle.archive_forms_laws.proofs.Views.{each_spells}
use Rattle.archive_hash_writing.specs.Fitted.{capacity_of, places_of, table_of, controls_of}
use Rattle.archive_forms_laws.specs.Sample.{number_shape, number_spelling}
use Rattle.archive_hash_writing.specs.Tables.{controls_at}
use Rattle.archive_hash_writing.proofs.SpellingFitting.{length-table, length-by_place, above, controls_of_table}
use Rattle.archive_hash_writing.proofs.SpellingFilled.{AreControlsOf, filled_stands, filled_canonical, controls_read, legal_buckets}
use Rattle.archive_hash_writing.proofs.SpellingTables.{count_of, hashed_spells_of, length-own, own_read}
use Rattle.archive_hash_writing.specs.IndexMaps.{numbers, numbers_spelling, state_behind, map_spelling, index_spelling, IsKeptBy}
use Rattle.archive_hash_writing.proofs.IndexPlaces.{AreBelow, numbers_as_places}

-- ---- numbers

-- they have no data, and meet no shared values
pub numbers_met : (ns : List ℕ) (st : State) → (state_after_all number_spelling ns st).met ≡ st.met
numbers_met [] st = refl
numbers_met (n ∷ ns) st = numbers_met ns (state_after number_spelling n st)

pub numbers_pos : (ns : List ℕ) (st : State) → (state_after_all number_spelling ns st).pos ≡ st.pos
numbers_pos [] st = refl
numbers_pos (n ∷ ns) st = numbers_pos ns (state_after number_spelling n st) ∙ add-zero st.pos

pub numbers_are : (ns : List ℕ) (st : State) → values number_spelling ns st ≡ naturals ns
numbers_are [] st = refl
numbers_are (n ∷ ns) st = ap (more_values (natural n)) (numbers_are ns (state_after number_spelling n st))

numbers_suit : (fit : Fit) (keys : Keys) (ns : List ℕ) → all_suit number_spelling fit keys ns
numbers_suit fit keys [] = tt
numbers_suit fit keys (n ∷ ns) = (tt, numbers_suit fit keys ns)

-- a number's key is the number
pub numbers_alone : (ns : List ℕ) → keys_alone (naturals ns) ≡ naturals ns
numbers_alone [] = refl
numbers_alone (n ∷ ns) = ap (more_values (natural n)) (numbers_alone ns)

-- all below a limit
abbrev LowNumbers : ℕ → List ℕ → Type 0
LowNumbers limit [] = ⊤
LowNumbers limit (n ∷ ns) = (n < limit) × LowNumbers limit ns

range_low : (i n limit : ℕ) → i + n ≤ limit → LowNumbers limit (range_with_len i n)
range_low i zero limit h = tt
range_low i (suc n) limit h = (omega (arith, h), range_low (i + 1) n limit (omega (arith, h)))

low_values : (limit : ℕ) (ns : List ℕ) → LowNumbers limit ns → AreBelow limit (naturals ns)
low_values limit [] h = tt
low_values limit (n ∷ ns) h = (record { number = n; is = refl; below = h.0 }, low_values limit ns h.1)

module _ (limit : ℕ) where
  abbrev LowIf : Option ℕ → Type 0
  LowIf None = ⊤
  LowIf (Some n) = n < limit

  low_there : (ns qs : List ℕ) (p : ℕ) → LowNumbers limit ns → LowIf (item_at ns qs p)
  low_there [] qs p h = tt
  low_there (n ∷ ns) [] p h = tt
  low_there (n ∷ ns) (q ∷ qs) p h = tested (q == p) h.0 (low_there ns qs p h.1)
    where
      tested : (b : Bool) → n < limit → LowIf (item_at ns qs p) → LowIf (cond b (Some n) (item_at ns qs p))
      tested true here later = here
      tested false here later = later

  low_present : (ns qs ps : List ℕ) → LowNumbers limit ns → LowNumbers limit (present (map (item_at ns qs) ps))
  low_present ns qs [] h = tt
  low_present ns qs (p ∷ ps) h = more (item_at ns qs p) (low_there ns qs p h) (low_present ns qs ps h)
    where
      more : (o : Option ℕ) → LowIf o → LowNumbers limit (present (map (item_at ns qs) ps)) → LowNumbers limit (cons_option o (present (map (item_at ns qs) ps)))
      more None k l = l
      more (Some m) k l = (k, l)

  low_placed : (cap : ℕ) (ns qs : List ℕ) → LowNumbers limit ns → LowNumbers limit (present (placed cap qs ns))
  low_placed cap ns qs h = low_present ns qs (range_with_len 0 cap) h

-- ---- a map's own bytes

-- they begin with those of its table, and the pointer to its entries is behind these
entries_stand : (bytes : List ℕ) (controls entries : Option ℕ) (pos len cap : ℕ) → HasBytes bytes pos ((link_bytes controls pos ++ (to_le_bytes w32 len ++ to_le_bytes w32 cap)) ++ link_bytes entries (pos + 12)) → HasBytes bytes (pos + 12) (link_bytes entries (pos + 12))
entries_stand bytes controls entries pos len cap s =
    let own = link_bytes controls pos ++ (to_le_bytes w32 len ++ to_le_bytes w32 cap) in
    stands_right bytes pos own (link_bytes entries (pos + 12)) (pos + 12) (omega (arith, length-own controls pos len cap)) s

table_stands : (bytes : List ℕ) (controls entries : Option ℕ) (pos len cap : ℕ) → HasBytes bytes pos ((link_bytes controls pos ++ (to_le_bytes w32 len ++ to_le_bytes w32 cap)) ++ link_bytes entries (pos + 12)) → HasBytes bytes pos (link_bytes controls pos ++ (to_le_bytes w32 len ++ to_le_bytes w32 cap))
table_stands bytes controls entries pos len cap s = stands_left bytes pos (link_bytes controls pos ++ (to_le_bytes w32 len ++ to_le_bytes w32 cap)) (link_bytes entries (pos + 12)) s

module _ (names : Names) (bytes : List ℕ) (k v : Shape) (pos : ℕ) where
  abbrev own : List ℕ
  own = window bytes pos 16

  -- own bytes are read as a map without entries, or as a table of the numbers of entries, and entries
  empty_content : word_at own 4 ≡ 0 → content_of names bytes (at pos (index_map k v)) ≡ plain whole []
  unfolding shape_content choose
  empty_content e =
      ap (λ n. choose (n == 0) (plain whole []) (following (target_from (pos + 12) (word_at own 12)) (λ t. table_parts pos own (place n) (behind t (slice (tuple2 k v)) n ∷ []) second))) e

  pub filled_content : (len cap to start : ℕ) → word_at own 4 ≡ len → word_at own 8 ≡ cap → 0 < len → len < cap → target_from pos (word_at own 0) ≡ Some to → target_from (pos + 12) (word_at own 12) ≡ Some start
      → content_of names bytes (at pos (index_map k v)) ≡ plain second (buckets to len cap (place len) ∷ (behind start (slice (tuple2 k v)) len ∷ []))
  unfolding shape_content choose following table_parts
  filled_content len cap to start e f some less target leads =
      ap (λ n. choose (n == 0) (plain whole []) (following (target_from (pos + 12) (word_at own 12)) (λ t. table_parts pos own (place n) (behind t (slice (tuple2 k v)) n ∷ []) second))) e
      ∙ ap (λ b. choose b (plain whole []) (following (target_from (pos + 12) (word_at own 12)) (λ t. table_parts pos own (place len) (behind t (slice (tuple2 k v)) len ∷ []) second))) (tested (len == 0) refl)
      ∙ ap (λ o. following o (λ t. table_parts pos own (place len) (behind t (slice (tuple2 k v)) len ∷ []) second)) leads
      ∙ (λ i. choose (nat_lt (e i) (f i)) (following (target i) (λ t. plain second (buckets t (e i) (f i) (place len) ∷ (behind start (slice (tuple2 k v)) len ∷ [])))) illegal)
      ∙ ap (λ b. choose b (plain second (buckets to len cap (place len) ∷ (behind start (slice (tuple2 k v)) len ∷ []))) illegal) (lt-ltb len cap less)
    where
      tested : (b : Bool) → (len == 0) ≡ b → (len == 0) ≡ false
      tested false f = f
      tested true f = let none = eqb-true len 0 f in absurd (omega (arith, none, some))

-- ---- the law

module _ {A R : Type 0} (fit : Fit) (k v : Shape) (knows : Names → Type 0) (w : Spelling A R) (most places : ℕ) (hashes : List ℕ) where
  abbrev pair : Shape
  pair = tuple2 k v

  abbrev spelled : Spelling (List A) (Option ℕ × Option ℕ)
  spelled = map_spelling most places pair w hashes

  abbrev table_spelled : Spelling (List ℕ) (Option ℕ)
  table_spelled = numbers_spelling most places pair w hashes

  number_spells : Spells fit number_shape knows number_spelling
  number_spells = leaf_spells fit number_shape knows (to_le_bytes w32) natural tt

  module _ (xs : List A) (even : length hashes ≡ length xs) (tags : All (λ h. h < 2 ^ 64) hashes) (each : EachSpells fit pair knows w xs) where
    length-numbers : length (numbers xs) ≡ length xs
    length-numbers = length-range_with_len 0 (length xs)

    table_law : SpellsAt fit (table number_shape) knows table_spelled (numbers xs)
    table_law = hashed_spells_of fit number_shape knows number_spelling most places hashes (numbers xs) (even ∙ sym length-numbers) tags (each_spells fit number_shape knows number_spelling number_spells (numbers xs))

    sized_own : (r : Option ℕ × Option ℕ) (pos : ℕ) → spelled.own_fits xs r pos → length (spelled.own xs r pos) ≡ 16
    sized_own r pos f =
        let first = table_law.sized r.0 pos f.0 in
        let link = length-link r.1 (pos + 12) in
        length-append (table_spelled.own (numbers xs) r.0 pos) (link_bytes r.1 (pos + 12)) ∙ omega (arith, first, link)

    own_small : (r : Option ℕ × Option ℕ) (pos : ℕ) → spelled.own_fits xs r pos → AreBytes (spelled.own xs r pos)
    own_small r pos f = bytes_append (table_spelled.own (numbers xs) r.0 pos) (link_bytes r.1 (pos + 12)) (table_law.own_bytes r.0 pos f.0) (link_small r.1 (pos + 12))

    own_not_refused : (r : Option ℕ × Option ℕ) (pos : ℕ) (e : Error) → spelled.own_fits xs r pos → spelled.own_refused xs r pos e → ⊥
    own_not_refused r pos e f (inl g) = table_law.own_exact r.0 pos e f.0 g
    own_not_refused r pos e f (inr g) = link_exact r.1 (pos + 12) e f.1 g

  -- a map without entries
  empty_canonical :
      (st : State) (pos : ℕ) (names : Names) (bytes : List ℕ) (level : ℕ) (inside : List OpenShared)
      → HasBytes bytes pos ((link_bytes None pos ++ (to_le_bytes w32 0 ++ to_le_bytes w32 0)) ++ link_bytes None (pos + 12))
      → CanonicalPart fit names bytes level inside (visits_of st.met) (visits_of st.met) (at pos (index_map k v)) (group no_values) st.pos (st.pos + 0)
  unfolding made Ascends
  empty_canonical st pos names bytes level inside q =
      let read = own_read bytes None pos 16 0 0 (omega arith) (omega arith) (omega arith) (table_stands bytes None None pos 0 0 q) in
      let one : word_at (window bytes pos 16) 0 ≡ 1 = word_within bytes pos 16 0 (omega arith) ∙ ap (word_at bytes) (add-zero pos) ∙ stands_word bytes pos 1 (omega arith) read.link_stands in
      let other : word_at (window bytes pos 16) 12 ≡ 1 = word_within bytes pos 16 12 (omega arith) ∙ stands_word bytes (pos + 12) 1 (omega arith) (entries_stand bytes None None pos 0 0 q) in
      let c = empty_content names bytes k v pos read.len_is in
      record {
        regions = [];
        reads = record {
          holds = holds_plain c tt (holds_none refl refl refl) refl;
          canonical = (clean_by names bytes (at pos (index_map k v)) (plain whole []) c (λ i h. inl h) (λ z. (one, read.cap_is, other)), tt, tt);
          ends = sym (add-zero st.pos);
        };
        ascends = tt;
        gaps = λ i h z. absurd (omega (arith, h, z));
      }

  empty_spells : length hashes ≡ 0 → All (λ h. h < 2 ^ 64) hashes → SpellsAt fit (index_map k v) knows spelled []
  empty_spells even tags = record {
    sized = sized_own [] even tags tt;
    canonical = λ st pos names keys bytes level inside kn n known state over f o p q. empty_canonical st pos names bytes level inside q;
    consistent = λ st h f. consistent_further st (st.pos + 0) st.begun (omega arith) refl h;
    keyed = λ keys st n known f. (refl, known);
    piece_bytes = λ st f. bytes_none;
    own_bytes = own_small [] even tags tt;
    piece_exact = λ st e f r. r;
    own_exact = own_not_refused [] even tags tt;
    unshared = λ none keys. (tt, tt);
  }

  -- a map that has entries
  module _ (x : A) (xs : List A) (even : length hashes ≡ length (x ∷ xs)) (tags : All (λ h. h < 2 ^ 64) hashes) (each : EachSpells fit pair knows w (x ∷ xs)) where
    abbrev all : List A
    all = x ∷ xs

    abbrev ns : List ℕ
    ns = numbers all

    abbrev len : ℕ
    len = length all

    abbrev standing : List (Option ℕ)
    standing = table_of most places hashes ns

    abbrev written : List ℕ
    written = controls_of most places hashes ns

    abbrev behind_table : State → State
    behind_table st = state_behind most places pair w hashes all st

    even_numbers : length hashes ≡ length ns
    even_numbers = even ∙ sym (length-numbers all even tags each)

    are_written : AreControlsOf standing written
    are_written = controls_of_table most places hashes ns even_numbers (let n = length-numbers all even tags each in omega (arith, n)) tags

    count : length (present standing) ≡ len
    count = length-by_place most places hashes ns even_numbers (let n = length-numbers all even tags each in omega (arith, n)) ∙ length-numbers all even tags each

    long : length standing ≡ capacity_of most places hashes ns
    long = length-table most places hashes ns

    room : len < capacity_of most places hashes ns
    room = let up = above most places hashes ns even_numbers (let n = length-numbers all even tags each in omega (arith, n)) in let n = length-numbers all even tags each in omega (arith, up, n)

    law : SpellsAt fit (table number_shape) knows table_spelled ns
    law = table_law all even tags each

    entries_law : SpellsAt fit (vector pair) knows (slice_spelling pair w) all
    entries_law = slice_spells_at fit pair knows w all each

    each_number : EachSpells fit number_shape knows number_spelling (present standing)
    each_number = each_spells fit number_shape knows number_spelling number_spells (present standing)

    met_is : (st : State) → (behind_table st).met ≡ st.met
    met_is st = numbers_met (present standing) st

    -- where the data of the map ends
    ends_at : (st : State) → st.pos + length (spelled.piece all st) ≡ (behind_table st).pos + length (region_piece w pair all (behind_table st))
    ends_at st = let both = length-append (table_spelled.piece ns st) (region_piece w pair all (behind_table st)) in omega (arith, both)

    -- the table of the numbers of entries
    table_canonical :
        (st : State) (names : Names) (keys : Keys) (bytes : List ℕ) (level : ℕ) (inside : List OpenShared)
        → knows names
        → AreKeyedBy keys st.met
        → IsConsistent st
        → AllFrom (behind_table st).pos inside
        → table_spelled.piece_fits ns st
        → HasBytes bytes st.pos (table_spelled.piece ns st)
        → CanonicalPart fit names bytes level inside (visits_of st.met) (visits_of (behind_table st).met) (buckets (controls_at number_shape number_spelling standing st) len (capacity_of most places hashes ns) (place len)) (group (naturals (present standing))) st.pos (behind_table st).pos
    table_canonical st names keys bytes level inside kn known state over f p =
        let t = controls_at number_shape number_spelling standing st in
        let stands = filled_stands fit number_shape knows number_spelling standing written each_number st bytes f p in
        let first = filled_canonical fit number_shape knows number_spelling standing written each_number st names keys bytes level inside are_written kn (numbers_suit fit keys (present standing)) known state over f stands in
        let named = subst (λ vs. CanonicalPart fit names bytes level inside (visits_of st.met) (visits_of (behind_table st).met) (buckets t (length (present standing)) (length standing) (item number_shape)) (group vs) st.pos (behind_table st).pos) (numbers_are (present standing) st) first in
        let read = controls_read fit number_shape knows number_spelling standing written each_number st bytes are_written stands in
        let legal = ap (buckets_content t (length (present standing)) (length standing) (item number_shape)) read ∙ legal_buckets standing written t number_shape are_written (omega arith) in
        let begins : t - length standing * 4 ≡ align_up st.pos 4 = subst (λ z. t - length standing * 4 ≡ align_up z 4) (numbers_pos (present standing) st) (omega arith) in
        let low = low_values len (present standing) (low_placed len (capacity_of most places hashes ns) ns (places_of most places hashes ns) (range_low 0 len len (omega arith))) in
        let turned = numbers_as_places fit names bytes len t (length (present standing)) (length standing) level inside (visits_of st.met) (visits_of (behind_table st).met) (naturals (present standing)) st.pos (behind_table st).pos _ _ _ legal begins low named in
        let P : ℕ → ℕ → Type 0 = λ a b. CanonicalPart fit names bytes level inside (visits_of st.met) (visits_of (behind_table st).met) (buckets t a b (place len)) (group (naturals (present standing))) st.pos (behind_table st).pos in
        subst (P len) long (subst (λ a. P a (length standing)) count turned)

    -- what a fit says of the table and of the entries
    map_settled : (st : State) (bytes : List ℕ) (pos t start cap : ℕ)
        → capacity_of most places hashes ns ≡ cap
        → window bytes t (control_count cap) ≡ written
        → all_erased (values w all (behind_table st)) ≡ plain_values w all
        → IsKeptBy most places pair w hashes fit all
        → IsSettled fit bytes (at pos (index_map k v)) (buckets t len cap (place len) ∷ (behind start (slice pair) len ∷ [])) (more_values (group (naturals (present standing))) (more_values (group (values w all (behind_table st))) no_values))
    map_settled st bytes pos t start cap same read same_plain kept =
        let vs = values w all (behind_table st) in
        let alike : all_erased (keys_alone vs) ≡ keys_alone (plain_values w all) = erased_by_keys (group vs) ∙ ap keys_alone same_plain in
        let caps : capacity_of most places hashes ns ≡ capacity_of most places hashes all = ap (λ n. capacity_for n most places) (length-numbers all even tags each) in asked_map fit.binds (λ kept. (
          count_keys_alone vs ∙ count_of w all (behind_table st),
          sym same ∙ caps ∙ sym kept.0,
          read ∙ sym kept.1 ∙ ap fit.map_controls (sym alike),
          ap group (numbers_alone (present standing) ∙ ap naturals (sym kept.2 ∙ ap fit.map_numbers (sym alike))),
        )) kept

    filled_map :
        (st : State) (pos : ℕ) (names : Names) (keys : Keys) (bytes : List ℕ) (level : ℕ) (inside : List OpenShared)
        → knows names
        → spelled.suits fit keys all
        → AreKeyedBy keys st.met
        → IsConsistent st
        → AllFrom (state_after spelled all st).pos inside
        → spelled.piece_fits all st
        → spelled.own_fits all (spelled.resolver all st) pos
        → HasBytes bytes st.pos (spelled.piece all st)
        → HasBytes bytes pos (spelled.own all (spelled.resolver all st) pos)
        → CanonicalPart fit names bytes level inside (visits_of st.met) (visits_of (spelled.met all st)) (at pos (index_map k v)) (spelled.value all st) st.pos (state_after spelled all st).pos
    unfolding made
    filled_map st pos names keys bytes level inside kn n known state over f o p q =
        let cap = capacity_of most places hashes ns in
        let st₁ = behind_table st in
        let t = controls_at number_shape number_spelling standing st in
        let start = region_at w pair all st₁ in
        let a = table_spelled.piece ns st in
        let b = region_piece w pair all st₁ in
        let ends = ends_at st in
        let end = region_end fit pair knows w all each st₁ f.1 in
        let up = region_up fit pair knows w all st₁ in
        let at_data = state_after_all_pos fit pair knows w all st₁ in
        let n_len = length-numbers all even tags each in
        let a_stands = stands_left bytes st.pos a b p in
        let b_stands = stands_right bytes st.pos a b st₁.pos refl p in
        let known₁ = subst (AreKeyedBy keys) (sym (met_is st)) known in
        let state₁ = law.consistent st state f.0 in
        let first = table_canonical st names keys bytes level inside kn known state (from_earlier inside st₁.pos (state_after spelled all st).pos (omega (arith, ends)) over) f.0 a_stands in
        let rest = slice_canonical fit pair knows w all each st₁ names keys bytes level inside kn n.0 known₁ state₁ (from_earlier inside (state_after_all w all st₁).pos (state_after spelled all st).pos (omega (arith, ends, end, up)) over) f.1 b_stands in
        let high = st₁.pos + length b in
        let parts = more_parts (visits_of st.met) (visits_of st₁.met) (visits_of (state_after_all w all st₁).met) (buckets t len cap (place len)) (behind start (slice pair) len ∷ []) (group (naturals (present standing))) (more_values (group (values w all st₁)) no_values) st.pos st₁.pos high (omega arith) (omega arith) first
        (more_parts (visits_of st₁.met) (visits_of (state_after_all w all st₁).met) (visits_of (state_after_all w all st₁).met) (behind start (slice pair) len) [] (group (values w all st₁)) no_values st₁.pos high high (omega arith) (omega arith) rest (no_parts (visits_of (state_after_all w all st₁).met) high)) in
        let small : cap < 2 ^ 32 = o.0.1 in
        let own_is : HasBytes bytes pos ((link_bytes (Some t) pos ++ (to_le_bytes w32 len ++ to_le_bytes w32 cap)) ++ link_bytes (Some start) (pos + 12)) =
        subst (λ m. HasBytes bytes pos ((link_bytes (Some t) pos ++ (to_le_bytes w32 m ++ to_le_bytes w32 cap)) ++ link_bytes (Some start) (pos + 12))) n_len q in
        let read = own_read bytes (Some t) pos 16 len cap (omega arith) (omega (arith, small, room)) small (table_stands bytes (Some t) (Some start) pos len cap own_is) in
        let target = offset_stands bytes pos t 16 (omega arith) o.0.0 read.link_stands in
        let leads : target_from (pos + 12) (word_at (window bytes pos 16) 12) ≡ Some start =
        ap (target_from (pos + 12)) (word_within bytes pos 16 12 (omega arith) ∙ sym (ap (word_at bytes) (add-zero (pos + 12))) ∙ sym (word_within bytes (pos + 12) 4 0 (omega arith))) ∙ offset_stands bytes (pos + 12) start 4 (omega arith) o.1 (entries_stand bytes (Some t) (Some start) pos len cap own_is) in
        let c = filled_content names bytes k v pos len cap t start read.len_is read.cap_is (omega arith) room target leads in
        let stands = filled_stands fit number_shape knows number_spelling standing written each_number st bytes f.0 a_stands in
        let controls_are : window bytes t (control_count cap) ≡ written = ap (λ m. window bytes t (control_count m)) (sym long) ∙ controls_read fit number_shape knows number_spelling standing written each_number st bytes are_written stands in
        let told = state_after_all_keyed fit pair knows w all each keys st₁ n.0 known₁ f.1.0 in
        subst (λ h. CanonicalPart fit names bytes level inside (visits_of st.met) (visits_of (spelled.met all st)) (at pos (index_map k v)) (spelled.value all st) st.pos h) (sym ends)
        (record {
          regions = parts.regions;
          reads = record {
            holds = holds_plain c tt parts.hold refl;
            canonical = (
              clean_by names bytes (at pos (index_map k v)) (plain second (buckets t len cap (place len) ∷ (behind start (slice pair) len ∷ []))) c (λ i h. inl h)
                  (λ z. absurd (let none : len ≡ 0 = sym read.len_is ∙ z in omega (arith, none))),
              map_settled st bytes pos t start cap refl controls_are told.0 n.1,
              parts.canonical,
            );
            ends = parts.ends;
          };
          ascends = parts.ascends;
          gaps = parts.gaps;
        })

    filled_spells : SpellsAt fit (index_map k v) knows spelled all
    filled_spells = record {
      sized = sized_own all even tags each;
      canonical = filled_map;
      consistent = λ st h f.
          let first = law.consistent st h f.0 in
          let rest = entries_law.consistent (behind_table st) first f.1 in
          let ends = ends_at st in
          consistent_further (state_after (slice_spelling pair w) all (behind_table st)) (st.pos + length (spelled.piece all st)) st.begun (omega (arith, ends)) refl rest;
      keyed = λ keys st n known f. entries_law.keyed keys (behind_table st) n.0 (subst (AreKeyedBy keys) (sym (met_is st)) known) f.1;
      piece_bytes = λ st f. bytes_append (table_spelled.piece ns st) (region_piece w pair all (behind_table st)) (law.piece_bytes st f.0) (entries_law.piece_bytes (behind_table st) f.1);
      own_bytes = own_small all even tags each;
      piece_exact = not_refused;
      own_exact = own_not_refused all even tags each;
      unshared = λ none keys. (each_unshared fit pair knows w all each (pair_unshared k v none) keys, tt);
    }
      where
        not_refused : (st : State) (e : Error) → spelled.piece_fits all st → spelled.piece_refused all st e → ⊥
        not_refused st e f (inl r) = law.piece_exact st e f.0 r
        not_refused st e f (inr r) = entries_law.piece_exact (behind_table st) e f.1 r

  -- the law of an index map is that of each of its entries
  pub map_spells_of : (xs : List A) → length hashes ≡ length xs → All (λ h. h < 2 ^ 64) hashes → EachSpells fit pair knows w xs → SpellsAt fit (index_map k v) knows spelled xs
  map_spells_of [] even tags each = empty_spells even tags
  map_spells_of (x ∷ xs) even tags each = filled_spells x xs even tags each

-- where the hash of an entry follows from the entry
pub index_spells_at : {A R : Type 0} (fit : Fit) (k v : Shape) (knows : Names → Type 0) (w : Spelling A R) (most places : ℕ) (hash : A → ℕ) (xs : List A) → All (λ h. h < 2 ^ 64) (map hash xs)
    → EachSpells fit (tuple2 k v) knows w xs → SpellsAt fit (index_map k v) knows (index_spelling most places (tuple2 k v) w hash) xs
index_spells_at fit k v knows w most places hash xs small each =
    let one = map_spells_of fit k v knows w most places (map hash xs) xs (length-map xs hash) small each in
    record {
      sized = one.sized;
      canonical = one.canonical;
      consistent = one.consistent;
      keyed = one.keyed;
      piece_bytes = one.piece_bytes;
      own_bytes = one.own_bytes;
      piece_exact = one.piece_exact;
      own_exact = one.own_exact;
      unshared = one.unshared;
    }

-- so of all maps of such entries
pub index_spells : {A R : Type 0} (fit : Fit) (k v : Shape) (knows : Names → Type 0) (w : Spelling A R) (most places : ℕ) (hash : A → ℕ) → ((x : A) → hash x < 2 ^ 64) → Spells fit (tuple2 k v) knows w
    → Spells fit (index_map k v) knows (index_spelling most places (tuple2 k v) w hash)
index_spells {A = A} fit k v knows w most places hash small h xs = index_spells_at fit k v knows w most places hash xs (hashes_small xs) (each_spells fit (tuple2 k v) knows w h xs)
  where
    hashes_small : (ys : List A) → All (λ n. n < 2 ^ 64) (map hash ys)
    hashes_small [] = All-nil (λ n. n < 2 ^ 64)
    hashes_small (y ∷ ys) = All-cons (λ n. n < 2 ^ 64) (hash y) (map hash ys) (small y) (hashes_small ys)
