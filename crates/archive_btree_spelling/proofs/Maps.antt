-- A map is read as it is written: the law of maps is that of each key and each value.
use Rattle.std.proofs.Common.{◌≡◌, ◌∙◌, ℕ, ◌+◌, ◌<◌, ◌≤◌, ◌==◌, cond, Bool, true, false, Option, Some, None, List, [], ◌∷◌, ◌++◌, length, refl, ap, sym, subst, arith, inl, inr, add-zero, eq-eqb, eqb-true}
use Rattle.std.specs.Int.{w32, to_le_bytes}
use Rattle.archive_shape_layout.specs.Bytes.{window, word_at, target_from}
use Rattle.archive_shape_layout.specs.Shape.{Shape}
use Rattle.archive_shape_layout.specs.Shape.Shape.{tree}
use Rattle.archive_shape_layout.specs.Value.{Value, Values, count_values}
use Rattle.archive_shape_layout.specs.Value.Value.{group}
use Rattle.archive_shape_layout.specs.Value.Values.{no_values, more_values}
use Rattle.archive_shape_layout.specs.Content.{Names, made, members, choose, following, content_of, shape_content}
use Rattle.archive_shape_layout.specs.Content.Part.{at, node}
use Rattle.archive_shape_layout.specs.Content.Label.{whole, total}
use Rattle.archive_shape_layout.specs.Content.Content.{plain}
use Rattle.archive_shape_layout.specs.Holds.{OpenShared, Ascends}
use Rattle.archive_shape_layout.specs.Holds.Holds.{holds_plain}
use Rattle.archive_shape_layout.specs.Holds.HoldAll.{holds_none}
use Rattle.archive_shape_canonical.specs.Settled.{Fit, HasItems}
use Rattle.archive_shape_canonical.specs.Seen.{by_keys}
use Rattle.archive_shape_canonical.specs.Packed.{levels_for}
use Rattle.archive_shape_canonical.proofs.Cleanness.{clean_by}
use Rattle.archive_shape.specs.Bytes.{HasBytes}
use Rattle.archive_shape.proofs.Pieces.{stands_left, stands_right, stands_word}
use Rattle.archive_shape_layout.specs.declared.error.Error.{Error}
use Rattle.archive_forms_laws.specs.State.{State, Keys, visits_of, IsConsistent, AllFrom, AreKeyedBy}
use Rattle.archive_forms_laws.specs.Spelling.{Spelling, state_after}
use Rattle.archive_forms_laws.specs.Spells.{CanonicalPart, SpellsAt, Spells}
use Rattle.archive_forms_laws.specs.Regions.{all_suit}
use Rattle.archive_forms_laws.proofs.Gaps.{bytes_append, bytes_word}
use Rattle.archive_forms_laws.proofs.Pointers.{offset_stands, one_part}
use Rattle.archive_forms_laws.proofs.Links.{link_small, link_exact}
use Rattle.archive_forms_laws.specs.Links.{link_bytes, LinkFits}
use Rattle.archive_btree_spelling.specs.Written.{entry_spelling}
use Rattle.archive_btree_spelling.specs.Maps.{packed_spelling, btree_spelling}
use Rattle.archive_btree_spelling.proofs.Levels.{levels_of_words}
use Rattle.archive_btree_spelling.proofs.Slots.{EachEntrySpells, entries_unshared}
use Rattle.archive_btree_spelling.proofs.Trees.{TreeSpells, count_keys_alone}
use Rattle.archive_btree_spelling.proofs.Forest.{packed_spells}
use Rattle.archive_shape_layout.proofs.Windows.{word_within}

length-map : (o : Option ℕ) (pos n : ℕ) → length (link_bytes o pos ++ to_le_bytes w32 n) ≡ 8
length-map None pos n = refl
length-map (Some to) pos n = refl

module _ (names : Names) (bytes : List ℕ) (most : ℕ) (k v : Shape) (pos : ℕ) where
  -- a map's own bytes are read as its length and the position of its root
  empty_content : word_at (window bytes pos 8) 4 ≡ 0 → content_of names bytes (at pos (tree most k v)) ≡ plain whole []
  unfolding shape_content choose
  empty_content e =
      ap (λ n. choose (n == 0) (plain whole []) (following (target_from pos (word_at (window bytes pos 8) 0)) (λ t. plain (total n) (node 1 most k v t ∷ [])))) e

  pub rooted_content : (n root : ℕ) → word_at (window bytes pos 8) 4 ≡ n → 0 < n → target_from pos (word_at (window bytes pos 8) 0) ≡ Some root
      → content_of names bytes (at pos (tree most k v)) ≡ plain (total n) (node 1 most k v root ∷ [])
  unfolding shape_content choose following
  rooted_content n root e some target =
      ap (λ m. choose (m == 0) (plain whole []) (following (target_from pos (word_at (window bytes pos 8) 0)) (λ t. plain (total m) (node 1 most k v t ∷ [])))) e
      ∙ ap (λ b. choose b (plain whole []) (following (target_from pos (word_at (window bytes pos 8) 0)) (λ t. plain (total n) (node 1 most k v t ∷ [])))) (not_zero n some)
      ∙ ap (λ z. following z (λ t. plain (total n) (node 1 most k v t ∷ []))) target
    where
      tested : (m : ℕ) → 0 < m → (b : Bool) → (m == 0) ≡ b → (m == 0) ≡ false
      tested m h false f = f
      tested m h true f = let zero_is = eqb-true m 0 f in absurd (omega (arith, h, zero_is))

      not_zero : (m : ℕ) → 0 < m → (m == 0) ≡ false
      not_zero m h = tested m h (m == 0) refl

-- the items of a map are as many as its length says
made_total : (n : ℕ) (v : Value) (items : Values) → v ≡ group items → count_values items ≡ n → made (total n) (more_values v no_values) ≡ Some v
unfolding made
made_total n v items is count = ap (λ b. cond b (Some v) None) (eq-eqb (count_values (members v)) n (ap (λ z. count_values (members z)) is ∙ count))

-- a map without items is read as it is written, regardless of what its nodes may hold
module _ (fit : Fit) (most : ℕ) (k v : Shape) (names : Names) (bytes : List ℕ) (level : ℕ) (inside : List OpenShared) (st : State) (pos : ℕ) where
  nothing_read :
      word_at (window bytes pos 8) 4 ≡ 0 → word_at (window bytes pos 8) 0 ≡ 1
      → CanonicalPart fit names bytes level inside (visits_of st.met) (visits_of st.met) (at pos (tree most k v)) (group no_values) st.pos st.pos
  unfolding made Ascends
  nothing_read len one =
      let c = empty_content names bytes most k v pos len in
      record {
        regions = [];
        reads = record {
          holds = holds_plain c tt (holds_none refl refl refl) refl;
          canonical = (clean_by names bytes (at pos (tree most k v)) (plain whole []) c (λ i h. inl h) (λ z. one), tt, tt);
          ends = refl;
        };
        ascends = tt;
        gaps = λ i h z. absurd (omega (arith, h, z));
      }

  -- the length 0 after the offset 1
  nothing_there : (n : ℕ) → n ≡ 0 → HasBytes bytes pos (link_bytes None pos ++ to_le_bytes w32 n) → (word_at (window bytes pos 8) 4 ≡ 0) × (word_at (window bytes pos 8) 0 ≡ 1)
  nothing_there n none b =
      let low : HasBytes bytes pos (to_le_bytes w32 1) = stands_left bytes pos (to_le_bytes w32 1) (to_le_bytes w32 n) b in
      let high : HasBytes bytes (pos + 4) (to_le_bytes w32 n) = stands_right bytes pos (to_le_bytes w32 1) (to_le_bytes w32 n) (pos + 4) refl b in (
        word_within bytes pos 8 4 (omega arith) ∙ stands_word bytes (pos + 4) n (omega (arith, none)) high ∙ none,
        word_within bytes pos 8 0 (omega arith) ∙ ap (word_at bytes) (add-zero pos) ∙ stands_word bytes pos 1 (omega arith) low,
      )

module _ {A B R Q : Type 0} (fit : Fit) (most : ℕ) (k v : Shape) (knows : Names → Type 0) (keys : Spelling A R) (vals : Spelling B Q) (some : 0 < most) where
  module _ (xs : List (A × B)) (each : EachEntrySpells fit most k v knows keys vals xs) where
    packed_one : TreeSpells fit most k v knows keys vals (levels_for most (length xs)) (packed_spelling most k v keys vals (levels_for most (length xs))) xs
    packed_one = packed_spells fit most k v knows keys vals (levels_for most (length xs)) xs some each (omega arith)

    map_canonical :
        (st : State) (pos : ℕ) (names : Names) (given : Keys) (bytes : List ℕ) (level : ℕ) (inside : List OpenShared)
        → knows names
        → all_suit (entry_spelling most k v keys vals) fit given xs
        → AreKeyedBy given st.met
        → IsConsistent st
        → AllFrom (state_after (btree_spelling most k v keys vals) xs st).pos inside
        → (btree_spelling most k v keys vals).piece_fits xs st
        → (btree_spelling most k v keys vals).own_fits xs ((btree_spelling most k v keys vals).resolver xs st) pos
        → HasBytes bytes st.pos ((btree_spelling most k v keys vals).piece xs st)
        → HasBytes bytes pos ((btree_spelling most k v keys vals).own xs ((btree_spelling most k v keys vals).resolver xs st) pos)
        → CanonicalPart fit names bytes level inside (visits_of st.met) (visits_of ((btree_spelling most k v keys vals).met xs st)) (at pos (tree most k v)) ((btree_spelling most k v keys vals).value xs st) st.pos (state_after (btree_spelling most k v keys vals) xs st).pos
    unfolding made Ascends
    map_canonical st pos names given bytes level inside kn n known state over f o p q = by_root ((packed_spelling most k v keys vals (levels_for most (length xs))).resolver xs st) refl o.0 q
      where
        by_root : (root : Option ℕ) → (packed_spelling most k v keys vals (levels_for most (length xs))).resolver xs st ≡ root → LinkFits root pos → HasBytes bytes pos (link_bytes root pos ++ to_le_bytes w32 (length xs))
            → CanonicalPart fit names bytes level inside (visits_of st.met) (visits_of ((btree_spelling most k v keys vals).met xs st)) (at pos (tree most k v)) ((btree_spelling most k v keys vals).value xs st) st.pos (state_after (btree_spelling most k v keys vals) xs st).pos
        by_root None e g b =
            let w = packed_spelling most k v keys vals (levels_for most (length xs)) in
            let r = packed_one.absent st e in
            let there = nothing_there fit most k v names bytes level inside st pos (length xs) (ap length r.none) b in
            let empty : st.pos ≡ st.pos + length (w.piece xs st) = sym (ap (λ z. st.pos + length z) r.piece ∙ add-zero st.pos) in
            let nothing = nothing_read fit most k v names bytes level inside st pos there.0 there.1 in
            subst (λ z. CanonicalPart fit names bytes level inside (visits_of st.met) (visits_of (w.met xs st)) (at pos (tree most k v)) (w.value xs st) st.pos z) empty
            (subst (λ z. CanonicalPart fit names bytes level inside (visits_of st.met) (visits_of z) (at pos (tree most k v)) (w.value xs st) st.pos st.pos) (sym r.met)
            (subst (λ z. CanonicalPart fit names bytes level inside (visits_of st.met) (visits_of st.met) (at pos (tree most k v)) z st.pos st.pos) (sym r.value) nothing))
        by_root (Some root) e g b =
            let w = packed_spelling most k v keys vals (levels_for most (length xs)) in
            let r = packed_one.present st root e in
            let some_items = r.some in
            let low = stands_left bytes pos (link_bytes (Some root) pos) (to_le_bytes w32 (length xs)) b in
            let high : HasBytes bytes (pos + 4) (to_le_bytes w32 (length xs)) = stands_right bytes pos (link_bytes (Some root) pos) (to_le_bytes w32 (length xs)) (pos + 4) refl b in
            let len : word_at (window bytes pos 8) 4 ≡ length xs = word_within bytes pos 8 4 (omega arith) ∙ stands_word bytes (pos + 4) (length xs) o.1 high in
            let target = offset_stands bytes pos root 8 (omega arith) g low in
            let c = rooted_content names bytes most k v pos (length xs) root len some_items target in
            let items = packed_one.counted st in
            let has : HasItems (more_values (by_keys (w.value xs st)) no_values) =
            let count : count_values (members (by_keys (w.value xs st))) ≡ length xs = ap (λ z. count_values (members (by_keys z))) items.is ∙ count_keys_alone items.items ∙ items.count in
            omega (arith, count, some_items) in
            let deep : 1 + levels_for most (length xs) ≤ 33 = let h = levels_of_words most (length xs) some o.1 in omega (arith, h) in
            one_part (at pos (tree most k v)) (node 1 most k v root) (total (length xs)) (w.value xs st) (w.value xs st) st.pos (state_after w xs st).pos c tt
            (made_total (length xs) (w.value xs st) items.items items.is items.count)
            (clean_by names bytes (at pos (tree most k v)) (plain (total (length xs)) (node 1 most k v root ∷ [])) c (λ i h. inl h) (λ z. absurd (let zero_len : length xs ≡ 0 = sym len ∙ z in omega (arith, zero_len, some_items))))
            has
            (r.canonical names given bytes level inside 1 deep o.1 kn n known state over f p)

    -- the law of a map is that of each of its keys and values
    pub btree_spells_at : SpellsAt fit (tree most k v) knows (btree_spelling most k v keys vals) xs
    btree_spells_at = record {
      sized = λ r pos f. length-map r pos (length xs);
      canonical = map_canonical;
      consistent = packed_one.consistent;
      keyed = packed_one.keyed;
      piece_bytes = packed_one.piece_bytes;
      own_bytes = λ r pos f. bytes_append (link_bytes r pos) (to_le_bytes w32 (length xs)) (link_small r pos) (bytes_word (length xs));
      piece_exact = packed_one.piece_exact;
      own_exact = λ r pos e f g. refused r pos e f g;
      unshared = entries_unshared fit most k v knows keys vals xs each;
    }
      where
        refused : (r : Option ℕ) (pos : ℕ) (e : Error) → (btree_spelling most k v keys vals).own_fits xs r pos → (btree_spelling most k v keys vals).own_refused xs r pos e → ⊥
        refused r pos e f (inl g) = link_exact r pos e f.0 g
        refused r pos e f (inr g) = let h = g.0 in let small = f.1 in omega (arith, h, small)

  pub each_entry : Spells fit k knows keys → Spells fit v knows vals → (xs : List (A × B)) → EachEntrySpells fit most k v knows keys vals xs
  each_entry f g [] = tt
  each_entry f g (x ∷ xs) = ((f x.0, g x.1), each_entry f g xs)

  -- so of all maps
  pub btree_spells : Spells fit k knows keys → Spells fit v knows vals → Spells fit (tree most k v) knows (btree_spelling most k v keys vals)
  btree_spells f g xs = btree_spells_at xs (each_entry f g xs)

module _ {A B R Q : Type 0} (fit : Fit) (most : ℕ) (k v : Shape) (knows : Names → Type 0) (keys : Spelling A R) (vals : Spelling B Q) where
  empty_spells : SpellsAt fit (tree most k v) knows (btree_spelling most k v keys vals) []
  empty_spells = record {
    sized = λ r pos f. length-map r pos 0;
    canonical = λ st pos names given bytes level inside kn n known state over f o p q.
        let there = nothing_there fit most k v names bytes level inside st pos 0 refl q in
        subst (λ z. CanonicalPart fit names bytes level inside (visits_of st.met) (visits_of st.met) (at pos (tree most k v)) (group no_values) st.pos z) (sym (add-zero st.pos))
        (nothing_read fit most k v names bytes level inside st pos there.0 there.1);
    consistent = λ st c f. consistent_behind st c;
    keyed = λ given st n known f. (refl, known);
    piece_bytes = λ st f i. omega arith;
    own_bytes = λ r pos f. bytes_append (link_bytes r pos) (to_le_bytes w32 0) (link_small r pos) (bytes_word 0);
    piece_exact = λ st e f g. absurd g;
    own_exact = λ r pos e f g. refused r pos e f g;
    unshared = λ none given. tt;
  }
    where
      -- where nothing is written the state stays
      consistent_behind : (st : State) → IsConsistent st → IsConsistent (state_after (btree_spelling most k v keys vals) [] st)
      consistent_behind st c = subst IsConsistent (ap (λ n. record { pos = n; met = st.met; begun = st.begun }) (sym (add-zero st.pos))) c

      refused : (r : Option ℕ) (pos : ℕ) (e : Error) → (btree_spelling most k v keys vals).own_fits [] r pos → (btree_spelling most k v keys vals).own_refused [] r pos e → ⊥
      refused r pos e f (inl g) = link_exact r pos e f.0 g
      refused r pos e f (inr g) = let h = g.0 in absurd (omega (arith, h))

  -- the law of maps whose nodes hold entries where there are any
  pub map_spells : Spells fit k knows keys → Spells fit v knows vals → (xs : List (A × B)) → ((xs ≡ [] → ⊥) → 0 < most) → SpellsAt fit (tree most k v) knows (btree_spelling most k v keys vals) xs
  map_spells f g [] some = empty_spells
  map_spells f g (x ∷ xs) some = btree_spells fit most k v knows keys vals (some (λ e. absurd (cc))) f g (x ∷ xs)
