-- Pairs of keys and values that the layout holds, and their keys in bytes that agree.
use Rattle.std.proofs.Common.{◌≡◌, ℕ, zero, suc, ◌+◌, ◌*◌, ◌≤◌, List, [], ◌∷◌, ◌++◌, length, Some, sym, subst, arith, take}
use Rattle.std.proofs.lemmas.List.{length-take-le}
use Rattle.archive_shape_layout.specs.Shape.{Shape, size_of}
use Rattle.archive_shape_layout.specs.Value.{Value, Values, append_values}
use Rattle.archive_shape_layout.specs.Value.Value.{group}
use Rattle.archive_shape_layout.specs.Value.Values.{no_values, more_values}
use Rattle.archive_shape_layout.specs.Content.{Names, Label, made, entries}
use Rattle.archive_shape_layout.specs.Content.Part.{at, entry}
use Rattle.archive_shape_layout.specs.Content.Label.{whole}
use Rattle.archive_shape_layout.specs.Holds.{Region, Visit, OpenShared, Holds, HoldAll, end_after}
use Rattle.archive_shape_layout.specs.Holds.Holds.{holds_plain, holds_claimed, holds_first, holds_later, holds_back}
use Rattle.archive_shape_layout.specs.Holds.HoldAll.{holds_none, holds_more}
use Rattle.archive_shape_layout.specs.Visited.{AllStand, ClaimedAfter}
use Rattle.archive_shape_layout.proofs.Visited.{take_agrees, stand_raised, stand_same, claimed_raised, claimed_here, claimed_front, claimed_later}
use Rattle.archive_btree_layout.specs.Reading.{Place, places}
use Rattle.archive_btree_layout.specs.Items.{IsPair, AreAt, ArePairs}
use Rattle.archive_btree_layout.specs.Changing.{IsKept}
use Rattle.archive_btree_layout.proofs.Changed.{held_same}
use Rattle.archive_shape_layout.proofs.SameBytes.{AreSame, visits_kept, take_same, window_same}

-- ---- values at places

pub append_at : (IsAt : Place → Value → Type 0) (ps qs : List Place) (us ws : Values) → AreAt IsAt ps us → AreAt IsAt qs ws → AreAt IsAt (ps ++ qs) (append_values us ws)
append_at IsAt [] qs no_values ws a b = b
append_at IsAt [] qs (more_values u us) ws a b = absurd a
append_at IsAt (p ∷ ps) qs no_values ws a b = absurd a
append_at IsAt (p ∷ ps) qs (more_values u us) ws a b = (a.0, append_at IsAt ps qs us ws a.1 b)

-- ---- pairs

module _ (names : Names) (bytes : List ℕ) (k v : Shape) where
  -- What is known of a pair: it is kept in bytes that agree on what is claimed and on the key's own. Where the values
  -- visited before it lie in these, so do those visited after it.
  pub record EntryHeld (before after : List Visit) (low high key place : ℕ) (value : Value) : Type 0 where
    pub pair : IsPair names bytes k v (record { key = key; value = place }) value
    pub kept :
        (others : List ℕ) → length others ≡ length bytes → AllStand names others low before → AreSame bytes others low high → AreSame bytes others key (key + size_of k)
        → IsKept names bytes others k v (record { key = key; value = place }) value × AllStand names others high after

  pub record EntriesHeld (before after : List Visit) (n low high key place : ℕ) (vs : Values) : Type 0 where
    pub pairs : ArePairs names bytes k v (places n k key v place) vs
    pub kept :
        (others : List ℕ) → length others ≡ length bytes → AllStand names others low before → AreSame bytes others low high → AreSame bytes others key (key + n * size_of k)
        → AreAt (IsKept names bytes others k v) (places n k key v place) vs × AllStand names others high after

  two_held : {depth : ℕ} {inside : List OpenShared} (key place : ℕ) {vs : Values} {rs : List Region} {before after : List Visit} (low high : ℕ)
      → high ≤ key → key + size_of k ≤ place → place + size_of v ≤ length bytes
      → HoldAll names bytes depth inside (at key k ∷ (at place v ∷ [])) vs rs before after → ClaimedAfter names bytes before low high rs
      → EntryHeld before after low high key place (group vs)
  two_held {depth} {inside} key place {rs = rs} {before = before} {after = after} low high below apart room
      (holds_more {v = u} {here = here} {later = later} {between = between} h (holds_more {v = w} {vs = xs} {here = there} {later = rest} {between = middle} g (holds_none x y z) e f) c d) a =
      let mid = end_after low here in
      let first = claimed_here later d a in
      let second = claimed_front rest f (claimed_later h d a) in
      let until : mid ≤ high = second.below in
      record {
        pair =
            record {
              key = u;
              value = w;
              key_held = record { depth = depth; inside = inside; regions = here; before = before; after = between; own_within = omega arith; low = low; claimed = claimed_raised (omega arith) first; holds = h };
              value_held = record { depth = depth; inside = inside; regions = there; before = between; after = middle; own_within = room; low = mid; claimed = claimed_raised (omega arith) second; holds = g };
              is = cc;
            };
        kept = λ others same_length stand same own.
            let shorter = length-take-le place others (omega arith) in
            let own_key = window_same bytes others key (size_of k) (omega arith) (omega arith) own in
            let same_here : AreSame bytes others low mid = λ i le lt. same i le (omega arith) in
            let same_there : AreSame bytes others mid high = λ i le lt. let up = first.below in same i (omega arith) lt in
            let held = held_same bytes others k key (omega arith) (omega arith) (omega arith) same_here own_key first stand h in
            let between_stand = visits_kept bytes others (omega arith) (omega arith) same_here first stand h in
            let after_stand = visits_kept bytes others (omega arith) (omega arith) same_there second between_stand g in (
              record {
                key =
                    record {
                      key = u;
                      value = w;
                      held = held;
                      held_before =
                          held_same bytes (take place others) k key (omega arith) (omega arith) (omega arith) (take_same place low mid bytes others (omega arith) same_here)
                          (window_same bytes (take place others) key (size_of k) (omega arith) (omega arith) (take_same place key (key + size_of k) bytes others apart own))
                          first (stand_same (λ start size within. take_agrees others place start size (let up = first.below in omega arith)) stand) h;
                      is = cc;
                    };
                whole = λ window.
                    record {
                      key = u;
                      value = w;
                      key_held = held;
                      value_held = held_same bytes others v place (omega arith) room (omega arith) same_there window second between_stand g;
                      is = cc;
                    };
              },
              subst (AllStand names others high) (sym z) after_stand,
            );
      }

  pub whole_is : (l : Label) (vs : Values) (value : Value) → l ≡ whole → made l vs ≡ Some value → value ≡ group vs
  unfolding made
  whole_is l vs value e m = let n : made whole vs ≡ Some value = subst (λ x. made x vs ≡ Some value) e m in cc

  entry_held : {depth : ℕ} {inside : List OpenShared} (key place : ℕ) {value : Value} {rs : List Region} {before after : List Visit} (low high : ℕ)
      → high ≤ key → key + size_of k ≤ place → place + size_of v ≤ length bytes
      → Holds names bytes depth inside (entry k key v place) value rs before after → ClaimedAfter names bytes before low high rs
      → EntryHeld before after low high key place value
  entry_held {depth} {inside} key place {value} {rs} {before} {after} low high below apart room (holds_plain {l = l} {ps = ps} {vs = vs} e legal all m) a =
      let parts : ps ≡ at key k ∷ (at place v ∷ []) = cc in
      let label : l ≡ whole = cc in
      let p = two_held key place low high below apart room (subst (λ qs. HoldAll names bytes depth inside qs vs rs before after) parts all) a in
      subst (EntryHeld before after low high key place) (sym (whole_is l vs value label m)) p
  entry_held key place low high below apart room (holds_claimed e legal all m r) a = absurd cc
  entry_held key place low high below apart room (holds_first e b c d f g) a = absurd cc
  entry_held key place low high below apart room (holds_later e b c d f g) a = absurd cc
  entry_held key place low high below apart room (holds_back e b c d f) a = absurd cc

  -- entries after what they claim
  pub entries_held : (n : ℕ) {depth : ℕ} {inside : List OpenShared} (key place : ℕ) {vs : Values} {rs : List Region} {before after : List Visit} (low high : ℕ)
      → low ≤ high → high ≤ key → key + n * size_of k ≤ place → place + n * size_of v ≤ length bytes
      → HoldAll names bytes depth inside (entries n k key v place) vs rs before after → ClaimedAfter names bytes before low high rs
      → EntriesHeld before after n low high key place vs
  unfolding entries
  entries_held zero key place {before = before} {after = after} low high grows below apart room (holds_none e f g) a =
      subst (EntriesHeld before after zero low high key place) (sym e)
      (record { pairs = tt; kept = λ others same_length stand same own. (tt, subst (AllStand names others high) (sym g) (stand_raised grows stand)) })
  entries_held (suc n) key place {before = before} {after = after} low high grows below apart room (holds_more {v = u} {vs = us} {here = here} {later = later} {regions = rs} h all e f) a =
      let mid = end_after low here in
      let front = claimed_here later f a in
      let behind = claimed_later h f a in
      let up : low ≤ mid = front.below in
      let down : mid ≤ high = behind.below in
      let first = entry_held key place low mid (omega (arith, below)) (omega (arith, apart)) (omega (arith, room)) h front in
      let rest = entries_held n (key + size_of k) (place + size_of v) mid high down (omega (arith, below)) (omega (arith, apart)) (omega (arith, room)) all behind in
      subst (EntriesHeld before after (suc n) low high key place) (sym e)
      (record {
        pairs = (first.pair, rest.pairs);
        kept = λ others same_length stand same own.
            let x = first.kept others same_length stand (λ i le lt. same i le (omega arith)) (λ i le lt. own i le (omega (arith, lt))) in
            let y = rest.kept others same_length x.1 (λ i le lt. same i (omega arith) lt) (λ i le lt. own i (omega arith) (omega (arith, lt))) in
            ((x.0, y.0), y.1);
      })
