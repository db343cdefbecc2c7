-- What is written of pairs has a packed tree of them.
use Rattle.std.proofs.Common.{◌≡◌, ◌∙◌, ℕ, List, [], ◌∷◌, length, Some, refl, ap, sym, subst, arith}
use Rattle.archive_shape_layout.specs.Shape.{Shape}
use Rattle.archive_shape_layout.specs.Shape.Shape.{tree}
use Rattle.archive_shape_layout.specs.Shape.Pointee.{sized}
use Rattle.archive_shape_layout.specs.Value.{Value, Values, count_values}
use Rattle.archive_shape_layout.specs.Value.Values.{no_values, more_values}
use Rattle.archive_shape_layout.specs.Content.{Names, made, members, pointee_content}
use Rattle.archive_shape_layout.specs.Content.Part.{at, behind}
use Rattle.archive_shape_layout.specs.Content.Label.{same}
use Rattle.archive_shape_layout.specs.Holds.{Region, Visit, OpenShared, Holds, HoldAll, Ascends, root_position}
use Rattle.archive_shape_layout.specs.Holds.Holds.{holds_plain, holds_claimed, holds_first, holds_later, holds_back}
use Rattle.archive_shape_layout.specs.Holds.HoldAll.{holds_none, holds_more}
use Rattle.archive_shape_layout.specs.Visited.{ClaimedAfter}
use Rattle.archive_shape_layout.proofs.Visited.{claimed_raised, claimed_front, claimed_inside, claimed_first}
use Rattle.archive_shape_canonical.specs.Settled.{free}
use Rattle.archive_shape_canonical.specs.Everywhere.{reaches_here, reaches_claimed, reaches_first}
use Rattle.archive_shape_canonical.proofs.Steps.{count_members}
use Rattle.archive_btree_layout.specs.Tree.{items}
use Rattle.archive_btree_layout.specs.Items.{IsTreeRead}
use Rattle.archive_btree_layout.specs.Items.IsTreeRead.{reads_none, reads_tree}
use Rattle.archive_btree_layout.proofs.Held.{same_is}
use Rattle.archive_btree_layout.proofs.Mapped.{pairs_count, tree_is_read}
use Rattle.archive_forms_laws.specs.State.{initial}
use Rattle.archive_forms_laws.specs.Spelling.{Spelling}
use Rattle.archive_forms_laws.specs.Regions.{plain_values}
use Rattle.archive_btree_spelling.specs.Written.{entry_spelling}
use Rattle.archive_btree_spelling.specs.Maps.{btree_spelling}
use Rattle.archive_btree_spelling.proofs.Samples.{maps_are_written_law}
use Rattle.archive_btree_spelling.specs.Sample.{number_shape}
use Rattle.archive_btree_spelling.specs.PackingMaps.{HasTree, HasWrittenMap}
use Rattle.archive_btree_spelling.specs.PackingLaws.{MapIsPacked, MapsArePacked}
use Rattle.archive_btree_spelling.proofs.Packed.{written_is_packed_law}
use Rattle.archive_forms_laws.specs.Sample.{number_spelling}

-- ---- a map that is a root

module _ (names : Names) (bytes : List ℕ) (most : ℕ) (k v : Shape) (pos : ℕ) where
  only_held : {depth : ℕ} {inside : List OpenShared} {vs : Values} {value : Value} {rs : List Region} {before after : List Visit} (low : ℕ)
      → HoldAll names bytes depth inside (at pos (tree most k v) ∷ []) vs rs before after → made same vs ≡ Some value → ClaimedAfter names bytes before low (length bytes) rs
      → IsTreeRead names bytes most k v pos value
  only_held {vs = vs} {value = value} low (holds_more {v = u} {here = here} {later = later} {regions = rs} h (holds_none x y z) e f) m a =
      let read = tree_is_read names bytes most k v _ _ pos u here _ _ low h (claimed_front later f a) in
      let one : vs ≡ more_values u no_values = cc in
      subst (IsTreeRead names bytes most k v pos) (sym (same_is names bytes most k v same u vs value refl one m)) read

  root_held : {value : Value} {rs : List Region} {visits : List Visit}
      → Holds names bytes 0 [] (behind pos (sized (tree most k v)) 1) value rs [] visits → Ascends 0 (length bytes) rs
      → IsTreeRead names bytes most k v pos value
  unfolding pointee_content
  root_held {value = value} {visits = visits} (holds_claimed {within = within} {s = s} {l = l} {ps = ps} {vs = vs} e legal all m r) a =
      let parts : ps ≡ at pos (tree most k v) ∷ [] = cc in
      let label : l ≡ same = cc in
      let i = claimed_inside r (claimed_first a) in
      let ends = i.ends in
      only_held 0 (subst (λ qs. HoldAll names bytes 1 [] qs vs within [] visits) parts all) (subst (λ y. made y vs ≡ Some value) label m)
      (claimed_raised (omega (arith, ends)) i.claimed)
  root_held (holds_plain e legal all m) a = absurd cc
  root_held (holds_first e b c d f g) a = absurd cc
  root_held (holds_later e b c d f g) a = absurd cc
  root_held (holds_back e b c d f) a = absurd cc

-- ---- what is written

count_plain_values : {C R : Type 0} (w : Spelling C R) (xs : List C) → count_values (plain_values w xs) ≡ length xs
count_plain_values w [] = refl
count_plain_values w (x ∷ xs) = let h = count_plain_values w xs in omega (arith, h)

-- the law of each spelling of keys and values
pub map_is_packed : {A B R Q : Type 0} (most : ℕ) (k v : Shape) (keys : Spelling A R) (vals : Spelling B Q) → MapIsPacked most k v keys vals
unfolding pointee_content
map_is_packed {A} {B} {R} {Q} most k v keys vals fit names pairs bytes some items_some w =
    let pos = root_position (length bytes) (tree most k v) in
    let value = (btree_spelling most k v keys vals).value pairs initial in
    let c = w.archive.canonical in
    let count : count_values (members value) ≡ length pairs =
    sym (count_members value) ∙ ap (λ z. count_values (members z)) w.plain ∙ count_plain_values (entry_spelling most k v keys vals) pairs
    in
    elim (root_held names bytes most k v pos c.root.holds c.root.ascends) [
      | reads_none zero_len none ↦
          let nothing : count_values (members value) ≡ 0 = ap (λ z. count_values (members z)) none in
          absurd (omega (arith, nothing, count, items_some))
      | reads_tree {root = root} {t = t} some_len leads n size are ↦
          let same_count : length (items t) ≡ length pairs = pairs_count names bytes k v (items t) (members value) are ∙ count in
          let has : HasTree bytes most k v pos t = record { root = root; some = some_len; leads = leads; node = n } in
          let map : HasWrittenMap fit names bytes most k v pos = record {
            start = 0;
            root = pos;
            shape = tree most k v;
            value = value;
            regions = w.archive.regions;
            visits = w.archive.visits;
            archive = c;
            reached = reaches_claimed refl (reaches_first (reaches_here refl));
          } in
          record {
            tree = t;
            has = has;
            count = same_count;
            len = sym size ∙ same_count;
            items_are = are;
            plain = w.plain;
            packed = written_is_packed_law fit names bytes most k v pos t some map has;
          }
    ]

pub maps_are_packed_law : MapsArePacked
maps_are_packed_law names xs bytes some f e =
    map_is_packed 5 number_shape number_shape number_spelling number_spelling free names xs bytes (omega arith) some (maps_are_written_law free names xs bytes f e)
