-- Index maps and sets are read back as what was archived, where their parts are.
use Rattle.std.proofs.Common.{◌∙◌, ℕ, List, [], refl, sym, ap, subst₂}
use Rattle.std.specs.List.{AllZip}
use Rattle.std.specs.Prelude.{Vec}
use Rattle.std.specs.Global.{Global}
use Rattle.archive_shape_layout.specs.Shape.{Shape}
use Rattle.archive_shape_layout.specs.Value.{Value}
use Rattle.archive_forms_values.specs.Tuples.{tuple2}
use Rattle.archive_forms_laws.specs.Spelling.{Spelling}
use Rattle.archive_forms_laws.specs.Forms.{seen_as}
use Rattle.archive_forms_laws.specs.Fields.{tuple2_spelling, unit_spelling}
use Rattle.archive_forms.specs.Alike.{AreAlike, AreElementsOf, AreEntriesOf}
use Rattle.archive_forms.specs.Faithful.{IsFaithful}
use Rattle.archive_forms.specs.Reading.{reads_as, reads_in, reads_all, reads_tuple2, reads_key}
use Rattle.archive_forms.proofs.AlikeParts.{group_one, entries_alike, entries_of, entries_read, elements_of, keys_alike, keys_back}
use Rattle.archive_forms.proofs.Faithful.{all_faithful, tuple2_faithful}
use Rattle.archive_hash.specs.Owned.{key_entries}
use Rattle.archive_hash_writing.specs.IndexResolvers.{pairs_spelling}
use Rattle.archive_hash_writing.proofs.IndexSeen.{map_seen}
use Rattle.archive_index.specs.Sets.{unit_shape}

module _ {A R : Type 0} (hash : A → ℕ) (k : Shape) (keys : Spelling A R) (reads : Value → A → Type 0) (same : IsFaithful keys reads) where
  pub pairs_faithful : {B Q : Type 0} (v : Shape) (vals : Spelling B Q) (others : Value → B → Type 0) → IsFaithful vals others
      → IsFaithful (seen_as (λ (xs : Vec (A × B) Global). xs.items) (pairs_spelling hash k v keys vals)) (reads_in (λ (xs : Vec (A × B) Global). xs.items) (reads_all (reads_tuple2 reads others)))
  pairs_faithful v vals others also value xs h =
      all_faithful (tuple2_spelling k keys v vals) (reads_tuple2 reads others) (tuple2_faithful k v keys vals reads others same also) value xs.items h

  pub keys_faithful : IsFaithful (seen_as (λ (xs : Vec A Global). key_entries xs.items) (pairs_spelling hash k unit_shape keys unit_spelling)) (reads_in (λ (xs : Vec A Global). xs.items) (reads_all (reads_key reads)))
  keys_faithful value xs h =
      let entry = tuple2_spelling k keys unit_shape unit_spelling in
      let beside : A → A × Unit {0} = λ x. (x, tt) in
      let pairs : IsFaithful entry (reads_tuple2 reads (reads_as unit_spelling)) = tuple2_faithful k unit_shape keys unit_spelling reads (reads_as unit_spelling) same (λ u y e. e) in
      let one : IsFaithful (seen_as beside entry) (reads_key reads) = λ u x r. pairs u (x, tt {0}) r in
      sym (ap (λ o. o.plain) (map_seen (tuple2 k unit_shape) beside (λ r. r) (λ r. r) (λ r. refl) entry 7 8 [] xs.items)) ∙ all_faithful (seen_as beside entry) (reads_key reads) one value xs.items h

-- lists that are read back have what was written

module _ {A R : Type 0} (hash : A → ℕ) (k : Shape) (keys : Spelling A R) (reads : Value → A → Type 0) (same : IsFaithful keys reads) where
  pub pairs_read_back : {B Q : Type 0} (v : Shape) (vals : Spelling B Q) (others : Value → B → Type 0) → IsFaithful vals others
      → (es : List (A × B)) (read : Vec (A × B) Global) → reads_all (reads_tuple2 reads others) ((pairs_spelling hash k v keys vals).plain es) read.items → AreEntriesOf keys vals es read.items
  pairs_read_back v vals others also es read h = entries_of keys vals es read.items (entries_read k v keys vals reads others same also es read.items h)

  pub keys_read_back : (ks : List A) (read : Vec A Global) → reads_all (reads_key reads) ((pairs_spelling hash k unit_shape keys unit_spelling).plain (key_entries ks)) read.items → AreElementsOf keys ks read.items
  keys_read_back ks read h =
      let pairs = entries_alike k unit_shape keys unit_spelling (key_entries ks) (key_entries read.items) (sym (group_one _ _ (keys_faithful hash k keys reads same ((pairs_spelling hash k unit_shape keys unit_spelling).plain (key_entries ks)) read h))) in
      elements_of keys ks read.items (subst₂ (AllZip (AreAlike keys)) (keys_back ks) (keys_back read.items) (keys_alike keys unit_spelling (key_entries ks) (key_entries read.items) pairs))
