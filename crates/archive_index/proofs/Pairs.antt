-- The index map of entries is that of their keys and values.
use Rattle.std.proofs.Common.{◌≡◌, ℕ, List, map, refl, ap, Option}
use Rattle.archive_shape_layout.specs.Shape.{Shape}
use Rattle.archive_forms_values.specs.Tuples.{tuple2}
use Rattle.archive_forms_laws.specs.Spelling.{Spelling}
use Rattle.archive_forms_laws.specs.Forms.{seen_as}
use Rattle.archive_forms_laws.specs.Fields.{tuple2_spelling}
use Rattle.archive_forms_laws.proofs.Agreeing.{Said, said}
use Rattle.archive_forms_writing.specs.declared.collections.entry.EntryAdapter.{EntryAdapter}
use Rattle.archive_forms_writing.specs.declared.collections.entry.EntryResolver.{EntryResolver}
use Rattle.archive_forms_writing.specs.Entries.{entry_spelling}
use Rattle.archive_hash.specs.Given.{entry_of}
use Rattle.archive_hash_writing.proofs.IndexSeen.{map_seen}
use Rattle.archive_hash_writing.specs.declared.index.resolver.IndexMapResolver.{IndexMapResolver}
use Rattle.archive_hash_writing.specs.IndexResolvers.{written_map, resolver_of, positions_of}

pub pairs_said : {A B R Q : Type 0} (load : ℕ × ℕ) (k v : Shape) (keys : Spelling A R) (vals : Spelling B Q) (hs : List ℕ) (es : List (EntryAdapter A B))
    → said (written_map load (tuple2 k v) (entry_spelling k keys v vals) hs) es ≡ said (seen_as (map entry_of) (written_map load (tuple2 k v) (tuple2_spelling k keys v vals) hs)) es
pairs_said {R = R} {Q = Q} load k v keys vals hs es =
    let kept : Said (Option ℕ × Option ℕ) → Said IndexMapResolver = λ o. record {
      value = o.value;
      plain = o.plain;
      piece = o.piece;
      resolver = λ st. resolver_of (o.resolver st);
      met = o.met;
      own = λ r pos. o.own (positions_of r) pos;
      piece_fits = o.piece_fits;
      piece_refused = o.piece_refused;
      own_fits = λ r pos. o.own_fits (positions_of r) pos;
      own_refused = λ r pos e. o.own_refused (positions_of r) pos e;
      suits = o.suits;
    }
    in
    ap kept (map_seen {Q = EntryResolver R Q} (tuple2 k v) entry_of (λ r. record { key = r.0; value = r.1 }) (λ r. (r.key, r.value)) (λ r. refl) (tuple2_spelling k keys v vals) load.0 load.1 hs es)
