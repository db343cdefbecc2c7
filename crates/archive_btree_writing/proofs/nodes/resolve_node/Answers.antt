use Rattle.std.proofs.Common.{rules, arith, ◌*◌, length, refl}
use Rattle.archive_shape_layout.specs.Shape.{size_of}
use Rattle.archive_shape_canonical.specs.FirstFit.{first_fit}
use Rattle.archive_btree_writing.specs.Nodes.{borrowed, words_size}
use Rattle.archive_btree_writing.proofs.Answered.{answers_error}
use Rattle.archive_btree_writing.proofs.Filling.{filled_length, filled_zero}
use Rattle.archive_btree_writing.proofs.Resolving.{Given, standing, words_end, some_bytes, begun, keyed, keyed_length, valued, valued_length, keys_refused, values_refused, last_ended}
use Rattle.archive_btree_writing.proofs.nodes.resolve_node.Goals as goal

pub bounds-buffer-0 : goal.bounds-buffer-0
bounds-buffer-0 g c =
    let k = g.K.Archived.Portable.shape in
    let v = g.A.Archived.Portable.shape in
    let keys = borrowed g.K.Archive.spelling in
    let vals = borrowed (g.A.ArchiveWith.spelling c.args.with.now) in
    let given : Given g.row.E k v keys vals c.args.layout c.args.children c.args.entries.now c.args.pos c.args.buffer.now = record {
      sized_key = λ x r at fit. (g.met.K.Archive.spells (first_fit (λ _. 0)) x.now).sized r at fit;
      sized_value = λ x r at fit. (g.met.A.ArchiveWith.spells c.args.with.now (first_fit (λ _. 0)) x.now).sized r at fit;
      is = c.requires.parts;
      whole = c.requires.whole;
      few = c.requires.few;
      blank = c.requires.blank;
      stands = c.requires.stands;
    } in
    let p = standing g.row.E k v keys vals given in
    let w = words_end g.row.E k v keys vals given in
    let some = some_bytes g.row.E k v keys vals given in search rules

pub overflow_add-pos : goal.overflow_add-pos
overflow_add-pos g c =
    let k = g.K.Archived.Portable.shape in
    let v = g.A.Archived.Portable.shape in
    let keys = borrowed g.K.Archive.spelling in
    let vals = borrowed (g.A.ArchiveWith.spelling c.args.with.now) in
    let given : Given g.row.E k v keys vals c.args.layout c.args.children c.args.entries.now c.args.pos c.args.buffer.now = record {
      sized_key = λ x r at fit. (g.met.K.Archive.spells (first_fit (λ _. 0)) x.now).sized r at fit;
      sized_value = λ x r at fit. (g.met.A.ArchiveWith.spells c.args.with.now (first_fit (λ _. 0)) x.now).sized r at fit;
      is = c.requires.parts;
      whole = c.requires.whole;
      few = c.requires.few;
      blank = c.requires.blank;
      stands = c.requires.stands;
    } in
    let p = standing g.row.E k v keys vals given in
    let w = words_end g.row.E k v keys vals given in
    omega (arith, p.keys, p.keys_end, p.values_end, w, c.requires.stands)

pub resolve_keys-requires-clause-room : goal.resolve_keys-requires-clause-room
resolve_keys-requires-clause-room g c =
    let k = g.K.Archived.Portable.shape in
    let v = g.A.Archived.Portable.shape in
    let keys = borrowed g.K.Archive.spelling in
    let vals = borrowed (g.A.ArchiveWith.spelling c.args.with.now) in
    let given : Given g.row.E k v keys vals c.args.layout c.args.children c.args.entries.now c.args.pos c.args.buffer.now = record {
      sized_key = λ x r at fit. (g.met.K.Archive.spells (first_fit (λ _. 0)) x.now).sized r at fit;
      sized_value = λ x r at fit. (g.met.A.ArchiveWith.spells c.args.with.now (first_fit (λ _. 0)) x.now).sized r at fit;
      is = c.requires.parts;
      whole = c.requires.whole;
      few = c.requires.few;
      blank = c.requires.blank;
      stands = c.requires.stands;
    } in
    let p = standing g.row.E k v keys vals given in
    let w = words_end g.row.E k v keys vals given in
    let first = begun g.row.E k v keys vals given c.kind.result c.kind.ensures in
    let n = filled_length _ _ c.requires.blank first in omega (arith, n, p.keys, p.keys_end, p.values_end, w)

pub resolve_keys-requires-clause-stands : goal.resolve_keys-requires-clause-stands
resolve_keys-requires-clause-stands g c =
    let k = g.K.Archived.Portable.shape in
    let v = g.A.Archived.Portable.shape in
    let keys = borrowed g.K.Archive.spelling in
    let vals = borrowed (g.A.ArchiveWith.spelling c.args.with.now) in
    let given : Given g.row.E k v keys vals c.args.layout c.args.children c.args.entries.now c.args.pos c.args.buffer.now = record {
      sized_key = λ x r at fit. (g.met.K.Archive.spells (first_fit (λ _. 0)) x.now).sized r at fit;
      sized_value = λ x r at fit. (g.met.A.ArchiveWith.spells c.args.with.now (first_fit (λ _. 0)) x.now).sized r at fit;
      is = c.requires.parts;
      whole = c.requires.whole;
      few = c.requires.few;
      blank = c.requires.blank;
      stands = c.requires.stands;
    } in
    let p = standing g.row.E k v keys vals given in
    let w = words_end g.row.E k v keys vals given in
    omega (arith, p.keys, p.keys_end, p.values_end, w, c.requires.stands)

pub resolve_keys-requires-clause-blank : goal.resolve_keys-requires-clause-blank
resolve_keys-requires-clause-blank g c =
    let k = g.K.Archived.Portable.shape in
    let v = g.A.Archived.Portable.shape in
    let keys = borrowed g.K.Archive.spelling in
    let vals = borrowed (g.A.ArchiveWith.spelling c.args.with.now) in
    let given : Given g.row.E k v keys vals c.args.layout c.args.children c.args.entries.now c.args.pos c.args.buffer.now = record {
      sized_key = λ x r at fit. (g.met.K.Archive.spells (first_fit (λ _. 0)) x.now).sized r at fit;
      sized_value = λ x r at fit. (g.met.A.ArchiveWith.spells c.args.with.now (first_fit (λ _. 0)) x.now).sized r at fit;
      is = c.requires.parts;
      whole = c.requires.whole;
      few = c.requires.few;
      blank = c.requires.blank;
      stands = c.requires.stands;
    } in
    let p = standing g.row.E k v keys vals given in
    let w = words_end g.row.E k v keys vals given in
    let first = begun g.row.E k v keys vals given c.kind.result c.kind.ensures in
    filled_zero _ _ c.requires.blank first c.args.layout.keys (length c.args.entries.now * size_of k) (omega (arith, p.keys, p.begins)) (omega (arith, p.keys, p.keys_end, p.values_end, w))

pub resolve_keys-requires-clause-made : goal.resolve_keys-requires-clause-made
resolve_keys-requires-clause-made g c = (c.args.with.now, c.requires.made.0, c.requires.made.1)

pub returns-in_err-resolve_keys : goal.returns-in_err-resolve_keys
returns-in_err-resolve_keys g c = λ st made.
    let k = g.K.Archived.Portable.shape in
    let v = g.A.Archived.Portable.shape in
    let keys = borrowed g.K.Archive.spelling in
    let vals = borrowed (g.A.ArchiveWith.spelling c.args.with.now) in
    let given : Given g.row.E k v keys vals c.args.layout c.args.children c.args.entries.now c.args.pos c.args.buffer.now = record {
      sized_key = λ x r at fit. (g.met.K.Archive.spells (first_fit (λ _. 0)) x.now).sized r at fit;
      sized_value = λ x r at fit. (g.met.A.ArchiveWith.spells c.args.with.now (first_fit (λ _. 0)) x.now).sized r at fit;
      is = c.requires.parts;
      whole = c.requires.whole;
      few = c.requires.few;
      blank = c.requires.blank;
      stands = c.requires.stands;
    } in
    let p = standing g.row.E k v keys vals given in
    let w = words_end g.row.E k v keys vals given in
    let e = c.in_err-resolve_keys.field-0.0 in
    answers_error c.from_residual.result e _ _ (search rules) (keys_refused g.row.E k v keys vals given st e (c.in_err-resolve_keys.ensures c.args.with.now st made))

pub overflow_add-pos-2 : goal.overflow_add-pos-2
overflow_add-pos-2 g c =
    let k = g.K.Archived.Portable.shape in
    let v = g.A.Archived.Portable.shape in
    let keys = borrowed g.K.Archive.spelling in
    let vals = borrowed (g.A.ArchiveWith.spelling c.args.with.now) in
    let given : Given g.row.E k v keys vals c.args.layout c.args.children c.args.entries.now c.args.pos c.args.buffer.now = record {
      sized_key = λ x r at fit. (g.met.K.Archive.spells (first_fit (λ _. 0)) x.now).sized r at fit;
      sized_value = λ x r at fit. (g.met.A.ArchiveWith.spells c.args.with.now (first_fit (λ _. 0)) x.now).sized r at fit;
      is = c.requires.parts;
      whole = c.requires.whole;
      few = c.requires.few;
      blank = c.requires.blank;
      stands = c.requires.stands;
    } in
    let p = standing g.row.E k v keys vals given in
    let w = words_end g.row.E k v keys vals given in
    omega (arith, p.values, p.values_end, w, c.requires.stands)

pub resolve_values-requires-clause-room : goal.resolve_values-requires-clause-room
resolve_values-requires-clause-room g c =
    let k = g.K.Archived.Portable.shape in
    let v = g.A.Archived.Portable.shape in
    let keys = borrowed g.K.Archive.spelling in
    let vals = borrowed (g.A.ArchiveWith.spelling c.args.with.now) in
    let given : Given g.row.E k v keys vals c.args.layout c.args.children c.args.entries.now c.args.pos c.args.buffer.now = record {
      sized_key = λ x r at fit. (g.met.K.Archive.spells (first_fit (λ _. 0)) x.now).sized r at fit;
      sized_value = λ x r at fit. (g.met.A.ArchiveWith.spells c.args.with.now (first_fit (λ _. 0)) x.now).sized r at fit;
      is = c.requires.parts;
      whole = c.requires.whole;
      few = c.requires.few;
      blank = c.requires.blank;
      stands = c.requires.stands;
    } in
    let p = standing g.row.E k v keys vals given in
    let w = words_end g.row.E k v keys vals given in
    let st = c.requires.made.0 in
    let made = c.requires.made.1 in
    let first = begun g.row.E k v keys vals given c.kind.result c.kind.ensures in
    let with_keys = keyed g.row.E k v keys vals given _ c.resolve_keys.new.buffer st first (c.in_ok-resolve_keys.ensures c.args.with.now st made) in
    let n = filled_length _ _ c.requires.blank with_keys.holds in omega (arith, n, p.values, p.values_end, w)

pub resolve_values-requires-clause-stands : goal.resolve_values-requires-clause-stands
resolve_values-requires-clause-stands g c =
    let k = g.K.Archived.Portable.shape in
    let v = g.A.Archived.Portable.shape in
    let keys = borrowed g.K.Archive.spelling in
    let vals = borrowed (g.A.ArchiveWith.spelling c.args.with.now) in
    let given : Given g.row.E k v keys vals c.args.layout c.args.children c.args.entries.now c.args.pos c.args.buffer.now = record {
      sized_key = λ x r at fit. (g.met.K.Archive.spells (first_fit (λ _. 0)) x.now).sized r at fit;
      sized_value = λ x r at fit. (g.met.A.ArchiveWith.spells c.args.with.now (first_fit (λ _. 0)) x.now).sized r at fit;
      is = c.requires.parts;
      whole = c.requires.whole;
      few = c.requires.few;
      blank = c.requires.blank;
      stands = c.requires.stands;
    } in
    let p = standing g.row.E k v keys vals given in
    let w = words_end g.row.E k v keys vals given in
    omega (arith, p.values, p.values_end, w, c.requires.stands)

pub resolve_values-requires-clause-blank : goal.resolve_values-requires-clause-blank
resolve_values-requires-clause-blank g c =
    let k = g.K.Archived.Portable.shape in
    let v = g.A.Archived.Portable.shape in
    let keys = borrowed g.K.Archive.spelling in
    let vals = borrowed (g.A.ArchiveWith.spelling c.args.with.now) in
    let given : Given g.row.E k v keys vals c.args.layout c.args.children c.args.entries.now c.args.pos c.args.buffer.now = record {
      sized_key = λ x r at fit. (g.met.K.Archive.spells (first_fit (λ _. 0)) x.now).sized r at fit;
      sized_value = λ x r at fit. (g.met.A.ArchiveWith.spells c.args.with.now (first_fit (λ _. 0)) x.now).sized r at fit;
      is = c.requires.parts;
      whole = c.requires.whole;
      few = c.requires.few;
      blank = c.requires.blank;
      stands = c.requires.stands;
    } in
    let p = standing g.row.E k v keys vals given in
    let w = words_end g.row.E k v keys vals given in
    let st = c.requires.made.0 in
    let made = c.requires.made.1 in
    let first = begun g.row.E k v keys vals given c.kind.result c.kind.ensures in
    let with_keys = keyed g.row.E k v keys vals given _ c.resolve_keys.new.buffer st first (c.in_ok-resolve_keys.ensures c.args.with.now st made) in
    let n = keyed_length g.row.E k v keys vals given with_keys in
    filled_zero _ _ c.requires.blank with_keys.holds c.args.layout.values (length c.args.entries.now * size_of v) (omega (arith, n, p.values, p.keys_end)) (omega (arith, p.values, p.values_end, w))

pub returns-in_err-resolve_values : goal.returns-in_err-resolve_values
returns-in_err-resolve_values g c = λ st made.
    let k = g.K.Archived.Portable.shape in
    let v = g.A.Archived.Portable.shape in
    let keys = borrowed g.K.Archive.spelling in
    let vals = borrowed (g.A.ArchiveWith.spelling c.args.with.now) in
    let given : Given g.row.E k v keys vals c.args.layout c.args.children c.args.entries.now c.args.pos c.args.buffer.now = record {
      sized_key = λ x r at fit. (g.met.K.Archive.spells (first_fit (λ _. 0)) x.now).sized r at fit;
      sized_value = λ x r at fit. (g.met.A.ArchiveWith.spells c.args.with.now (first_fit (λ _. 0)) x.now).sized r at fit;
      is = c.requires.parts;
      whole = c.requires.whole;
      few = c.requires.few;
      blank = c.requires.blank;
      stands = c.requires.stands;
    } in
    let p = standing g.row.E k v keys vals given in
    let w = words_end g.row.E k v keys vals given in
    let e = c.in_err-resolve_values.field-0.0 in
    answers_error c.from_residual-in_err-resolve_values.result e _ _ (search rules) (values_refused g.row.E k v keys vals given st e (c.in_err-resolve_values.ensures st made))

pub overflow_add-pos-3 : goal.overflow_add-pos-3
overflow_add-pos-3 g c =
    let k = g.K.Archived.Portable.shape in
    let v = g.A.Archived.Portable.shape in
    let keys = borrowed g.K.Archive.spelling in
    let vals = borrowed (g.A.ArchiveWith.spelling c.args.with.now) in
    let given : Given g.row.E k v keys vals c.args.layout c.args.children c.args.entries.now c.args.pos c.args.buffer.now = record {
      sized_key = λ x r at fit. (g.met.K.Archive.spells (first_fit (λ _. 0)) x.now).sized r at fit;
      sized_value = λ x r at fit. (g.met.A.ArchiveWith.spells c.args.with.now (first_fit (λ _. 0)) x.now).sized r at fit;
      is = c.requires.parts;
      whole = c.requires.whole;
      few = c.requires.few;
      blank = c.requires.blank;
      stands = c.requires.stands;
    } in
    let p = standing g.row.E k v keys vals given in
    let w = words_end g.row.E k v keys vals given in
    omega (arith, p.links, w, c.requires.stands)

pub store_words-requires-clause-room : goal.store_words-requires-clause-room
store_words-requires-clause-room g c =
    let k = g.K.Archived.Portable.shape in
    let v = g.A.Archived.Portable.shape in
    let keys = borrowed g.K.Archive.spelling in
    let vals = borrowed (g.A.ArchiveWith.spelling c.args.with.now) in
    let given : Given g.row.E k v keys vals c.args.layout c.args.children c.args.entries.now c.args.pos c.args.buffer.now = record {
      sized_key = λ x r at fit. (g.met.K.Archive.spells (first_fit (λ _. 0)) x.now).sized r at fit;
      sized_value = λ x r at fit. (g.met.A.ArchiveWith.spells c.args.with.now (first_fit (λ _. 0)) x.now).sized r at fit;
      is = c.requires.parts;
      whole = c.requires.whole;
      few = c.requires.few;
      blank = c.requires.blank;
      stands = c.requires.stands;
    } in
    let p = standing g.row.E k v keys vals given in
    let w = words_end g.row.E k v keys vals given in
    let st = c.requires.made.0 in
    let made = c.requires.made.1 in
    let first = begun g.row.E k v keys vals given c.kind.result c.kind.ensures in
    let with_keys = keyed g.row.E k v keys vals given _ c.resolve_keys.new.buffer st first (c.in_ok-resolve_keys.ensures c.args.with.now st made) in
    let with_values = valued g.row.E k v keys vals given _ c.resolve_values.new.buffer st with_keys (c.in_ok-resolve_values.ensures st made) in
    let n = filled_length _ _ c.requires.blank with_values.holds in omega (arith, n, p.links, w)

pub store_words-requires-clause-stands : goal.store_words-requires-clause-stands
store_words-requires-clause-stands g c =
    let k = g.K.Archived.Portable.shape in
    let v = g.A.Archived.Portable.shape in
    let keys = borrowed g.K.Archive.spelling in
    let vals = borrowed (g.A.ArchiveWith.spelling c.args.with.now) in
    let given : Given g.row.E k v keys vals c.args.layout c.args.children c.args.entries.now c.args.pos c.args.buffer.now = record {
      sized_key = λ x r at fit. (g.met.K.Archive.spells (first_fit (λ _. 0)) x.now).sized r at fit;
      sized_value = λ x r at fit. (g.met.A.ArchiveWith.spells c.args.with.now (first_fit (λ _. 0)) x.now).sized r at fit;
      is = c.requires.parts;
      whole = c.requires.whole;
      few = c.requires.few;
      blank = c.requires.blank;
      stands = c.requires.stands;
    } in
    let p = standing g.row.E k v keys vals given in
    let w = words_end g.row.E k v keys vals given in
    omega (arith, p.links, w, c.requires.stands)

pub store_words-requires-clause-blank : goal.store_words-requires-clause-blank
store_words-requires-clause-blank g c =
    let k = g.K.Archived.Portable.shape in
    let v = g.A.Archived.Portable.shape in
    let keys = borrowed g.K.Archive.spelling in
    let vals = borrowed (g.A.ArchiveWith.spelling c.args.with.now) in
    let given : Given g.row.E k v keys vals c.args.layout c.args.children c.args.entries.now c.args.pos c.args.buffer.now = record {
      sized_key = λ x r at fit. (g.met.K.Archive.spells (first_fit (λ _. 0)) x.now).sized r at fit;
      sized_value = λ x r at fit. (g.met.A.ArchiveWith.spells c.args.with.now (first_fit (λ _. 0)) x.now).sized r at fit;
      is = c.requires.parts;
      whole = c.requires.whole;
      few = c.requires.few;
      blank = c.requires.blank;
      stands = c.requires.stands;
    } in
    let p = standing g.row.E k v keys vals given in
    let w = words_end g.row.E k v keys vals given in
    let st = c.requires.made.0 in
    let made = c.requires.made.1 in
    let first = begun g.row.E k v keys vals given c.kind.result c.kind.ensures in
    let with_keys = keyed g.row.E k v keys vals given _ c.resolve_keys.new.buffer st first (c.in_ok-resolve_keys.ensures c.args.with.now st made) in
    let with_values = valued g.row.E k v keys vals given _ c.resolve_values.new.buffer st with_keys (c.in_ok-resolve_values.ensures st made) in
    let n = valued_length g.row.E k v keys vals given with_values in
    filled_zero _ _ c.requires.blank with_values.holds c.args.layout.links (words_size c.args.children) (omega (arith, n, p.links, p.values_end)) (omega (arith, p.links, w))

pub returns : goal.returns
returns g c = λ st made.
    let k = g.K.Archived.Portable.shape in
    let v = g.A.Archived.Portable.shape in
    let keys = borrowed g.K.Archive.spelling in
    let vals = borrowed (g.A.ArchiveWith.spelling c.args.with.now) in
    let given : Given g.row.E k v keys vals c.args.layout c.args.children c.args.entries.now c.args.pos c.args.buffer.now = record {
      sized_key = λ x r at fit. (g.met.K.Archive.spells (first_fit (λ _. 0)) x.now).sized r at fit;
      sized_value = λ x r at fit. (g.met.A.ArchiveWith.spells c.args.with.now (first_fit (λ _. 0)) x.now).sized r at fit;
      is = c.requires.parts;
      whole = c.requires.whole;
      few = c.requires.few;
      blank = c.requires.blank;
      stands = c.requires.stands;
    } in
    let p = standing g.row.E k v keys vals given in
    let w = words_end g.row.E k v keys vals given in
    let first = begun g.row.E k v keys vals given c.kind.result c.kind.ensures in
    let with_keys = keyed g.row.E k v keys vals given _ c.resolve_keys.new.buffer st first (c.in_ok-resolve_keys.ensures c.args.with.now st made) in
    let with_values = valued g.row.E k v keys vals given _ c.resolve_values.new.buffer st with_keys (c.in_ok-resolve_values.ensures st made) in
    last_ended g.row.E k v keys vals given with_values c.store_words.new.buffer _ refl c.store_words.result c.store_words.ensures
