use Rattle.std.proofs.Common.{◌∙◌, ◌+◌, ◌*◌, Some, None, ap, sym, subst, arith, All}
use Rattle.std.specs.Prelude.{slice_index_or}
use Rattle.std.specs.Option.{option_map}
use Rattle.archive_forms_laws.specs.SpellingLaws.{KnowsAll}
use Rattle.archive_shape_layout.specs.Bytes.{word_at}
use Rattle.archive_shape_layout.specs.Shape.{size_of}
use Rattle.archive_forms_values.specs.Tuples.{tuple2}
use Rattle.archive_forms_values.specs.Parts.{HasValue}
use Rattle.archive_hash_maps.specs.Tables.{item_positions}
use Rattle.archive_hash_maps.specs.Places.{Answers}
use Rattle.archive_hash_maps.proofs.Read.{one_table}
use Rattle.archive_hash_maps.proofs.Lookups.{found_there, some_item}
use Rattle.archive_forms_laws.specs.Sample.{number_shape}
use Rattle.archive_index.proofs.Standing.{map_of, has_table, NamesEntry, numbers_name}
use Rattle.archive_index.proofs.map.search.search_entries.Goals as goal

pub search_table-found-requires-clause-has : goal.search_table-found-requires-clause-has
search_table-found-requires-clause-has g c = has_table g.K.Portable.shape g.V.Portable.shape g.K.Portable.knows g.V.Portable.knows c.args.bytes.now c.args.pos c.requires.has

pub search_table-found-requires-clause-callable : goal.search_table-found-requires-clause-callable
search_table-found-requires-clause-callable g c b is i d below =
    let k = g.K.Portable.shape in
    let v = g.V.Portable.shape in
    let bytes = c.args.bytes.now in
    let r = map_of k v g.K.Portable.knows g.V.Portable.knows bytes c.args.pos c.requires.has in
    let m = r.map in
    let start = (c.entries_at-start.ensures.map m r.stands).0 in
    let all = subst (λ x. All (NamesEntry k v g.K.Portable.knows g.V.Portable.knows bytes c.args.pos m) (item_positions number_shape x)) (one_table bytes number_shape c.args.pos m.buckets b r.stands.table is)
    (numbers_name k v g.K.Portable.knows g.V.Portable.knows bytes c.args.pos c.requires.has m r.stands) in
    let one = all i d below in
    let p = slice_index_or (item_positions number_shape b) i d in
    let fits = one.fits in
    let short = c.type_inv.bytes in (
      one.room,
      (omega (arith, start, fits, short), subst (λ a. goal.F-pre g c.args.accepts.now (a + word_at bytes p * size_of (tuple2 k v))) (sym start) (c.requires.callable m r.stands (word_at bytes p) one.less)),
    )

pub number_at-requires : goal.number_at-requires
number_at-requires g c =
    let h = has_table g.K.Portable.shape g.V.Portable.shape g.K.Portable.knows g.V.Portable.knows c.args.bytes.now c.args.pos c.requires.has in
    let there = some_item (HasValue number_shape KnowsAll c.args.bytes.now) c.search_table-found.result.0 c.in-Some.at (found_there number_shape KnowsAll c.args.bytes.now c.args.pos (λ p x. goal.F-post g c.args.accepts.now (c.entries_at-start.result.0 + word_at c.args.bytes.now p * size_of (tuple2 g.K.Portable.shape g.V.Portable.shape)) x) h c.search_table-found.result.0 c.search_table-found.ensures.accepted) c.in-Some.is in
    there.held.own_within

pub returns-in-Some-clause-answers : goal.returns-in-Some-clause-answers
returns-in-Some-clause-answers g c m at =
    let bytes = c.args.bytes.now in
    let size = size_of (tuple2 g.K.Portable.shape g.V.Portable.shape) in
    let f = c.search_table-found.ensures in
    let start = (c.entries_at-start.ensures.map m at).0 in
    subst (λ a. Answers (λ p x. goal.F-post g c.args.accepts.now (a + word_at bytes p * size) x) (λ p. word_at bytes p) number_shape m.buckets c.args.hash (Some c.number_at.result) c.search_table-found.result.1) start
    (record {
      position = c.search_table-found.result.0;
      is = ap Some c.number_at.ensures.value ∙ sym (ap (option_map (word_at bytes)) c.in-Some.is);
      looks_up = f.answers m.buckets at.table;
      accepted = f.accepted m.buckets at.table;
      only = f.findable m.buckets at.table;
      few = f.few m.buckets at.table;
    })

pub returns-in-None-clause-answers : goal.returns-in-None-clause-answers
returns-in-None-clause-answers g c m at =
    let bytes = c.args.bytes.now in
    let size = size_of (tuple2 g.K.Portable.shape g.V.Portable.shape) in
    let f = c.search_table-found.ensures in
    let start = (c.entries_at-start.ensures.map m at).0 in
    subst (λ a. Answers (λ p x. goal.F-post g c.args.accepts.now (a + word_at bytes p * size) x) (λ p. word_at bytes p) number_shape m.buckets c.args.hash None c.search_table-found.result.1) start
    (record {
      position = c.search_table-found.result.0;
      is = sym (ap (option_map (word_at bytes)) c.in-None.is);
      looks_up = f.answers m.buckets at.table;
      accepted = f.accepted m.buckets at.table;
      only = f.findable m.buckets at.table;
      few = f.few m.buckets at.table;
    })
