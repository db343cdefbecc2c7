use Rattle.std.proofs.Common.{rules, arith, ◌<◌, length-set, ◌∙◌}
use Rattle.archive_shape_canonical.specs.FirstFit.{first_fit}
use Rattle.archive_shape_layout.specs.Shape.{size_of}
use Rattle.archive_shape_layout.specs.Shape.Shape.{option}
use Rattle.archive_forms_writing.proofs.Joining.{payload_place}
use Rattle.archive_forms_writing.proofs.Options.{value_place, some_made, some_resolved}
use Rattle.archive_forms_writing.proofs.option.OptionArchive.resolve.Goals as goal

pub bounds-out-start : goal.bounds-out-start
bounds-out-start g c =
    let some : 0 < c.ALIGN-offset.result = omega (arith, c.ALIGN-offset.ensures, g.met.T.Archived.Portable.aligns.0) in
    let p = value_place g.T.Archived.Portable.shape c.ALIGN-offset.result (c.ALIGN-offset.ensures ∙ g.met.T.Archived.Portable.aligned) some in
    let first = p.first in let fits = p.fits in let room = c.requires.room in omega arith

pub overflow_add-pos : goal.overflow_add-pos
overflow_add-pos g c =
    let some : 0 < c.ALIGN-offset.result = omega (arith, c.ALIGN-offset.ensures, g.met.T.Archived.Portable.aligns.0) in
    let p = value_place g.T.Archived.Portable.shape c.ALIGN-offset.result (c.ALIGN-offset.ensures ∙ g.met.T.Archived.Portable.aligned) some in
    let first = p.first in let fits = p.fits in let stands = c.requires.stands in omega arith

pub resolve-requires : goal.resolve-requires
resolve-requires g c =
    let some : 0 < c.ALIGN-offset.result = omega (arith, c.ALIGN-offset.ensures, g.met.T.Archived.Portable.aligns.0) in
    let p = value_place g.T.Archived.Portable.shape c.ALIGN-offset.result (c.ALIGN-offset.ensures ∙ g.met.T.Archived.Portable.aligned) some in
    let s = g.T.Archived.Portable.shape in
    let fits = p.fits in
    let first = p.first in
    let room = c.requires.room in
    let stands = c.requires.stands in
    let starts = c.within.ensures.start in
    let stands_at = c.within.ensures.pos in
    let z = payload_place c.ALIGN-offset.result (size_of (option s)) (size_of s) first fits c.args.out.out.now c.args.out.start 1 room c.requires.blank in
    record {
      room = rw (c.within.ensures.bytes, starts, length-set) (omega arith);
      stands = omega arith;
      blank = rw (c.within.ensures.bytes, starts) z;
      made = some_made s g.T.Archive.spelling _ _ _ _ c.in-Some.is c.in-Some-resolver.is c.requires.made;
    }

pub returns : goal.returns
returns g c =
    let some : 0 < c.ALIGN-offset.result = omega (arith, c.ALIGN-offset.ensures, g.met.T.Archived.Portable.aligns.0) in
    let p = value_place g.T.Archived.Portable.shape c.ALIGN-offset.result (c.ALIGN-offset.ensures ∙ g.met.T.Archived.Portable.aligned) some in
    some_resolved g.T.Archived.Portable.shape g.T.Archive.spelling (λ x r pos. (g.met.T.Archive.spells (first_fit (λ _. 0)) x).sized r pos) c.ALIGN-offset.result p
    c.args.out.out.now c.within.result.out.now c.resolve.new.out.0 _ c.args.out.start c.args.out.pos c.within.result.start c.within.result.pos c.args.self.now c.args.resolver
    c.in-Some.value c.in-Some-resolver.kept c.resolve.result c.in-Some.is c.in-Some-resolver.is c.requires.room c.requires.blank c.within.ensures.bytes c.within.ensures.start c.within.ensures.pos (search rules) c.resolve.ensures
