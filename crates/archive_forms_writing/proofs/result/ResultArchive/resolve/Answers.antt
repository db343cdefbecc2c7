use Rattle.std.proofs.Common.{rules, arith}
use Rattle.archive_shape_canonical.specs.FirstFit.{first_fit}
use Rattle.archive_shape_layout.specs.Shape.{size_of}
use Rattle.archive_shape_layout.specs.Shape.Shape.{result as result_shape}
use Rattle.archive_forms_writing.proofs.Results.{outcome_place, payload_can, payload_resolved, value_made, error_made, value_resolved, error_resolved}
use Rattle.archive_forms_writing.proofs.result.ResultArchive.resolve.Goals as goal

pub bounds-out-start : goal.bounds-out-start
bounds-out-start g c =
    let p = outcome_place g.T.Archived.Portable.shape g.E.Archived.Portable.shape c.ALIGN-offset.result _ _ c.ALIGN-offset.ensures g.met.T.Archived.Portable.aligned g.met.E.Archived.Portable.aligned g.met.T.Archived.Portable.aligns.0 in
    let first = p.first in let fits = p.fits in let room = c.requires.room in omega arith

pub overflow_add-pos : goal.overflow_add-pos
overflow_add-pos g c =
    let p = outcome_place g.T.Archived.Portable.shape g.E.Archived.Portable.shape c.ALIGN-offset.result _ _ c.ALIGN-offset.ensures g.met.T.Archived.Portable.aligned g.met.E.Archived.Portable.aligned g.met.T.Archived.Portable.aligns.0 in
    let first = p.first in let fits = p.fits in let stands = c.requires.stands in omega arith

pub resolve-requires : goal.resolve-requires
resolve-requires g c =
    let p = outcome_place g.T.Archived.Portable.shape g.E.Archived.Portable.shape c.ALIGN-offset.result _ _ c.ALIGN-offset.ensures g.met.T.Archived.Portable.aligned g.met.E.Archived.Portable.aligned g.met.T.Archived.Portable.aligns.0 in
    payload_can g.T.Archive.spelling g.T.Archived.Portable.shape 0 c.ALIGN-offset.result (size_of (result_shape g.T.Archived.Portable.shape g.E.Archived.Portable.shape)) p.first p.fits
    c.args.out.out.now _ c.args.out.start c.args.out.pos _ _ _ _ c.requires.room c.requires.stands c.requires.blank c.within.ensures.bytes c.within.ensures.start c.within.ensures.pos
    (value_made g.T.Archived.Portable.shape g.E.Archived.Portable.shape g.T.Archive.spelling g.E.Archive.spelling c.args.self.now c.args.resolver _ _ c.in-Ok.is c.in-Ok-resolver.is c.requires.made)

pub returns-in-Ok : goal.returns-in-Ok
returns-in-Ok g c =
    let p = outcome_place g.T.Archived.Portable.shape g.E.Archived.Portable.shape c.ALIGN-offset.result _ _ c.ALIGN-offset.ensures g.met.T.Archived.Portable.aligned g.met.E.Archived.Portable.aligned g.met.T.Archived.Portable.aligns.0 in
    value_resolved g.T.Archived.Portable.shape g.E.Archived.Portable.shape g.T.Archive.spelling g.E.Archive.spelling c.args.self.now c.ALIGN-offset.result p.at c.args.out.out.now _ c.args.out.start c.args.out.pos c.resolve.result c.args.resolver c.in-Ok.value c.in-Ok-resolver.kept c.in-Ok.is c.in-Ok-resolver.is
    (payload_resolved g.T.Archive.spelling g.T.Archived.Portable.shape (result_shape g.T.Archived.Portable.shape g.E.Archived.Portable.shape) 0 c.ALIGN-offset.result p.first p.fits
    c.args.out.out.now c.within.result.out.now c.resolve.new.out.0 _ c.args.out.start c.args.out.pos c.within.result.start c.within.result.pos c.in-Ok.value c.in-Ok-resolver.kept c.resolve.result
    (λ pos. (g.met.T.Archive.spells (first_fit (λ _. 0)) c.in-Ok.value).sized c.in-Ok-resolver.kept pos) c.requires.room c.requires.blank c.within.ensures.bytes c.within.ensures.start c.within.ensures.pos (search rules) c.resolve.ensures)

pub bounds-out-start-in-Err : goal.bounds-out-start-in-Err
bounds-out-start-in-Err g c =
    let p = outcome_place g.T.Archived.Portable.shape g.E.Archived.Portable.shape c.ALIGN-offset.result _ _ c.ALIGN-offset.ensures g.met.T.Archived.Portable.aligned g.met.E.Archived.Portable.aligned g.met.T.Archived.Portable.aligns.0 in
    let first = p.first in let fits = p.fits in let room = c.requires.room in omega arith

pub overflow_add-pos-in-Err : goal.overflow_add-pos-in-Err
overflow_add-pos-in-Err g c =
    let p = outcome_place g.T.Archived.Portable.shape g.E.Archived.Portable.shape c.ALIGN-offset.result _ _ c.ALIGN-offset.ensures g.met.T.Archived.Portable.aligned g.met.E.Archived.Portable.aligned g.met.T.Archived.Portable.aligns.0 in
    let first = p.first in let fits = p.fits in let stands = c.requires.stands in omega arith

pub resolve-requires-in-Err : goal.resolve-requires-in-Err
resolve-requires-in-Err g c =
    let p = outcome_place g.T.Archived.Portable.shape g.E.Archived.Portable.shape c.ALIGN-offset.result _ _ c.ALIGN-offset.ensures g.met.T.Archived.Portable.aligned g.met.E.Archived.Portable.aligned g.met.T.Archived.Portable.aligns.0 in
    payload_can g.E.Archive.spelling g.E.Archived.Portable.shape 1 c.ALIGN-offset.result (size_of (result_shape g.T.Archived.Portable.shape g.E.Archived.Portable.shape)) p.first p.fits_error
    c.args.out.out.now _ c.args.out.start c.args.out.pos _ _ _ _ c.requires.room c.requires.stands c.requires.blank c.within-in-Err.ensures.bytes c.within-in-Err.ensures.start c.within-in-Err.ensures.pos
    (error_made g.T.Archived.Portable.shape g.E.Archived.Portable.shape g.T.Archive.spelling g.E.Archive.spelling c.args.self.now c.args.resolver _ _ c.in-Err.is c.in-Err-resolver.is c.requires.made)

pub returns-in-Err : goal.returns-in-Err
returns-in-Err g c =
    let p = outcome_place g.T.Archived.Portable.shape g.E.Archived.Portable.shape c.ALIGN-offset.result _ _ c.ALIGN-offset.ensures g.met.T.Archived.Portable.aligned g.met.E.Archived.Portable.aligned g.met.T.Archived.Portable.aligns.0 in
    error_resolved g.T.Archived.Portable.shape g.E.Archived.Portable.shape g.T.Archive.spelling g.E.Archive.spelling c.args.self.now c.ALIGN-offset.result p.at c.args.out.out.now _ c.args.out.start c.args.out.pos c.resolve-in-Err.result c.args.resolver c.in-Err.error c.in-Err-resolver.kept c.in-Err.is c.in-Err-resolver.is
    (payload_resolved g.E.Archive.spelling g.E.Archived.Portable.shape (result_shape g.T.Archived.Portable.shape g.E.Archived.Portable.shape) 1 c.ALIGN-offset.result p.first p.fits_error
    c.args.out.out.now c.within-in-Err.result.out.now c.resolve-in-Err.new.out.0 _ c.args.out.start c.args.out.pos c.within-in-Err.result.start c.within-in-Err.result.pos c.in-Err.error c.in-Err-resolver.kept c.resolve-in-Err.result
    (λ pos. (g.met.E.Archive.spells (first_fit (λ _. 0)) c.in-Err.error).sized c.in-Err-resolver.kept pos) c.requires.room c.requires.blank c.within-in-Err.ensures.bytes c.within-in-Err.ensures.start c.within-in-Err.ensures.pos (search rules) c.resolve-in-Err.ensures)
