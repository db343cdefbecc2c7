use Rattle.std.proofs.Common.{List}
use Rattle.archive_shape.specs.declared.references.refs.Ref.{Ref}
use Rattle.archive_forms_values.specs.declared.text.string.ArchivedString.{ArchivedString}
use Rattle.cabinet_text_nodes.proofs.Pieces.{AreWrittenBefore}
use Rattle.cabinet_archives.proofs.KeysYielded.{AreLeft}
use Rattle.cabinet_archives.proofs.Within.{key_piece}
use Rattle.cabinet_archives.proofs.asking.keys.write_each.Given as goal

-- of the keys that the iterator yields in all, those before the ones that are left were written
abbrev pub invariant-loop-key : goal.invariant-loop-key
invariant-loop-key g l =
    let w = g.W.Writer in
    (all : List (Ref ArchivedString)) × (left : List (Ref ArchivedString))
    × AreLeft g.I.Iterator.next_gives l.initial.key-iterator all × AreLeft g.I.Iterator.next_gives l.key-iterator left
    × AreWrittenBefore w.OBSERVABLE w.COUNTS w.contents g.W.Positional.pos w.failures w.last_error g.W.Registry.known key_piece l.fn.writer l.writer all left
