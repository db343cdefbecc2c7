use Rattle.std.proofs.Common.{◌≡◌, ◌*◌, ◌≤◌, length}
use Rattle.archive_btree_writing.proofs.Pointers.{LinksLaid}
use Rattle.archive_btree_writing.proofs.words.store_links.Given as goal

abbrev pub invariant-loop-i : goal.invariant-loop-i
invariant-loop-i l = record {
  counted : l.offset ≡ l.i * 4;
  within : l.i ≤ length l.children;
  laid : LinksLaid l.children l.fn.buffer l.start l.pos l.i l.buffer;
}
