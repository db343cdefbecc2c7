use Rattle.std.proofs.Common.{arith, ◌≢◌, sym}
use Rattle.archive_shape_layout.specs.Bytes.{word_at}
use Rattle.archive_shape_layout.specs.Content.{item}
use Rattle.archive_hash_maps.proofs.HeadChecks.{leads_near, head_full, head_astray}
use Rattle.archive_hash_maps.proofs.checking.head.check_head.Goals as goal

pub returns-then-len-capacity : goal.returns-then-len-capacity
returns-then-len-capacity g c range size long =
    let some : c.read_word-len.result ≢ 0 = λ e. omega (arith, e, c.if-len-eq0.false) in
    head_full c.args.bytes.now c.args.pos size long c.read_word-len.result c.read_word-capacity.result c.read_word-len.ensures c.read_word-capacity.ensures some (item g.T.Portable.shape) range c.if-len-capacity.true

pub returns-in_default : goal.returns-in_default
returns-in_default g c range size long =
    let some : c.read_word-len.result ≢ 0 = λ e. omega (arith, e, c.if-len-eq0.false) in
    head_astray c.args.bytes.now c.args.pos size long c.read_word-len.result c.read_word-capacity.result c.read_word-len.ensures c.read_word-capacity.ensures some c.if-len-capacity.false
    (item g.T.Portable.shape) range c.table_size.result (sym c.in_default.ensures) c.table_size.ensures

pub returns : goal.returns
returns g c =
    let near = leads_near c.args.pos (word_at c.args.bytes.now c.args.pos) c.in-Some.controls (sym c.in-Some.ensures) in
    record {
      len = c.read_word-len.ensures;
      capacity = c.read_word-capacity.ensures;
      controls = sym c.in-Some.ensures;
      some = omega (arith, c.if-len-eq0.false);
      room = c.if-len-capacity.false;
      small = omega arith;
      near = omega (arith, near, c.requires);
    }
