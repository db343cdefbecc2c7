use Rattle.cabinet_archives.proofs.Leading.{leads, leads_by_entry, leads_soundly, compares}
use Rattle.cabinet_archives.proofs.maps.ordered.get_counted.Goals as goal

pub returns : goal.returns
returns c =
    let map = c.args.map in
    record {
      leads = leads map.bytes map.pos c.args.key c.requires.sound c.get_counted.result.0 (λ t order is orders. (c.get_counted.ensures.answers t order is orders).0);
      way = leads_by_entry map.bytes map.pos c.args.key c.requires.sound c.get_counted.result.0 (λ t order is orders. (c.get_counted.ensures.answers t order is orders).0) c.requires.has;
      sound = leads_soundly map.bytes map.pos c.args.key c.requires.sound c.get_counted.result.0 (λ t order is orders. (c.get_counted.ensures.answers t order is orders).0) c.requires.has;
      compares = compares map.bytes map.pos c.args.key c.requires.has c.get_counted.result.1.comparisons (λ t order is orders. (c.get_counted.ensures.answers t order is orders).1);
      searches = c.get_counted.ensures.searches;
    }
