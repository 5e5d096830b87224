use Rattle.std.proofs.Common.{refl, sym}
use Rattle.std.proofs.lemmas.List.Folds.{list_any_more}
use Rattle.udp_net.specs.Neighbours.{hearing, is_news}
use Rattle.udp_net.proofs.WrittenOverEach.{unread, written}
use Rattle.udp_net.proofs.neighbours.hear_all.Goals as goal

pub loop-neighbour-preserved : goal.loop-neighbour-preserved
loop-neighbour-preserved c =
    let f = hearing c.args.word.now in
    let told = c.args.told.now in
    let i = c.loop-neighbour.neighbour-index in
    let so_far = c.loop-neighbour.invariant in
    let same = unread f told c.loop-neighbour.told i c.neighbour-item.result c.loop-neighbour-test.true so_far.told c.neighbour-item.is in
    record {
      told = written f told c.loop-neighbour.told i c.neighbour-item.result c.loop-neighbour-test.true so_far.told c.neighbour-item.is c.hearing.ensures;
      news = rw (c.is_news-is_any_news.ensures, so_far.news, sym c.neighbour-item.is, list_any_more (is_news c.args.word.now) told i c.neighbour-item.result c.loop-neighbour-test.true, sym same) refl;
    }
