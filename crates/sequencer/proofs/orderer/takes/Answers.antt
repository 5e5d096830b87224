use Rattle.std.proofs.Common.{◌≡◌, List, Option, Some, None, false, sym, ap, subst, ◌∙◌, position}
use Rattle.std.specs.Option.{option_map_or}
use Rattle.sequencer.specs.Queues.{Queue, is_from, takes}
use Rattle.sequencer.proofs.FirstThatPasses.{IsFirst, first-is, none-is, find-none, find-at}
use Rattle.sequencer.proofs.orderer.takes.Goals as goal

pub returns-in-None : goal.returns-in-None
returns-in-None c =
    let queues : List Queue = c.args.queues.now in
    let test = is_from c.args.sender.now in
    let p : position test queues ≡ None = sym c.rank_of.ensures ∙ c.in-None.is in
    sym (ap (λ o. option_map_or (takes c.args.number) o false) (find-none test queues (none-is test queues p)))

pub returns-in-Some : goal.returns-in-Some
returns-in-Some c =
    let queues : List Queue = c.args.queues.now in
    let test = is_from c.args.sender.now in
    let q : Queue = c.index-queues-rank.result in
    let p : position test queues ≡ Some c.in-Some.rank = sym c.rank_of.ensures ∙ c.in-Some.is in
    let t : IsFirst test queues c.in-Some.rank q = first-is test queues c.in-Some.rank q p c.index-queues-rank.is in
    subst (λ (o : Option Queue). c.takes.result ≡ option_map_or (takes c.args.number) o false) (sym (find-at test queues c.in-Some.rank q t)) (c.takes.ensures ∙ ap (λ n. takes n q) c.get.ensures.value)
