use Rattle.std.proofs.Common.{◌≡◌, List, Option, Some, None, false, sym, ap, subst, ◌∙◌, position}
use Rattle.std.specs.Option.{option_map_or}
use Rattle.sequencer.specs.Queues.{Queue, is_from, takes, offered}
use Rattle.sequencer.proofs.FirstThatPasses.{IsFirst, first-is, none-is, find-none, find-at, change-none}
use Rattle.sequencer.proofs.Queues.{offered-at}
use Rattle.sequencer.proofs.orderer.offer_to.Goals as goal

pub returns-in-None-clause-answer : goal.returns-in-None-clause-answer
returns-in-None-clause-answer c =
    let queues : List Queue = c.args.queues.now.items in
    let test = is_from c.args.sender.now in
    let p : position test queues ≡ None = sym (ap (position test) c.as_slice.ensures.value) ∙ sym c.rank_of.ensures ∙ c.in-None.is in
    sym (ap (λ o. option_map_or (takes c.args.number) o false) (find-none test queues (none-is test queues p)))

pub returns-in-None-clause-after : goal.returns-in-None-clause-after
returns-in-None-clause-after c =
    let queues : List Queue = c.args.queues.now.items in
    let test = is_from c.args.sender.now in
    let p : position test queues ≡ None = sym (ap (position test) c.as_slice.ensures.value) ∙ sym c.rank_of.ensures ∙ c.in-None.is in
    sym (change-none test (offered c.args.number c.args.payload) queues (none-is test queues p))

pub returns-in-Some-clause-answer : goal.returns-in-Some-clause-answer
returns-in-Some-clause-answer c =
    let queues : List Queue = c.args.queues.now.items in
    let test = is_from c.args.sender.now in
    let q : Queue = c.index_mut.result.now in
    let p : position test queues ≡ Some c.in-Some.rank = sym (ap (position test) c.as_slice.ensures.value) ∙ sym c.rank_of.ensures ∙ c.in-Some.is in
    let t : IsFirst test queues c.in-Some.rank q = first-is test queues c.in-Some.rank q p c.index_mut.ensures.value in
    subst (λ (o : Option Queue). c.offer.result ≡ option_map_or (takes c.args.number) o false) (sym (find-at test queues c.in-Some.rank q t)) c.offer.ensures.answer

pub returns-in-Some-clause-after : goal.returns-in-Some-clause-after
returns-in-Some-clause-after c =
    let queues : List Queue = c.args.queues.now.items in
    let test = is_from c.args.sender.now in
    let q : Queue = c.index_mut.result.now in
    let p : position test queues ≡ Some c.in-Some.rank = sym (ap (position test) c.as_slice.ensures.value) ∙ sym c.rank_of.ensures ∙ c.in-Some.is in
    let t : IsFirst test queues c.in-Some.rank q = first-is test queues c.in-Some.rank q p c.index_mut.ensures.value in
    offered-at test (offered c.args.number c.args.payload) queues c.in-Some.rank q c.offer.new.self t c.offer.ensures.after
