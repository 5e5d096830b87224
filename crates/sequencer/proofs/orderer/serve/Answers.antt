use Rattle.std.proofs.Common.{◌≡◌, List, Some, None, sym, ap, ◌∙◌, position}
use Rattle.sequencer.specs.Queues.{Queue, has_next}
use Rattle.sequencer.proofs.FirstThatPasses.{IsFirst, first-is, none-is}
use Rattle.sequencer.proofs.Queues.{first-next-at, first-next-none, served-at}
use Rattle.sequencer.proofs.orderer.serve.Goals as goal

pub returns-in_err-rank-clause-answer : goal.returns-in_err-rank-clause-answer
returns-in_err-rank-clause-answer c =
    let queues : List Queue = c.args.queues.now.items in
    let p : position has_next queues ≡ None = sym (ap (position has_next) c.as_slice.ensures.value) ∙ sym c.first_ready.ensures ∙ c.in_err-rank.was in
    c.from_residual.ensures ∙ sym (first-next-none queues (none-is has_next queues p))

pub returns-clause-answer : goal.returns-clause-answer
returns-clause-answer c =
    let queues : List Queue = c.args.queues.now.items in
    let p : position has_next queues ≡ Some c.in_ok-rank.rank =
    sym (ap (position has_next) c.as_slice.ensures.value) ∙ sym c.first_ready.ensures ∙ c.in_ok-rank.was in
    let q : Queue = c.index_mut.result.now in
    let t : IsFirst has_next queues c.in_ok-rank.rank q = first-is has_next queues c.in_ok-rank.rank q p c.index_mut.ensures.value in
    c.take_next.ensures.answer ∙ sym (first-next-at queues c.in_ok-rank.rank q t)

pub returns-clause-after : goal.returns-clause-after
returns-clause-after c =
    let queues : List Queue = c.args.queues.now.items in
    let p : position has_next queues ≡ Some c.in_ok-rank.rank =
    sym (ap (position has_next) c.as_slice.ensures.value) ∙ sym c.first_ready.ensures ∙ c.in_ok-rank.was in
    let q : Queue = c.index_mut.result.now in
    let t : IsFirst has_next queues c.in_ok-rank.rank q = first-is has_next queues c.in_ok-rank.rank q p c.index_mut.ensures.value in
    served-at c.take_next.result queues c.in_ok-rank.rank q c.take_next.new.self t c.index_mut.ensures.value c.take_next.ensures.after
