use Rattle.std.proofs.Common.{◌≡◌, ◌<◌, true, false, List, length, get_or, sym, ap, subst, ◌∙◌, refl}
use Rattle.address.specs.Ids.{Address, ViewId, same_address}
use Rattle.world.specs.Gaps.{CatchesUp, Stops}
use Rattle.world.specs.Calm.{pair_with}
use Rattle.world.specs.Worlds.{shown}
use Rattle.world.specs.Calm.AllLevel.{NobodyLevels}
use Rattle.world.proofs.CalmIsRun.{more-levels, level-stops, not-false, not-true}
use Rattle.address.proofs.Plain.{on-err}
use Rattle.world.proofs.World.all_level.Goals as goal
use Rattle.world.proofs.World.all_level.Goals.{then-ne+in_ok-bring_level, else-ne}

pub loop-address-init : goal.loop-address-init
loop-address-init g c = NobodyLevels

-- one of them is brought level, or is the coordinator
pub loop-address-preserved : goal.loop-address-preserved
loop-address-preserved g c =
    let all = c.as_slice-address-items.ensures.items ∙ c.members.ensures.members in
    let creator = c.creator-creator.ensures ∙ ap (λ v. v.creator) c.id.ensures in
    let inside = subst (λ (l : List Address). c.loop-address.address-index < length l) all c.loop-address-test.true in
    let is = subst (λ (l : List Address). c.address-item.result ≡ get_or l c.loop-address.address-index c.address-item.result) all c.address-item.is in
    elim c.if-ne.branch [
      | then-ne+in_ok-bring_level w ↦
          rw (w.self-is) (more-levels g.R.Receiver.meaning c.args.view.now.id (shown c.args.self.now) (shown c.loop-address.self) (shown w.bring_level.new.self) c.args.view.now.members
          c.loop-address.address-index c.address-item.result false inside is c.loop-address.invariant (ap (same_address c.address-item.result) (sym creator) ∙ not-false c.ne.result (same_address c.address-item.result c.creator-creator.result) c.ne.ensures w.if-ne.true)
          (subst (λ (i : ViewId). CatchesUp g.R.Receiver.meaning (pair_with g.R.Receiver.meaning i c.address-item.result) (shown c.loop-address.self) (shown w.bring_level.new.self)) w.id-then-ne.ensures w.in_ok-bring_level.ensures.ok))
      | else-ne w ↦
          rw (w.self-is) (more-levels g.R.Receiver.meaning c.args.view.now.id (shown c.args.self.now) (shown c.loop-address.self) (shown c.loop-address.self) c.args.view.now.members
          c.loop-address.address-index c.address-item.result true inside is c.loop-address.invariant (ap (same_address c.address-item.result) (sym creator) ∙ not-true c.ne.result (same_address c.address-item.result c.creator-creator.result) c.ne.ensures w.if-ne.false) refl)
    ]

-- one of them fails
pub returns-in_err-bring_level-clause-err : goal.returns-in_err-bring_level-clause-err
returns-in_err-bring_level-clause-err g c =
    let all = c.as_slice-address-items.ensures.items ∙ c.members.ensures.members in
    let creator = c.creator-creator.ensures ∙ ap (λ v. v.creator) c.id.ensures in
    on-err c.from_residual.result _
    (level-stops g.R.Receiver.meaning c.args.view.now.members c.args.view.now.id (shown c.args.self.now) (shown c.loop-address.self) (shown c.bring_level.new.self) c.loop-address.address-index c.address-item.result
    (subst (λ (l : List Address). c.loop-address.address-index < length l) all c.loop-address-test.true)
    (subst (λ (l : List Address). c.address-item.result ≡ get_or l c.loop-address.address-index c.address-item.result) all c.address-item.is) c.loop-address.invariant
    (ap (same_address c.address-item.result) (sym creator) ∙ not-false c.ne.result (same_address c.address-item.result c.creator-creator.result) c.ne.ensures c.if-ne.true)
    (subst (λ (i : ViewId). Stops g.R.Receiver.meaning (pair_with g.R.Receiver.meaning i c.address-item.result) (shown c.loop-address.self) (shown c.bring_level.new.self)) c.id-then-ne.ensures c.in_err-bring_level.ensures.err))
