use Rattle.std.proofs.Common.{◌≡◌, ◌<◌, true, false, List, length, get_or, sym, ap, subst, ◌∙◌, refl}
use Rattle.address.specs.Ids.{Address, same_address}
use Rattle.world.specs.Worlds.{shown}
use Rattle.world.specs.Calm.AllSpeak.{NobodySpeaks}
use Rattle.world.proofs.CalmIsRun.{more-speaks, speak-stops, not-false, not-true}
use Rattle.address.proofs.Plain.{on-err}
use Rattle.world.proofs.World.all_speak.Goals as goal
use Rattle.world.proofs.World.all_speak.Goals.{then-ne+in_ok-speak, else-ne}

pub loop-address-init : goal.loop-address-init
loop-address-init g c = NobodySpeaks

-- one of them speaks, or is the coordinator
pub loop-address-preserved : goal.loop-address-preserved
loop-address-preserved g c =
    let all = c.as_slice-address-items.ensures.items ∙ c.members.ensures.members in
    let creator = c.creator-creator.ensures ∙ ap (λ v. v.creator) c.id.ensures in
    let inside = subst (λ (l : List Address). c.loop-address.address-index < length l) all c.loop-address-test.true in
    let is = subst (λ (l : List Address). c.address-item.result ≡ get_or l c.loop-address.address-index c.address-item.result) all c.address-item.is in
    elim c.if-ne.branch [
      | then-ne+in_ok-speak w ↦
          rw (w.self-is) (more-speaks g.R.Receiver.meaning c.args.view.now.id.creator (shown c.args.self.now) (shown c.loop-address.self) (shown w.speak.new.self) c.args.view.now.members
          c.loop-address.address-index c.address-item.result false inside is c.loop-address.invariant (ap (same_address c.address-item.result) (sym creator) ∙ not-false c.ne.result (same_address c.address-item.result c.creator-creator.result) c.ne.ensures w.if-ne.true) w.in_ok-speak.ensures.ok)
      | else-ne w ↦
          rw (w.self-is) (more-speaks g.R.Receiver.meaning c.args.view.now.id.creator (shown c.args.self.now) (shown c.loop-address.self) (shown c.loop-address.self) c.args.view.now.members
          c.loop-address.address-index c.address-item.result true inside is c.loop-address.invariant (ap (same_address c.address-item.result) (sym creator) ∙ not-true c.ne.result (same_address c.address-item.result c.creator-creator.result) c.ne.ensures w.if-ne.false) refl)
    ]

-- one of them fails
pub returns-in_err-speak-clause-err : goal.returns-in_err-speak-clause-err
returns-in_err-speak-clause-err g c =
    let all = c.as_slice-address-items.ensures.items ∙ c.members.ensures.members in
    let creator = c.creator-creator.ensures ∙ ap (λ v. v.creator) c.id.ensures in
    on-err c.from_residual.result _
    (speak-stops g.R.Receiver.meaning c.args.view.now.members c.args.view.now.id.creator (shown c.args.self.now) (shown c.loop-address.self) (shown c.speak.new.self) c.loop-address.address-index c.address-item.result
    (subst (λ (l : List Address). c.loop-address.address-index < length l) all c.loop-address-test.true)
    (subst (λ (l : List Address). c.address-item.result ≡ get_or l c.loop-address.address-index c.address-item.result) all c.address-item.is) c.loop-address.invariant
    (ap (same_address c.address-item.result) (sym creator) ∙ not-false c.ne.result (same_address c.address-item.result c.creator-creator.result) c.ne.ensures c.if-ne.true) c.in_err-speak.ensures.err)
