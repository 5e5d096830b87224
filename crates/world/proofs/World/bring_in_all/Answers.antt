use Rattle.std.proofs.Common.{◌≡◌, ◌<◌, true, false, List, length, get_or, sym, ap, subst, ◌∙◌, refl}
use Rattle.address.specs.Ids.{Address}
use Rattle.world.specs.Worlds.{WorldValue, shown}
use Rattle.world.specs.LostInstalls.{awaits_install}
use Rattle.world.specs.LostInstalls.BringsAll.{Nobody}
use Rattle.world.proofs.BringingIsRun.{one-more, stops-at}
use Rattle.address.proofs.Plain.{on-err}
use Rattle.world.proofs.World.bring_in_all.Goals as goal
use Rattle.world.proofs.World.bring_in_all.Goals.{then-awaits_install+in_ok-bring_in, else-awaits_install}

pub loop-address-init : goal.loop-address-init
loop-address-init g c = Nobody

-- one of them fails
pub returns-in_err-bring_in-clause-err : goal.returns-in_err-bring_in-clause-err
returns-in_err-bring_in-clause-err g c =
    let all = c.as_slice-address-items.ensures.items ∙ c.members.ensures.members in
    let tells = c.awaits_install.ensures ∙ ap (λ (w : WorldValue _). awaits_install (shown w).node_states c.args.node c.args.view.now c.address-item.result) c.self.view_is in
    on-err c.from_residual.result _
    (stops-at g.R.Receiver.meaning c.args.node c.args.view.now (shown c.args.self.now) (shown c.loop-address.self) (shown c.bring_in.new.self) c.loop-address.address-index c.address-item.result
    (subst (λ (l : List Address). c.loop-address.address-index < length l) all c.loop-address-test.true)
    (subst (λ (l : List Address). c.address-item.result ≡ get_or l c.loop-address.address-index c.address-item.result) all c.address-item.is) c.loop-address.invariant
    (sym tells ∙ c.if-awaits_install.true) c.in_err-bring_in.ensures.err)

-- one of them is brought in, or is in the view
pub loop-address-preserved : goal.loop-address-preserved
loop-address-preserved g c =
    let all = c.as_slice-address-items.ensures.items ∙ c.members.ensures.members in
    let tells = c.awaits_install.ensures ∙ ap (λ (w : WorldValue _). awaits_install (shown w).node_states c.args.node c.args.view.now c.address-item.result) c.self.view_is in
    let inside = subst (λ (l : List Address). c.loop-address.address-index < length l) all c.loop-address-test.true in
    let is = subst (λ (l : List Address). c.address-item.result ≡ get_or l c.loop-address.address-index c.address-item.result) all c.address-item.is in
    elim c.if-awaits_install.branch [
      | then-awaits_install+in_ok-bring_in w ↦
          rw (w.self-is) (one-more g.R.Receiver.meaning c.args.node c.args.view.now (shown c.args.self.now) (shown c.loop-address.self) (shown w.bring_in.new.self) c.args.view.now.members
          c.loop-address.address-index c.address-item.result true inside is c.loop-address.invariant (sym w.if-awaits_install.true ∙ tells) w.in_ok-bring_in.ensures.ok)
      | else-awaits_install w ↦
          rw (w.self-is) (one-more g.R.Receiver.meaning c.args.node c.args.view.now (shown c.args.self.now) (shown c.loop-address.self) (shown c.loop-address.self) c.args.view.now.members
          c.loop-address.address-index c.address-item.result false inside is c.loop-address.invariant (sym w.if-awaits_install.false ∙ tells) refl)
    ]
