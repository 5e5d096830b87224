use Rattle.std.proofs.Common.{◌≡◌, true, false, refl, sym, ◌∙◌, arith}
use Rattle.std.proofs.lemmas.Result.{err_from_is_err_and}
use Rattle.udp_member.specs.Detectors.{is_silent}
use Rattle.udp_member.proofs.RoundsCompose.{none-suspected, suspected-one, heard-one-more, suspected-cut, all-suspected}
use Rattle.udp_member.proofs.runner.Runner.suspect_all.Goals as goal
use Rattle.udp_member.proofs.runner.Runner.suspect_all.Goals.{then-is_silent+in_ok-suspect, else-is_silent}

pub loop-address-init : goal.loop-address-init
loop-address-init g c = none-suspected g.N.Net.log g.N.Net.failed g.R.Receiver.meaning _ _

pub loop-address-preserved : goal.loop-address-preserved
loop-address-preserved g c =
    elim c.if-is_silent.branch [
      | then-is_silent+in_ok-suspect w ↦
          let silent : is_silent c.loop-address.self.notes.detector c.address-item.result ≡ true = rw (← c.self.view_is) (sym c.is_silent.ensures ∙ w.if-is_silent.true) in
          rw (w.self-is, w.is_heard-is) (suspected-one g.N.Net.log g.N.Net.failed g.R.Receiver.meaning _ _ _ _ _ _ _ c.loop-address-test.true c.address-item.is c.loop-address.invariant silent
          w.in_ok-suspect.ensures.hands w.in_ok-suspect.ensures.net w.in_ok-suspect.ensures.faults)
      | else-is_silent w ↦
          let silent : is_silent c.loop-address.self.notes.detector c.address-item.result ≡ false = rw (← c.self.view_is) (sym c.is_silent.ensures ∙ w.if-is_silent.false) in
          rw (w.self-is, w.is_heard-is) (heard-one-more g.N.Net.log g.N.Net.failed g.R.Receiver.meaning _ _ _ _ _ _ c.loop-address-test.true c.address-item.is c.loop-address.invariant silent)
    ]

pub returns-in_err-suspect : goal.returns-in_err-suspect
returns-in_err-suspect g c =
    let p = err_from_is_err_and c.from_residual.result c.from_residual.ensures.1 in
    let silent : is_silent c.loop-address.self.notes.detector c.address-item.result ≡ true = rw (← c.self.view_is) (sym c.is_silent.ensures ∙ c.if-is_silent.true) in
    rw (p.1, p.2) (suspected-cut g.N.Net.log g.N.Net.failed g.R.Receiver.meaning _ _ _ _ _ _ _ _ c.loop-address.invariant silent c.in_err-suspect.ensures.hands c.in_err-suspect.ensures.net c.in_err-suspect.ensures.faults)

pub returns-then-not-is_heard : goal.returns-then-not-is_heard
returns-then-not-is_heard g c =
    all-suspected g.N.Net.log g.N.Net.failed g.R.Receiver.meaning _ _ _ _ _ _ c.loop-address.invariant (omega (arith, c.loop-address-test.false, c.loop-address.auto.address-index-end))
    (rw (c.if-not-is_heard.true, ← c.self-2.view_is, c.begin_anew.ensures) refl)

pub returns-else-not-is_heard : goal.returns-else-not-is_heard
returns-else-not-is_heard g c =
    all-suspected g.N.Net.log g.N.Net.failed g.R.Receiver.meaning _ _ _ _ _ _ c.loop-address.invariant (omega (arith, c.loop-address-test.false, c.loop-address.auto.address-index-end))
    (rw (c.if-not-is_heard.false) refl)
