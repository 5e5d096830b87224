use Rattle.std.proofs.Common.{◌≡◌, ◌<◌, ◌+◌, ◌-◌, ◌/◌, ◌∙◌, ap, arith, length, subst, sym, ℕ, Option}
use Rattle.std.specs.Prelude.{IfSome}
use Rattle.std.proofs.lemmas.Result.{on_ok_weaker}
use Rattle.frames.specs.declared.longs.Longs.{Longs}
use Rattle.udp_net.specs.Logs.{Lists}
use Rattle.frames.specs.Carried.{offering_long}
use Rattle.frames.specs.Longs.{AreKnown, HasNumber, IsNumbered, number_for}
use Rattle.frames.specs.Outlets.{OutletModel}
use Rattle.frames.specs.Sendings.{AreLongs, IsFrameOf}
use Rattle.frames.proofs.AllPieces.{all-pieces}
use Rattle.frames.proofs.Logs.{grows-none}
use Rattle.frames.proofs.SendsCarried.{adds-none}
use Rattle.frames.proofs.outlet.Outlet.send_long.Goals as goal

pub returns-in_err-number-clause-sends : goal.returns-in_err-number-clause-sends
returns-in_err-number-clause-sends g c = λ long sent known stands numbered.
    let before = subst (AreLongs long) (sym c.self.view_is) known in
    let over = subst (λ (x : OutletModel). IsNumbered (long x.node) c.args.packet.now x.longs c.number.new.self) (sym c.self.view_is) numbered in
    (adds-none (IsFrameOf c.args.seal.now long sent) (g.N.Net.log c.args.net.now), c.number.ensures.known (long c.self.inside.node) before over)

pub returns-in_default-clause-sends : goal.returns-in_default-clause-sends
returns-in_default-clause-sends g c = λ long sent known stands numbered.
    let before = subst (AreLongs long) (sym c.self.view_is) known in
    let over = subst (λ (x : OutletModel). IsNumbered (long x.node) c.args.packet.now x.longs c.number.new.self) (sym c.self.view_is) numbered in
    (adds-none (IsFrameOf c.args.seal.now long sent) (g.N.Net.log c.args.net.now), c.number.ensures.known (long c.self.inside.node) before over)

pub returns-clause-sends : goal.returns-clause-sends
returns-clause-sends g c = λ long sent known stands numbered.
    let node : ℕ = c.self.inside.node in
    let before = subst (AreLongs long) (sym c.self.view_is) known in
    let named = subst (λ (x : OutletModel). IsNumbered (long x.node) c.args.packet.now x.longs c.send_pieces.new.self.longs) (sym c.self.view_is) numbered in
    let over = subst (λ (l : Longs). IsNumbered (long node) c.args.packet.now c.self.inside.longs l) c.send_pieces.ensures.longs named in
    let has : HasNumber c.args.packet.now c.self.inside.longs c.number.new.self c.in-Some.number =
    subst (λ (o : Option ℕ). IfSome o (HasNumber c.args.packet.now c.self.inside.longs c.number.new.self)) c.in-Some.is c.in_ok-number.ensures.number in
    let is : long node c.in-Some.number ≡ c.args.packet.now = ap (long node) has.0 ∙ over (subst (λ (n : ℕ). n < c.number.new.self.next) has.0 has.1) in (
      c.send_pieces.ensures.sends long sent stands is,
      subst (λ (m : ℕ). AreKnown (long m) c.send_pieces.new.self.longs) (sym c.send_pieces.ensures.node)
          (subst (AreKnown (long node)) (sym c.send_pieces.ensures.longs) (c.number.ensures.known (long node) before over)),
    )

pub returns-clause-pieces : goal.returns-clause-pieces
returns-clause-pieces g c =
    on_ok_weaker c.send_pieces.result
    (λ pieces within taken.
    let has : HasNumber c.args.packet.now c.self.inside.longs c.number.new.self c.in-Some.number =
    subst (λ (o : Option ℕ). IfSome o (HasNumber c.args.packet.now c.self.inside.longs c.number.new.self)) c.in-Some.is c.in_ok-number.ensures.number in
    subst
    (λ (x : OutletModel). Lists (g.N.Net.log c.args.net.now) (offering_long c.args.seal.now x.node x.frames (number_for c.args.packet.now x.longs) c.args.packet.now) (g.N.Net.log c.send_pieces.new.net))
    c.self.view_is
    (all-pieces c.args.seal.now c.self.inside.node c.self.inside.frames c.in-Some.number (number_for c.args.packet.now c.self.inside.longs) ((length c.args.packet.now + 1344 - 1) / 1344 - 0) c.args.packet.now (g.N.Net.log c.args.net.now) (g.N.Net.log c.send_pieces.new.net) pieces has.0
    (omega arith)))
    c.send_pieces.ensures.pieces

pub returns-in_err-number-clause-grows : goal.returns-in_err-number-clause-grows
returns-in_err-number-clause-grows g c = grows-none (g.N.Net.log c.args.net.now)

pub returns-in_default-clause-grows : goal.returns-in_default-clause-grows
returns-in_default-clause-grows g c = grows-none (g.N.Net.log c.args.net.now)
