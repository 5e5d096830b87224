use Rattle.std.proofs.Common.{◌≡◌, ◌-◌, ℕ, true, sym, ap, ◌∙◌, arith}
use Rattle.nak_stream.specs.Windows.{offers, taken}
use Rattle.nak_stream.proofs.Windows.{Offered, offered}
use Rattle.nak_stream.proofs.Rings.{Filled, filled-ring, filled-taken, window_of}
use Rattle.nak_stream.proofs.window.Window.hold.Goals as goal

pub invariant_of-self : goal.invariant_of-self
invariant_of-self c =
    let i : ℕ = c.args.g - c.self.inside.stable - 1 in
    let o : offers c.args.g (window_of c.self.inside.stable c.self.inside.delivered c.self.inside.slots) ≡ true = ap (offers c.args.g) c.self.view_is ∙ sym c.offers.ensures ∙ c.if-not-offers.false in
    let past : Offered c.args.g (window_of c.self.inside.stable c.self.inside.delivered c.self.inside.slots) = offered _ _ o in
    let f : Filled c.self.inside.stable c.self.inside.delivered c.args.g i c.args.entry c.self.inside.slots c.fill.new.slots =
    record { offered = o; place = omega (arith, past.past, c.self.invariant.window.counts); after = c.fill.ensures } in
    filled-ring _ _ _ _ _ _ _ c.self.invariant f

pub returns-clause-after : goal.returns-clause-after
returns-clause-after c =
    let i : ℕ = c.args.g - c.self.inside.stable - 1 in
    let o : offers c.args.g (window_of c.self.inside.stable c.self.inside.delivered c.self.inside.slots) ≡ true = ap (offers c.args.g) c.self.view_is ∙ sym c.offers.ensures ∙ c.if-not-offers.false in
    let past : Offered c.args.g (window_of c.self.inside.stable c.self.inside.delivered c.self.inside.slots) = offered _ _ o in
    let f : Filled c.self.inside.stable c.self.inside.delivered c.args.g i c.args.entry c.self.inside.slots c.fill.new.slots =
    record { offered = o; place = omega (arith, past.past, c.self.invariant.window.counts); after = c.fill.ensures } in
    filled-taken _ _ _ _ _ _ _ c.self.invariant f
    ∙ ap (taken c.args.g c.args.entry) c.self.view_is
