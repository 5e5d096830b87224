use Rattle.std.proofs.Common.{◌≡◌, ◌++◌, ◌∙◌, ap, arith, length, refl, rules, subst, sym}
use Rattle.frames.specs.Frames.{head_bytes, packed}
use Rattle.frames.specs.declared.head.Kind.TheVariants.{Packets}
use Rattle.frames.specs.Outlets.{OutletModel, head_for}
use Rattle.frames.specs.Sendings.{AreOf, IsFrameOf}
use Rattle.frames.proofs.Ends.{body-of, longer, none-counts, none-goes, none-waits, on-err, some-count, some-go}
use Rattle.frames.proofs.Logs.{grows-none}
use Rattle.frames.proofs.SendsCarried.{adds-none, flush-adds}
use Rattle.frames.specs.declared.head.Head.{Head}
use Rattle.frames.proofs.ReadAsPut.{length-head}
use Rattle.frames.proofs.outlet.Outlet.flush.Goals as goal

pub returns-clause-sends : goal.returns-clause-sends
returns-clause-sends g c = λ long sent of.
    let o : OutletModel = record { node = c.self.inside.node; frames = c.self.inside.frames; longs = c.self.inside.longs; waiting = c.self.inside.waiting } in
    let is : o ≡ c.args.self.now = c.self.view_is in
    let items : c.put.new.out.items ≡ head_bytes (head_for Packets o c.args.seal.now) ++ packed o.waiting =
    body-of _ c.args.self.now c.self.view_is c.args.seal.now c.head.result c.in_ok-body.body.items c.put_head.new.out.items c.as_slice.result.now c.put.new.out.items
    c.in_ok-body.ensures.items c.put_head.ensures.items c.head.ensures (c.as_slice.ensures.value ∙ c.self.invariant.1) c.put.ensures.items in (
      flush-adds c.args.seal.now long sent o (g.N.Net.log c.args.net.now) (g.N.Net.log c.offer.new.net) c.put.new.out.items items
          (omega (arith, c.number-node.ensures.value, c.number-node.type_inv)) c.self.invariant.0 (subst (λ (x : OutletModel). AreOf sent x.waiting) (sym is) of) c.offer.ensures.lists,
      subst (AreOf sent) (sym (c.offer.ensures.waiting ∙ c.clear.ensures)) tt,
    )

pub returns-then-is_empty-clause-sends : goal.returns-then-is_empty-clause-sends
returns-then-is_empty-clause-sends g c = λ long sent of. (adds-none (IsFrameOf c.args.seal.now long sent) (g.N.Net.log c.args.net.now), of)

pub returns-then-is_empty-clause-grows : goal.returns-then-is_empty-clause-grows
returns-then-is_empty-clause-grows g c = grows-none (g.N.Net.log c.args.net.now)

pub returns-in_err-body-clause-sends : goal.returns-in_err-body-clause-sends
returns-in_err-body-clause-sends g c = λ long sent of. (adds-none (IsFrameOf c.args.seal.now long sent) (g.N.Net.log c.args.net.now), of)

pub returns-in_err-body-clause-grows : goal.returns-in_err-body-clause-grows
returns-in_err-body-clause-grows g c = grows-none (g.N.Net.log c.args.net.now)

pub returns-clause-waiting : goal.returns-clause-waiting
returns-clause-waiting g c = c.offer.ensures.waiting ∙ c.clear.ensures

pub returns-clause-frames : goal.returns-clause-frames
returns-clause-frames g c = some-count _ c.args.self.now c.self.view_is c.is_empty.result c.is_empty.ensures c.if-is_empty.false c.offer.new.self.frames c.offer.ensures.frames

pub returns-clause-lists : goal.returns-clause-lists
returns-clause-lists g c =
    some-go _ c.args.self.now c.self.view_is c.is_empty.result c.is_empty.ensures c.if-is_empty.false c.args.seal.now c.put.new.out.items (g.N.Net.log c.args.net.now) (g.N.Net.log c.offer.new.net)
    (body-of _ c.args.self.now c.self.view_is c.args.seal.now c.head.result c.in_ok-body.body.items c.put_head.new.out.items c.as_slice.result.now c.put.new.out.items
    c.in_ok-body.ensures.items c.put_head.ensures.items c.head.ensures (c.as_slice.ensures.value ∙ c.self.invariant.1) c.put.ensures.items)
    c.offer.ensures.lists

pub returns-clause-longs : goal.returns-clause-longs
returns-clause-longs g c = c.offer.ensures.longs ∙ ap (λ (x : OutletModel). x.longs) c.self.view_is

pub returns-clause-node : goal.returns-clause-node
returns-clause-node g c = c.offer.ensures.node ∙ ap (λ (x : OutletModel). x.node) c.self.view_is

pub returns-clause-failed : goal.returns-clause-failed
returns-clause-failed g c = c.offer.ensures.failed

pub returns-clause-unsent : goal.returns-clause-unsent
returns-clause-unsent g c = c.offer.ensures.unsent

pub returns-clause-grows : goal.returns-clause-grows
returns-clause-grows g c = c.offer.ensures.grows

pub returns-then-is_empty-clause-waiting : goal.returns-then-is_empty-clause-waiting
returns-then-is_empty-clause-waiting g c = none-waits _ c.args.self.now c.self.view_is c.is_empty.result c.is_empty.ensures c.if-is_empty.true

pub returns-then-is_empty-clause-frames : goal.returns-then-is_empty-clause-frames
returns-then-is_empty-clause-frames g c = none-counts _ c.args.self.now c.self.view_is c.is_empty.result c.is_empty.ensures c.if-is_empty.true

pub returns-then-is_empty-clause-lists : goal.returns-then-is_empty-clause-lists
returns-then-is_empty-clause-lists g c = none-goes _ c.args.self.now c.self.view_is c.is_empty.result c.is_empty.ensures c.if-is_empty.true c.args.seal.now (g.N.Net.log c.args.net.now)

pub returns-in_err-body-clause-waiting : goal.returns-in_err-body-clause-waiting
returns-in_err-body-clause-waiting g c = on-err _ c.from_residual.result c.from_residual.ensures.0

pub returns-in_err-body-clause-frames : goal.returns-in_err-body-clause-frames
returns-in_err-body-clause-frames g c = on-err _ c.from_residual.result c.from_residual.ensures.0

pub returns-in_err-body-clause-lists : goal.returns-in_err-body-clause-lists
returns-in_err-body-clause-lists g c = on-err _ c.from_residual.result c.from_residual.ensures.0

pub put_head-requires : goal.put_head-requires
put_head-requires g c = omega (arith, c.in_ok-body.ensures.len, c.in_ok-body.ensures.capacity)

pub put-requires : goal.put-requires
put-requires g c =
    let boot : length c.args.seal.now.boot ≡ 16 = search rules in
    let front : length c.put_head.new.out.items ≡ 28 =
    longer c.in_ok-body.body.items (head_bytes c.head.result) c.put_head.new.out.items 0 28 c.put_head.ensures.items (ap length c.in_ok-body.ensures.items)
    (ap (λ (h : Head). length (head_bytes h)) c.head.ensures ∙ length-head (head_for Packets c.args.self.now c.args.seal.now) boot) in
    omega (arith, c.put_head.new.out.ok.0, front, c.put_head.ensures.room, c.in_ok-body.ensures.capacity, ap length c.as_slice.ensures.value, c.self.invariant.2)

pub offer-requires : goal.offer-requires
offer-requires g c =
    let boot : length c.args.seal.now.boot ≡ 16 = search rules in
    let front : length c.put_head.new.out.items ≡ 28 =
    longer c.in_ok-body.body.items (head_bytes c.head.result) c.put_head.new.out.items 0 28 c.put_head.ensures.items (ap length c.in_ok-body.ensures.items)
    (ap (λ (h : Head). length (head_bytes h)) c.head.ensures ∙ length-head (head_for Packets c.args.self.now c.args.seal.now) boot) in
    let both = longer c.put_head.new.out.items c.as_slice.result.now c.put.new.out.items 28 (length c.as_slice.result.now) c.put.ensures.items front refl in
    omega (arith, c.put.new.out.ok.0, both, c.put.ensures.room, c.put_head.ensures.room, c.in_ok-body.ensures.capacity, ap length c.as_slice.ensures.value, c.self.invariant.2)
