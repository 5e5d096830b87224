use Rattle.std.proofs.Common.{◌≡◌, ◌<◌, ◌≤◌, ◌-◌, arith, length, min, rules}
use Rattle.frames.proofs.Shared.{apart, reached, shares-at-most, shares-more, they-differ}
use Rattle.frames.proofs.content.shared_front.Goals as goal

pub returns-then-last-place-clause-is : goal.returns-then-last-place-clause-is
returns-then-last-place-clause-is c =
    let k = c.loop-place.place in
    let first : k < length c.args.last.now = omega (arith, c.loop-place-test.true, c.min.ensures, c.min-most.ensures) in
    let second : k < length c.args.packet.now = omega (arith, c.loop-place-test.true, c.min.ensures, c.min-most.ensures) in
    let none = they-differ k (255 - k) c.args.last.now c.args.packet.now first second (apart _ _ c.if-last-place.true) in
    omega (arith, c.loop-place.invariant, none)

pub loop-place-preserved : goal.loop-place-preserved
loop-place-preserved c =
    let k = c.loop-place.place in
    let first : k < length c.args.last.now = omega (arith, c.loop-place-test.true, c.min.ensures, c.min-most.ensures) in
    let second : k < length c.args.packet.now = omega (arith, c.loop-place-test.true, c.min.ensures, c.min-most.ensures) in
    let within : k < 255 = omega (arith, c.loop-place-test.true, c.min.ensures, c.min-most.ensures) in
    let more = shares-more k 255 c.args.last.now c.args.packet.now within first second (search rules) in
    omega (arith, c.loop-place.invariant, more)

pub returns-clause-is : goal.returns-clause-is
returns-clause-is c =
    let k = c.loop-place.place in
    let all : k ≡ c.min-most.result = omega (arith, c.loop-place-test.false, c.loop-place.auto.place-end) in
    let most : min (min 255 (length c.args.last.now)) (length c.args.packet.now) ≤ k = omega (arith, all, c.min.ensures, c.min-most.ensures) in
    let none = shares-at-most k 255 c.args.last.now c.args.packet.now (reached k (length c.args.last.now) (length c.args.packet.now) most) in
    omega (arith, all, c.loop-place.invariant, none)
