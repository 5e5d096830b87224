use Rattle.std.proofs.Common.{◌≡◌, ◌*◌, ◌+◌, ◌-◌, ◌∙◌, ℕ, ap, arith, drop, sym}
use Rattle.byteorder.specs.Endian.{big_number}
use Rattle.frames.specs.Frames.{shared_within}
use Rattle.frames.proofs.Shared.{shares-eight}
use Rattle.frames.proofs.content.shared_groups.Goals as goal

pub loop-group-preserved : goal.loop-group-preserved
loop-group-preserved c =
    let k : ℕ = 8 * c.loop-group.group in
    let one = c.args.last.now in
    let other = c.args.packet.now in
    let alike : c.eight_at.result ≡ c.eight_at-in-loop-group.result = omega (arith, c.if-eight_at.false) in
    let same : big_number 8 (drop k one) ≡ big_number 8 (drop k other) = sym c.eight_at.ensures ∙ alike ∙ c.eight_at-in-loop-group.ensures in
    let more =
    shares-eight k 255 one other (omega (arith, c.loop-group-test.true, c.requires.most)) (omega (arith, c.loop-group-test.true, c.requires.first)) (omega (arith, c.loop-group-test.true, c.requires.second)) (λ i. omega (arith, c.type_inv.last i))
    (λ i. omega (arith, c.type_inv.packet i)) same in
    let next : k + 8 ≡ 8 * (c.loop-group.group + 1) = omega arith in
    c.loop-group.invariant ∙ ap (λ (m : ℕ). k + m) more ∙ ap (λ (m : ℕ). k + (8 + shared_within (255 - m) (drop m one) (drop m other))) next ∙ omega arith
