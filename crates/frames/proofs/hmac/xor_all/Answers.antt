use Rattle.std.proofs.Common.{◌<◌, length, sym, ℕ, bit_xor, get_or, arith}
use Rattle.std.proofs.lemmas.List.Edits.{map_over_more}
use Rattle.std.proofs.lemmas.Grind.{get_or_default_zero, common_steps}
use Rattle.frames.proofs.hmac.xor_all.Goals as goal

pub loop-place-preserved : goal.loop-place-preserved
loop-place-preserved c =
    let f : ℕ → ℕ = λ b. bit_xor b c.args.byte in
    let i = c.loop-place.place-index in
    let bytes = c.loop-place.place-items in
    let within : i < length c.args.block.now = omega (arith, c.told-block, c.loop-place-test.true) in
    map_over_more f c.args.block.now bytes i (get_or bytes i 0) within c.loop-place.invariant (sym (get_or_default_zero bytes i (get_or bytes i 0) (grind (arith, common_steps))))
