use Rattle.std.proofs.Common.{◌-◌, ◌≤◌, drop, length, sym, ◌∙◌, arith}
use Rattle.std.proofs.lemmas.List.{length-drop}
use Rattle.keyed_state.proofs.KeysHavePlaces.{rises-short}
use Rattle.keyed_state.proofs.entries.is_rising.Goals as goal

pub returns : goal.returns
returns g c =
    let es = c.args.entries.now in
    let few : length (drop (c.loop-i.i - 1) es) ≤ 1 = omega (arith, length-drop (c.loop-i.i - 1) es) in
    sym (c.loop-i.invariant ∙ rises-short (drop (c.loop-i.i - 1) es) few)
