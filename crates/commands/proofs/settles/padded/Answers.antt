use Rattle.std.proofs.Common.{◌≡◌, ℕ, ◌+◌, ◌-◌, List, [], ◌∷◌, ◌++◌, length, replicate, ap, ◌∙◌, append_assoc, arith}
use Rattle.std.proofs.lemmas.List.{replicate_more}
use Rattle.commands.proofs.settles.padded.Goals as goal

pub loop-preserved : goal.loop-preserved
loop-preserved c =
    let n : c.loop.counter - length c.args.lines.now + 1 ≡ c.loop.counter + 1 - length c.args.lines.now = omega (arith, c.loop.invariant.1) in (
      c.in_ok-push.ensures.items ∙ ap (λ (l : List ℕ). l ++ 0 ∷ []) c.loop.invariant.0 ∙ append_assoc c.args.lines.now (replicate (c.loop.counter - length c.args.lines.now) 0) (0 ∷ [])
          ∙ ap (λ (l : List ℕ). c.args.lines.now ++ l) (replicate_more (c.loop.counter - length c.args.lines.now) 0) ∙ ap (λ (k : ℕ). c.args.lines.now ++ replicate k 0) n,
      omega (arith, c.loop.invariant.1),
      omega (arith, c.loop-test.true),
    )
