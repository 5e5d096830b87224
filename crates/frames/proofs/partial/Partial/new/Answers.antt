use Rattle.std.proofs.Common.{arith, length, refl, List, ◌∷◌, [], ◌++◌, ◌∙◌, ap, None, Option, ℕ}
use Rattle.std.proofs.lemmas.List.{length-replicate, replicate_more}
use Rattle.frames.specs.Partials.{PieceModel}
use Rattle.frames.proofs.PiecesCome.{none-in}
use Rattle.frames.proofs.partial.Partial.new.Goals as goal

pub loop-preserved : goal.loop-preserved
loop-preserved c = c.in_ok-push.ensures.items ∙ ap (λ (xs : List (Option (List ℕ))). xs ++ None ∷ []) c.loop.invariant ∙ replicate_more c.loop.counter None

pub returns-clause-part : goal.returns-clause-part
returns-clause-part c = λ l key node. none-in l key node _ _ _ _ c.loop.invariant

pub returns-clause-its : goal.returns-clause-its
returns-clause-its c = record {
  boot_is = refl;
  number = ap (λ (p : PieceModel). p.number) c.piece.view_is;
  count = ap length c.loop.invariant ∙ length-replicate c.loop.counter None ∙ omega (arith, c.loop-test.false, c.loop.auto.counter-end, c.from-count.ensures, ap (λ (p : PieceModel). p.count) c.piece.view_is);
}
