use Rattle.std.proofs.Common.{◌++◌, ◌∙◌, ap, sym, append-nil}
use Rattle.std.specs.Prelude.{flat_map}
use Rattle.std.proofs.lemmas.List.{take_all}
use Rattle.vsync_text.specs.Parts.{text_of_part}
use Rattle.vsync_text.proofs.KeepFront.{goes_on, stays, puts_next}
use Rattle.vsync_text.proofs.part.put_parts.Goals as goal

pub loop-part-init : goal.loop-part-init
loop-part-init c = (sym (append-nil c.args.out.now.items), stays c.args.out.now.items)

-- one part more
pub loop-part-preserved : goal.loop-part-preserved
loop-part-preserved c = puts_next text_of_part _ _ _ _ _ _ _ c.part-item.is c.loop-part-test.true c.loop-part.invariant c.in_ok-put_part.ensures.text c.in_ok-put_part.ensures.kept

pub returns : goal.returns
returns c = record {
  text = c.loop-part.invariant.0 ∙ ap (λ parts. c.args.out.now.items ++ flat_map text_of_part parts) (take_all c.loop-part.part-index c.args.parts.now c.loop-part-test.false);
  kept = c.loop-part.invariant.1;
}

pub returns-in_err-put_part-clause-kept : goal.returns-in_err-put_part-clause-kept
returns-in_err-put_part-clause-kept c = goes_on _ _ _ c.loop-part.invariant.1 c.put_part.ensures.kept
