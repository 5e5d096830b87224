use Rattle.std.proofs.Common.{arith}
use Rattle.std.proofs.lemmas.Bool.Decides.{nat_tests}
use Rattle.vsync_text.proofs.NumbersInFront.{beyond, led_by_zero, all_digits, outside}
use Rattle.vsync_text.proofs.fronts.number_in_front.Goals as goal

pub returns-then-value-gt-FULL-clause-reads : goal.returns-then-value-gt-FULL-clause-reads
returns-then-value-gt-FULL-clause-reads c =
    beyond _ c.loop-digit.value c.in-Some.digit _ _ c.in-Some.behind.now (omega arith) c.in-Some.ensures.digit c.in-Some.ensures.reads c.loop-digit.invariant.value

pub returns-then-digit-eq0-clause-reads : goal.returns-then-digit-eq0-clause-reads
returns-then-digit-eq0-clause-reads c =
    led_by_zero _ c.in-Some.digit _ _ c.in-Some.behind.now (omega arith) (c.loop-digit.invariant.first (omega arith)) c.in-Some.ensures.reads

pub returns-then-value-high-clause-reads : goal.returns-then-value-high-clause-reads
returns-then-value-high-clause-reads c = outside _ _ _ c.loop-digit.rest.now c.loop-digit.invariant.value c.in_default.ensures.reads.0 (λ least most. grind (arith, nat_tests))

pub returns-clause-reads : goal.returns-clause-reads
returns-clause-reads c =
    all_digits _ _ _ _ c.loop-digit.invariant.value c.loop-digit.invariant.behind c.loop-digit.invariant.led c.in_default.ensures.reads.0 c.in_default.ensures.reads.1 (grind (arith, nat_tests)) (grind (arith, nat_tests))
