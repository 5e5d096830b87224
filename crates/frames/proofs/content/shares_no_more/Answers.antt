use Rattle.std.proofs.Common.{ℕ, nat_eq, not, get_or, ap, arith, sym, ◌∙◌}
use Rattle.frames.proofs.Shared.{Differs, Ends, Full, Over, at-any, first-at, is-false, none-first, shared-is}
use Rattle.frames.proofs.content.shares_no_more.Goals as goal

pub returns-then-shared-eq-MOST_SHARED-clause-most : goal.returns-then-shared-eq-MOST_SHARED-clause-most
returns-then-shared-eq-MOST_SHARED-clause-most c = λ good.
    shared-is 255 c.args.shared c.args.last.now c.args.others.now c.requires c.if-shared-last.false (Full c.if-shared-eq-MOST_SHARED.true)

pub returns-in-Some-Some-clause-most : goal.returns-in-Some-Some-clause-most
returns-in-Some-Some-clause-most c = λ differ.
    shared-is 255 c.args.shared c.args.last.now c.args.others.now c.requires c.if-shared-last.false (Differs (is-false _ (ap not (ap (λ (n : ℕ). nat_eq n (get_or c.args.others.now 0 0)) (at-any c.args.last.now c.args.shared 0 c.in-Some-Some.one.now c.in-Some-Some.ensures.lookup.0 ∙ sym c.in-Some-Some.ensures.lookup.1) ∙ ap (nat_eq c.in-Some-Some.one.now) (first-at c.args.others.now c.in-Some-Some.other.now (sym c.in-Some-Some.ensures'.value))) ∙ differ)))

pub returns-in_default-clause-most : goal.returns-in_default-clause-most
returns-in_default-clause-most c = λ good.
    shared-is 255 c.args.shared c.args.last.now c.args.others.now c.requires c.if-shared-last.false (Over (none-first c.args.others.now (sym c.in_default.ensures'.value)))

pub returns-in_default-2-clause-most : goal.returns-in_default-2-clause-most
returns-in_default-2-clause-most c = λ good.
    shared-is 255 c.args.shared c.args.last.now c.args.others.now c.requires c.if-shared-last.false (Ends (omega (arith, c.in_default.ensures.lookup.3, c.if-shared-last.false)))
