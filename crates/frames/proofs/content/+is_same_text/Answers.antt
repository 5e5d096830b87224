use Rattle.std.proofs.Common.{◌∙◌, arith, eqb-true, sym}
use Rattle.frames.proofs.Shared.{same-on, same-short}
use Rattle.frames.proofs.content.+is_same_text.Goals as goal

pub returns-then-shared-lt-MOST_SHARED : goal.returns-then-shared-lt-MOST_SHARED
returns-then-shared-lt-MOST_SHARED t c = λ same.
    same-short c.args.one.now c.args.other.now (omega (arith, c.if-one-other.false)) (sym c.shared_front-shared.ensures.is ∙ eqb-true _ _ same)

pub returns : goal.returns
returns t c = λ same.
    same-on c.args.one.now c.args.other.now (omega (arith, c.if-shared-lt-MOST_SHARED.false, c.shared_front-shared.ensures.is))
    (sym c.split_at.ensures.back ∙ c.is_same_text.ensures same ∙ c.split_at-2.ensures.back)
