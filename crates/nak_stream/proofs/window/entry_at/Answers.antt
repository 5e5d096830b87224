use Rattle.std.proofs.Common.{◌-◌, sym, ap, ◌∙◌, arith}
use Rattle.std.specs.Option.{option_copied}
use Rattle.nak_stream.proofs.Rings.{held-before, held-in, held-past}
use Rattle.nak_stream.proofs.window.entry_at.Goals as goal

pub returns-then-g-stable : goal.returns-then-g-stable
returns-then-g-stable c = sym (held-before _ _ c.args.slots.now.items c.if-g-stable.true)

pub returns-in_err-slot : goal.returns-in_err-slot
returns-in_err-slot c =
    ap option_copied c.from_residual.ensures ∙ sym (held-past _ _ (c.args.g - c.args.stable - 1) c.args.slots.now.items (omega arith) (sym c.get.ensures ∙ ap option_copied c.in_err-slot.was))

pub returns : goal.returns
returns c =
    c.as_ref.ensures.value
    ∙ sym (held-in _ _ (c.args.g - c.args.stable - 1) c.args.slots.now.items _ (omega arith) (sym c.get.ensures ∙ ap option_copied c.in_ok-slot.was))
