use Rattle.std.proofs.Common.{◌-◌, sym, ap, ◌∙◌, arith}
use Rattle.std.specs.Option.{option_copied}
use Rattle.sequencer.proofs.Slots.{waits-before, waits-in, waits-past}
use Rattle.sequencer.proofs.queue.waits.Goals as goal

pub returns-then-number-ordered : goal.returns-then-number-ordered
returns-then-number-ordered c = sym (waits-before _ _ c.args.slots.now.items c.if-number-ordered.true)

pub returns-in-None : goal.returns-in-None
returns-in-None c = sym (waits-past _ _ (c.args.number - c.args.ordered - 1) c.args.slots.now.items (omega arith) (sym c.get.ensures ∙ ap option_copied c.in-None.is))

pub returns-in-Some : goal.returns-in-Some
returns-in-Some c =
    c.is_some.ensures
    ∙ sym (waits-in _ _ (c.args.number - c.args.ordered - 1) c.args.slots.now.items _ (omega arith) (sym c.get.ensures ∙ ap option_copied c.in-Some.is))
