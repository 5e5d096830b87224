use Rattle.std.proofs.Common.{sym, ◌∙◌}
use Rattle.member.specs.declared.input.Input.TheVariants.{Join}
use Rattle.channel.proofs.ConnectsStart.{reconnected, asked-again}
use Rattle.channel.proofs.channel.Channel.connect_to.Goals as goal
use Rattle.channel.proofs.channel.Channel.connect_to.Goals.{then-not-is_in+in_ok-begin, else-not-is_in}

-- a member starts and asks, or the one that is there asks again
pub returns-clause-connects : goal.returns-clause-connects
returns-clause-connects g c = elim c.if-not-is_in.branch [
  | then-not-is_in+in_ok-begin w ↦
      rw (← c.self.view_is) (reconnected g.R.Receiver.meaning (Join c.args.contact) c.args.name.now _ c.if-not-is_in.self w.begin.new.self w.begin.result
      w.in_ok-begin.field-0 _ _ (sym c.is_in.ensures ∙ w.if-not-is_in.true) w.begin.ensures w.in_ok-begin.was w.self-is c.act.ensures.calls)
  | else-not-is_in w ↦
      rw (← c.self.view_is) (asked-again g.R.Receiver.meaning (Join c.args.contact) c.args.name.now _ c.if-not-is_in.self _ _
      (sym c.is_in.ensures ∙ w.if-not-is_in.false) (w.self-is ∙ sym c.self.view_is) c.act.ensures.calls)
]
