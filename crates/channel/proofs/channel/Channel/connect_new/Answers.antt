use Rattle.member.specs.declared.input.Input.TheVariants.{Create}
use Rattle.channel.proofs.ConnectsStart.{begun}
use Rattle.channel.proofs.channel.Channel.connect_new.Goals as goal

-- the member starts, and makes its group
pub returns-clause-connects : goal.returns-clause-connects
returns-clause-connects g c =
    rw (← c.self.view_is) (begun g.R.Receiver.meaning Create c.args.name.now _ c.begin.new.self c.begin.result c.in_ok-begin.field-0 _ _ c.begin.ensures
    c.in_ok-begin.was c.act.ensures.calls)
