use Rattle.std.proofs.Common.{refl, sym, ap, ◌∙◌}
use Rattle.trace_props.specs.declared.event.Event.TheVariants.{Installed}
use Rattle.trace_rules.proofs.KeepInViews.{adds-sent, adds-delivered, adds-entry}
use Rattle.trace_rules.proofs.known.in_views.InView.add.Goals as goal

-- a message is sent
pub returns-in_ok-push-in-Sent : goal.returns-in_ok-push-in-Sent
returns-in_ok-push-in-Sent c = λ t may.
    adds-sent c.args.self.now (record c.args.self.now { sent = c.push.new.self }) t c.args.event.now c.in-Sent.sending _ c.in-Sent.is refl c.in_ok-push-in-Sent.ensures.items refl refl refl

-- a message is delivered
pub returns-in_ok-push-in-Delivered : goal.returns-in_ok-push-in-Delivered
returns-in_ok-push-in-Delivered c = λ t may.
    adds-delivered c.args.self.now (record c.args.self.now { delivered = c.push-in-Delivered.new.self; lasts = c.keep_last.new.lasts }) t c.args.event.now c.in-Delivered.delivery _
    may c.in-Delivered.is refl c.in_ok-push-in-Delivered.ensures.items c.in_ok-keep_last-in-Delivered.ensures refl refl

-- the view is installed
pub returns-in-Installed : goal.returns-in-Installed
returns-in-Installed c = λ t may.
    adds-entry c.args.self.now (record c.args.self.now { entry = c.or-self.result }) t c.args.event.now c.get.result (c.in-Installed.is ∙ ap Installed (sym c.get.ensures)) c.or-self.ensures refl refl refl
