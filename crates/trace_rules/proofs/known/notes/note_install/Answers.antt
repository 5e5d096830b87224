use Rattle.std.proofs.Common.{sym, ap, ◌∙◌}
use Rattle.std.specs.HashMap.{get}
use Rattle.std.proofs.lemmas.Result.{on_ok_weaker}
use Rattle.address.specs.Ids.{same_view_id}
use Rattle.trace_props.specs.declared.event.Event.TheVariants.{Installed}
use Rattle.trace_rules.specs.Known.{same_view_change}
use Rattle.trace_rules.proofs.KeepInstalls.{no-install, begins, goes-on}
use Rattle.trace_rules.proofs.known.notes.note_install.Goals as goal

-- nothing is installed
pub returns-in_default : goal.returns-in_default
returns-in_default c = λ t. no-install (get same_view_id c.args.firsts.now) (get same_view_change c.args.view_changes.now) t c.args.event.now c.in_default.not-Installed

-- from no view
pub returns-in-None : goal.returns-in-None
returns-in-None c = λ t.
    begins (get same_view_id c.args.firsts.now) (get same_view_id c.write.new.registers) (get same_view_change c.args.view_changes.now) t c.args.event.now c.get-install.result c.id-to.result
    (c.in-Installed.is ∙ ap Installed (sym c.get-install.ensures)) c.id-to.ensures c.in-None.is c.in_ok-write.ensures

-- from a view
pub returns-in-Some : goal.returns-in-Some
returns-in-Some c = on_ok_weaker c.write-in-Some.result (λ is t.
    goes-on (get same_view_id c.args.firsts.now) (get same_view_id c.write.new.registers) (get same_view_change c.args.view_changes.now) (get same_view_change c.write-in-Some.new.registers)
    t c.args.event.now c.get-install.result (record { to = c.id-to.result; from = c.in-Some.from })
    (c.in-Installed.is ∙ ap Installed (sym c.get-install.ensures)) c.id-to.ensures c.in-Some.is c.in_ok-write.ensures is) c.write-in-Some.ensures
