-- What a member saw of the history of its view, by its own events.
use Rattle.std.specs.Prelude.{if◌then◌else◌}
use Rattle.std.specs.Option.{is_some}
use Rattle.trace_props.specs.declared.event.Event.{Event}
use Rattle.trace_props.specs.declared.event.Event.TheVariants.{Started, Sent, Delivered, Blocked, Installed, Left, Crashed}
use Rattle.trace_props.specs.declared.event.Install.{Install}
use Rattle.node_finding.specs.declared.lineage.Lineage.{Lineage}
use Rattle.node_finding.specs.Lineages.{delivered, entered, installed}

-- it enters a view with a state that it is given, or installs one and keeps its state
abbrev pub followed_in : Install → Lineage → Lineage
followed_in i l = if is_some i.given then entered i.view.id else installed i.view.id l

abbrev pub followed : Event → Lineage → Lineage
followed (Started member) l = l
followed (Sent sending) l = l
followed (Delivered delivery) l = delivered delivery.view l
followed (Blocked member) l = l
followed (Installed install) l = followed_in install l
followed (Left member) l = l
followed (Crashed member) l = l
