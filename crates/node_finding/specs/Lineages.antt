-- What a member sees itself of the history of its view.
use Rattle.std.specs.Prelude.{None, Some}
use Rattle.address.specs.Ids.{ViewId}
use Rattle.node_finding.specs.declared.lineage.Lineage.{Lineage}

-- it has installed no view yet
abbrev pub unborn : Lineage
unborn = record { view = None; given = 0; history = 0 }

-- it installs a view, and keeps its state
abbrev pub installed : ViewId → Lineage → Lineage
installed view l = record l { view = Some view }

-- it enters a view with a state that it is given
abbrev pub entered : ViewId → Lineage
entered view = record { view = Some view; given = view.counter; history = 0 }

-- it delivers a message in a view
abbrev pub delivered : ViewId → Lineage → Lineage
delivered view l = record l { history = view.counter }
