-- What events make of a service that follows a member, and the answers that they give.
use Rattle.std.specs.Prelude.{List, [], ◌∷◌, ◌++◌, if◌then◌else◌}
use Rattle.address.specs.Ids.{Address, same_address}
use Rattle.trace_props.specs.declared.event.Event.{Event}
use Rattle.trace_props.specs.declared.event.Event.TheVariants.{Started, Sent, Delivered, Blocked, Installed, Left, Crashed}
use Rattle.trace_props.specs.declared.event.Delivery.{Delivery}
use Rattle.trace_props.specs.declared.event.Install.{Install}

-- what is said of deliveries and installs of its own member, and otherwise
abbrev pub of_own : {X : Type 0} → Address → (Delivery → X) → (Install → X) → X → Event → X
of_own own delivered installed other (Started p) = other
of_own own delivered installed other (Sent m) = other
of_own own delivered installed other (Delivered d) = if same_address d.member own then delivered d else other
of_own own delivered installed other (Blocked p) = other
of_own own delivered installed other (Installed i) = if same_address i.member own then installed i else other
of_own own delivered installed other (Left p) = other
of_own own delivered installed other (Crashed p) = other

-- the answers that events give, one after another
abbrev pub answers_given : {K A : Type 0} → (K → Event → K) → (K → Event → List A) → K → List Event → List A
answers_given heard by s [] = []
answers_given heard by s (h ∷ t) = by s h ++ answers_given heard by (heard s h) t
