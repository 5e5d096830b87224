-- What may follow a trace, rule by rule: the condition on the next event under which the rule still holds.
use Rattle.std.specs.Prelude.{◌≡◌, ◌+◌, false, Some, List, length, slice_get}
use Rattle.std.specs.Option.{ForSome}
use Rattle.address.specs.Ids.{same_address}
use Rattle.trace_props.specs.declared.event.Event.{Event}
use Rattle.trace_props.specs.declared.event.Event.TheVariants.{Started, Sent, Delivered, Blocked, Installed, Left, Crashed}
use Rattle.trace_props.specs.Observed.{delivered_in, sent_in, own, numbered, first_install}
use Rattle.trace_props.specs.Rules.{EntersAbove}

-- rising views: as the rule says of the install, and with the members of the first install of that id
abbrev pub MayRise : List Event → Event → Type 0
MayRise past (Started p) = Unit {0}
MayRise past (Sent s) = Unit {0}
MayRise past (Delivered d) = Unit {0}
MayRise past (Blocked p) = Unit {0}
MayRise past (Installed i) = EntersAbove past i × ForSome (first_install i.view.id past) (λ f. f.view.members ≡ i.view.members)
MayRise past (Left p) = Unit {0}
MayRise past (Crashed p) = Unit {0}

-- sound messages: the sender's next number is sent, and its next message that was sent is delivered
abbrev pub MayCarry : List Event → Event → Type 0
MayCarry past (Started p) = Unit {0}
MayCarry past (Sent s) = s.message.number ≡ length (sent_in s.member s.view past) + 1
MayCarry past (Delivered d) =
    let before = length (own d.message.sender (delivered_in d.member d.view past)) in
    (d.message.number ≡ before + 1) × (slice_get (sent_in d.message.sender d.view past) before ≡ Some (numbered d.message))
MayCarry past (Blocked p) = Unit {0}
MayCarry past (Installed i) = Unit {0}
MayCarry past (Left p) = Unit {0}
MayCarry past (Crashed p) = Unit {0}

-- one order: the view's coordinator goes before, all others deliver the next of what it delivered
abbrev pub MayOrder : List Event → Event → Type 0
MayOrder past (Started p) = Unit {0}
MayOrder past (Sent s) = Unit {0}
MayOrder past (Delivered d) =
    same_address d.member d.view.creator ≡ false → slice_get (delivered_in d.view.creator d.view past) (length (delivered_in d.member d.view past)) ≡ Some d.message
MayOrder past (Blocked p) = Unit {0}
MayOrder past (Installed i) = Unit {0}
MayOrder past (Left p) = Unit {0}
MayOrder past (Crashed p) = Unit {0}
