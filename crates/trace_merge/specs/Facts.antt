-- What events show, and which events wait for that.
use Rattle.std.specs.Prelude.{◌≡◌, Bool, true, false, not, ◌&&◌, nat_eq, List, [], ◌∷◌, Option, None, Some, if◌then◌else◌}
use Rattle.std.specs.List.{list_any, list_all}
use Rattle.std.specs.Option.{option_map_or}
use Rattle.address.specs.Ids.{same_address, same_view_id}
use Rattle.trace_props.specs.Places.{EachEvent}
use Rattle.trace_props.specs.declared.event.Event.{Event}
use Rattle.trace_props.specs.declared.event.Event.TheVariants as event
use Rattle.trace_props.specs.declared.event.Sending.{Sending}
use Rattle.trace_props.specs.declared.event.Delivery.{Delivery}
use Rattle.trace_props.specs.declared.event.Install.{Install}
use Rattle.trace_merge.specs.declared.fact.MessageKey.{MessageKey}
use Rattle.trace_merge.specs.declared.fact.Fact.{Fact}
use Rattle.trace_merge.specs.declared.fact.Fact.TheVariants.{Sent, Delivered, Installed}

abbrev pub same_message : MessageKey → MessageKey → Bool
same_message a b = same_view_id a.view b.view && (same_address a.sender b.sender && nat_eq a.number b.number)

abbrev pub same_fact : Fact → Fact → Bool
same_fact (Sent a) (Sent b) = same_message a b
same_fact (Delivered p a) (Delivered q b) = same_address p q && same_message a b
same_fact (Installed p v) (Installed q w) = same_address p q && same_view_id v w
same_fact (Sent a) g = false
same_fact (Delivered p a) g = false
same_fact (Installed p v) g = false

-- the message of a send, and of a delivery
abbrev pub sent : Sending → MessageKey
sent s = record { view = s.view; sender = s.member; number = s.message.number }

abbrev pub delivered : Delivery → MessageKey
delivered d = record { view = d.view; sender = d.message.sender; number = d.message.number }

-- what an event shows
abbrev pub shown_by : Event → Option Fact
shown_by (event.Sent s) = Some (Sent (sent s))
shown_by (event.Delivered d) = Some (Delivered d.member (delivered d))
shown_by (event.Installed i) = Some (Installed i.member i.view.id)
shown_by h = None

-- what comes before a delivery: its message's send, and its view's coordinator's delivery of it
abbrev pub before_delivery : Delivery → List Fact
before_delivery d = Sent (delivered d) ∷ (if same_address d.member d.view.creator then [] else Delivered d.view.creator (delivered d) ∷ [])

-- what comes before an install: that of the view's coordinator
abbrev pub before_install : Install → List Fact
before_install i = if same_address i.member i.view.id.creator then [] else Installed i.view.id.creator i.view.id ∷ []

-- what comes before an event, where it comes at all
abbrev pub waits_for : Event → List Fact
waits_for (event.Delivered d) = before_delivery d
waits_for (event.Installed i) = before_install i
waits_for h = []

-- whether an event shows something, and whether one of some events does
abbrev pub shows : Fact → Event → Bool
shows f e = option_map_or (λ s. same_fact s f) (shown_by e) false

abbrev pub is_shown : List Event → Fact → Bool
is_shown events f = list_any (shows f) events

-- what is awaited after some events: what comes at all, and is shown by none of those
abbrev pub is_awaited : (Fact → Bool) → List Event → Fact → Bool
is_awaited comes past f = comes f && not (is_shown past f)

-- whether an event waits for nothing that is awaited
abbrev pub is_free : (Fact → Bool) → Event → Bool
is_free awaited e = list_all (λ f. not (awaited f)) (waits_for e)

-- whether an event may come next
abbrev pub MayCome : (Fact → Bool) → List Event → Event → Type 0
MayCome comes past e = is_free (is_awaited comes past) e ≡ true

-- IN ORDER: each event comes behind what it waits for, as far as that comes at all
abbrev pub IsInOrder : List Event → Type 0
IsInOrder t = EachEvent (MayCome (is_shown t)) t
