-- Many processes in one order, and the law of it.
use Rattle.std.specs.Prelude.{◌≡◌, ℕ, List, [], ◌∷◌, map, filter_map, take, slice_get, Option, None, Some, if◌then◌else◌}
use Rattle.address.specs.Ids.{Address, same_address}
use Rattle.state_transfer.specs.Meanings.{Meaning}
use Rattle.trace_props.specs.Synchrony.{IsVirtuallySynchronous}
use Rattle.udp_net.specs.declared.net.Received.TheVariants as received
use Rattle.udp_net.specs.Logs.{NetEvent, Answered, Offered}
use Rattle.law_processes.specs.Deployments.{EachStep, MayCome, StartsOnce, nothing_yet, trace_of}
use Rattle.law_processes.specs.Processes.{all_told}
use Rattle.law_processes.specs.Law.{but_starts_and_crashes}
use Rattle.law_runners.specs.Items.{Item, IsProcess, net_events, steps_in}

-- an item, and the address whose process did it
pub record Done (S : Type 0) : Type 0 where
  pub by : Address
  pub item : Item S

-- what the process of an address did, in its order
abbrev pub own_items : {S : Type 0} → Address → List (Done S) → List (Item S)
own_items p [] = []
own_items p (x ∷ all) = if same_address p x.by then x.item ∷ own_items p all else own_items p all

abbrev pub item_of : {S : Type 0} → Done S → Item S
item_of x = x.item

abbrev pub items_of : {S : Type 0} → List (Done S) → List (Item S)
items_of all = map item_of all

-- the datagrams that nets were offered, in order
abbrev pub bytes_offered : NetEvent → Option (List ℕ)
bytes_offered (Answered answer) = None
bytes_offered (Offered offer) = Some offer.bytes

abbrev pub all_offered : List NetEvent → List (List ℕ)
all_offered events = filter_map bytes_offered events

-- each datagram that a net gave was offered before to one of them, byte for byte, or it spells no packet of the group
abbrev pub IsCarried : List ℕ → List NetEvent → Type 0
IsCarried group events = (k : ℕ) (bytes : List ℕ) → slice_get events k ≡ Some (Answered (received.Datagram bytes)) → MayCome group (all_offered (take k events)) bytes

-- MERGED: in one order what the process of each address did; the network gave only what was offered before; and no address was started twice
pub record AreMerged {S : Type 0} (meaning : Meaning S) (group : List ℕ) (all : List (Done S)) : Type 0 where
  pub processes : (p : Address) → IsProcess meaning group p (own_items p all)
  pub network : IsCarried group (net_events (items_of all))
  pub once : EachStep StartsOnce nothing_yet (steps_in (items_of all))

-- in every such order what happened is virtually synchronous
abbrev pub RunnersAreSynchronous : {S : Type 0} → Meaning S → Type 0
RunnersAreSynchronous {S} meaning = (group : List ℕ) (all : List (Done S)) → AreMerged meaning group all → IsVirtuallySynchronous meaning (trace_of (steps_in (items_of all)))

-- and what the channels told is what happened, but starts and crashes, in its order
abbrev pub RunnersTellAll : {S : Type 0} → Meaning S → Type 0
RunnersTellAll {S} meaning = (group : List ℕ) (all : List (Done S)) → AreMerged meaning group all
    → but_starts_and_crashes (trace_of (steps_in (items_of all))) ≡ all_told (steps_in (items_of all))
