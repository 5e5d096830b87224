-- Processes whose runners are over nets of frames, in one order with what happened at the nets below, and the law of it.
use Rattle.std.specs.Prelude.{◌≡◌, ℕ, List, length, take, filter_map, slice_get, Option, None, Some, if◌then◌else◌}
use Rattle.address.specs.Ids.{Address, same_address}
use Rattle.state_transfer.specs.Meanings.{Meaning}
use Rattle.trace_props.specs.Synchrony.{IsVirtuallySynchronous}
use Rattle.udp_net.specs.declared.net.Received.TheVariants as received
use Rattle.udp_net.specs.Logs.{Log, NetEvent, Answered, Offered}
use Rattle.frames.specs.declared.outlet.Seal.{Seal}
use Rattle.frames.specs.Frames.{sealed}
use Rattle.frames.specs.Nets.{FramedModel}
use Rattle.frames.specs.Lives.{Life, Side, Above as SideAbove, Below as SideBelow}
use Rattle.law_processes.specs.Deployments.{EachStep, StartsOnce, nothing_yet, trace_of}
use Rattle.law_runners.specs.Items.{Item, OfNet, OfMember, IsProcess, steps_in}
use Rattle.law_runners.specs.Merged.{Done, AreMerged, own_items, items_of}

-- what a process does: an item of its runner, whose net is one of frames; or what happens at the net below that
pub data Deed (S : Type 0) : Type 0 where
  Above : Item S → Deed S
  Below : NetEvent → Deed S

pub record Acted (S : Type 0) : Type 0 where
  pub by : Address
  pub deed : Deed S

-- what the runners did, in its order
abbrev pub above_by : {S : Type 0} → Address → Deed S → Option (Done S)
above_by p (Above item) = Some (record { by = p; item = item })
above_by p (Below event) = None

abbrev pub done_by : {S : Type 0} → Acted S → Option (Done S)
done_by x = above_by x.by x.deed

abbrev pub done_in : {S : Type 0} → List (Acted S) → List (Done S)
done_in all = filter_map done_by all

-- what happened at the net of frames of a process and at the net below, in its order
abbrev pub side_in : {S : Type 0} → Deed S → Option Side
side_in (Above (OfNet event)) = Some (SideAbove event)
side_in (Above (OfMember step)) = None
side_in (Below event) = Some (SideBelow event)

abbrev pub side_of : {S : Type 0} → Address → Acted S → Option Side
side_of p x = if same_address p x.by then side_in x.deed else None

abbrev pub sides : {S : Type 0} → Address → List (Acted S) → List Side
sides p all = filter_map (side_of p) all

-- it stands in a list that a process did this
abbrev pub HasDone : {S : Type 0} → List (Acted S) → Address → Deed S → Type 0
HasDone all p deed = (k : ℕ) × (slice_get all k ≡ Some (record { by = p; deed = deed }))

-- a net below was offered a frame
abbrev pub Put : {S : Type 0} → List (Acted S) → Address → List ℕ → Type 0
Put all p frame = (node : ℕ) × HasDone all p (Below (Offered (record { node = node; bytes = frame })))

-- SEALED: in one order what each process did and what happened at its nets; each net of frames lives by its calls, over a net that lists what happens there; all have one key; no address was
-- started twice; no two processes have one boot id; and each frame that a net below gave, and that is sealed with the key, was offered before by one of the processes. What else the nets
-- below gave is left open.
pub record AreSealed {S N : Type 0} (log : N → Option Log) (meaning : Meaning S) (group key : List ℕ) (seals : Address → Seal) (all : List (Acted S)) : Type 0 where
  pub processes : (p : Address) → IsProcess meaning group p (own_items p (done_in all))
  pub once : EachStep StartsOnce nothing_yet (steps_in (items_of (done_in all)))
  pub nets : (p : Address) → (n : FramedModel N) × Life log p.node (seals p) n (sides p all)
  pub keys_are : (p : Address) → (seals p).key ≡ key
  pub boots_long : (p : Address) → length (seals p).boot ≡ 16
  pub boots_differ : (p q : Address) → (seals p).boot ≡ (seals q).boot → p ≡ q
  pub unforged : (k : ℕ) (p : Address) (frame body : List ℕ) → slice_get all k ≡ Some (record { by = p; deed = Below (Answered (received.Datagram frame)) }) → frame ≡ sealed key body
      → (q : Address) × Put (take k all) q frame

-- in every such order what the runners did is merged: the network of the nets of frames gave only what was offered before. So each clause of `runners_are_synchronous` is of it
abbrev pub SealedAreMerged : {S N : Type 0} → (N → Option Log) → Meaning S → Type 0
SealedAreMerged {S} {N} log meaning = (group key : List ℕ) (seals : Address → Seal) (all : List (Acted S)) → AreSealed log meaning group key seals all → AreMerged meaning group (done_in all)

-- in every such order what happened is virtually synchronous
abbrev pub SealedAreSynchronous : {S N : Type 0} → (N → Option Log) → Meaning S → Type 0
SealedAreSynchronous {S} {N} log meaning = (group key : List ℕ) (seals : Address → Seal) (all : List (Acted S)) → AreSealed log meaning group key seals all
    → IsVirtuallySynchronous meaning (trace_of (steps_in (items_of (done_in all))))
