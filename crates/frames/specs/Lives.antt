-- A net of frames from its making on: what happens at it and at the net below, in one order.
use Rattle.std.specs.Prelude.{◌≡◌, ⊤, ℕ, List, [], ◌∷◌, ◌++◌, ◌⊎◌, map, filter_map, Option, None, Some, Result, IfOk}
use Rattle.udp_net.specs.declared.error.Fault.{Fault}
use Rattle.udp_net.specs.declared.net.Received.{Received}
use Rattle.udp_net.specs.declared.net.Received.TheVariants.{Datagram, Nothing, Failed}
use Rattle.udp_net.specs.Logs.{Log, NetEvent, Answered, Offered, answer_of}
use Rattle.frames.specs.Arrivals.{Arrived, GivenIn, StandsIn}
use Rattle.frames.specs.Carried.{Carries}
use Rattle.frames.specs.Nets.{FramedModel, GivesArrived, HasFlushed, HasReceived, HasSent, IsOver}
use Rattle.frames.specs.declared.outlet.Seal.{Seal}

-- what happens at the net itself, whose datagrams are packets; or at the net below, whose datagrams are frames
pub data Side : Type 0 where
  Above : NetEvent → Side
  Below : NetEvent → Side

abbrev pub below_of : Side → Option NetEvent
below_of (Above event) = None
below_of (Below event) = Some event

abbrev pub below : List Side → Log
below all = filter_map below_of all

-- the packets that it was offered
abbrev pub packet_of : Side → Option (List ℕ)
packet_of (Above (Offered o)) = Some o.bytes
packet_of (Above (Answered answer)) = None
packet_of (Below event) = None

abbrev pub packets_in : List Side → List (List ℕ)
packets_in all = filter_map packet_of all

-- LIFE: it is made over a net at which nothing happened; then sends, flushes (a wait is one) and receives follow one another. Of each call is listed what happened below by it.
pub data Life {N : Type 0} (log : N → Option Log) (node : ℕ) (seal : Seal) : FramedModel N → List Side → Type 0 where
  Made : (inner : N) (key : List ℕ) (n : FramedModel N) → IsOver inner node key seal.boot n → n.seal ≡ seal → log inner ≡ Some [] → Life log node seal n []
  Sends : (old new : FramedModel N) (all : List Side) (to : ℕ) (packet : List ℕ) (more : Log) → Life log node seal old all → HasSent log to packet old new
      → log new.inner ≡ Some (below all ++ more) → Life log node seal new (all ++ Above (Offered (record { node = to; bytes = packet })) ∷ map Below more)
  Flushes : (old new : FramedModel N) (all : List Side) (more : Log) → Life log node seal old all → HasFlushed log old new
      → log new.inner ≡ Some (below all ++ more) → Life log node seal new (all ++ map Below more)
  Receives : (old new : FramedModel N) (all : List Side) (result : Result (Option ℕ) Fault) (buffer : List ℕ) (more : Log) → Life log node seal old all → HasReceived log old new
      → IfOk result (λ count. GivesArrived (log new.inner) old.seal.key old.opener.node count buffer)
      → log new.inner ≡ Some (below all ++ more) → Life log node seal new (all ++ (map Below more ++ Above (Answered (answer_of result buffer)) ∷ []))

-- what it gives came in frames that the net below gave before, or is empty
abbrev pub CameBefore : Seal → ℕ → Log → Received → Type 0
CameBefore seal node before (Datagram bytes) = (bytes ≡ []) ⊎ Arrived (GivenIn before) seal.key node bytes
CameBefore seal node before Nothing = ⊤
CameBefore seal node before Failed = ⊤

-- what it offers the net below carries packets that it was offered before
abbrev pub CarriesSent : Seal → (ℕ → ℕ → List ℕ) → List (List ℕ) → NetEvent → Type 0
CarriesSent seal long sent (Answered answer) = ⊤
CarriesSent seal long sent (Offered o) = Carries seal.key seal.boot long (StandsIn sent) o.bytes

-- NET OF FRAMES: that holds of all that happens, after what happened below before and what was sent before. By `long` it is known which long packet has a number.
abbrev pub IsOfFrames : Seal → ℕ → (ℕ → ℕ → List ℕ) → Log → List (List ℕ) → List Side → Type 0
IsOfFrames seal node long before sent [] = ⊤
IsOfFrames seal node long before sent (Above (Offered o) ∷ all) = IsOfFrames seal node long before (sent ++ o.bytes ∷ []) all
IsOfFrames seal node long before sent (Above (Answered answer) ∷ all) = CameBefore seal node before answer × IsOfFrames seal node long before sent all
IsOfFrames seal node long before sent (Below event ∷ all) = CarriesSent seal long sent event × IsOfFrames seal node long (before ++ event ∷ []) sent all

-- each life is one of a net of frames
abbrev pub LivesAreOfFrames : {N : Type 0} → (N → Option Log) → Type 0
LivesAreOfFrames {N} log = (node : ℕ) (seal : Seal) (n : FramedModel N) (all : List Side) → Life log node seal n all
    → (long : ℕ → ℕ → List ℕ) × IsOfFrames seal node long [] [] all
