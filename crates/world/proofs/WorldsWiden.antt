-- Whatever is done at a node, what happened joins the trace and what is put out joins the pool; no fact on worlds is asked.
use Rattle.std.proofs.Common.{◌≡◌, ℕ, List, [], ◌∷◌, ◌++◌, Bool, true, false, MatchBool, Result, Ok, Err, inl, inr, map, length, nat_lt, append_assoc, ◌+◌, ◌^◌, sym, ◌∙◌}
use Rattle.std.specs.Borrow.{Bor}
use Rattle.std.proofs.lemmas.List.{append-nil}
use Rattle.address.specs.Ids.{Address}
use Rattle.state_transfer.specs.Meanings.{Meaning}
use Rattle.trace_props.specs.declared.event.Event.{Event}
use Rattle.trace_props.specs.declared.event.Event.TheVariants.{Started, Crashed}
use Rattle.member.specs.declared.error.Error.{Error}
use Rattle.member.specs.declared.input.Input.{Input}
use Rattle.member.specs.declared.input.Input.TheVariants as input
use Rattle.step_output.specs.declared.output.Output.{Output}
use Rattle.member.specs.Errors.{is_memory}
use Rattle.member.specs.Members.{MemberModel}
use Rattle.world_model.specs.declared.WorldEvent.{WorldEvent}
use Rattle.world_model.specs.declared.WorldEvent.TheVariants.{Start, Create, Join, Send, Deliver, Tick, Suspect, MergeHint, Leave, Crash}
use Rattle.world_model.specs.declared.Answer.{Answer}
use Rattle.world_model.specs.declared.Answer.TheVariants.{Done, Sent, Refused}
use Rattle.address.specs.declared.refusal.Refusal.TheVariants.{NotConnected, Blocked, Busy, TooLong, AlreadyConnected, Closed, Memory, Exhausted, BadName}
use Rattle.world_model.specs.Histories.{History}
use Rattle.world.specs.declared.node_state.NodeState.{NodeState}
use Rattle.world.specs.declared.node_state.NodeState.TheVariants.{Vacant, Ended, Running}
use Rattle.world.specs.NodeStates.{bytes_of}
use Rattle.world.specs.Turns.{about, Stays, Crashes, Refuses, CallGives, HandsHere, Hands, HandsLent, BeginsSo, Begins, StartGives, CrashGives, Acts, HandsPacket}

-- the history after an event, with the pool and the trace that it leaves
abbrev pub then : History → WorldEvent → Answer → List (List ℕ) → List Event → History
then h e a pool t = record { events = h.events ++ e ∷ []; replies = h.replies ++ record { answer = a; place = length t } ∷ []; pool = pool; trace = t }

-- what happened and what was put out stand behind what was there
pub record Wider (t u : List Event) (pool more : List (List ℕ)) : Type 0 where
  pub packets : List (List ℕ)
  pub stretch : List Event
  pub trace : u ≡ t ++ stretch
  pub puts : more ≡ pool ++ packets

-- where nothing is done
pub still : (t u : List Event) (pool more : List (List ℕ)) → u ≡ t → more ≡ pool → Wider t u pool more
still t u pool more a b = record { packets = []; stretch = []; trace = a ∙ sym (append-nil t); puts = b ∙ sym (append-nil pool) }

-- where nothing is put out
joined : (s t u : List Event) (pool more : List (List ℕ)) → u ≡ t ++ s → more ≡ pool → Wider t u pool more
joined s t u pool more a b = record { packets = []; stretch = s; trace = a; puts = b ∙ sym (append-nil pool) }

-- by a test
either : (b : Bool) (P Q R : Type 0) → MatchBool b P Q → (P → R) → (Q → R) → R
either true P Q R x f g = f x
either false P Q R x f g = g x

module _ {S : Type 0} (meaning : Meaning S) (t u : List Event) (pool more : List (List ℕ)) where
  -- ---- a start and a crash

  begins-widen : (p : Address) (a : Answer) (new : NodeState S) → BeginsSo meaning p a t new u → more ≡ pool → Wider t u pool more
  begins-widen p Done new g same = joined (Started p ∷ []) t u pool more g.trace same
  begins-widen p (Sent n) new g same = absurd g
  begins-widen p (Refused NotConnected) new g same = absurd g
  begins-widen p (Refused Blocked) new g same = absurd g
  begins-widen p (Refused Busy) new g same = absurd g
  begins-widen p (Refused TooLong) new g same = absurd g
  begins-widen p (Refused AlreadyConnected) new g same = absurd g
  begins-widen p (Refused Closed) new g same = absurd g
  begins-widen p (Refused Memory) new g same = joined (Started p ∷ Crashed p ∷ []) t u pool more (g.1 ∙ append_assoc t (Started p ∷ []) (Crashed p ∷ [])) same
  begins-widen p (Refused Exhausted) new g same = absurd g
  begins-widen p (Refused BadName) new g same = absurd g

  start-widens : (n : ℕ) (old new : NodeState S) (a : Answer) → StartGives meaning n a old t new u → more ≡ pool → Wider t u pool more
  start-widens n Vacant new a g same = begins-widen _ a new g.1 same
  start-widens n (Ended p) new a g same =
      either (nat_lt (p.incarnation + 1) (2 ^ 32)) (Begins meaning (record { node = p.node; incarnation = p.incarnation + 1 }) a t new u) (Stays Exhausted a (Ended p) t new u) (Wider t u pool more) g
      (λ x. begins-widen _ a new x.1 same) (λ x. still t u pool more x.trace same)
  start-widens n (Running m) new a g same = still t u pool more g.trace same

  crash-widens : (old new : NodeState S) (a : Answer) → CrashGives a old t new u → more ≡ pool → Wider t u pool more
  crash-widens Vacant new a g same = still t u pool more g.trace same
  crash-widens (Ended p) new a g same = still t u pool more g.trace same
  crash-widens (Running m) new a g same = joined (Crashed m.address ∷ []) t u pool more g.2 same

  -- ---- one call of `handle`, whatever it answers

  gives-widens : (p : Address) (i : Input) (result : Result Output Error) (left : MemberModel S) (old new : NodeState S) (a : Answer) → CallGives p i result left a (about old t pool) (about new u more) → Wider t u pool more
  gives-widens p i (Ok out) left old new a (inl g) = record { packets = map bytes_of out.packets.items; stretch = out.events.items; trace = g.trace; puts = g.puts }
  gives-widens p i (Ok out) left old new a (inr g) = joined (Crashed p ∷ []) t u pool more g.1.trace g.1.puts
  gives-widens p i (Err e) left old new a g =
      either (is_memory e) (Crashes p a (about old t pool) (about new u more)) (Refuses p e left a (about old t pool) (about new u more)) (Wider t u pool more) g
      (λ x. joined (Crashed p ∷ []) t u pool more x.trace x.puts) (λ x. still t u pool more x.trace x.puts)

  here-widens : (i : Input) (m : MemberModel S) (new : NodeState S) (a : Answer) → HandsHere meaning i m a (about (Running m) t pool) (about new u more) → Wider t u pool more
  here-widens i m new a g = gives-widens m.address i g.result g.left (Running m) new a g.gives

  hands-widens : (i : Input) (old new : NodeState S) (a : Answer) → Hands meaning i a (about old t pool) (about new u more) → Wider t u pool more
  hands-widens i Vacant new a g = still t u pool more g.0.trace g.1
  hands-widens i (Ended p) new a g = still t u pool more g.0.trace g.1
  hands-widens i (Running m) new a g = here-widens i m new a g

  lent-widens : (i : Bor (List ℕ) → Input) (bytes : List ℕ) (old new : NodeState S) (a : Answer) → HandsLent meaning i bytes a (about old t pool) (about new u more) → Wider t u pool more
  lent-widens i bytes Vacant new a g = still t u pool more g.0.trace g.1
  lent-widens i bytes (Ended p) new a g = still t u pool more g.0.trace g.1
  lent-widens i bytes (Running m) new a g = here-widens (i g.0) m new a g.2

  -- ---- any event at a node, and some bytes

  pub acts-widen : (e : WorldEvent) (old new : NodeState S) (a : Answer) → Acts meaning e a (about old t pool) (about new u more) → Wider t u pool more
  acts-widen (Start n) old new a g = start-widens n old new a g.0 g.1
  acts-widen (Create n) old new a g = hands-widens input.Create old new a g
  acts-widen (Join n contact) old new a g = hands-widens (input.Join contact) old new a g
  acts-widen (Send n payload) old new a g = lent-widens input.Send payload old new a g
  acts-widen (Deliver k) old new a g = still t u pool more g.2 g.3
  acts-widen (Tick n) old new a g = hands-widens input.Tick old new a g
  acts-widen (Suspect n q) old new a g = hands-widens (input.Suspect q) old new a g
  acts-widen (MergeHint n q) old new a g = hands-widens (input.MergeHint q) old new a g
  acts-widen (Leave n) old new a g = hands-widens input.Leave old new a g
  acts-widen (Crash n) old new a g = crash-widens old new a g.0 g.1

  pub hears-widens : (bytes : List ℕ) (old new : NodeState S) (a : Answer) → HandsPacket meaning bytes a (about old t pool) (about new u more) → Wider t u pool more
  hears-widens bytes Vacant new a g = still t u pool more g.trace g.puts
  hears-widens bytes (Ended p) new a g = still t u pool more g.trace g.puts
  hears-widens bytes (Running m) new a g = lent-widens input.Datagram bytes (Running m) new a g
