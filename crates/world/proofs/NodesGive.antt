-- What a node gives where its member takes an input, or hears some bytes.
use Rattle.std.proofs.Common.{◌≡◌, ℕ, List, [], ◌∷◌, map, Result, Ok, Err, refl, sym, ap, subst}
use Rattle.std.specs.Prelude.{IfOk}
use Rattle.std.specs.List.{AllByRecursion}
use Rattle.std.specs.Borrow.{Bor}
use Rattle.address.specs.Ids.{Address}
use Rattle.wire.specs.Packets.{IsPacket, spelling}
use Rattle.wire.proofs.OneSpelling.{spelled_read}
use Rattle.state_transfer.specs.Meanings.{Meaning}
use Rattle.trace_props.specs.declared.event.Event.{Event}
use Rattle.wire_values.specs.Posted.{Posted}
use Rattle.member.specs.declared.error.Error.{Error}
use Rattle.member.specs.declared.input.Input.{Input}
use Rattle.member.specs.declared.input.Input.TheVariants.{Datagram}
use Rattle.step_output.specs.declared.output.Output.{Output}
use Rattle.step_output.specs.Outputs.{packet_in, spelled}
use Rattle.member.specs.Members.{MemberModel}
use Rattle.member.specs.Handling.{HasActed, Handled}
use Rattle.world_model.specs.declared.Answer.{Answer}
use Rattle.world_model.specs.Packets.{destination_in}
use Rattle.world.specs.declared.node_state.NodeState.{NodeState}
use Rattle.world.specs.declared.node_state.NodeState.TheVariants.{Vacant, Ended, Running}
use Rattle.world.specs.Outputs.{AreAddressed, Fits}
use Rattle.world.specs.Turns.{about, CallGives, HandsHere, Hands, HandsLent, HandsPacket}

-- packets of a group that are read back say to whom they go
each-addressed : (group : List ℕ) (posted : List Posted) → AllByRecursion (λ m. IsPacket (packet_in group m)) posted → AreAddressed (map (spelled group) posted)
each-addressed group [] sound = tt
each-addressed group (m ∷ posted) sound =
    (ap destination_in (spelled_read (spelling (packet_in group m)) (packet_in group m) (sound.0, refl)), each-addressed group posted sound.1)

module _ {S : Type 0} (meaning : Meaning S) where
  acted-addressed : (m left : MemberModel S) (input : Input) (out : Output) → HasActed meaning m input out left → AreAddressed out.packets.items
  acted-addressed m left input out x = subst AreAddressed (sym x.spelled) (each-addressed m.group x.posted x.sound)

  -- a world takes what a member puts out
  pub fits : (m left : MemberModel S) (input : Input) (r : Result Output Error) → Handled meaning m input r left → IfOk r Fits
  fits m left input (Ok out) h = record { few = h.few; short = h.short; addressed = acted-addressed m left input out h.acted }
  fits m left input (Err e) h = tt

  -- what comes of a call at the node
  pub handed-here : (input : Input) (m left : MemberModel S) (r : Result Output Error) (p : Address) (t now : List Event) (pool more : List (List ℕ)) (a : Answer) (new : NodeState S)
      → Handled meaning m input r left → p ≡ m.address → CallGives p input r left a (about (Running m) t pool) (about new now more) → HandsHere meaning input m a (about (Running m) t pool) (about new now more)
  handed-here input m left r p t now pool more a new h is g = record {
    result = r;
    left = left;
    handled = h;
    gives = subst (λ (q : Address). CallGives q input r left a (about (Running m) t pool) (about new now more)) is g;
  }

  -- bytes that are handed to a member that runs
  pub heard : (b : Bor (List ℕ)) (bytes : List ℕ) (s : NodeState S) (m : MemberModel S) (t : List Event) (pool more : List (List ℕ)) (a : Answer) (new : NodeState S) (now : List Event)
      → s ≡ Running m → b.now ≡ bytes → HandsHere meaning (Datagram b) m a (about (Running m) t pool) (about new now more) → HandsPacket meaning bytes a (about s t pool) (about new now more)
  heard b bytes s m t pool more a new now is same g = rw is (b, same, g)

  -- what is handed with a payload that is lent
  pub lent : (input : Bor (List ℕ) → Input) (b : Bor (List ℕ)) (bytes : List ℕ) (s : NodeState S) (t : List Event) (pool more : List (List ℕ)) (a : Answer) (new : NodeState S) (now : List Event)
      → b.now ≡ bytes → Hands meaning (input b) a (about s t pool) (about new now more) → HandsLent meaning input bytes a (about s t pool) (about new now more)
  lent input b bytes Vacant t pool more a new now is g = g
  lent input b bytes (Ended p) t pool more a new now is g = g
  lent input b bytes (Running m) t pool more a new now is g = (b, is, g)
