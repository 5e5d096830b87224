-- From what the code did at the nodes to a step of the world.
use Rattle.std.proofs.Common.{refl, ◌≡◌, ℕ, List, ◌++◌, Option, Some, None, subst}
use Rattle.address.specs.Ids.{Address}
use Rattle.state_transfer.specs.Meanings.{Meaning}
use Rattle.trace_props.specs.declared.event.Event.{Event}
use Rattle.world_model.specs.declared.WorldEvent.{WorldEvent}
use Rattle.world_model.specs.declared.Target.{Target}
use Rattle.world_model.specs.declared.Target.TheVariants as target
use Rattle.world_model.specs.declared.Answer.{Answer}
use Rattle.world_model.specs.Histories.{History, target_of, after}
use Rattle.world_model.specs.Packets.{packet_numbered, destination_of}
use Rattle.world.specs.declared.node_state.NodeState.{NodeState}
use Rattle.world.specs.Turns.{about, HandsOver, Delivers, Carries}
use Rattle.world.specs.Worlds.{WorldStep}
use Rattle.world.proofs.WorldsWiden.{then, Wider, still, acts-widen, hears-widens}

module _ {S : Type 0} (meaning : Meaning S) where
  -- whatever an event does, what happened joins the trace and what is put out joins the pool: with some bytes,
  wider-to : (bytes : List ℕ) (d : Option Address) (at new : ℕ → NodeState S) (t u : List Event) (pool more : List (List ℕ)) (a : Answer) → HandsOver meaning bytes d a (about at t pool) (about new u more)
      → Wider t u pool more
  wider-to bytes None at new t u pool more a g = still t u pool more g.trace g.puts
  wider-to bytes (Some p) at new t u pool more a g = hears-widens meaning t u pool more bytes (at p.node) (new p.node) a g.0

  -- with a packet, or with none of that number,
  wider-by : (o : Option (List ℕ)) (at new : ℕ → NodeState S) (t u : List Event) (pool more : List (List ℕ)) (a : Answer) → Delivers meaning o a (about at t pool) (about new u more) → Wider t u pool more
  wider-by None at new t u pool more a g = still t u pool more g.trace g.puts
  wider-by (Some bytes) at new t u pool more a g = wider-to bytes (destination_of bytes) at new t u pool more a g

  -- at its node, or with a packet
  wider : (b : Target) (e : WorldEvent) (at new : ℕ → NodeState S) (t u : List Event) (pool more : List (List ℕ)) (a : Answer) → Carries meaning b e a (about at t pool) (about new u more)
      → Wider t u pool more
  wider (target.Member n) e at new t u pool more a g = acts-widen meaning t u pool more e (at n) (new n) a g.0
  wider (target.Packet k) e at new t u pool more a g = wider-by (packet_numbered k pool) at new t u pool more a g

  -- so the history goes on
  goes-on : (h : History) (e : WorldEvent) (a : Answer) (ps pool : List (List ℕ)) (s t : List Event) → pool ≡ h.pool ++ ps → t ≡ h.trace ++ s → then h e a pool t ≡ after h e a ps s
  goes-on h e a ps pool s t puts trace = λ i. then h e a (puts i) (trace i)

  -- what was carried out from the trace of the history on is a step of the world, with this answer
  pub stepped-so : (at new : ℕ → NodeState S) (h : History) (e : WorldEvent) (a : Answer) (now t : List Event) (pool : List (List ℕ)) → now ≡ h.trace
      → Carries meaning (target_of e) e a (about at now h.pool) (about new t pool)
      → (step : WorldStep meaning (record { history = h; node_states = at }) e (record { history = then h e a pool t; node_states = new })) × (step.answer ≡ a)
  stepped-so at new h e a now t pool same g =
      let c : Carries meaning (target_of e) e a (about at h.trace h.pool) (about new t pool) =
      subst (λ (u : List Event). Carries meaning (target_of e) e a (about at u h.pool) (about new t pool)) same g in
      let x = wider (target_of e) e at new h.trace t h.pool pool a c in
      (record { answer = a; packets = x.packets; stretch = x.stretch; goes_on = goes-on h e a x.packets pool x.stretch t x.puts x.trace; does = c }, refl)

  pub steps-so : (at new : ℕ → NodeState S) (h : History) (e : WorldEvent) (a : Answer) (now t : List Event) (pool : List (List ℕ)) → now ≡ h.trace
      → Carries meaning (target_of e) e a (about at now h.pool) (about new t pool)
      → WorldStep meaning (record { history = h; node_states = at }) e (record { history = then h e a pool t; node_states = new })
  steps-so at new h e a now t pool same g = (stepped-so at new h e a now t pool same g).0
