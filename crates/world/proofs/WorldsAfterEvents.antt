-- The world after one event, after none, and what its receivers are.
use Rattle.std.proofs.Common.{◌≡◌, ℕ, List, ◌++◌, Some, None, ◌⊎◌, inl, inr, subst, sym, refl, ap, ◌∙◌}
use Rattle.std.specs.Option.{option_map}
use Rattle.address.specs.Ids.{Address}
use Rattle.state_transfer.specs.Meanings.{Meaning}
use Rattle.trace_props.specs.declared.event.Event.{Event}
use Rattle.trace_props.specs.State.{state_of}
use Rattle.law_acts.specs.Cores.{Core}
use Rattle.law_acts.proofs.KeepBySteps
use Rattle.law_processes.proofs.DeploymentsGoOn.{nothing-played}
use Rattle.member.specs.Members.{MemberModel, core_of}
use Rattle.world_model.specs.declared.WorldEvent.{WorldEvent}
use Rattle.world_model.specs.declared.WorldEvent.TheVariants.{Deliver, Start, Create, Join, Send, Tick, Suspect, MergeHint, Leave, Crash}
use Rattle.world_model.specs.declared.Target.{Target}
use Rattle.world_model.specs.declared.Target.TheVariants as target
use Rattle.world_model.specs.declared.Answer.{Answer}
use Rattle.world_model.specs.Histories.{History, no_history, last_of, is_connected, target_of, running}
use Rattle.world_model.specs.Packets.{packet_numbered, world_group}
use Rattle.world_model.specs.Faithful.IsFaithful.{Nothing}
use Rattle.world.specs.declared.node_state.NodeState.{NodeState}
use Rattle.world.specs.declared.node_state.NodeState.TheVariants.{Vacant, Ended, Running}
use Rattle.world.specs.Turns.{about, Carries, OthersStand}
use Rattle.world.specs.Worlds.{no_world}
use Rattle.world.specs.Invariant.{IsNodeStateOf}
use Rattle.world.proofs.TracesOfNodes.{starts-none}
use Rattle.world.proofs.WorldsWiden.{then}
use Rattle.world.proofs.KeepByTurn
use Rattle.world.proofs.MembersAtNodes
use Rattle.world.proofs.InputsTaken
use Rattle.world.proofs.KeepByEvent
use Rattle.world.proofs.PacketsHandedOver

module _ {S : Type 0} (meaning : Meaning S) where
  abbrev World : (ℕ → NodeState S) → History → Type 0
  World at h = KeepByTurn.World meaning at h

  -- ---- the beginning

  pub no-world : World (no_world {S = S}).node_states no_history
  no-world = record {
    faithful = Nothing;
    paired = refl;
    played = nothing-played meaning world_group;
    starts = starts-none;
    node_states = λ n. refl;
  }

  -- ---- one event

  -- what an event comes to: a step of the world, and all that a world keeps
  pub record Carried (at new : ℕ → NodeState S) (h : History) (e : WorldEvent) (a : Answer) (t : List Event) (pool : List (List ℕ)) : Type 0 where
    pub ps : List (List ℕ)
    pub s : List Event
    pub trace : t ≡ h.trace ++ s
    pub puts : pool ≡ h.pool ++ ps
    pub world : World new (then h e a pool t)

  to-world : (at new : ℕ → NodeState S) (n : ℕ) (h : History) (e : WorldEvent) (a : Answer) (t : List Event) (pool : List (List ℕ)) → World at h → OthersStand n at new
      → InputsTaken.Turned meaning new n h e a t pool → Carried at new h e a t pool
  to-world at new n h e a t pool w others x = record {
    ps = x.ps;
    s = x.s;
    trace = x.trace;
    puts = x.puts;
    world =
        subst (λ (l : List (List ℕ)). World new (then h e a l t)) (sym x.puts)
        (subst (λ (u : List Event). World new (then h e a (h.pool ++ x.ps) u)) (sym x.trace)
        (KeepByTurn.turned meaning at new n h e a x.ps x.s w x.turn others));
  }

  packet-is : (e : WorldEvent) (k : ℕ) → target_of e ≡ target.Packet k → e ≡ Deliver k
  packet-is (Start m) k e = absurd (let bad : target.Member m ≡ target.Packet k = e in cc)
  packet-is (Create m) k e = absurd (let bad : target.Member m ≡ target.Packet k = e in cc)
  packet-is (Join m c) k e = absurd (let bad : target.Member m ≡ target.Packet k = e in cc)
  packet-is (Send m x) k e = absurd (let bad : target.Member m ≡ target.Packet k = e in cc)
  packet-is (Deliver j) k e = let same : target.Packet j ≡ target.Packet k = e in cc
  packet-is (Tick m) k e = absurd (let bad : target.Member m ≡ target.Packet k = e in cc)
  packet-is (Suspect m q) k e = absurd (let bad : target.Member m ≡ target.Packet k = e in cc)
  packet-is (MergeHint m q) k e = absurd (let bad : target.Member m ≡ target.Packet k = e in cc)
  packet-is (Leave m) k e = absurd (let bad : target.Member m ≡ target.Packet k = e in cc)
  packet-is (Crash m) k e = absurd (let bad : target.Member m ≡ target.Packet k = e in cc)

  turned-by : KeepBySteps.Laws meaning → (at new : ℕ → NodeState S) (h : History) (e : WorldEvent) (a : Answer) (t : List Event) (pool : List (List ℕ)) (b : Target)
      → target_of e ≡ b → World at h → Carries meaning b e a (about at h.trace h.pool) (about new t pool) → Carried at new h e a t pool
  turned-by laws at new h e a t pool (target.Member n) here w g =
      to-world at new n h e a t pool w g.1 (KeepByEvent.acts-turn meaning laws at new n h w g.1 e a t pool here g.0)
  turned-by laws at new h e a t pool (target.Packet k) here w g =
      let x = PacketsHandedOver.delivered meaning laws at h w k new (packet_numbered k h.pool) a t pool refl g in
      subst (λ (d : WorldEvent). Carried at new h d a t pool) (sym (packet-is e k here)) (to-world at new x.0 h (Deliver k) a t pool w x.1 x.2)

  pub world-carries : KeepBySteps.Laws meaning → (at new : ℕ → NodeState S) (h : History) (e : WorldEvent) (a : Answer) (t : List Event) (pool : List (List ℕ))
      → World at h → Carries meaning (target_of e) e a (about at h.trace h.pool) (about new t pool) → World new (then h e a pool t)
  world-carries laws at new h e a t pool w g = (turned-by laws at new h e a t pool (target_of e) refl w g).world

  -- ---- the member that runs at a node

  pub running-is : KeepBySteps.Laws meaning → (at : ℕ → NodeState S) (h : History) (n : ℕ) (m : MemberModel S) → World at h → at n ≡ Running m → Some m.address ≡ running n h.trace
  running-is laws at h n m w e =
      let x = MembersAtNodes.running-here meaning laws at h n m w e in
      sym (MembersAtNodes.is-running meaning h n m x.0 x.1)

  -- its receiver
  pub receiver-is : KeepBySteps.Laws meaning → (at : ℕ → NodeState S) (h : History) (n : ℕ) (m : MemberModel S) → World at h → at n ≡ Running m
      → option_map (λ (c : Core S). c.state) (core_of m) ≡ option_map (λ p. state_of meaning p h.trace) (running n h.trace)
  receiver-is laws at h n m w e =
      let x = MembersAtNodes.running-here meaning laws at h n m w e in
      rw (x.1.core, MembersAtNodes.is-running meaning h n m x.0 x.1) (ap Some (sym x.1.fact.state.now))

  -- where no member runs
  pub nobody-yet : (at : ℕ → NodeState S) (h : History) (n : ℕ) → World at h → at n ≡ Vacant → None ≡ running n h.trace
  nobody-yet at h n w was =
      let k : last_of n h.trace ≡ None = subst (IsNodeStateOf n (last_of n h.trace) (is_connected n h) h.trace) was (w.node_states n) in
      rw k refl

  pub nobody-more : (at : ℕ → NodeState S) (h : History) (n : ℕ) (p : Address) → World at h → at n ≡ Ended p → None ≡ running n h.trace
  nobody-more at h n p w was =
      let k : IsNodeStateOf {S = S} n (last_of n h.trace) (is_connected n h) h.trace (Ended p) = subst (IsNodeStateOf n (last_of n h.trace) (is_connected n h) h.trace) was (w.node_states n) in
      rw (k.0, k.2) refl

  pub nobody-runs : (at : ℕ → NodeState S) (h : History) (n : ℕ) (s : NodeState S) → World at h → at n ≡ s → (s ≡ Vacant) ⊎ ((p : Address) × (s ≡ Ended p)) → None ≡ running n h.trace
  nobody-runs at h n s w was (inl e) = nobody-yet at h n w (was ∙ e)
  nobody-runs at h n s w was (inr e) = nobody-more at h n e.0 w (was ∙ e.1)
