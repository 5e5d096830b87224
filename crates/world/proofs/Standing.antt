-- A member that runs in a world and is connected, in a view or not: what it does by a tick and by any packet of the pool.
use Rattle.std.proofs.Common.{◌≡◌, ℕ, ◌-◌, Bool, true, false, cond, Option, Some, None, Ok, List, [], ◌++◌, map, nat_eq, inl, inr, ◌⊎◌, refl, sym, ap, ◌∙◌, subst}
use Rattle.std.specs.Prelude.{slice_get}
use Rattle.std.specs.Borrow.{Bor}
use Rattle.std.specs.Option.{IsSomeAnd, option_map}
use Rattle.std.proofs.lemmas.Option.{none-some}
use Rattle.std.proofs.lemmas.Bool.{eqb-true}
use Rattle.address.specs.Ids.{Address, same_address}
use Rattle.address.proofs.SameIds.{same_address-refl}
use Rattle.wire.specs.Packets.{packet_of}
use Rattle.state_transfer.specs.Meanings.{Meaning}
use Rattle.wire_values.specs.Posted.{Posted}
use Rattle.law_acts.specs.Cores.{Core}
use Rattle.law_acts.specs.Acts.{handed}
use Rattle.law_acts.proofs.KeepBySteps
use Rattle.step_output.specs.declared.output.Output.{Output}
use Rattle.step_output.specs.Outputs.{Puts, packet_in}
use Rattle.step_output.specs.Steps.{who}
use Rattle.membership.specs.InSteps.{in_step}
use Rattle.membership.specs.declared.member_state.MemberState.{MemberState}
use Rattle.membership.specs.MemberStates.{core_of as core_at, is_connected, IsMemberState}
use Rattle.member_rules.specs.Views.{AnnouncesView}
use Rattle.member.specs.declared.input.Input.{Input}
use Rattle.member.specs.declared.input.Input.TheVariants as input
use Rattle.member.specs.Members.{MemberModel, core_of, came_at, refusal_of, is_unreadable}
use Rattle.member.specs.Doing.{DoesAt, DoesBy, Ticks}
use Rattle.member.specs.Hearing as hearing
use Rattle.member.specs.Handling.{Handled, StaysSo, Replies}
use Rattle.world_model.specs.declared.WorldEvent.TheVariants.{Deliver, Tick, MergeHint}
use Rattle.world_model.specs.Packets.{world_group, packet_numbered}
use Rattle.world.specs.declared.node_state.NodeState.TheVariants.{Running}
use Rattle.law_acts.specs.Packets.{PacketFact}
use Rattle.law_acts.specs.Invariant.{Kept}
use Rattle.world.specs.NodeStates.{bytes_of, deployment_of}
use Rattle.world.specs.Turns.{OthersStand}
use Rattle.world.specs.Invariant.{IsWorld}
use Rattle.world.specs.Worlds.{WorldModel, WorldStep}
use Rattle.world.specs.Plays.{lacks_memory}
use Rattle.law_processes.proofs.PostsAreSpelled.{posted_in, post-at}
use Rattle.law_processes.proofs.StatesAreReadable
use Rattle.world.proofs.MembersAtNodes
use Rattle.world.proofs.MembersAsSystem.{core_here, runs, core-running, system_of}
use Rattle.world.proofs.PlayedEvents
use Rattle.world.proofs.PoolPackets.{bytes_as, IsSound, reads-back, goes-to}

module _ {S : Type 0} (meaning : Meaning S) where
  -- the member of an address runs, and is connected
  pub record Stands (w : WorldModel S) (p : Address) (l : MemberState S) : Type 0 where
    pub member : MemberModel S
    pub node_state : w.node_states p.node ≡ Running member
    pub address : member.address ≡ p
    pub group : member.group ≡ world_group
    pub member_state : member.member_state ≡ Some l
    pub connected : is_connected l ≡ true

  same-member : (m n : MemberModel S) → Running m ≡ Running n → m ≡ n
  same-member m n e = cc

  -- different members run at different nodes
  pub nodes-apart : (w : WorldModel S) (p q : Address) (l k : MemberState S) → Stands w p l → Stands w q k → same_address q p ≡ false → nat_eq p.node q.node ≡ false
  nodes-apart w p q l k x y other = by (nat_eq p.node q.node) refl
    where
      by : (b : Bool) → nat_eq p.node q.node ≡ b → b ≡ false
      by false e = refl
      by true e =
          let node : p.node ≡ q.node = eqb-true p.node q.node e in
          let node_state : Running x.member ≡ Running y.member = sym x.node_state ∙ ap (λ (n : ℕ). w.node_states n) node ∙ y.node_state in
          let is : p ≡ q = sym x.address ∙ ap (λ (m : MemberModel S). m.address) (same-member x.member y.member node_state) ∙ y.address in
          let bad : true ≡ false = sym (same_address-refl q) ∙ ap (same_address q) (sym is) ∙ other in
          absurd cc

  module _ (w : WorldModel S) (p : Address) (l : MemberState S) (r : Stands w p l) where
    pub core-is : core_of r.member ≡ Some (core_at p l)
    core-is = rw (r.member_state, r.address) refl

    -- its core runs in the system
    pub runs-in : runs w.node_states p ≡ Some (core_at p l)
    runs-in = ap (core_here p) r.node_state ∙ core-running p r.member r.address ∙ core-is

    -- another event leaves it
    pub stands-still : (new : WorldModel S) (q : Address) → nat_eq q.node p.node ≡ false → OthersStand q.node w.node_states new.node_states → Stands new p l
    stands-still new q apart others = record {
      member = r.member;
      node_state = others p.node apart ∙ r.node_state;
      address = r.address;
      group = r.group;
      member_state = r.member_state;
      connected = r.connected;
    }

    -- what always holds of it
    pub lives : KeepBySteps.Laws meaning → IsWorld meaning w.node_states w.history → IsMemberState (who r.member.address r.member.group) l
    lives laws keeps =
        ((MembersAtNodes.is-here meaning laws w.node_states w.history p.node r.member keeps r.node_state (ap (λ (a : Address). a.node) r.address)).alive l r.member_state).member_state

  -- ---- what it did by an input that it took

  pub record Did (came : Option Posted) (p : Address) (i : Input) (l : MemberState S) (out : Output) (left : MemberModel S) : Type 0 where
    pub after : MemberState S
    pub member_state : left.member_state ≡ Some after
    pub connected : is_connected after ≡ true
    pub start : Output
    pub nothing : Puts [] [] start
    pub does : DoesBy meaning came (who p world_group) i (in_step l start) (in_step after out)

  state-there : (me : Address) (o : Option (MemberState S)) (b : Bool) → IsSomeAnd (option_map (core_at me) o) (λ d. d.connected ≡ b) → (l : MemberState S) × (o ≡ Some l) × (is_connected l ≡ b)
  state-there me None b x = absurd x
  state-there me (Some l) b x = (l, refl, x)

  pub did : (w : WorldModel S) (p : Address) (l : MemberState S) (r : Stands w p l) (i : Input) (out : Output) (left : MemberModel S) → Handled meaning r.member i (Ok out) left
      → StaysSo (core_at p l) (core_of left) → Did (came_at r.member i) p i l out left
  did w p l r i out left handled stays =
      let a = state-there left.address left.member_state (is_connected l) stays in
      let x : DoesAt meaning (came_at r.member i) (who r.member.address r.member.group) i r.member.member_state handled.does.start left.member_state out = handled.does.does in
      let y : DoesAt meaning (came_at r.member i) (who r.member.address world_group) i r.member.member_state handled.does.start left.member_state out =
      subst (λ (g : List ℕ). DoesAt meaning (came_at r.member i) (who r.member.address g) i r.member.member_state handled.does.start left.member_state out) r.group x in
      let z : DoesAt meaning (came_at r.member i) (who p world_group) i r.member.member_state handled.does.start left.member_state out =
      subst (λ (q : Address). DoesAt meaning (came_at r.member i) (who q world_group) i r.member.member_state handled.does.start left.member_state out) r.address y in
      let u : DoesAt meaning (came_at r.member i) (who p world_group) i (Some l) handled.does.start left.member_state out =
      subst (λ (o : Option (MemberState S)). DoesAt meaning (came_at r.member i) (who p world_group) i o handled.does.start left.member_state out) r.member_state z in
      record {
        after = a.0;
        member_state = a.1;
        connected = a.2 ∙ r.connected;
        start = handled.does.start;
        nothing = handled.does.nothing;
        does = subst (λ (o : Option (MemberState S)). DoesAt meaning (came_at r.member i) (who p world_group) i (Some l) handled.does.start o out) a.1 u;
      }

  replies-in : (w : WorldModel S) (p : Address) (l : MemberState S) (r : Stands w p l) (i : Input) (out : Output) (left : MemberModel S) → Handled meaning r.member i (Ok out) left
      → Replies (core_at p l) i out.events.items (core_of left)
  replies-in w p l r i out left handled = subst (λ (o : Option (Core S)). IsSomeAnd o (λ d. Replies d i out.events.items (core_of left))) (core-is w p l r) handled.reply

  -- ---- a tick

  pub record Ticked (old new : WorldModel S) (c : Address) (l : MemberState S) : Type 0 where
    pub stands : Stands new c l
    pub others : OthersStand c.node old.node_states new.node_states
    pub start : Output
    pub out : Output
    pub nothing : Puts [] [] start
    pub ticks : Ticks (who c world_group) (in_step l start) out
    pub trace : new.history.trace ≡ old.history.trace ++ out.events.items
    pub puts : new.history.pool ≡ old.history.pool ++ map bytes_of out.packets.items

  ticked-by : (old new : WorldModel S) (c : Address) (l : MemberState S) (r : Stands old c l) → OthersStand c.node old.node_states new.node_states
      → PlayedEvents.Taken meaning input.Tick r.member old.history.trace old.history.pool (new.node_states c.node) new.history.trace new.history.pool → Ticked old new c l
  ticked-by old new c l r others x =
      let d = did old c l r input.Tick x.out x.left x.handled (replies-in old c l r input.Tick x.out x.left x.handled).1 in
      record {
        stands = record {
          member = x.left;
          node_state = x.node_state;
          address = x.handled.address ∙ r.address;
          group = x.handled.group ∙ r.group;
          member_state = d.member_state ∙ ap Some d.does.0;
          connected = r.connected;
        };
        others = others;
        start = d.start;
        out = x.out;
        nothing = d.nothing;
        ticks = d.does.1;
        trace = x.trace;
        puts = x.puts;
      }

  -- it is done, or it crashed
  pub ticked : (old new : WorldModel S) (c : Address) (l : MemberState S) (r : Stands old c l) (step : WorldStep meaning old (Tick c.node) new)
      → ((lacks_memory step.answer ≡ false) × Ticked old new c l)
      ⊎ ((lacks_memory step.answer ≡ true) × PlayedEvents.Lost meaning c old.history.trace old.history.pool new.history.trace new.history.pool)
  ticked old new c l r step =
      by (PlayedEvents.outcome meaning input.Tick r.member old.history.trace old.history.pool step.answer (new.node_states c.node) new.history.trace new.history.pool
      (rw (core-is old c l r) refl) (rw r.member_state refl) (PlayedEvents.tick-here meaning old new c.node r.member step r.node_state))
    where
      by : PlayedEvents.Outcome meaning input.Tick r.member old.history.trace old.history.pool step.answer (new.node_states c.node) new.history.trace new.history.pool
          → ((lacks_memory step.answer ≡ false) × Ticked old new c l)
          ⊎ ((lacks_memory step.answer ≡ true) × PlayedEvents.Lost meaning c old.history.trace old.history.pool new.history.trace new.history.pool)
      by (inl x) = inl (x.0, ticked-by old new c l r step.does.1 x.1)
      by (inr x) = inr (x.0, subst (λ (p : Address). PlayedEvents.Lost meaning p old.history.trace old.history.pool new.history.trace new.history.pool) r.address x.1)

  -- ---- a hint

  pub record Hinted (old new : WorldModel S) (q : Address) (l : MemberState S) (p : Address) : Type 0 where
    pub stands : Stands new q l
    pub others : OthersStand q.node old.node_states new.node_states
    pub start : Output
    pub out : Output
    pub nothing : Puts [] [] start
    pub announces : AnnouncesView (who q world_group) p (in_step l start) (in_step l out)
    pub puts : new.history.pool ≡ old.history.pool ++ map bytes_of out.packets.items

  hinted-by : (old new : WorldModel S) (q : Address) (l : MemberState S) (p : Address) (r : Stands old q l) → OthersStand q.node old.node_states new.node_states
      → PlayedEvents.Taken meaning (input.MergeHint p) r.member old.history.trace old.history.pool (new.node_states q.node) new.history.trace new.history.pool → Hinted old new q l p
  hinted-by old new q l p r others x =
      let d = did old q l r (input.MergeHint p) x.out x.left x.handled (replies-in old q l r (input.MergeHint p) x.out x.left x.handled).1 in
      record {
        stands = record {
          member = x.left;
          node_state = x.node_state;
          address = x.handled.address ∙ r.address;
          group = x.handled.group ∙ r.group;
          member_state = d.member_state ∙ ap Some d.does.member_state;
          connected = r.connected;
        };
        others = others;
        start = d.start;
        out = x.out;
        nothing = d.nothing;
        announces = record { member_state = refl; grows = d.does.grows };
        puts = x.puts;
      }

  -- no growth was refused to it
  pub hinted : (old new : WorldModel S) (q : Address) (l : MemberState S) (p : Address) (r : Stands old q l) (step : WorldStep meaning old (MergeHint q.node p) new) → lacks_memory step.answer ≡ false
      → Hinted old new q l p
  hinted old new q l p r step whole =
      by (PlayedEvents.outcome meaning (input.MergeHint p) r.member old.history.trace old.history.pool step.answer (new.node_states q.node) new.history.trace new.history.pool
      (rw (core-is old q l r) refl) (rw r.member_state refl) (PlayedEvents.hint-here meaning old new q.node p r.member step r.node_state))
    where
      by : PlayedEvents.Outcome meaning (input.MergeHint p) r.member old.history.trace old.history.pool step.answer (new.node_states q.node) new.history.trace new.history.pool → Hinted old new q l p
      by (inl x) = hinted-by old new q l p r step.does.1 x.1
      by (inr x) = absurd (let bad : true ≡ false = sym x.0 ∙ whole in cc)

  -- ---- a packet that is heard

  pub record Heard (old new : WorldModel S) (q : Address) (l : MemberState S) (m : Posted) : Type 0 where
    pub after : MemberState S
    pub stands : Stands new q after
    pub start : Output
    pub out : Output
    pub nothing : Puts [] [] start
    pub hears : hearing.FollowsRule meaning (who q world_group) m.source m.body (in_step l start) (in_step after out)
    pub others : OthersStand q.node old.node_states new.node_states
    pub trace : new.history.trace ≡ old.history.trace ++ out.events.items
    pub puts : new.history.pool ≡ old.history.pool ++ map bytes_of out.packets.items

  -- a packet of the pool that this member is handed
  pub record IsFor (w : WorldModel S) (k : ℕ) (q : Address) (m : Posted) : Type 0 where
    pub there : packet_numbered k w.history.pool ≡ Some (bytes_as m)
    pub sound : IsSound m
    pub goes : m.destination ≡ q
    pub other : same_address m.source q ≡ false

  numbered-by : (k : ℕ) (pool : List (List ℕ)) (bytes : List ℕ) (b : Bool) → nat_eq k 0 ≡ b → packet_numbered k pool ≡ Some bytes → slice_get pool (k - 1) ≡ Some bytes
  numbered-by k pool bytes true e at = absurd (none-some bytes (sym (ap (λ (z : Bool). cond z None (slice_get pool (k - 1))) e) ∙ at))
  numbered-by k pool bytes false e at = sym (ap (λ (z : Bool). cond z None (slice_get pool (k - 1))) e) ∙ at

  module _ (laws : KeepBySteps.Laws meaning) (w : WorldModel S) (keeps : IsWorld meaning w.node_states w.history) (q : Address) (l : MemberState S) (r : Stands w q l) (b : Bor (List ℕ)) (m : Posted) (k : ℕ)
      (f : IsFor w k q m) (is : b.now ≡ bytes_as m) where
    read : packet_of b.now ≡ Ok (packet_in world_group m)
    read = ap packet_of is ∙ reads-back m f.sound

    here : handed (core_at q l) m ≡ Some m
    here = rw (r.connected, f.goes, f.other, same_address-refl q) refl

    came : came_at r.member (input.Datagram b) ≡ Some m
    came = rw (read, r.group, core-is w q l r) here

    packet-free : refusal_of r.member (input.Datagram b) ≡ None
    packet-free = rw (core-is w q l r, read) refl

    packet-readable : is_unreadable meaning r.member (input.Datagram b) ≡ false
    packet-readable =
        StatesAreReadable.call-readable meaning laws world_group (deployment_of w.node_states w.history.pool w.history.trace) (MembersAtNodes.deployed meaning laws w.node_states w.history keeps) r.member.address r.member
        (MembersAtNodes.member-at meaning w.node_states w.history q.node r.member keeps r.node_state (ap (λ (a : Address). a.node) r.address)) (input.Datagram b)
        (inl (k - 1, numbered-by k w.history.pool b.now (nat_eq k 0) refl (f.there ∙ ap Some (sym is))))

  heard-by : (laws : KeepBySteps.Laws meaning) (old new : WorldModel S) (keeps : IsWorld meaning old.node_states old.history) (k : ℕ) (q : Address) (l : MemberState S) (r : Stands old q l) (m : Posted) (f : IsFor old k q m)
      (b : Bor (List ℕ)) → b.now ≡ bytes_as m → OthersStand q.node old.node_states new.node_states
      → PlayedEvents.Taken meaning (input.Datagram b) r.member old.history.trace old.history.pool (new.node_states q.node) new.history.trace new.history.pool → Heard old new q l m
  heard-by laws old new keeps k q l r m f b is others x =
      let i = input.Datagram b in
      let d = did old q l r i x.out x.left x.handled (replies-in old q l r i x.out x.left x.handled).1 in
      record {
        after = d.after;
        stands = record {
          member = x.left;
          node_state = x.node_state;
          address = x.handled.address ∙ r.address;
          group = x.handled.group ∙ r.group;
          member_state = d.member_state;
          connected = d.connected;
        };
        start = d.start;
        out = x.out;
        nothing = d.nothing;
        hears = subst (λ (o : Option Posted). DoesBy meaning o (who q world_group) i (in_step l d.start) (in_step d.after x.out)) (came laws old keeps q l r b m k f is) d.does;
        others = others;
        trace = x.trace;
        puts = x.puts;
      }

  pub heard : (laws : KeepBySteps.Laws meaning) (old new : WorldModel S) (keeps : IsWorld meaning old.node_states old.history) (k : ℕ) (q : Address) (l : MemberState S) (r : Stands old q l) (m : Posted) (f : IsFor old k q m)
      (step : WorldStep meaning old (Deliver k) new) → ((lacks_memory step.answer ≡ false) × Heard old new q l m)
      ⊎ ((lacks_memory step.answer ≡ true) × PlayedEvents.Lost meaning q old.history.trace old.history.pool new.history.trace new.history.pool)
  heard laws old new keeps k q l r m f step =
      let h = PlayedEvents.delivered-here meaning old new k (bytes_as m) q r.member step f.there (goes-to m f.sound ∙ ap Some f.goes) r.node_state in
      by h (PlayedEvents.outcome meaning (input.Datagram h.lent) r.member old.history.trace old.history.pool step.answer (new.node_states q.node) new.history.trace new.history.pool
      (packet-free laws old keeps q l r h.lent m k f h.is) (packet-readable laws old keeps q l r h.lent m k f h.is) h.here)
    where
      by : (h : PlayedEvents.Handed meaning r.member (bytes_as m) old new step.answer q.node)
          → PlayedEvents.Outcome meaning (input.Datagram h.lent) r.member old.history.trace old.history.pool step.answer (new.node_states q.node) new.history.trace new.history.pool
          → ((lacks_memory step.answer ≡ false) × Heard old new q l m)
          ⊎ ((lacks_memory step.answer ≡ true) × PlayedEvents.Lost meaning q old.history.trace old.history.pool new.history.trace new.history.pool)
      by h (inl x) = inl (x.0, heard-by laws old new keeps k q l r m f h.lent h.is h.others x.1)
      by h (inr x) = inr (x.0, subst (λ (p : Address). PlayedEvents.Lost meaning p old.history.trace old.history.pool new.history.trace new.history.pool) r.address x.1)

  -- what agreement knows
  pub agreed-in : (laws : KeepBySteps.Laws meaning) (w : WorldModel S) → IsWorld meaning w.node_states w.history → Kept meaning (system_of w.node_states w.history.pool w.history.trace)
  agreed-in laws w keeps = MembersAtNodes.agreed meaning laws w.node_states w.history keeps

  -- what holds of a packet of the pool
  pub fact-at : (laws : KeepBySteps.Laws meaning) (w : WorldModel S) → IsWorld meaning w.node_states w.history → (k : ℕ) (m : Posted) → packet_numbered k w.history.pool ≡ Some (bytes_as m) → IsSound m
      → PacketFact (system_of w.node_states w.history.pool w.history.trace).history m
  fact-at laws w keeps k m there sound =
      let d = MembersAtNodes.deployed meaning laws w.node_states w.history keeps in
      d.agreed.agreed.packets (k - 1) m
      (post-at world_group w.history.pool (k - 1) (bytes_as m) d.spelled (numbered-by k w.history.pool (bytes_as m) (nat_eq k 0) refl there) ∙ ap posted_in (reads-back m sound))
