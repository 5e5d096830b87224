-- What the coordinator of a view and another member of it do in a world: by a tick, a STATUS, a NAK and an ORDER, each played to its end.
use Rattle.std.proofs.Common.{◌≡◌, ℕ, ◌+◌, ◌-◌, true, false, Option, Some, None, List, [], ◌++◌, map, is_some, nat_eq, nat_lt, inl, inr, refl, ap, ◌∙◌, subst}
use Rattle.std.specs.Prelude.{◌⊎◌}
use Rattle.std.proofs.lemmas.List.{append-nil}
use Rattle.address.specs.declared.limits.TheConstants.{WINDOW}
use Rattle.address.specs.Ids.{Address, same_address}
use Rattle.view.specs.Members.{stands_in}
use Rattle.wire_values.specs.Values.{Entry, Missing, Progress}
use Rattle.wire_values.specs.declared.packet.Body.TheVariants as bodies
use Rattle.wire_values.specs.Posted.{Posted, packet}
use Rattle.state_transfer.specs.Meanings.{Meaning}
use Rattle.trace_props.specs.declared.event.Event.{Event}
use Rattle.address.proofs.SameIds.{same_address-refl, same_view_id-refl}
use Rattle.law_acts.specs.Acts.{others_of}
use Rattle.step_output.specs.declared.output.Output.{Output}
use Rattle.step_output.specs.Outputs.{Puts, Grows}
use Rattle.traffic.specs.declared.coordinator.Coordinator.{Coordinator}
use Rattle.traffic.specs.declared.follower.Follower.{Follower}
use Rattle.traffic.specs.declared.view_state.ViewState.{ViewState}
use Rattle.traffic.specs.declared.view_state.ViewState.TheVariants as kinds
use Rattle.traffic.specs.Takes.{TakesOrder, TakesStatus, AsksUpTo, progress_of, orders_held}
use Rattle.traffic.specs.Followers.{collected_to}
use Rattle.membership.specs.declared.member_state.MemberState.{MemberState}
use Rattle.member_rules.specs.Heard.{takes_nak, takes_order, takes_status, is_near}
use Rattle.member_rules.specs.Messages.{ByKind, AtFollower, OnNak, OnOrder, OnStatus, TicksInView}
use Rattle.member.specs.Doing.{Ticks}
use Rattle.world_model.specs.declared.WorldEvent.TheVariants.{Tick}
use Rattle.world_model.specs.Packets.{world_group}
use Rattle.world.specs.NodeStates.{bytes_of}
use Rattle.world.specs.Turns.{OthersStand}
use Rattle.world.specs.Worlds.{WorldModel, WorldStep}
use Rattle.world.specs.Plays.{lacks_memory}
use Rattle.law_processes.proofs.PostsAreSpelled.{EachSound, bytes_for}
use Rattle.world.proofs.InputsTaken.{when-true}
use Rattle.world.proofs.PlayedEvents
use Rattle.world.proofs.Standing
use Rattle.world.proofs.Standing.{Stands}
use Rattle.step_output.specs.Steps.{who}
use Rattle.traffic.specs.InViews.{in_view}
use Rattle.membership.specs.InSteps.{in_step}
use Rattle.world.proofs.PoolPackets.{put-out, happens}

module _ {S : Type 0} (meaning : Meaning S) where
  -- the member of an address runs, in a view, and is not blocked
  pub record RunsAs (w : WorldModel S) (p : Address) (l : MemberState S) (t : ViewState) : Type 0 where
    pub stands : Stands meaning w p l
    pub view_state : l.view_state ≡ Some t
    pub installed : l.promise.is_installed ≡ true

  -- another event leaves it
  pub runs-still : (w : WorldModel S) (p : Address) (l : MemberState S) (t : ViewState) (r : RunsAs w p l t) (new : WorldModel S) (q : Address) → nat_eq q.node p.node ≡ false → OthersStand q.node w.node_states new.node_states
      → RunsAs new p l t
  runs-still w p l t r new q apart others = record { stands = Standing.stands-still meaning w p l r.stands new q apart others; view_state = r.view_state; installed = r.installed }

  -- ---- a tick of the coordinator

  abbrev pub statuses : Address → Coordinator → List Posted
  statuses c k = map (packet c (bodies.Status k.view.id (progress_of k.window))) (others_of c k.view.members)

  pub record Ticked (old new : WorldModel S) (c : Address) (l : MemberState S) (k : Coordinator) : Type 0 where
    pub runs : RunsAs new c l (kinds.Coordinator k)
    pub others : OthersStand c.node old.node_states new.node_states
    pub trace : new.history.trace ≡ old.history.trace
    pub puts : new.history.pool ≡ old.history.pool ++ bytes_for world_group (statuses c k)
    pub sound : EachSound world_group (statuses c k)

  -- what a tick puts out there
  tick-grows : (c : Address) (l : MemberState S) (k : Coordinator) (start out : Output) → l.view_state ≡ Some (kinds.Coordinator k) → l.promise.is_installed ≡ true
      → Ticks (who c world_group) (in_step l start) out → Grows world_group start out (statuses c k) []
  tick-grows c l k start out view_state inst x =
      let a = when-true (is_some l.view_state) _ _ (ap is_some view_state) x in
      let b : TicksInView (who c world_group) (in_step l start) out = when-true l.promise.is_installed _ _ inst a in
      subst (λ (o : Option ViewState). TicksInView (who c world_group) (in_step (record l { view_state = o }) start) out) view_state b

  ticked-by : (old new : WorldModel S) (c : Address) (l : MemberState S) (k : Coordinator) → RunsAs old c l (kinds.Coordinator k) → Standing.Ticked meaning old new c l → Ticked old new c l k
  ticked-by old new c l k r x =
      let g : Grows world_group x.start x.out (statuses c k) [] = tick-grows c l k x.start x.out r.view_state r.installed x.ticks in
      record {
        runs = record { stands = x.stands; view_state = r.view_state; installed = r.installed };
        others = x.others;
        trace = x.trace ∙ ap (λ (hs : List Event). old.history.trace ++ hs) (happens x.start x.out x.nothing (statuses c k) [] g) ∙ append-nil old.history.trace;
        puts = x.puts ∙ ap (λ (ps : List (List ℕ)). old.history.pool ++ ps) (put-out x.start x.out x.nothing (statuses c k) [] g);
        sound = g.sound;
      }

  -- it is done, or it crashed
  pub ticked : (old new : WorldModel S) (c : Address) (l : MemberState S) (k : Coordinator) (r : RunsAs old c l (kinds.Coordinator k)) (step : WorldStep meaning old (Tick c.node) new)
      → ((lacks_memory step.answer ≡ false) × Ticked old new c l k)
      ⊎ ((lacks_memory step.answer ≡ true) × PlayedEvents.Lost meaning c old.history.trace old.history.pool new.history.trace new.history.pool)
  ticked old new c l k r step = by (Standing.ticked meaning old new c l r.stands step)
    where
      by : ((lacks_memory step.answer ≡ false) × Standing.Ticked meaning old new c l)
          ⊎ ((lacks_memory step.answer ≡ true) × PlayedEvents.Lost meaning c old.history.trace old.history.pool new.history.trace new.history.pool)
          → ((lacks_memory step.answer ≡ false) × Ticked old new c l k)
          ⊎ ((lacks_memory step.answer ≡ true) × PlayedEvents.Lost meaning c old.history.trace old.history.pool new.history.trace new.history.pool)
      by (inl x) = inl (x.0, ticked-by old new c l k r x.1)
      by (inr x) = inr x

  -- ---- another member

  record StillFollower (Does : Follower → Follower → Type 0) (l after : MemberState S) (k : Follower) : Type 0 where
    pub now : Follower
    pub view_state : after.view_state ≡ Some (kinds.Follower now)
    pub installed : after.promise.is_installed ≡ l.promise.is_installed
    pub does : Does k now

  still-other : (Does : Follower → Follower → Type 0) (l after : MemberState S) (k : Follower) → l.view_state ≡ Some (kinds.Follower k) → AtFollower Does l after → StillFollower Does l after k
  still-other Does l after k view_state x =
      by after.view_state refl (subst (λ (o : Option ViewState). ByKind (λ m. ⊥) (λ m. ByKind (λ n. ⊥) (Does m) ⊥ after.view_state) ⊥ o) view_state x.1)
    where
      by : (o : Option ViewState) → after.view_state ≡ o → ByKind (λ n. ⊥) (Does k) ⊥ o → StillFollower Does l after k
      by None e y = absurd y
      by (Some (kinds.Coordinator n)) e y = absurd y
      by (Some (kinds.Follower n)) e y = record { now = n; view_state = e; installed = ap (λ (z : MemberState S). z.promise.is_installed) x.0; does = y }

  -- what it takes of its coordinator
  module _ (c : Address) (l : MemberState S) (k : Follower) (view_state : l.view_state ≡ Some (kinds.Follower k)) (inst : l.promise.is_installed ≡ true) (own : k.view.id.creator ≡ c)
      (listed : stands_in c k.view.members ≡ true) where
    from-coordinator : same_address k.view.id.creator c ≡ true
    from-coordinator = ap (λ (p : Address). same_address p c) own ∙ same_address-refl c

    takes-status : (a : Progress) → is_near a k ≡ true → takes_status c k.view.id a l ≡ true
    takes-status a near = rw (view_state, inst, same_view_id-refl k.view.id, listed, from-coordinator, near) refl

    takes-order : (g : ℕ) → nat_lt k.window.delivered (g - WINDOW) ≡ false → takes_order c k.view.id g l ≡ true
    takes-order g near = rw (view_state, inst, same_view_id-refl k.view.id, listed, from-coordinator, near) refl

  -- a STATUS
  pub record Asked (old new : WorldModel S) (q : Address) (l : MemberState S) (k : Follower) (a : Progress) : Type 0 where
    pub after : MemberState S
    pub now : Follower
    pub runs : RunsAs new q after (kinds.Follower now)
    pub is : now ≡ collected_to a.stable k
    pub start : Output
    pub out : Output
    pub nothing : Puts [] [] start
    pub asks : AsksUpTo (who q world_group) a.highest now start out
    pub others : OthersStand q.node old.node_states new.node_states
    pub puts : new.history.pool ≡ old.history.pool ++ map bytes_of out.packets.items

  pub asked : (old new : WorldModel S) (c q : Address) (l : MemberState S) (k : Follower) (a : Progress) (r : RunsAs old q l (kinds.Follower k)) → k.view.id.creator ≡ c → stands_in c k.view.members ≡ true
      → is_near a k ≡ true → Standing.Heard meaning old new q l (packet c (bodies.Status k.view.id a) q) → Asked old new q l k a
  asked old new c q l k a r own listed near h =
      let x : OnStatus (who q world_group) c k.view.id a (in_step l h.start) (in_step h.after h.out) = h.hears in
      let y = when-true (takes_status c k.view.id a l) _ _ (takes-status c l k r.view_state r.installed own listed a near) x in
      let z = still-other (λ m n. TakesStatus (who q world_group) a m h.start n h.out × (h.after.receiver ≡ l.receiver)) l h.after k r.view_state y in
      let u = z.does.0 in
      record {
        after = h.after;
        now = z.now;
        runs = record { stands = h.stands; view_state = z.view_state; installed = z.installed ∙ r.installed };
        is = u.0;
        start = h.start;
        out = h.out;
        nothing = h.nothing;
        asks = u.1;
        others = h.others;
        puts = h.puts;
      }

  -- an ORDER
  pub record Ordered (old new : WorldModel S) (q : Address) (k : Follower) (g : ℕ) (e : Entry) : Type 0 where
    pub after : MemberState S
    pub now : Follower
    pub runs : RunsAs new q after (kinds.Follower now)
    pub old_state : S
    pub new_state : S
    pub start : Output
    pub out : Output
    pub takes : TakesOrder meaning (who q world_group) g e (in_view k old_state start) (in_view now new_state out)
    pub others : OthersStand q.node old.node_states new.node_states
    pub puts : new.history.pool ≡ old.history.pool ++ map bytes_of out.packets.items

  pub ordered : (old new : WorldModel S) (c q : Address) (l : MemberState S) (k : Follower) (g : ℕ) (e : Entry) (r : RunsAs old q l (kinds.Follower k)) → k.view.id.creator ≡ c → stands_in c k.view.members ≡ true
      → nat_lt k.window.delivered (g - WINDOW) ≡ false → Standing.Heard meaning old new q l (packet c (bodies.Order k.view.id g e) q) → Ordered old new q k g e
  ordered old new c q l k g e r own listed near h =
      let x : OnOrder meaning (who q world_group) c k.view.id g e (in_step l h.start) (in_step h.after h.out) = h.hears in
      let y = when-true (takes_order c k.view.id g l) _ _ (takes-order c l k r.view_state r.installed own listed g near) x in
      let z = still-other (λ m n. TakesOrder meaning (who q world_group) g e (in_view m l.receiver h.start) (in_view n h.after.receiver h.out)) l h.after k r.view_state y in
      record {
        after = h.after;
        now = z.now;
        runs = record { stands = h.stands; view_state = z.view_state; installed = z.installed ∙ r.installed };
        old_state = l.receiver;
        new_state = h.after.receiver;
        start = h.start;
        out = h.out;
        takes = z.does;
        others = h.others;
        puts = h.puts;
      }

  -- ---- a NAK, at the coordinator

  pub record Answered (old new : WorldModel S) (c q : Address) (l : MemberState S) (k : Coordinator) (missing : Missing) : Type 0 where
    pub runs : RunsAs new c l (kinds.Coordinator k)
    pub others : OthersStand c.node old.node_states new.node_states
    pub puts : new.history.pool ≡ old.history.pool ++ bytes_for world_group (orders_held c k.view q k.window.held missing.first (missing.last + 1 - missing.first))
    pub sound : EachSound world_group (orders_held c k.view q k.window.held missing.first (missing.last + 1 - missing.first))

  takes-nak : (q : Address) (l : MemberState S) (k : Coordinator) → l.view_state ≡ Some (kinds.Coordinator k) → l.promise.is_installed ≡ true → stands_in q k.view.members ≡ true
      → takes_nak q k.view.id l ≡ true
  takes-nak q l k view_state inst listed = rw (view_state, inst, same_view_id-refl k.view.id, listed) refl

  pub answered : (old new : WorldModel S) (c q : Address) (l : MemberState S) (k : Coordinator) (missing : Missing) (r : RunsAs old c l (kinds.Coordinator k)) → stands_in q k.view.members ≡ true
      → Standing.Heard meaning old new c l (packet q (bodies.Nak k.view.id missing) c) → Answered old new c q l k missing
  answered old new c q l k missing r listed h =
      let x : OnNak (who c world_group) q k.view.id missing (in_step l h.start) (in_step h.after h.out) = h.hears in
      let y = when-true (takes_nak q k.view.id l) _ _ (takes-nak q l k r.view_state r.installed listed) x in
      let orders = orders_held c k.view q k.window.held missing.first (missing.last + 1 - missing.first) in
      let g : Grows world_group h.start h.out orders [] =
      subst (λ (o : Option ViewState). ByKind (λ m. Grows world_group h.start h.out (orders_held c m.view q m.window.held missing.first (missing.last + 1 - missing.first)) []) (λ m. ⊥) ⊥ o) r.view_state y.1 in
      record {
        runs = record { stands = subst (Stands meaning new c) y.0 h.stands; view_state = r.view_state; installed = r.installed };
        others = h.others;
        puts = h.puts ∙ ap (λ (ps : List (List ℕ)). old.history.pool ++ ps) (put-out h.start h.out h.nothing orders [] g);
        sound = g.sound;
      }
