-- A member puts out again what may be lost, and its coordinator hears all of it: then each message that it sent was ordered, or waits to be, and what it was delivered is acknowledged.
use Rattle.std.proofs.Common.{◌≡◌, ℕ, zero, suc, ◌+◌, ◌-◌, ◌*◌, ◌≤◌, Bool, true, false, ◌||◌, Option, Some, None, List, [], ◌∷◌, ◌++◌, map, length, nat_eq, nat_lt, inl, inr, ◌⊎◌, refl, sym, ap, ◌∙◌, subst, arith}
use Rattle.std.specs.Prelude.{slice_get, is_some}
use Rattle.std.proofs.lemmas.Bool.Decides.{nat_tests}
use Rattle.std.specs.Prelude.{MatchBool}
use Rattle.std.proofs.lemmas.List.{length-append, length-map}
use Rattle.world.proofs.EventsCounted.{adds, adds-all}
use Rattle.std.proofs.lemmas.Option.{none-some, same_Some}
use Rattle.sequencer.specs.Queues.{Queue}
use Rattle.address.specs.declared.limits.TheConstants.{OUTSTANDING}
use Rattle.address.specs.Ids.{Address, ViewId, same_address}
use Rattle.address.proofs.SameIds.{same_address-refl, same_address-true, same_view_id-refl}
use Rattle.view.specs.Members.{View, stands_in}
use Rattle.wire_values.specs.declared.packet.Body.TheVariants as bodies
use Rattle.wire_values.specs.Posted.{Posted, packet}
use Rattle.state_transfer.specs.Meanings.{Meaning}
use Rattle.trace_props.specs.declared.event.Numbered.{Numbered}
use Rattle.stability.specs.Counts.{count_of, members_of}
use Rattle.law_acts.proofs.KeepBySteps
use Rattle.step_output.specs.declared.output.Output.{Output}
use Rattle.step_output.specs.Outputs.{Grows}
use Rattle.step_output.specs.Steps.{who}
use Rattle.traffic.specs.declared.coordinator.Coordinator.{Coordinator}
use Rattle.traffic.specs.declared.follower.Follower.{Follower}
use Rattle.traffic.specs.declared.view_state.ViewState.{ViewState}
use Rattle.traffic.specs.declared.view_state.ViewState.TheVariants as kinds
use Rattle.traffic.specs.Coordinators.{queued, acknowledged}
use Rattle.traffic.specs.InViews.{in_view}
use Rattle.traffic.specs.Takes.{forward_of}
use Rattle.traffic.specs.Turns.{OrdersAll}
use Rattle.traffic.specs.ViewStates.{ordered_of, senders_of}
use Rattle.membership.specs.InSteps.{in_step}
use Rattle.membership.specs.declared.member_state.MemberState.{MemberState}
use Rattle.member_rules.specs.Heard.{takes_forward, takes_ack}
use Rattle.member_rules.specs.Messages.{ByKind, AtCoordinator, OnForward, OnAck, TicksInView}
use Rattle.member.specs.Doing.{Ticks}
use Rattle.member.specs.Members.{MemberModel}
use Rattle.world.specs.declared.node_state.NodeState.TheVariants.{Running}
use Rattle.law_processes.proofs.PostsAreSpelled.{EachSound, bytes_for}
use Rattle.world_model.specs.declared.WorldEvent.TheVariants.{Deliver, Tick}
use Rattle.world_model.specs.Packets.{world_group}
use Rattle.world.specs.NodeStates.{bytes_of}
use Rattle.world.specs.Plays.{lacks_memory, Plays, Delivers}
use Rattle.world.specs.Turns.{OthersStand}
use Rattle.world.specs.Worlds.{WorldModel}
use Rattle.world.specs.Calm.{Speaks, AllSpeak}
use Rattle.world.specs.Calm.AllSpeak.{NobodySpeaks, NextSpeaks}
use Rattle.trace_props.specs.Observed.{sent_in}
use Rattle.world.proofs.CatchUpLevels
use Rattle.traffic.proofs.Covered.{Covered, offered-is, low-covered}
use Rattle.world.proofs.Deliveries.{delivers-none, delivers-next}
use Rattle.traffic.proofs.GoesFurther.{Further, still, further-then, queued-further, acknowledged-further, turns-further, noted-here}
use Rattle.world.proofs.Groups
use Rattle.world.proofs.InputsTaken.{when-true}
use Rattle.world.proofs.KeepOfWorlds
use Rattle.world.proofs.PoolPackets.{put-out, AreNext, put-next, next-rest, next-first}
use Rattle.world.proofs.RepliesPlayed
use Rattle.world.proofs.Standing

-- the first is covered, and so is each behind it
each-covered : (q : Address) (f : Numbered) (fs : List Numbered) (queues : List Queue) → Covered q f.number queues → ((j : ℕ) (e : Numbered) → slice_get fs j ≡ Some e → Covered q e.number queues)
    → (j : ℕ) (e : Numbered) → slice_get (f ∷ fs) j ≡ Some e → Covered q e.number queues
each-covered q f fs queues first rest zero e at = subst (λ (x : Numbered). Covered q x.number queues) (same_Some f e at) first
each-covered q f fs queues first rest (suc j) e at = rest j e at

-- who stands in a longer list
pub before-or-last : (p q : Address) (qs : List Address) → stands_in p (qs ++ q ∷ []) ≡ true → (stands_in p qs ≡ true) ⊎ (same_address p q ≡ true)
before-or-last p q [] e = by (same_address p q) e
  where
    by : (b : Bool) → (b || false) ≡ true → (false ≡ true) ⊎ (b ≡ true)
    by true e = inr refl
    by false e = inl e
before-or-last p q (r ∷ qs) e = by (same_address p r) e (before-or-last p q qs)
  where
    by : (b : Bool) → (b || stands_in p (qs ++ q ∷ [])) ≡ true → (stands_in p (qs ++ q ∷ []) ≡ true → (stands_in p qs ≡ true) ⊎ (same_address p q ≡ true)) → ((b || stands_in p qs) ≡ true) ⊎ (same_address p q ≡ true)
    by true e later = inl refl
    by false e later = later e

pub in-front : (p q : Address) (qs : List Address) → stands_in p qs ≡ true → stands_in p (qs ++ q ∷ []) ≡ true
in-front p q [] e = absurd (let bad : false ≡ true = e in cc)
in-front p q (r ∷ qs) e = by (same_address p r) e (in-front p q qs)
  where
    by : (b : Bool) → (b || stands_in p qs) ≡ true → (stands_in p qs ≡ true → stands_in p (qs ++ q ∷ []) ≡ true) → (b || stands_in p (qs ++ q ∷ [])) ≡ true
    by true e later = refl
    by false e later = later e

pub at-last : (q : Address) (qs : List Address) → stands_in q (qs ++ q ∷ []) ≡ true
at-last q [] = ap (λ (b : Bool). b || false) (same_address-refl q)
at-last q (r ∷ qs) = by (same_address q r) (at-last q qs)
  where
    by : (b : Bool) → stands_in q (qs ++ q ∷ []) ≡ true → (b || stands_in q (qs ++ q ∷ [])) ≡ true
    by true e = refl
    by false e = e

same-follower : (k n : Follower) → Some (kinds.Follower k) ≡ Some (kinds.Follower n) → k ≡ n
same-follower k n e = cc

module _ {S : Type 0} (meaning : Meaning S) (laws : KeepBySteps.Laws meaning) where
  abbrev pub RunsAs : WorldModel S → Address → MemberState S → ViewState → Type 0
  RunsAs w p l t = RepliesPlayed.RunsAs meaning w p l t

  abbrev pub Group : WorldModel S → Address → MemberState S → Coordinator → Type 0
  Group w c l k = Groups.Group meaning laws w c l k

  -- ---- what the coordinator does by a packet

  record StillFirst (Does : Coordinator → Coordinator → Type 0) (l after : MemberState S) (k : Coordinator) : Type 0 where
    pub now : Coordinator
    pub view_state : after.view_state ≡ Some (kinds.Coordinator now)
    pub installed : after.promise.is_installed ≡ l.promise.is_installed
    pub does : Does k now

  still-first : (Does : Coordinator → Coordinator → Type 0) (l after : MemberState S) (k : Coordinator) → l.view_state ≡ Some (kinds.Coordinator k) → AtCoordinator Does l after → StillFirst Does l after k
  still-first Does l after k view_state x =
      by after.view_state refl (subst (λ (o : Option ViewState). ByKind (λ m. ByKind (Does m) (λ n. ⊥) ⊥ after.view_state) (λ m. ⊥) ⊥ o) view_state x.1)
    where
      by : (o : Option ViewState) → after.view_state ≡ o → ByKind (Does k) (λ n. ⊥) ⊥ o → StillFirst Does l after k
      by None e y = absurd y
      by (Some (kinds.Follower n)) e y = absurd y
      by (Some (kinds.Coordinator n)) e y = record { now = n; view_state = e; installed = ap (λ (z : MemberState S). z.promise.is_installed) x.0; does = y }

  -- the coordinator went on, in its view
  pub record GoesOn (w mid : WorldModel S) (c : Address) (k : Coordinator) : Type 0 where
    pub after : MemberState S
    pub now : Coordinator
    pub group : Group mid c after now
    pub further : Further k now
    pub others : OthersStand c.node w.node_states mid.node_states
    pub more : List (List ℕ)
    pub puts : mid.history.pool ≡ w.history.pool ++ more

  pub record GoesFrom (w mid : WorldModel S) (c : Address) (k start : Coordinator) : Type 0 where
    pub goes : GoesOn w mid c k
    pub rest : Further start goes.now

  module _ (w mid : WorldModel S) (c : Address) (l : MemberState S) (k : Coordinator) (g : Group w c l k) (keeps : Groups.Keeps meaning laws mid) (q : Address) (there : stands_in q k.view.members ≡ true) where
    goes-by : (start : Coordinator) → Further k start → (Does : Coordinator → Coordinator → Type 0) → ((n : Coordinator) → Does k n → Further start n) → (m : Posted) (h : Standing.Heard meaning w mid c l m)
        → (z : StillFirst Does l h.after k) → GoesFrom w mid c k start
    goes-by start first Does on m h z =
        let f = further-then k start z.now first (on z.now z.does) in
        record {
          rest = on z.now z.does;
          goes = record {
            after = h.after;
            now = z.now;
            group = Groups.first-moves meaning laws w mid c l h.after k z.now g keeps (record { stands = h.stands; view_state = z.view_state; installed = z.installed ∙ g.first.installed }) f.view h.others;
            further = f;
            others = h.others;
            more = map bytes_of h.out.packets.items;
            puts = h.puts;
          };
        }

    takes-forward : takes_forward q k.view.id l ≡ true
    takes-forward = rw (g.first.view_state, g.first.installed, same_view_id-refl k.view.id, there) refl

    takes-ack : (n : ℕ) → nat_lt k.window.delivered n ≡ false → takes_ack q k.view.id n l ≡ true
    takes-ack n low = rw (g.first.view_state, g.first.installed, same_view_id-refl k.view.id, there, low) refl

    senders : stands_in q (senders_of k.orderer.queues) ≡ true
    senders = ap (stands_in q) (Groups.orderly meaning laws w c l k g).0.senders ∙ there

    heard-of : stands_in q (members_of k.acks) ≡ true
    heard-of = ap (stands_in q) (Groups.orderly meaning laws w c l k g).0.heard ∙ there

    -- a FORWARD
    pub forward-heard : (n : ℕ) (x : List ℕ) → n ≤ ordered_of k.orderer.queues q + OUTSTANDING → Standing.Heard meaning w mid c l (packet q (bodies.Forward k.view.id n x) c)
        → (o : GoesOn w mid c k) × Covered q n o.now.orderer.queues
    forward-heard n x near h =
        let start = queued q n x k in
        let Does : Coordinator → Coordinator → Type 0 = λ m o. OrdersAll meaning (who c world_group) (in_view (queued q n x m) l.receiver h.start) (in_view o h.after.receiver h.out) in
        let a : OnForward meaning (who c world_group) q k.view.id n x (in_step l h.start) (in_step h.after h.out) = h.hears in
        let b = when-true (takes_forward q k.view.id l) _ _ takes-forward a in
        let z : StillFirst Does l h.after k = still-first Does l h.after k g.first.view_state b in
        let o = goes-by start (queued-further q n x k) Does (λ m d. turns-further c start m d.0.entries d.0.turns) (packet q (bodies.Forward k.view.id n x) c) h z in
        (o.goes, o.rest.covered q n (offered-is q n x k.orderer.queues senders near))

    -- an ACK
    pub ack-heard : (n : ℕ) → n ≤ k.window.delivered → Standing.Heard meaning w mid c l (packet q (bodies.Ack k.view.id n) c) → (o : GoesOn w mid c k) × (n ≤ count_of q o.now.acks)
    ack-heard n low h =
        let start = acknowledged q n k in
        let Does : Coordinator → Coordinator → Type 0 = λ m o. OrdersAll meaning (who c world_group) (in_view (acknowledged q n m) l.receiver h.start) (in_view o h.after.receiver h.out) in
        let a : OnAck meaning (who c world_group) q k.view.id n (in_step l h.start) (in_step h.after h.out) = h.hears in
        let b = when-true (takes_ack q k.view.id n l) _ _ (takes-ack n (grind (arith, nat_tests))) a in
        let z : StillFirst Does l h.after k = still-first Does l h.after k g.first.view_state b in
        let o = goes-by start (acknowledged-further q n k) Does (λ m d. turns-further c start m d.0.entries d.0.turns) (packet q (bodies.Ack k.view.id n) c) h z in
        (o.goes, (let x = noted-here q n k.acks heard-of in let y = o.rest.acks q in omega (arith, x, y)))

  -- ---- what another member puts out by a tick

  abbrev pub told_packets : Address → View → List Numbered → ℕ → List Posted
  told_packets q v fs delivered = map (forward_of q v) fs ++ packet q (bodies.Ack v.id delivered) v.id.creator ∷ []

  pub record Told (old told : WorldModel S) (q : Address) (lq : MemberState S) (kq : Follower) (v : View) : Type 0 where
    pub runs : RunsAs told q lq (kinds.Follower kq)
    pub others : OthersStand q.node old.node_states told.node_states
    pub puts : told.history.pool ≡ old.history.pool ++ bytes_for world_group (told_packets q v kq.forwards.rest kq.window.delivered)
    pub sound : EachSound world_group (told_packets q v kq.forwards.rest kq.window.delivered)

  tick-grows : (q : Address) (l : MemberState S) (k : Follower) (start out : Output) → l.view_state ≡ Some (kinds.Follower k) → l.promise.is_installed ≡ true
      → Ticks (who q world_group) (in_step l start) out → Grows world_group start out (told_packets q k.view k.forwards.rest k.window.delivered) []
  tick-grows q l k start out view_state inst x =
      let a = when-true (is_some l.view_state) _ _ (ap is_some view_state) x in
      let b : TicksInView (who q world_group) (in_step l start) out = when-true l.promise.is_installed _ _ inst a in
      subst (λ (o : Option ViewState). TicksInView (who q world_group) (in_step (record l { view_state = o }) start) out) view_state b

  pub told-by : (old told : WorldModel S) (q : Address) (lq : MemberState S) (kq : Follower) (v : View) → RunsAs old q lq (kinds.Follower kq) → kq.view ≡ v → Plays meaning old (Tick q.node) told
      → Told old told q lq kq v
  told-by old told q lq kq v r same x =
      let t = CatchUpLevels.sure meaning laws (lacks_memory x.step.answer) x.whole (Standing.ticked meaning old told q lq r.stands x.step) in
      let posted = told_packets q v kq.forwards.rest kq.window.delivered in
      let grows : Grows world_group t.start t.out posted [] =
      subst (λ (u : View). Grows world_group t.start t.out (told_packets q u kq.forwards.rest kq.window.delivered) []) same (tick-grows q lq kq t.start t.out r.view_state r.installed t.ticks) in
      record {
        runs = record { stands = t.stands; view_state = r.view_state; installed = r.installed };
        others = t.others;
        puts = t.puts ∙ ap (λ (ps : List (List ℕ)). old.history.pool ++ ps) (put-out t.start t.out t.nothing posted [] grows);
        sound = grows.sound;
      }

  -- ---- the coordinator hears all of it

  pub record HeardAll (w new : WorldModel S) (c : Address) (k : Coordinator) (q : Address) (fs : List Numbered) (delivered : ℕ) : Type 0 where
    pub after : MemberState S
    pub now : Coordinator
    pub group : Group new c after now
    pub further : Further k now
    pub others : OthersStand c.node w.node_states new.node_states
    pub covered : (j : ℕ) (f : Numbered) → slice_get fs j ≡ Some f → Covered q f.number now.orderer.queues
    pub acked : delivered ≤ count_of q now.acks

  -- these are among its outstanding messages
  abbrev pub Among : List Numbered → List Numbered → Type 0
  Among fs rest = (j : ℕ) (f : Numbered) → slice_get fs j ≡ Some f → (i : ℕ) × (slice_get rest i ≡ Some f)

  module _ (c q : Address) (lq : MemberState S) (kq : Follower) (other : same_address q c ≡ false) (few : length kq.forwards.rest ≤ OUTSTANDING) where
    -- it heard a FORWARD, and the rest comes next
    pub record Begun (w mid : WorldModel S) (past : ℕ) (k : Coordinator) (f : Numbered) (fs : List Numbered) : Type 0 where
      pub goes : GoesOn w mid c k
      pub covered : Covered q f.number goes.now.orderer.queues
      pub listed : stands_in q goes.now.view.members ≡ true
      pub still : RunsAs mid q lq (kinds.Follower kq)
      pub same : kq.view ≡ goes.now.view
      pub sound : EachSound world_group (told_packets q goes.now.view fs kq.window.delivered)
      pub next : AreNext (past + 1) (told_packets q goes.now.view fs kq.window.delivered) mid.history.pool

    module _ (past : ℕ) (w : WorldModel S) (l : MemberState S) (k : Coordinator) (g : Group w c l k) (there : stands_in q k.view.members ≡ true) (r : RunsAs w q lq (kinds.Follower kq)) (same : kq.view ≡ k.view) where
      -- the ACK, behind all FORWARDs
      abbrev pub last_packet : Posted
      last_packet = packet q (bodies.Ack k.view.id kq.window.delivered) k.view.id.creator

      pub last-for : EachSound world_group (told_packets q k.view [] kq.window.delivered) → AreNext past (told_packets q k.view [] kq.window.delivered) w.history.pool → Standing.IsFor meaning w (past + 1) c last_packet
      last-for sound next = record { there = next-first past last_packet [] w.history.pool next; sound = sound.0; goes = g.own; other = other }

      module _ (f : Numbered) (fs : List Numbered) (sound : EachSound world_group (told_packets q k.view (f ∷ fs) kq.window.delivered)) (next : AreNext past (told_packets q k.view (f ∷ fs) kq.window.delivered) w.history.pool) where
        pub forward-for : Standing.IsFor meaning w (past + 1) c (forward_of q k.view f)
        forward-for = record { there = next-first past (forward_of q k.view f) (told_packets q k.view fs kq.window.delivered) w.history.pool next; sound = sound.0; goes = g.own; other = other }

        pub begun : Among (f ∷ fs) kq.forwards.rest → (mid : WorldModel S) → Plays meaning w (Deliver (past + 1)) mid → Begun w mid past k f fs
        begun among mid plays =
            let rest = told_packets q k.view fs kq.window.delivered in
            let h = CatchUpLevels.sure meaning laws (lacks_memory plays.step.answer) plays.whole (Standing.heard meaning laws w mid g.keeps (past + 1) c l g.first.stands (forward_of q k.view f) forward-for plays.step) in
            let keeps = KeepOfWorlds.step-keeps meaning laws w mid (Deliver (past + 1)) plays.step g.keeps in
            let here = among 0 f refl in
            let near = Groups.near meaning laws w c l k g q there other lq kq r same few here.0 f here.1 in
            let o = forward-heard w mid c l k g keeps q there f.number f.payload near (subst (λ (p : Address). Standing.Heard meaning w mid c l (packet q (bodies.Forward k.view.id f.number f.payload) p)) g.own h) in
            let view = o.0.further.view in
            record {
              goes = o.0;
              covered = o.1;
              listed = ap (λ (v : View). stands_in q v.members) view ∙ there;
              still = RepliesPlayed.runs-still meaning w q lq (kinds.Follower kq) r mid c (Standing.nodes-apart meaning w c q l lq g.first.stands r.stands other) o.0.others;
              same = same ∙ sym view;
              sound = subst (λ (v : View). EachSound world_group (told_packets q v fs kq.window.delivered)) (sym view) sound.1;
              next = subst (λ (v : View). AreNext (past + 1) (told_packets q v fs kq.window.delivered) mid.history.pool) (sym view)
                  (subst (AreNext (past + 1) rest) (sym o.0.puts) (next-rest past (forward_of q k.view f) rest w.history.pool o.0.more next));
            }

    pub hear-all : (fs : List Numbered) (past : ℕ) (w new : WorldModel S) (l : MemberState S) (k : Coordinator) → Group w c l k → stands_in q k.view.members ≡ true → RunsAs w q lq (kinds.Follower kq) → kq.view ≡ k.view
        → Among fs kq.forwards.rest → EachSound world_group (told_packets q k.view fs kq.window.delivered) → AreNext past (told_packets q k.view fs kq.window.delivered) w.history.pool
        → Delivers meaning past (length (told_packets q k.view fs kq.window.delivered)) w new → HeardAll w new c k q fs kq.window.delivered
    hear-all [] past w new l k g there r same among sound next all =
        let d = delivers-next meaning past 1 0 w new refl all in
        let is : new ≡ d.mid = delivers-none meaning (past + 1) 0 d.mid new refl d.rest in
        let h = CatchUpLevels.sure meaning laws (lacks_memory d.plays.step.answer) d.plays.whole
        (Standing.heard meaning laws w d.mid g.keeps (past + 1) c l g.first.stands (last_packet past w l k g there r same) (last-for past w l k g there r same sound next) d.plays.step) in
        let keeps = KeepOfWorlds.step-keeps meaning laws w d.mid (Deliver (past + 1)) d.plays.step g.keeps in
        let low : kq.window.delivered ≤ k.window.delivered = (CatchUpLevels.numbers meaning laws w c q l lq k kq (record { keeps = g.keeps; first = g.first; other = r; own = g.own; same = same; apart = other })).top in
        let o = ack-heard w d.mid c l k g keeps q there kq.window.delivered low (subst (λ (p : Address). Standing.Heard meaning w d.mid c l (packet q (bodies.Ack k.view.id kq.window.delivered) p)) g.own h) in
        subst (λ (z : WorldModel S). HeardAll w z c k q [] kq.window.delivered) (sym is) (record {
          after = o.0.after;
          now = o.0.now;
          group = o.0.group;
          further = o.0.further;
          others = o.0.others;
          covered = λ j f at. absurd (none-some f at);
          acked = o.1;
        })
    hear-all (f ∷ fs) past w new l k g there r same among sound next all =
        let rest = told_packets q k.view fs kq.window.delivered in
        let d = delivers-next meaning past (length (forward_of q k.view f ∷ rest)) (length rest) w new refl all in
        let b = begun past w l k g there r same f fs sound next among d.mid d.plays in
        let y = hear-all fs (past + 1) d.mid new b.goes.after b.goes.now b.goes.group b.listed b.still b.same (λ j e at. among (suc j) e at) b.sound b.next
        (subst (λ (v : View). Delivers meaning (past + 1) (length (told_packets q v fs kq.window.delivered)) d.mid new) (sym b.goes.further.view) d.rest) in
        record {
          after = y.after;
          now = y.now;
          group = y.group;
          further = further-then k b.goes.now y.now b.goes.further y.further;
          others = λ n apart. y.others n apart ∙ b.goes.others n apart;
          covered = each-covered q f fs y.now.orderer.queues (y.further.covered q f.number b.covered) y.covered;
          acked = y.acked;
        }

  -- ---- one speaks, and is heard

  abbrev pub SentBy : WorldModel S → ViewId → Address → ℕ
  SentBy w v q = length (sent_in q v w.history.trace)

  pub record SpokeOnce (old new : WorldModel S) (c : Address) (k : Coordinator) (q : Address) (lq : MemberState S) (kq : Follower) : Type 0 where
    pub after : MemberState S
    pub now : Coordinator
    pub group : Group new c after now
    pub further : Further k now
    pub others : (n : ℕ) → nat_eq c.node n ≡ false → nat_eq q.node n ≡ false → new.node_states n ≡ old.node_states n
    pub runs : RunsAs new q lq (kinds.Follower kq)
    pub covered : (n : ℕ) → n ≤ kq.forwards.sent → Covered q n now.orderer.queues
    pub acked : kq.window.delivered ≤ count_of q now.acks
    pub brief : length new.history.events ≤ length old.history.events + 10

  -- it ticked, and all that it put out by that is for the coordinator
  pub record Ready (old told : WorldModel S) (c : Address) (l : MemberState S) (k : Coordinator) (q : Address) (lq : MemberState S) (kq : Follower) : Type 0 where
    pub runs : RunsAs told q lq (kinds.Follower kq)
    pub others : OthersStand q.node old.node_states told.node_states
    pub group : Group told c l k
    pub few : length kq.forwards.rest ≤ OUTSTANDING
    pub many : length told.history.pool - length old.history.pool ≡ length (told_packets q k.view kq.forwards.rest kq.window.delivered)
    pub sound : EachSound world_group (told_packets q k.view kq.forwards.rest kq.window.delivered)
    pub next : AreNext (length old.history.pool) (told_packets q k.view kq.forwards.rest kq.window.delivered) told.history.pool

  pub ready : (old told : WorldModel S) (c : Address) (l : MemberState S) (k : Coordinator) → Group old c l k → (q : Address) → same_address q c ≡ false → (lq : MemberState S) (kq : Follower) → RunsAs old q lq (kinds.Follower kq)
      → kq.view ≡ k.view → Plays meaning old (Tick q.node) told → Ready old told c l k q lq kq
  ready old told c l k g q other lq kq r same ticks =
      let t = told-by old told q lq kq k.view r same ticks in
      let keeps = KeepOfWorlds.step-keeps meaning laws old told (Tick q.node) ticks.step g.keeps in
      let posted = told_packets q k.view kq.forwards.rest kq.window.delivered in
      record {
        runs = t.runs;
        others = t.others;
        group = Groups.other-moves meaning laws old told c l k g keeps q other lq lq kq kq r t.runs same t.others;
        few = Groups.few-outstanding meaning laws told q lq (kinds.Follower kq) keeps t.runs;
        many = CatchUpLevels.some-more meaning laws told.history.pool old.history.pool posted t.puts;
        sound = t.sound;
        next = subst (AreNext (length old.history.pool) posted) (sym t.puts) (put-next old.history.pool posted);
      }

  pub spoke : (old new : WorldModel S) (c : Address) (l : MemberState S) (k : Coordinator) → Group old c l k → (q : Address) → stands_in q k.view.members ≡ true → same_address q c ≡ false → (lq : MemberState S) (kq : Follower)
      → RunsAs old q lq (kinds.Follower kq) → kq.view ≡ k.view → Speaks meaning q old new → SpokeOnce old new c k q lq kq
  spoke old new c l k g q there other lq kq r same x =
      let t = ready old x.told c l k g q other lq kq r same x.ticks in
      let posted = told_packets q k.view kq.forwards.rest kq.window.delivered in
      let all : Delivers meaning (length old.history.pool) (length posted) x.told new = subst (λ (n : ℕ). Delivers meaning (length old.history.pool) n x.told new) t.many x.heard in
      let y = hear-all c q lq kq other t.few kq.forwards.rest (length old.history.pool) x.told new l k t.group there t.runs same (λ j f at. (j, at)) t.sound t.next all in
      let runs : RunsAs new q lq (kinds.Follower kq) = RepliesPlayed.runs-still meaning x.told q lq (kinds.Follower kq) t.runs new c (Standing.nodes-apart meaning x.told c q l lq t.group.first.stands t.runs.stands other) y.others in
      let there_now : stands_in q y.now.view.members ≡ true = ap (λ (v : View). stands_in q v.members) y.further.view ∙ there in
      let same_now : kq.view ≡ y.now.view = same ∙ sym y.further.view in
      record {
        after = y.after;
        now = y.now;
        group = y.group;
        further = y.further;
        others = λ n a b. y.others n a ∙ t.others n b;
        runs = runs;
        covered = λ n low. covers y.after y.now y.group there_now runs same_now y.covered n
            (subst (λ (m : ℕ). n ≤ m) (sym (Groups.facts-other meaning laws new c y.after y.now y.group q there_now other lq kq runs same_now).count) low);
        acked = y.acked;
        brief = (
            let one = adds meaning old x.told (Tick q.node) x.ticks in
            let more = adds-all meaning (length old.history.pool) (length posted) x.told new all in
            let few = t.few in
            let e : length posted ≡ length kq.forwards.rest + 1 = length-append (map (forward_of q k.view) kq.forwards.rest) _ ∙ ap (λ (n : ℕ). n + 1) (length-map kq.forwards.rest (forward_of q k.view)) in
            omega (arith, one, more, e, few));
      }
    where
      covers : (l : MemberState S) (k : Coordinator) (g : Group new c l k) (there : stands_in q k.view.members ≡ true) (r : RunsAs new q lq (kinds.Follower kq)) (same : kq.view ≡ k.view)
          → ((j : ℕ) (f : Numbered) → slice_get kq.forwards.rest j ≡ Some f → Covered q f.number k.orderer.queues) → (n : ℕ) → n ≤ SentBy new k.view.id q → Covered q n k.orderer.queues
      covers l k g there r same each n low = by (Groups.each-number meaning laws new c l k g q there other lq kq r same n low)
        where
          by : (n ≤ ordered_of k.orderer.queues q) ⊎ ((j : ℕ) × (f : Numbered) × (slice_get kq.forwards.rest j ≡ Some f) × (f.number ≡ n)) → Covered q n k.orderer.queues
          by (inl y) = low-covered q n k.orderer.queues (ap (stands_in q) (Groups.orderly meaning laws new c l k g).0.senders ∙ there) y
          by (inr y) = subst (λ (m : ℕ). Covered q m k.orderer.queues) y.3 (each y.0 y.1 y.2)

  -- ---- all speak

  same-member : (m n : MemberModel S) → Running m ≡ Running n → m ≡ n
  same-member m n e = cc

  pub one-follower : (w : WorldModel S) (q : Address) (l n : MemberState S) (k m : Follower) → RunsAs w q l (kinds.Follower k) → RunsAs w q n (kinds.Follower m) → k ≡ m
  one-follower w q l n k m r s =
      let member = same-member r.stands.member s.stands.member (sym r.stands.node_state ∙ s.stands.node_state) in
      let state : Some l ≡ Some n = sym r.stands.member_state ∙ ap (λ (z : MemberModel S). z.member_state) member ∙ s.stands.member_state in
      same-follower k m (sym r.view_state ∙ ap (λ (z : MemberState S). z.view_state) (same_Some l n state) ∙ s.view_state)

  pub one-state : (w : WorldModel S) (q : Address) (l n : MemberState S) (k m : Follower) → RunsAs w q l (kinds.Follower k) → RunsAs w q n (kinds.Follower m) → l ≡ n
  one-state w q l n k m r s =
      let member = same-member r.stands.member s.stands.member (sym r.stands.node_state ∙ s.stands.node_state) in
      same_Some l n (sym r.stands.member_state ∙ ap (λ (z : MemberModel S). z.member_state) member ∙ s.stands.member_state)

  pub record Spoken (old : WorldModel S) (c : Address) (k0 : Coordinator) (qs : List Address) (w : WorldModel S) : Type 0 where
    pub after : MemberState S
    pub now : Coordinator
    pub group : Group w c after now
    pub further : Further k0 now
    pub stays : (p : Address) (lp : MemberState S) (kp : Follower) → same_address p c ≡ false → RunsAs old p lp (kinds.Follower kp) → RunsAs w p lp (kinds.Follower kp)
    pub covered : (p : Address) (lp : MemberState S) (kp : Follower) → stands_in p qs ≡ true → same_address p c ≡ false → RunsAs old p lp (kinds.Follower kp) → (n : ℕ) → n ≤ kp.forwards.sent → Covered p n now.orderer.queues
    pub acked : (p : Address) (lp : MemberState S) (kp : Follower) → stands_in p qs ≡ true → same_address p c ≡ false → RunsAs old p lp (kinds.Follower kp) → kp.window.delivered ≤ count_of p now.acks
    pub brief : length w.history.events ≤ length old.history.events + 10 * length qs

  spoken-next : (old mid new : WorldModel S) (c : Address) (k0 : Coordinator) (qs : List Address) (q : Address) (b : Bool) → same_address q c ≡ b → stands_in q k0.view.members ≡ true → Spoken old c k0 qs mid
      → MatchBool b (new ≡ mid) (Speaks meaning q mid new) → Spoken old c k0 (qs ++ q ∷ []) new
  spoken-next old mid new c k0 qs q true is there s same = subst (λ (z : WorldModel S). Spoken old c k0 (qs ++ q ∷ []) z) (sym same) (record {
    after = s.after;
    now = s.now;
    group = s.group;
    further = s.further;
    stays = s.stays;
    covered = λ p lp kp in_list other r n low. by p other (before-or-last p q qs in_list) (λ before. s.covered p lp kp before other r n low);
    acked = λ p lp kp in_list other r. by p other (before-or-last p q qs in_list) (λ before. s.acked p lp kp before other r);
    brief = let a = s.brief in let e = length-append qs (q ∷ []) in omega (arith, a, e);
  })
    where
      by : {A : Type 0} (p : Address) → same_address p c ≡ false → (stands_in p qs ≡ true) ⊎ (same_address p q ≡ true) → (stands_in p qs ≡ true → A) → A
      by p other (inl before) f = f before
      by p other (inr e) f = absurd (let bad : true ≡ false = sym is ∙ ap (λ (z : Address). same_address z c) (sym (same_address-true p q e)) ∙ other in cc)
  spoken-next old mid new c k0 qs q false is there s speaks =
      let there_now : stands_in q s.now.view.members ≡ true = ap (λ (v : View). stands_in q v.members) s.further.view ∙ there in
      let a = s.group.others q there_now is in
      let y = spoke mid new c s.after s.now s.group q there_now is a.member_state a.follows a.runs a.view speaks in
      record {
        after = y.after;
        now = y.now;
        group = y.group;
        further = further-then k0 s.now y.now s.further y.further;
        stays = λ p lp kp other r. stay a.member_state a.follows a.runs y p lp kp other (s.stays p lp kp other r) (same_address p q) refl;
        covered = λ p lp kp in_list other r n low. cover a.member_state a.follows a.runs y p lp kp (s.stays p lp kp other r) n low (before-or-last p q qs in_list) (λ before. s.covered p lp kp before other r n low);
        acked = λ p lp kp in_list other r. ack a.member_state a.follows a.runs y p lp kp (s.stays p lp kp other r) (before-or-last p q qs in_list) (λ before. s.acked p lp kp before other r);
        brief = let a = s.brief in let z = y.brief in let e = length-append qs (q ∷ []) in omega (arith, a, z, e);
      }
    where
      stay : (lq : MemberState S) (kq : Follower) → RunsAs mid q lq (kinds.Follower kq) → (y : SpokeOnce mid new c s.now q lq kq) (p : Address) (lp : MemberState S) (kp : Follower) → same_address p c ≡ false → RunsAs mid p lp (kinds.Follower kp)
          → (b : Bool) → same_address p q ≡ b → RunsAs new p lp (kinds.Follower kp)
      stay lq kq rq y p lp kp other r true e =
          let is : p ≡ q = same_address-true p q e in
          let here : RunsAs mid q lp (kinds.Follower kp) = subst (λ (z : Address). RunsAs mid z lp (kinds.Follower kp)) is r in
          let one : kq ≡ kp = one-follower mid q lq lp kq kp rq here in
          let state : lq ≡ lp = one-state mid q lq lp kq kp rq here in
          subst (λ (z : Address). RunsAs new z lp (kinds.Follower kp)) (sym is)
          (subst (λ (z : Follower). RunsAs new q lp (kinds.Follower z)) one (subst (λ (z : MemberState S). RunsAs new q z (kinds.Follower kq)) state y.runs))
      stay lq kq rq y p lp kp other r false e = record {
        stands = record {
          member = r.stands.member;
          node_state = y.others p.node (Standing.nodes-apart meaning mid c p s.after lp s.group.first.stands r.stands other) (Standing.nodes-apart meaning mid q p lq lp rq.stands r.stands e) ∙ r.stands.node_state;
          address = r.stands.address;
          group = r.stands.group;
          member_state = r.stands.member_state;
          connected = r.stands.connected;
        };
        view_state = r.view_state;
        installed = r.installed;
      }

      cover : (lq : MemberState S) (kq : Follower) → RunsAs mid q lq (kinds.Follower kq) → (y : SpokeOnce mid new c s.now q lq kq) (p : Address) (lp : MemberState S) (kp : Follower) → RunsAs mid p lp (kinds.Follower kp)
          → (n : ℕ) → n ≤ kp.forwards.sent → (stands_in p qs ≡ true) ⊎ (same_address p q ≡ true) → (stands_in p qs ≡ true → Covered p n s.now.orderer.queues) → Covered p n y.now.orderer.queues
      cover lq kq rq y p lp kp r n low (inl before) f = y.further.covered p n (f before)
      cover lq kq rq y p lp kp r n low (inr e) f =
          let is : p ≡ q = same_address-true p q e in
          let one : kp ≡ kq = one-follower mid q lp lq kp kq (subst (λ (z : Address). RunsAs mid z lp (kinds.Follower kp)) is r) rq in
          subst (λ (z : Address). Covered z n y.now.orderer.queues) (sym is) (y.covered n (subst (λ (z : Follower). n ≤ z.forwards.sent) one low))

      ack : (lq : MemberState S) (kq : Follower) → RunsAs mid q lq (kinds.Follower kq) → (y : SpokeOnce mid new c s.now q lq kq) (p : Address) (lp : MemberState S) (kp : Follower) → RunsAs mid p lp (kinds.Follower kp)
          → (stands_in p qs ≡ true) ⊎ (same_address p q ≡ true) → (stands_in p qs ≡ true → kp.window.delivered ≤ count_of p s.now.acks) → kp.window.delivered ≤ count_of p y.now.acks
      ack lq kq rq y p lp kp r (inl before) f = let a = f before in let b = y.further.acks p in omega (arith, a, b)
      ack lq kq rq y p lp kp r (inr e) f =
          let is : p ≡ q = same_address-true p q e in
          let one : kp ≡ kq = one-follower mid q lp lq kp kq (subst (λ (z : Address). RunsAs mid z lp (kinds.Follower kp)) is r) rq in
          subst (λ (z : Address). kp.window.delivered ≤ count_of z y.now.acks) (sym is) (subst (λ (z : Follower). z.window.delivered ≤ count_of q y.now.acks) (sym one) y.acked)

  pub all-spoken : (old : WorldModel S) (c : Address) (l : MemberState S) (k : Coordinator) → Group old c l k → (qs : List Address) (new : WorldModel S) → ((q : Address) → stands_in q qs ≡ true → stands_in q k.view.members ≡ true)
      → AllSpeak meaning c old qs new → Spoken old c k qs new
  all-spoken old c l k g _ _ listed NobodySpeaks = record {
    after = l;
    now = k;
    group = g;
    further = still k;
    stays = λ p lp kp other r. r;
    covered = λ p lp kp in_list other r n low. absurd (let bad : false ≡ true = in_list in cc);
    acked = λ p lp kp in_list other r. absurd (let bad : false ≡ true = in_list in cc);
    brief = omega arith;
  }
  all-spoken old c l k g _ new listed (NextSpeaks qs q mid _ before speaks) =
      spoken-next old mid new c k qs q (same_address q c) refl (listed q (at-last q qs)) (all-spoken old c l k g qs mid (λ p there. listed p (in-front p q qs there)) before) speaks
