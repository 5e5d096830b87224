-- A catch-up brings a member level with the coordinator of its view.
use Rattle.std.proofs.Common.{◌≡◌, ℕ, zero, suc, ◌+◌, ◌-◌, ◌<◌, ◌≤◌, Bool, true, false, cond, min, Option, Some, None, List, [], ◌∷◌, ◌++◌, map, drop, length, is_some, nat_eq, nat_lt, inl, inr, ◌⊎◌, refl, sym, ap, ◌∙◌, subst, arith}
use Rattle.std.specs.List.{position_from}
use Rattle.std.specs.Option.{option_map_or}
use Rattle.std.proofs.lemmas.Bool.Decides.{nat_tests}
use Rattle.std.proofs.lemmas.List.{append-nil, length-append, length-map}
use Rattle.std.proofs.Math.Seq.{drop-append_seam}
use Rattle.address.specs.declared.limits.TheConstants.{WINDOW}
use Rattle.address.specs.Ids.{Address, same_address}
use Rattle.view.specs.Members.{View, stands_in}
use Rattle.wire_values.specs.Values.{Entry, Missing, held_at}
use Rattle.state_transfer.specs.Meanings.{Meaning}
use Rattle.sequencer.specs.Forwards.{one_delivered}
use Rattle.nak_stream.specs.Windows.{WindowModel, taken, collected, held_with, held_above, offers}
use Rattle.wire_values.specs.declared.packet.Body.TheVariants as bodies
use Rattle.wire_values.specs.Posted.{Posted, packet}
use Rattle.trace_props.specs.Observed.{delivered_in}
use Rattle.address.proofs.SameIds.{same_address-sym}
use Rattle.law_acts.specs.Cores.{ViewCore}
use Rattle.law_acts.specs.Acts.{others_of}
use Rattle.law_acts.specs.Packets.{HoldsAll}
use Rattle.law_acts.proofs.ActBegins.{others-there}
use Rattle.law_acts.proofs.KeepBySteps
use Rattle.step_output.specs.declared.output.Output.{Output}
use Rattle.step_output.specs.Outputs.{Puts, Grows, spelled}
use Rattle.traffic.specs.declared.coordinator.Coordinator.{Coordinator}
use Rattle.traffic.specs.declared.follower.Follower.{Follower}
use Rattle.traffic.specs.declared.view_state.ViewState.{ViewState}
use Rattle.traffic.specs.declared.view_state.ViewState.TheVariants as kinds
use Rattle.traffic.specs.ViewStates.{coordinator_core, follower_core}
use Rattle.traffic.specs.Followers.{collected_to, held_too}
use Rattle.traffic.specs.Takes.{Asks, AsksUpTo, progress_of, orders_held, DeliversTo}
use Rattle.traffic.specs.Takes.DeliversTo.{Starts, DeliversMore}
use Rattle.membership.specs.declared.member_state.MemberState.{MemberState}
use Rattle.membership.specs.MemberStates.{core_of as core_at, view_core_in}
use Rattle.member_rules.specs.Heard.{is_near}
use Rattle.member_rules.specs.Ordered.{IsOrderly}
use Rattle.world_model.specs.declared.WorldEvent.TheVariants.{Deliver}
use Rattle.world_model.specs.Packets.{world_group, packet_numbered}
use Rattle.world.specs.NodeStates.{bytes_of}
use Rattle.world.specs.Turns.{OthersStand}
use Rattle.world.specs.Invariant.{IsWorld}
use Rattle.world.specs.Worlds.{WorldModel}
use Rattle.world.specs.Pools.{is_destined, first_for}
use Rattle.world.specs.Plays.{lacks_memory, Delivers, DeliversPast}
use Rattle.world.proofs.WindowFills.{MissesWithin, asked-within, filled}
use Rattle.world.proofs.PairsCompared
use Rattle.world.proofs.MembersAtNodes
use Rattle.world.proofs.MembersAsSystem.{runs, system_of}
use Rattle.law_processes.proofs.PostsAreSpelled.{EachSound, bytes_for}
use Rattle.world.proofs.KeepOfWorlds
use Rattle.world.proofs.RepliesPlayed
use Rattle.world.proofs.FirstPackets.{first-found, each-at}
use Rattle.world.proofs.Standing
use Rattle.step_output.specs.Steps.{who}
use Rattle.world.proofs.PoolPackets.{IsSound, put-out, AreNext, put-next, next-rest, next-first}
use Rattle.world.proofs.Deliveries.{delivers-none, delivers-next}

-- ---- what a member keeps while it delivers

delivers-sent : (p : Address) (m n : Follower) (entries : List Entry) → DeliversTo p m entries n → n.forwards.sent ≡ m.forwards.sent
delivers-sent p m _ _ (Starts _) = refl
delivers-sent p m _ _ (DeliversMore _ n entries e so there) = by (same_address e.sender p) ∙ delivers-sent p m n entries so
  where
    by : (b : Bool) → (cond b (one_delivered n.forwards) n.forwards).sent ≡ n.forwards.sent
    by true = refl
    by false = refl

delivers-stable : (p : Address) (m n : Follower) (entries : List Entry) → DeliversTo p m entries n → n.window.stable ≡ m.window.stable
delivers-stable p m _ _ (Starts _) = refl
delivers-stable p m _ _ (DeliversMore _ n entries e so there) = delivers-stable p m n entries so

taken-stable : (g : ℕ) (e : Entry) (w : WindowModel) → (taken g e w).stable ≡ w.stable
taken-stable g e w = by (offers g w)
  where
    by : (b : Bool) → (cond b (record w { held = held_with g e w.held }) w).stable ≡ w.stable
    by true = refl
    by false = refl

collected-up : (t : ℕ) (w : WindowModel) → w.stable ≤ (collected t w).stable
collected-up t w = by (nat_lt w.stable (min t w.delivered)) refl
  where
    by : (b : Bool) → nat_lt w.stable (min t w.delivered) ≡ b → w.stable ≤ (cond b (record { stable = min t w.delivered; delivered = w.delivered; held = held_above (min t w.delivered) w.held }) w).stable
    by true e = let x : w.stable < min t w.delivered = grind (arith, nat_tests) in omega (arith, x)
    by false e = omega arith

-- ---- the two

-- different members run at different nodes
module _ {S : Type 0} (meaning : Meaning S) (laws : KeepBySteps.Laws meaning) where
  abbrev pub RunsAs : WorldModel S → Address → MemberState S → ViewState → Type 0
  RunsAs w p l t = RepliesPlayed.RunsAs meaning w p l t

  pub nodes-apart : (w : WorldModel S) (p q : Address) (l k : MemberState S) (t u : ViewState) → RunsAs w p l t → RunsAs w q k u → same_address q p ≡ false → nat_eq p.node q.node ≡ false
  nodes-apart w p q l k t u x y other = Standing.nodes-apart meaning w p q l k x.stands y.stands other

  -- the coordinator of a view and another member of it
  pub record Couple (w : WorldModel S) (c q : Address) (lc lq : MemberState S) (kc : Coordinator) (kq : Follower) : Type 0 where
    pub keeps : IsWorld meaning w.node_states w.history
    pub first : RunsAs w c lc (kinds.Coordinator kc)
    pub other : RunsAs w q lq (kinds.Follower kq)
    pub own : kc.view.id.creator ≡ c
    pub same : kq.view ≡ kc.view
    pub apart : same_address q c ≡ false

  pub runs-in : (w : WorldModel S) (p : Address) (l : MemberState S) (t : ViewState) → RunsAs w p l t → runs w.node_states p ≡ Some (core_at p l)
  runs-in w p l t r = Standing.runs-in meaning w p l r.stands

  -- how far they have come
  pub record Numbers (w : WorldModel S) (c q : Address) (kc : Coordinator) (kq : Follower) : Type 0 where
    pub stable : kc.window.stable ≤ kq.window.delivered
    pub reach : kc.window.delivered ≤ kc.window.stable + WINDOW
    pub top : kq.window.delivered ≤ kc.window.delivered
    pub holds : HoldsAll kc.window.stable kc.window.delivered kc.window.held
    pub listed : stands_in q kc.view.members ≡ true
    pub coordinator : stands_in c kc.view.members ≡ true
    pub level : kc.window.delivered ≤ kq.window.delivered → delivered_in q kc.view.id w.history.trace ≡ delivered_in c kc.view.id w.history.trace

  pub numbers : (w : WorldModel S) (c q : Address) (lc lq : MemberState S) (kc : Coordinator) (kq : Follower) → Couple w c q lc lq kc kq → Numbers w c q kc kq
  numbers w c q lc lq kc kq x =
      let p = PairsCompared.compared meaning (system_of w.node_states w.history.pool w.history.trace) (MembersAtNodes.agreed meaning laws w.node_states w.history x.keeps).agreed c q (core_at c lc) (core_at q lq) kc.view (record {
        coordinator = runs-in w c lc (kinds.Coordinator kc) x.first;
        member = runs-in w q lq (kinds.Follower kq) x.other;
        own = x.own;
        leads = rw x.first.view_state refl;
        inside = rw x.other.view_state (ap (λ (v : View). Some v) x.same);
      }) in
      let a : view_core_in lc.view_state ≡ coordinator_core kc = rw x.first.view_state refl in
      let b : view_core_in lq.view_state ≡ follower_core kq = rw x.other.view_state refl in
      let s : (view_core_in lc.view_state).stable ≡ kc.window.stable = ap (λ (t : ViewCore). t.stable) a in
      let d : (view_core_in lc.view_state).delivered ≡ kc.window.delivered = ap (λ (t : ViewCore). t.delivered) a in
      let e : (view_core_in lq.view_state).delivered ≡ kq.window.delivered = ap (λ (t : ViewCore). t.delivered) b in
      let stable = p.stable in
      let reach = p.reach in
      let top = p.top in
      record {
        stable = omega (arith, stable, s, e);
        reach = omega (arith, reach, s, d);
        top = omega (arith, top, d, e);
        holds = subst (λ (t : ViewCore). HoldsAll t.stable t.delivered t.held) a p.holds;
        listed = p.listed;
        coordinator = p.coordinator_listed;
        level = λ l. p.level (omega (arith, l, d, e));
      }

  -- the other holds nothing that comes next
  pub none-next : (w : WorldModel S) (c q : Address) (lc lq : MemberState S) (kc : Coordinator) (kq : Follower) → Couple w c q lc lq kc kq → held_at (kq.window.delivered + 1) kq.window.held ≡ None
  none-next w c q lc lq kc kq x =
      let m = x.other.stands.member in
      let k = MembersAtNodes.is-here meaning laws w.node_states w.history q.node m x.keeps x.other.stands.node_state (ap (λ (p : Address). p.node) x.other.stands.address) in
      let o : IsOrderly m.address (kinds.Follower kq) = (k.alive lq x.other.stands.member_state).ordered (kinds.Follower kq) x.other.view_state in
      o.1

  -- ---- the steps

  abbrev pub Keeps : WorldModel S → Type 0
  Keeps w = IsWorld meaning w.node_states w.history

  pub lost : {A B : Type 0} (b : Bool) → b ≡ true → ((b ≡ false) × A) ⊎ ((b ≡ true) × B) → B
  lost b e (inl x) = absurd (let bad : false ≡ true = sym x.0 ∙ e in cc)
  lost b e (inr x) = x.1

  pub sure : {A B : Type 0} (b : Bool) → b ≡ false → ((b ≡ false) × A) ⊎ ((b ≡ true) × B) → A
  sure b e (inl x) = x.1
  sure b e (inr x) = absurd (let bad : true ≡ false = sym x.0 ∙ e in cc)

  -- the coordinator did something, and stays as it was
  pub coordinator-moves : (old new : WorldModel S) (c q : Address) (lc lq : MemberState S) (kc : Coordinator) (kq : Follower) → Couple old c q lc lq kc kq → Keeps new
      → RunsAs new c lc (kinds.Coordinator kc) → OthersStand c.node old.node_states new.node_states → Couple new c q lc lq kc kq
  coordinator-moves old new c q lc lq kc kq x keeps runs others = record {
    keeps = keeps;
    first = runs;
    other = RepliesPlayed.runs-still meaning old q lq (kinds.Follower kq) x.other new c (nodes-apart old c q lc lq (kinds.Coordinator kc) (kinds.Follower kq) x.first x.other x.apart) others;
    own = x.own;
    same = x.same;
    apart = x.apart;
  }

  -- the other did something
  pub other-moves : (old new : WorldModel S) (c q : Address) (lc lq after : MemberState S) (kc : Coordinator) (kq now : Follower) → Couple old c q lc lq kc kq → Keeps new
      → RunsAs new q after (kinds.Follower now) → OthersStand q.node old.node_states new.node_states → now.view ≡ kq.view → Couple new c q lc after kc now
  other-moves old new c q lc lq after kc kq now x keeps runs others view =
      let turned : same_address c q ≡ false = same_address-sym c q ∙ x.apart in
      record {
        keeps = keeps;
        first = RepliesPlayed.runs-still meaning old c lc (kinds.Coordinator kc) x.first new q (nodes-apart old q c lq lc (kinds.Follower kq) (kinds.Coordinator kc) x.other x.first turned) others;
        other = runs;
        own = x.own;
        same = view ∙ x.same;
        apart = x.apart;
      }

  -- ---- the tick, and the STATUS

  pub record AnnouncedSo (old announced : WorldModel S) (c q : Address) (lc lq : MemberState S) (kc : Coordinator) (kq : Follower) : Type 0 where
    pub couple : Couple announced c q lc lq kc kq
    pub others : OthersStand c.node old.node_states announced.node_states
    pub number : ℕ
    pub found : first_for q (length old.history.pool) announced.history.pool ≡ Some number
    pub status : Standing.IsFor meaning announced number q (packet c (bodies.Status kc.view.id (progress_of kc.window)) q)

  pub announced-by : (old announced : WorldModel S) (c q : Address) (lc lq : MemberState S) (kc : Coordinator) (kq : Follower) → Couple old c q lc lq kc kq → Keeps announced
      → RepliesPlayed.Ticked meaning old announced c lc kc → AnnouncedSo old announced c q lc lq kc kq
  announced-by old announced c q lc lq kc kq x keeps t =
      let n = numbers old c q lc lq kc kq x in
      let body = bodies.Status kc.view.id (progress_of kc.window) in
      let posted = map (packet c body) (others_of c kc.view.members) in
      let f = first-found c q body (others_of c kc.view.members) (length old.history.pool + 1) t.sound (others-there c q kc.view.members n.listed x.apart) in
      let rest : drop (length old.history.pool) announced.history.pool ≡ bytes_for world_group posted = ap (drop (length old.history.pool)) t.puts ∙ drop-append_seam old.history.pool (bytes_for world_group posted) in
      record {
        couple = coordinator-moves old announced c q lc lq kc kq x keeps t.runs t.others;
        others = t.others;
        number = length old.history.pool + 1 + f.place;
        found = ap (position_from (is_destined q) (length old.history.pool + 1)) rest ∙ f.found;
        status = record {
          there = ap (packet_numbered (length old.history.pool + 1 + f.place)) t.puts ∙ put-next old.history.pool posted f.place (packet c body q) f.there;
          sound = each-at IsSound posted f.place (packet c body q) t.sound f.there;
          goes = refl;
          other = same_address-sym c q ∙ x.apart;
        };
      }

  near-by : (w : WorldModel S) (c q : Address) (kc : Coordinator) (kq : Follower) → Numbers w c q kc kq → is_near (progress_of kc.window) kq ≡ true
  near-by w c q kc kq n =
      let stable = n.stable in
      let reach = n.reach in
      let a : nat_lt kq.window.delivered kc.window.stable ≡ false = grind (arith, nat_tests) in
      let far : kc.window.delivered - WINDOW ≤ kq.window.delivered = omega (arith, stable, reach) in
      let b : nat_lt kq.window.delivered (kc.window.delivered - WINDOW) ≡ false = grind (arith, nat_tests) in
      rw (a, b) refl

  own-of : (v w : View) (c : Address) → w ≡ v → v.id.creator ≡ c → w.id.creator ≡ c
  own-of v w c same own = ap (λ (z : View). z.id.creator) same ∙ own

  listed-of : (v w : View) (c : Address) → w ≡ v → stands_in c v.members ≡ true → stands_in c w.members ≡ true
  listed-of v w c same there = ap (λ (z : View). stands_in c z.members) same ∙ there

  -- it heard the STATUS
  pub record AskedSo (announced asked : WorldModel S) (c q : Address) (lc : MemberState S) (kc : Coordinator) (kq : Follower) : Type 0 where
    pub after : MemberState S
    pub now : Follower
    pub is : now ≡ collected_to kc.window.stable kq
    pub couple : Couple asked c q lc after kc now
    pub others : OthersStand q.node announced.node_states asked.node_states
    pub start : Output
    pub out : Output
    pub nothing : Puts [] [] start
    pub asks : AsksUpTo (who q world_group) kc.window.delivered now start out
    pub puts : asked.history.pool ≡ announced.history.pool ++ map bytes_of out.packets.items

  pub asked-by : (announced asked : WorldModel S) (c q : Address) (lc lq : MemberState S) (kc : Coordinator) (kq : Follower) → Couple announced c q lc lq kc kq → Keeps asked
      → Standing.Heard meaning announced asked q lq (packet c (bodies.Status kc.view.id (progress_of kc.window)) q) → AskedSo announced asked c q lc kc kq
  asked-by announced asked c q lc lq kc kq x keeps h =
      let n = numbers announced c q lc lq kc kq x in
      let a = progress_of kc.window in
      let r = RepliesPlayed.asked meaning announced asked c q lq kq a x.other (own-of kc.view kq.view c x.same x.own) (listed-of kc.view kq.view c x.same n.coordinator)
      (near-by announced c q kc kq n)
      (subst (λ (v : View). Standing.Heard meaning announced asked q lq (packet c (bodies.Status v.id a) q)) (sym x.same) h) in
      record {
        after = r.after;
        now = r.now;
        is = r.is;
        couple = other-moves announced asked c q lc lq r.after kc kq r.now x keeps r.runs r.others (ap (λ (o : Follower). o.view) r.is);
        others = r.others;
        start = r.start;
        out = r.out;
        nothing = r.nothing;
        asks = r.asks;
        puts = r.puts;
      }

  -- ---- the answers

  pub record Ended (w new : WorldModel S) (c q : Address) (lc : MemberState S) (kc : Coordinator) (kq : Follower) (last : ℕ) : Type 0 where
    pub member_state : MemberState S
    pub now : Follower
    pub couple : Couple new c q lc member_state kc now
    pub within : MissesWithin (last + 1) last kc.window.delivered now.window
    pub sent : now.forwards.sent ≡ kq.forwards.sent
    pub stable : kq.window.stable ≤ now.window.stable
    pub others : OthersStand q.node w.node_states new.node_states

  some-of : (o : Option Entry) → is_some o ≡ true → (e : Entry) × (o ≡ Some e)
  some-of None x = absurd (let bad : false ≡ true = x in cc)
  some-of (Some e) x = (e, refl)

  -- one ORDER is heard
  pub record Round (w mid : WorldModel S) (c q : Address) (lc : MemberState S) (kc : Coordinator) (kq : Follower) (g last : ℕ) : Type 0 where
    pub member_state : MemberState S
    pub now : Follower
    pub couple : Couple mid c q lc member_state kc now
    pub within : MissesWithin (g + 1) last kc.window.delivered now.window
    pub sent : now.forwards.sent ≡ kq.forwards.sent
    pub stable : kq.window.stable ≤ now.window.stable
    pub others : OthersStand q.node w.node_states mid.node_states
    pub more : List (List ℕ)
    pub puts : mid.history.pool ≡ w.history.pool ++ more

  pub round : (w mid : WorldModel S) (c q : Address) (lc lq : MemberState S) (kc : Coordinator) (kq : Follower) (g last : ℕ) (e : Entry) → Couple w c q lc lq kc kq
      → MissesWithin g last kc.window.delivered kq.window → g ≤ kc.window.delivered → IsSound (packet c (bodies.Order kc.view.id g e) q) → Keeps mid
      → Standing.Heard meaning w mid q lq (packet c (bodies.Order kc.view.id g e) q) → Round w mid c q lc kc kq g last
  round w mid c q lc lq kc kq g last e x within known sound keeps h =
      let n = numbers w c q lc lq kc kq x in
      let stable = n.stable in
      let reach = n.reach in
      let far : g - WINDOW ≤ kq.window.delivered = omega (arith, stable, reach, known) in
      let near : nat_lt kq.window.delivered (g - WINDOW) ≡ false = grind (arith, nat_tests) in
      let r = RepliesPlayed.ordered meaning w mid c q lq kq g e x.other (own-of kc.view kq.view c x.same x.own) (listed-of kc.view kq.view c x.same n.coordinator) near
      (subst (λ (v : View). Standing.Heard meaning w mid q lq (packet c (bodies.Order v.id g e) q)) (sym x.same) h) in
      let start = held_too g e (collected_to (g - WINDOW) kq) in
      let up = collected-up (g - WINDOW) kq.window in
      let on = delivers-stable q start r.now r.takes.delivers.entries r.takes.delivers.delivers in
      let kept = taken-stable g e (collected (g - WINDOW) kq.window) in
      record {
        member_state = r.after;
        now = r.now;
        couple = other-moves w mid c q lc lq r.after kc kq r.now x keeps r.runs r.others r.takes.delivers.view;
        within = filled q g last kc.window.delivered e kq start r.now r.takes.delivers.entries sound.body.1.1 far refl r.takes.delivers.delivers within;
        sent = delivers-sent q start r.now r.takes.delivers.entries r.takes.delivers.delivers;
        stable = omega (arith, up, on, kept);
        others = r.others;
        more = map bytes_of r.out.packets.items;
        puts = r.puts;
      }

  abbrev pub orders : Address → Address → Coordinator → ℕ → ℕ → List Posted
  orders c q kc g n = orders_held c kc.view q kc.window.held g n

  pub record OrderAt (c q : Address) (kc : Coordinator) (n g : ℕ) : Type 0 where
    pub entry : Entry
    pub is : orders c q kc g (suc n) ≡ packet c (bodies.Order kc.view.id g entry) q ∷ orders c q kc (g + 1) n

  -- the next answer is the ORDER of the next number
  pub order-at : (w : WorldModel S) (c q : Address) (lc lq : MemberState S) (kc : Coordinator) (kq : Follower) (n g last : ℕ) → Couple w c q lc lq kc kq → g + suc n ≡ last + 1 → kc.window.stable < g
      → last ≤ kc.window.delivered → OrderAt c q kc n g
  order-at w c q lc lq kc kq n g last x count low high =
      let known : g ≤ kc.window.delivered = omega (arith, count, high) in
      let e = some-of (held_at g kc.window.held) ((numbers w c q lc lq kc kq x).holds g low known) in
      record {
        entry = e.0;
        is = ap (λ (o : Option Entry). option_map_or (λ y. packet c (bodies.Order kc.view.id g y) q ∷ []) o [] ++ orders c q kc (g + 1) n) e.1;
      }

  pub rounds : (n g past : ℕ) (w new : WorldModel S) (c q : Address) (lc lq : MemberState S) (kc : Coordinator) (kq : Follower) (last : ℕ) → Couple w c q lc lq kc kq
      → MissesWithin g last kc.window.delivered kq.window → g + n ≡ last + 1 → kc.window.stable < g → last ≤ kc.window.delivered → EachSound world_group (orders c q kc g n)
      → AreNext past (orders c q kc g n) w.history.pool → Delivers meaning past (length (orders c q kc g n)) w new → Ended w new c q lc kc kq last
  rounds zero g past w new c q lc lq kc kq last x within count low high sound next all =
      let is : new ≡ w = delivers-none meaning past 0 w new refl all in
      let end : g ≡ last + 1 = omega (arith, count) in
      record {
        member_state = lq;
        now = kq;
        couple = subst (λ (v : WorldModel S). Couple v c q lc lq kc kq) (sym is) x;
        within = subst (λ (k : ℕ). MissesWithin k last kc.window.delivered kq.window) end within;
        sent = refl;
        stable = omega arith;
        others = λ m apart. ap (λ (v : WorldModel S). v.node_states m) is;
      }
  rounds (suc n) g past w new c q lc lq kc kq last x within count low high sound next all =
      let known : g ≤ kc.window.delivered = omega (arith, count, high) in
      let o = order-at w c q lc lq kc kq n g last x count low high in
      let m = packet c (bodies.Order kc.view.id g o.entry) q in
      let rest = orders c q kc (g + 1) n in
      let sounds : EachSound world_group (m ∷ rest) = subst (EachSound world_group) o.is sound in
      let nexts : AreNext past (m ∷ rest) w.history.pool = subst (λ (l : List Posted). AreNext past l w.history.pool) o.is next in
      let d = delivers-next meaning past (length (m ∷ rest)) (length rest) w new refl
      (subst (λ (l : List Posted). Delivers meaning past (length l) w new) o.is all) in
      let f : Standing.IsFor meaning w (past + 1) q m =
      record { there = next-first past m rest w.history.pool nexts; sound = sounds.0; goes = refl; other = same_address-sym c q ∙ x.apart } in
      let h = sure (lacks_memory d.plays.step.answer) d.plays.whole (Standing.heard meaning laws w d.mid x.keeps (past + 1) q lq x.other.stands m f d.plays.step) in
      let keeps = KeepOfWorlds.step-keeps meaning laws w d.mid (Deliver (past + 1)) d.plays.step x.keeps in
      let r = round w d.mid c q lc lq kc kq g last o.entry x within known sounds.0 keeps h in
      let y = rounds n (g + 1) (past + 1) d.mid new c q lc r.member_state kc r.now last r.couple r.within (omega (arith, count)) (omega (arith, low)) high sounds.1
      (subst (AreNext (past + 1) rest) (sym r.puts) (next-rest past m rest w.history.pool r.more nexts)) d.rest in
      let up = y.stable in
      let before = r.stable in
      record {
        member_state = y.member_state;
        now = y.now;
        couple = y.couple;
        within = y.within;
        sent = y.sent ∙ r.sent;
        stable = omega (arith, up, before);
        others = λ j apart. y.others j apart ∙ r.others j apart;
      }

  -- ---- the whole

  pub no-more : (xs ys : List (List ℕ)) → xs ≡ ys → length xs - length ys ≡ 0
  no-more xs ys e = let l : length xs ≡ length ys = ap length e in omega (arith, l)

  pub some-more : (xs ys : List (List ℕ)) (posted : List Posted) → xs ≡ ys ++ bytes_for world_group posted → length xs - length ys ≡ length posted
  some-more xs ys posted e =
      let l : length xs ≡ length ys + length (bytes_for world_group posted) = ap length e ∙ length-append ys (bytes_for world_group posted) in
      let m : length (bytes_for world_group posted) ≡ length posted = length-map (map (spelled world_group) posted) bytes_of ∙ length-map posted (spelled world_group) in
      omega (arith, l, m)

  -- the NAK that it put out, if it asks
  pub record Nak (announced asked : WorldModel S) (c q : Address) (lc : MemberState S) (kc : Coordinator) (missing : Missing) : Type 0 where
    pub many : length asked.history.pool - length announced.history.pool ≡ 1
    pub packet : Standing.IsFor meaning asked (length announced.history.pool + 1) c (packet q (bodies.Nak kc.view.id missing) c)

  module _ (announced asked : WorldModel S) (c q : Address) (lc : MemberState S) (kc : Coordinator) (kq : Follower) (s : AskedSo announced asked c q lc kc kq) where
    pub silent-pool : s.out ≡ s.start → asked.history.pool ≡ announced.history.pool
    silent-pool silent =
        s.puts ∙ ap (λ (l : List _). announced.history.pool ++ map bytes_of l) (ap (λ (o : Output). o.packets.items) silent ∙ s.nothing.packets) ∙ append-nil announced.history.pool

    pub nak-of : (k : Asks (who q world_group) kc.window.delivered s.now s.start s.out) → Nak announced asked c q lc kc k.missing
    nak-of k =
        let nak = packet q (bodies.Nak kc.view.id k.missing) c in
        let is : packet q (bodies.Nak s.now.view.id k.missing) s.now.view.id.creator ≡ nak =
        ap (λ (v : View). packet q (bodies.Nak v.id k.missing) v.id.creator) s.couple.same ∙ ap (packet q (bodies.Nak kc.view.id k.missing)) s.couple.own in
        let grows : Grows world_group s.start s.out (nak ∷ []) [] = subst (λ (m : Posted). Grows world_group s.start s.out (m ∷ []) []) is k.grows in
        let pool : asked.history.pool ≡ announced.history.pool ++ bytes_for world_group (nak ∷ []) =
        s.puts ∙ ap (λ (ps : List (List ℕ)). announced.history.pool ++ ps) (put-out s.start s.out s.nothing (nak ∷ []) [] grows) in
        let next : AreNext (length announced.history.pool) (nak ∷ []) asked.history.pool = subst (AreNext (length announced.history.pool) (nak ∷ [])) (sym pool) (put-next announced.history.pool (nak ∷ [])) in
        record {
          many = some-more asked.history.pool announced.history.pool (nak ∷ []) pool;
          packet = record { there = next-first (length announced.history.pool) nak [] asked.history.pool next; sound = grows.sound.0; goes = refl; other = s.couple.apart };
        }

  module _ (announced asked replied : WorldModel S) (c q : Address) (lc : MemberState S) (kc : Coordinator) (kq : Follower) (s : AskedSo announced asked c q lc kc kq)
      (asks : DeliversPast meaning (length announced.history.pool) asked replied) where
    -- nothing was missing, and nothing is asked
    pub none-asked : s.out ≡ s.start → replied ≡ asked
    none-asked silent =
        delivers-none meaning (length announced.history.pool) (length asked.history.pool - length announced.history.pool) asked replied
        (no-more asked.history.pool announced.history.pool (silent-pool announced asked c q lc kc kq s silent)) asks

    -- or it asked, and was answered by the ORDERs of all that it misses
    pub record Replied : Type 0 where
      pub first : ℕ
      pub last : ℕ
      pub couple : Couple replied c q lc s.after kc s.now
      pub others : OthersStand c.node asked.node_states replied.node_states
      pub within : MissesWithin first last kc.window.delivered s.now.window
      pub count : first + (last + 1 - first) ≡ last + 1
      pub low : kc.window.stable < first
      pub high : last ≤ kc.window.delivered
      pub sound : EachSound world_group (orders c q kc first (last + 1 - first))
      pub next : AreNext (length asked.history.pool) (orders c q kc first (last + 1 - first)) replied.history.pool
      pub many : length replied.history.pool - length asked.history.pool ≡ length (orders c q kc first (last + 1 - first))

    pub replied-so : (k : Asks (who q world_group) kc.window.delivered s.now s.start s.out) → Replied
    replied-so k =
        let n = numbers asked c q lc s.after kc s.now s.couple in
        let nak = nak-of announced asked c q lc kc kq s k in
        let d = delivers-next meaning (length announced.history.pool) (length asked.history.pool - length announced.history.pool) 0 asked replied nak.many asks in
        let mid : replied ≡ d.mid = delivers-none meaning (length announced.history.pool + 1) 0 d.mid replied refl d.rest in
        let h = sure (lacks_memory d.plays.step.answer) d.plays.whole
        (Standing.heard meaning laws asked d.mid s.couple.keeps (length announced.history.pool + 1) c lc s.couple.first.stands _ nak.packet d.plays.step) in
        let keeps = KeepOfWorlds.step-keeps meaning laws asked d.mid (Deliver (length announced.history.pool + 1)) d.plays.step s.couple.keeps in
        let r = RepliesPlayed.answered meaning asked d.mid c q lc kc k.missing s.couple.first n.listed h in
        let first = k.missing.first in
        let last = k.missing.last in
        let list = orders c q kc first (last + 1 - first) in
        let low : s.now.window.delivered < first = k.least.missing.undelivered in
        let rising : first ≤ last = k.least.least last k.greatest.missing in
        let stable = n.stable in
        record {
          first = first;
          last = last;
          couple = subst (λ (w : WorldModel S). Couple w c q lc s.after kc s.now) (sym mid) (coordinator-moves asked d.mid c q lc s.after kc s.now s.couple keeps r.runs r.others);
          others = λ n apart. ap (λ (w : WorldModel S). w.node_states n) mid ∙ r.others n apart;
          within = asked-within s.now.window kc.window.delivered first last k.least k.greatest;
          count = omega (arith, rising);
          low = omega (arith, low, stable);
          high = k.greatest.missing.known;
          sound = r.sound;
          next = subst (λ (w : WorldModel S). AreNext (length asked.history.pool) list w.history.pool) (sym mid)
              (subst (AreNext (length asked.history.pool) list) (sym r.puts) (put-next asked.history.pool list));
          many = some-more replied.history.pool asked.history.pool list (ap (λ (w : WorldModel S). w.history.pool) mid ∙ r.puts);
        }
