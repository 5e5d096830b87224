-- The first stages of a settling: a tick of the proposal's creator, and a delivery of each FLUSH. Then each of the list has promised the proposal, and a
-- REPORT of each who had not reported has been put out, in the order of the list.
use Rattle.std.proofs.Common.{◌≡◌, ℕ, suc, ◌+◌, Bool, true, false, not, Option, Some, List, [], ◌∷◌, ◌++◌, map, length, is_some, nat_eq, inl, inr, ◌⊎◌, refl, sym, ap, ◌∙◌, subst, append_assoc}
use Rattle.std.specs.Prelude.{◌||◌, MatchBool}
use Rattle.std.specs.List.{AllByRecursion}
use Rattle.std.specs.Option.{option_map_or}
use Rattle.std.proofs.lemmas.List.{append-nil}
use Rattle.std.proofs.lemmas.Bool.{and_parts, not-true}
use Rattle.address.specs.Ids.{Address, ViewId, same_address}
use Rattle.address.proofs.SameIds.{same_address-refl, same_address-true, same_address-sym}
use Rattle.view.specs.Members.{View, stands_in, is_distinct}
use Rattle.wire_values.specs.Values.{Report}
use Rattle.wire_values.specs.declared.packet.Body.TheVariants as bodies
use Rattle.wire_values.specs.Posted.{Posted, packet}
use Rattle.state_transfer.specs.Meanings.{Meaning}
use Rattle.flush.specs.Flushes.{FlushModel}
use Rattle.view_install.specs.Promises.{offered, is_accept}
use Rattle.law_acts.specs.Acts.{proposed}
use Rattle.law_acts.proofs.KeepBySteps
use Rattle.step_output.specs.declared.output.Output.{Output}
use Rattle.step_output.specs.Outputs.{Grows}
use Rattle.step_output.specs.Steps.{who}
use Rattle.membership.specs.InSteps.{in_step}
use Rattle.membership.specs.declared.member_state.MemberState.{MemberState}
use Rattle.membership.specs.MemberStates.{report_in, blocked_by}
use Rattle.member_rules.specs.Views.{OnFlush, flushes_again, proposes_again, reports_again}
use Rattle.member.specs.Doing.{Ticks}
use Rattle.world_model.specs.declared.WorldEvent.TheVariants.{Deliver}
use Rattle.world_model.specs.Packets.{world_group}
use Rattle.world.specs.Turns.{OthersStand}
use Rattle.world.specs.Invariant.{IsWorld}
use Rattle.world.specs.Worlds.{WorldModel}
use Rattle.world.specs.Plays.{lacks_memory, Plays, Delivers}
use Rattle.law_processes.proofs.PostsAreSpelled.{EachSound, bytes_for}
use Rattle.world.proofs.InputsTaken.{when-true, when-false}
use Rattle.world.proofs.KeepOfWorlds
use Rattle.world.proofs.PoolPackets.{put-out, AreNext, next-first, next-rest}
use Rattle.world.proofs.Deliveries.{delivers-none, delivers-next}
use Rattle.world.proofs.RulesByPacket
use Rattle.world.proofs.Standing
use Rattle.world.proofs.Standing.{Stands}

-- what was put out by one who reported
abbrev pub report_packet : Address → ViewId → Address × Report → Posted
report_packet c w x = packet x.0 (bodies.Report w x.1) c

-- no other than the last of these has happened
pub sure : {A B : Type 0} (b : Bool) → b ≡ false → ((b ≡ false) × A) ⊎ ((b ≡ true) × B) → A
sure b e (inl x) = x.1
sure b e (inr x) = absurd (let n : true ≡ false = sym x.0 ∙ e in cc)

module _ {S : Type 0} (meaning : Meaning S) (laws : KeepBySteps.Laws meaning) where
  abbrev pub Keeps : WorldModel S → Type 0
  Keeps w = IsWorld meaning w.node_states w.history

  -- one of the list runs, and would accept the proposal
  pub record Accepts (w : WorldModel S) (v : View) (q : Address) : Type 0 where
    pub member_state : MemberState S
    pub stands : Stands meaning w q member_state
    pub accepts : is_accept (offered v member_state.promise) ≡ true

  -- it runs, has promised it and did not install it
  pub record Awaits (w : WorldModel S) (v : View) (q : Address) : Type 0 where
    pub member_state : MemberState S
    pub stands : Stands meaning w q member_state
    pub promise : member_state.promise.proposal ≡ Some v
    pub waits : member_state.promise.is_installed ≡ false

  -- each other of the list runs; who has yet to promise would accept, and the others have promised
  abbrev pub Follows : WorldModel S → Address → View → List Address → Address → Type 0
  Follows w c v rest q = stands_in q v.members ≡ true → same_address q c ≡ false → MatchBool (stands_in q rest) (Accepts w v q) (Awaits w v q)

  pub record Flushes (w : WorldModel S) (c : Address) (l : MemberState S) (f : FlushModel) (rest : List Address) : Type 0 where
    pub keeps : Keeps w
    pub stands : Stands meaning w c l
    pub flush : l.flush ≡ Some f
    pub follows : (q : Address) → Follows w c (proposed f) rest q

  -- what another's step leaves of one
  pub accepts-still : (w new : WorldModel S) (v : View) (p q : Address) → Accepts w v q → nat_eq p.node q.node ≡ false → OthersStand p.node w.node_states new.node_states → Accepts new v q
  accepts-still w new v p q x apart others = record { member_state = x.member_state; stands = Standing.stands-still meaning w q x.member_state x.stands new p apart others; accepts = x.accepts }

  pub awaits-still : (w new : WorldModel S) (v : View) (p q : Address) → Awaits w v q → nat_eq p.node q.node ≡ false → OthersStand p.node w.node_states new.node_states → Awaits new v q
  awaits-still w new v p q x apart others =
      record { member_state = x.member_state; stands = Standing.stands-still meaning w q x.member_state x.stands new p apart others; promise = x.promise; waits = x.waits }

  -- ---- the tick

  pub record Announced (old new : WorldModel S) (c : Address) (l : MemberState S) (f : FlushModel) : Type 0 where
    pub stands : Stands meaning new c l
    pub others : OthersStand c.node old.node_states new.node_states
    pub puts : new.history.pool ≡ old.history.pool ++ bytes_for world_group (proposes_again c f)
    pub sound : EachSound world_group (proposes_again c f)

  tick-grows : (c : Address) (l : MemberState S) (f : FlushModel) (start out : Output) → is_some l.view_state ≡ true → l.promise.is_installed ≡ false → l.flush ≡ Some f
      → Ticks (who c world_group) (in_step l start) out → Grows world_group start out (proposes_again c f) []
  tick-grows c l f start out inside waits flush x =
      let a = when-true (is_some l.view_state) _ _ inside x in
      let b : Grows world_group start out (flushes_again c l) [] = when-false l.promise.is_installed _ _ waits a in
      subst (λ (o : Option FlushModel). Grows world_group start out (option_map_or (proposes_again c) o (reports_again c l)) []) flush b

  pub announced : (old new : WorldModel S) (c : Address) (l : MemberState S) (f : FlushModel) → Stands meaning old c l → is_some l.view_state ≡ true → l.promise.is_installed ≡ false → l.flush ≡ Some f
      → Standing.Ticked meaning old new c l → Announced old new c l f
  announced old new c l f r inside waits flush x =
      let g = tick-grows c l f x.start x.out inside waits flush x.ticks in
      record {
        stands = x.stands;
        others = x.others;
        puts = x.puts ∙ ap (λ (ps : List (List ℕ)). old.history.pool ++ ps) (put-out x.start x.out x.nothing (proposes_again c f) [] g);
        sound = g.sound;
      }

  -- ---- a FLUSH

  pub record Answered (old new : WorldModel S) (c q : Address) (v : View) : Type 0 where
    pub awaits : Awaits new v q
    pub report : Report
    pub others : OthersStand q.node old.node_states new.node_states
    pub puts : new.history.pool ≡ old.history.pool ++ bytes_for world_group (report_packet c v.id (q, report) ∷ [])
    pub sound : EachSound world_group (report_packet c v.id (q, report) ∷ [])

  -- who would accept a proposal promises it by its FLUSH, and answers with a REPORT to its creator
  pub answered : (old new : WorldModel S) (c q : Address) (v : View) (x : Accepts old v q) → v.id.creator ≡ c → Standing.Heard meaning old new q x.member_state (packet c (bodies.Flush v) q) → Answered old new c q v
  answered old new c q v x own h =
      let l = x.member_state in
      let rule : OnFlush (who q world_group) c v (in_step l h.start) (in_step h.after h.out) = h.hears in
      let p = RulesByPacket.flush-promises meaning (who q world_group) c v (in_step l h.start) (in_step h.after h.out) (ap (λ (a : Address). same_address a c) own ∙ same_address-refl c) x.accepts rule in
      let r = report_in l in
      let g : Grows world_group h.start h.out (report_packet c v.id (q, r) ∷ []) (blocked_by q l) =
      subst (λ (a : Address). Grows world_group h.start h.out (packet q (bodies.Report v.id r) a ∷ []) (blocked_by q l)) own p.grows in
      record {
        awaits = record {
          member_state = h.after;
          stands = h.stands;
          promise = ap (λ (z : MemberState S). z.promise.proposal) p.member_state;
          waits = ap (λ (z : MemberState S). z.promise.is_installed) p.member_state;
        };
        report = r;
        others = h.others;
        puts = h.puts ∙ ap (λ (ps : List (List ℕ)). old.history.pool ++ ps) (put-out h.start h.out h.nothing (report_packet c v.id (q, r) ∷ []) (blocked_by q l) g);
        sound = g.sound;
      }

  -- ---- all of them

  pub match-map : {A B C D : Type 0} (b : Bool) → MatchBool b A B → (A → C) → (B → D) → MatchBool b C D
  match-map true x f g = f x
  match-map false x f g = g x

  abbrev pub flush_packets : Address → View → List Address → List Posted
  flush_packets c v qs = map (packet c (bodies.Flush v)) qs

  abbrev pub report_packets : Address → ViewId → List (Address × Report) → List Posted
  report_packets c w reports = map (report_packet c w) reports

  -- members of the list, other than its creator
  abbrev pub AreOthers : Address → View → List Address → Type 0
  AreOthers c v qs = AllByRecursion (λ q. (stands_in q v.members ≡ true) × (same_address q c ≡ false)) qs

  pub record AllAnswered (w new : WorldModel S) (c : Address) (l : MemberState S) (f : FlushModel) (qs : List Address) : Type 0 where
    pub reports : List (Address × Report)
    pub whose : map (λ x. x.0) reports ≡ qs
    pub flushes : Flushes new c l f []
    pub puts : new.history.pool ≡ w.history.pool ++ bytes_for world_group (report_packets c f.proposal reports)
    pub sound : EachSound world_group (report_packets c f.proposal reports)

  next-follows : (w mid : WorldModel S) (c : Address) (l k : MemberState S) (f : FlushModel) (q : Address) (qs : List Address) → Flushes w c l f (q ∷ qs) → stands_in q qs ≡ false
      → Stands meaning w q k → Awaits mid (proposed f) q → OthersStand q.node w.node_states mid.node_states → (p : Address) → Follows mid c (proposed f) qs p
  next-follows w mid c l k f q qs x alone here done others p listed other = by (same_address p q) refl (x.follows p listed other)
    where
      apart : (m : MemberState S) → Stands meaning w p m → same_address p q ≡ false → nat_eq q.node p.node ≡ false
      apart m there e = Standing.nodes-apart meaning w q p k m here there e

      by : (b : Bool) → same_address p q ≡ b → MatchBool (b || stands_in p qs) (Accepts w (proposed f) p) (Awaits w (proposed f) p) → MatchBool (stands_in p qs) (Accepts mid (proposed f) p) (Awaits mid (proposed f) p)
      by true e _ =
          let is : q ≡ p = sym (same_address-true p q e) in
          let none : stands_in p qs ≡ false = ap (λ (z : Address). stands_in z qs) (sym is) ∙ alone in
          subst (λ (b : Bool). MatchBool b (Accepts mid (proposed f) p) (Awaits mid (proposed f) p)) (sym none) (subst (Awaits mid (proposed f)) is done)
      by false e y =
          match-map (stands_in p qs) y (λ z. accepts-still w mid (proposed f) q p z (apart z.member_state z.stands e) others)
          (λ z. awaits-still w mid (proposed f) q p z (apart z.member_state z.stands e) others)

  pub first-of : (A B : Type 0) (q : Address) (qs : List Address) → MatchBool (same_address q q || stands_in q qs) A B → A
  first-of A B q qs x = subst (λ (b : Bool). MatchBool (b || stands_in q qs) A B) (same_address-refl q) x

  -- the first of them
  pub flush-for : (w : WorldModel S) (past : ℕ) (c q : Address) (v : View) (qs : List Address) → AreOthers c v (q ∷ qs) → EachSound world_group (flush_packets c v (q ∷ qs))
      → AreNext past (flush_packets c v (q ∷ qs)) w.history.pool → Standing.IsFor meaning w (past + 1) q (packet c (bodies.Flush v) q)
  flush-for w past c q v qs listed sound next =
      record { there = next-first past (packet c (bodies.Flush v) q) (flush_packets c v qs) w.history.pool next; sound = sound.0; goes = refl; other = same_address-sym c q ∙ listed.0.1 }

  pub record FirstAnswered (w mid : WorldModel S) (c : Address) (l : MemberState S) (f : FlushModel) (past : ℕ) (q : Address) (qs : List Address) : Type 0 where
    pub report : Report
    pub flushes : Flushes mid c l f qs
    pub puts : mid.history.pool ≡ w.history.pool ++ bytes_for world_group (report_packet c f.proposal (q, report) ∷ [])
    pub sound : EachSound world_group (report_packet c f.proposal (q, report) ∷ [])
    pub next : AreNext (past + 1) (flush_packets c (proposed f) qs) mid.history.pool

  pub first-answered : (q : Address) (qs : List Address) (past : ℕ) (w mid : WorldModel S) (c : Address) (l : MemberState S) (f : FlushModel) → Flushes w c l f (q ∷ qs) → f.proposal.creator ≡ c
      → is_distinct (q ∷ qs) ≡ true → AreOthers c (proposed f) (q ∷ qs) → EachSound world_group (flush_packets c (proposed f) (q ∷ qs))
      → AreNext past (flush_packets c (proposed f) (q ∷ qs)) w.history.pool → Plays meaning w (Deliver (past + 1)) mid → FirstAnswered w mid c l f past q qs
  first-answered q qs past w mid c l f x own distinct listed sound next plays =
      let v = proposed f in
      let m = packet c (bodies.Flush v) q in
      let a : Accepts w v q = first-of _ _ q qs (x.follows q listed.0.0 listed.0.1) in
      let to = flush-for w past c q v qs listed sound next in
      let h = sure (lacks_memory plays.step.answer) plays.whole (Standing.heard meaning laws w mid x.keeps (past + 1) q a.member_state a.stands m to plays.step) in
      let y = answered w mid c q v a own h in
      let apart = Standing.nodes-apart meaning w q c a.member_state l a.stands x.stands (same_address-sym c q ∙ listed.0.1) in
      let alone = not-true (stands_in q qs) (and_parts (not (stands_in q qs)) (is_distinct qs) distinct).0 in
      record {
        report = y.report;
        flushes = record {
          keeps = KeepOfWorlds.step-keeps meaning laws w mid (Deliver (past + 1)) plays.step x.keeps;
          stands = Standing.stands-still meaning w c l x.stands mid q apart y.others;
          flush = x.flush;
          follows = next-follows w mid c l a.member_state f q qs x alone a.stands y.awaits y.others;
        };
        puts = y.puts;
        sound = y.sound;
        next = subst (AreNext (past + 1) (flush_packets c v qs)) (sym y.puts) (next-rest past m (flush_packets c v qs) w.history.pool (bytes_for world_group (report_packet c v.id (q, y.report) ∷ [])) next);
      }

  pub all-answer : (qs : List Address) (past : ℕ) (w new : WorldModel S) (c : Address) (l : MemberState S) (f : FlushModel) → Flushes w c l f qs → f.proposal.creator ≡ c → is_distinct qs ≡ true
      → AreOthers c (proposed f) qs → EachSound world_group (flush_packets c (proposed f) qs) → AreNext past (flush_packets c (proposed f) qs) w.history.pool
      → Delivers meaning past (length (flush_packets c (proposed f) qs)) w new → AllAnswered w new c l f qs
  all-answer [] past w new c l f x own distinct listed sound next all =
      let is : new ≡ w = delivers-none meaning past 0 w new refl all in
      record {
        reports = [];
        whose = refl;
        flushes = subst (λ (z : WorldModel S). Flushes z c l f []) (sym is) x;
        puts = ap (λ (z : WorldModel S). z.history.pool) is ∙ sym (append-nil w.history.pool);
        sound = tt;
      }
  all-answer (q ∷ qs) past w new c l f x own distinct listed sound next all =
      let rest = flush_packets c (proposed f) qs in
      let d = delivers-next meaning past (suc (length rest)) (length rest) w new refl all in
      let y = first-answered q qs past w d.mid c l f x own distinct listed sound next d.plays in
      let one = report_packet c f.proposal (q, y.report) in
      let r = all-answer qs (past + 1) d.mid new c l f y.flushes own (and_parts (not (stands_in q qs)) (is_distinct qs) distinct).1 listed.1 sound.1 y.next d.rest in
      record {
        reports = (q, y.report) ∷ r.reports;
        whose = ap (λ (z : List Address). q ∷ z) r.whose;
        flushes = r.flushes;
        puts = r.puts ∙ ap (λ (z : List (List ℕ)). z ++ bytes_for world_group (report_packets c f.proposal r.reports)) y.puts
            ∙ append_assoc w.history.pool (bytes_for world_group (one ∷ [])) (bytes_for world_group (report_packets c f.proposal r.reports));
        sound = (y.sound.0, r.sound);
      }
