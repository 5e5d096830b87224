-- A round: a tick of a member whose flush is behind, a delivery of the FLUSH for one that has promised a greater proposal, and of the BEHIND that answers it;
-- so the flush is begun anew past that promise.
use Rattle.std.proofs.Common.{◌≡◌, ℕ, ◌+◌, ◌<◌, max, Bool, true, false, cond, not, Option, Some, None, List, [], ◌∷◌, ◌++◌, map, filter, drop, length, is_some, nat_eq, nat_lt, refl, sym, ap, ◌∙◌, subst, arith, length-append}
use Rattle.std.specs.Prelude.{◌&&◌, ◌||◌, MatchBool, MatchOption, if◌then◌else◌}
use Rattle.std.specs.List.{position_from}
use Rattle.std.specs.Ordering.{nat_cmp}
use Rattle.std.specs.declared.cmp.Ordering.{Ordering}
use Rattle.std.specs.declared.cmp.Ordering.TheVariants.{Less, Equal, Greater}
use Rattle.std.specs.Option.{option_map, option_map_or, option_and_then}
use Rattle.std.proofs.lemmas.Bool.{and_from, and_parts, eqb-true, not-true}
use Rattle.std.proofs.lemmas.Bool.Decides.{nat_tests}
use Rattle.std.proofs.lemmas.Option.{none-some, same_Some, cond_some, option_and_then_some}
use Rattle.std.proofs.Math.Seq.{drop-append_seam}
use Rattle.address.specs.Ids.{Address, ViewId, same_address, view_id_cmp}
use Rattle.address.proofs.SameIds.{same_address-refl, same_address-sym, same_address-true}
use Rattle.address.specs.declared.limits.TheConstants.{GREATEST_NUMBER}
use Rattle.view.specs.Members.{View, stands_in}
use Rattle.view.proofs.MembersListed.{all-by}
use Rattle.next_view.specs.ViewNotes.{having_heard}
use Rattle.next_view.specs.Candidates.{candidates, next_counter}
use Rattle.wire_values.specs.Values.{Report}
use Rattle.wire_values.specs.declared.packet.Body.TheVariants as bodies
use Rattle.wire_values.specs.Posted.{packet}
use Rattle.state_transfer.specs.Meanings.{Meaning}
use Rattle.flush.specs.Flushes.{FlushModel, has_reported, is_awaited}
use Rattle.view_install.specs.Promises.{PromiseModel, answer_past, offered, is_accept, promising}
use Rattle.view_install.specs.declared.promise.OfferAnswer.TheVariants.{Accept, Ignore}
use Rattle.law_acts.specs.Acts.{proposed}
use Rattle.law_acts.specs.Decisions.{proposal_after, promised_counter}
use Rattle.law_acts.proofs.KeepBySteps
use Rattle.step_output.specs.Outputs.{Grows}
use Rattle.step_output.specs.Steps.{who}
use Rattle.membership.specs.InSteps.{InStep, in_step}
use Rattle.membership.specs.declared.member_state.MemberState.{MemberState}
use Rattle.membership.specs.MemberStates.{core_of as core_at, view_in, is_connected, is_complete, begun_with, report_in, anew_proposal, anew_past, IsFlushing}
use Rattle.membership.specs.Changes.{StaysAs, FinishesAndProposes}
use Rattle.member.specs.Members.{MemberModel}
use Rattle.member_rules.specs.Views.{OnFlush, OnBehind}
use Rattle.world_model.specs.declared.WorldEvent.TheVariants.{Deliver, Tick}
use Rattle.world_model.specs.Packets.{world_group, packet_numbered}
use Rattle.world.specs.declared.node_state.NodeState.{NodeState}
use Rattle.world.specs.declared.node_state.NodeState.TheVariants.{Vacant, Ended, Running}
use Rattle.world.specs.Pools.{is_destined, first_for}
use Rattle.world.specs.Turns.{OthersStand}
use Rattle.world.specs.Worlds.{WorldModel}
use Rattle.world.proofs.MembersAtNodes
use Rattle.world.proofs.InputsTaken.{when-false}
use Rattle.world.proofs.KeepOfWorlds
use Rattle.law_processes.proofs.PostsAreSpelled.{bytes_for}
use Rattle.world.specs.Plays.{lacks_memory, Plays}
use Rattle.world.proofs.PoolPackets.{bytes_as, IsSound, put-out, put-next, next-first}
use Rattle.world.proofs.Standing
use Rattle.world.proofs.Standing.{Stands}
use Rattle.world.specs.Settles.{would_follow}
use Rattle.world.specs.LowProposals.{told, past_in, promised_past, anew_with, raised, raised_in, raised_at, Raises, flush_in, IsRaised}
use Rattle.world.proofs.ReportsMissing.{awaited_by}
use Rattle.world.proofs.RulesByPacket
use Rattle.world.proofs.SettlingsSettle
use Rattle.world.proofs.FirstPackets.{first-found, each-at}
use Rattle.world.proofs.StageOfFlushes
use Rattle.world.proofs.StageOfFlushes.{Keeps, sure}

-- ---- numbers, tests and lists

pub lt-from : (a b : ℕ) → nat_lt a b ≡ true → a < b
lt-from a b e = grind (arith, nat_tests)

cmp-above : (a b : ℕ) → b < a → nat_cmp a b ≡ Greater
cmp-above a b e = grind (arith, nat_tests)

pub when-there : {A : Type 0} (b : Bool) (o : Option A) (y : A) → cond b o None ≡ Some y → (b ≡ true) × (o ≡ Some y)
when-there true o y e = (refl, e)
when-there false o y e = absurd (none-some y e)

mapped-there : {A B : Type 0} (b : Bool) (n : A) (f : A → B) (w : B) → option_map f (cond b (Some n) None) ≡ Some w → (b ≡ true) × (f n ≡ w)
mapped-there true n f w e = (refl, same_Some (f n) w e)
mapped-there false n f w e = absurd (none-some w e)

-- what passes a test stands in that part of a list
part-there : (test : Address → Bool) (q : Address) (l : List Address) → stands_in q l ≡ true → test q ≡ true → stands_in q (filter test l) ≡ true
part-there test q [] there e = there
part-there test q (p ∷ l) there e = by (same_address q p) (test p) refl refl there (λ more. part-there test q l more e)
  where
    by : (b d : Bool) → same_address q p ≡ b → test p ≡ d → b || stands_in q l ≡ true → (stands_in q l ≡ true → stands_in q (filter test l) ≡ true)
        → stands_in q (cond d (p ∷ filter test l) (filter test l)) ≡ true
    by true true x y there later = ap (λ (b : Bool). b || stands_in q (filter test l)) x
    by true false x y there later = absurd (let n : true ≡ false = sym e ∙ ap test (same_address-true q p x) ∙ y in cc)
    by false true x y there later = ap (λ (b : Bool). b || stands_in q (filter test l)) x ∙ later there
    by false false x y there later = later there

-- of a flush that has begun only its own member has reported
pub reported-alone : (c p : Address) (w : View) (r : Report) → has_reported p (begun_with c w r).reports ≡ same_address p c
reported-alone c p w r = by (same_address p c)
  where
    by : (b : Bool) → is_some (cond b (Some r) None) ≡ b
    by true = refl
    by false = refl

-- so it awaits each other of its list
pub begun-awaits : (c q : Address) (w : View) (r : Report) → stands_in q w.members ≡ true → same_address q c ≡ false → is_complete (begun_with c w r) ≡ false
begun-awaits c q w r listed other = by (is_complete (begun_with c w r)) refl
  where
    by : (b : Bool) → is_complete (begun_with c w r) ≡ b → b ≡ false
    by false e = refl
    by true e =
        let all : has_reported q (begun_with c w r).reports ≡ true = all-by (λ m. has_reported m (begun_with c w r).reports) w.members q e listed in
        sym all ∙ reported-alone c q w r ∙ other

-- ---- what a member would follow, and what it tells

tells-counter : (b : Bool) (o : Ordering) (u : View) (installed : Bool) (k : ℕ) → told (cond b (answer_past o u installed) Ignore) ≡ Some k → (b ≡ true) × (u.id.counter ≡ k)
tells-counter true Greater u installed k e = absurd (none-some k e)
tells-counter true Equal u true k e = absurd (none-some k e)
tells-counter true Equal u false k e = absurd (none-some k e)
tells-counter true Less u installed k e = (refl, same_Some u.id.counter k e)
tells-counter false o u installed k e = absurd (none-some k e)

-- an answer to an offer, by what was promised
abbrev pub offered_by : View → Address → Option View → Bool → Rattle.view_install.specs.declared.promise.OfferAnswer.OfferAnswer
offered_by w me promise installed = offered w (record { member = me; proposal = promise; is_installed = installed })

pub offer-above : (w u : View) (me : Address) (installed : Bool) → u.id.counter < w.id.counter → stands_in me w.members ≡ true → is_accept (offered_by w me (Some u) installed) ≡ true
offer-above w u me installed above listed = rw (listed, cmp-above w.id.counter u.id.counter above) refl

-- who has promised past a proposal would accept one past that promise
pub past-accepts : (v w : View) (me : Address) (promise : Option View) (installed : Bool) (k : ℕ) → told (offered_by v me promise installed) ≡ Some k → k < w.id.counter → stands_in me w.members ≡ true
    → is_accept (offered_by w me promise installed) ≡ true
past-accepts v w me None installed k e above listed = absurd (by (stands_in me v.members) e)
  where
    by : (b : Bool) → told (cond b Accept Ignore) ≡ Some k → ⊥
    by true x = none-some k x
    by false x = none-some k x
past-accepts v w me (Some u) installed k e above listed =
    let x = tells-counter (stands_in me v.members) (view_id_cmp v.id u.id) u installed k e in
    let low : u.id.counter < w.id.counter = subst (λ (j : ℕ). j < w.id.counter) (sym x.1) above in
    offer-above w u me installed low listed

pub tells-accepts : (v w : View) (s : PromiseModel) (k : ℕ) → told (offered v s) ≡ Some k → k < w.id.counter → stands_in s.member w.members ≡ true → is_accept (offered w s) ≡ true
tells-accepts v w s k e above listed = past-accepts v w s.member s.proposal s.is_installed k e above listed

-- who has promised less is not ahead of a proposal
pub tells-none : (w u : View) (s : PromiseModel) → s.proposal ≡ Some u → u.id.counter < w.id.counter → told (offered w s) ≡ None
tells-none w u s promise above =
    ap (λ (o : Option View). told (offered_by w s.member o s.is_installed)) promise
    ∙ ap (λ (o : Ordering). told (cond (stands_in s.member w.members) (answer_past o u s.is_installed) Ignore)) (greater w.id u.id above)
    ∙ by (stands_in s.member w.members)
  where
    greater : (v x : ViewId) → x.counter < v.counter → view_id_cmp v x ≡ Greater
    greater v x e = rw (cmp-above v.counter x.counter e) refl

    by : (b : Bool) → told (cond b Accept Ignore) ≡ None
    by true = refl
    by false = refl

-- ---- what it proposes anew

module _ {S : Type 0} where
  pub record Anew (me : Address) (l : MemberState S) (f : FlushModel) (k : ℕ) (w : View) : Type 0 where
    pub view : View
    pub inside : view_in l.view_state ≡ Some view
    pub room : max f.proposal.counter (max l.notes.heard k) < GREATEST_NUMBER
    pub is : record { id = record { counter = max f.proposal.counter (max l.notes.heard k) + 1; creator = me }; members = candidates me view.members l.notes } ≡ w

  pub anew-is : (me : Address) (l : MemberState S) (f : FlushModel) (k : ℕ) (w : View) → l.promise.proposal ≡ Some (proposed f) → anew_proposal me (record l { notes = having_heard k l.notes }) ≡ Some w → Anew me l f k w
  anew-is me l f k w promise e =
      let b = having_heard k l.notes in
      let c = core_at me (record l { notes = b }) in
      option_and_then_some (λ v. if is_some l.flush then proposal_after c b v else None) (view_in l.view_state) w e
      (λ v inside more.
      let x : proposal_after c b v ≡ Some w = (when-there (is_some l.flush) (proposal_after c b v) w more).1 in
      let make : ℕ → View = λ n. record { id = record { counter = n; creator = me }; members = candidates me v.members l.notes } in
      let y : option_map make (next_counter f.proposal.counter b) ≡ Some w = subst (λ (o : Option View). option_map make (next_counter (promised_counter o) b) ≡ Some w) promise x in
      let z = mapped-there (nat_lt (max f.proposal.counter b.heard) GREATEST_NUMBER) (max f.proposal.counter b.heard + 1) make w y in
      record { view = v; inside = inside; room = lt-from (max f.proposal.counter b.heard) GREATEST_NUMBER z.0; is = z.1 })

module _ {S : Type 0} (meaning : Meaning S) (laws : KeepBySteps.Laws meaning) where
  -- ---- from the tests

  -- one that runs, and has promised past a proposal
  pub record Ahead (w : WorldModel S) (v : View) (q : Address) (k : ℕ) : Type 0 where
    pub member_state : MemberState S
    pub stands : Stands meaning w q member_state
    pub tells : told (offered v member_state.promise) ≡ Some k

  pub ahead : (w : WorldModel S) (v : View) (q : Address) (k : ℕ) → Keeps meaning laws w → promised_past v q (w.node_states q.node) ≡ Some k → Ahead w v q k
  ahead w v q k keeps e = by (w.node_states q.node) refl e
    where
      at-state : (m : MemberModel S) (o : Option (MemberState S)) → w.node_states q.node ≡ Running m → m.address ≡ q → m.member_state ≡ o → option_and_then (past_in v) o ≡ Some k → Ahead w v q k
      at-state m None there address state e = absurd (none-some k e)
      at-state m (Some l) there address state e =
          let x = when-there (is_connected l) (told (offered v l.promise)) k e in
          record {
            member_state = l;
            stands = record { member = m; node_state = there; address = address; group = (SettlingsSettle.node-is meaning laws w q.node m keeps there).1; member_state = state; connected = x.0 };
            tells = x.1;
          }

      by : (s : NodeState S) → w.node_states q.node ≡ s → promised_past v q s ≡ Some k → Ahead w v q k
      by Vacant there e = absurd (none-some k e)
      by (Ended p) there e = absurd (none-some k e)
      by (Running m) there e =
          let x = when-there (same_address m.address q) (option_and_then (past_in v) m.member_state) k e in
          at-state m m.member_state there (same_address-true m.address q x.0) refl x.1

  -- the member at a node whose flush is behind
  pub record Low (w : WorldModel S) (n : ℕ) (q : Address) (v : View) : Type 0 where
    pub member : MemberModel S
    pub node_state : w.node_states n ≡ Running member
    pub member_state : MemberState S
    pub state : member.member_state ≡ Some member_state
    pub flush : FlushModel
    pub runs : member_state.flush ≡ Some flush
    pub awaited : is_awaited q flush ≡ true
    pub counter : ℕ
    pub past : promised_past (proposed flush) q (w.node_states q.node) ≡ Some counter
    pub anew : anew_proposal member.address (RulesByPacket.heard meaning (who member.address world_group) counter member_state) ≡ Some v
    pub listed : stands_in q v.members ≡ true

  pub low : (w : WorldModel S) (n : ℕ) (q : Address) (v : View) → raised_at w.node_states n q ≡ Some v → Low w n q v
  low w n q v e = by (w.node_states n) refl e
    where
      at-flush : (m : MemberModel S) (l : MemberState S) (f : FlushModel) → w.node_states n ≡ Running m → m.member_state ≡ Some l → l.flush ≡ Some f → raised w.node_states m.address l q f ≡ Some v → Low w n q v
      at-flush m l f there state runs e =
          let x = when-there (is_awaited q f) _ v e in
          option_and_then_some (anew_with m.address l q) (promised_past (proposed f) q (w.node_states q.node)) v x.1
          (λ k past more. option_and_then_some (λ u. if stands_in q u.members then Some u else None) (anew_past m.address l k) v more
          (λ u anew tested.
          let y = cond_some (stands_in q u.members) u v tested in
          record {
            member = m;
            node_state = there;
            member_state = l;
            state = state;
            flush = f;
            runs = runs;
            awaited = x.0;
            counter = k;
            past = past;
            anew = anew ∙ ap Some y.1;
            listed = ap (λ (z : View). stands_in q z.members) (sym y.1) ∙ y.0;
          }))

      by : (s : NodeState S) → w.node_states n ≡ s → raised_in w.node_states q s ≡ Some v → Low w n q v
      by Vacant there e = absurd (none-some v e)
      by (Ended p) there e = absurd (none-some v e)
      by (Running m) there e =
          option_and_then_some (λ (l : MemberState S). option_and_then (raised w.node_states m.address l q) l.flush) m.member_state v e
          (λ l state more. option_and_then_some (raised w.node_states m.address l q) l.flush v more (λ f runs last. at-flush m l f there state runs last))

  -- ---- the tick

  pub record Announces (old new : WorldModel S) (c q : Address) (l : MemberState S) (f : FlushModel) : Type 0 where
    pub stands : Stands meaning new c l
    pub others : OthersStand c.node old.node_states new.node_states
    pub keeps : Keeps meaning laws new
    pub number : ℕ
    pub found : first_for q (length old.history.pool) new.history.pool ≡ Some number
    pub flush : Standing.IsFor meaning new number q (packet c (bodies.Flush (proposed f)) q)

  pub announces : (old new : WorldModel S) (c q : Address) (l : MemberState S) (f : FlushModel) → Keeps meaning laws old → Stands meaning old c l → IsFlushing c l f → l.flush ≡ Some f → is_awaited q f ≡ true
      → same_address q c ≡ false → Plays meaning old (Tick c.node) new → Announces old new c q l f
  announces old new c q l f keeps stands flushing runs awaited other plays =
      let inside : is_some l.view_state ≡ true = flushing.inside in
      let t = sure (lacks_memory plays.step.answer) plays.whole (Standing.ticked meaning old new c l stands plays.step) in
      let a = StageOfFlushes.announced meaning laws old new c l f stands inside flushing.waiting runs t in
      let body = bodies.Flush (proposed f) in
      let posted = map (packet c body) (awaited_by f) in
      let parts = and_parts (stands_in q f.members) (not (has_reported q f.reports)) awaited in
      let y = first-found c q body (awaited_by f) (length old.history.pool + 1) a.sound (part-there (λ m. not (has_reported m f.reports)) q f.members parts.0 parts.1) in
      let rest : drop (length old.history.pool) new.history.pool ≡ bytes_for world_group posted = ap (drop (length old.history.pool)) a.puts ∙ drop-append_seam old.history.pool (bytes_for world_group posted) in
      record {
        stands = a.stands;
        others = a.others;
        keeps = KeepOfWorlds.step-keeps meaning laws old new (Tick c.node) plays.step keeps;
        number = length old.history.pool + 1 + y.place;
        found = ap (position_from (is_destined q) (length old.history.pool + 1)) rest ∙ y.found;
        flush = record {
          there = ap (packet_numbered (length old.history.pool + 1 + y.place)) a.puts ∙ put-next old.history.pool posted y.place (packet c body q) y.there;
          sound = each-at IsSound posted y.place (packet c body q) a.sound y.there;
          goes = refl;
          other = same_address-sym c q ∙ other;
        };
      }

  -- ---- the FLUSH

  pub record Answers (old new : WorldModel S) (c q : Address) (v : View) (k : ℕ) : Type 0 where
    pub same : new.node_states q.node ≡ old.node_states q.node
    pub others : OthersStand q.node old.node_states new.node_states
    pub keeps : Keeps meaning laws new
    pub behind : Standing.IsFor meaning new (length new.history.pool) c (packet q (bodies.Behind v.id k) c)

  same-model : (m n : MemberModel S) → m.address ≡ n.address → m.group ≡ n.group → m.member_state ≡ n.member_state → m ≡ n
  same-model m n a g s = λ i. record { address = a i; group = g i; member_state = s i }

  -- who has promised past a proposal tells how far by the FLUSH, and is as it was
  pub answers : (old new : WorldModel S) (c q : Address) (v : View) (k number : ℕ) → Keeps meaning laws old → Ahead old v q k → v.id.creator ≡ c → same_address q c ≡ false
      → Standing.IsFor meaning old number q (packet c (bodies.Flush v) q) → Plays meaning old (Deliver number) new → Answers old new c q v k
  answers old new c q v k number keeps x own other to plays =
      let l = x.member_state in
      let h = sure (lacks_memory plays.step.answer) plays.whole (Standing.heard meaning laws old new keeps number q l x.stands (packet c (bodies.Flush v) q) to plays.step) in
      let rule : OnFlush (who q world_group) c v (in_step l h.start) (in_step h.after h.out) = h.hears in
      let p = RulesByPacket.flush-behind meaning (who q world_group) c k v (in_step l h.start) (in_step h.after h.out) (ap (λ (a : Address). same_address a c) own ∙ same_address-refl c) x.tells rule in
      let m = packet q (bodies.Behind v.id k) c in
      let g : Grows world_group h.start h.out (m ∷ []) [] = subst (λ (a : Address). Grows world_group h.start h.out (packet q (bodies.Behind v.id k) a ∷ []) []) own p.1 in
      let puts : new.history.pool ≡ old.history.pool ++ bytes_for world_group (m ∷ []) =
      h.puts ∙ ap (λ (ps : List (List ℕ)). old.history.pool ++ ps) (put-out h.start h.out h.nothing (m ∷ []) [] g) in
      let long : length new.history.pool ≡ length old.history.pool + 1 = ap length puts ∙ length-append old.history.pool (bytes_for world_group (m ∷ [])) in
      let there = next-first (length old.history.pool) m [] (old.history.pool ++ bytes_for world_group (m ∷ [])) (put-next old.history.pool (m ∷ [])) in
      let model : h.stands.member ≡ x.stands.member =
      same-model h.stands.member x.stands.member (h.stands.address ∙ sym x.stands.address) (h.stands.group ∙ sym x.stands.group) (h.stands.member_state ∙ ap Some p.0 ∙ sym x.stands.member_state) in
      record {
        same = h.stands.node_state ∙ ap Running model ∙ sym x.stands.node_state;
        others = h.others;
        keeps = KeepOfWorlds.step-keeps meaning laws old new (Deliver number) plays.step keeps;
        behind = record {
          there = subst (λ (j : ℕ). packet_numbered j new.history.pool ≡ Some (bytes_as m)) (sym long)
              (subst (λ (pool : List (List ℕ)). packet_numbered (length old.history.pool + 1) pool ≡ Some (bytes_as m)) (sym puts) there);
          sound = g.sound.0;
          goes = refl;
          other = other;
        };
      }

  -- ---- the BEHIND

  pub record Begun (old new : WorldModel S) (c : Address) (l : MemberState S) (k : ℕ) (w : View) : Type 0 where
    pub after : MemberState S
    pub stands : Stands meaning new c after
    pub report : Report
    pub flush : after.flush ≡ Some (begun_with c w report)
    pub promise : after.promise ≡ promising w l.promise
    pub view_state : after.view_state ≡ l.view_state
    pub notes : after.notes ≡ having_heard k l.notes
    pub others : OthersStand c.node old.node_states new.node_states
    pub keeps : Keeps meaning laws new

  -- what a complete flush would do
  abbrev WholeFlush : Address → FlushModel → InStep S → InStep S → Type 0
  WholeFlush c f mid new = MatchOption mid.member.view_state ⊥ (λ t. FinishesAndProposes meaning (who c world_group) f t mid new)

  pub begun : (old new : WorldModel S) (c q : Address) (l : MemberState S) (f : FlushModel) (k : ℕ) (w : View) → Keeps meaning laws old → Stands meaning old c l → l.flush ≡ Some f
      → anew_proposal c (RulesByPacket.heard meaning (who c world_group) k l) ≡ Some w → stands_in q w.members ≡ true → same_address q c ≡ false
      → Standing.IsFor meaning old (length old.history.pool) c (packet q (bodies.Behind f.proposal k) c) → Plays meaning old (Deliver (length old.history.pool)) new → Begun old new c l k w
  begun old new c q l f k w keeps stands runs anew listed other to plays =
      let h = sure (lacks_memory plays.step.answer) plays.whole (Standing.heard meaning laws old new keeps (length old.history.pool) c l stands (packet q (bodies.Behind f.proposal k) c) to plays.step) in
      let rule : OnBehind meaning (who c world_group) f.proposal k (in_step l h.start) (in_step h.after h.out) = h.hears in
      let b = RulesByPacket.behind-begins meaning (who c world_group) f k w (in_step l h.start) (in_step h.after h.out) runs anew rule in
      let r = report_in (RulesByPacket.heard meaning (who c world_group) k l) in
      let g = begun_with c w r in
      let has : b.mid.member.flush ≡ Some g = ap (λ (z : MemberState S). z.flush) b.begins.member_state in
      let on : MatchBool (is_complete g) (WholeFlush c g b.mid (in_step h.after h.out)) (StaysAs b.mid (in_step h.after h.out)) =
      subst (λ (o : Option FlushModel). MatchOption o (StaysAs b.mid (in_step h.after h.out)) (λ z. MatchBool (is_complete z) (WholeFlush c z b.mid (in_step h.after h.out)) (StaysAs b.mid (in_step h.after h.out)))) has b.goes_on in
      let stays : StaysAs b.mid (in_step h.after h.out) = when-false (is_complete g) _ _ (begun-awaits c q w r listed other) on in
      let is = stays.0 ∙ b.begins.member_state in
      record {
        after = h.after;
        stands = h.stands;
        report = r;
        flush = ap (λ (z : MemberState S). z.flush) is;
        promise = ap (λ (z : MemberState S). z.promise) is;
        view_state = ap (λ (z : MemberState S). z.view_state) is;
        notes = ap (λ (z : MemberState S). z.notes) is;
        others = h.others;
        keeps = KeepOfWorlds.step-keeps meaning laws old new (Deliver (length old.history.pool)) plays.step keeps;
      }

  -- ---- a round

  pub record Rose (old new : WorldModel S) (n : ℕ) (q : Address) (w : View) (x : Low old n q w) : Type 0 where
    pub node : x.member.address.node ≡ n
    pub stood : Stands meaning old x.member.address x.member_state
    pub flushing : IsFlushing x.member.address x.member_state x.flush
    pub anew : Anew x.member.address x.member_state x.flush x.counter w
    pub other : same_address q x.member.address ≡ false
    pub asked : Ahead old (proposed x.flush) q x.counter
    pub after : MemberState S
    pub stands : Stands meaning new x.member.address after
    pub report : Report
    pub flush : after.flush ≡ Some (begun_with x.member.address w report)
    pub promise : after.promise ≡ promising w x.member_state.promise
    pub view_state : after.view_state ≡ x.member_state.view_state
    pub notes : after.notes ≡ having_heard x.counter x.member_state.notes
    pub others : OthersStand x.member.address.node old.node_states new.node_states
    pub keeps : Keeps meaning laws new

  -- who awaits a report is another than the one whose flush it is
  pub awaited-other : (c q : Address) (f : FlushModel) → has_reported c f.reports ≡ true → is_awaited q f ≡ true → same_address q c ≡ false
  awaited-other c q f own awaited = by (same_address q c) refl
    where
      by : (b : Bool) → same_address q c ≡ b → b ≡ false
      by false e = refl
      by true e =
          let none = not-true (has_reported q f.reports) (and_parts (stands_in q f.members) (not (has_reported q f.reports)) awaited).1 in
          sym own ∙ ap (λ (p : Address). has_reported p f.reports) (sym (same_address-true q c e)) ∙ none

  -- it stands there, and its flush goes on
  pub record Stood (old : WorldModel S) (n : ℕ) (q : Address) (w : View) (x : Low old n q w) : Type 0 where
    pub node : x.member.address.node ≡ n
    pub stands : Stands meaning old x.member.address x.member_state
    pub flushing : IsFlushing x.member.address x.member_state x.flush

  pub stood-there : (old : WorldModel S) (n : ℕ) (q : Address) (w : View) → Keeps meaning laws old → (x : Low old n q w) → Stood old n q w x
  stood-there old n q w keeps x =
      let l = x.member_state in
      let there = SettlingsSettle.node-is meaning laws old n x.member keeps x.node_state in
      let lives = ((MembersAtNodes.is-here meaning laws old.node_states old.history n x.member keeps x.node_state there.0).alive l x.state).member_state in
      let flushing = lives.flushing x.flush x.runs in
      let inside : is_some l.view_state ≡ true = flushing.inside in
      record {
        node = there.0;
        stands = record {
          member = x.member;
          node_state = ap (λ (z : ℕ). old.node_states z) there.0 ∙ x.node_state;
          address = refl;
          group = there.1;
          member_state = x.state;
          connected = ap (λ (b : Bool). b || is_some l.contact) inside;
        };
        flushing = flushing;
      }

  pub rises : (old new : WorldModel S) (n : ℕ) (q : Address) (w : View) → Keeps meaning laws old → (x : Low old n q w) → Raises meaning n q old new → Rose old new n q w x
  rises old new n q w keeps x round =
      let c = x.member.address in
      let l = x.member_state in
      let f = x.flush in
      let k = x.counter in
      let there = stood-there old n q w keeps x in
      let stands = there.stands in
      let flushing = there.flushing in
      let other = awaited-other c q f flushing.reported x.awaited in
      let apart : nat_eq q.node c.node ≡ false =
      Standing.nodes-apart meaning old q c (ahead old (proposed f) q k keeps x.past).member_state l (ahead old (proposed f) q k keeps x.past).stands stands (same_address-sym c q ∙ other) in
      let apart_too : nat_eq c.node q.node ≡ false = Standing.nodes-apart meaning old c q l (ahead old (proposed f) q k keeps x.past).member_state stands (ahead old (proposed f) q k keeps x.past).stands other in
      let ticks : Plays meaning old (Tick c.node) round.announced = subst (λ (j : ℕ). Plays meaning old (Tick j) round.announced) (sym there.node) round.ticks in
      let a = announces old round.announced c q l f keeps stands flushing x.runs x.awaited other ticks in
      let one = ahead old (proposed f) q k keeps x.past in
      let still : Ahead round.announced (proposed f) q k =
      record { member_state = one.member_state; stands = Standing.stands-still meaning old q one.member_state one.stands round.announced c apart_too a.others; tells = one.tells } in
      let hands : Plays meaning round.announced (Deliver a.number) round.answered =
      subst (λ (o : Option ℕ). MatchOption o (round.answered ≡ round.announced) (λ j. Plays meaning round.announced (Deliver j) round.answered)) a.found round.flush in
      let b = answers round.announced round.answered c q (proposed f) k a.number a.keeps still flushing.own other a.flush hands in
      let mine = Standing.stands-still meaning round.announced c l a.stands round.answered q apart b.others in
      let d = begun round.answered new c q l f k w b.keeps mine x.runs x.anew x.listed other b.behind round.behind in
      record {
        node = there.node;
        stood = stands;
        flushing = flushing;
        anew = anew-is c l f k w flushing.promise x.anew;
        other = other;
        asked = one;
        after = d.after;
        stands = d.stands;
        report = d.report;
        flush = d.flush;
        promise = d.promise;
        view_state = d.view_state;
        notes = d.notes;
        others = λ m away. d.others m away ∙ between m (nat_eq q.node m) refl b.same b.others ∙ a.others m away;
        keeps = d.keeps;
      }
    where
      between : (m : ℕ) (b : Bool) → nat_eq q.node m ≡ b → round.answered.node_states q.node ≡ round.announced.node_states q.node → OthersStand q.node round.announced.node_states round.answered.node_states
          → round.answered.node_states m ≡ round.announced.node_states m
      between m false e same others = others m e
      between m true e same others = subst (λ (j : ℕ). round.answered.node_states j ≡ round.announced.node_states j) (eqb-true q.node m e) same

  -- the new counter is past what was told
  pub above-told : {me : Address} {l : MemberState S} {f : FlushModel} (k : ℕ) (w : View) → Anew me l f k w → k < w.id.counter
  above-told {me} {l} {f} k w x = subst (λ (u : View). k < u.id.counter) x.is (let e : k < max f.proposal.counter (max l.notes.heard k) + 1 = omega arith in e)

  pub follows : (w : WorldModel S) (v : View) (q : Address) (l : MemberState S) → Stands meaning w q l → is_accept (offered v l.promise) ≡ true → would_follow v q (w.node_states q.node) ≡ true
  follows w v q l x accepts =
      ap (would_follow v q) x.node_state
      ∙ and_from (same_address x.member.address q) _ (ap (λ (a : Address). same_address a q) x.address ∙ same_address-refl q)
      (ap (λ (o : Option (MemberState S)). option_map_or (λ z. is_connected z && is_accept (offered v z.promise)) o false) x.member_state ∙ and_from (is_connected l) (is_accept (offered v l.promise)) x.connected accepts)

  -- A ROUND RAISES THE PROPOSAL
  pub raises : (old new : WorldModel S) (n : ℕ) (q : Address) (w : View) → Keeps meaning laws old → raised_at old.node_states n q ≡ Some w → Raises meaning n q old new → IsRaised n q w old new
  raises old new n q w keeps at round =
      let x = low old n q w at in
      let y = rises old new n q w keeps x round in
      let c = x.member.address in
      let g = begun_with c w y.report in
      let one = y.asked in
      let apart : nat_eq c.node q.node ≡ false = Standing.nodes-apart meaning old c q x.member_state one.member_state y.stood one.stands y.other in
      let now = Standing.stands-still meaning old q one.member_state one.stands new c apart y.others in
      let itself : one.member_state.promise.member ≡ q = (Standing.lives meaning old q one.member_state one.stands laws keeps).own ∙ one.stands.address in
      let listed : stands_in one.member_state.promise.member w.members ≡ true = ap (λ (p : Address). stands_in p w.members) itself ∙ x.listed in
      let creator : w.id.creator ≡ c = ap (λ (u : View). u.id.creator) (sym y.anew.is) in
      record {
        flush = g;
        own = ap (λ (j : ℕ). flush_in (new.node_states j)) (sym y.node) ∙ ap flush_in y.stands.node_state ∙ ap (option_and_then (λ (z : MemberState S). z.flush)) y.stands.member_state ∙ y.flush;
        proposes = refl;
        alone = λ p. reported-alone c p w y.report ∙ ap (same_address p) (sym creator);
        follows = follows new w q one.member_state now (tells-accepts (proposed x.flush) w one.member_state.promise x.counter one.tells (above-told x.counter w y.anew) listed);
        others = subst (λ (j : ℕ). OthersStand j old.node_states new.node_states) y.node y.others;
      }
