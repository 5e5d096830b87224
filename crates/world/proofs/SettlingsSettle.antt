-- A settling settles: after it all of the proposal's list run, and the proposal is their current view.
use Rattle.std.proofs.Common.{◌≡◌, ℕ, ◌+◌, ◌-◌, Bool, true, false, cond, not, Option, Some, None, List, [], ◌∷◌, ◌++◌, map, filter, length, is_some, nat_eq, nat_lt, refl, sym, ap, ◌∙◌, subst, arith, length-append}
use Rattle.std.specs.Prelude.{◌≤◌, ◌*◌, ◌&&◌, ◌||◌, MatchBool, IfSome, unwrap_or}
use Rattle.std.specs.List.{AllByRecursion, list_all}
use Rattle.std.specs.Option.{option_and_then, option_eq, option_map_or}
use Rattle.std.proofs.lemmas.Bool.{and_from, and_parts, not-true}
use Rattle.std.proofs.lemmas.List.{length-map}
use Rattle.std.proofs.lemmas.Option.{none-some, same_Some, cond_some}
use Rattle.address.specs.Ids.{Address, ViewId, same_address, same_view_id}
use Rattle.address.proofs.SameIds.{same_address-refl, same_address-true}
use Rattle.address.proofs.Plain.{found}
use Rattle.view.specs.Members.{View, stands_in, is_distinct}
use Rattle.view.specs.View.{view_refusal, begins_with}
use Rattle.view.specs.declared.ViewError.TheVariants as errors
use Rattle.view.proofs.MembersListed.{all-by, filter-within, coordinator-in}
use Rattle.address.specs.declared.limits.TheConstants.{MEMBERS}
use Rattle.wire_values.specs.Values.{Report}
use Rattle.wire_values.specs.declared.packet.Body.TheVariants as bodies
use Rattle.state_transfer.specs.Meanings.{Meaning}
use Rattle.trace_props.specs.Observed.{current_view}
use Rattle.flush.specs.Flushes.{FlushModel, has_reported, report_from, previous_of}
use Rattle.view_install.specs.Promises.{PromiseModel, offered, is_accept}
use Rattle.law_acts.specs.Cores.{id_of}
use Rattle.law_acts.specs.Acts.{proposed, others_of, chunk_packets}
use Rattle.law_acts.specs.Decisions.{promise_of, kept_of}
use Rattle.wire_values.specs.Chunks.{IsTotal}
use Rattle.wire_values.specs.Posted.{Posted, packet}
use Rattle.law_acts.proofs.KeepBySteps
use Rattle.law_acts.proofs.FinishedFlushes.{report-recorded}
use Rattle.step_output.specs.Outputs.{spelled}
use Rattle.traffic.specs.declared.view_state.ViewState.{ViewState}
use Rattle.membership.specs.declared.member_state.MemberState.{MemberState}
use Rattle.membership.specs.MemberStates.{core_of as core_at, is_connected, is_complete, IsFlushing}
use Rattle.membership.specs.Installs.{finish_packets, instruction_to}
use Rattle.member_rules.specs.Views.{proposes_again}
use Rattle.member.specs.Members.{MemberModel}
use Rattle.world_model.specs.declared.WorldEvent.{WorldEvent}
use Rattle.world_model.specs.declared.WorldEvent.TheVariants.{Deliver, Tick}
use Rattle.world_model.specs.Histories.{History, last_of, running, is_connected as connected_in}
use Rattle.world_model.specs.Packets.{world_group}
use Rattle.world.specs.declared.node_state.NodeState.{NodeState}
use Rattle.world.specs.declared.node_state.NodeState.TheVariants.{Vacant, Ended, Running}
use Rattle.world.specs.NodeStates.{bytes_of}
use Rattle.world.proofs.MembersAsSystem.{system_of}
use Rattle.world.specs.Invariant.{IsNodeStateOf}
use Rattle.world.specs.Worlds.{WorldModel}
use Rattle.world.specs.Plays.{lacks_memory, Plays, Delivers, DeliversPast}
use Rattle.world.specs.Plays.Delivers.{Still, Next}
use Rattle.law_processes.proofs.PostsAreSpelled.{EachSound, bytes_for}
use Rattle.world.proofs.InputsTaken.{when-false}
use Rattle.world.proofs.MembersAtNodes
use Rattle.world.proofs.KeepOfWorlds
use Rattle.world.proofs.PoolPackets.{AreNext, put-next}
use Rattle.world.specs.Settles.{would_follow, followed, settling_in, settling_at, begun_in, Settles, IsSettled}
use Rattle.world.proofs.SettlingsAreBrief.{shorter, members-few, chunks-few}
use Rattle.world.proofs.WhoFollows
use Rattle.world.proofs.ReportsMissing.{unreported, awaited_by, complete-at-last}
use Rattle.world.proofs.Standing
use Rattle.world.proofs.Standing.{Stands}
use Rattle.world.proofs.StageOfFlushes
use Rattle.world.proofs.StageOfFlushes.{Keeps, Accepts, Awaits, AreOthers, report_packets, flush_packets, sure}
use Rattle.world.proofs.StageOfReports
use Rattle.world.proofs.StageOfReports.{senders, begun_by}
use Rattle.world.proofs.StageOfInstalls
use Rattle.world.proofs.StageOfInstalls.{Inside, Entering, chunks_said, said-so}
use Rattle.law_acts.proofs.ActBegins.{others-there}
use Rattle.traffic.specs.ViewStates.{view_of}

-- ---- lists

pub distinct-view : (id : ViewId) (list : List Address) → view_refusal id list ≡ None → is_distinct list ≡ true
distinct-view id list e = by (nat_eq (length list) 0) (nat_lt MEMBERS (length list)) (is_distinct list) e
  where
    by : (a b d : Bool) → cond a (Some errors.Empty) (cond b (Some errors.TooMany) (cond (not d) (Some errors.Repeated) (cond (not (begins_with id.creator list)) (Some errors.NotFirst) None))) ≡ None → d ≡ true
    by true b d x = absurd (none-some _ (sym x))
    by false true d x = absurd (none-some _ (sym x))
    by false false true x = refl
    by false false false x = absurd (none-some _ (sym x))

-- a part of a list
not-within : (test : Address → Bool) (q : Address) (l : List Address) → stands_in q l ≡ false → stands_in q (filter test l) ≡ false
not-within test q l none = by (stands_in q (filter test l)) refl
  where
    by : (b : Bool) → stands_in q (filter test l) ≡ b → b ≡ false
    by false e = refl
    by true e = sym (filter-within test q l e) ∙ none

pub distinct-part : (test : Address → Bool) (l : List Address) → is_distinct l ≡ true → is_distinct (filter test l) ≡ true
distinct-part test [] e = refl
distinct-part test (p ∷ l) e =
    let parts = and_parts (not (stands_in p l)) (is_distinct l) e in
    by (test p) (distinct-part test l parts.1) (not-within test p l (not-true (stands_in p l) parts.0))
  where
    by : (b : Bool) → is_distinct (filter test l) ≡ true → stands_in p (filter test l) ≡ false → is_distinct (cond b (p ∷ filter test l) (filter test l)) ≡ true
    by true rest none = and_from (not (stands_in p (filter test l))) (is_distinct (filter test l)) (ap not none) rest
    by false rest none = rest

-- what passes a test that another does not is another
pub part-others : (test : Address → Bool) (c : Address) (members : List Address) (l : List Address) → test c ≡ false → ((q : Address) → stands_in q l ≡ true → stands_in q members ≡ true)
    → AllByRecursion (λ q. (stands_in q members ≡ true) × (same_address q c ≡ false)) (filter test l)
part-others test c members [] none inside = tt
part-others test c members (p ∷ l) none inside =
    by (test p) refl (part-others test c members l none (λ q there. inside q (later q (same_address q p) there)))
  where
    later : (q : Address) (b : Bool) → stands_in q l ≡ true → b || stands_in q l ≡ true
    later q true there = refl
    later q false there = there

    other : (b : Bool) → same_address p c ≡ b → test p ≡ true → b ≡ false
    other false e t = refl
    other true e t = absurd (let n : true ≡ false = sym t ∙ ap test (same_address-true p c e) ∙ none in cc)

    by : (b : Bool) → test p ≡ b → AllByRecursion (λ q. (stands_in q members ≡ true) × (same_address q c ≡ false)) (filter test l)
        → AllByRecursion (λ q. (stands_in q members ≡ true) × (same_address q c ≡ false)) (cond b (p ∷ filter test l) (filter test l))
    by true e rest = ((inside p (ap (λ (b : Bool). b || stands_in p l) (same_address-refl p)), other (same_address p c) refl e), rest)
    by false e rest = rest

-- who is not awaited has reported
reported-else : (reports : List (Address × Report)) (list : List Address) (q : Address) → stands_in q list ≡ true → stands_in q (unreported reports list) ≡ false → has_reported q reports ≡ true
reported-else reports [] q there none = absurd (let n : false ≡ true = there in cc)
reported-else reports (p ∷ list) q there none = by (has_reported p reports) (same_address q p) refl refl there none (reported-else reports list q)
  where
    by : (b d : Bool) → has_reported p reports ≡ b → same_address q p ≡ d → d || stands_in q list ≡ true → stands_in q (cond (not b) (p ∷ unreported reports list) (unreported reports list)) ≡ false
        → (stands_in q list ≡ true → stands_in q (unreported reports list) ≡ false → has_reported q reports ≡ true) → has_reported q reports ≡ true
    by true true e x there none later = ap (λ (z : Address). has_reported z reports) (same_address-true q p x) ∙ e
    by true false e x there none later = later there none
    by false true e x there none later =
        absurd (let n : true ≡ false = ap (λ (z : Bool). z || stands_in q (unreported reports list)) (sym x) ∙ none in cc)
    by false false e x there none later = later there (ap (λ (z : Bool). z || stands_in q (unreported reports list)) (sym x) ∙ none)

module _ {S : Type 0} (meaning : Meaning S) (laws : KeepBySteps.Laws meaning) where
  -- ---- the condition

  pub record Asks (w : WorldModel S) (n : ℕ) (v : View) : Type 0 where
    pub member : MemberModel S
    pub node_state : w.node_states n ≡ Running member
    pub member_state : MemberState S
    pub state : member.member_state ≡ Some member_state
    pub flush : FlushModel
    pub runs : member_state.flush ≡ Some flush
    pub is : proposed flush ≡ v
    pub all : list_all (λ q. would_follow (proposed flush) q (w.node_states q.node)) flush.members ≡ true
    pub awaits : is_complete flush ≡ false

  pub asks : (w : WorldModel S) (n : ℕ) (v : View) → settling_at w.node_states n ≡ Some v → Asks w n v
  asks w n v e = by (w.node_states n) refl e
    where
      at-flush : (m : MemberModel S) (l : MemberState S) (o : Option FlushModel) → w.node_states n ≡ Running m → m.member_state ≡ Some l → l.flush ≡ o → option_and_then (followed w.node_states) o ≡ Some v → Asks w n v
      at-flush m l None there state runs e = absurd (none-some v e)
      at-flush m l (Some f) there state runs e =
          let x = cond_some _ (proposed f) v e in
          let y = and_parts (list_all (λ q. would_follow (proposed f) q (w.node_states q.node)) f.members) (not (is_complete f)) x.0 in
          record { member = m; node_state = there; member_state = l; state = state; flush = f; runs = runs; is = x.1; all = y.0; awaits = not-true (is_complete f) y.1 }

      at-member : (m : MemberModel S) (o : Option (MemberState S)) → w.node_states n ≡ Running m → m.member_state ≡ o → option_and_then (λ l. option_and_then (followed w.node_states) l.flush) o ≡ Some v → Asks w n v
      at-member m None there state e = absurd (none-some v e)
      at-member m (Some l) there state e = at-flush m l l.flush there state refl e

      by : (s : NodeState S) → w.node_states n ≡ s → settling_in w.node_states s ≡ Some v → Asks w n v
      by Vacant there e = absurd (none-some v e)
      by (Ended p) there e = absurd (none-some v e)
      by (Running m) there e = at-member m m.member_state there refl e

  -- what the world says of a member that runs there
  pub node-is : (w : WorldModel S) (n : ℕ) (m : MemberModel S) → Keeps meaning laws w → w.node_states n ≡ Running m → (m.address.node ≡ n) × (m.group ≡ world_group)
  node-is w n m keeps there =
      let k : IsNodeStateOf n (last_of n w.history.trace) (connected_in n w.history) w.history.trace (Running m) =
      subst (IsNodeStateOf n (last_of n w.history.trace) (connected_in n w.history) w.history.trace) there (keeps.node_states n) in
      (k.1, (MembersAtNodes.is-here meaning laws w.node_states w.history n m keeps there k.1).group_is)

  -- who would follow runs, and would accept
  pub follower : (w : WorldModel S) (v : View) (q : Address) → Keeps meaning laws w → would_follow v q (w.node_states q.node) ≡ true → Accepts meaning laws w v q
  follower w v q keeps e = by (w.node_states q.node) refl e
    where
      at-state : (m : MemberModel S) (o : Option (MemberState S)) → w.node_states q.node ≡ Running m → m.address ≡ q → m.member_state ≡ o
          → option_map_or (λ l. is_connected l && is_accept (offered v l.promise)) o false ≡ true → Accepts meaning laws w v q
      at-state m None there address state e = absurd (let n : false ≡ true = e in cc)
      at-state m (Some l) there address state e =
          let x = and_parts (is_connected l) (is_accept (offered v l.promise)) e in
          record { member_state = l; stands = record { member = m; node_state = there; address = address; group = (node-is w q.node m keeps there).1; member_state = state; connected = x.0 }; accepts = x.1 }

      by : (s : NodeState S) → w.node_states q.node ≡ s → would_follow v q s ≡ true → Accepts meaning laws w v q
      by Vacant there e = absurd (let n : false ≡ true = e in cc)
      by (Ended p) there e = absurd (let n : false ≡ true = e in cc)
      by (Running m) there e =
          let x = and_parts (same_address m.address q) _ e in
          at-state m m.member_state there (same_address-true m.address q x.0) refl x.1

  -- ---- before the tick

  pub record Ready (w : WorldModel S) (n : ℕ) (c : Address) (l : MemberState S) (f : FlushModel) : Type 0 where
    pub node : c.node ≡ n
    pub flushes : StageOfFlushes.Flushes meaning laws w c l f (awaited_by f)
    pub flushing : IsFlushing c l f
    pub connected : is_some l.view_state ≡ true

  is-connected : (l : MemberState S) → is_some l.view_state ≡ true → is_connected l ≡ true
  is-connected l e = ap (λ (b : Bool). b || is_some l.contact) e

  -- one that has reported has promised it
  has-promised : (w : WorldModel S) (c q : Address) (l : MemberState S) (f : FlushModel) → Keeps meaning laws w → Stands meaning w c l → l.flush ≡ Some f → has_reported q f.reports ≡ true
      → same_address q c ≡ false → Accepts meaning laws w (proposed f) q → Awaits meaning laws w (proposed f) q
  has-promised w c q l f keeps stands flush reported other a =
      let s = system_of w.node_states w.history.pool w.history.trace in
      let k = a.member_state in
      let r = found (report_from q f.reports) reported in
      let y = report-recorded f.reports q r.0 r.1 in
      let m = (Standing.agreed-in meaning laws w keeps).agreed.members c (core_at c l) (Standing.runs-in meaning w c l stands) in
      let foreign : same_address y.it.0 c ≡ false = ap (λ (z : Address). same_address z c) y.reporter ∙ other in
      let put = when-false (same_address y.it.0 c) _ _ foreign ((m.flush f flush).recorded y.place y.it y.stands) in
      let lives = Standing.lives meaning w q k a.stands laws keeps in
      let ours : k.promise ≡ promise_of (core_at q k) =
      ap (λ (p : Address). record { member = p; proposal = k.promise.proposal; is_installed = k.promise.is_installed }) (lives.own ∙ a.stands.address) in
      let x = WhoFollows.awaits-reported meaning s (Standing.agreed-in meaning laws w keeps).agreed c q (core_at c l) (core_at q k) f y.it.1 (record {
        first = Standing.runs-in meaning w c l stands;
        flush = flush;
        second = Standing.runs-in meaning w q k a.stands;
        other = other;
        accepts = subst (λ (p : PromiseModel). is_accept (offered (proposed f) p) ≡ true) ours a.accepts;
      }) (ap (λ (z : Address). Rattle.law_acts.specs.Histories.report_of z f.proposal s.history.pool) (sym y.reporter) ∙ put) in
      record { member_state = k; stands = a.stands; promise = x.0; waits = x.1 }

  pub ready : (w : WorldModel S) (n : ℕ) (v : View) → Keeps meaning laws w → (a : Asks w n v) → Ready w n a.member.address a.member_state a.flush
  ready w n v keeps a =
      let c = a.member.address in
      let l = a.member_state in
      let f = a.flush in
      let k = node-is w n a.member keeps a.node_state in
      let lives = ((MembersAtNodes.is-here meaning laws w.node_states w.history n a.member keeps a.node_state k.0).alive l a.state).member_state in
      let flushing = lives.flushing f a.runs in
      let inside : is_some l.view_state ≡ true = flushing.inside in
      let stands : Stands meaning w c l =
      record { member = a.member; node_state = ap (λ (z : ℕ). w.node_states z) k.0 ∙ a.node_state; address = refl; group = k.1; member_state = a.state; connected = is-connected l inside } in
      record {
        node = k.0;
        flushing = flushing;
        connected = inside;
        flushes = record {
          keeps = keeps;
          stands = stands;
          flush = a.runs;
          follows = λ q listed other.
              let y = follower w (proposed f) q keeps (all-by (λ z. would_follow (proposed f) z (w.node_states z.node)) f.members q a.all listed) in
              by q (stands_in q (awaited_by f)) refl y (λ reported. has-promised w c q l f keeps stands a.runs reported other y) listed;
        };
      }
    where
      by : (q : Address) (b : Bool) → stands_in q (awaited_by a.flush) ≡ b → Accepts meaning laws w (proposed a.flush) q
          → (has_reported q a.flush.reports ≡ true → Awaits meaning laws w (proposed a.flush) q) → stands_in q a.flush.members ≡ true
          → MatchBool b (Accepts meaning laws w (proposed a.flush) q) (Awaits meaning laws w (proposed a.flush) q)
      by q true e y more listed = y
      by q false e y more listed = more (reported-else a.flush.reports a.flush.members q listed e)

  -- ---- so many packets were put out

  pub so-many : (xs ys : List (List ℕ)) (posted : List Posted) → xs ≡ ys ++ bytes_for world_group posted → length xs - length ys ≡ length posted
  so-many xs ys posted e =
      let l : length xs ≡ length ys + length (bytes_for world_group posted) = ap length e ∙ length-append ys (bytes_for world_group posted) in
      let m : length (bytes_for world_group posted) ≡ length posted = length-map (map (spelled world_group) posted) bytes_of ∙ length-map posted (spelled world_group) in
      omega (arith, l, m)

  abbrev nexts : (xs ys : List (List ℕ)) (posted : List Posted) → Type 0
  nexts xs ys posted = AreNext (length ys) posted xs

  pub are-next : (xs ys : List (List ℕ)) (posted : List Posted) → xs ≡ ys ++ bytes_for world_group posted → nexts xs ys posted
  are-next xs ys posted e = subst (AreNext (length ys) posted) (sym e) (put-next ys posted)

  foreign-of : (c : Address) (members : List Address) (reports : List (Address × Report)) → AllByRecursion (λ q. (stands_in q members ≡ true) × (same_address q c ≡ false)) (senders meaning laws reports)
      → StageOfReports.AreForeign meaning laws c reports
  foreign-of c members [] x = tt
  foreign-of c members (y ∷ reports) x = (x.0.1, foreign-of c members reports x.1)

  begun-by : (c : Address) (m : MemberModel S) (l : MemberState S) (s : NodeState S) → s ≡ Running m → m.address ≡ c → m.member_state ≡ Some l → begun_in s ≡ begun_by c l
  begun-by c m l s there address state =
      ap begun_in there ∙ ap (λ (o : Option (MemberState S)). option_map_or (λ k. option_map_or (λ f. length (others_of m.address f.members)) k.flush 0) o 0) state
      ∙ ap (λ (p : Address). option_map_or (λ f. length (others_of p f.members)) l.flush 0) address

  -- ---- the stages

  -- by the tick
  pub after-tick : (old new : WorldModel S) (n : ℕ) (c : Address) (l : MemberState S) (f : FlushModel) → Ready old n c l f → (x : StageOfFlushes.Announced meaning laws old new c l f) → Keeps meaning laws new
      → StageOfFlushes.Flushes meaning laws new c l f (awaited_by f)
  after-tick old new n c l f r x keeps = record {
    keeps = keeps;
    stands = x.stands;
    flush = r.flushes.flush;
    follows = λ q listed other.
        StageOfFlushes.match-map meaning laws (stands_in q (awaited_by f)) (r.flushes.follows q listed other)
        (λ z. StageOfFlushes.accepts-still meaning laws old new (proposed f) c q z (Standing.nodes-apart meaning old c q l z.member_state r.flushes.stands z.stands other) x.others)
        (λ z. StageOfFlushes.awaits-still meaning laws old new (proposed f) c q z (Standing.nodes-apart meaning old c q l z.member_state r.flushes.stands z.stands other) x.others);
  }

  own-out : (c : Address) (f : FlushModel) (test : Address → Bool) → test c ≡ false → AreOthers meaning laws c (proposed f) (filter test f.members)
  own-out c f test none = part-others test c f.members f.members none (λ q there. there)

  -- how all others wait when the proposal's creator has gone in
  entering : (before : List (List ℕ)) (w : WorldModel S) (c : Address) (v : View) → (x : StageOfReports.Finished meaning laws before w c v) → Entering meaning laws w c x.flush (others_of c x.flush.members)
  entering before w c v x = record {
    keeps = x.keeps;
    first = record { member_state = x.member_state; stands = x.stands; inside = x.inside ∙ ap Some (sym x.same) };
    each = λ q listed other.
        let waits = x.others q (ap (λ (u : View). stands_in q u.members) (sym x.same) ∙ listed) other in
        let here : stands_in q (others_of c x.flush.members) ≡ true = others-there c q x.flush.members listed other in
        subst (λ (b : Bool). MatchBool b (StageOfReports.Waits meaning laws w (proposed x.flush) q (previous_of q x.flush)) (Inside meaning laws w (proposed x.flush) q)) (sym here)
        (subst (λ (u : View). StageOfReports.Waits meaning laws w u q (previous_of q x.flush)) (sym x.same) waits);
  }

  -- what is said of one who is in the view
  pub inside-says : (w : WorldModel S) (v : View) (q : Address) → Keeps meaning laws w → Inside meaning laws w v q → (running q.node w.history.trace ≡ Some q) × (current_view q w.history.trace ≡ Some v.id)
  inside-says w v q keeps x =
      let m = x.stands.member in
      let r = MembersAtNodes.running-here meaning laws w.node_states w.history q.node m keeps x.stands.node_state in
      let core : core_at m.address x.member_state ≡ r.0 = same_Some _ r.0 (sym (ap (Rattle.std.specs.Option.option_map (core_at m.address)) x.stands.member_state) ∙ r.1.core) in (
        MembersAtNodes.is-running meaning w.history q.node m r.0 r.1 ∙ ap Some x.stands.address,
        subst (λ (p : Address). current_view p w.history.trace ≡ Some v.id) x.stands.address
            (MembersAtNodes.view-is meaning w.history q.node m r.0 r.1 (Some v) (ap (λ (d : Rattle.law_acts.specs.Cores.Core S). d.view) (sym core) ∙ x.inside)),
      )

  -- ---- all of it

  -- the FLUSHes are next
  pub record ToFlush (old announced : WorldModel S) (c : Address) (l : MemberState S) (f : FlushModel) : Type 0 where
    pub flushes : StageOfFlushes.Flushes meaning laws announced c l f (awaited_by f)
    pub distinct : is_distinct (awaited_by f) ≡ true
    pub others : AreOthers meaning laws c (proposed f) (awaited_by f)
    pub sound : EachSound world_group (proposes_again c f)
    pub next : AreNext (length old.history.pool) (proposes_again c f) announced.history.pool
    pub many : length announced.history.pool - length old.history.pool ≡ length (proposes_again c f)

  awaited-distinct : (c : Address) (l : MemberState S) (f : FlushModel) → IsFlushing c l f → is_distinct (awaited_by f) ≡ true
  awaited-distinct c l f x = distinct-part (λ m. not (has_reported m f.reports)) f.members (distinct-view f.proposal f.members x.list)

  awaited-others : (c : Address) (l : MemberState S) (f : FlushModel) → IsFlushing c l f → AreOthers meaning laws c (proposed f) (awaited_by f)
  awaited-others c l f x = own-out c f (λ m. not (has_reported m f.reports)) (ap not x.reported)

  pub to-flush : (old announced : WorldModel S) (n : ℕ) (c : Address) (l : MemberState S) (f : FlushModel) → Ready old n c l f → StageOfFlushes.Announced meaning laws old announced c l f
      → Keeps meaning laws announced → ToFlush old announced c l f
  to-flush old announced n c l f r x keeps = record {
    flushes = after-tick old announced n c l f r x keeps;
    distinct = awaited-distinct c l f r.flushing;
    others = awaited-others c l f r.flushing;
    sound = x.sound;
    next = are-next announced.history.pool old.history.pool (proposes_again c f) x.puts;
    many = so-many announced.history.pool old.history.pool (proposes_again c f) x.puts;
  }

  -- by the FLUSHes
  pub after-flushes : (old announced reported : WorldModel S) (c : Address) (l : MemberState S) (f : FlushModel) → f.proposal.creator ≡ c → ToFlush old announced c l f
      → DeliversPast meaning (length old.history.pool) announced reported → StageOfFlushes.AllAnswered meaning laws announced reported c l f (awaited_by f)
  after-flushes old announced reported c l f own x all =
      StageOfFlushes.all-answer meaning laws (awaited_by f) (length old.history.pool) announced reported c l f x.flushes own x.distinct x.others x.sound x.next
      (subst (λ (k : ℕ). Delivers meaning (length old.history.pool) k announced reported) x.many all)

  -- the REPORTs are next
  pub record ToReport (announced reported : WorldModel S) (c : Address) (l : MemberState S) (f : FlushModel) : Type 0 where
    pub view : ViewState
    pub one : Address × Report
    pub more : List (Address × Report)
    pub gathers : StageOfReports.Gathers meaning laws reported c l f view (senders meaning laws (one ∷ more))
    pub distinct : is_distinct (senders meaning laws (one ∷ more)) ≡ true
    pub foreign : StageOfReports.AreForeign meaning laws c (one ∷ more)
    pub sound : EachSound world_group (report_packets meaning laws c f.proposal (one ∷ more))
    pub next : AreNext (length announced.history.pool) (report_packets meaning laws c f.proposal (one ∷ more)) reported.history.pool
    pub many : length reported.history.pool - length announced.history.pool ≡ length (report_packets meaning laws c f.proposal (one ∷ more))

  pub to-report : (announced reported : WorldModel S) (c : Address) (l : MemberState S) (f : FlushModel) → IsFlushing c l f → is_complete f ≡ false
      → StageOfFlushes.AllAnswered meaning laws announced reported c l f (awaited_by f) → ToReport announced reported c l f
  to-report announced reported c l f flushing open_still y = by y.reports refl
    where
      by : (reports : List (Address × Report)) → y.reports ≡ reports → ToReport announced reported c l f
      by [] e =
          absurd (let n : true ≡ false = sym (complete-at-last f (sym y.whose ∙ ap (λ (z : List (Address × Report)). map (λ x. x.0) z) e)) ∙ open_still in cc)
      by (x ∷ xs) e =
          let whose : senders meaning laws (x ∷ xs) ≡ awaited_by f = sym (ap (λ (z : List (Address × Report)). map (λ u. u.0) z) e) ∙ y.whose in
          let posted = report_packets meaning laws c f.proposal (x ∷ xs) in
          let puts : reported.history.pool ≡ announced.history.pool ++ bytes_for world_group posted =
          y.puts ∙ ap (λ (z : List (Address × Report)). announced.history.pool ++ bytes_for world_group (report_packets meaning laws c f.proposal z)) e in
          let t = found l.view_state flushing.inside in
          record {
            view = t.0;
            one = x;
            more = xs;
            gathers = record {
              keeps = y.flushes.keeps;
              stands = y.flushes.stands;
              flush = y.flushes.flush;
              view = t.1;
              awaited = sym whose;
              awaits = λ q listed other. y.flushes.follows q listed other;
            };
            distinct = ap is_distinct whose ∙ awaited-distinct c l f flushing;
            foreign = foreign-of c f.members (x ∷ xs) (subst (AreOthers meaning laws c (proposed f)) (sym whose) (awaited-others c l f flushing));
            sound = subst (λ (z : List (Address × Report)). EachSound world_group (report_packets meaning laws c f.proposal z)) e y.sound;
            next = are-next reported.history.pool announced.history.pool posted puts;
            many = so-many reported.history.pool announced.history.pool posted puts;
          }

  -- by the REPORTs
  pub after-reports : (announced reported instructed : WorldModel S) (c : Address) (l : MemberState S) (f : FlushModel) → f.proposal.creator ≡ c → ToReport announced reported c l f
      → DeliversPast meaning (length announced.history.pool) reported instructed → StageOfReports.Finished meaning laws reported.history.pool instructed c (proposed f)
  after-reports announced reported instructed c l f own x all =
      StageOfReports.all-report meaning laws x.more x.one (length announced.history.pool) reported instructed c l f x.view x.gathers own x.distinct x.foreign x.sound x.next
      (subst (λ (k : ℕ). Delivers meaning (length announced.history.pool) k reported instructed) x.many all)

  -- the STATEs and INSTALLs are next
  pub record ToInstall (before : List (List ℕ)) (instructed : WorldModel S) (n : ℕ) (c : Address) (f : FlushModel) (u : ViewId) (given : Option (List ℕ)) : Type 0 where
    pub entering : Entering meaning laws instructed c f (others_of c f.members)
    pub own : f.proposal.creator ≡ c
    pub distinct : is_distinct (others_of c f.members) ≡ true
    pub listed : AllByRecursion (λ q. (stands_in q f.members ≡ true) × (same_address q c ≡ false)) (others_of c f.members)
    pub sound : EachSound world_group (StageOfInstalls.all_packets meaning laws c f u given (others_of c f.members))
    pub next : AreNext (length before) (StageOfInstalls.all_packets meaning laws c f u given (others_of c f.members)) instructed.history.pool
    pub many : length instructed.history.pool - length before - begun_in (instructed.node_states n) ≡ length (StageOfInstalls.all_packets meaning laws c f u given (others_of c f.members))

  pub to-install : (before : List (List ℕ)) (instructed : WorldModel S) (n : ℕ) (c : Address) (f : FlushModel) → c.node ≡ n → f.proposal.creator ≡ c → view_refusal f.proposal f.members ≡ None
      → (x : StageOfReports.Finished meaning laws before instructed c (proposed f)) → ToInstall before instructed n c x.flush (view_of x.previous).id x.given
  to-install before instructed n c f node own list x =
      let g = x.flush in
      let mine = finish_packets c g x.previous x.given in
      let members : g.members ≡ f.members = ap (λ (v : View). v.members) x.same in
      let ids : g.proposal ≡ f.proposal = ap (λ (v : View). v.id) x.same in
      let begun : begun_in (instructed.node_states n) ≡ begun_by c x.member_state =
      begun-by c x.stands.member x.member_state (instructed.node_states n) (ap (λ (k : ℕ). instructed.node_states k) (sym node) ∙ x.stands.node_state) x.stands.address x.stands.member_state in
      let total : length instructed.history.pool - length before ≡ length mine + length x.more = so-many instructed.history.pool before (mine ++ x.more) x.puts ∙ length-append mine x.more in
      let few = x.few in
      record {
        entering = entering before instructed c (proposed f) x;
        own = ap (λ (v : ViewId). v.creator) ids ∙ own;
        distinct = distinct-part (λ q. not (same_address q c)) g.members (ap is_distinct members ∙ distinct-view f.proposal f.members list);
        listed = part-others (λ q. not (same_address q c)) c g.members g.members (ap not (same_address-refl c)) (λ q there. there);
        sound = StageOfInstalls.all-front meaning laws _ mine x.more x.sound;
        next = StageOfInstalls.next-front meaning laws (length before) mine x.more instructed.history.pool (are-next instructed.history.pool before (mine ++ x.more) x.puts);
        many = omega (arith, total, begun, few);
      }

  -- by the STATEs and INSTALLs
  pub after-installs : (before : List (List ℕ)) (instructed new : WorldModel S) (n : ℕ) (c : Address) (f : FlushModel) (u : ViewId) (given : Option (List ℕ)) → ToInstall before instructed n c f u given
      → Delivers meaning (length before) (length instructed.history.pool - length before - begun_in (instructed.node_states n)) instructed new → Entering meaning laws new c f []
  after-installs before instructed new n c f u given x all =
      StageOfInstalls.all-in meaning laws (others_of c f.members) (length before) instructed new c f u given x.entering x.own x.distinct x.listed x.sound x.next
      (subst (λ (k : ℕ). Delivers meaning (length before) k instructed new) x.many all)

  -- ---- the stages, one after another

  module _ (old : WorldModel S) (n : ℕ) (v : View) (keeps : Keeps meaning laws old) (a : Asks old n v) where
    abbrev pub creator : Address
    creator = a.member.address

    pub prepared : Ready old n creator a.member_state a.flush
    prepared = ready old n v keeps a

    ticks-there : (announced : WorldModel S) → Plays meaning old (Tick n) announced → Plays meaning old (Tick creator.node) announced
    ticks-there announced plays = subst (λ (k : ℕ). Plays meaning old (Tick k) announced) (sym prepared.node) plays

    pub by-tick : (announced : WorldModel S) → Plays meaning old (Tick n) announced → StageOfFlushes.Announced meaning laws old announced creator a.member_state a.flush
    by-tick announced plays =
        let r = prepared in
        let p = ticks-there announced plays in
        let t = sure (lacks_memory p.step.answer) p.whole (Standing.ticked meaning old announced creator a.member_state r.flushes.stands p.step) in
        StageOfFlushes.announced meaning laws old announced creator a.member_state a.flush r.flushes.stands r.connected r.flushing.waiting a.runs t

    pub flushing-next : (announced : WorldModel S) → Plays meaning old (Tick n) announced → ToFlush old announced creator a.member_state a.flush
    flushing-next announced plays =
        to-flush old announced n creator a.member_state a.flush prepared (by-tick announced plays) (KeepOfWorlds.step-keeps meaning laws old announced (Tick n) plays.step keeps)

    pub all-answered : (announced reported : WorldModel S) → Plays meaning old (Tick n) announced → DeliversPast meaning (length old.history.pool) announced reported
        → StageOfFlushes.AllAnswered meaning laws announced reported creator a.member_state a.flush (awaited_by a.flush)
    all-answered announced reported plays flushes = after-flushes old announced reported creator a.member_state a.flush prepared.flushing.own (flushing-next announced plays) flushes

    pub reporting-next : (announced reported : WorldModel S) → Plays meaning old (Tick n) announced → DeliversPast meaning (length old.history.pool) announced reported
        → ToReport announced reported creator a.member_state a.flush
    reporting-next announced reported plays flushes =
        to-report announced reported creator a.member_state a.flush prepared.flushing a.awaits (all-answered announced reported plays flushes)

    pub finishes : (announced reported instructed : WorldModel S) → Plays meaning old (Tick n) announced → DeliversPast meaning (length old.history.pool) announced reported
        → DeliversPast meaning (length announced.history.pool) reported instructed → StageOfReports.Finished meaning laws reported.history.pool instructed creator (proposed a.flush)
    finishes announced reported instructed plays flushes reports =
        after-reports announced reported instructed creator a.member_state a.flush prepared.flushing.own (reporting-next announced reported plays flushes) reports

    pub installing-next : (announced reported instructed : WorldModel S) (plays : Plays meaning old (Tick n) announced) (flushes : DeliversPast meaning (length old.history.pool) announced reported)
        (reports : DeliversPast meaning (length announced.history.pool) reported instructed) → let e = finishes announced reported instructed plays flushes reports in
        ToInstall reported.history.pool instructed n creator e.flush (view_of e.previous).id e.given
    installing-next announced reported instructed plays flushes reports =
        to-install reported.history.pool instructed n creator a.flush prepared.node prepared.flushing.own prepared.flushing.list (finishes announced reported instructed plays flushes reports)

  -- A CHANGE OF VIEW COMPLETES
  pub settled : (old new : WorldModel S) (n : ℕ) (v : View) → Keeps meaning laws old → settling_at old.node_states n ≡ Some v → Settles meaning n old new → IsSettled v new.history.trace
  settled old new n v keeps at x =
      let a = asks old n v at in
      let e = finishes old n v keeps a x.announced x.reported x.instructed x.ticks x.flushes x.reports in
      let i = after-installs x.reported.history.pool x.instructed new n a.member.address e.flush (view_of e.previous).id e.given
      (installing-next old n v keeps a x.announced x.reported x.instructed x.ticks x.flushes x.reports) x.installs in
      λ q listed. by a.member.address e.flush v i (e.same ∙ a.is) q (same_address q a.member.address) refl listed
    where
      by : (c : Address) (g : FlushModel) (v : View) → Entering meaning laws new c g [] → proposed g ≡ v → (q : Address) (b : Bool) → same_address q c ≡ b → stands_in q v.members ≡ true
          → (running q.node new.history.trace ≡ Some q) × (current_view q new.history.trace ≡ Some v.id)
      by c g v i same q true e listed =
          subst (λ (p : Address). (running p.node new.history.trace ≡ Some p) × (current_view p new.history.trace ≡ Some v.id)) (sym (same_address-true q c e))
          (inside-says new v c i.keeps (subst (λ (u : View). Inside meaning laws new u c) same i.first))
      by c g v i same q false e listed =
          inside-says new v q i.keeps (subst (λ (u : View). Inside meaning laws new u q) same (i.each q (ap (λ (u : View). stands_in q u.members) same ∙ listed) e))

  -- ---- how many events it has

  pub adds : (old new : WorldModel S) (e : WorldEvent) → Plays meaning old e new → length new.history.events ≡ length old.history.events + 1
  adds old new e p = ap (λ (h : History). length h.events) p.step.goes_on ∙ length-append old.history.events (e ∷ [])

  pub adds-all : (past k : ℕ) (old new : WorldModel S) → Delivers meaning past k old new → length new.history.events ≡ length old.history.events + k
  adds-all _ _ old _ (Still past w) = omega arith
  adds-all _ _ _ _ (Next past count old mid new p rest) =
      let a = adds old mid (Deliver (past + 1)) p in
      let b = adds-all (past + 1) count mid new rest in
      omega (arith, a, b)

  all-few : (c : Address) (f : FlushModel) (u : ViewId) (given : Option (List ℕ)) → IfSome (kept_of given) (λ bytes. IsTotal (length bytes)) → (qs : List Address)
      → length (StageOfInstalls.all_packets meaning laws c f u given qs) ≤ 33 * length qs
  all-few c f u given total [] = omega arith
  all-few c f u given total (q ∷ qs) =
      let i = instruction_to f u given q in
      let bytes = unwrap_or given [] in
      let n = chunks_said i.state bytes in
      let m = packet c (bodies.Install i) q in
      let rest = StageOfInstalls.all_packets meaning laws c f u given qs in
      let mine = chunk_packets c q f.proposal bytes i.state in
      let few : n ≤ 32 = chunks-few given (option_eq same_view_id (previous_of q f) (Some u)) total in
      let long : length mine ≡ n = ap length (said-so c q f.proposal bytes i.state) ∙ StageOfInstalls.long-of meaning laws c q f.proposal bytes 1 n in
      let one : length (mine ++ m ∷ []) ≡ length mine + 1 = length-append mine (m ∷ []) in
      let whole : length ((mine ++ m ∷ []) ++ rest) ≡ length (mine ++ m ∷ []) + length rest = length-append (mine ++ m ∷ []) rest in
      let later = all-few c f u given total qs in
      omega (arith, few, long, one, whole, later)

  -- AND IN A BOUNDED NUMBER OF EVENTS
  pub brief : (old new : WorldModel S) (n : ℕ) (v : View) → Keeps meaning laws old → settling_at old.node_states n ≡ Some v → Settles meaning n old new
      → length new.history.events ≤ length old.history.events + 526
  brief old new n v keeps at x =
      let a = asks old n v at in
      let c = a.member.address in
      let l = a.member_state in
      let f = a.flush in
      let r = prepared old n v keeps a in
      let y = by-tick old n v keeps a x.announced x.ticks in
      let z = all-answered old n v keeps a x.announced x.reported x.ticks x.flushes in
      let e = finishes old n v keeps a x.announced x.reported x.instructed x.ticks x.flushes x.reports in
      let g = e.flush in
      let mine = finish_packets c g e.previous e.given in
      let members : g.members ≡ f.members = ap (λ (w : View). w.members) e.same in
      let listed : stands_in c f.members ≡ true = ap (λ (p : Address). stands_in p f.members) (sym r.flushing.own) ∙ coordinator-in f.proposal f.members r.flushing.list in
      let sixteen = members-few f.proposal f.members r.flushing.list in
      let fewer = shorter (λ m. not (has_reported m f.reports)) c f.members (ap not r.flushing.reported) listed in
      let others = shorter (λ q. not (same_address q c)) c g.members (ap not (same_address-refl c)) (ap (stands_in c) members ∙ listed) in
      let as_many : length g.members ≡ length f.members = ap length members in
      let k1 : length x.announced.history.pool - length old.history.pool ≡ length (awaited_by f) =
      so-many x.announced.history.pool old.history.pool (proposes_again c f) y.puts ∙ length-map (awaited_by f) (packet c (bodies.Flush (proposed f))) in
      let k2 : length x.reported.history.pool - length x.announced.history.pool ≡ length (awaited_by f) =
      so-many x.reported.history.pool x.announced.history.pool (report_packets meaning laws c f.proposal z.reports) z.puts ∙ length-map z.reports (StageOfFlushes.report_packet c f.proposal)
      ∙ sym (length-map z.reports (λ u. u.0)) ∙ ap length z.whose in
      let begun : begun_in (x.instructed.node_states n) ≡ begun_by c e.member_state =
      begun-by c e.stands.member e.member_state (x.instructed.node_states n) (ap (λ (k : ℕ). x.instructed.node_states k) (sym r.node) ∙ e.stands.node_state) e.stands.address e.stands.member_state in
      let total : length x.instructed.history.pool - length x.reported.history.pool ≡ length mine + length e.more =
      so-many x.instructed.history.pool x.reported.history.pool (mine ++ e.more) e.puts ∙ length-append mine e.more in
      let few = e.few in
      let k3 : length x.instructed.history.pool - length x.reported.history.pool - begun_in (x.instructed.node_states n) ≡ length mine = omega (arith, total, begun, few) in
      let most = all-few c g (view_of e.previous).id e.given e.total (others_of c g.members) in
      let e1 = adds old x.announced (Tick n) x.ticks in
      let e2 = adds-all _ _ x.announced x.reported x.flushes in
      let e3 = adds-all _ _ x.reported x.instructed x.reports in
      let e4 = adds-all _ _ x.instructed new x.installs in
      count (length old.history.events) (length x.announced.history.events) (length x.reported.history.events) (length x.instructed.history.events) (length new.history.events)
      (length (awaited_by f)) (length mine) (length (others_of c g.members)) (length f.members) e1
      (e2 ∙ ap (λ (k : ℕ). length x.announced.history.events + k) k1) (e3 ∙ ap (λ (k : ℕ). length x.reported.history.events + k) k2) (e4 ∙ ap (λ (k : ℕ). length x.instructed.history.events + k) k3)
      fewer (subst (λ (k : ℕ). length (others_of c g.members) + 1 ≤ k) as_many others) sixteen most
    where
      count : (a b d e g k m o s : ℕ) → b ≡ a + 1 → d ≡ b + k → e ≡ d + k → g ≡ e + m → k + 1 ≤ s → o + 1 ≤ s → s ≤ MEMBERS → m ≤ 33 * o → g ≤ a + 526
      count a b d e g k m o s e1 e2 e3 e4 fewer others sixteen most = omega (arith, e1, e2, e3, e4, fewer, others, sixteen, most)
